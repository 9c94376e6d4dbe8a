-- A log with the before-image of a place of the catalog where nothing is, by a unit that has logged
-- nothing before: its before-images, those that are left once the unit has ended, and the state in
-- which they are the ones that units logged.
use Rattle.std.proofs.Common.{◌≡◌, ◌≢◌, inr, ◌+◌, ℕ, Bool, true, false, cond, not}
use Rattle.std.proofs.Common.{List, [], ◌∷◌, ◌++◌, Option, Some, None, refl, sym, ap, subst, ◌∙◌}
use Rattle.std.proofs.Common.{filter, map, ◌||◌}
use Rattle.std.specs.Prelude.{All}
use Rattle.std.specs.List.{cons_option, filter_map}
use Rattle.std.specs.Option.{option_or}
use Rattle.std.proofs.lemmas.List.{append-nil, map-append}
use Rattle.std.proofs.lemmas.List.Elements.{All-append, All-cons, All-head, All-nil, All-tail}
use Rattle.std.proofs.lemmas.List.Elements.{filter-append}
use Rattle.vr_types.specs.Content.{item_at}
use Rattle.vr_types.specs.Locks.{same_unit}
use Rattle.vr_types.specs.declared.geometry.Geometry.{Geometry}
use Rattle.vr_types.specs.declared.unit.PartNo.{PartNo}
use Rattle.vr_types.specs.declared.unit.Unit.{Unit as UnitOfRecovery}
use Rattle.vr_log.specs.Live.{is_in, live_after, live_in, need_of, used_by}
use Rattle.vr_log.specs.LogNow.{LogNow}
use Rattle.vr_log.specs.declared.record.EndKind.{EndKind}
use Rattle.vr_log.specs.declared.record.LogRecord.{LogRecord}
use Rattle.vr_log.specs.declared.record.LogRecord.TheVariants.{Before, End}
use Rattle.vr_history.specs.Effects.{is_other}
use Rattle.vr_history.specs.State.{BeforeImage, Logged, State}
use Rattle.vr_history.proofs.CallerLemmas.{unit_self}
use Rattle.vr_volume.specs.Committed.{HasLogged, IsCurrent, IsKeptIn, IsLaidState, IsPast}
use Rattle.vr_volume.specs.Committed.{has_commit, logged_of}
use Rattle.vr_volume.specs.Crashes.{IsUnlogged}
use Rattle.vr_volume.specs.Ended.{ended}
use Rattle.vr_volume.specs.Logged.{HasNoneOf}
use Rattle.vr_volume.specs.PutBack.{AreAlone, image_in, images_of, is_image_of, oldest, standing_of}
use Rattle.vr_volume.proofs.Alone.{alone-append, is-own, is-there}
use Rattle.vr_volume.proofs.Committing.{all-map, commit-append, past-none}
use Rattle.vr_volume.proofs.Crashing.{unlogged-none}
use Rattle.vr_volume.proofs.Ending.{logged-filter}
use Rattle.vr_volume.proofs.Images.{image_of, images-append, in-last, live-append, oldest-append}
use Rattle.vr_volume.proofs.Living.{left-images, same-flip}
use Rattle.vr_volume.proofs.Meeting.{found-has}
use Rattle.vr_volume.proofs.Moving.{live-with, used-append}

some-none : {X : Type 0} {x : X} → Some x ≡ None → ⊥
some-none same = cc

none-some : {X : Type 0} {x : X} → None ≡ Some x → ⊥
none-some same = cc

-- ---- lists

filter-whole : (keeps : BeforeImage → Bool) (images : List BeforeImage)
    → All (λ (image : BeforeImage). keeps image ≡ true) images → filter keeps images ≡ images
filter-whole keeps [] all = refl
filter-whole keeps (image ∷ images) all =
    ap (λ (b : Bool). cond b (image ∷ filter keeps images) (filter keeps images))
    (All-head (λ (i : BeforeImage). keeps i ≡ true) image images all)
    ∙ ap (λ (further : List BeforeImage). image ∷ further) (filter-whole keeps images
    (All-tail (λ (i : BeforeImage). keeps i ≡ true) image images all))

-- each image of places that have one is found at its place
found-own : (images : List BeforeImage) → AreAlone images
    → All (λ (image : BeforeImage). oldest images image.part image.place ≡ Some image) images
found-own [] alone =
    All-nil (λ (image : BeforeImage). oldest [] image.part image.place ≡ Some image)
found-own (first ∷ images) alone = All-cons
    (λ (image : BeforeImage). oldest (first ∷ images) image.part image.place ≡ Some image) first
    images
    (ap (λ (b : Bool). cond b (Some first) (oldest images first.part first.place)) (is-own first))
    (all-map (λ (image : BeforeImage). oldest images image.part image.place ≡ Some image)
    (λ (image : BeforeImage). oldest (first ∷ images) image.part image.place ≡ Some image)
    (λ image is. by_first image is (is_image_of image.part image.place first) refl) images
    (found-own images alone.1))
  where
    by_first : (image : BeforeImage) → oldest images image.part image.place ≡ Some image
        → (here : Bool) → is_image_of image.part image.place first ≡ here
        → cond here (Some first) (oldest images image.part image.place) ≡ Some image
    by_first image is true here =
        let there = is-there image.part image.place first here in
        absurd (some-none (sym is ∙ ap (λ (p : ℕ). oldest images p image.place) (sym there.0)
        ∙ ap (oldest images first.part) there.1 ∙ alone.0))
    by_first image is false here = is

-- ---- a unit that has logged nothing

is-other : (unit other : UnitOfRecovery) → same_unit other unit ≡ false
    → is_other unit other ≡ true
is-other unit other apart = ap not (same-flip unit other ∙ apart)

-- the images of a log that has none of a unit are of others
none-in : (unit : UnitOfRecovery) (live : List UnitOfRecovery) (records : List LogRecord)
    → HasNoneOf unit records
    → All (λ (image : BeforeImage). is_other unit image.unit ≡ true)
    (filter_map (image_in live) records)
none-in unit live [] none = All-nil (λ (image : BeforeImage). is_other unit image.unit ≡ true)
none-in unit live (End other kind ∷ records) none = none-in unit live records none
none-in unit live (Before other part place old ∷ records) none =
    by_live (is_in other live) (none-in unit live records none.1)
  where
    by_live : (there : Bool)
        → All (λ (image : BeforeImage). is_other unit image.unit ≡ true)
        (filter_map (image_in live) records)
        → All (λ (image : BeforeImage). is_other unit image.unit ≡ true)
        (cons_option (cond there (Some (image_of other part place old)) None)
        (filter_map (image_in live) records))
    by_live true further = All-cons (λ (image : BeforeImage). is_other unit image.unit ≡ true)
        (image_of other part place old) (filter_map (image_in live) records)
        (is-other unit other none.0) further
    by_live false further = further

-- the number of the catalog
abbrev pub catalog_no : PartNo
catalog_no = record { 0 = 0 }

-- the before-image of a place of it where nothing is
abbrev pub begun : UnitOfRecovery → List ℕ → LogRecord
begun unit place = Before unit catalog_no place None

abbrev pub image_begun : UnitOfRecovery → List ℕ → BeforeImage
image_begun unit place = image_of unit catalog_no place None

-- the state in which the unit has logged it, and keeps nothing
abbrev pub state_begun : State → UnitOfRecovery → List ℕ → ℕ → State
state_begun old unit place need = record old {
  logged = old.logged ++ logged_of (image_begun unit place) ∷ [];
  used = old.used + need;
}

-- the unit is live with it
pub live-begun : (records : List LogRecord) (unit : UnitOfRecovery) (part : PartNo)
    (place : List ℕ) (old : Option (List ℕ))
    → is_in unit (live_in (records ++ Before unit part place old ∷ [])) ≡ true
unfolding live_after
live-begun records unit part place old =
    ap (is_in unit) (live-append [] records (Before unit part place old))
    ∙ by_live (is_in unit (live_in records)) refl
  where
    by_live : (there : Bool) → is_in unit (live_in records) ≡ there
        → is_in unit (cond there (live_in records) (live_in records ++ unit ∷ [])) ≡ true
    by_live true is = is
    by_live false is = in-last unit (live_in records) (unit_self unit)

module _ (geometry : Geometry) (old : State) (laid : IsLaidState geometry old) (log : LogNow)
    (logged : HasLogged log old) (unit : UnitOfRecovery) (place : List ℕ)
    (current : IsCurrent old.numbers unit) (idle : HasNoneOf unit log.records)
    (unlogged : IsUnlogged old 0 place) where
  -- no image is of the place, and none is of the unit
  pub free-begun : oldest (images_of log.records) 0 place ≡ None
  free-begun = unlogged-none (images_of log.records) 0 place
      (subst (All (λ (l : Logged). l.part ≡ 0 → l.place ≢ place)) (sym logged.logged) unlogged)

  others-of : All (λ (image : BeforeImage). is_other unit image.unit ≡ true)
      (images_of log.records)
  others-of = none-in unit (live_in log.records) log.records idle

  pub others-kept : All (λ (image : BeforeImage). is_other unit image.unit ≡ true) old.befores
  others-kept = all-map
      (λ (image : BeforeImage). oldest old.befores image.part image.place ≡ Some image)
      (λ (image : BeforeImage). is_other unit image.unit ≡ true)
      (λ image is. found-has (λ (i : BeforeImage). is_other unit i.unit ≡ true)
      (is_image_of image.part image.place) (images_of log.records) image others-of
      (logged.kept image.part image.place image is)) old.befores (found-own old.befores logged.once)

  abbrev keeps : BeforeImage → Bool
  keeps image = is_other unit image.unit

  pub whole-kept : filter keeps old.befores ≡ old.befores
  whole-kept = filter-whole keeps old.befores others-kept

  -- of the images with the one more the unit leaves those that there were
  left-begun : filter keeps (images_of log.records ++ image_begun unit place ∷ [])
      ≡ images_of log.records
  left-begun = filter-append keeps (images_of log.records) (image_begun unit place ∷ [])
      ∙ ap (λ (images : List BeforeImage). filter keeps (images_of log.records) ++ images) gone
      ∙ append-nil (filter keeps (images_of log.records))
      ∙ filter-whole keeps (images_of log.records) others-of
    where
      gone : filter keeps (image_begun unit place ∷ []) ≡ []
      gone = ap (λ (b : Bool). cond (not b) (image_begun unit place ∷ []) []) (unit_self unit)

  -- what was logged before is left once the unit has ended
  pub logged-over : (need : ℕ)
      → filter (λ (l : Logged). is_other unit l.unit) (state_begun old unit place need).logged
      ≡ old.logged
  logged-over need = ap (filter (λ (l : Logged). is_other unit l.unit))
      (ap (λ (ls : List Logged). ls ++ logged_of (image_begun unit place) ∷ [])
      (sym logged.logged)
      ∙ sym (map-append logged_of (images_of log.records) (image_begun unit place ∷ [])))
      ∙ sym (logged-filter unit (images_of log.records ++ image_begun unit place ∷ []))
      ∙ ap (map logged_of) left-begun ∙ logged.logged

  module _ (more : LogNow) (grown : more.records ≡ log.records ++ begun unit place ∷ []) where
    pub images-begun : images_of more.records ≡ images_of log.records ++ image_begun unit place ∷ []
    images-begun = ap images_of grown
        ∙ images-append log.records unit catalog_no place None (unit_self unit) (inr idle)

    pub images-over : (kind : EndKind) → images_of (ended more unit kind) ≡ images_of log.records
    images-over kind = left-images more.records unit kind ∙ ap (filter keeps) images-begun
        ∙ left-begun

    -- nor has it a commit of the unit, until the unit ends
    pub uncommitted : has_commit more.records unit ≡ false
    uncommitted = ap (λ (records : List LogRecord). has_commit records unit) grown
        ∙ commit-append log.records (begun unit place) unit
        ∙ or-false (has_commit log.records unit)
        ∙ past-none old.numbers unit log.records logged.ended current
      where
        or-false : (b : Bool) → (b || false) ≡ b
        or-false true = refl
        or-false false = refl

    -- ---- the state in which the unit has logged it

    module _ (need : ℕ) (needs : need ≡ need_of (live_in log.records) (begun unit place))
        (absent : item_at (old.contents 0) place ≡ None) where
      oldest-begun : (part : ℕ) (at : List ℕ) → oldest (images_of more.records) part at
          ≡ option_or (oldest (images_of log.records) part at)
          (cond (is_image_of part at (image_begun unit place)) (Some (image_begun unit place)) None)
      oldest-begun part at = ap (λ (images : List BeforeImage). oldest images part at) images-begun
          ∙ oldest-append (images_of log.records) (image_begun unit place) part at

      back-begun : (part : ℕ) (at : List ℕ) (image : BeforeImage)
          → oldest (images_of more.records) part at ≡ Some image
          → oldest old.befores part at ≡ None
          → image.old ≡ standing_of (item_at (old.contents part) at)
      back-begun part at image is none = by_log (oldest (images_of log.records) part at) refl
          (sym (oldest-begun part at) ∙ is)
        where
          by_here : (here : Bool) → is_image_of part at (image_begun unit place) ≡ here
              → cond here (Some (image_begun unit place)) None ≡ Some image
              → image.old ≡ standing_of (item_at (old.contents part) at)
          by_here true here same =
              let there = is-there part at (image_begun unit place) here in
              let it : image_begun unit place ≡ image = cc in
              ap (λ (i : BeforeImage). i.old) (sym it)
              ∙ sym (ap standing_of (ap (λ (p : ℕ). item_at (old.contents p) at) (sym there.0)
              ∙ ap (item_at (old.contents 0)) there.1 ∙ absent))
          by_here false here same = absurd (none-some same)

          by_log : (found : Option BeforeImage)
              → oldest (images_of log.records) part at ≡ found
              → option_or found (cond (is_image_of part at (image_begun unit place))
              (Some (image_begun unit place)) None) ≡ Some image
              → image.old ≡ standing_of (item_at (old.contents part) at)
          by_log (Some first) there same = logged.back part at image (there ∙ same) none
          by_log None there same =
              by_here (is_image_of part at (image_begun unit place)) refl same

      pub logged-begun : HasLogged more (state_begun old unit place need)
      logged-begun = record {
        alone = subst AreAlone (sym images-begun)
            (alone-append (images_of log.records) (image_begun unit place) logged.alone free-begun);
        once = logged.once;
        kept = λ part at image is. oldest-begun part at
            ∙ ap (λ (found : Option BeforeImage). option_or found
            (cond (is_image_of part at (image_begun unit place)) (Some (image_begun unit place))
            None)) (logged.kept part at image is);
        back = back-begun;
        logged = ap (map logged_of) images-begun
            ∙ map-append logged_of (images_of log.records) (image_begun unit place ∷ [])
            ∙ ap (λ (ls : List Logged). ls ++ logged_of (image_begun unit place) ∷ [])
            logged.logged;
        live = λ other. ap (λ (records : List LogRecord). is_in other (live_in records)) grown
            ∙ live-with log.records old.logged unit catalog_no place None
            (logged_of (image_begun unit place)) refl logged.live other;
        used = ap used_by grown ∙ used-append log.records unit catalog_no place None
            ∙ ap (λ (n : ℕ). n + need_of (live_in log.records) (begun unit place)) logged.used
            ∙ ap (λ (n : ℕ). old.used + n) (sym needs);
        ended = subst (All (IsPast old.numbers)) (sym grown)
            (All-append (IsPast old.numbers) log.records (begun unit place ∷ []) logged.ended
            (All-cons (IsPast old.numbers) (begun unit place) [] tt
            (All-nil (IsPast old.numbers))));
        current = logged.current;
      }

      pub laid-begun : IsLaidState geometry (state_begun old unit place need)
      laid-begun = record {
        each = laid.each;
        catalog = laid.catalog;
        others = laid.others;
        kept = all-map (IsKeptIn geometry old) (IsKeptIn geometry (state_begun old unit place need))
            (λ image it. record {
              not_catalog = it.not_catalog;
              shape = it.shape;
              laid = it.laid;
              place = it.place;
            }) old.befores laid.kept;
      }
