-- What the images recover to that a crash leaves while an event goes on.
use Rattle.std.proofs.Common.{◌≡◌, ◌≢◌, ◌⊎◌, inl, inr, ⊎_elim, ℕ, Bool, true, false, cond, not}
use Rattle.std.proofs.Common.{◌||◌, ◌&&◌, List, [], ◌∷◌, ◌++◌, Option, Some, None, refl, sym, ap}
use Rattle.std.proofs.Common.{subst, ◌∙◌, map}
use Rattle.std.specs.Prelude.{All}
use Rattle.std.specs.Option.{option_map, option_or}
use Rattle.std.proofs.lemmas.List.Elements.{All-head, All-tail}
use Rattle.vr_types.specs.Content.{Content, Standing, Withdrawn, item_at}
use Rattle.vr_types.specs.Image.{Image}
use Rattle.vr_types.specs.Locks.{same_unit}
use Rattle.vr_types.specs.Seen.{Seen}
use Rattle.vr_types.specs.declared.geometry.Geometry.{Geometry}
use Rattle.vr_types.specs.declared.unit.PartNo.{PartNo}
use Rattle.vr_types.specs.declared.unit.Unit.{Unit as UnitOfRecovery}
use Rattle.vr_space.specs.Owners.{Owners}
use Rattle.vr_altkey.proofs.CallerLemmas.{same_items}
use Rattle.vr_log.specs.Content.{Content as LogContent}
use Rattle.vr_log.specs.LogNow.{IsLogOf, LogNow, with_record}
use Rattle.vr_log.specs.declared.record.EndKind.{EndKind}
use Rattle.vr_log.specs.declared.record.EndKind.TheVariants.{BackedOut, Committed}
use Rattle.vr_log.specs.declared.record.LogRecord.{LogRecord}
use Rattle.vr_log.specs.declared.record.LogRecord.TheVariants.{Before, End}
use Rattle.vr_history.specs.Committed.{kept_or}
use Rattle.vr_history.specs.Effects.{is_other}
use Rattle.vr_history.specs.State.{BeforeImage, Logged, State}
use Rattle.vr_history.proofs.CallerLemmas.{unit_self}
use Rattle.vr_volume.specs.Committed.{IsCurrent, committed_by, commits_unit, has_commit, kept_by}
use Rattle.vr_volume.specs.Committed.{logged_of}
use Rattle.vr_volume.specs.Crashes.{IsUnlogged, RecoversTo, committed_with, is_among, kept_but}
use Rattle.vr_volume.specs.PutBack.{images_of, is_image_of, oldest, put_back, standing}
use Rattle.vr_volume.specs.PutBack.{standing_of}
use Rattle.vr_volume.specs.Rests.{IsVolumeAtRest}
use Rattle.vr_volume.specs.Safe.{IsSafeImage}
use Rattle.vr_volume.specs.Volume.{RecoversItems}
use Rattle.vr_volume.proofs.Alone.{is-there}
use Rattle.vr_volume.proofs.Befores.{log-cases}
use Rattle.vr_volume.proofs.Committing.{commit-append, committed-ascends, item-now, none-ended}
use Rattle.vr_volume.proofs.Images.{image_of, images-append, oldest-append}
use Rattle.vr_volume.proofs.Living.{live-or-none}
use Rattle.vr_volume.proofs.Meeting.{filter-alone, find-none, image-record, images-ended, none-kept}
use Rattle.vr_volume.proofs.PuttingBack.{back-ascends, back-item, stands-back}
use Rattle.vr_volume.proofs.Recovering.{image_recovers}
use Rattle.vr_volume.proofs.Rested.{images-rest}
use Rattle.vr_volume.proofs.Resting.{rest-records}

or-false : (b : Bool) → (b || false) ≡ b
or-false true = refl
or-false false = refl

-- where no unit counts, each image is put back
pub kept-whole : (befores : List BeforeImage) → kept_but [] befores ≡ befores
kept-whole [] = refl
kept-whole (image ∷ befores) =
    ap (λ (images : List BeforeImage). image ∷ images) (kept-whole befores)

-- by a log that has the commits of the units that count, what counts is what is kept
kept-counted : (records : List LogRecord) (counted : List UnitOfRecovery)
    (befores : List BeforeImage)
    → All (λ (image : BeforeImage). has_commit records image.unit ≡ is_among counted image.unit)
    befores → kept_by records befores ≡ kept_but counted befores
kept-counted records counted [] same = refl
kept-counted records counted (image ∷ befores) same =
    ap (λ (b : Bool). cond (not b) (image ∷ kept_by records befores) (kept_by records befores))
    (All-head (λ (i : BeforeImage). has_commit records i.unit ≡ is_among counted i.unit) image
    befores same)
    ∙ ap (λ (images : List BeforeImage). cond (not (is_among counted image.unit))
    (image ∷ images) images)
    (kept-counted records counted befores
    (All-tail (λ (i : BeforeImage). has_commit records i.unit ≡ is_among counted i.unit) image
    befores same))

-- with the end of a unit, where the log has no commit of those that keep something
counted-end : (records : List LogRecord) (rec : LogRecord) (counted : List UnitOfRecovery)
    (befores : List BeforeImage)
    → ((unit : UnitOfRecovery) → commits_unit unit rec ≡ is_among counted unit)
    → All (λ (image : BeforeImage). has_commit records image.unit ≡ false) befores
    → kept_by (records ++ rec ∷ []) befores ≡ kept_but counted befores
counted-end records rec counted befores is none = kept-counted (records ++ rec ∷ []) counted befores
    (Rattle.vr_volume.proofs.Committing.all-map
    (λ (image : BeforeImage). has_commit records image.unit ≡ false)
    (λ (image : BeforeImage).
    has_commit (records ++ rec ∷ []) image.unit ≡ is_among counted image.unit)
    (λ image apart. commit-append records rec image.unit
    ∙ ap (λ (b : Bool). b || commits_unit image.unit rec) apart ∙ is image.unit) befores none)

-- ---- what was withdrawn

-- a place that no unit has logged has no before-image
pub unlogged-none : (images : List BeforeImage) (part : ℕ) (place : List ℕ)
    → All (λ (logged : Logged). logged.part ≡ part → logged.place ≢ place) (map logged_of images)
    → oldest images part place ≡ None
unlogged-none [] part place free = refl
unlogged-none (image ∷ images) part place free =
    by_first (is_image_of part place image) refl
    (unlogged-none images part place (All-tail
    (λ (logged : Logged). logged.part ≡ part → logged.place ≢ place) (logged_of image)
    (map logged_of images) free))
  where
    by_first : (here : Bool) → is_image_of part place image ≡ here
        → oldest images part place ≡ None
        → cond here (Some image) (oldest images part place) ≡ None
    by_first true is further =
        let there = is-there part place image is in
        absurd (All-head (λ (logged : Logged). logged.part ≡ part → logged.place ≢ place)
        (logged_of image) (map logged_of images) free there.0 (sym there.1))
    by_first false is further = further

-- a place with a record, or none, has nothing withdrawn
none-withdrawn : (bytes : Option (List ℕ)) (n : ℕ)
    → option_map Standing bytes ≡ Some (Withdrawn n) → ⊥
none-withdrawn None n is = cc
none-withdrawn (Some bytes) n is = cc

-- At each place that no unit has logged where something was withdrawn, these records of a log have
-- no before-image, and these contents have what was withdrawn.
abbrev pub HasWithdrawn : State → List LogRecord → (ℕ → Content) → Type 0
HasWithdrawn state records committed = (part : ℕ) (place : List ℕ) (n : ℕ)
    → IsUnlogged state part place → item_at (state.contents part) place ≡ Some (Withdrawn n)
    → (oldest (images_of records) part place ≡ None)
    × (item_at (committed part) place ≡ Some (Withdrawn n))

-- Where the committed contents have the records of the state and what was withdrawn, an image that
-- recovers to them recovers to what is committed in the state.
pub recovers-to : (geometry : Geometry) (number : ℕ) (image : Image) (log : LogContent)
    (committed : ℕ → Content) (state : State) (counted : List UnitOfRecovery)
    → RecoversItems geometry number log committed image
    → ((part : ℕ) → standing (committed part) ≡ committed_with counted state part)
    → HasWithdrawn state log.records committed → RecoversTo geometry number state counted image
recovers-to geometry number image log committed state counted it same keeps = record {
  recovers = record {
    log = it.recovers.log;
    contents = it.recovers.contents;
    stands = it.recovers.stands;
    inside = it.recovers.inside;
    images = it.recovers.images;
    alone = it.recovers.alone;
    room = it.recovers.room;
    back = λ part. sym (same part) ∙ it.recovers.back part;
  };
  withdrawn = λ part place n free is.
      let kept : (oldest (images_of log.records) part place ≡ None)
      × (item_at (committed part) place ≡ Some (Withdrawn n)) = keeps part place n free is in (
        ap (λ (l : LogContent). oldest (images_of l.records) part place) it.log_is ∙ kept.0,
        it.items part place kept.0 ∙ kept.1,
      );
}

-- ---- the images of a volume at rest

module _ (geometry : Geometry) (number : ℕ) (owners : Owners) (log : LogNow)
    (images : List BeforeImage) (state : State) (now : Seen)
    (rest : IsVolumeAtRest geometry number owners log images state now) where
  -- where no before-image is kept, none is put back
  without : (records : List LogRecord) (part : ℕ) (place : List ℕ)
      → oldest state.befores part place ≡ None
      → item_at (committed_by state records part) place ≡ item_at (state.contents part) place
  without records part place none =
      back-item part (kept_by records state.befores) (state.contents part) place
      ∙ ap (λ (found : Option BeforeImage). kept_or found (item_at (state.contents part) place))
      (find-none (is_image_of part place)
      (λ (i : BeforeImage). not (has_commit records i.unit)) state.befores none)

  -- by a log that there is, each place has the item of the state, or what is put back
  own-item : (content : LogContent) → IsLogOf log content → (part : ℕ) (place : List ℕ)
      → item_at (committed_by state content.records part) place
      ≡ kept_or (oldest state.befores part place) (item_at (state.contents part) place)
  own-item content is part place = ⊎_elim
      (λ same.
      ap (λ (records : List LogRecord). item_at (committed_by state records part) place) same
      ∙ item-now geometry state rest.laid log rest.logged part place)
      (λ empty.
      let none : oldest state.befores part place ≡ None =
      none-kept geometry state rest.laid log rest.logged rest.forced part place
      (ap (λ (records : List LogRecord). oldest (images_of records) part place) empty) in
      without content.records part place none
      ∙ sym (ap (λ (found : Option BeforeImage). kept_or found
      (item_at (state.contents part) place)) none))
      (rest-records log rest.forced rest.stands.behind content is)

  -- what is put back where these units count are records
  kept-records : (counted : List UnitOfRecovery) (part : ℕ) (place : List ℕ) (image : BeforeImage)
      → oldest (kept_but counted state.befores) part place ≡ Some image
      → standing_of image.old ≡ image.old
  kept-records counted part place image is = image-record log.records part place image
      (rest.logged.kept part place image
      (filter-alone (λ (i : BeforeImage). not (is_among counted i.unit)) part place state.befores
      image rest.logged.once is))

  -- so the records of what is committed with these units are these
  with-records : (counted : List UnitOfRecovery) (part : ℕ)
      → standing (put_back part (kept_but counted state.befores) (state.contents part))
      ≡ committed_with counted state part
  with-records counted part = stands-back part (kept_but counted state.befores)
      (state.contents part) (rest.laid.each part) (kept-records counted part)

  -- by a log that there is they are those where no unit counts,
  own-contents : (content : LogContent) → IsLogOf log content → (part : ℕ)
      → standing (committed_by state content.records part) ≡ committed_with [] state part
  own-contents content is part =
      ap standing (same_items (committed_by state content.records part)
      (put_back part (kept_but [] state.befores) (state.contents part))
      (committed-ascends geometry state rest.laid content.records part)
      (back-ascends part (kept_but [] state.befores) (state.contents part) (rest.laid.each part))
      (λ place. own-item content is part place
      ∙ sym (back-item part (kept_but [] state.befores) (state.contents part) place
      ∙ ap (λ (befores : List BeforeImage). kept_or (oldest befores part place)
      (item_at (state.contents part) place)) (kept-whole state.befores))))
      ∙ with-records [] part

  -- and by the log with a record more
  more-contents : (rec : LogRecord) (counted : List UnitOfRecovery)
      → ((unit : UnitOfRecovery) → commits_unit unit rec ≡ is_among counted unit) → (part : ℕ)
      → standing (committed_by state (log.records ++ rec ∷ []) part)
      ≡ committed_with counted state part
  more-contents rec counted is part =
      ap (λ (befores : List BeforeImage). standing (put_back part befores (state.contents part)))
      (counted-end log.records rec counted state.befores is
      (none-ended geometry state rest.laid log rest.logged))
      ∙ with-records counted part

  -- a place that no unit has logged has no before-image in the log,
  unlogged : (part : ℕ) (place : List ℕ) → IsUnlogged state part place
      → oldest (images_of log.records) part place ≡ None
  unlogged part place free = unlogged-none (images_of log.records) part place
      (subst (All (λ (logged : Logged). logged.part ≡ part → logged.place ≢ place))
      (sym rest.logged.logged) free)

  -- and what is there is committed by any records
  unlogged-item : (records : List LogRecord) (part : ℕ) (place : List ℕ)
      → oldest (images_of log.records) part place ≡ None
      → item_at (committed_by state records part) place ≡ item_at (state.contents part) place
  unlogged-item records part place none = without records part place
      (none-kept geometry state rest.laid log rest.logged rest.forced part place none)

  own-withdrawn : (content : LogContent) → IsLogOf log content
      → HasWithdrawn state content.records (committed_by state content.records)
  own-withdrawn content is part place n free item =
      let none : oldest (images_of log.records) part place ≡ None = unlogged part place free in (
        ap (λ (found : List BeforeImage). oldest found part place)
            (sym (images-rest geometry number owners log images state now rest content is)
            ∙ rest.kept) ∙ none,
        unlogged-item content.records part place none ∙ item,
      )

  -- An image that is safe by the log, whoever owns the areas in it, recovers to what is committed
  -- in the state.
  pub safe-recovers : (grown : Owners) (image : Image)
      → IsSafeImage geometry number grown log (committed_by state) image
      → RecoversTo geometry number state [] image
  safe-recovers grown image safe = recovers-to geometry number image safe.0
      (committed_by state safe.0.records) state []
      (image_recovers geometry number grown image safe.0 (committed_by state safe.0.records)
      safe.2)
      (own-contents safe.0 safe.1) (own-withdrawn safe.0 safe.1)

  -- so also one by who owns them now
  pub rest-recovers : (image : Image)
      → IsSafeImage geometry number owners log (committed_by state) image
      → RecoversTo geometry number state [] image
  rest-recovers image safe = safe-recovers owners image safe

  -- the log with the record has no before-image where something was withdrawn and it had none
  abbrev FreesWithdrawn : LogRecord → Type 0
  FreesWithdrawn rec = (part : ℕ) (place : List ℕ) (n : ℕ)
      → oldest (images_of log.records) part place ≡ None
      → item_at (state.contents part) place ≡ Some (Withdrawn n)
      → oldest (images_of (log.records ++ rec ∷ [])) part place ≡ None

  -- One that is safe by the log with a record more recovers to that, or to what is committed with the
  -- units counted that the record commits.
  more-recovers : (rec : LogRecord) (counted : List UnitOfRecovery)
      → ((unit : UnitOfRecovery) → commits_unit unit rec ≡ is_among counted unit)
      → FreesWithdrawn rec → (image : Image)
      → IsSafeImage geometry number owners (with_record log rec) (committed_by state) image
      → RecoversTo geometry number state [] image ⊎ RecoversTo geometry number state counted image
  more-recovers rec counted is frees image safe = ⊎_elim
      (λ own. inl (rest-recovers image (safe.0, own, safe.2)))
      (λ all. inr (recovers-to geometry number image safe.0 (committed_by state safe.0.records)
      state counted
      (image_recovers geometry number owners image safe.0 (committed_by state safe.0.records)
      safe.2)
      (λ part. ap (λ (content : LogContent). standing (committed_by state content.records part)) all
      ∙ more-contents rec counted is part)
      (subst (λ (content : LogContent). HasWithdrawn state content.records
      (committed_by state content.records)) (sym all) more-withdrawn)))
      (log-cases log rec safe.0 safe.1)
    where
      more-withdrawn : HasWithdrawn state (log.records ++ rec ∷ [])
          (committed_by state (log.records ++ rec ∷ []))
      more-withdrawn part place n free item =
          let none : oldest (images_of log.records) part place ≡ None = unlogged part place free in (
            frees part place n none item,
            unlogged-item (log.records ++ rec ∷ []) part place none ∙ item,
          )

  -- A before-image of a record that stands at its place, or of none, commits nothing,
  pub before-recovers : (unit : UnitOfRecovery) (part : PartNo) (place : List ℕ)
      (old : Option (List ℕ)) → IsCurrent state.numbers unit
      → option_map Standing old ≡ item_at (state.contents part.0) place → (image : Image)
      → IsSafeImage geometry number owners (with_record log (Before unit part place old))
      (committed_by state) image → RecoversTo geometry number state [] image
  before-recovers unit part place old current stands image safe = ⊎_elim (λ one. one) (λ one. one)
      (more-recovers (Before unit part place old) [] (λ other. refl) frees image safe)
    where
      frees : FreesWithdrawn (Before unit part place old)
      frees other at n none item =
          ap (λ (found : List BeforeImage). oldest found other at)
          (images-append log.records unit part place old (unit_self unit)
          (live-or-none state.numbers unit current [] log.records rest.logged.ended))
          ∙ oldest-append (images_of log.records) (image_of unit part place old) other at
          ∙ ap (λ (found : Option BeforeImage). option_or found
          (cond (is_image_of other at (image_of unit part place old))
          (Some (image_of unit part place old)) None)) none
          ∙ by_place (is_image_of other at (image_of unit part place old)) refl
        where
          by_place : (here : Bool) → is_image_of other at (image_of unit part place old) ≡ here
              → cond here (Some (image_of unit part place old)) None ≡ None
          by_place true is =
              let there = is-there other at (image_of unit part place old) is in
              absurd (none-withdrawn old n (stands
              ∙ ap (λ (p : ℕ). item_at (state.contents p) place) there.0
              ∙ ap (item_at (state.contents other)) (sym there.1) ∙ item))
          by_place false is = refl

  -- the end of a unit has no before-image more
  end-frees : (unit : UnitOfRecovery) (kind : EndKind) → FreesWithdrawn (End unit kind)
  end-frees unit kind part place n none item =
      ap (λ (found : List BeforeImage). oldest found part place)
      (images-ended geometry state rest.laid log rest.logged rest.forced unit kind)
      ∙ find-none (is_image_of part place) (λ (image : BeforeImage). is_other unit image.unit)
      (images_of log.records) none

  -- nor does a unit that is backed out,
  pub backed-out-recovers : (unit : UnitOfRecovery) (image : Image)
      → IsSafeImage geometry number owners (with_record log
      (End unit BackedOut)) (committed_by state) image → RecoversTo geometry number state [] image
  backed-out-recovers unit image safe = ⊎_elim (λ one. one) (λ one. one)
      (more-recovers (End unit BackedOut) [] (λ other. and-false (same_unit unit other))
      (end-frees unit BackedOut) image safe)
    where
      and-false : (b : Bool) → (b && false) ≡ false
      and-false true = refl
      and-false false = refl

  -- and a commit counts its unit.
  pub commit-recovers : (unit : UnitOfRecovery) (image : Image)
      → IsSafeImage geometry number owners (with_record log
      (End unit Committed)) (committed_by state) image → RecoversTo geometry number state [] image
      ⊎ RecoversTo geometry number state (unit ∷ []) image
  commit-recovers unit image safe =
      more-recovers (End unit Committed) (unit ∷ []) (λ other. both (same_unit unit other))
      (end-frees unit Committed) image safe
    where
      both : (b : Bool) → (b && true) ≡ (b || false)
      both true = refl
      both false = refl
