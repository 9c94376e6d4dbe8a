-- The before-images of several changes of the catalog, in a log that had no record: the unit that
-- logged them is live, and none is once it has ended.
use Rattle.std.proofs.Common.{◌≡◌, ◌≢◌, ℕ, Bool, true, false, cond, List, [], ◌∷◌, ◌++◌, Some}
use Rattle.std.proofs.Common.{None, refl, sym, ap, ◌∙◌, map, ◌||◌, ◌&&◌}
use Rattle.std.specs.Prelude.{All}
use Rattle.std.specs.List.{filter_map}
use Rattle.std.proofs.lemmas.List.Elements.{All-cons, All-head, All-nil, All-tail, All-weaker}
use Rattle.vr_types.specs.declared.unit.Unit.{Unit as UnitOfRecovery}
use Rattle.vr_log.specs.Live.{IsBeforeOf, is_in, live_after, live_from, live_in}
use Rattle.vr_log.specs.declared.record.EndKind.TheVariants.{Committed}
use Rattle.vr_log.specs.declared.record.LogRecord.{LogRecord}
use Rattle.vr_log.specs.declared.record.LogRecord.TheVariants.{End}
use Rattle.vr_log.proofs.AllNeeds.{live-append as live-all}
use Rattle.vr_history.specs.State.{BeforeImage}
use Rattle.vr_history.proofs.CallerLemmas.{unit_self}
use Rattle.vr_volume.specs.Committed.{has_commit}
use Rattle.vr_volume.specs.EntryChanges.{MissAll, image_for, logged_for}
use Rattle.vr_volume.specs.PutBack.{image_in, images_of, is_image_of, oldest}
use Rattle.vr_volume.specs.declared.setting.EntryChange.{EntryChange}
use Rattle.vr_volume.proofs.Alone.{is-own, is-there}
use Rattle.vr_volume.proofs.Images.{live-append}
use Rattle.vr_volume.proofs.Rested.{none-images}

some-none : {X : Type 0} {x : X} → Some x ≡ None → ⊥
some-none same = cc

module _ (unit : UnitOfRecovery) where
  abbrev pub logs : List EntryChange → List LogRecord
  logs changes = map (logged_for unit) changes

  abbrev pub images : List EntryChange → List BeforeImage
  images changes = map (image_for unit) changes

  -- ---- the units that are live

  pub here : is_in unit (unit ∷ []) ≡ true
  here = ap (λ (b : Bool). b || false) (unit_self unit)

  live-more : (changes : List EntryChange) → live_from (unit ∷ []) (logs changes) ≡ unit ∷ []
  unfolding live_after
  live-more [] = refl
  live-more (change ∷ changes) =
      ap (λ (b : Bool).
      live_from (cond b (unit ∷ []) ((unit ∷ []) ++ unit ∷ [])) (logs changes)) here
      ∙ live-more changes

  pub live-logged : (change : EntryChange) (changes : List EntryChange)
      → live_in (logs (change ∷ changes)) ≡ unit ∷ []
  unfolding live_after
  live-logged change changes = live-more changes

  pub live-ended : (changes : List EntryChange)
      → live_in (logs changes ++ End unit Committed ∷ []) ≡ []
  unfolding live_after
  live-ended changes = live-append [] (logs changes) (End unit Committed) ∙ by changes
    where
      by : (changes : List EntryChange)
          → live_after (live_in (logs changes)) (End unit Committed) ≡ []
      by [] = refl
      by (change ∷ more) =
          ap (λ (live : List UnitOfRecovery). live_after live (End unit Committed))
          (live-logged change more)
          ∙ ap (λ (b : Bool). cond b [] (unit ∷ [])) (unit_self unit)

  -- the same after records of which none is live
  pub live-on : (records : List LogRecord) (changes : List EntryChange) → live_in records ≡ []
      → live_in (records ++ logs changes) ≡ live_in (logs changes)
  live-on records changes idle = live-all [] records (logs changes)
      ∙ ap (λ (live : List UnitOfRecovery). live_from live (logs changes)) idle

  pub live-then : (records : List LogRecord) (changes : List EntryChange) → changes ≢ []
      → live_in records ≡ [] → is_in unit (live_in (records ++ logs changes)) ≡ true
  live-then records [] some idle = absurd (some refl)
  live-then records (change ∷ changes) some idle =
      ap (is_in unit) (live-on records (change ∷ changes) idle ∙ live-logged change changes) ∙ here

  pub ended-then : (records : List LogRecord) (changes : List EntryChange) → live_in records ≡ []
      → live_in ((records ++ logs changes) ++ End unit Committed ∷ []) ≡ []
  ended-then records changes idle =
      live-append [] (records ++ logs changes) (End unit Committed)
      ∙ ap (λ (live : List UnitOfRecovery). live_after live (End unit Committed))
      (live-on records changes idle)
      ∙ sym (live-append [] (logs changes) (End unit Committed)) ∙ live-ended changes

  -- they are all of the unit
  pub all-of-unit : (changes : List EntryChange) → All (IsBeforeOf unit) (logs changes)
  all-of-unit [] = All-nil (IsBeforeOf unit)
  all-of-unit (change ∷ changes) = All-cons (IsBeforeOf unit) (logged_for unit change)
      (logs changes) refl (all-of-unit changes)

  -- ---- commits

  pub commit-none : (changes : List EntryChange) → has_commit (logs changes) unit ≡ false
  commit-none [] = refl
  commit-none (change ∷ changes) = commit-none changes

  pub commit-last : (changes : List EntryChange)
      → has_commit (logs changes ++ End unit Committed ∷ []) unit ≡ true
  commit-last [] = ap (λ (b : Bool). (b && true) || false) (unit_self unit)
  commit-last (change ∷ changes) = commit-last changes

  -- ---- the before-images

  images-among : (changes : List EntryChange)
      → filter_map (image_in (unit ∷ [])) (logs changes) ≡ images changes
  images-among [] = refl
  images-among (change ∷ changes) =
      ap (λ (b : Bool). by b (filter_map (image_in (unit ∷ [])) (logs changes))) here
      ∙ ap (λ (them : List BeforeImage). image_for unit change ∷ them) (images-among changes)
    where
      by : Bool → List BeforeImage → List BeforeImage
      by b them = Rattle.std.specs.List.cons_option
          (cond b (Some (image_for unit change)) None) them

  pub images-logged : (changes : List EntryChange) → images_of (logs changes) ≡ images changes
  images-logged [] = refl
  images-logged (change ∷ changes) =
      ap (λ (units : List UnitOfRecovery). filter_map (image_in units) (logs (change ∷ changes)))
      (live-logged change changes) ∙ images-among (change ∷ changes)

  pub images-ended : (changes : List EntryChange)
      → images_of (logs changes ++ End unit Committed ∷ []) ≡ []
  images-ended changes = none-images (logs changes ++ End unit Committed ∷ []) (live-ended changes)

  -- a place that they miss has none,
  pub oldest-misses : (part : ℕ) (at : List ℕ) (changes : List EntryChange)
      → (part ≡ 0 → MissAll at changes) → oldest (images changes) part at ≡ None
  oldest-misses part at [] misses = refl
  oldest-misses part at (change ∷ changes) misses =
      by (is_image_of part at (image_for unit change)) refl
      (oldest-misses part at changes
      (λ zero-is. All-tail (λ (other : EntryChange). at ≢ other.place) change changes
      (misses zero-is)))
    where
      by : (mine : Bool) → is_image_of part at (image_for unit change) ≡ mine
          → oldest (images changes) part at ≡ None
          → oldest (images (change ∷ changes)) part at ≡ None
      by true is further =
          let there = is-there part at (image_for unit change) is in
          absurd (All-head (λ (other : EntryChange). at ≢ other.place) change changes
          (misses (sym there.0)) there.1)
      by false is further =
          ap (λ (b : Bool).
          cond b (Some (image_for unit change)) (oldest (images changes) part at)) is ∙ further

  -- and each of theirs has one
  pub oldest-there : (changes : List EntryChange)
      → All (λ (change : EntryChange). oldest (images changes) 0 change.place ≢ None) changes
  oldest-there [] = All-nil (λ (change : EntryChange). oldest (images []) 0 change.place ≢ None)
  oldest-there (change ∷ changes) =
      All-cons (λ (other : EntryChange).
      oldest (images (change ∷ changes)) 0 other.place ≢ None) change changes
      (λ none. some-none (sym (ap (λ (b : Bool).
      cond b (Some (image_for unit change)) (oldest (images changes) 0 change.place))
      (is-own (image_for unit change))) ∙ none))
      (All-weaker (λ (other : EntryChange). oldest (images changes) 0 other.place ≢ None)
      (λ (other : EntryChange). oldest (images (change ∷ changes)) 0 other.place ≢ None)
      (λ other some none. by other some (is_image_of 0 other.place (image_for unit change)) refl
      none)
      changes (oldest-there changes))
    where
      by : (other : EntryChange) → oldest (images changes) 0 other.place ≢ None → (mine : Bool)
          → is_image_of 0 other.place (image_for unit change) ≡ mine
          → oldest (images (change ∷ changes)) 0 other.place ≡ None → ⊥
      by other some true is none = some-none (sym (ap (λ (b : Bool).
          cond b (Some (image_for unit change)) (oldest (images changes) 0 other.place)) is)
          ∙ none)
      by other some false is none = some (sym (ap (λ (b : Bool).
          cond b (Some (image_for unit change)) (oldest (images changes) 0 other.place)) is)
          ∙ none)
