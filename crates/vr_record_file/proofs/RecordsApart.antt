-- Several records of the catalog, each at another place: once one was changed, the others may be.
use Rattle.std.proofs.Common.{◌≡◌, ◌≢◌, ℕ, ◌+◌, ◌≤◌, ◌==◌, ◌&&◌, ◌||◌, Bool, true, false, cond}
use Rattle.std.proofs.Common.{List, [], ◌∷◌, None, refl, sym, ap, ◌∙◌, subst}
use Rattle.std.proofs.Common.{arith}
use Rattle.std.proofs.Math.Bool.{or-true}
use Rattle.std.proofs.lemmas.Bool.{false_from_ne_true}
use Rattle.std.proofs.lemmas.List.Folds.{list_any-append}
use Rattle.std.proofs.lemmas.List.Sums.{sum-map, sum_by-cons}
use Rattle.std.proofs.lemmas.Slice.Eq.{bytes_eq-Decides}
use Rattle.std.specs.Prelude.{bytes_eq, sum_by}
use Rattle.std.specs.List.{AllByRecursion, list_any}
use Rattle.std.specs.Option.{option_map}
use Rattle.vr_types.specs.Content.{Content, Standing, item_at}
use Rattle.vr_types.specs.Locks.{Lock, first_conflict, same_unit}
use Rattle.vr_types.specs.LogSpace.{end_length, log_size}
use Rattle.vr_types.specs.declared.geometry.Geometry.{Geometry}
use Rattle.vr_types.specs.declared.request.FileRef.{FileRef}
use Rattle.vr_types.specs.declared.unit.Mode.TheVariants.{Exclusive}
use Rattle.vr_types.specs.declared.unit.Unit.{Unit as UnitOfRecovery}
use Rattle.vr_altkey.proofs.CallerLemmas.{placed_elsewhere}
use Rattle.vr_catalog.specs.Catalog.{entries_in}
use Rattle.vr_history.specs.State.{BeforeImage, Logged, State, is_kept, is_live, is_logged}
use Rattle.vr_history.proofs.CallerLemmas.{unit_self}
use Rattle.vr_answer.specs.Scope.{AreUnbuilt, HasNoneBuilt}
use Rattle.vr_record_file.specs.CatalogEdit.{AreApart, GivesUnbuilt, RecordChange, image_of}
use Rattle.vr_record_file.specs.CatalogEdit.{logged_of, name_of, need_of, need_to_edit}
use Rattle.vr_record_file.proofs.CatalogUnbuilt.{placed_unbuilt}
use Rattle.vr_record_file.proofs.RecordSteps.{IsStepMade, MayStep, step_need}
use Rattle.vr_record_file.proofs.Retaken.{none_with_own}

-- the bytes of the log that they take of a unit that has, or hasn't, logged something
abbrev pub need_after : Bool → List RecordChange → ℕ
need_after live [] = 0
need_after live (change ∷ changes) =
    need_of change + cond live 0 end_length + need_after true changes

need_each : (changes : List RecordChange) → need_after true changes ≡ sum_by need_of changes
need_each [] = refl
need_each (change ∷ changes) =
    plus_zero (need_of change) (need_after true changes)
    ∙ ap (λ (n : ℕ). need_of change + n) (need_each changes)
    ∙ sym (sum_by-cons need_of change changes)
  where
    plus_zero : (n m : ℕ) → n + 0 + m ≡ n + m
    plus_zero n m = omega arith

pub need_first : (changes : List RecordChange) → changes ≢ []
    → need_after false changes ≡ need_to_edit changes
need_first [] some = absurd (some refl)
need_first (change ∷ changes) some =
    ap (λ (n : ℕ). need_of change + end_length + n) (need_each changes)
    ∙ end_last (need_of change) end_length (sum_by need_of changes)
    ∙ ap (λ (n : ℕ). n + end_length)
    (sym (sum_by-cons need_of change changes) ∙ sym (sum-map need_of (change ∷ changes)))
  where
    end_last : (n e m : ℕ) → n + e + m ≡ n + m + e
    end_last n e m = omega arith

-- The unit may change each of them in turn: it has changed none yet.
pub record MaySteps (geometry : Geometry) (state : State) (unit : UnitOfRecovery) (on : FileRef)
    (changes : List RecordChange) : Type 0 where
  pub going : state.stopped ≡ None
  pub of_utilities : unit.deck ≡ 0
  pub on_catalog : on.base.0 ≡ 0
  pub known : on.known ≡ true
  pub no_path : on.path ≡ None
  pub unbuilt : HasNoneBuilt state
  pub gives : AllByRecursion GivesUnbuilt changes
  pub apart : AreApart changes
  pub not_logged : AllByRecursion (λ (change : RecordChange).
      is_logged state unit 0 change.place ≡ false) changes
  pub not_kept : AllByRecursion (λ (change : RecordChange).
      is_kept state unit 0 change.place ≡ false) changes
  pub stand : AllByRecursion (λ (change : RecordChange).
      item_at (state.contents 0) change.place ≡ option_map Standing change.old) changes
  pub unlocked : AllByRecursion (λ (change : RecordChange).
      first_conflict state.locks unit Exclusive (name_of change) ≡ None) changes
  pub room : state.used + need_after (is_live state unit) changes ≤ log_size geometry

less_room : (used first rest size : ℕ) → used + (first + rest) ≤ size → used + first ≤ size
less_room used first rest size room = omega (arith, room)

same_room : (used first rest size : ℕ) → used + (first + rest) ≤ size
    → used + first + rest ≤ size
same_room used first rest size room = omega (arith, room)

or_fails : (a b : Bool) → a ≡ false → b ≡ false → (a || b) ≡ false
or_fails a b fails further = ap (λ (c : Bool). c || b) fails ∙ further

both_fail : (a b : Bool) → b ≡ false → (a && b) ≡ false
both_fail true b is = is
both_fail false b is = refl

or_last : (a b : Bool) → b ≡ true → (a || (b || false)) ≡ true
or_last a b is = ap (λ (c : Bool). a || (c || false)) is ∙ or-true a

all_by : {X : Type 0} (Q P R : X → Type 0) → ((x : X) → Q x → P x → R x) → (xs : List X)
    → AllByRecursion Q xs → AllByRecursion P xs → AllByRecursion R xs
all_by Q P R so [] all are = tt
all_by Q P R so (x ∷ xs) all are = (so x all.0 are.0, all_by Q P R so xs all.1 are.1)

module _ (geometry : Geometry) (state : State) (unit : UnitOfRecovery) (on : FileRef)
    (change : RecordChange) (changes : List RecordChange)
    (may : MaySteps geometry state unit on (change ∷ changes)) where
  -- the first may be changed,
  pub may_first : MayStep geometry state unit on change
  may_first = record {
    going = may.going;
    of_utilities = may.of_utilities;
    on_catalog = may.on_catalog;
    known = may.known;
    no_path = may.no_path;
    unbuilt = may.unbuilt;
    not_logged = may.not_logged.0;
    not_kept = may.not_kept.0;
    stands = may.stand.0;
    unlocked = may.unlocked.0;
    room = less_room state.used (step_need state unit change) (need_after true changes)
        (log_size geometry) may.room;
  }

  module _ (new : State) (made : IsStepMade unit on change state new) where
    abbrev IsApart : RecordChange → Type 0
    IsApart other = other.place ≢ change.place

    other_place : (other : RecordChange) → IsApart other
        → bytes_eq other.place change.place ≡ false
    other_place other apart = false_from_ne_true (bytes_eq other.place change.place)
        (λ same. apart ((bytes_eq-Decides other.place change.place).0 same))

    logs_none : (other : RecordChange) → IsApart other
        → is_logged state unit 0 other.place ≡ false → is_logged new unit 0 other.place ≡ false
    logs_none other apart none =
        let test : Logged → Bool = λ logged. same_unit unit logged.unit
        && (logged.part == 0 && bytes_eq other.place logged.place) in
        ap (list_any test) made.logged
        ∙ list_any-append test state.logged (logged_of unit change ∷ [])
        ∙ or_fails (list_any test state.logged) (test (logged_of unit change) || false) none
        (or_fails (test (logged_of unit change)) false (both_fail (same_unit unit unit)
        (bytes_eq other.place change.place) (other_place other apart)) refl)

    keeps_none : (other : RecordChange) → IsApart other
        → is_kept state unit 0 other.place ≡ false → is_kept new unit 0 other.place ≡ false
    keeps_none other apart none =
        let test : BeforeImage → Bool = λ kept. same_unit unit kept.unit
        && (kept.part == 0 && bytes_eq other.place kept.place) in
        ap (list_any test) made.befores
        ∙ list_any-append test state.befores (image_of unit change ∷ [])
        ∙ or_fails (list_any test state.befores) (test (image_of unit change) || false) none
        (or_fails (test (image_of unit change)) false (both_fail (same_unit unit unit)
        (bytes_eq other.place change.place) (other_place other apart)) refl)

    stands_still : (other : RecordChange) → IsApart other
        → item_at (state.contents 0) other.place ≡ option_map Standing other.old
        → item_at (new.contents 0) other.place ≡ option_map Standing other.old
    stands_still other apart stands =
        ap (λ (c : ℕ → Content). item_at (c 0) other.place) made.contents
        ∙ placed_elsewhere change.place (option_map Standing change.new) (state.contents 0)
        other.place apart
        ∙ stands

    unlocked_still : (other : RecordChange) → IsApart other
        → first_conflict state.locks unit Exclusive (name_of other) ≡ None
        → first_conflict new.locks unit Exclusive (name_of other) ≡ None
    unlocked_still other apart none =
        ap (λ (l : List Lock). first_conflict l unit Exclusive (name_of other)) made.locks
        ∙ none_with_own unit (name_of change) (name_of other) state.locks none

    pub live_now : is_live new unit ≡ true
    live_now =
        let test : Logged → Bool = λ logged. same_unit unit logged.unit in
        ap (list_any test) made.logged
        ∙ list_any-append test state.logged (logged_of unit change ∷ [])
        ∙ or_last (list_any test state.logged) (same_unit unit unit) (unit_self unit)

    unbuilt_now : HasNoneBuilt new
    unbuilt_now =
        subst (λ (c : ℕ → Content). AreUnbuilt (entries_in (c 0))) (sym made.contents)
        (placed_unbuilt (state.contents 0) change.place change.new may.gives.0 may.unbuilt)

    -- and then the others
    pub may_rest : MaySteps geometry new unit on changes
    may_rest = record {
      going = made.stopped;
      of_utilities = may.of_utilities;
      on_catalog = may.on_catalog;
      known = may.known;
      no_path = may.no_path;
      unbuilt = unbuilt_now;
      gives = may.gives.1;
      apart = may.apart.1;
      not_logged = all_by IsApart (λ (other : RecordChange).
          is_logged state unit 0 other.place ≡ false) (λ (other : RecordChange).
          is_logged new unit 0 other.place ≡ false) logs_none changes may.apart.0
          may.not_logged.1;
      not_kept = all_by IsApart (λ (other : RecordChange).
          is_kept state unit 0 other.place ≡ false) (λ (other : RecordChange).
          is_kept new unit 0 other.place ≡ false) keeps_none changes may.apart.0
          may.not_kept.1;
      stand = all_by IsApart (λ (other : RecordChange).
          item_at (state.contents 0) other.place ≡ option_map Standing other.old)
          (λ (other : RecordChange).
          item_at (new.contents 0) other.place ≡ option_map Standing other.old) stands_still
          changes may.apart.0 may.stand.1;
      unlocked = all_by IsApart (λ (other : RecordChange).
          first_conflict state.locks unit Exclusive (name_of other) ≡ None)
          (λ (other : RecordChange).
          first_conflict new.locks unit Exclusive (name_of other) ≡ None) unlocked_still changes
          may.apart.0 may.unlocked.1;
      room = subst (λ (b : Bool). new.used + need_after b changes ≤ log_size geometry)
          (sym live_now) (subst (λ (n : ℕ). n + need_after true changes ≤ log_size geometry)
          (sym made.used) (same_room state.used (step_need state unit change)
          (need_after true changes) (log_size geometry) may.room));
    }
