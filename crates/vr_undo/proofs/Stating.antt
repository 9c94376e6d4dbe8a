-- What is kept goes as the state of a volume does, and is as before once it is taken back.
use Rattle.std.proofs.Common.{◌≡◌, ℕ, Bool, true, false, cond, not, List, [], ◌∷◌, ◌++◌, map, filter}
use Rattle.std.proofs.Common.{refl, sym, ap, ◌∙◌, ◌&&◌, ◌||◌, ◌==◌, bytes_eq, eq-eqb}
use Rattle.std.specs.Prelude.{Option, option_map}
use Rattle.std.proofs.lemmas.Bool.{true≢false}
use Rattle.std.proofs.lemmas.List.{append-nil}
use Rattle.std.proofs.lemmas.Slice.Eq.{bytes_eq-Decides}
use Rattle.vr_types.specs.Content.{Item, Standing, item_at}
use Rattle.vr_types.specs.declared.unit.Unit.{Unit as UnitOfRecovery}
use Rattle.vr_history.specs.Change.{Change}
use Rattle.vr_history.specs.Effects.{as_logged, contents_left, ends_unit, has_part, is_other}
use Rattle.vr_history.specs.Effects.{is_utility_live, parts_laid}
use Rattle.vr_history.specs.Effects.{keeps_before, logs, without_unit as state_without}
use Rattle.vr_history.specs.LogSpace.{Logging}
use Rattle.vr_history.specs.Opened.{catalog_of}
use Rattle.vr_history.specs.State.{BeforeImage, Logged, Owned, State, is_kept, is_logged}
use Rattle.vr_history.proofs.CallerLemmas.{unit_self}
use Rattle.vr_undo.specs.Records.{image_of, is_at, is_record_at, new_record, some_at, unless_there}
use Rattle.vr_undo.specs.Records.{with_image, with_logged, with_record, without_last_by}
use Rattle.vr_undo.specs.declared.before.Before.{Before}
use Rattle.vr_undo.specs.declared.record.KeptRecord.{KeptRecord}
use Rattle.vr_undo.proofs.Leaving.{taken-back}

-- what the catalog hasn't goes
abbrev given_back : State → State
given_back left = record left {
  contents = contents_left left;
  owned = filter (λ (owned : Owned). has_part (parts_laid (catalog_of left)) owned.part)
      left.owned;
}

module _ (state : State) (unit : UnitOfRecovery) where
  pub befores-stated : (change : Change) (before : Before) → before.part.0 ≡ change.part
      → before.place ≡ change.place
      → option_map Standing before.old ≡ item_at (state.contents change.part) change.place
      → with_image unit (image_of unit before) state.befores
      ≡ (keeps_before unit change state).befores
  befores-stated change before part place old =
      ap (λ (p : ℕ). with-part p before.place (option_map Standing before.old)) part
      ∙ ap (λ (at : List ℕ). with-part change.part at (option_map Standing before.old)) place
      ∙ ap (with-part change.part change.place) old
    where
      with-part : ℕ → List ℕ → Option Item → List BeforeImage
      with-part p at was =
          cond (is_kept state unit p at) state.befores
          (state.befores ++ (let image : BeforeImage =
          record { unit = unit; part = p; place = at; old = was } in image) ∷ [])

  pub logged-stated : (logging : Logging) (need : ℕ)
      → with_logged unit logging.part logging.place state.logged
      ≡ (logs unit (filter (λ (one : Logging). not (is_logged state unit one.part one.place))
      (logging ∷ [])) need state).logged
  logged-stated logging need = by_test (is_logged state unit logging.part logging.place)
    where
      by_test : (there : Bool)
          → cond there state.logged (state.logged ++ as_logged unit logging ∷ [])
          ≡ state.logged ++ map (as_logged unit) (cond (not there) (logging ∷ []) [])
      by_test true = sym (append-nil state.logged)
      by_test false = refl

  -- the end of a unit, whether the utilities have one or not
  pub befores-end : filter (λ (kept : BeforeImage). is_other unit kept.unit) state.befores
      ≡ (ends_unit unit state).befores
  befores-end = by_utility (is_utility_live (state_without unit state))
    where
      by_utility : (live : Bool)
          → filter (λ (kept : BeforeImage). is_other unit kept.unit) state.befores
          ≡ (cond live (state_without unit state) (given_back (state_without unit state))).befores
      by_utility true = refl
      by_utility false = refl

  pub logged-end : filter (λ (log : Logged). is_other unit log.unit) state.logged
      ≡ (ends_unit unit state).logged
  logged-end = by_utility (is_utility_live (state_without unit state))
    where
      by_utility : (live : Bool)
          → filter (λ (log : Logged). is_other unit log.unit) state.logged
          ≡ (cond live (state_without unit state) (given_back (state_without unit state))).logged
      by_utility true = refl
      by_utility false = refl

-- ---- taken back

module _ (unit : UnitOfRecovery) (before : Before) where
  at-itself : is_at unit before.part.0 before.place (image_of unit before) ≡ true
  at-itself =
      ap (λ (b : Bool). b && (before.part.0 == before.part.0
      && bytes_eq before.place before.place)) (unit_self unit)
      ∙ ap (λ (b : Bool). b && bytes_eq before.place before.place)
      (eq-eqb before.part.0 before.part.0 refl)
      ∙ (bytes_eq-Decides before.place before.place).1 refl

  or-true : (a : Bool) → (a || true) ≡ true
  or-true true = refl
  or-true false = refl

  new-at : (logged kept : Bool) → (logged && kept) ≡ false
      → is_record_at unit before.part.0 before.place (new_record unit before logged kept) ≡ true
  new-at true true new = absurd (true≢false new)
  new-at true false new = at-itself
  new-at false kept new =
      ap (λ (b : Bool). b || some_at unit before.part.0 before.place
      (option_map (image_of unit) (unless_there kept before))) at-itself

  pub as-before : (logged kept : Bool) (records : List KeptRecord) → (logged && kept) ≡ false
      → without_last_by (is_record_at unit before.part.0 before.place)
      (with_record unit before logged kept records) ≡ records
  as-before logged kept records new =
      ap (λ (b : Bool). without_last_by (is_record_at unit before.part.0 before.place)
      (cond b records (records ++ new_record unit before logged kept ∷ []))) new
      ∙ taken-back (is_record_at unit before.part.0 before.place) records
      (new_record unit before logged kept) (new-at logged kept new)
