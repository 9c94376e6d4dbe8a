-- The areas that the state has are those of the space: how many are free, and how many a part has.
use Rattle.std.proofs.Common.{◌≡◌, ◌==◌, ◌+◌, ℕ, suc, Bool, true, false, cond, List, [], ◌∷◌}
use Rattle.std.proofs.Common.{Option, Some, None, refl, sym, ap, ◌∙◌, filter, length}
use Rattle.std.specs.List.Sorted.{IsPermutation}
use Rattle.std.specs.Option.{option_map}
use Rattle.std.proofs.lemmas.List.Sorted.{sum_by-IsPermutation}
use Rattle.std.proofs.lemmas.List.Sums.{length-filter}
use Rattle.vr_types.specs.Seen.{Seen}
use Rattle.vr_types.specs.Space.{is_owner}
use Rattle.vr_types.specs.declared.request.Request.{Request}
use Rattle.vr_types.specs.declared.unit.PartNo.{PartNo}
use Rattle.vr_types.specs.declared.unit.Unit.{Unit as UnitOfRecovery}
use Rattle.vr_space.specs.Part.{owned_count}
use Rattle.vr_history.specs.State.{Owned, State, areas_of}
use Rattle.vr_history.specs.Step.{case_of}
use Rattle.vr_record_file.specs.Now.{state_now}
use Rattle.vr_store.specs.Store.{PartNow}
use Rattle.vr_event.specs.Opening.{owned_from, owned_in}
use Rattle.vr_event.specs.Putting.{IsSpaceOf}
use Rattle.vr_event.specs.Volume.{IsHeld, IsWhole, VolumeNow}

-- ---- how many areas a part has

abbrev is_area_of : ℕ → Owned → Bool
is_area_of part owned = owned.part == part

owned-counted : (part area : ℕ) (space : List (Option PartNo))
    → owned_count (record { 0 = part }) space
    ≡ length (filter (is_area_of part) (owned_from area space))
owned-counted part area [] = refl
owned-counted part area (None ∷ space) = owned-counted part (area + 1) space
owned-counted part area (Some owner ∷ space) =
    by_test (owner.0 == part) (owned-counted part (area + 1) space)
  where
    here : Owned
    here = record { area = area; part = owner.0 }

    by_test : (test : Bool) → owned_count (record { 0 = part }) space
        ≡ length (filter (is_area_of part) (owned_from (area + 1) space))
        → length (cond test (Some owner ∷ filter (is_owner (record { 0 = part })) space)
        (filter (is_owner (record { 0 = part })) space))
        ≡ length (cond test (here ∷ filter (is_area_of part) (owned_from (area + 1) space))
        (filter (is_area_of part) (owned_from (area + 1) space)))
    by_test true further = ap suc further
    by_test false further = further

-- in whichever order the state has them
pub owned-areas : (part : ℕ) (space : List (Option PartNo)) (state : State)
    → IsPermutation (owned_in space) state.owned
    → owned_count (record { 0 = part }) space ≡ areas_of state part
owned-areas part space state same =
    owned-counted part 0 space
    ∙ length-filter (is_area_of part) (owned_in space)
    ∙ sym (sum_by-IsPermutation (λ (owned : Owned). cond (is_area_of part owned) 1 0)
    (owned_in space) state.owned same)
    ∙ sym (length-filter (is_area_of part) state.owned)

-- so it is of a volume that is held
pub space-held : {B : Type 0} (seen : B → Seen) (opening : State) (volume : VolumeNow B)
    → IsWhole seen volume → IsHeld seen opening volume → volume.file.stopped ≡ None
    → (unit : UnitOfRecovery) (request : Request) (part : ℕ)
    → IsSpaceOf volume.store part
    (case_of volume.file.geometry (state_now opening volume.file) unit request)
space-held seen opening volume whole held going unit request part = record {
  free = held.free;
  owned = owned-areas part volume.store.space (state_now opening volume.file) held.owned;
  unlaid = λ none. held.unlaid going (record { 0 = part })
      (sym (whole.laid going part)
      ∙ ap (λ (o : Option PartNow). option_map (λ (one : PartNow). one.shape) o) none);
}
