-- The blocks of a volume at rest, and what is in memory of it, have one content of each part.
use Rattle.std.proofs.Common.{◌≡◌, ◌∙◌, ℕ, List, [], Option, Some, None, ap, refl, sym}
use Rattle.std.specs.Prelude.{option_map}
use Rattle.std.proofs.lemmas.Option.{none-some}
use Rattle.vr_types.specs.Content.{item_at}
use Rattle.vr_types.specs.Seen.{Seen}
use Rattle.vr_altkey.proofs.CallerLemmas.{same_items}
use Rattle.vr_space.specs.Part.{Shape, item_of}
use Rattle.vr_history.specs.State.{State}
use Rattle.vr_volume.specs.Laid.{shape_by}
use Rattle.vr_store.specs.Store.{IsSet, IsStored, PartNow, StoreNow, part_among, shape_among}
use Rattle.vr_store.proofs.CallerLemmas.{number-at, rested-at}

module _ (store : StoreNow) (now : Seen) (set : IsSet store now) (number : ℕ) where
  -- a part in memory reads as the state has it
  reads-so : (volume : ℕ) (state : State) → IsStored volume store state now → (one : PartNow)
      → part_among store.parts number ≡ Some one → (place : List ℕ)
      → item_of one.shape now.cur place ≡ item_at (state.contents number) place
  reads-so volume state stored one there place =
      (rested-at store now set volume state number one there stored).reads place
      ∙ ap (λ (n : ℕ). item_at (state.contents n) place)
      (number-at store now set number one there)

  -- and a part that isn't in memory has nothing
  none-so : (volume : ℕ) (state : State) → IsStored volume store state now
      → part_among store.parts number ≡ None → state.contents number ≡ []
  none-so volume state stored none = stored.volume.laid.others number
      (by-shape (shape_by store.log.geometry (state.contents 0) number) refl)
    where
      by-shape : (found : Option Shape)
          → shape_by store.log.geometry (state.contents 0) number ≡ found
          → shape_by store.log.geometry (state.contents 0) number ≡ None
      by-shape None is = is
      by-shape (Some shape) is = absurd (none-some shape
          (sym (ap (option_map (λ (part : PartNow). part.shape)) none)
          ∙ stored.whole number shape is))

  pub one-content : (volume other : ℕ) (state same : State) → IsStored volume store state now
      → IsStored other store same now → state.contents number ≡ same.contents number
  one-content volume other state same stored stored' =
      by-part (part_among store.parts number) refl
    where
      by-part : (found : Option PartNow) → part_among store.parts number ≡ found
          → state.contents number ≡ same.contents number
      by-part None is =
          none-so volume state stored is ∙ sym (none-so other same stored' is)
      by-part (Some one) is = same_items (state.contents number) (same.contents number)
          (stored.volume.laid.each number) (stored'.volume.laid.each number)
          (λ place. sym (reads-so volume state stored one is place)
          ∙ reads-so other same stored' one is place)
