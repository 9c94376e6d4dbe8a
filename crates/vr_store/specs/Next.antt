-- What a search of a part of a store finds. The rules are this project's own.
use Rattle.std.specs.Prelude.{◌≡◌, ◌≤◌, ℕ, Bool, false, List, Option, Some, None, IfSome}
use Rattle.vr_types.specs.Image.{Image}
use Rattle.vr_space.specs.Part.{NextIs, place_length}
use Rattle.vr_space.specs.declared.whence.Whence.{Whence}
use Rattle.vr_store.specs.Store.{PartNow, StoreNow, part_among, shape_among}

-- the least place of a part with a record that the search may find, or there is none
abbrev pub NextOf : Option PartNow → Image → Whence → Bool → List ℕ → Type 0
NextOf None image from found place = found ≡ false
NextOf (Some part) image from found place = NextIs part.shape image from found place

-- so it is of the part of this number; where there is no such part, nothing is found
abbrev pub IsNextAt : StoreNow → Image → ℕ → Whence → Bool → List ℕ → Type 0
IsNextAt store image number from found place =
    NextOf (part_among store.parts number) image from found place

-- a place of the part has no more bytes
abbrev pub HoldsPlaces : List PartNow → ℕ → ℕ → Type 0
HoldsPlaces parts part room = IfSome (shape_among parts part) (λ shape. place_length shape ≤ room)
