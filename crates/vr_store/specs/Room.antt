-- The room that a part of a store has for a record. The rules are this project's own.
use Rattle.std.specs.Prelude.{◌≡◌, ℕ, List, IfSome}
use Rattle.vr_types.specs.Image.{Image}
use Rattle.vr_types.specs.Space.{free_count}
use Rattle.vr_space.specs.Part.{IsStageDue, room_of}
use Rattle.vr_space.specs.declared.room.Room.{Room}
use Rattle.vr_undo.specs.Records.{images_in}
use Rattle.vr_volume.specs.PutBack.{lengths_kept}
use Rattle.vr_store.specs.Store.{PartNow, StoreNow, part_among}

-- what the part of this number answers to a record of a length at a place, with room kept for what
-- units may put back
abbrev pub IsRoomAt : StoreNow → Image → ℕ → List ℕ → ℕ → Room → Type 0
IsRoomAt store image number place n room =
    IfSome (part_among store.parts number) (λ (part : PartNow). room ≡ room_of part.shape part.known
    image (free_count store.space) (lengths_kept (images_in store.undo) number) place n)

-- a stage comes before such a record
abbrev pub IsDueAt : StoreNow → Image → ℕ → List ℕ → ℕ → Type 0
IsDueAt store image number place n =
    IfSome (part_among store.parts number) (λ (part : PartNow). IsStageDue part.shape part.known
    image (free_count store.space) (lengths_kept (images_in store.undo) number) place n)
