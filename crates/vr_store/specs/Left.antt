-- How many steps a unit of recovery may still wait for before a request of it is answered: each step
-- makes it less, whichever request it is of. What other events leave of it no clause says: a DEFINE,
-- which lays a part, may add to it.
use Rattle.std.specs.Prelude.{ℕ, ◌+◌, ◌*◌, List, [], ◌∷◌, length, filter}
use Rattle.vr_types.specs.Space.{free_count}
use Rattle.vr_types.specs.declared.unit.Unit.{Unit as UnitOfRecovery}
use Rattle.vr_space.specs.Part.{left_of}
use Rattle.vr_undo.specs.Records.{keeps_for}
use Rattle.vr_store.specs.Store.{PartNow, StoreNow, blocks_of}

-- the stages that these parts may still do, with this many areas free on the volume
abbrev pub parts_left : ℕ → List PartNow → ℕ
parts_left free [] = 0
parts_left free (part ∷ parts) = left_of part.shape part.known free + parts_left free parts

-- one step where some of these blocks have to be forced
abbrev pub forces_left : List ℕ → ℕ
forces_left [] = 0
forces_left (n ∷ blocks) = 1

-- The stages of the parts; and of the unit each before-image that it keeps, which a BACKOUT puts
-- back and whose blocks it then may have to force, and the force of what it changed.
abbrev pub left_for : UnitOfRecovery → StoreNow → ℕ
left_for unit store = parts_left (free_count store.space) store.parts
    + 2 * length (filter (keeps_for unit) store.undo)
    + forces_left (blocks_of unit store.changed)
