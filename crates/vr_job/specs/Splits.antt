-- How the splits that an event enters follow the blocks. The rules are this project's own.
use Rattle.std.specs.Prelude.{◌≡◌, ◌+◌, ◌<◌, ℕ, IsSomeAnd, List, Some}
use Rattle.vr_types.specs.Image.{Image}
use Rattle.vr_types.specs.declared.geometry.Geometry.{Geometry}
use Rattle.vr_space.specs.Areas.{KeyedChain, intervals_in}
use Rattle.vr_space.specs.Part.{KeyedShape}
use Rattle.vr_history.specs.State.{State}
use Rattle.vr_history.specs.declared.entry.Entry.{Entry}
use Rattle.vr_volume.specs.Laid.{shape_by}
use Rattle.vr_event.specs.Nearer.{IsKeyed, splits_of}

-- the catalog of the state lays a key-sequenced part of this number
abbrev pub LaysKeyed : Geometry → State → ℕ → Type 0
LaysKeyed geometry state part = IsSomeAnd (shape_by geometry (state.contents 0) part) IsKeyed

-- Each key-sequenced part that the catalog of the state before lays, and that of the state after too,
-- has in the blocks after as many control intervals more as these entries have splits of it. The
-- intervals of a part are those that the sequence set of its areas leads to: the split of an interval
-- adds one, and that of an area deals them out to two areas and adds none. And each of these entries
-- that says that an interval was split names such a part: none is of a part that has no splits, or
-- that isn't laid.
pub record AddsAsSplit (geometry : Geometry) (before after : State) (old now : Image)
    (made : List Entry) : Type 0 where
  pub adds : (part : ℕ) (was is : KeyedChain)
      → shape_by geometry (before.contents 0) part ≡ Some (KeyedShape was)
      → shape_by geometry (after.contents 0) part ≡ Some (KeyedShape is)
      → intervals_in is now ≡ intervals_in was old + splits_of part made
  pub keyed : (part : ℕ) → 0 < splits_of part made
      → LaysKeyed geometry before part × LaysKeyed geometry after part
