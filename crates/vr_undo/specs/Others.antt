-- What other units of recovery keep of a part: the least place at which a record may come back.
-- That a search looks at these places too is this project's own.
use Rattle.std.specs.Prelude.{◌≡◌, ℕ, List, Option, None, true, false, if◌then◌else◌}
use Rattle.std.specs.List.{Contains}
use Rattle.std.specs.Ordering.{is_lt}
use Rattle.vr_types.specs.Content.{place_cmp}
use Rattle.vr_types.specs.Locks.{same_unit}
use Rattle.vr_types.specs.declared.unit.Unit.{Unit as UnitOfRecovery}
use Rattle.vr_history.specs.Found.{Standing_at, kept_by_others}
use Rattle.vr_space.specs.Whence.{allows}
use Rattle.vr_space.specs.declared.whence.Whence.{Whence}
use Rattle.vr_undo.specs.Lengths.{place_allowed}
use Rattle.vr_undo.specs.Records.{befores_of}
use Rattle.vr_undo.specs.declared.record.KeptRecord.{KeptRecord}

-- the records of a part that other units may bring back, of what is kept
abbrev pub others_in : UnitOfRecovery → ℕ → List KeptRecord → List Standing_at
others_in unit part undo = kept_by_others unit part (befores_of undo)

-- one of the records is at the place
abbrev pub StandsAt : List Standing_at → List ℕ → Type 0
StandsAt standing place = (bytes : List ℕ) × Contains standing (place, bytes)

-- none is at a place that the search may find
abbrev pub NoneAllowed : Whence → List Standing_at → Type 0
NoneAllowed from standing =
    (place : List ℕ) → StandsAt standing place → allows from place ≡ false

-- one is at this place, which the search may find, and none at a lesser one
pub record IsLeastAllowed (from : Whence) (standing : List Standing_at)
    (place : List ℕ) : Type 0 where
  pub allowed : allows from place ≡ true
  pub stands : StandsAt standing place
  pub least : (other : List ℕ) → StandsAt standing other → allows from other ≡ true
      → is_lt (place_cmp other place) ≡ false

-- ---- what one record adds

-- the place of another unit's record, where a search may find it
abbrev pub place_other : UnitOfRecovery → ℕ → Whence → KeptRecord → Option (List ℕ)
place_other unit part from kept =
    if same_unit unit kept.unit then None else place_allowed part from kept.kept
