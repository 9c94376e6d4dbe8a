-- What outlives a crash, and another one while a volume is opened: where a record is committed, or
-- one was withdrawn, an item stays, so that its address is never given again (DFSMS Using Data Sets,
-- entry-sequenced data sets). The rules are this project's own.
use Rattle.std.specs.Prelude.{◌≡◌, ◌≢◌, ◌⊎◌, ℕ, List, None, Some}
use Rattle.vr_types.specs.Content.{Content, Withdrawn, item_at}
use Rattle.vr_types.specs.declared.unit.Unit.{Unit as UnitOfRecovery}
use Rattle.vr_history.specs.State.{BeforeImage, State}
use Rattle.vr_volume.specs.Crashes.{IsUnlogged, committed_with}
use Rattle.vr_volume.specs.PutBack.{oldest, standing}

-- something stands at the place, or was withdrawn there
abbrev pub HasItem : Content → List ℕ → Type 0
HasItem content place = item_at content place ≢ None

-- In the state, where these units count, a committed record is at the place, or one that was
-- withdrawn and that no live unit has logged.
abbrev pub IsSettledAt : List UnitOfRecovery → State → ℕ → List ℕ → Type 0
IsSettledAt counted state part place = (item_at (committed_with counted state part) place ≢ None)
    ⊎ ((n : ℕ) × IsUnlogged state part place
    × (item_at (state.contents part) place ≡ Some (Withdrawn n)))

-- In the contents that a volume is opened with, a record is at the place, or an item for which its
-- log had none of these before-images.
abbrev pub IsSettledIn : List BeforeImage → (ℕ → Content) → ℕ → List ℕ → Type 0
IsSettledIn images contents part place = (item_at (standing (contents part)) place ≢ None)
    ⊎ ((oldest images part place ≡ None) × HasItem (contents part) place)
