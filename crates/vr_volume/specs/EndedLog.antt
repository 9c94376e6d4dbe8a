-- What the end of a unit of recovery makes of the log: the end is there and forced, and once no unit
-- is live the next generation has begun. The rules are this project's own.
use Rattle.std.specs.Prelude.{◌≡◌, ◌≢◌, false, []}
use Rattle.vr_types.specs.declared.unit.Unit.{Unit as UnitOfRecovery}
use Rattle.vr_log.specs.Live.{live_in}
use Rattle.vr_log.specs.LogNow.{IsForced, LogNow, next_generation}
use Rattle.vr_log.specs.declared.record.EndKind.{EndKind}
use Rattle.vr_volume.specs.Ended.{ended}

-- The end is in the log, and forced.
pub record IsEndForced (old : LogNow) (unit : UnitOfRecovery) (kind : EndKind) (new : LogNow)
    : Type 0 where
  pub geometry : new.geometry ≡ old.geometry
  pub generation : new.generation ≡ old.generation
  pub records : new.records ≡ ended old unit kind
  pub forced : IsForced new
  pub sound : new.broken ≡ false

-- While a unit is live the log goes on; once none is, the next generation has no record yet.
pub record IsEndedLog (old : LogNow) (unit : UnitOfRecovery) (kind : EndKind) (new : LogNow)
    : Type 0 where
  pub geometry : new.geometry ≡ old.geometry
  pub sound : new.broken ≡ false
  pub forced : IsForced new
  pub on : live_in (ended old unit kind) ≢ []
      → (new.records ≡ ended old unit kind) × (new.generation ≡ old.generation)
  pub begun : live_in (ended old unit kind) ≡ []
      → (new.records ≡ []) × (new.generation ≡ next_generation old.generation)
