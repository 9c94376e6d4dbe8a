-- States that differ in nothing that the blocks of a volume know of. The rules are this project's
-- own.
use Rattle.std.specs.Prelude.{◌≡◌}
use Rattle.vr_history.specs.State.{State}

-- Records, before-images, what the log has, unit numbers and areas are the same; locks, positions
-- and the stop may differ.
pub record AreAlike (old new : State) : Type 0 where
  pub contents : new.contents ≡ old.contents
  pub befores : new.befores ≡ old.befores
  pub logged : new.logged ≡ old.logged
  pub used : new.used ≡ old.used
  pub numbers : new.numbers ≡ old.numbers
  pub owned : new.owned ≡ old.owned
