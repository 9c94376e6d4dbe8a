-- A tail that a chain may have.
use Rattle.std.proofs.Common.{◌≡◌, ◌≤◌, ◌-◌, Option, Some, None, sym, subst, arith}
use Rattle.std.specs.Prelude.{IfSome}
use Rattle.vr_space.specs.Entries.{Tail}
use Rattle.vr_space.specs.Rosters.{Numbered}
use Rattle.vr_chained.specs.Chain.{ChainNow, IsTailIn}

-- one with no fewer intervals used may have it too
pub tail-further : (tail : Option Tail) (chain longer : ChainNow) → longer.part ≡ chain.part
    → chain.used ≤ longer.used → IfSome tail (IsTailIn chain) → IfSome tail (IsTailIn longer)
tail-further None chain longer same more within = tt
tail-further (Some tail) chain longer same more within = record {
  used = omega (arith, within.used, more);
  bytes = within.bytes;
  room = subst (λ (part : Numbered). tail.room ≤ part.geometry.size - 4) (sym same) within.room;
}
