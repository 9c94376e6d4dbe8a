use Rattle.std.proofs.Common.{arith}
use mathlib.Core.Option.{none}
use Rattle.vr_frames.specs.Rule.{IsBuffer}
use Rattle.vr_frames.proofs.Steps.{claims}
use Rattle.vr_frames.proofs.Claims.{claim_made}
use Rattle.vr_frames.proofs.shared.Pool.claim.Goals as goal

pub compare_exchange-found-requires : goal.compare_exchange-found-requires
compare_exchange-found-requires c = let idle = c.requires.idle in (
  idle.of_pool,
  omega (
    arith,
    c.args.self.now.counts.0,
    c.args.self.now.counts.1,
    c.requires.number,
  ),
  claims IsBuffer _ _ _ _ _ _ none c.requires.number idle.has_part
      idle.no_frame,
)

pub returns : goal.returns
returns c = let made = c.compare_exchange-found.ensures in
    claim_made _ _ c.args.self.now.table.shared.table_id.slots _ _
    (made.0, made.1) c.requires.idle.no_slot made.2
