use Rattle.std.proofs.Common.{ℕ, List, subst}
use Rattle.vr_types.specs.Blocks.{Forced}
use Rattle.vr_types.specs.Regions.{Touches}
use Rattle.vr_log.specs.Clearing.{IsAsItWasOrNone}
use Rattle.vr_log.specs.LogNow.{LogNow}
use Rattle.vr_log.specs.Memory.{AreNumbers}
use Rattle.vr_log.specs.Standing.{InLog}
use Rattle.vr_log.proofs.Renewing.{forced_settled, kept_touches, renewed_touches}
use Rattle.vr_log.proofs.log.UndoLog.renew.Goals as goal

pub returns-in_err-force-clause-moments : goal.returns-in_err-force-clause-moments
returns-in_err-force-clause-moments g c told =
    let B = g.B.Blocks in
    kept_touches B.tells c.args.self.now (B.seen c.args.blocks.now) (B.seen c.force.new.self) told
    (c.requires.stands told) c.force.ensures.after

pub clear_all-requires-clause-settled : goal.clear_all-requires-clause-settled
clear_all-requires-clause-settled g c told =
    let B = g.B.Blocks in
    let i = c.self.inside in
    let numbers : AreNumbers i.geometry i.numbers = c.self.invariant.1 in
    forced_settled B.tells i.geometry i.numbers.items (B.seen c.args.blocks.now)
    (B.seen c.force.new.self) told numbers.each numbers.count
    (subst (λ (listed : List ℕ). Forced listed (B.seen c.args.blocks.now).cur
    (B.seen c.force.new.self).may) c.deref.ensures.value (c.in_ok-force.ensures.forced told))
    c.force.ensures.after

pub returns-in_err-clear_all-clause-moments : goal.returns-in_err-clear_all-clause-moments
returns-in_err-clear_all-clause-moments g c told =
    let B = g.B.Blocks in
    let mid = B.seen c.force.new.self in
    let last = B.seen c.clear_all.new.blocks in
    renewed_touches B.tells c.args.self.now (B.seen c.args.blocks.now) mid last told
    (c.requires.stands told) c.force.ensures.after
    (subst (λ (log : LogNow). Touches (InLog log.geometry) (IsAsItWasOrNone log.geometry mid) mid
    last) c.self.view_is (c.clear_all.ensures.moments told))

pub returns-clause-moments : goal.returns-clause-moments
returns-clause-moments g c told =
    let B = g.B.Blocks in
    let mid = B.seen c.force.new.self in
    let last = B.seen c.clear_all.new.blocks in
    renewed_touches B.tells c.args.self.now (B.seen c.args.blocks.now) mid last told
    (c.requires.stands told) c.force.ensures.after
    (subst (λ (log : LogNow). Touches (InLog log.geometry) (IsAsItWasOrNone log.geometry mid) mid
    last) c.self.view_is (c.clear_all.ensures.moments told))
