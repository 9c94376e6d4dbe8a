use Rattle.std.proofs.Common.{subst, sym, ap, ◌∙◌}
use Rattle.vr_log.specs.LogNow.{IsLogOf, LogNow}
use Rattle.vr_volume.specs.Laying.{IsFreeIn}
use Rattle.vr_volume.proofs.LogCalls.{forced-free, forced-geometry, forced-less, log-after}
use Rattle.vr_volume.proofs.LogCalls.{log-guards, safe-fewer}
use Rattle.vr_volume.proofs.logging.force_log.Goals as goal

pub returns-in_err-force-clause-safe : goal.returns-in_err-force-clause-safe
returns-in_err-force-clause-safe g c told number owners committed safe =
    let B = g.B.Blocks in
    log-guards c.args.log.now.geometry number owners committed c.args.log.now
    (B.seen c.args.blocks.now) (B.seen c.force.new.blocks) safe (c.force.ensures.moments told)

pub returns-clause-safe : goal.returns-clause-safe
returns-clause-safe g c told number owners committed safe =
    let B = g.B.Blocks in
    log-guards c.args.log.now.geometry number owners committed c.args.log.now
    (B.seen c.args.blocks.now) (B.seen c.force.new.blocks) safe (c.force.ensures.moments told)

pub returns-clause-after : goal.returns-clause-after
returns-clause-after g c told number owners committed safe =
    let B = g.B.Blocks in
    let log = c.args.log.now in
    let new = c.force.new.self in
    let b = B.seen c.force.new.blocks in
    let is = c.in_ok-force.ensures.forced in
    safe-fewer log.geometry number owners committed log new b
    (log-after log.geometry number owners committed log (B.seen c.args.blocks.now) b safe
    (c.force.ensures.moments told))
    (ap (λ (l : LogNow). l.geometry) is
    ∙ forced-geometry log)
    (λ content has. forced-less log (c.requires.stands told).forced content
    (subst (λ (l : LogNow). IsLogOf l content) is has))
    (c.in_ok-force.ensures.stands told)

pub returns-clause-free : goal.returns-clause-free
returns-clause-free g c told part place has =
    let log = c.args.log.now in
    let stands = c.requires.stands told in
    subst (λ (l : LogNow). IsFreeIn l part place) (sym c.in_ok-force.ensures.forced)
    (forced-free log stands.forced stands.behind part place has)
