use Rattle.std.proofs.Common.{List, subst, sym}
use Rattle.vr_history.specs.State.{BeforeImage}
use Rattle.vr_log.specs.LogNow.{HasLog, with_record}
use Rattle.vr_log.specs.declared.record.LogRecord.TheVariants.{End}
use Rattle.vr_undo.specs.Records.{images_in}
use Rattle.vr_volume.specs.Rests.{IsPartAtRest, IsVolumeAtRest}
use Rattle.vr_volume.proofs.EndCalls.{end-guards, ended-log, part-after, rests-after, stands-on}
use Rattle.vr_volume.proofs.unit_end.end_unit.Goals as goal

pub returns-in_err-log_end-clause-any_moment : goal.returns-in_err-log_end-clause-any_moment
returns-in_err-log_end-clause-any_moment g c told geometry number owners old rest firm none =
    let B = g.B.Blocks in
    end-guards geometry number owners c.args.log.now (images_in c.args.undo.now) old
    (B.seen c.args.blocks.now) (B.seen c.log_end.new.blocks) c.args.unit c.args.kind rest firm none
    (c.log_end.ensures.touches told)

pub returns-clause-any_moment : goal.returns-clause-any_moment
returns-clause-any_moment g c told geometry number owners old rest firm none =
    let B = g.B.Blocks in
    end-guards geometry number owners c.args.log.now (images_in c.args.undo.now) old
    (B.seen c.args.blocks.now) (B.seen c.log_end.new.blocks) c.args.unit c.args.kind rest firm none
    (c.log_end.ensures.touches told)

pub returns-clause-rests : goal.returns-clause-rests
returns-clause-rests g c told geometry number owners old new rest current firm none made below =
    let B = g.B.Blocks in
    let after = c.restart_idle.new.log in
    let b = B.seen c.log_end.new.blocks in
    subst (λ (images : List BeforeImage). IsVolumeAtRest geometry number owners after images new b)
    (sym c.forget.ensures.images)
    (rests-after geometry number owners c.args.log.now (images_in c.args.undo.now) old
    (B.seen c.args.blocks.now) b c.args.unit c.args.kind rest firm none
    (c.log_end.ensures.touches told) new current made c.log_end.new.log
    (c.in_ok-log_end.ensures.logged told) c.in_ok-log_end.ensures.log
    (c.in_ok-log_end.ensures.stands told) after c.requires.live below c.restart_idle.ensures.idle
    c.restart_idle.ensures.live)

pub returns-clause-others : goal.returns-clause-others
returns-clause-others g c told geometry number owners old new shape known is rest firm made part =
    let B = g.B.Blocks in
    let log = c.args.log.now in
    let a = B.seen c.args.blocks.now in
    let b = B.seen c.log_end.new.blocks in
    subst (λ (images : List BeforeImage). IsPartAtRest geometry owners images new shape known b)
    (sym c.forget.ensures.images)
    (part-after geometry number owners log (HasLog (with_record log (End c.args.unit c.args.kind)))
    (images_in c.args.undo.now) old new c.args.unit shape known a b is rest firm
    (g.met.B.Blocks.cur_may c.args.blocks.now told) (c.log_end.ensures.touches told) made part)

pub returns-clause-log : goal.returns-clause-log
returns-clause-log g c =
    ended-log c.args.log.now c.log_end.new.log c.restart_idle.new.log c.args.unit c.args.kind
    c.in_ok-log_end.ensures.log c.restart_idle.ensures.idle c.restart_idle.ensures.live

pub returns-clause-stands : goal.returns-clause-stands
returns-clause-stands g c told below =
    stands-on c.args.log.now c.log_end.new.log c.restart_idle.new.log c.args.unit c.args.kind
    c.in_ok-log_end.ensures.log c.restart_idle.ensures.idle c.restart_idle.ensures.live
    (g.B.Blocks.seen c.log_end.new.blocks) (c.in_ok-log_end.ensures.stands told) below
