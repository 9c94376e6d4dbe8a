use Rattle.std.proofs.lemmas.Result.{err_from_is_err_and}
use Rattle.vr_types.proofs.CallerLemmas.{keeps-then}
use Rattle.vr_recover.proofs.Attaching.{cause-then}
use Rattle.vr_recover.proofs.mounted.read_records.Goals as goal

pub returns-in_err-records-clause-keeps : goal.returns-in_err-records-clause-keeps
returns-in_err-records-clause-keeps g c =
    keeps-then g.B.Blocks.tells (g.B.Blocks.seen c.args.blocks.now)
    (g.B.Blocks.seen c.attach_own.new.blocks) (g.B.Blocks.seen c.list.new.blocks)
    c.attach_own.ensures.keeps c.list.ensures.keeps

pub returns-in_err-records-clause-cause : goal.returns-in_err-records-clause-cause
returns-in_err-records-clause-cause g c =
    let p = err_from_is_err_and c.from_residual-in_err-records.result
    c.from_residual-in_err-records.ensures.1 in
    rw (p.1, p.2) (cause-then (g.B.Blocks.faults c.args.blocks.now)
    (g.B.Blocks.faults c.attach_own.new.blocks) (g.B.Blocks.faults c.list.new.blocks) _
    c.in_ok-own.ensures.cause.ok c.in_err-records.ensures.cause)

pub returns-in_err-add-clause-keeps : goal.returns-in_err-add-clause-keeps
returns-in_err-add-clause-keeps g c =
    keeps-then g.B.Blocks.tells (g.B.Blocks.seen c.args.blocks.now)
    (g.B.Blocks.seen c.attach_own.new.blocks) (g.B.Blocks.seen c.list.new.blocks)
    c.attach_own.ensures.keeps c.list.ensures.keeps

pub returns-clause-keeps : goal.returns-clause-keeps
returns-clause-keeps g c =
    keeps-then g.B.Blocks.tells (g.B.Blocks.seen c.args.blocks.now)
    (g.B.Blocks.seen c.attach_own.new.blocks) (g.B.Blocks.seen c.list.new.blocks)
    c.attach_own.ensures.keeps c.list.ensures.keeps
