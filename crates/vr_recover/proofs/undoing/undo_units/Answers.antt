use Rattle.std.proofs.Common.{get_or}
use Rattle.vr_types.proofs.CallerLemmas.{guards-then, guards-weaken}
use Rattle.vr_part.specs.Any.{known_any, shape_any}
use Rattle.vr_space.specs.Part.{part_no}
use Rattle.vr_recover.specs.Recovered.{KeepsAll}
use Rattle.vr_volume.specs.PutBack.{images_of}
use Rattle.vr_volume.specs.Safe.{IsSafeImage}
use Rattle.vr_volume.proofs.Calls.{stays-part}
use Rattle.vr_mount.specs.Touched.{Anything}
use Rattle.vr_recover.specs.Undone.{IsUndone, alike}
use Rattle.vr_recover.proofs.BackingOut.{fewer-all, safe-keeps}
use Rattle.vr_recover.proofs.PartsBack.{ready-stays}
use Rattle.vr_recover.proofs.undoing.undo_units.Goals as goal

pub returns-in_err-put_back_all-clause-any_moment :
    goal.returns-in_err-put_back_all-clause-any_moment
returns-in_err-put_back_all-clause-any_moment g c told number owners contents settled =
    let log = c.args.log.now in
    let a = g.B.Blocks.seen c.args.blocks.now in
    let b = g.B.Blocks.seen c.put_back_all.new.blocks in
    let first = c.put_back_all.ensures.safe told log.geometry number owners contents settled.safe
    settled.opened in
    let images = images_of log.records in
    let keeps = guards-weaken a b (IsSafeImage log.geometry number owners log (alike contents))
    (KeepsAll log.geometry number images contents) first.0
    (safe-keeps log.geometry number owners log images contents
    (fewer-all log settled.opened.records)) in
    keeps

pub returns-in_err-end_all-clause-any_moment : goal.returns-in_err-end_all-clause-any_moment
returns-in_err-end_all-clause-any_moment g c told number owners contents settled =
    let log = c.args.log.now in
    let a = g.B.Blocks.seen c.args.blocks.now in
    let b = g.B.Blocks.seen c.put_back_all.new.blocks in
    let first = c.put_back_all.ensures.safe told log.geometry number owners contents settled.safe
    settled.opened in
    let images = images_of log.records in
    let keeps = guards-weaken a b (IsSafeImage log.geometry number owners log (alike contents))
    (KeepsAll log.geometry number images contents) first.0
    (safe-keeps log.geometry number owners log images contents
    (fewer-all log settled.opened.records)) in
    let undone : IsUndone number owners log contents b = record {
      safe = first.1;
      ascends = settled.ascends;
      all = c.in_ok-put_back_all.ensures.all told log.geometry number owners contents settled.safe
          settled.opened settled.parts settled.covered;
    } in
    guards-then a b (g.B.Blocks.seen c.end_all.new.blocks)
    (KeepsAll log.geometry number images contents) keeps
    (c.end_all.ensures.any_moment told number owners images contents undone
    (fewer-all log settled.opened.records))

pub returns-clause-any_moment : goal.returns-clause-any_moment
returns-clause-any_moment g c told number owners contents settled =
    let log = c.args.log.now in
    let a = g.B.Blocks.seen c.args.blocks.now in
    let b = g.B.Blocks.seen c.put_back_all.new.blocks in
    let first = c.put_back_all.ensures.safe told log.geometry number owners contents settled.safe
    settled.opened in
    let images = images_of log.records in
    let keeps = guards-weaken a b (IsSafeImage log.geometry number owners log (alike contents))
    (KeepsAll log.geometry number images contents) first.0
    (safe-keeps log.geometry number owners log images contents
    (fewer-all log settled.opened.records)) in
    let undone : IsUndone number owners log contents b = record {
      safe = first.1;
      ascends = settled.ascends;
      all = c.in_ok-put_back_all.ensures.all told log.geometry number owners contents settled.safe
          settled.opened settled.parts settled.covered;
    } in
    guards-then a b (g.B.Blocks.seen c.end_all.new.blocks)
    (KeepsAll log.geometry number images contents) keeps
    (c.end_all.ensures.any_moment told number owners images contents undone
    (fewer-all log settled.opened.records))

pub returns-clause-undone : goal.returns-clause-undone
returns-clause-undone g c told number owners contents settled =
    let log = c.args.log.now in
    let b = g.B.Blocks.seen c.put_back_all.new.blocks in
    let first = c.put_back_all.ensures.safe told log.geometry number owners contents settled.safe
    settled.opened in
    let undone : IsUndone number owners log contents b = record {
      safe = first.1;
      ascends = settled.ascends;
      all = c.in_ok-put_back_all.ensures.all told log.geometry number owners contents settled.safe
          settled.opened settled.parts settled.covered;
    } in
    c.in_ok-end_all.ensures.undone told number owners contents undone

pub returns-clause-ready : goal.returns-clause-ready
returns-clause-ready g c told owners past all k d below =
    let geometry = c.args.log.now.geometry in
    let part = get_or c.put_back_all.new.parts k d in
    let shape = shape_any part in
    let b = g.B.Blocks.seen c.put_back_all.new.blocks in
    let e = g.B.Blocks.seen c.end_all.new.blocks in
    ready-stays shape owners b e
    (stays-part geometry shape owners Anything b e past (c.end_all.ensures.touches told))
    (known_any part) (g.K.Kept.kept c.args.kept.now (part_no shape))
    (g.met.B.Blocks.cur_may c.put_back_all.new.blocks told)
    (c.in_ok-put_back_all.ensures.ready told owners all k d below)
