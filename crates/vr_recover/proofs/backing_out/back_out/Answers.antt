use Rattle.std.proofs.Common.{subst, sym, refl}
use Rattle.vr_types.specs.declared.geometry.Geometry.{Geometry}
use Rattle.vr_types.proofs.CallerLemmas.{guards-start, guards-weaken, touches-weaken}
use Rattle.vr_log.specs.LogNow.{HasLog, with_record}
use Rattle.vr_log.specs.Standing.{InLog}
use Rattle.vr_log.specs.declared.record.EndKind.TheVariants.{BackedOut}
use Rattle.vr_log.specs.declared.record.LogRecord.TheVariants.{End}
use Rattle.vr_recover.specs.Recovered.{KeepsAll}
use Rattle.vr_volume.specs.Safe.{IsSafe, IsSafeImage}
use Rattle.vr_mount.specs.Touched.{Anything}
use Rattle.vr_mount.proofs.CallerLemmas.{touches-none}
use Rattle.vr_recover.specs.Undone.{HasAll, IsBeforeOf, alike}
use Rattle.vr_recover.proofs.BackingOut.{all-stays, end-undone, fewer-ended, fewer-more, left-keeps}
use Rattle.vr_recover.proofs.BackingOut.{out-ended, safe-keeps}
use Rattle.vr_recover.proofs.backing_out.back_out.Goals as goal

pub returns-else-is_live-clause-any_moment : goal.returns-else-is_live-clause-any_moment
returns-else-is_live-clause-any_moment g c told number owners images contents undone
    fewer =
    guards-start (g.B.Blocks.seen c.args.blocks.now)
    (KeepsAll c.args.log.now.geometry number images contents)
    (λ image there. g.met.B.Blocks.images_may c.args.blocks.now image told there)
    (left-keeps number owners c.args.log.now contents (g.B.Blocks.seen c.args.blocks.now) undone
    images fewer)

pub returns-in_default-clause-any_moment : goal.returns-in_default-clause-any_moment
returns-in_default-clause-any_moment g c told number owners images contents undone
    fewer =
    guards-start (g.B.Blocks.seen c.args.blocks.now)
    (KeepsAll c.args.log.now.geometry number images contents)
    (λ image there. g.met.B.Blocks.images_may c.args.blocks.now image told there)
    (left-keeps number owners c.args.log.now contents (g.B.Blocks.seen c.args.blocks.now) undone
    images fewer)

pub returns-in_ok-append_end-clause-any_moment : goal.returns-in_ok-append_end-clause-any_moment
returns-in_ok-append_end-clause-any_moment g c told number owners images contents undone
    fewer =
    let B = g.B.Blocks in
    let log = c.args.log.now in
    let a = B.seen c.args.blocks.now in
    let most = (c.requires.stands told).forced in
    let more = with_record log (End c.in-Before.unit BackedOut) in
    guards-weaken a (B.seen c.append_end.new.blocks)
    (IsSafeImage log.geometry number owners more (alike contents))
    (KeepsAll log.geometry number images contents)
    (c.append_end.ensures.safe told number owners (alike contents) undone.safe
    (end-undone number owners log contents a undone most c.in-Before.unit BackedOut))
    (safe-keeps log.geometry number owners more images contents
    (fewer-more images log c.in-Before.unit BackedOut most c.requires.sound fewer))

pub returns-in_err-append_end-clause-any_moment : goal.returns-in_err-append_end-clause-any_moment
returns-in_err-append_end-clause-any_moment g c told number owners images contents undone
    fewer =
    let B = g.B.Blocks in
    let log = c.args.log.now in
    let a = B.seen c.args.blocks.now in
    let most = (c.requires.stands told).forced in
    let more = with_record log (End c.in-Before.unit BackedOut) in
    guards-weaken a (B.seen c.append_end.new.blocks)
    (IsSafeImage log.geometry number owners more (alike contents))
    (KeepsAll log.geometry number images contents)
    (c.append_end.ensures.safe told number owners (alike contents) undone.safe
    (end-undone number owners log contents a undone most c.in-Before.unit BackedOut))
    (safe-keeps log.geometry number owners more images contents
    (fewer-more images log c.in-Before.unit BackedOut most c.requires.sound fewer))

pub returns-in_ok-append_end-clause-undone : goal.returns-in_ok-append_end-clause-undone
returns-in_ok-append_end-clause-undone g c told number owners contents undone =
    let B = g.B.Blocks in
    let log = c.args.log.now in
    let new = c.append_end.new.log in
    let a = B.seen c.args.blocks.now in
    let b = B.seen c.append_end.new.blocks in
    let most = (c.requires.stands told).forced in
    let same = c.in_ok-append_end.ensures.log.geometry in
    let committed = alike contents in
    record {
      safe = subst (λ (geometry : Geometry). IsSafe geometry number owners new committed b)
          (sym same)
          (c.in_ok-append_end.ensures.ended told number owners committed undone.safe
          (end-undone number owners log contents a undone most c.in-Before.unit BackedOut));
      ascends = undone.ascends;
      all = subst (λ (geometry : Geometry). HasAll geometry contents b) (sym same)
          (all-stays number owners log contents a undone most b
          (λ n block below out may. (c.append_end.ensures.touches told).adds_none n block below out
          may));
    }

pub returns-in_ok-append_end-clause-out : goal.returns-in_ok-append_end-clause-out
returns-in_ok-append_end-clause-out g c =
    let log = c.args.log.now in
    out-ended log.records c.append_end.new.log.records c.in-Before.unit BackedOut c.args.rec.now
    c.in_ok-append_end.ensures.log.records
    (subst (IsBeforeOf c.in-Before.unit) (sym c.in-Before.is) refl)
    (λ other of. sym (subst (IsBeforeOf other) c.in-Before.is of))

pub returns-else-is_live-clause-touches : goal.returns-else-is_live-clause-touches
returns-else-is_live-clause-touches g c told = touches-none (InLog c.args.log.now.geometry)
    (g.B.Blocks.seen c.args.blocks.now)
    (λ image there. g.met.B.Blocks.images_may c.args.blocks.now image told there)

pub returns-in_default-clause-touches : goal.returns-in_default-clause-touches
returns-in_default-clause-touches g c told = touches-none (InLog c.args.log.now.geometry)
    (g.B.Blocks.seen c.args.blocks.now)
    (λ image there. g.met.B.Blocks.images_may c.args.blocks.now image told there)

pub returns-in_ok-append_end-clause-touches : goal.returns-in_ok-append_end-clause-touches
returns-in_ok-append_end-clause-touches g c told =
    let log = c.args.log.now in
    touches-weaken (InLog log.geometry) (HasLog (with_record log (End c.in-Before.unit BackedOut)))
    Anything (g.B.Blocks.seen c.args.blocks.now) (g.B.Blocks.seen c.append_end.new.blocks)
    (c.append_end.ensures.touches told) (λ image has. tt)

pub returns-in_err-append_end-clause-touches : goal.returns-in_err-append_end-clause-touches
returns-in_err-append_end-clause-touches g c told =
    let log = c.args.log.now in
    touches-weaken (InLog log.geometry) (HasLog (with_record log (End c.in-Before.unit BackedOut)))
    Anything (g.B.Blocks.seen c.args.blocks.now) (g.B.Blocks.seen c.append_end.new.blocks)
    (c.append_end.ensures.touches told) (λ image has. tt)

pub returns-in_ok-append_end-clause-fewer : goal.returns-in_ok-append_end-clause-fewer
returns-in_ok-append_end-clause-fewer g c told images fewer =
    fewer-ended images c.args.log.now c.append_end.new.log c.in-Before.unit BackedOut
    (c.requires.stands told).forced c.in_ok-append_end.ensures.log fewer
