use Rattle.std.proofs.Common.{◌≡◌, ◌+◌, ◌<◌, ◌^◌, ap, arith, refl, subst, sym}
use Rattle.vr_types.specs.declared.geometry.Geometry.{Geometry}
use Rattle.vr_types.proofs.CallerLemmas.{guards-start, touches-weaken}
use Rattle.vr_log.specs.LogNow.{HasLogOrNone, LogNow}
use Rattle.vr_log.specs.Standing.{InLog, LogStands}
use Rattle.vr_log.proofs.CallerLemmas.{restarted_stands}
use Rattle.vr_volume.specs.Safe.{IsSafe}
use Rattle.vr_mount.specs.Touched.{Anything}
use Rattle.vr_mount.proofs.CallerLemmas.{touches-none}
use Rattle.vr_recover.specs.Recovered.{KeepsAll}
use Rattle.vr_recover.specs.Undone.{HasAll, IsUndone, alike}
use Rattle.vr_recover.proofs.BackingOut.{left-keeps}
use Rattle.vr_recover.proofs.BeginningAgain.{each-fewer, renewed-guards, renewed-undone}
use Rattle.vr_recover.proofs.backing_out.begin_again.Goals as goal

pub returns-then-generation-clause-touches : goal.returns-then-generation-clause-touches
returns-then-generation-clause-touches g c told =
    touches-none (InLog c.args.log.now.geometry) (g.B.Blocks.seen c.args.blocks.now)
    (λ image there. g.met.B.Blocks.images_may c.args.blocks.now image told there)

pub returns-then-generation-clause-any_moment : goal.returns-then-generation-clause-any_moment
returns-then-generation-clause-any_moment g c told number owners images contents undone =
    let log = c.args.log.now in
    let a = g.B.Blocks.seen c.args.blocks.now in
    guards-start a (KeepsAll log.geometry number images contents)
    (λ image there. g.met.B.Blocks.images_may c.args.blocks.now image told there)
    (left-keeps number owners log contents a undone images
    (each-fewer number owners log contents a undone (c.requires.stands told) c.requires.forced
    c.requires.none_live images))

pub returns-then-generation-clause-stands : goal.returns-then-generation-clause-stands
returns-then-generation-clause-stands g c told =
    let log = c.args.log.now in
    let a = g.B.Blocks.seen c.args.blocks.now in
    let below : log.generation + 1 < 2 ^ 63 =
    omega (arith, c.if-generation.true, c.generation.ensures) in
    subst (λ (l : LogNow). LogStands l a) (sym c.restart_log.ensures.restarted)
    (restarted_stands log a (c.requires.stands told) c.requires.forced c.requires.none_live below)

pub returns-then-generation-clause-undone : goal.returns-then-generation-clause-undone
returns-then-generation-clause-undone g c told number owners contents undone =
    let log = c.args.log.now in
    let a = g.B.Blocks.seen c.args.blocks.now in
    let new = c.restart_log.new.log in
    let below : log.generation + 1 < 2 ^ 63 =
    omega (arith, c.if-generation.true, c.generation.ensures) in
    let next : new.geometry ≡ log.geometry =
    ap (λ (l : LogNow). l.geometry) c.restart_log.ensures.restarted in
    let safe = c.restart_log.ensures.safe told number owners (alike contents) below
    (c.requires.stands told) undone.safe refl in
    record {
      safe = subst (λ (geometry : Geometry). IsSafe geometry number owners new (alike contents) a)
          (sym next) safe.0;
      ascends = undone.ascends;
      all = subst (λ (geometry : Geometry). HasAll geometry contents a) (sym next) undone.all;
    }

pub returns-in_err-renew-clause-touches : goal.returns-in_err-renew-clause-touches
returns-in_err-renew-clause-touches g c told =
    let log = c.args.log.now in
    touches-weaken (InLog log.geometry) (HasLogOrNone log) Anything
    (g.B.Blocks.seen c.args.blocks.now) (g.B.Blocks.seen c.renew.new.blocks)
    (c.renew.ensures.moments told) (λ image has. tt)

pub returns-in_err-renew-clause-any_moment : goal.returns-in_err-renew-clause-any_moment
returns-in_err-renew-clause-any_moment g c told number owners images contents undone =
    renewed-guards number owners c.args.log.now contents (g.B.Blocks.seen c.args.blocks.now) undone
    (c.requires.stands told) c.requires.forced c.requires.none_live
    (g.B.Blocks.seen c.renew.new.blocks) (c.renew.ensures.moments told) images

pub returns-clause-touches : goal.returns-clause-touches
returns-clause-touches g c told =
    let log = c.args.log.now in
    touches-weaken (InLog log.geometry) (HasLogOrNone log) Anything
    (g.B.Blocks.seen c.args.blocks.now) (g.B.Blocks.seen c.renew.new.blocks)
    (c.renew.ensures.moments told) (λ image has. tt)

pub returns-clause-any_moment : goal.returns-clause-any_moment
returns-clause-any_moment g c told number owners images contents undone =
    renewed-guards number owners c.args.log.now contents (g.B.Blocks.seen c.args.blocks.now) undone
    (c.requires.stands told) c.requires.forced c.requires.none_live
    (g.B.Blocks.seen c.renew.new.blocks) (c.renew.ensures.moments told) images

pub returns-clause-undone : goal.returns-clause-undone
returns-clause-undone g c told number owners contents undone =
    let e = g.B.Blocks.seen c.renew.new.blocks in
    let is = c.in_ok-renew.ensures.log in
    subst (λ (l : LogNow). IsUndone number owners l contents e) (sym is)
    (renewed-undone number owners c.args.log.now contents (g.B.Blocks.seen c.args.blocks.now)
    undone (c.requires.stands told) c.requires.forced c.requires.none_live e
    (c.renew.ensures.moments told)
    (subst (λ (l : LogNow). LogStands l e) is (c.in_ok-renew.ensures.stands told)))
