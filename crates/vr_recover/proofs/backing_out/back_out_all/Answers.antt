use Rattle.std.proofs.Common.{◌∙◌, refl, subst, sym, take}
use Rattle.std.specs.Prelude.{All}
use Rattle.std.proofs.lemmas.List.{take_all, take_more}
use Rattle.std.proofs.lemmas.List.Elements.{All-nil, All-push, All-weaker}
use Rattle.vr_types.specs.Moments.{Guards}
use Rattle.vr_types.specs.Regions.{Touches}
use Rattle.vr_types.specs.declared.geometry.Geometry.{Geometry}
use Rattle.vr_types.proofs.CallerLemmas.{guards-start, guards-then, touches-then}
use Rattle.vr_log.specs.Live.{live_in}
use Rattle.vr_log.specs.Standing.{InLog}
use Rattle.vr_recover.specs.Recovered.{KeepsAll}
use Rattle.vr_mount.proofs.CallerLemmas.{touches-none}
use Rattle.vr_recover.proofs.BackingOut.{AreOut, left-keeps, none-live, stays-out}
use Rattle.vr_mount.specs.Touched.{Anything}
use Rattle.vr_recover.proofs.backing_out.back_out_all.Goals as goal

pub loop-rec-init : goal.loop-rec-init
loop-rec-init g c = record {
  geometry = refl;
  generation = refl;
  sound = c.requires.sound;
  shape = c.requires.shape;
  stands = c.requires.stands;
  faults = refl;
  touches = λ told. touches-none (InLog c.args.log.now.geometry)
      (g.B.Blocks.seen c.args.blocks.now)
      (λ image there. g.met.B.Blocks.images_may c.args.blocks.now image told there);
  any_moment = λ told number owners images contents undone fewer.
      guards-start (g.B.Blocks.seen c.args.blocks.now)
      (KeepsAll c.args.log.now.geometry number images contents)
      (λ image there. g.met.B.Blocks.images_may c.args.blocks.now image told there)
      (left-keeps number owners c.args.log.now contents (g.B.Blocks.seen c.args.blocks.now)
      undone images fewer);
  before = λ told images fewer. fewer;
  undone = λ told number owners contents undone. undone;
  fewer = λ unit there. there;
  out = All-nil (AreOut (live_in c.args.log.now.records));
}

pub returns-in_err-back_out-clause-any_moment : goal.returns-in_err-back_out-clause-any_moment
returns-in_err-back_out-clause-any_moment g c told number owners images contents undone fewer =
    let b = g.B.Blocks.seen c.loop-rec.blocks in
    let d = g.B.Blocks.seen c.back_out.new.blocks in
    guards-then (g.B.Blocks.seen c.args.blocks.now) b d
    (KeepsAll c.args.log.now.geometry number images contents)
    (c.loop-rec.invariant.any_moment told number owners images contents undone fewer)
    (subst (λ (geometry : Geometry). Guards b d (KeepsAll geometry number images contents))
    c.loop-rec.invariant.geometry
    (c.back_out.ensures.any_moment told number owners images contents
    (c.loop-rec.invariant.undone told number owners contents undone)
    (c.loop-rec.invariant.before told images fewer)))

pub loop-rec-preserved : goal.loop-rec-preserved
loop-rec-preserved g c =
    let b = g.B.Blocks.seen c.loop-rec.blocks in
    let d = g.B.Blocks.seen c.back_out.new.blocks in
    let old = live_in c.loop-rec.log.records in
    let new = live_in c.back_out.new.log.records in
    let out = c.in_ok-back_out.ensures.out in
    let before = take c.loop-rec.rec-index c.args.records.now in
    record {
      geometry = c.in_ok-back_out.ensures.geometry ∙ c.loop-rec.invariant.geometry;
      generation = c.in_ok-back_out.ensures.generation ∙ c.loop-rec.invariant.generation;
      sound = c.in_ok-back_out.ensures.sound;
      shape = c.in_ok-back_out.ensures.shape;
      stands = c.in_ok-back_out.ensures.stands;
      faults = c.in_ok-back_out.ensures.cause.cause.ok ∙ c.loop-rec.invariant.faults;
      touches = λ told. touches-then (InLog c.args.log.now.geometry) Anything
          (g.B.Blocks.seen c.args.blocks.now) b d (c.loop-rec.invariant.touches told)
          (subst (λ (geometry : Geometry). Touches (InLog geometry) Anything b d)
          c.loop-rec.invariant.geometry (c.back_out.ensures.touches told));
      any_moment = λ told number owners images contents undone fewer.
          guards-then (g.B.Blocks.seen c.args.blocks.now) b d
          (KeepsAll c.args.log.now.geometry number images contents)
          (c.loop-rec.invariant.any_moment told number owners images contents undone fewer)
          (subst (λ (geometry : Geometry). Guards b d (KeepsAll geometry number images contents))
          c.loop-rec.invariant.geometry
          (c.back_out.ensures.any_moment told number owners images contents
          (c.loop-rec.invariant.undone told number owners contents undone)
          (c.loop-rec.invariant.before told images fewer)));
      before = λ told images fewer. c.in_ok-back_out.ensures.fewer told images
          (c.loop-rec.invariant.before told images fewer);
      undone = λ told number owners contents undone.
          c.in_ok-back_out.ensures.undone told number owners contents
          (c.loop-rec.invariant.undone told number owners contents undone);
      fewer = λ unit there. c.loop-rec.invariant.fewer unit (out.fewer unit there);
      out = subst (All (AreOut new))
          (sym (take_more c.args.records.now c.loop-rec.rec-index c.rec-item.result
          c.loop-rec-test.true))
          (All-push (AreOut new) before _
          (All-weaker (AreOut old) (AreOut new)
          (λ rec gone unit of. stays-out old new out.fewer unit (gone unit of)) before
          c.loop-rec.invariant.out)
          (subst (AreOut new) c.rec-item.is out.out));
    }

pub returns-clause-none_live : goal.returns-clause-none_live
returns-clause-none_live g c =
    let now = live_in c.loop-rec.log.records in
    none-live c.args.log.now.records now c.loop-rec.invariant.fewer
    (subst (All (AreOut now))
    (take_all c.loop-rec.rec-index c.args.records.now c.loop-rec-test.false ∙ c.requires.records)
    c.loop-rec.invariant.out)

pub returns-in_err-back_out-clause-touches : goal.returns-in_err-back_out-clause-touches
returns-in_err-back_out-clause-touches g c told =
    let b = g.B.Blocks.seen c.loop-rec.blocks in
    let d = g.B.Blocks.seen c.back_out.new.blocks in
    touches-then (InLog c.args.log.now.geometry) Anything
    (g.B.Blocks.seen c.args.blocks.now) b d (c.loop-rec.invariant.touches told)
    (subst (λ (geometry : Geometry). Touches (InLog geometry) Anything b d)
    c.loop-rec.invariant.geometry (c.back_out.ensures.touches told))
