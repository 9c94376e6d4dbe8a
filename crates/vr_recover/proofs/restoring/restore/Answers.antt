use Rattle.std.proofs.Common.{List, sym, ap, subst, ◌∙◌}
use Rattle.std.specs.Prelude.{All, OnOk}
use Rattle.std.proofs.lemmas.Result.{on_ok_weaker}
use Rattle.vr_attach.specs.Owning.{IsPastLog, owner_of}
use Rattle.vr_log.specs.LogNow.{LogNow}
use Rattle.vr_undo.specs.Records.{images_in}
use Rattle.vr_undo.specs.declared.record.KeptRecord.{KeptRecord}
use Rattle.vr_attach.proofs.CallerLemmas.{owner-past-log}
use Rattle.vr_recover.specs.Found.{IsPartReady}
use Rattle.vr_recover.proofs.Clearing.{IsCleared, cleared-guards, then-moments, then-ready}
use Rattle.vr_recover.proofs.Clearing.{then-settled, undoable}
use Rattle.vr_recover.proofs.Refusals.{log-long}
use Rattle.vr_recover.proofs.restoring.restore.Goals as goal

pub returns-in_err-clear-clause-any_moment : goal.returns-in_err-clear-clause-any_moment
returns-in_err-clear-clause-any_moment g c told number contents is =
    let geometry = c.args.geometry.now in
    let content = c.args.begun.now.content in
    let a = g.B.Blocks.seen c.args.blocks.now in
    let long = log-long geometry a c.requires.allowed c.requires.shape
    (g.met.B.Blocks.cur_may c.args.blocks.now told)
    (λ n block below may. g.met.B.Blocks.sized c.args.blocks.now n block told below may) in
    cleared-guards geometry content a (g.B.Blocks.seen c.clear.new.blocks) c.requires.allowed
    c.requires.shape (c.requires.forced told) long (c.requires.found told).1.spelled
    (c.clear.ensures.moments told) number contents is

pub undo-requires-clause-undoable : goal.undo-requires-clause-undoable
undo-requires-clause-undoable g c =
    undoable c.args.geometry.now c.args.begun.now.content c.args.found.now.catalog.value
    c.args.parts.now.items c.requires.planned c.requires.allowed c.args.begun.now.log
    (images_in c.deref.result.now) (g.B.Blocks.seen c.clear.new.blocks) c.requires.split
    c.clear.ensures.shape c.requires.log (ap images_in c.deref.ensures ∙ c.requires.kept)

pub undo-requires-clause-ready : goal.undo-requires-clause-ready
undo-requires-clause-ready g c told =
    let geometry = c.args.geometry.now in
    let content = c.args.begun.now.content in
    let entries = c.args.found.now.catalog.value in
    let parts = c.args.parts.now.items in
    let areas = c.args.found.now.space in
    let a = g.B.Blocks.seen c.args.blocks.now in
    let b = g.B.Blocks.seen c.clear.new.blocks in
    let cleared : IsCleared geometry content entries parts areas a b = record {
      allowed = c.requires.allowed;
      of = c.requires.shape;
      of_then = c.clear.ensures.shape;
      forced = c.requires.forced told;
      forced_then = c.in_ok-clear.ensures.forced told (c.requires.forced told);
      left = g.met.B.Blocks.cur_may c.args.blocks.now told;
      long = log-long geometry a c.requires.allowed c.requires.shape
          (g.met.B.Blocks.cur_may c.args.blocks.now told)
          (λ n block below may. g.met.B.Blocks.sized c.args.blocks.now n block told below may);
      long_then = log-long geometry b c.requires.allowed c.clear.ensures.shape
          (g.met.B.Blocks.cur_may c.clear.new.blocks told)
          (λ n block below may. g.met.B.Blocks.sized c.clear.new.blocks n block told below may);
      number = (c.requires.found told).0;
      found = (c.requires.found told).1;
      known = c.requires.known told;
      spelled_then = c.clear.ensures.spelled told;
      call = c.clear.ensures.moments told;
      stands = c.in_ok-clear.ensures.stands told;
    } in
    let owners = owner_of geometry areas in (
      owners,
      subst (λ (l : LogNow). IsPastLog l.geometry owners) (sym c.requires.log)
          (owner-past-log geometry areas),
      then-ready geometry content entries parts c.requires.planned areas a b cleared
          (images_in c.deref.result.now) (ap images_in c.deref.ensures ∙ c.requires.kept),
    )

pub returns-clause-any_moment : goal.returns-clause-any_moment
returns-clause-any_moment g c told number contents is =
    let geometry = c.args.geometry.now in
    let content = c.args.begun.now.content in
    let entries = c.args.found.now.catalog.value in
    let parts = c.args.parts.now.items in
    let areas = c.args.found.now.space in
    let a = g.B.Blocks.seen c.args.blocks.now in
    let b = g.B.Blocks.seen c.clear.new.blocks in
    let cleared : IsCleared geometry content entries parts areas a b = record {
      allowed = c.requires.allowed;
      of = c.requires.shape;
      of_then = c.clear.ensures.shape;
      forced = c.requires.forced told;
      forced_then = c.in_ok-clear.ensures.forced told (c.requires.forced told);
      left = g.met.B.Blocks.cur_may c.args.blocks.now told;
      long = log-long geometry a c.requires.allowed c.requires.shape
          (g.met.B.Blocks.cur_may c.args.blocks.now told)
          (λ n block below may. g.met.B.Blocks.sized c.args.blocks.now n block told below may);
      long_then = log-long geometry b c.requires.allowed c.clear.ensures.shape
          (g.met.B.Blocks.cur_may c.clear.new.blocks told)
          (λ n block below may. g.met.B.Blocks.sized c.clear.new.blocks n block told below may);
      number = (c.requires.found told).0;
      found = (c.requires.found told).1;
      known = c.requires.known told;
      spelled_then = c.clear.ensures.spelled told;
      call = c.clear.ensures.moments told;
      stands = c.in_ok-clear.ensures.stands told;
    } in
    then-moments geometry content entries parts c.requires.planned areas a b cleared number contents
    is c.args.begun.now.log (g.B.Blocks.seen c.undo.new.blocks) c.requires.log
    (c.undo.ensures.any_moment told number (owner_of geometry areas) contents)

pub returns-clause-undone : goal.returns-clause-undone
returns-clause-undone g c told =
    let geometry = c.args.geometry.now in
    let content = c.args.begun.now.content in
    let entries = c.args.found.now.catalog.value in
    let parts = c.args.parts.now.items in
    let areas = c.args.found.now.space in
    let a = g.B.Blocks.seen c.args.blocks.now in
    let b = g.B.Blocks.seen c.clear.new.blocks in
    let cleared : IsCleared geometry content entries parts areas a b = record {
      allowed = c.requires.allowed;
      of = c.requires.shape;
      of_then = c.clear.ensures.shape;
      forced = c.requires.forced told;
      forced_then = c.in_ok-clear.ensures.forced told (c.requires.forced told);
      left = g.met.B.Blocks.cur_may c.args.blocks.now told;
      long = log-long geometry a c.requires.allowed c.requires.shape
          (g.met.B.Blocks.cur_may c.args.blocks.now told)
          (λ n block below may. g.met.B.Blocks.sized c.args.blocks.now n block told below may);
      long_then = log-long geometry b c.requires.allowed c.clear.ensures.shape
          (g.met.B.Blocks.cur_may c.clear.new.blocks told)
          (λ n block below may. g.met.B.Blocks.sized c.clear.new.blocks n block told below may);
      number = (c.requires.found told).0;
      found = (c.requires.found told).1;
      known = c.requires.known told;
      spelled_then = c.clear.ensures.spelled told;
      call = c.clear.ensures.moments told;
      stands = c.in_ok-clear.ensures.stands told;
    } in
    on_ok_weaker c.undo.result
    (λ undone number contents is. undone number (owner_of geometry areas) contents
    (then-settled geometry content entries parts c.requires.planned areas a b cleared number
    contents is c.args.begun.now.log c.requires.log))
    (c.undo.ensures.undone told)

pub returns-clause-ready : goal.returns-clause-ready
returns-clause-ready g c told =
    let geometry = c.args.geometry.now in
    let content = c.args.begun.now.content in
    let entries = c.args.found.now.catalog.value in
    let parts = c.args.parts.now.items in
    let areas = c.args.found.now.space in
    let a = g.B.Blocks.seen c.args.blocks.now in
    let b = g.B.Blocks.seen c.clear.new.blocks in
    let cleared : IsCleared geometry content entries parts areas a b = record {
      allowed = c.requires.allowed;
      of = c.requires.shape;
      of_then = c.clear.ensures.shape;
      forced = c.requires.forced told;
      forced_then = c.in_ok-clear.ensures.forced told (c.requires.forced told);
      left = g.met.B.Blocks.cur_may c.args.blocks.now told;
      long = log-long geometry a c.requires.allowed c.requires.shape
          (g.met.B.Blocks.cur_may c.args.blocks.now told)
          (λ n block below may. g.met.B.Blocks.sized c.args.blocks.now n block told below may);
      long_then = log-long geometry b c.requires.allowed c.clear.ensures.shape
          (g.met.B.Blocks.cur_may c.clear.new.blocks told)
          (λ n block below may. g.met.B.Blocks.sized c.clear.new.blocks n block told below may);
      number = (c.requires.found told).0;
      found = (c.requires.found told).1;
      known = c.requires.known told;
      spelled_then = c.clear.ensures.spelled told;
      call = c.clear.ensures.moments told;
      stands = c.in_ok-clear.ensures.stands told;
    } in
    let owners = owner_of geometry areas in
    subst (λ (undo : List KeptRecord). OnOk c.undo.result
    (All (IsPartReady owners (images_in undo) (g.B.Blocks.seen c.undo.new.blocks))
    c.undo.new.parts.items)) c.deref.ensures
    (on_ok_weaker c.undo.result
    (λ ready. ready owners
    (subst (λ (l : LogNow). IsPastLog l.geometry owners) (sym c.requires.log)
    (owner-past-log geometry areas))
    (then-ready geometry content entries parts c.requires.planned areas a b cleared
    (images_in c.deref.result.now) (ap images_in c.deref.ensures ∙ c.requires.kept)))
    (c.undo.ensures.ready told))
