use Rattle.std.proofs.Common.{◌≡◌, ◌∙◌, List, ap, map, subst, sym}
use Rattle.vr_attach.specs.Owning.{owner_of}
use Rattle.vr_event.specs.Opening.{IsOpened, owned_in}
use Rattle.vr_event.specs.Volume.{OwnLaid}
use Rattle.vr_types.specs.Geometry.{area_count}
use Rattle.vr_catalog.specs.declared.entry.CatEntry.{CatEntry}
use Rattle.vr_history.specs.State.{opening_state}
use Rattle.vr_job.specs.Going.{HasRun}
use Rattle.vr_job.specs.Opened.{IsReady, laid_now}
use Rattle.vr_job.specs.declared.numbering.Ready.{Ready}
use Rattle.vr_job.proofs.Readying.{opening-run, ready-same}
use Rattle.vr_job.proofs.opening.made.Goals as goal

-- what is taken out of the box is what was in it
module _ (g : Rattle.vr_job.proofs.opening.made.Given.Over) (c : goal.After-new g) where
  abbrev boxed : Ready
  boxed = c.args.found.value

  abbrev taken : Ready
  taken = c.into_inner-catalog.result

  same : taken ≡ boxed
  same = c.into_inner-catalog.ensures

  same-catalog : c.into_inner-catalog-2.result ≡ boxed.catalog.value
  same-catalog = c.into_inner-catalog-2.ensures ∙ ap (λ (r : Ready). r.catalog.value) same

  ready : IsReady taken.geometry c.into_inner-catalog-2.result (map laid_now taken.parts.items)
      taken.log taken.space (g.B.Blocks.seen c.args.blocks)
  ready = ready-same taken.geometry boxed.geometry c.into_inner-catalog-2.result
      boxed.catalog.value (map laid_now taken.parts.items) (map laid_now boxed.parts.items)
      taken.log boxed.log (ap (λ (r : Ready). r.geometry) same) same-catalog
      (ap (λ (r : Ready). map laid_now r.parts.items) same) (ap (λ (r : Ready). r.log) same)
      taken.space boxed.space (g.B.Blocks.seen c.args.blocks) (ap (λ (r : Ready). r.space) same)
      c.requires.ready

pub returns-clause-whole : goal.returns-clause-whole
returns-clause-whole g c =
    c.new.ensures.whole (ready g c).served (ready g c).set (ready g c).geometry_is
    (ready g c).laid

pub returns-clause-run : goal.returns-clause-run
returns-clause-run g c told contents catalog unlaid opened =
    let is = ready g c in
    let t = taken g c in
    let b = boxed g c in
    let now = g.B.Blocks.seen c.args.blocks in
    let of-taken = subst (λ (r : Ready). IsOpened c.args.number (owner_of r.log.geometry r.space)
    r.log (map laid_now r.parts.items) contents now) (sym (same g c)) opened in
    let held = c.new.ensures.held told contents (same-catalog g c ∙ catalog) is.served
    is.geometry_is is.records is.sound (is.set.areas ∙ ap area_count is.geometry_is) is.owned
    (subst (λ (entries : List CatEntry). OwnLaid t.geometry entries t.space)
    (sym (same-catalog g c))
    (subst (λ (r : Ready). OwnLaid r.geometry b.catalog.value r.space) (sym (same g c)) unlaid))
    of-taken in
    let whole = c.new.ensures.whole is.served is.set is.geometry_is is.laid in
    let run = opening-run g.B.Blocks.seen g.B.Blocks.faults
    (opening_state contents (owned_in t.space)) c.new.result
    c.new.ensures.entries c.new.ensures.stopped whole held
    (λ image at. g.met.B.Blocks.images_may c.new.result.blocks image told at) in
    subst (λ (blocks : g.row.B.Denot). HasRun g.B.Blocks.seen
    g.B.Blocks.faults (opening_state contents (owned_in b.space)) blocks c.new.result)
    c.new.ensures.blocks
    (subst (λ (r : Ready). HasRun g.B.Blocks.seen g.B.Blocks.faults
    (opening_state contents (owned_in r.space)) c.new.result.blocks c.new.result) (same g c) run)
