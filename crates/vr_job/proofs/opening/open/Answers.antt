use Rattle.std.proofs.Common.{◌≡◌, ◌∙◌, [], ℕ, List, None, subst, sym}
use Rattle.vr_types.specs.Moments.{Guards}
use Rattle.vr_types.specs.declared.geometry.Geometry.{Geometry}
use Rattle.vr_catalog.specs.declared.entry.CatEntry.{CatEntry}
use Rattle.vr_event.specs.Opening.{owned_in}
use Rattle.vr_history.specs.State.{opening_state}
use Rattle.vr_mount.specs.Areas.{AreOwners}
use Rattle.vr_recover.specs.Opening.{IsLeftOpening, IsVolume}
use Rattle.vr_recover.specs.Recovered.{IsRecovered, standing_all}
use Rattle.vr_volume.specs.Laid.{shape_by}
use Rattle.vr_job.specs.Going.{HasRun}
use Rattle.vr_job.proofs.Readying.{own-laid}
use Rattle.vr_job.proofs.opening.open.Goals as goal

pub returns-in-Ok-clause-held : goal.returns-in-Ok-clause-held
returns-in-Ok-clause-held g c told =
    let from = c.in-Ok.ensures.from told in
    record {
      contents = from.0;
      owners = c.in-Ok.found.value.space;
      volume_is = subst (λ (geometry : Geometry). IsVolume c.args.number geometry
          (standing_all from.0) (g.B.Blocks.seen c.args.blocks)) (sym c.made.ensures.geometry)
          from.1.volume;
      whole = subst (λ (geometry : Geometry). IsRecovered geometry c.args.number from.0
          (g.B.Blocks.seen c.args.blocks).cur) (sym c.made.ensures.geometry) from.1.whole;
      ascends = from.1.opened.each;
      others = subst (λ (geometry : Geometry). (part : ℕ)
          → shape_by geometry (from.0 0) part ≡ None → from.0 part ≡ [])
          (sym c.made.ensures.geometry) from.1.others;
      catalog_is = c.made.ensures.catalog ∙ from.1.catalog_is;
      owners_are = subst (λ (blocks : g.row.B.Denot). AreOwners c.made.result.file.geometry
          c.made.result.file.catalog (g.B.Blocks.seen blocks).cur c.in-Ok.found.value.space)
          (sym c.made.ensures.blocks)
          (subst (λ (geometry : Geometry). AreOwners geometry c.made.result.file.catalog
          (g.B.Blocks.seen c.open_parts.new.blocks).cur c.in-Ok.found.value.space)
          (sym c.made.ensures.geometry)
          (subst (λ (entries : List CatEntry). AreOwners c.in-Ok.found.value.geometry entries
          (g.B.Blocks.seen c.open_parts.new.blocks).cur c.in-Ok.found.value.space)
          (sym c.made.ensures.catalog) from.1.owners_are));
      run = subst (λ (blocks : g.row.B.Denot). HasRun g.B.Blocks.seen
          g.B.Blocks.faults (opening_state from.0 (owned_in c.in-Ok.found.value.space)) blocks
          c.made.result)
          (sym c.made.ensures.blocks)
          (c.made.ensures.run told from.0 from.1.catalog_is
          (own-laid c.in-Ok.found.value.geometry c.in-Ok.found.value.catalog.value
          (g.B.Blocks.seen c.open_parts.new.blocks).cur c.in-Ok.found.value.space from.1.owners_are)
          from.1.opened);
    }

pub returns-in-Ok-clause-items : goal.returns-in-Ok-clause-items
returns-in-Ok-clause-items g c told geometry contents has =
    subst (λ (blocks : g.row.B.Denot). Guards (g.B.Blocks.seen c.args.blocks)
    (g.B.Blocks.seen blocks)
    (IsLeftOpening c.args.number geometry contents (g.B.Blocks.seen c.args.blocks) has))
    (sym c.made.ensures.blocks) (c.in-Ok.ensures.items told geometry contents has)
