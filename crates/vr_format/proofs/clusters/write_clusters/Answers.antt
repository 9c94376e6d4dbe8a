use Rattle.std.proofs.Common.{◌≡◌, ◌<◌, ◌+◌, ◌∙◌, ℕ, List, Some, length, arith, sym, ap, subst}
use Rattle.std.proofs.Common.{refl}
use Rattle.std.specs.Prelude.{slice_get}
use Rattle.std.proofs.lemmas.Option.{slice_get-get_or}
use Rattle.vr_types.specs.Regions.{Touches}
use Rattle.vr_types.specs.Seen.{Seen}
use Rattle.vr_types.specs.declared.geometry.Geometry.{Geometry}
use Rattle.vr_catalog.specs.declared.entry.CatEntry.{CatEntry}
use Rattle.vr_mount.specs.Touched.{Anything}
use Rattle.vr_types.proofs.CallerLemmas.{touches-then}
use Rattle.vr_mount.proofs.CallerLemmas.{touches-none}
use Rattle.vr_format.specs.Planned.{InAreaAt, InClusters, IsNew}
use Rattle.vr_format.proofs.Steps.{cluster-inside, new-more, touches-more}
use Rattle.vr_format.proofs.clusters.write_clusters.Goals as goal

pub loop-entry-init : goal.loop-entry-init
loop-entry-init g c = record {
  area = refl;
  new = λ told at entry none. absurd (omega (arith, none));
  after = λ told. touches-none (InClusters c.args.geometry.now (length c.args.clusters.now))
      (g.D.BlockDevice.seen c.args.device.now)
      (λ image left. g.met.D.BlockDevice.images_may c.args.device.now image told left);
  shape = c.requires.shape;
  faults = refl;
  buffer = c.requires.buffer;
}

-- the areas of one cluster are among those of all
more : (geometry : Geometry) (clusters index area : ℕ) (first old new : Seen)
    → area ≡ index → index < clusters
    → Touches (InClusters geometry clusters) Anything first old
    → Touches (InAreaAt geometry (area + 1)) Anything old new
    → Touches (InClusters geometry clusters) Anything first new
more geometry clusters index area first old new is below so_far call =
    touches-then (InClusters geometry clusters) Anything first old new so_far
    (touches-more (InAreaAt geometry (area + 1)) (InClusters geometry clusters) old new
    (λ n here. cluster-inside geometry clusters area n (omega (arith, is, below)) here) call)

pub returns-in_err-write_cluster-clause-after : goal.returns-in_err-write_cluster-clause-after
returns-in_err-write_cluster-clause-after g c told =
    more c.args.geometry.now (length c.args.clusters.now) c.loop-entry.entry-index
    c.loop-entry.area (g.D.BlockDevice.seen c.args.device.now)
    (g.D.BlockDevice.seen c.loop-entry.device) (g.D.BlockDevice.seen c.write_cluster.new.device)
    c.loop-entry.invariant.area c.loop-entry-test.true (c.loop-entry.invariant.after told)
    (c.write_cluster.ensures.after told)

pub loop-entry-preserved : goal.loop-entry-preserved
loop-entry-preserved g c =
    let clusters : List CatEntry = c.args.clusters.now in
    let old : Seen = g.D.BlockDevice.seen c.loop-entry.device in
    let new : Seen = g.D.BlockDevice.seen c.write_cluster.new.device in
    let index : ℕ = c.loop-entry.entry-index in
    let same : c.loop-entry.area ≡ index = c.loop-entry.invariant.area in
    let here : slice_get clusters index ≡ Some c.entry-item.result =
    slice_get-get_or clusters index c.entry-item.result c.loop-entry-test.true
    ∙ ap Some (sym c.entry-item.is) in
    record {
      area = omega (arith, same);
      new = λ told. new-more c.args.geometry.now clusters index c.entry-item.result old new here
          (c.loop-entry.invariant.new told)
          (subst (λ (a : ℕ). Touches (InAreaAt c.args.geometry.now (a + 1)) Anything old new) same
          (c.write_cluster.ensures.after told))
          (subst (λ (a : ℕ). IsNew c.args.geometry.now (a + 1) c.entry-item.result new.cur) same
          (c.in_ok-write_cluster.ensures.new told));
      after = λ told. more c.args.geometry.now (length clusters) index c.loop-entry.area
          (g.D.BlockDevice.seen c.args.device.now) old new same c.loop-entry-test.true
          (c.loop-entry.invariant.after told) (c.write_cluster.ensures.after told);
      shape = c.write_cluster.ensures.shape;
      faults = c.in_ok-write_cluster.ensures.fault.0 ∙ c.loop-entry.invariant.faults;
      buffer = omega (arith, c.loop-entry.invariant.buffer);
    }

pub returns-clause-new : goal.returns-clause-new
returns-clause-new g c told at entry below there =
    c.loop-entry.invariant.new told at entry (omega (arith, below, c.loop-entry-test.false)) there
