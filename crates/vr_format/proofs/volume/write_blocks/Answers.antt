use Rattle.std.proofs.Common.{◌≡◌, ◌∙◌, ℕ, length, subst}
use Rattle.vr_types.specs.Regions.{Touches}
use Rattle.vr_types.specs.Seen.{Seen}
use Rattle.vr_space.specs.Areas.{KeyedChain}
use Rattle.vr_space.specs.Keyed.{InArea}
use Rattle.vr_mount.specs.Touched.{Anything}
use Rattle.vr_types.proofs.CallerLemmas.{touches-then}
use Rattle.vr_format.specs.Formatted.{IsFormatted, IsWritten}
use Rattle.vr_format.specs.Planned.{AreNew, InClusters, StandsInFirst, catalog_area}
use Rattle.vr_format.specs.Planned.{catalog_keyed, content_of, first_area}
use Rattle.vr_format.proofs.Steps.{all-made, in-catalog, in-clusters, in-start, on-ok}
use Rattle.vr_format.proofs.Steps.{touches-more}
use Rattle.vr_format.proofs.volume.write_blocks.Goals as goal

pub returns-clause-formatted : goal.returns-clause-formatted
returns-clause-formatted g c told =
    let B = g.D.BlockDevice in
    let geometry = c.args.geometry.now in
    let entries = c.args.entries.now in
    let clusters = c.args.clusters.now in
    let first : Seen = B.seen c.args.device.now in
    let second : Seen = B.seen c.write_start.new.device in
    let third : Seen = B.seen c.write_part.new.device in
    let last : Seen = B.seen c.write_clusters.new.device in
    let layout : c.catalog_layout-layout.result ≡ catalog_keyed geometry =
    c.catalog_layout-layout.ensures in
    on-ok c.write_clusters.result (AreNew geometry clusters (length clusters) last.cur)
    (IsFormatted geometry c.args.number entries last.cur)
    (λ new. all-made geometry c.args.number entries clusters first second third last
    c.requires.planned c.requires.allowed (record {
      header = c.in_ok-write_start.ensures.header told;
      log = c.in_ok-write_start.ensures.log told;
      catalog = subst (λ (k : KeyedChain). StandsInFirst k third.cur
          (content_of (first_area k) entries)) layout (c.in_ok-write_part.ensures.stands told);
      to_third = subst (λ (k : KeyedChain). Touches (InArea (first_area k)) Anything second third)
          layout (c.write_part.ensures.after told);
      new = new;
      to_last = c.write_clusters.ensures.after told;
    })
    ((g.met.D.BlockDevice.cur_may c.write_clusters.new.device told).length_is
    ∙ c.write_clusters.ensures.shape.count))
    (c.write_clusters.ensures.new told)

pub returns-clause-after : goal.returns-clause-after
returns-clause-after g c told =
    let B = g.D.BlockDevice in
    let geometry = c.args.geometry.now in
    let count : ℕ = length c.args.clusters.now in
    let first : Seen = B.seen c.args.device.now in
    let second : Seen = B.seen c.write_start.new.device in
    let third : Seen = B.seen c.write_part.new.device in
    let last : Seen = B.seen c.write_clusters.new.device in
    let layout : c.catalog_layout-layout.result ≡ catalog_keyed geometry =
    c.catalog_layout-layout.ensures in
    touches-then (IsWritten geometry count) Anything first third last
    (touches-then (IsWritten geometry count) Anything first second third
    (touches-more _ (IsWritten geometry count) first second (in-start geometry count)
    (c.write_start.ensures.after told))
    (touches-more (InArea (catalog_area geometry)) (IsWritten geometry count) second
    third (in-catalog geometry count)
    (subst (λ (k : KeyedChain). Touches (InArea (first_area k)) Anything second third) layout
    (c.write_part.ensures.after told))))
    (touches-more (InClusters geometry count) (IsWritten geometry count) third last
    (in-clusters geometry count) (c.write_clusters.ensures.after told))
