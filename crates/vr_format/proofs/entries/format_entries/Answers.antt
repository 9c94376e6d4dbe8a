use Rattle.std.proofs.Common.{◌≡◌, ◌∙◌, ℕ, List, length, sym, subst}
use Rattle.vr_types.specs.Blocks.{AllForced}
use Rattle.vr_types.specs.Image.{Image}
use Rattle.vr_types.specs.Seen.{Left, Seen}
use Rattle.vr_types.specs.declared.geometry.Geometry.{Geometry}
use Rattle.vr_catalog.specs.declared.entry.CatEntry.{CatEntry}
use Rattle.vr_mount.proofs.CallerLemmas.{image-same, touches-none}
use Rattle.vr_format.specs.Fit.{IsFormattedWith}
use Rattle.vr_format.specs.Formatted.{IsWritten, geometry_of}
use Rattle.vr_format.proofs.Steps.{on-both}
use Rattle.vr_format.proofs.entries.format_entries.Goals as goal

pub returns-then-not-is_allowed-clause-after : goal.returns-then-not-is_allowed-clause-after
returns-then-not-is_allowed-clause-after g c told =
    touches-none (IsWritten (geometry_of (g.D.BlockDevice.seen c.args.device.now) c.args.log
    c.args.area) (length c.args.entries.now))
    (g.D.BlockDevice.seen c.args.device.now)
    (λ image left. g.met.D.BlockDevice.images_may c.args.device.now image told left)

pub returns-clause-formatted : goal.returns-clause-formatted
returns-clause-formatted g c told =
    let B = g.D.BlockDevice in
    let old : Seen = B.seen c.args.device.now in
    let new : Seen = B.seen c.write_fit.new.device in
    let made : Geometry = record {
      size = c.size.result;
      blocks = c.blocks-2.result;
      log = c.args.log;
      area = c.args.area;
    } in
    let geometry : Geometry = geometry_of old c.args.log c.args.area in
    let number : ℕ = c.args.number in
    let entries : List CatEntry = c.args.entries.now in
    let same : made ≡ geometry = cc (c.size.ensures, c.blocks-2.ensures) in
    on-both c.write_fit.result (IsFormattedWith made number entries new.cur)
    (AllForced old.count new.cur new.may)
    ((image : Image) → Left new image → IsFormattedWith geometry number entries image)
    (λ formatted forced image left. subst (IsFormattedWith geometry number entries)
    (sym (image-same old.count new image
    (c.write_fit.ensures.shape.count ∙ c.blocks-2.ensures) forced
    (g.met.D.BlockDevice.cur_may c.write_fit.new.device told) left))
    (subst (λ (k : Geometry). IsFormattedWith k number entries new.cur) same formatted))
    (c.write_fit.ensures.formatted told) (c.write_fit.ensures.stable told)
