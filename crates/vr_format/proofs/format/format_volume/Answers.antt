use Rattle.std.proofs.Common.{◌≡◌, ◌∙◌, ℕ, List, length, sym, subst}
use Rattle.vr_types.specs.Blocks.{AllForced}
use Rattle.vr_types.specs.Image.{Image}
use Rattle.vr_types.specs.Seen.{Left, Seen}
use Rattle.vr_types.specs.declared.geometry.Geometry.{Geometry}
use Rattle.vr_catalog.specs.declared.entry.CatEntry.{CatEntry}
use Rattle.vr_mount.proofs.CallerLemmas.{image-same, touches-none}
use Rattle.vr_format.specs.Formatted.{IsFormatted, IsWritten, first_entries, geometry_of}
use Rattle.vr_format.specs.Planned.{ArePlanned}
use Rattle.vr_format.proofs.Steps.{on-both}
use Rattle.vr_format.proofs.NewVolume.{new-planned}
use Rattle.vr_format.proofs.format.format_volume.Goals as goal

pub returns-then-not-is_allowed-clause-after : goal.returns-then-not-is_allowed-clause-after
returns-then-not-is_allowed-clause-after g c told =
    touches-none (IsWritten (geometry_of (g.D.BlockDevice.seen c.args.device.now) c.args.log
    c.args.area) (length (first_entries c.args.number)))
    (g.D.BlockDevice.seen c.args.device.now)
    (λ image left. g.met.D.BlockDevice.images_may c.args.device.now image told left)

pub returns-in_err-catalog-clause-after : goal.returns-in_err-catalog-clause-after
returns-in_err-catalog-clause-after g c told =
    touches-none (IsWritten (geometry_of (g.D.BlockDevice.seen c.args.device.now) c.args.log
    c.args.area) (length (first_entries c.args.number)))
    (g.D.BlockDevice.seen c.args.device.now)
    (λ image left. g.met.D.BlockDevice.images_may c.args.device.now image told left)

pub write_entries-requires-clause-planned : goal.write_entries-requires-clause-planned
write_entries-requires-clause-planned g c =
    let geometry : Geometry = record {
      size = c.size.result;
      blocks = c.blocks-2.result;
      log = c.args.log;
      area = c.args.area;
    } in
    subst (λ (entries : List CatEntry). ArePlanned geometry entries entries)
    (sym (c.as_slice-entries.ensures ∙ c.in_ok-catalog.ensures))
    (new-planned geometry (c.is_allowed.ensures.0 c.if-not-is_allowed.false) c.args.number)

pub returns-clause-formatted : goal.returns-clause-formatted
returns-clause-formatted g c told =
    let B = g.D.BlockDevice in
    let old : Seen = B.seen c.args.device.now in
    let new : Seen = B.seen c.write_entries.new.device in
    let made : Geometry = record {
      size = c.size.result;
      blocks = c.blocks-2.result;
      log = c.args.log;
      area = c.args.area;
    } in
    let geometry : Geometry = geometry_of old c.args.log c.args.area in
    let number : ℕ = c.args.number in
    let same : made ≡ geometry = cc (c.size.ensures, c.blocks-2.ensures) in
    let entries : c.as_slice-entries.result.now ≡ first_entries number =
    c.as_slice-entries.ensures ∙ c.in_ok-catalog.ensures in
    on-both c.write_entries.result (IsFormatted made number c.as_slice-entries.result.now new.cur)
    (AllForced old.count new.cur new.may)
    ((image : Image) → Left new image → IsFormatted geometry number (first_entries number) image)
    (λ formatted forced image left. subst (IsFormatted geometry number (first_entries number))
    (sym (image-same old.count new image
    (c.write_entries.ensures.shape.count ∙ c.blocks-2.ensures) forced
    (g.met.D.BlockDevice.cur_may c.write_entries.new.device told) left))
    (subst (λ (es : List CatEntry). IsFormatted geometry number es new.cur) entries
    (subst (λ (k : Geometry). IsFormatted k number c.as_slice-entries.result.now new.cur) same formatted)))
    (c.write_entries.ensures.formatted told) (c.write_entries.ensures.stable told)
