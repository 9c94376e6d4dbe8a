use Rattle.std.proofs.Common.{◌≡◌, ◌∙◌, ℕ, ap, subst}
use Rattle.vr_types.specs.Image.{Image}
use Rattle.vr_space.specs.Areas.{KeyedChain, area_of}
use Rattle.vr_space.specs.Keyed.{Keyed}
use Rattle.vr_format.specs.Planned.{StandsAlone, StandsInFirst, content_of, first_area}
use Rattle.vr_format.proofs.OneArea.{alone-stands}
use Rattle.vr_format.proofs.Steps.{on-ok}
use Rattle.vr_format.proofs.part.write_part.Goals as goal

pub returns-clause-stands : goal.returns-clause-stands
returns-clause-stands g c told =
    let part : KeyedChain = c.args.layout.now in
    let entries = c.args.entries.now in
    let image : Image = (g.D.BlockDevice.seen c.write_area.new.device).cur in
    let layout : c.area.result ≡ first_area part =
    c.area.ensures.layout
    ∙ ap (λ (area : ℕ). area_of part area) (ap (λ (k : KeyedChain). k.first) c.layout.view_is) in
    on-ok c.write_area.result
    (StandsAlone c.area.result image (content_of c.area.result entries))
    (StandsInFirst part image (content_of (first_area part) entries))
    (λ stands. alone-stands part image (content_of (first_area part) entries)
    c.requires.on.part_is
    (subst (λ (k : Keyed). StandsAlone k image (content_of k entries)) layout stands))
    (c.write_area.ensures.stands told)
