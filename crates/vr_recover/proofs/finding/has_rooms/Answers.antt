use Rattle.std.proofs.Common.{List, refl, sym, subst, ◌∙◌, get_or, map}
use Rattle.vr_types.proofs.CallerLemmas.{keeps-none}
use Rattle.vr_history.specs.State.{BeforeImage}
use Rattle.vr_mount.proofs.CallerLemmas.{part-fits}
use Rattle.vr_part.specs.Any.{shape_any}
use Rattle.vr_space.specs.Part.{HasRoom, part_no}
use Rattle.vr_volume.specs.PutBack.{lengths_kept}
use Rattle.vr_recover.proofs.Refusals.{none-live}
use Rattle.vr_recover.proofs.finding.has_rooms.Goals as goal

pub returns-then-live-eq0-clause-room : goal.returns-then-live-eq0-clause-room
returns-then-live-eq0-clause-room g c told = (
  λ is k d below.
      let shape = get_or (map shape_any c.args.parts.now) k d in
      let cur = (g.B.Blocks.seen c.args.blocks.now).cur in
      let stands = c.requires.stand told k d below in
      subst (λ (images : List BeforeImage). HasRoom shape
      (lengths_kept images (part_no shape).0) cur)
      (sym (c.requires.kept ∙ none-live c.args.log.now.records
      (sym c.live.ensures ∙ c.if-live-eq0.true)))
      (part-fits shape cur stands.0 stands.1),
  λ all. refl,
)

pub returns-then-live-eq0-clause-keeps : goal.returns-then-live-eq0-clause-keeps
returns-then-live-eq0-clause-keeps g c =
    keeps-none g.B.Blocks.tells (g.B.Blocks.seen c.args.blocks.now)
    (λ told image now. g.met.B.Blocks.images_may c.args.blocks.now image told now)
