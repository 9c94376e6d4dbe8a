use Rattle.std.proofs.Common.{refl, subst, sym}
use Rattle.vr_types.specs.declared.unit.PartNo.{PartNo}
use Rattle.vr_types.proofs.CallerLemmas.{keeps-none}
use Rattle.vr_mount.proofs.CallerLemmas.{part-fits}
use Rattle.vr_part.specs.Any.{shape_any}
use Rattle.vr_space.specs.Part.{HasRoom}
use Rattle.vr_space.specs.Room.{Lengths}
use Rattle.vr_undo.specs.Records.{images_in}
use Rattle.vr_volume.specs.PutBack.{lengths_kept}
use Rattle.vr_recover.proofs.KeptLengths.{none-kept}
use Rattle.vr_recover.proofs.rooming.has_room.Goals as goal

pub returns-in_default-clause-room : goal.returns-in_default-clause-room
returns-in_default-clause-room g c told = (
  λ is.
      let shape = shape_any c.args.part.now in
      let cur = (g.B.Blocks.seen c.args.blocks.now).cur in
      let stands = c.requires.stands told in
      let kept = lengths_kept (images_in c.args.undo.now) c.number.result.0 in
      subst (λ (no : PartNo). HasRoom shape (lengths_kept (images_in c.args.undo.now) no.0) cur)
      c.number.ensures
      (subst (λ (lengths : Lengths). HasRoom shape lengths cur)
      (sym (none-kept kept c.in_default.ensures)) (part-fits shape cur stands.0 stands.1)),
  λ has. refl,
)

pub returns-in_default-clause-keeps : goal.returns-in_default-clause-keeps
returns-in_default-clause-keeps g c =
    keeps-none g.B.Blocks.tells (g.B.Blocks.seen c.args.blocks.now)
    (λ told image now. g.met.B.Blocks.images_may c.args.blocks.now image told now)
