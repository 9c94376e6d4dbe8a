use Rattle.std.proofs.Common.{sym, ◌∙◌, ap, length}
use Rattle.vr_types.proofs.CallerLemmas.{keeps-none}
use Rattle.vr_mount.proofs.Keys.{none_elsewhere}
use Rattle.vr_mount.proofs.Reading.{knows_now}
use Rattle.vr_mount.proofs.listing.copy_at.Goals as goal

pub returns-then-as_slice-length-clause-item : goal.returns-then-as_slice-length-clause-item
returns-then-as_slice-length-clause-item g c told =
    sym (none_elsewhere (g.P.Part.shape c.args.part.now) (g.B.Blocks.seen c.args.blocks.now).cur
    (c.requires.stands told) c.args.place.now
    (λ same. c.if-as_slice-length.true (ap length c.as_slice.ensures ∙ same ∙ c.requires.length)))

pub look-requires-clause-place : goal.look-requires-clause-place
look-requires-clause-place g c = c.requires.places c.args.place.now
    (sym (ap length c.as_slice.ensures) ∙ c.if-as_slice-length.false)

pub look-requires-clause-knows : goal.look-requires-clause-knows
look-requires-clause-knows g c told = knows_now (g.P.Part.shape c.args.part.now)
    (g.P.Part.known c.args.part.now) (g.B.Blocks.seen c.args.blocks.now) (c.requires.knows told)

pub returns-then-as_slice-length-clause-keeps : goal.returns-then-as_slice-length-clause-keeps
returns-then-as_slice-length-clause-keeps g c =
    keeps-none g.B.Blocks.tells (g.B.Blocks.seen c.args.blocks.now)
    (λ told image left. g.met.B.Blocks.images_may c.args.blocks.now image told left)
