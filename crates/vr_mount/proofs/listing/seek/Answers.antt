use Rattle.vr_mount.proofs.Reading.{knows_now}
use Rattle.vr_mount.proofs.listing.seek.Goals as goal

pub next-requires-clause-knows : goal.next-requires-clause-knows
next-requires-clause-knows g c told = knows_now (g.P.Part.shape c.args.part.now)
    (g.P.Part.known c.args.part.now) (g.B.Blocks.seen c.args.blocks.now) (c.requires.knows told)

pub next-requires-in-None-clause-knows : goal.next-requires-in-None-clause-knows
next-requires-in-None-clause-knows g c told = knows_now (g.P.Part.shape c.args.part.now)
    (g.P.Part.known c.args.part.now) (g.B.Blocks.seen c.args.blocks.now) (c.requires.knows told)
