use Rattle.std.proofs.Common.{◌-◌, ◌*◌, length, arith}
use Rattle.std.proofs.lemmas.Bool.{leb-true, le-leb}
use Rattle.vr_seqset.proofs.WritingLemmas.{end_after}
use Rattle.vr_seqset.proofs.writer.SeqWriter.fits.Goals as goal
use Rattle.vr_seqset.proofs.writer.SeqWriter.fits.Goals.{then-room-lt2-via-then-room-lt2}
use Rattle.vr_seqset.proofs.writer.SeqWriter.fits.Goals.{then-room-lt2-via-else-room-lt2+then-intervals-room}

pub returns-then-room-lt2 : goal.returns-then-room-lt2
returns-then-room-lt2 c =
    let end = end_after c.args.self.now.cis c.args.self.now.block.now c.args.self.now.end
    c.args.intervals.now c.args.high.now c.args.self.now.begun in (
      λ h. absurd cc,
      λ le. elim c.then-room-lt2.branch [
        | then-room-lt2-via-then-room-lt2 w ↦ absurd (omega (arith, end, le))
        | then-room-lt2-via-else-room-lt2+then-intervals-room w ↦ absurd (omega (arith, end, le))
      ],
    )

pub returns : goal.returns
returns c =
    let end = end_after c.args.self.now.cis c.args.self.now.block.now c.args.self.now.end
    c.args.intervals.now c.args.high.now c.args.self.now.begun in
    let room = length c.args.self.now.block.now - c.args.self.now.end - 2 - 2 * length
    c.args.intervals.now in (
      λ h. omega (arith, end, leb-true (length c.args.high.now) room h),
      λ le. le-leb (length c.args.high.now) room (omega (arith, end, le)),
    )
