use Rattle.std.proofs.Common.{◌≡◌, Some, rules}
use Rattle.vr_types.specs.Image.{block_at}
use Rattle.vr_types.specs.Blocks.{Puts}
use Rattle.vr_device.specs.WriteAhead.{kept}
use Rattle.vr_device.proofs.WriteAhead.{replaced}
use Rattle.vr_device.proofs.write_ahead.replace.Goals as goal

pub returns-clause-any_moment : goal.returns-clause-any_moment
returns-clause-any_moment g c told =
    let B = g.B.Blocks in
    let a = c.args in
    let old = B.seen a.blocks.now in
    let rested = B.seen c.get.follows.lender-at-none in
    let settled = c.requires.settled told in
    let entry = c.mark.new.entry in
    let marked : kept entry ≡ Some (block_at old.cur a.home) = search rules in
    let first : Puts B.tells a.log entry rested (B.seen c.settle.new.blocks) = search rules in
    replaced B.tells told a.log a.home c.requires.apart
    (block_at old.cur a.home) a.bytes.now old rested (B.seen c.settle.new.blocks)
    (B.seen c.settle-2.new.blocks) (B.seen c.settle-3.new.blocks) entry c.clear.new.entry
    c.requires.log_in c.requires.home_in settled.log_is settled.home_is
    c.get.follows.holds-at-none.0 marked first
    (c.in_ok-settle.ensures.ok told) c.settle-2.ensures.after
    (c.in_ok-settle-2.ensures.ok told) c.clear.ensures.kept c.settle-3.ensures.after
