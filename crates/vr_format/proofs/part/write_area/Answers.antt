use Rattle.std.proofs.Common.{◌≡◌, ◌<◌, ◌+◌, ◌∙◌, ℕ, arith, ap, subst}
use Rattle.vr_types.specs.Image.{Block, block_at}
use Rattle.vr_types.specs.Seen.{Left, Seen}
use Rattle.vr_types.proofs.CallerLemmas.{cur-elsewhere, cur-put}
use Rattle.vr_space.specs.Keyed.{InArea, Keyed}
use Rattle.vr_types.proofs.CallerLemmas.{touches-then}
use Rattle.vr_mount.specs.Touched.{Anything}
use Rattle.vr_format.proofs.Steps.{touches-put}
use Rattle.vr_format.proofs.OneInterval.{one-stands}
use Rattle.vr_format.proofs.part.write_area.Goals as goal

pub returns-clause-stands : goal.returns-clause-stands
returns-clause-stands g c told =
    let B = g.D.BlockDevice in
    let part : Keyed = c.args.layout.now in
    let first : Seen = B.seen c.args.device.now in
    let second : Seen = B.seen c.write.new.self in
    let third : Seen = B.seen c.write-2.new.self in
    let top : Block = c.write_head.new.out in
    let block : Block = c.write_interval.new.out in
    let left : Left first first.cur = g.met.D.BlockDevice.cur_may c.args.device.now told in
    let left-then : Left second second.cur = g.met.D.BlockDevice.cur_may c.write.new.self told in
    let head : c.layout.inside.head ≡ part.head = ap (λ (k : Keyed). k.head) c.layout.view_is in
    let interval : c.block_of.result ≡ part.head + 1 = omega (arith, c.block_of.ensures) in
    let room : part.head + part.area < first.count = c.requires.on.0 in
    let same : second.count ≡ first.count = c.write.ensures.after.count_same in
    let at-head : block_at third.cur c.layout.inside.head ≡ top =
    cur-elsewhere B.tells second third c.layout.inside.head c.block_of.result block told
    (λ is. omega (arith, is, head, interval)) c.write-2.ensures.after
    ∙ cur-put first c.layout.inside.head top (omega (arith, head, room)) left.length_is second.cur
    (c.in_ok-write.ensures.written told) in
    let at-block : block_at third.cur c.block_of.result ≡ block =
    cur-put second c.block_of.result block
    (omega (arith, interval, room, same, c.requires.part.used)) left-then.length_is third.cur
    (c.in_ok-write-2.ensures.written told) in
    one-stands part c.args.entries.now third.cur top block c.write_head.ensures.head
    c.write_head.ensures.only c.write_head.ensures.entries c.requires.records
    (omega (arith, c.requires.buffer))
    c.write_interval.ensures
    (subst (λ (n : ℕ). block_at third.cur n ≡ top) head at-head)
    (subst (λ (n : ℕ). block_at third.cur n ≡ block) interval at-block)

pub returns-clause-after : goal.returns-clause-after
returns-clause-after g c told =
    let B = g.D.BlockDevice in
    let part : Keyed = c.args.layout.now in
    let region = InArea part in
    let head : c.layout.inside.head ≡ part.head = ap (λ (k : Keyed). k.head) c.layout.view_is in
    let interval : c.block_of.result ≡ part.head + 1 = omega (arith, c.block_of.ensures) in
    touches-then region Anything (B.seen c.args.device.now) (B.seen c.write.new.self)
    (B.seen c.write-2.new.self)
    (touches-put B.tells region c.layout.inside.head c.write_head.new.out
    (B.seen c.args.device.now) (B.seen c.write.new.self) told
    (omega (arith, head), omega (arith, head)) c.write.ensures.after)
    (touches-put B.tells region c.block_of.result c.write_interval.new.out
    (B.seen c.write.new.self) (B.seen c.write-2.new.self) told
    (omega (arith, interval), omega (arith, interval, c.requires.part.used))
    c.write-2.ensures.after)
