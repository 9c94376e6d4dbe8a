use Rattle.std.proofs.Common.{◌≢◌, arith}
use Rattle.vr_types.specs.Image.{block_at}
use Rattle.vr_types.specs.Seen.{Left}
use Rattle.vr_types.proofs.CallerLemmas.{cur-elsewhere}
use Rattle.vr_space.specs.Keyed.{entries_of}
use Rattle.vr_space.specs.AreaCalls.{SameHere}
use Rattle.vr_split.proofs.Puts.{free-adds, interval-sound, of-found-in, rewrite-same, sound-put}
use Rattle.vr_split.proofs.After.{current-after, rest-after, room-after, rooms-after, due-put}
use Rattle.vr_split.proofs.After.{of-nothing}
use Rattle.vr_split.proofs.stages.write_free.Goals as goal

pub returns-clause-keeps : goal.returns-clause-keeps
returns-clause-keeps g c told part kept block resting free =
    let B = g.B.Blocks in
    let n = c.args.n in
    let bytes = c.args.upper.now in
    let a = B.seen c.args.blocks.now in
    let b = B.seen c.put.new.self in
    let call = c.put.ensures.after in
    let left : Left a a.cur = g.met.B.Blocks.cur_may c.args.blocks.now told in
    let other : n ≢ part.head = λ same. omega (arith, block.low, same) in
    let same : SameHere part a.cur b.cur =
    rewrite-same part B.tells told a b n bytes call other c.requires.below left.length_is
    (λ place at leads here. absurd
    (of-found-in part n (block_at a.cur part.head) (λ range. ⊥) place at free leads here)) in (
      record {
        adds = free-adds part B.tells told a b n bytes resting.rests left call other
            (omega (arith, block.low), block.high) free;
        same = same;
        current = current-after part B.tells told a b n bytes call other;
        room = room-after part B.tells told a b n bytes kept resting.rests call other resting.room
            (of-nothing part n _ _ (entries_of (block_at a.cur part.head)) free);
        rooms = rooms-after part B.tells told a b n bytes kept resting.rests call other
            (omega (arith, block.low), block.high) resting.room
            (of-nothing part n _ _ (entries_of (block_at a.cur part.head)) free)
            (of-nothing part n _ _ (entries_of (block_at a.cur part.head)) free);
      },
      record {
        rests = rest-after part B.tells told a b n bytes resting.rests call other
            (sound-put part B.tells n bytes a b told call
            (interval-sound part a n bytes resting.rests other
            (of-nothing part n _ _ (entries_of (block_at a.cur part.head)) free)));
        due = λ listed place due within. due-put part B.tells told a b n bytes listed place
            resting.rests left call other
            (λ at leads here left_there once. absurd
            (of-found-in part n (block_at a.cur part.head) (λ range. ⊥) place at free leads here))
            due;
      },
    )

pub returns-clause-elsewhere : goal.returns-clause-elsewhere
returns-clause-elsewhere g c told m apart =
    cur-elsewhere g.B.Blocks.tells (g.B.Blocks.seen c.args.blocks.now)
    (g.B.Blocks.seen c.put.new.self) m c.args.n c.args.upper.now told apart c.put.ensures.after
