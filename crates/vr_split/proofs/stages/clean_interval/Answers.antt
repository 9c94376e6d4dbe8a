use Rattle.std.proofs.Common.{◌≢◌, sym, ap, ◌∙◌, ⊎_elim, arith}
use Rattle.vr_types.specs.Content.{item_at}
use Rattle.vr_types.specs.Image.{Block}
use Rattle.vr_types.specs.Seen.{Left}
use Rattle.vr_space.specs.Keyed.{records_of}
use Rattle.vr_space.specs.AreaCalls.{SameHere}
use Rattle.vr_split.proofs.Puts.{interval-sound, rewrite-adds, rewrite-same, sound-put}
use Rattle.vr_split.proofs.After.{current-after, rest-after, room-after, rooms-after, due-put}
use Rattle.vr_split.proofs.stages.clean_interval.Goals as goal

pub returns-clause-keeps : goal.returns-clause-keeps
returns-clause-keeps g c told part kept block resting settled can =
    let B = g.B.Blocks in
    let n = c.args.n in
    let bytes = c.args.lower.now in
    let a = B.seen c.args.blocks.now in
    let b = B.seen c.put.new.self in
    let call = c.put.ensures.after in
    let left : Left a a.cur = g.met.B.Blocks.cur_may c.args.blocks.now told in
    let other : n ≢ part.head = λ same. omega (arith, block.low, same) in
    let same : SameHere part a.cur b.cur =
    rewrite-same part B.tells told a b n bytes call other c.requires.below left.length_is
    can.records in (
      record {
        adds = rewrite-adds part B.tells told a b n bytes resting.rests left call other
            (omega (arith, block.low), block.high) can.holds can.records;
        same = same;
        current = current-after part B.tells told a b n bytes call other;
        room = room-after part B.tells told a b n bytes kept resting.rests call other resting.room
            can.room;
        rooms = rooms-after part B.tells told a b n bytes kept resting.rests call other
            (omega (arith, block.low), block.high) resting.room can.holds can.room;
      },
      record {
        rests = rest-after part B.tells told a b n bytes resting.rests call other
            (sound-put part B.tells n bytes a b told call
            (interval-sound part a n bytes resting.rests other can.holds));
        due = λ listed place due within. due-put part B.tells told a b n bytes listed place
            resting.rests left call other
            (λ at leads here left_there once. ⊎_elim
            (λ old. settled place at leads here left_there old)
            (λ new. ap (λ (x : Block). item_at (records_of part x) place) new.1
            ∙ can.records place at leads here)
            (call.adds told n left_there c.requires.below once.0)
            ∙ sym (same place))
            due;
      },
    )
