use Rattle.std.proofs.Common.{◌≡◌, ℕ, sym, subst, arith}
use Rattle.vr_types.specs.Image.{block_at}
use Rattle.vr_types.specs.Seen.{Left, Only}
use Rattle.vr_types.specs.Blocks.{Puts}
use Rattle.vr_split.proofs.Puts.{sound-put}
use Rattle.vr_split.proofs.Switch.{switch-adds, switch-current, switch-same, switch-room}
use Rattle.vr_split.proofs.Switch.{switch-due, switch-rest, switch-rooms, switch-sound}
use Rattle.vr_split.proofs.stages.switch_head.Goals as goal

pub returns-in_err-settle-clause-keeps : goal.returns-in_err-settle-clause-keeps
returns-in_err-settle-clause-keeps g c told part kept head resting can =
    let B = g.B.Blocks in
    let a = B.seen c.args.blocks.now in
    let b = B.seen c.settle.new.blocks in
    let call : Puts B.tells part.head c.args.top.now a b =
    subst (λ (n : ℕ). Puts B.tells n c.args.top.now a b) (sym head) c.settle.ensures.after in
    let left : Left a a.cur = g.met.B.Blocks.cur_may c.args.blocks.now told in
    record {
      adds = switch-adds part B.tells told a b c.args.top.now kept resting.rests.sound left call
          can;
      same = switch-same part B.tells told a b c.args.top.now kept resting.rests.sound left call
          can;
      current = switch-current part B.tells told a b c.args.top.now kept resting.rests.sound left
          call can;
      room = switch-room part B.tells told a b c.args.top.now kept resting.rests.sound call can
          resting.room;
      rooms = switch-rooms part B.tells told a b c.args.top.now kept resting.rests.sound call can
          resting.room;
    }

pub returns-clause-keeps : goal.returns-clause-keeps
returns-clause-keeps g c told part kept head resting can =
    let B = g.B.Blocks in
    let a = B.seen c.args.blocks.now in
    let b = B.seen c.settle.new.blocks in
    let call : Puts B.tells part.head c.args.top.now a b =
    subst (λ (n : ℕ). Puts B.tells n c.args.top.now a b) (sym head) c.settle.ensures.after in
    let left : Left a a.cur = g.met.B.Blocks.cur_may c.args.blocks.now told in
    record {
      adds = switch-adds part B.tells told a b c.args.top.now kept resting.rests.sound left call
          can;
      same = switch-same part B.tells told a b c.args.top.now kept resting.rests.sound left call
          can;
      current = switch-current part B.tells told a b c.args.top.now kept resting.rests.sound left
          call can;
      room = switch-room part B.tells told a b c.args.top.now kept resting.rests.sound call can
          resting.room;
      rooms = switch-rooms part B.tells told a b c.args.top.now kept resting.rests.sound call can
          resting.room;
    }

pub returns-clause-done : goal.returns-clause-done
returns-clause-done g c told part kept head resting can =
    let B = g.B.Blocks in
    let a = B.seen c.args.blocks.now in
    let b = B.seen c.settle.new.blocks in
    let call : Puts B.tells part.head c.args.top.now a b =
    subst (λ (n : ℕ). Puts B.tells n c.args.top.now a b) (sym head) c.settle.ensures.after in
    let left : Left a a.cur = g.met.B.Blocks.cur_may c.args.blocks.now told in
    let only : Only b part.head (λ block. block ≡ c.args.top.now) =
    subst (λ (n : ℕ). Only b n (λ block. block ≡ c.args.top.now)) (sym head)
    (c.in_ok-settle.ensures.ok told) in
    record {
      rests = switch-rest part B.tells told a b c.args.top.now
          (sound-put part B.tells part.head c.args.top.now a b told call
          (switch-sound part B.tells told a b c.args.top.now kept resting.rests.sound can)) only
          (only (block_at b.cur part.head)
          ((g.met.B.Blocks.cur_may c.settle.new.blocks told).each part.head
          (omega (arith, resting.rests.sound.area, c.settle.ensures.after.count_same))));
      due = switch-due part B.tells told a b c.args.top.now kept resting.rests.sound left call can
          only;
    }
