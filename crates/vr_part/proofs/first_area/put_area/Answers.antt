use Rattle.std.proofs.Common.{◌≡◌, ◌<◌, ◌+◌, ◌∙◌, ℕ, arith, ap, sym, subst}
use Rattle.std.specs.Prelude.{slice_set}
use Rattle.std.proofs.lemmas.Result.{on_ok_weaker}
use Rattle.vr_types.specs.Image.{Block, block_at}
use Rattle.vr_types.specs.Seen.{Left, Seen}
use Rattle.vr_types.proofs.CallerLemmas.{cur-elsewhere, cur-put, touches-then}
use Rattle.vr_space.specs.Keyed.{InArea, Keyed}
use Rattle.vr_part.specs.First.{Anything, IsFirstHead, IsFirstInterval}
use Rattle.vr_part.proofs.Touching.{touches-put}
use Rattle.vr_part.proofs.first_area.put_area.Goals as goal

pub returns-clause-area : goal.returns-clause-area
returns-clause-area g c told =
    let B = g.B.Blocks in
    let part : Keyed = c.args.layout.now in
    let first : Seen = B.seen c.args.blocks.now in
    let second : Seen = B.seen c.put.new.self in
    let third : Seen = B.seen c.put-2.new.self in
    let top : Block = c.write_first_head.new.out in
    let block : Block = c.write_interval.new.out in
    let left : Left first first.cur = g.met.B.Blocks.cur_may c.args.blocks.now told in
    let left-then : Left second second.cur = g.met.B.Blocks.cur_may c.put.new.self told in
    let head : c.layout.inside.head ≡ part.head = ap (λ (k : Keyed). k.head) c.layout.view_is in
    let room : part.head + part.area < first.count = c.requires.on.0 in
    let same : second.count ≡ first.count = c.put.ensures.after.count_same in
    let at-head : block_at third.cur c.layout.inside.head ≡ top =
    cur-elsewhere B.tells second third c.layout.inside.head c.block_of.result block told
    (λ is. omega (arith, is, head, c.block_of.ensures)) c.put-2.ensures.after
    ∙ cur-put first c.layout.inside.head top (omega (arith, head, room)) left.length_is second.cur
    (c.in_ok-put.ensures.put told) in
    on_ok_weaker {P = third.cur ≡ slice_set second.cur c.block_of.result block} c.put-2.result
    (λ written. let at-block : block_at third.cur c.block_of.result ≡ block =
    cur-put second c.block_of.result block
    (omega (arith, c.block_of.ensures, room, same, c.requires.part.used)) left-then.length_is
    third.cur written in
    record {
      head = subst (IsFirstHead part)
          (sym (ap (λ (n : ℕ). block_at third.cur n) (sym head) ∙ at-head))
          (record {
            spelled = c.write_first_head.ensures;
            size = omega (arith, c.requires.buffer);
          });
      interval = subst (IsFirstInterval part)
          (sym (ap (λ (n : ℕ). block_at third.cur n) (sym c.block_of.ensures) ∙ at-block))
          (record { spelled = c.write_interval.ensures; size = omega (arith, c.requires.buffer) });
    })
    (c.put-2.ensures.put told)

pub returns-clause-touches : goal.returns-clause-touches
returns-clause-touches g c told =
    let B = g.B.Blocks in
    let part : Keyed = c.args.layout.now in
    let region = InArea part in
    let head : c.layout.inside.head ≡ part.head = ap (λ (k : Keyed). k.head) c.layout.view_is in
    touches-then region Anything (B.seen c.args.blocks.now) (B.seen c.put.new.self)
    (B.seen c.put-2.new.self)
    (touches-put B.tells region c.layout.inside.head c.write_first_head.new.out
    (B.seen c.args.blocks.now) (B.seen c.put.new.self) told
    (omega (arith, head), omega (arith, head)) c.put.ensures.after)
    (touches-put B.tells region c.block_of.result c.write_interval.new.out
    (B.seen c.put.new.self) (B.seen c.put-2.new.self) told
    (omega (arith, c.block_of.ensures), omega (arith, c.block_of.ensures, c.requires.part.used))
    c.put-2.ensures.after)
