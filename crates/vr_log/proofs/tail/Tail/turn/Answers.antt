use Rattle.std.proofs.Common.{◌≡◌, ℕ, ◌+◌, IsTrue, ap, ◌∙◌, arith, rules, refl, vec_len, subst}
use Rattle.vr_types.specs.Seen.{Only}
use Rattle.vr_types.specs.Image.{block_at}
use Rattle.vr_types.proofs.CallerLemmas.{keeps-none, touches-then}
use Rattle.vr_log.proofs.Putting.{touches-kept, touches-put}
use Rattle.vr_log.proofs.Turning.{put-kept, turned}
use Rattle.vr_log.proofs.tail.Tail.turn.Goals as goal

pub returns-then-self-len-clause-writing : goal.returns-then-self-len-clause-writing
returns-then-self-len-clause-writing g c log total written w prefix =
    let B = g.B.Blocks in
    let a = B.seen c.args.blocks.now in record {
      writing = w;
      touches = λ told. touches-kept B.tells told log total written c.args.self.now a w prefix a
          (keeps-none B.tells a
          (λ told image left. g.met.B.Blocks.images_may c.args.blocks.now image told left));
    }

pub returns-in_err-put-clause-writing : goal.returns-in_err-put-clause-writing
returns-in_err-put-clause-writing g c log total written w prefix =
    let B = g.B.Blocks in record {
      writing = search rules;
      touches = λ told. touches-put B.tells told log total written c.args.self.now
          (B.seen c.args.blocks.now) w prefix c.put.new.self.block.items (B.seen c.put.new.blocks)
          c.put.ensures.block c.put.ensures.after;
    }

pub returns-in_err-settle-clause-writing : goal.returns-in_err-settle-clause-writing
returns-in_err-settle-clause-writing g c log total written w prefix =
    let B = g.B.Blocks in
    let a = B.seen c.args.blocks.now in
    let b = B.seen c.put.new.blocks in
    let block = c.put.new.self.block.items in
    let same = c.put.ensures.same in record {
      writing = search rules;
      touches = λ told.
          let now = put-kept B.tells log total written c.args.self.now a w prefix block b
          c.put.ensures.block c.put.ensures.after
          (λ t. (g.met.B.Blocks.cur_may c.args.blocks.now t).length_is)
          (λ t. c.in_ok-put.ensures.put t) c.put.new.self same.0 same.1 same.2 same.3 same.4
          refl c.put.ensures.size in
          touches-then _ _ a b (B.seen c.settle.new.blocks)
          (touches-put B.tells told log total written c.args.self.now a w prefix block b
          c.put.ensures.block c.put.ensures.after)
          (touches-kept B.tells told log total written c.put.new.self b now prefix
          (B.seen c.settle.new.blocks) c.settle.ensures.keeps);
    }

pub returns-clause-writing : goal.returns-clause-writing
returns-clause-writing g c log total written w prefix =
    let B = g.B.Blocks in
    let a = B.seen c.args.blocks.now in
    let b = B.seen c.put.new.blocks in
    let tail = c.args.self.now in
    let block = c.put.new.self.block.items in
    let same = c.put.ensures.same in
    let settled = c.settle.ensures.same in
    let long = λ (t : IsTrue B.tells). (g.met.B.Blocks.cur_may c.args.blocks.now t).length_is in
    let put_ok = λ (t : IsTrue B.tells). c.in_ok-put.ensures.put t in
    record {
      writing = turned B.tells log total written tail a w prefix block b c.put.ensures.block
          c.put.ensures.after long put_ok (B.seen c.settle.new.blocks) _
          c.settle.ensures.keeps
          (λ t not. subst
          (λ (n : ℕ). Only (B.seen c.settle.new.blocks) (1 + n)
          (λ x. x ≡ block_at b.cur (1 + n))) same.2 (c.in_ok-settle.ensures.forced t (same.4
          ∙ not))) (omega (
            arith,
            w.buffer.fits,
            w.buffer.size,
            c.len.ensures,
            c.if-self-len.false,
            tail.block.ok.0,
          )) (omega (arith, c.if-self.false, w.buffer.index, w.buffer.blocks))
          (settled.0 ∙ same.0) (settled.1 ∙ same.1) (ap (λ v. vec_len v) settled.4
          ∙ c.put.ensures.size) (ap (λ (n : ℕ). n + 1) (settled.2
          ∙ same.2)) refl c.in_ok-settle.ensures.begun;
      touches = λ told.
          let now = put-kept B.tells log total written tail a w prefix block b c.put.ensures.block
          c.put.ensures.after long put_ok c.put.new.self same.0 same.1 same.2 same.3 same.4 refl
          c.put.ensures.size in
          touches-then _ _ a b (B.seen c.settle.new.blocks)
          (touches-put B.tells told log total written tail a w prefix block b c.put.ensures.block
          c.put.ensures.after)
          (touches-kept B.tells told log total written c.put.new.self b now prefix
          (B.seen c.settle.new.blocks) c.settle.ensures.keeps);
    }
