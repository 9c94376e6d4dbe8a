use Rattle.std.proofs.Common.{[], IsTrue, refl, rules}
use Rattle.std.proofs.lemmas.List.{append-nil}
use Rattle.vr_types.proofs.CallerLemmas.{keeps-none}
use Rattle.vr_log.proofs.Putting.{touches-kept, touches-put}
use Rattle.vr_log.proofs.Turning.{put-kept, current-put, current-none}
use Rattle.vr_log.proofs.tail.Tail.finish.Goals as goal

pub returns-then-self-eq0-clause-ending : goal.returns-then-self-eq0-clause-ending
returns-then-self-eq0-clause-ending g c log total w =
    let B = g.B.Blocks in
    let a = B.seen c.args.blocks.now in record {
      writing = w;
      current = λ told. current-none B.tells log total c.args.self.now a w c.if-self-eq0.true told;
      touches = λ told. touches-kept B.tells told log total total c.args.self.now a w
          ([], append-nil total) a
          (keeps-none B.tells a
          (λ told image left. g.met.B.Blocks.images_may c.args.blocks.now image told left));
    }

pub returns-in_err-put-clause-ending : goal.returns-in_err-put-clause-ending
returns-in_err-put-clause-ending g c log total w =
    let B = g.B.Blocks in record {
      writing = search rules;
      current = λ told. search rules;
      touches = λ told. touches-put B.tells told log total total c.args.self.now
          (B.seen c.args.blocks.now) w ([], append-nil total) c.put.new.self.block.items
          (B.seen c.put.new.blocks) c.put.ensures.block c.put.ensures.after;
    }

pub returns-clause-ending : goal.returns-clause-ending
returns-clause-ending g c log total w =
    let B = g.B.Blocks in
    let a = B.seen c.args.blocks.now in
    let b = B.seen c.put.new.blocks in
    let tail = c.args.self.now in
    let block = c.put.new.self.block.items in
    let same = c.put.ensures.same in
    let long = λ (t : IsTrue B.tells). (g.met.B.Blocks.cur_may c.args.blocks.now t).length_is in
    let put_ok = λ (t : IsTrue B.tells). c.in_ok-put.ensures.put t in record {
      writing = put-kept B.tells log total total tail a w ([], append-nil total) block b
          c.put.ensures.block c.put.ensures.after long put_ok c.put.new.self same.0 same.1 same.2
          same.3 same.4 refl c.put.ensures.size;
      current = λ told. current-put B.tells log total total tail a w ([], append-nil total) block b
          c.put.ensures.block c.put.ensures.after long put_ok told refl;
      touches = λ told. touches-put B.tells told log total total tail a w ([], append-nil total)
          block b c.put.ensures.block c.put.ensures.after;
    }
