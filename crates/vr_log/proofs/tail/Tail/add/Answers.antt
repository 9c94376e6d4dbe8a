use Rattle.std.proofs.Common.{◌≡◌, ℕ, ◌+◌, ◌-◌, List, length, take, drop, refl, sym, subst, ◌∙◌}
use Rattle.std.proofs.Common.{arith, rules, eqb-true}
use Rattle.std.proofs.lemmas.List.{take_rest, length-drop, nil_from_length}
use Rattle.vr_types.proofs.CallerLemmas.{keeps-none}
use Rattle.vr_log.specs.Writing.{HasRoom, position}
use Rattle.vr_log.proofs.Adding.{Adds, room_left, adds-none, adds-touches, adds-more, adds-all}
use Rattle.vr_log.proofs.Putting.{touches-kept}
use Rattle.vr_log.proofs.tail.Tail.add.Goals as goal

pub loop-rest-init : goal.loop-rest-init
loop-rest-init g c =
    let B = g.B.Blocks in
    let a = B.seen c.args.blocks.now in record {
      safe = c.requires.safe;
      ready = c.requires.ready;
      room = c.requires.room;
      at = refl;
      same = (refl, refl, refl);
      adds = adds-none B.tells c.args.bytes.now c.args.self.now a
          (λ log total written w prefix told.
          touches-kept B.tells told log total written c.args.self.now a w prefix a
          (keeps-none B.tells a
          (λ told image left. g.met.B.Blocks.images_may c.args.blocks.now image told left)));
      faults = refl;
    }

pub returns-in_err-count-clause-writing : goal.returns-in_err-count-clause-writing
returns-in_err-count-clause-writing g c log total written w prefix =
    let B = g.B.Blocks in record {
      writing = search rules;
      touches = λ told. adds-touches B.tells c.args.bytes.now c.loop-rest.rest.now c.args.self.now
          c.loop-rest.self c.step.new.self (B.seen c.args.blocks.now) (B.seen c.loop-rest.blocks)
          (B.seen c.step.new.blocks)
          c.loop-rest.invariant.adds c.step.ensures.touches log total written w prefix told;
    }

pub loop-rest-preserved : goal.loop-rest-preserved
loop-rest-preserved g c =
    let B = g.B.Blocks in
    let rest = c.loop-rest.rest.now in
    let count = c.in_ok-count.count in
    let cut : take (length rest - count) (drop count rest) ≡ drop count rest =
    take_rest rest count in
    let long : length (drop count rest) ≡ length rest - count = length-drop count rest in
    let whole : length rest ≡ count + length (drop count rest) =
    omega (arith, long, c.in_ok-count.ensures.most) in
    let old = c.loop-rest.invariant in
    let same = c.step.ensures.same in record {
      safe = c.in_ok-count.ensures.safe;
      ready = c.in_ok-count.ensures.ready;
      room = subst (λ (x : List ℕ). HasRoom c.step.new.self (length x)) (sym cut)
          (room_left c.loop-rest.self c.step.new.self count (length (drop count rest)) same.1 same.2
          c.in_ok-count.ensures.position
          (subst (λ (n : ℕ). HasRoom c.loop-rest.self n) whole old.room));
      at = subst (λ (x : List ℕ). position c.step.new.self + length x ≡ position c.args.self.now +
          length c.args.bytes.now) (sym cut)
          (omega (arith, whole, c.in_ok-count.ensures.position, old.at));
      same = (same.0 ∙ old.same.0, same.1 ∙ old.same.1, same.2 ∙ old.same.2);
      adds = subst (λ (x : List ℕ). Adds B.tells c.args.bytes.now x c.args.self.now c.step.new.self
          (B.seen c.args.blocks.now) (B.seen c.step.new.blocks)) (sym cut)
          (adds-more B.tells c.args.bytes.now rest c.args.self.now c.loop-rest.self c.step.new.self
          (B.seen c.args.blocks.now) (B.seen c.loop-rest.blocks) (B.seen c.step.new.blocks)
          old.adds count c.step.ensures.touches c.in_ok-count.ensures.writing);
      faults = c.in_ok-count.ensures.cause.cause.ok ∙ old.faults;
    }

pub returns-clause-writing : goal.returns-clause-writing
returns-clause-writing g c log total written w prefix =
    let B = g.B.Blocks in
    let all = adds-all B.tells c.args.bytes.now c.loop-rest.rest.now c.args.self.now
    c.loop-rest.self (B.seen c.args.blocks.now) (B.seen c.loop-rest.blocks)
    c.loop-rest.invariant.adds
    (nil_from_length c.loop-rest.rest.now
    (eqb-true (length c.loop-rest.rest.now) 0 (sym c.is_empty.ensures
    ∙ c.loop-rest-test.false))) log total written w prefix in record {
      writing = all.0;
      touches = all.1;
    }
