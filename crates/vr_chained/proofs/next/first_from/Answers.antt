use Rattle.std.proofs.Common.{◌≡◌, ◌<◌, ◌+◌, ◌*◌, ◌^◌, ℕ, Option, subst, sym}
use Rattle.std.proofs.Common.{arith, refl, rules, None, IfSome}
use Rattle.vr_types.specs.Image.{Image}
use Rattle.vr_types.proofs.CallerLemmas.{keeps-none, keeps-then}
use Rattle.vr_space.specs.Part.{NumberedShape, Stands, record_read}
use Rattle.vr_space.specs.Numbered.{span_of, start_of}
use Rattle.vr_chained.specs.Chain.{IsChainOf}
use Rattle.vr_chained.specs.Searched.{IsFirstRead}
use Rattle.vr_chained.proofs.FirstRead.{first-later, none-further, none-past}
use Rattle.vr_types.specs.Fields.{four}
use Rattle.vr_chained.proofs.NumberOf.{number-parts}
use Rattle.vr_chained.proofs.next.first_from.Goals as goal

pub loop-interval-init : goal.loop-interval-init
loop-interval-init g c =
    let start : ℕ = start_of c.args.chain.now.part in
    let span : ℕ = span_of c.args.chain.now.part in
    let next : start + c.interval_of-interval.result * span + c.at_in-at.result
    ≡ c.args.number =
    number-parts start c.args.number span c.interval_of-interval.result c.at_in-at.result
    c.requires.some c.interval_of-interval.ensures c.at_in-at.ensures.place in
    record {
      keeps = keeps-none g.B.Blocks.tells (g.B.Blocks.seen c.args.blocks.now)
          (λ told image left. g.met.B.Blocks.images_may c.args.blocks.now image told left);
      faults = refl;
      at = c.at_in-at.ensures.below;
      past = omega (arith, next);
      none = λ told n least below. absurd (omega (arith, next, least, below));
    }

pub first_in-requires-clause-stands : goal.first_in-requires-clause-stands
first_in-requires-clause-stands g c told =
    subst (Stands (NumberedShape c.args.chain.now.part))
    (sym (c.loop-interval.invariant.keeps.content told)) (c.requires.stands told)

pub first_in-requires-clause-chain : goal.first_in-requires-clause-chain
first_in-requires-clause-chain g c told =
    subst (IsChainOf c.args.chain.now) (sym (c.loop-interval.invariant.keeps.content told))
    (c.requires.chain told)

pub returns-in_err-found-clause-keeps : goal.returns-in_err-found-clause-keeps
returns-in_err-found-clause-keeps g c =
    keeps-then g.B.Blocks.tells (g.B.Blocks.seen c.args.blocks.now)
    (g.B.Blocks.seen c.loop-interval.blocks) (g.B.Blocks.seen c.first_in.new.blocks)
    c.loop-interval.invariant.keeps c.first_in.ensures.keeps

pub returns-in-Some-clause-some : goal.returns-in-Some-clause-some
returns-in-Some-clause-some g c told =
    let part = c.args.chain.now.part in
    let start : ℕ = start_of part in
    let span : ℕ = span_of part in
    let next : ℕ = start + c.loop-interval.interval * span + c.loop-interval.at in
    let end : ℕ = start + (c.loop-interval.interval + 1) * span in
    let fits : c.in-Some.found < 2 ^ 32 = search rules in
    let first : IsFirstRead part (g.B.Blocks.seen c.loop-interval.blocks).cur next end
    c.in-Some.found =
    subst (λ (found : Option ℕ). IfSome found
    (IsFirstRead part (g.B.Blocks.seen c.loop-interval.blocks).cur next end)) c.in-Some.is
    (c.in_ok-found.ensures.some told) in
    first-later part (g.B.Blocks.seen c.args.blocks.now).cur c.args.number next end (2 ^ 32)
    c.in-Some.found c.loop-interval.invariant.past fits (c.loop-interval.invariant.none told)
    (subst (λ (image : Image). IsFirstRead part image next end c.in-Some.found)
    (c.loop-interval.invariant.keeps.content told) first)

pub returns-in-Some-clause-keeps : goal.returns-in-Some-clause-keeps
returns-in-Some-clause-keeps g c =
    keeps-then g.B.Blocks.tells (g.B.Blocks.seen c.args.blocks.now)
    (g.B.Blocks.seen c.loop-interval.blocks) (g.B.Blocks.seen c.first_in.new.blocks)
    c.loop-interval.invariant.keeps c.first_in.ensures.keeps

pub loop-interval-preserved : goal.loop-interval-preserved
loop-interval-preserved g c =
    let part = c.args.chain.now.part in
    let start : ℕ = start_of part in
    let span : ℕ = span_of part in
    let next : ℕ = start + c.loop-interval.interval * span + c.loop-interval.at in
    record {
      keeps = keeps-then g.B.Blocks.tells (g.B.Blocks.seen c.args.blocks.now)
          (g.B.Blocks.seen c.loop-interval.blocks) (g.B.Blocks.seen c.first_in.new.blocks)
          c.loop-interval.invariant.keeps c.first_in.ensures.keeps;
      faults = search rules;
      at = omega (arith, c.at_in-at.ensures.below);
      past = omega (arith, c.loop-interval.invariant.past, c.loop-interval.invariant.at);
      none = λ told. none-further part (g.B.Blocks.seen c.args.blocks.now).cur c.args.number next
          (start + (c.loop-interval.interval + 1) * span + 0) (c.loop-interval.invariant.none told)
          (λ n least below. subst (λ (image : Image).
          record_read (NumberedShape part) image (four n) ≡ None)
          (c.loop-interval.invariant.keeps.content told)
          (c.in_ok-found.ensures.none told c.in_default.is n least (omega (arith, below))));
    }

pub returns-clause-none : goal.returns-clause-none
returns-clause-none g c told none =
    let chain = c.args.chain.now in
    let cur = (g.B.Blocks.seen c.args.blocks.now).cur in
    let start : ℕ = start_of chain.part in
    let span : ℕ = span_of chain.part in
    none-further chain.part cur c.args.number
    (start + c.loop-interval.interval * span + c.loop-interval.at) (2 ^ 32)
    (c.loop-interval.invariant.none told)
    (λ n least below. none-past chain cur (c.requires.stands told) (c.requires.chain told)
    c.loop-interval.interval
    (omega (arith, c.loop-interval-test.false, c.used-interval-end.ensures)) n
    (omega (arith, least)) below)
