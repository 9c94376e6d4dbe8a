use Rattle.std.proofs.Common.{◌≡◌, ◌-◌, ℕ, Option, Some, false, refl, sym, subst, ap, ◌∙◌, arith}
use Rattle.std.specs.Prelude.{IfSome, [], ◌+◌}
use Rattle.std.specs.Option.{option_map}
use Rattle.vr_types.specs.Image.{Image}
use Rattle.vr_types.proofs.CallerLemmas.{keeps-none, keeps-then}
use Rattle.vr_space.specs.Numbered.{items_at}
use Rattle.vr_chained.specs.Chain.{ChainNow}
use Rattle.vr_chained.specs.Tail.{HasTaken, tail_of}
use Rattle.vr_chained.specs.declared.chain.Chain.TheInside.{Inside}
use Rattle.vr_chained.specs.declared.tail.Tail.{Tail}
use Rattle.vr_chained.proofs.TailRead.{empty-more, knows-entries, tail-found}
use Rattle.vr_chained.proofs.tail.find_tail.Goals as goal

pub returns-then-chain-clause-keeps : goal.returns-then-chain-clause-keeps
returns-then-chain-clause-keeps g c =
    keeps-none g.B.Blocks.tells (g.B.Blocks.seen c.args.blocks.now)
    (λ told image left. g.met.B.Blocks.images_may c.args.blocks.now image told left)

pub loop-past-init : goal.loop-past-init
loop-past-init g c = record {
  keeps = keeps-none g.B.Blocks.tells (g.B.Blocks.seen c.args.blocks.now)
      (λ told image left. g.met.B.Blocks.images_may c.args.blocks.now image told left);
  faults = refl;
  empty = λ told interval least below.
      absurd (omega (arith, c.used-used.ensures, (c.requires.chain told).used, least, below));
}

pub returns-in-Some-clause-tail : goal.returns-in-Some-clause-tail
returns-in-Some-clause-tail g c told =
    let chain : ChainNow = c.args.chain.now in
    let image : Image = (g.B.Blocks.seen c.args.blocks.now).cur in
    let now = c.loop-past.invariant in
    let tail : Tail = c.in-Some.tail in
    let entries : chain.part.relative ≡ false =
    sym (ap (λ (now : ChainNow). now.part.relative) c.chain.view_is)
    ∙ sym (ap (λ (inside : Inside). inside.layout.relative) c.chain-inside.view_is)
    ∙ c.if-chain.false in
    let at : tail.interval ≡ c.used-used.result - 1 - c.loop-past.past =
    subst (λ (found : Option Tail). IfSome found
    (λ (one : Tail). one.interval ≡ c.used-used.result - 1 - c.loop-past.past)) c.in-Some.is
    c.in_ok-tail.ensures.interval in
    let taken : HasTaken (items_at chain.part image tail.interval) (tail_of tail) =
    subst (λ (interval : ℕ). HasTaken (items_at chain.part image interval) (tail_of tail)) (sym at)
    (subst (λ (now : Image). HasTaken (items_at chain.part now
    (c.used-used.result - 1 - c.loop-past.past)) (tail_of tail)) (now.keeps.content told)
    (subst (λ (found : Option Tail). IfSome (option_map tail_of found)
    (HasTaken (items_at chain.part (g.B.Blocks.seen c.loop-past.blocks).cur
    (c.used-used.result - 1 - c.loop-past.past))))
    c.in-Some.is (c.in_ok-tail.ensures.some told))) in
    let used = (c.requires.chain told).used in
    knows-entries chain.part image (Some (tail_of tail)) entries
    (tail-found chain.part image (tail_of tail)
    (omega (arith, at, c.used-used.ensures, used, c.loop-past-test.true))
    (λ interval least below. now.empty told interval
    (omega (arith, at, least, c.loop-past-test.true)) below) taken)

pub returns-in-Some-clause-keeps : goal.returns-in-Some-clause-keeps
returns-in-Some-clause-keeps g c =
    keeps-then g.B.Blocks.tells (g.B.Blocks.seen c.args.blocks.now)
    (g.B.Blocks.seen c.loop-past.blocks) (g.B.Blocks.seen c.tail_in.new.blocks)
    c.loop-past.invariant.keeps c.tail_in.ensures.keeps

pub loop-past-preserved : goal.loop-past-preserved
loop-past-preserved g c = record {
  keeps = keeps-then g.B.Blocks.tells (g.B.Blocks.seen c.args.blocks.now)
      (g.B.Blocks.seen c.loop-past.blocks) (g.B.Blocks.seen c.tail_in.new.blocks)
      c.loop-past.invariant.keeps c.tail_in.ensures.keeps;
  faults = c.in_ok-tail.ensures.cause.ok ∙ c.loop-past.invariant.faults;
  empty = λ told.
      empty-more c.args.chain.now.part (g.B.Blocks.seen c.args.blocks.now).cur
      (c.used-used.result - c.loop-past.past) (c.used-used.result - (c.loop-past.past + 1))
      (omega (arith, c.loop-past-test.true)) (c.loop-past.invariant.empty told)
      (subst (λ (interval : ℕ). items_at c.args.chain.now.part
      (g.B.Blocks.seen c.args.blocks.now).cur interval ≡ [])
      (omega (arith, c.loop-past-test.true))
      (subst (λ (image : Image). items_at c.args.chain.now.part image
      (c.used-used.result - 1 - c.loop-past.past) ≡ []) (c.loop-past.invariant.keeps.content told)
      (c.in_ok-tail.ensures.none told c.in_default.is)));
}
