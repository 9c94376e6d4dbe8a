use Rattle.std.proofs.Common.{◌≡◌, IsTrue, ap, sym, subst, ◌∙◌}
use Rattle.std.specs.Option.{option_map}
use Rattle.vr_types.specs.Image.{Image}
use Rattle.vr_types.proofs.CallerLemmas.{keeps-none, keeps-then}
use Rattle.vr_space.specs.Part.{NumberedShape, Stands}
use Rattle.vr_space.specs.Rosters.{Numbered}
use Rattle.vr_space.specs.Numbered.{KnowsTail}
use Rattle.vr_attach.specs.Chain.{IsChainDamagedAt}
use Rattle.vr_attach.specs.Marked.{IsTakenIn}
use Rattle.vr_chained.specs.Chain.{ChainNow, IsChainOf}
use Rattle.vr_chained.specs.Owned.{OwnedChain}
use Rattle.vr_chained.specs.Tail.{tail_of}
use Rattle.vr_chained.specs.Walked.{AreChainMarked, IsWalkedOver}
use Rattle.vr_chained.proofs.Attaching.{IsFound, attached-marks, attached-over, over-stands, start}
use Rattle.vr_chained.proofs.Attaching.{start-marked, start-ready, start-walk}
use Rattle.vr_chained.proofs.chained.Chained.attach.Given as over
use Rattle.vr_chained.proofs.chained.Chained.attach.Goals as goal
use Rattle.vr_chained.proofs.chained.Chained.attach.Goals.{In_ok-part-inside}

pub returns-in_err-chain-clause-keeps : goal.returns-in_err-chain-clause-keeps
returns-in_err-chain-clause-keeps g c =
    keeps-none g.B.Blocks.tells (g.B.Blocks.seen c.args.blocks.now)
    (λ told image now. g.met.B.Blocks.images_may c.args.blocks.now image told now)

pub returns-in_err-part-clause-keeps : goal.returns-in_err-part-clause-keeps
returns-in_err-part-clause-keeps g c =
    keeps-none g.B.Blocks.tells (g.B.Blocks.seen c.args.blocks.now)
    (λ told image now. g.met.B.Blocks.images_may c.args.blocks.now image told now)

pub walk-requires-clause-ready : goal.walk-requires-clause-ready
walk-requires-clause-ready g c =
    let is : c.part.inside.chain ≡ start c.args.layout =
    ap (λ (o : OwnedChain). o.chain) c.part.view_is
    ∙ ap (λ (o : OwnedChain). o.chain) c.in_ok-part.ensures ∙ c.in_ok-chain.ensures in
    start-ready c.args.layout c.args.taken.now c.part.inside.chain is c.requires.first
    c.requires.areas

-- ---- where it is damaged

pub returns-in-Some-clause-damaged : goal.returns-in-Some-clause-damaged
returns-in-Some-clause-damaged g c told =
    let is : c.part.inside.chain ≡ start c.args.layout =
    ap (λ (o : OwnedChain). o.chain) c.part.view_is
    ∙ ap (λ (o : OwnedChain). o.chain) c.in_ok-part.ensures ∙ c.in_ok-chain.ensures in
    let marks = start-marked c.args.layout c.args.taken.now c.part.inside.chain is c.requires.first
    c.requires.alone in
    let cur = (g.B.Blocks.seen c.args.blocks.now).cur in
    let walk = start-walk c.args.layout c.args.taken.now c.part.inside.chain is c.requires.first cur
    c.requires.on.part_is.first in
    let found : IsFound c.part.inside.chain.part (IsTakenIn c.args.taken.now) cur c.walk.new.chain
    c.in_ok-damage.field-0 = c.in_ok-damage.ensures.found told c.args.taken.now marks walk in
    record {
      rule = c.in-Some.damage.rule;
      number_is = c.number.ensures;
      damaged = subst (λ (part : Numbered). IsChainDamagedAt part (IsTakenIn c.args.taken.now) cur
          c.in-Some.damage.block c.in-Some.damage.rule)
          (ap (λ (chain : ChainNow). chain.part) is)
          (subst (IsFound c.part.inside.chain.part (IsTakenIn c.args.taken.now) cur
          c.walk.new.chain) c.in-Some.is found);
    }

-- ---- where it is walked over

pub find_tail-requires-clause-stands : goal.find_tail-requires-clause-stands
find_tail-requires-clause-stands g c told =
    let is : c.part.inside.chain ≡ start c.args.layout =
    ap (λ (o : OwnedChain). o.chain) c.part.view_is
    ∙ ap (λ (o : OwnedChain). o.chain) c.in_ok-part.ensures ∙ c.in_ok-chain.ensures in
    let same : c.walk.new.chain.part ≡ c.args.layout =
    c.walk.ensures.part ∙ ap (λ (chain : ChainNow). chain.part) is in
    let cur = (g.B.Blocks.seen c.args.blocks.now).cur in
    subst (Stands (NumberedShape c.walk.new.chain.part)) (sym (c.walk.ensures.keeps.content told))
    (subst (λ (part : Numbered). Stands (NumberedShape part) cur) (sym same)
    (over-stands c.args.layout cur c.walk.new.chain c.requires.on.part_is same
    (attached-over c.args.layout c.args.taken.now c.walk.new.taken c.part.inside.chain
    c.walk.new.chain is c.requires.first c.requires.alone c.in_ok-damage.field-0 c.in_default.is
    cur c.requires.on.part_is.first (c.in_ok-damage.ensures.found told c.args.taken.now))))

pub find_tail-requires-clause-chain : goal.find_tail-requires-clause-chain
find_tail-requires-clause-chain g c told =
    let is : c.part.inside.chain ≡ start c.args.layout =
    ap (λ (o : OwnedChain). o.chain) c.part.view_is
    ∙ ap (λ (o : OwnedChain). o.chain) c.in_ok-part.ensures ∙ c.in_ok-chain.ensures in
    let cur = (g.B.Blocks.seen c.args.blocks.now).cur in
    subst (IsChainOf c.walk.new.chain) (sym (c.walk.ensures.keeps.content told))
    (attached-over c.args.layout c.args.taken.now c.walk.new.taken c.part.inside.chain
    c.walk.new.chain is c.requires.first c.requires.alone c.in_ok-damage.field-0 c.in_default.is
    cur c.requires.on.part_is.first (c.in_ok-damage.ensures.found told c.args.taken.now)).of

pub returns-in_err-part-inside-clause-keeps : goal.returns-in_err-part-inside-clause-keeps
returns-in_err-part-inside-clause-keeps g c =
    keeps-then g.B.Blocks.tells (g.B.Blocks.seen c.args.blocks.now) _ _ c.walk.ensures.keeps
    c.find_tail.ensures.keeps

-- ---- where it is attached

module _ (g : over.Over) (c : In_ok-part-inside g) where
  starts : c.part.inside.chain ≡ start c.args.layout
  starts = ap (λ (o : OwnedChain). o.chain) c.part.view_is
      ∙ ap (λ (o : OwnedChain). o.chain) c.in_ok-part.ensures ∙ c.in_ok-chain.ensures

  same-part : c.walk.new.chain.part ≡ c.args.layout
  same-part = c.walk.ensures.part ∙ ap (λ (chain : ChainNow). chain.part) starts

  marks : AreChainMarked c.args.layout c.walk.new.chain.areas c.args.taken.now c.walk.new.taken
  marks =
      attached-marks c.args.layout c.args.taken.now c.walk.new.taken c.part.inside.chain
      c.walk.new.chain starts c.requires.first c.requires.alone c.in_ok-damage.field-0
      c.in_default.is (c.in_ok-damage.ensures.marked c.args.taken.now)

  walked : IsTrue g.B.Blocks.tells
      → IsWalkedOver (g.B.Blocks.seen c.args.blocks.now).cur c.walk.new.chain
  walked told =
      attached-over c.args.layout c.args.taken.now c.walk.new.taken c.part.inside.chain
      c.walk.new.chain starts c.requires.first c.requires.alone c.in_ok-damage.field-0
      c.in_default.is (g.B.Blocks.seen c.args.blocks.now).cur c.requires.on.part_is.first
      (c.in_ok-damage.ensures.found told c.args.taken.now)

pub returns-clause-first : goal.returns-clause-first
returns-clause-first g c = (marks g c).there

pub returns-clause-marked : goal.returns-clause-marked
returns-clause-marked g c = marks g c

pub returns-clause-chain : goal.returns-clause-chain
returns-clause-chain g c told = (walked g c told).of

pub returns-clause-stands : goal.returns-clause-stands
returns-clause-stands g c told =
    over-stands c.args.layout (g.B.Blocks.seen c.args.blocks.now).cur c.walk.new.chain
    c.requires.on.part_is (same-part g c) (walked g c told)

pub returns-clause-tail : goal.returns-clause-tail
returns-clause-tail g c told =
    subst (λ (part : Numbered). KnowsTail part.relative part
    (g.B.Blocks.seen c.args.blocks.now).cur (option_map tail_of c.in_ok-part-inside.field-0))
    (same-part g c)
    (subst (λ (image : Image). KnowsTail c.walk.new.chain.part.relative c.walk.new.chain.part image
    (option_map tail_of c.in_ok-part-inside.field-0)) (c.walk.ensures.keeps.content told)
    (c.in_ok-part-inside.ensures.tail told))

pub returns-clause-keeps : goal.returns-clause-keeps
returns-clause-keeps g c =
    keeps-then g.B.Blocks.tells (g.B.Blocks.seen c.args.blocks.now) _ _ c.walk.ensures.keeps
    c.find_tail.ensures.keeps
