use Rattle.std.proofs.Common.{◌+◌, ◌*◌, ap, subst, sym, ◌∙◌}
use Rattle.vr_types.specs.Image.{Image, block_at}
use Rattle.vr_space.specs.Numbered.{span_of, start_of}
use Rattle.vr_chained.specs.Chain.{ChainNow, IsChainNow}
use Rattle.vr_chained.specs.Searched.{IsFirstRead}
use Rattle.vr_chained.proofs.FirstRead.{read-first, read-none}
use Rattle.vr_chained.proofs.next.first_in.Goals as goal

pub returns-in-Some-first_held-clause-some : goal.returns-in-Some-first_held-clause-some
returns-in-Some-first_held-clause-some g c told =
    let chain : ChainNow = c.args.chain.now in
    let image : Image = (g.B.Blocks.seen c.args.blocks.now).cur in
    subst (IsFirstRead chain.part image
    (start_of chain.part + c.args.interval * span_of chain.part + c.args.at)
    (start_of chain.part + (c.args.interval + 1) * span_of chain.part)) (sym c.number_of.ensures)
    (read-first chain image (c.requires.stands told) (c.requires.chain told)
    (subst (λ (n : ChainNow). IsChainNow n.part n.areas n.used) c.chain.view_is
    c.chain.invariant.0) c.args.interval c.requires.used c.chain.inside.layout
    c.in_ok-block.block.now (ap (λ (n : ChainNow). n.part) c.chain.view_is)
    (c.in_ok-block.ensures.content told ∙ ap (block_at image) c.in-Some.ensures.block) c.args.at
    c.in-Some-first_held.found c.in-Some-first_held.ensures.some)

pub returns-in-None-clause-none : goal.returns-in-None-clause-none
returns-in-None-clause-none g c told none =
    let image : Image = (g.B.Blocks.seen c.args.blocks.now).cur in
    read-none c.args.chain.now image (c.requires.stands told) (c.requires.chain told)
    (subst (λ (n : ChainNow). IsChainNow n.part n.areas n.used) c.chain.view_is
    c.chain.invariant.0) c.args.interval c.requires.used c.chain.inside.layout
    c.in_ok-block.block.now (ap (λ (n : ChainNow). n.part) c.chain.view_is)
    (c.in_ok-block.ensures.content told ∙ ap (block_at image) c.in-Some.ensures.block) c.args.at
    (λ filled. c.in-None.ensures.none filled none)
