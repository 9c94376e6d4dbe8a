use Rattle.vr_chained.proofs.HeldBlocks.{block-held}
use Rattle.vr_chained.proofs.chain.Chain.block_of.Goals as goal

pub returns-clause-held : goal.returns-clause-held
returns-clause-held c = λ known same.
    block-held c.args.self.now known c.args.interval c.block_in.result c.block_in.ensures.area
    c.block_in.ensures.inside c.block_in.ensures.block same
