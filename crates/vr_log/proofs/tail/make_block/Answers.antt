use Rattle.std.proofs.Common.{◌++◌, List, ℕ, ap, drop, ◌∙◌}
use Rattle.vr_log.specs.LogBlock.{head_of}
use Rattle.vr_log.proofs.Heads.{block-headed}
use Rattle.vr_log.proofs.tail.make_block.Goals as goal

pub returns : goal.returns
returns c =
    c.write_head.ensures
    ∙ ap (λ (x : List ℕ). head_of c.args.generation c.args.index c.args.used ++ drop 16 x)
    c.clear_from.ensures
    ∙ block-headed c.args.block.now c.args.generation c.args.index c.args.used c.requires
