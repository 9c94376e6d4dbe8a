use Rattle.std.proofs.Common.{subst}
use Rattle.vr_types.specs.Regions.{Touches}
use Rattle.vr_log.specs.Content.{Content}
use Rattle.vr_log.specs.Spells.{Spells}
use Rattle.vr_log.specs.Standing.{InLog}
use Rattle.vr_log.proofs.Renewing.{first_settled, first_touches, none_touches}
use Rattle.vr_log.proofs.clearing.clear_all.Goals as goal

pub returns-in_err-zero_block-clause-moments : goal.returns-in_err-zero_block-clause-moments
returns-in_err-zero_block-clause-moments g c told =
    let B = g.B.Blocks in
    first_touches B.tells told c.args.geometry.now c.requires.allowed
    (B.seen c.args.blocks.now) (B.seen c.zero_block.new.blocks) c.requires.shape
    c.zero_block.ensures.after

pub clear_past-requires-clause-settled : goal.clear_past-requires-clause-settled
clear_past-requires-clause-settled g c told =
    let B = g.B.Blocks in
    first_settled B.tells told c.args.geometry.now c.requires.allowed
    (B.seen c.args.blocks.now) (B.seen c.zero_block.new.blocks) c.requires.shape
    c.zero_block.ensures.after (g.met.B.Blocks.cur_may c.args.blocks.now told).length_is
    (c.in_ok-zero_block.ensures.put told) (c.requires.settled told)
    (c.in_ok-zero_block.ensures.zeros told)

pub returns-clause-moments : goal.returns-clause-moments
returns-clause-moments g c told =
    let B = g.B.Blocks in
    let geometry = c.args.geometry.now in
    let mid = B.seen c.zero_block.new.blocks in
    let last = B.seen c.clear_past-2.new.blocks in
    none_touches geometry (B.seen c.args.blocks.now) mid last
    (first_touches B.tells told geometry c.requires.allowed (B.seen c.args.blocks.now) mid
    c.requires.shape c.zero_block.ensures.after)
    (subst (λ (content : Content). Touches (InLog geometry)
    (λ image. Spells geometry image content) mid last) c.new.ensures
    (c.clear_past-2.ensures.moments told))
