use Rattle.std.proofs.Common.{rules}
use Rattle.vr_browse.proofs.PositionLemmas.{below_point, upto_point, first_le_end, without_part}
use Rattle.vr_browse.proofs.positions.drop_part.Goals as goal

pub slice_bounds-drop_each-count : goal.slice_bounds-drop_each-count
slice_bounds-drop_each-count c =
    let below = below_point c.args.files.now c.requires c.args.deck _
    c.partition_point-first.ensures.partitioned (λ a r g called. search rules) in
    let upto = upto_point c.args.files.now c.requires c.args.deck _
    c.partition_point-end.ensures.partitioned (λ a r g called. search rules) in
    first_le_end _ _ _ _ c.partition_point-first.ensures.bound below upto

pub slice_bounds-drop_each-start : goal.slice_bounds-drop_each-start
slice_bounds-drop_each-start c =
    let le = slice_bounds-drop_each-count c in
    search rules

-- the part has the deck's files and no other
pub returns : goal.returns
returns c =
    let below = below_point c.args.files.now c.requires c.args.deck _
    c.partition_point-first.ensures.partitioned (λ a r g called. search rules) in
    let upto = upto_point c.args.files.now c.requires c.args.deck _
    c.partition_point-end.ensures.partitioned (λ a r g called. search rules) in
    rw c.drop_each.ensures (without_part _ _ _ _ c.partition_point-first.ensures.bound below upto)
