use Rattle.std.proofs.Common.{◌≡◌, ℕ, ◌-◌, ◌+◌, length, replicate, refl, sym, ap, ◌∙◌, arith, rules}
use Rattle.std.specs.Int.{w32, to_be_bytes}
use Rattle.vr_seqset.specs.SequenceSet.{SequenceSet}
use Rattle.vr_seqset.specs.Writer.{begun_by}
use Rattle.vr_seqset.proofs.WritingLemmas.{head_cells, head_put, length-spelling_head}
use Rattle.vr_seqset.proofs.spelling.put_head.Goals as goal

pub overflow_cast-place : goal.overflow_cast-place
overflow_cast-place c = omega (arith, length-spelling_head (begun_by c.args.head.now) refl)

pub split_at_mut-fields-requires : goal.split_at_mut-fields-requires
split_at_mut-fields-requires c = omega (arith, length-spelling_head (begun_by c.args.head.now) refl)

pub split_at_mut-low-requires : goal.split_at_mut-low-requires
split_at_mut-low-requires c = omega (arith, length-spelling_head (begun_by c.args.head.now) refl)

pub returns-clause-end : goal.returns-clause-end
returns-clause-end c = sym (length-spelling_head (begun_by c.args.head.now) refl)

pub returns-clause-spelled : goal.returns-clause-spelled
returns-clause-spelled c =
    let s : SequenceSet = begun_by c.args.head.now in
    let n = c.to_be_bytes-n.ensures ∙ ap (to_be_bytes w32) c.area_field.ensures in
    let x = c.to_be_bytes-x.ensures ∙ ap (to_be_bytes w32) c.area_field-2.ensures in
    let free : length c.split_at_mut-low.result.1.now ≡ length c.args.out.now -
    (32 + length c.args.head.now.low.now) =
    omega (arith, length-spelling_head (begun_by c.args.head.now) refl) in
    head_put (length c.args.out.now) s c.copy_from_slice.new.self c.copy_from_slice-2.new.self
    c.fill.new.self refl
    (c.copy_from_slice.ensures.after
    ∙ head_cells s c.flag_of-flag.result c.to_be_bytes-k.result c.to_be_bytes-p.result
    c.to_be_bytes-n.result c.to_be_bytes-t.result c.to_be_bytes-x.result refl
    c.flag_of-flag.ensures c.to_be_bytes-k.ensures c.to_be_bytes-p.ensures n
    c.to_be_bytes-t.ensures x)
    c.copy_from_slice-2.ensures.after
    (c.fill.ensures.after (λ y e. search rules) ∙ ap (λ (m : ℕ). replicate m 0) free)
