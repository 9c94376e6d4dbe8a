use Rattle.std.proofs.Common.{ℕ, List, length, get_or, ap, ◌∙◌, arith, ◌+◌}
use Rattle.std.proofs.lemmas.List.{length-replicate}
use Rattle.vr_frames.specs.Rule.{IsBuffer}
use Rattle.vr_frames.proofs.NewPool.{zeros, opens}
use Rattle.vr_frames.proofs.opening.pool.Goals as goal

pub new-requires : goal.new-requires
new-requires c =
    let made = c.in_ok-words.ensures in
    let words = c.as_slice.ensures.value ∙ made.items_if_clones_equal (λ copy same. same) in
    opens (IsBuffer c.args.size) c.args.size c.as_slice.result.now c.in_ok-slots.slots.items
    (ap (λ (list : List ℕ). length list) words
    ∙ omega (arith, length-replicate {A = ℕ} (c.args.frames + 1) 0, c.in_ok-slots.ensures.1))
    (λ k. ap (λ (list : List ℕ). get_or list k 0) words ∙ zeros (c.args.frames + 1) k)
    c.in_ok-slots.ensures.0
