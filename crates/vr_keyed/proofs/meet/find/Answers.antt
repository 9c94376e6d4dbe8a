use Rattle.std.proofs.Common.{◌≡◌, ℕ, ap, arith, None, sym, subst, ◌∙◌, true≢false}
use Rattle.std.specs.Prelude.{is_some}
use Rattle.vr_types.specs.Image.{Block, block_at}
use Rattle.vr_space.specs.Keyed.{Keyed, IsHead, entry_in}
use Rattle.vr_keyed.proofs.meet.find.Goals as goal

pub returns-in_default-clause-led : goal.returns-in_default-clause-led
returns-in_default-clause-led g c told =
    let part = c.args.layout.now in
    let now = block_at (g.B.Blocks.seen c.args.blocks.now).cur part.head in
    let at : c.layout.inside.head ≡ part.head = ap (λ (l : Keyed). l.head) c.layout.view_is in
    let same : c.in_ok-top.top.now ≡ now = c.in_ok-top.ensures.content told
    ∙ ap (λ (n : ℕ). block_at (g.B.Blocks.seen c.args.blocks.now).cur n) at in
    let head : IsHead part c.in_ok-top.top.now = subst (IsHead part) (sym same)
    (c.requires.head told) in
    let none : entry_in now c.args.place.now ≡ None =
    subst (λ (top : Block). entry_in top c.args.place.now ≡ None) same
    (c.in_default.ensures.found head) in
    let some = c.requires.entry told (λ i. omega (arith, c.type_inv.place i)) in
    absurd (true≢false (ap is_some (sym some.1 ∙ none)))
