use Rattle.std.proofs.Common.{◌≡◌, ℕ, ◌+◌, None, sym, ap, subst, ◌∙◌, arith, true≢false}
use Rattle.std.specs.Prelude.{is_some}
use Rattle.vr_types.specs.Image.{Block, block_at}
use Rattle.vr_space.specs.Keyed.{Keyed, IsHead, entry_in}
use Rattle.vr_space.specs.Search.{range_found}
use Rattle.vr_keyed.proofs.look.block_for.Goals as goal

pub returns-in-Some-clause-leads : goal.returns-in-Some-clause-leads
returns-in-Some-clause-leads g c told =
    let part = c.args.layout.now in
    let cur = (g.B.Blocks.seen c.args.blocks.now).cur in
    let at : c.layout.inside.head ≡ part.head = ap (λ (l : Keyed). l.head) c.layout.view_is in
    let same : c.in_ok-top.top.now ≡ block_at cur part.head = c.in_ok-top.ensures.content told
    ∙ ap (λ (n : ℕ). block_at cur n) at in
    let is = c.in-Some.ensures.found (subst (IsHead part) (sym same) (c.requires.head told)) in
    record {
      at = (range_found c.in-Some.found, is.entry);
      found = ap (λ (top : Block). entry_in top c.args.place.now) (sym same) ∙ is.reaches;
      block = sym (c.block_of.ensures ∙ ap (λ (n : ℕ). part.head + 1 + n) is.interval);
    }

pub returns-in-None-clause-leads : goal.returns-in-None-clause-leads
returns-in-None-clause-leads g c told =
    let part = c.args.layout.now in
    let cur = (g.B.Blocks.seen c.args.blocks.now).cur in
    let at : c.layout.inside.head ≡ part.head = ap (λ (l : Keyed). l.head) c.layout.view_is in
    let same : c.in_ok-top.top.now ≡ block_at cur part.head = c.in_ok-top.ensures.content told
    ∙ ap (λ (n : ℕ). block_at cur n) at in
    let head : IsHead part c.in_ok-top.top.now = subst (IsHead part) (sym same)
    (c.requires.head told) in
    let none : entry_in (block_at cur part.head) c.args.place.now ≡ None =
    subst (λ (top : Block). entry_in top c.args.place.now ≡ None) same
    (c.in-None.ensures.found head) in
    let some = c.requires.entry told (λ i. omega (arith, c.type_inv.place i)) in
    absurd (true≢false (ap is_some (sym some.1 ∙ none)))
