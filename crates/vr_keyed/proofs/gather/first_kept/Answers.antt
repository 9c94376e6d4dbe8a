use Rattle.std.proofs.Common.{◌≡◌, true, false, List, ℕ, ap, sym, ◌∙◌}
use Rattle.std.specs.Ordering.{is_le}
use Rattle.vr_types.specs.Content.{place_cmp}
use Rattle.vr_space.specs.Lent.{range_lent}
use Rattle.vr_keyed.proofs.Gathering.{first-in, none-past, none-above-in}
use Rattle.vr_keyed.proofs.gather.first_kept.Goals as goal

pub returns-in_default : goal.returns-in_default
returns-in_default g c =
    none-above-in (range_lent c.args.range.now) (g.K.Kept.kept c.args.kept.now c.args.part)
    c.in_default.ensures

pub returns-then-is_le : goal.returns-then-is_le
returns-then-is_le g c =
    let most : is_le (place_cmp c.in-Some.place.now c.args.range.now.high.now) ≡ true =
    ap (λ (p : List ℕ). is_le (place_cmp p c.args.range.now.high.now)) (sym c.as_slice.ensures)
    ∙ ap is_le (sym c.cmp.ensures) ∙ sym c.if-is_le.ensures in
    first-in (range_lent c.args.range.now) (g.K.Kept.kept c.args.kept.now c.args.part)
    c.in-Some.place.now c.in-Some.ensures most

pub returns-else-is_le : goal.returns-else-is_le
returns-else-is_le g c =
    let over : is_le (place_cmp c.in-Some.place.now c.args.range.now.high.now) ≡ false =
    ap (λ (p : List ℕ). is_le (place_cmp p c.args.range.now.high.now)) (sym c.as_slice.ensures)
    ∙ ap is_le (sym c.cmp.ensures) ∙ sym c.if-is_le.ensures in
    none-past (range_lent c.args.range.now) (g.K.Kept.kept c.args.kept.now c.args.part)
    c.in-Some.place.now (g.K.Kept.ascend c.args.kept.now c.args.part) c.in-Some.ensures over
