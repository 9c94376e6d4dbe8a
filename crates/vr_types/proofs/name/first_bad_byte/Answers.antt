use Rattle.std.proofs.Common.{◌+◌, get_or, ap, sym, ◌∙◌, below_more}
use Rattle.vr_types.specs.Name.{fits_column}
use Rattle.vr_types.proofs.Names.{column_at-dot, column_at-next, right_inside}
use Rattle.vr_types.proofs.name.first_bad_byte.Goals as goal
use Rattle.vr_types.proofs.name.first_bad_byte.Goals.{then-byte-eq46, else-byte-eq46}

pub loop-at-preserved : goal.loop-at-preserved
loop-at-preserved c = record {
  column = elim c.if-byte-eq46.branch [
    | then-byte-eq46 w ↦ w.column-is
        ∙ sym (column_at-dot _ _ c.loop-at-test.true w.if-byte-eq46.true)
    | else-byte-eq46 w ↦ w.column-is ∙ ap (λ n. n + 1) c.loop-at.invariant.column
        ∙ sym (column_at-next _ _ c.loop-at-test.true w.if-byte-eq46.false)
  ];
  before = below_more _ _ c.loop-at.invariant.before
      (right_inside _ _ c.loop-at-test.true
      (ap (λ n. fits_column n (get_or c.args.text.now c.loop-at.at 0))
      (sym c.loop-at.invariant.column) ∙ sym c.may_stand.ensures ∙ c.if-not-may_stand.false));
}
