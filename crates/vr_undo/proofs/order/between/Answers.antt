use Rattle.std.proofs.Common.{◌≤◌, length, subst, sym}
use Rattle.std.specs.Ordering.{is_lt}
use Rattle.std.proofs.Math.Nat.{le-max_left}
use Rattle.vr_types.specs.Content.{place_cmp}
use Rattle.vr_undo.specs.Order.{key_at}
use Rattle.vr_undo.proofs.Ordered.{max-within, slice-has, slice-sorted}
use Rattle.vr_undo.proofs.order.between.Goals as goal

module _ (c : goal.After-result-1) where
  fits : c.max.result ≤ length c.args.order.now
  fits =
      subst (λ n. n ≤ length c.args.order.now) (sym c.max.ensures)
      (max-within c.first_from-end.result c.first_from-first.result (length c.args.order.now)
      c.first_from-end.ensures.within c.first_from-first.ensures.within)

  past : c.first_from-end.result ≤ c.max.result
  past =
      subst (λ n. c.first_from-end.result ≤ n) (sym c.max.ensures)
      (le-max_left c.first_from-end.result c.first_from-first.result)

pub returns-clause-all : goal.returns-clause-all
returns-clause-all c =
    slice-has c.args.records.now c.args.order.now c.args.low c.args.high c.first_from-first.result
    c.first_from-end.result c.max.result c.first_from-first.ensures.first
    c.first_from-end.ensures.first (past c) (fits c)

pub returns-clause-sorted : goal.returns-clause-sorted
returns-clause-sorted c =
    slice-sorted
    (λ one other. is_lt (place_cmp (key_at c.args.records.now one)
    (key_at c.args.records.now other)))
    c.args.order.now c.first_from-first.result c.max.result (fits c) c.requires.sorted
