use Rattle.std.proofs.Common.{List, ℕ, ◌≡◌, ◌≤◌, ◌∷◌, ◌++◌, [], true, false, length, subst, sym, ◌∙◌}
use Rattle.std.specs.List.{insert}
use Rattle.std.specs.List.Sorted.{IsPartitionPoint}
use Rattle.std.specs.Ordering.{is_le}
use Rattle.vr_types.specs.Content.{place_cmp}
use Rattle.vr_undo.specs.Order.{IsOrder, comes_before, key_at, key_in}
use Rattle.vr_undo.proofs.Keeping.{order-more}
use Rattle.vr_undo.proofs.Ordered.{on-success}
use Rattle.vr_undo.proofs.order.list_new.Goals as goal

pub returns-clause-order : goal.returns-clause-order
returns-clause-order c =
    let records = c.args.records.now in
    let order : List ℕ = c.args.order.now.items in
    let at = c.first_from-at.result in
    let parts : IsPartitionPoint
    (λ n. is_le (place_cmp (key_at records n) (key_in c.args.made.now)) ≡ true)
    (λ n. is_le (place_cmp (key_at records n) (key_in c.args.made.now)) ≡ false) order at =
    subst (λ key. IsPartitionPoint (λ n. is_le (place_cmp (key_at records n) key) ≡ true)
    (λ n. is_le (place_cmp (key_at records n) key) ≡ false) order at) c.key_in.ensures
    (subst (λ (xs : List ℕ). IsPartitionPoint
    (λ n. comes_before (record { key = c.key_in.result; past = true }) (key_at records n) ≡ true)
    (λ n. comes_before (record { key = c.key_in.result; past = true }) (key_at records n) ≡ false)
    xs at) c.deref.ensures.value c.first_from-at.ensures.first) in
    subst (IsOrder (records ++ c.args.made.now ∷ []))
    (sym (c.insert.ensures.items
    ∙ on-success c.insert.result (insert order at (length records)) order
    (sym c.is_err.ensures.value ∙ c.if-is_err.false)))
    (order-more records c.args.made.now order c.requires.order at
    (subst (λ (xs : List ℕ). at ≤ length xs) c.deref.ensures.value c.first_from-at.ensures.within) parts)
