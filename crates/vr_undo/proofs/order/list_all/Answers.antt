use Rattle.std.proofs.Common.{List, ℕ, ◌<◌, ◌≤◌, ◌+◌, arith, length, subst, sym}
use Rattle.std.specs.List.{Contains}
use Rattle.std.proofs.lemmas.List.{length_push}
use Rattle.std.proofs.lemmas.List.Elements.{All-push}
use Rattle.vr_undo.specs.Order.{AreNumbers}
use Rattle.vr_undo.proofs.Ordered.{all-pushed}
use Rattle.vr_undo.proofs.order.list_all.Goals as goal

pub loop-number-preserved : goal.loop-number-preserved
loop-number-preserved c =
    let records = c.args.records.now in
    let numbers : List ℕ = c.loop-number.order.items in
    let end = c.loop-number.number in
    let is = sym c.push_reserved.ensures.items in
    record {
      most =
          subst (λ (xs : List ℕ). length xs ≤ end + 1) is
          (omega (arith, length_push numbers end, c.loop-number.invariant.most));
      numbers =
          subst (AreNumbers records) is
          (All-push (λ n. n < length records) numbers end c.loop-number.invariant.numbers
          c.loop-number-test.true);
      all =
          subst (λ (xs : List ℕ). (n : ℕ) → n < end + 1 → Contains xs n) is
          (all-pushed numbers end c.loop-number.invariant.all);
      capacity =
          subst (λ (n : ℕ). length records ≤ n) (sym c.push_reserved.ensures.capacity)
          c.loop-number.invariant.capacity;
    }
