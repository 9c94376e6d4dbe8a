use Rattle.std.proofs.Common.{◌≡◌, ◌<◌, ◌≤◌, ℕ, length, true, ltb, All}
use Rattle.std.specs.Prelude.{is_some, vec_capacity}
use Rattle.std.specs.List.{Contains}
use Rattle.std.specs.List.Sorted.{IsSortedBy}
use Rattle.vr_undo.specs.Order.{AreNumbers}
use Rattle.vr_undo.specs.Searched.{record_at}
use Rattle.vr_undo.proofs.order.list_live.Given as goal

abbrev pub invariant-loop-number : goal.invariant-loop-number
invariant-loop-number l = record {
  most : length l.live.items ≤ l.number;
  numbers : AreNumbers l.records l.live.items;
  below : All (λ number. number < l.number) l.live.items;
  all : (number : ℕ) → number < l.number → is_some (record_at l.records number).kept ≡ true
      → Contains l.live.items number;
  sorted : IsSortedBy (λ one other. ltb one other) l.live.items;
  capacity : length l.records ≤ vec_capacity l.live;
}
