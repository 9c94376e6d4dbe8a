use Rattle.std.proofs.Common.{◌<◌, ◌≤◌, ℕ, length}
use Rattle.std.specs.Prelude.{vec_capacity}
use Rattle.std.specs.List.{Contains}
use Rattle.vr_undo.specs.Order.{AreNumbers}
use Rattle.vr_undo.proofs.order.list_all.Given as goal

abbrev pub invariant-loop-number : goal.invariant-loop-number
invariant-loop-number l = record {
  most : length l.order.items ≤ l.number;
  numbers : AreNumbers l.records l.order.items;
  all : (number : ℕ) → number < l.number → Contains l.order.items number;
  capacity : length l.records ≤ vec_capacity l.order;
}
