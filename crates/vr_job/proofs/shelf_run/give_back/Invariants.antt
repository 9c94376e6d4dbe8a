use Rattle.std.proofs.Common.{◌≡◌, ◌+◌, ◌≤◌, ◌++◌, [], length, map}
use Rattle.std.specs.Prelude.{vec_capacity}
use Rattle.vr_trace.specs.Volumes.{entries_of}
use Rattle.vr_job.proofs.shelf_run.give_back.Given as goal

abbrev pub invariant-loop-device : goal.invariant-loop-device
invariant-loop-device g l = record {
  shelf : l.shelf.items ++ l.device-iterator.rest.items
      ≡ l.initial.shelf.items ++ l.fn.unopened.items;
  histories : entries_of l.histories.items ++ map (λ _. []) l.device-iterator.rest.items
      ≡ entries_of l.initial.histories.items ++ map (λ _. []) l.fn.unopened.items;
  room : length l.shelf.items + length l.device-iterator.rest.items ≤ vec_capacity l.shelf;
  histories_room : length l.histories.items + length l.device-iterator.rest.items
      ≤ vec_capacity l.histories;
}
