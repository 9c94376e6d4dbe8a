use Rattle.std.proofs.Common.{◌≡◌, ◌≤◌, ◌+◌, ◌-◌, List, All, length}
use Rattle.std.specs.List.{AllByRecursion}
use Rattle.vr_ci.specs.Interval as ci
use Rattle.vr_ci.specs.Writer.{Holds, form_of, size_of, buffer_of}
use Rattle.vr_space.specs.Keyed.{IsKept}
use Rattle.vr_keyed.specs.Setting.{items_in}
use Rattle.vr_keyed.proofs.Adding.{IsAdding}
use Rattle.vr_keyed.proofs.stretch.add_stretch.Given as goal

abbrev pub invariant-loop-i : goal.invariant-loop-i
invariant-loop-i l = record {
  form : form_of l.writer ≡ form_of l.fn.writer;
  size : size_of l.writer ≡ size_of l.fn.writer;
  buffer : buffer_of l.writer ≡ buffer_of l.fn.writer;
  items : AllByRecursion ci.IsItem l.records;
  count : length l.records + l.i ≡ length l.view.items;
  added : (items : List ci.Item) → Holds l.fn.writer items → All (IsKept l.layout) l.view.items
      → ci.room items + ci.room (items_in l.layout l.stretch l.view.items)
      ≤ size_of l.fn.writer - 4
      → IsAdding l.layout l.stretch items l.view.items l.records l.writer;
}
