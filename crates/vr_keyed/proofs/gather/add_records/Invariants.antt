use Rattle.std.proofs.Common.{◌≡◌, All, map}
use Rattle.std.specs.List.Sorted.{IsStrictlySortedBy}
use Rattle.vr_types.specs.Content.{place_cmp}
use Rattle.vr_space.specs.Keyed.{IsKept}
use Rattle.vr_space.specs.Lent.{range_lent}
use Rattle.vr_keyed.proofs.Gathering.{IsGathering, key_in}
use Rattle.vr_keyed.proofs.gather.add_records.Given as goal

abbrev pub invariant-loop : goal.invariant-loop
invariant-loop l = record {
  gathering : All (IsKept l.layout) l.view.items
      → IsStrictlySortedBy place_cmp (map (key_in l.layout) l.view.items)
      → IsGathering l.layout (range_lent l.range) l.view.items l.records l.weights.lengths
      l.counter;
  count : l.weights.count ≡ l.fn.weights.count;
  bytes : l.weights.bytes ≡ l.fn.weights.bytes;
}
