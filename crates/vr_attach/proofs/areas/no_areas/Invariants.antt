use Rattle.std.proofs.Common.{◌≡◌, length}
use Rattle.std.specs.Prelude.{All}
use Rattle.vr_attach.specs.declared.areas.AreaEnd.{AreaEnd}
use Rattle.vr_attach.proofs.areas.no_areas.Given as goal

abbrev pub invariant-loop : goal.invariant-loop
invariant-loop l = record {
  count : length l.entries.items ≡ l.counter;
  room : All (λ (entry : AreaEnd). entry.end.room ≡ l.fn.layout.key) l.entries.items;
}
