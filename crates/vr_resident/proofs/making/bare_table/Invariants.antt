use Rattle.std.proofs.Common.{◌≡◌}
use Rattle.lru.specs.LruCache.{lru_cache}
use Rattle.vr_resident.specs.Making.{bare_places}
use Rattle.vr_resident.proofs.making.bare_table.Given as goal

abbrev pub invariant-loop-number : goal.invariant-loop-number
invariant-loop-number l = l.table ≡ lru_cache (bare_places l.number) 64
