use Rattle.std.proofs.Common.{ap, ◌∙◌, List, ℕ, nat_eq}
use Rattle.lru.specs.LruCache.{LruCache, lru_cache, put_entries}
use Rattle.vr_resident.specs.Places.{Entry}
use Rattle.vr_resident.specs.declared.place.Place.{Place}
use Rattle.vr_resident.specs.declared.place.Place.TheVariants.{Bare}
use Rattle.vr_resident.proofs.Beginning.{bare_more}
use Rattle.vr_resident.proofs.making.bare_table.Goals as goal

pub loop-number-preserved : goal.loop-number-preserved
loop-number-preserved c =
    let n = c.loop-number.number in
    c.in_ok-put.ensures.entries
    ∙ (ap (λ (t : LruCache ℕ Place). lru_cache (put_entries nat_eq t n Bare) t.cap)
    c.loop-number.invariant
    ∙ ap (λ (es : List Entry). lru_cache es 64) (bare_more n c.loop-number-test.true))
