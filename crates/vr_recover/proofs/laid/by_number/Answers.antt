use Rattle.std.proofs.Common.{◌∙◌, List, arith, rules, subst}
use Rattle.std.specs.Borrow.{Bor}
use Rattle.std.specs.List.Sorted.{IsPermutation}
use Rattle.std.proofs.lemmas.List.{take_all}
use Rattle.std.proofs.lemmas.List.Sorted.{IsNonDecreasingBy-from_sort_by_key, IsPermutation-map}
use Rattle.vr_catalog.specs.declared.entry.CatEntry.{CatEntry}
use Rattle.vr_recover.specs.Found.{held_entries}
use Rattle.vr_recover.specs.Opening.{number_of}
use Rattle.vr_recover.proofs.NumberOrder.{held-ascend}
use Rattle.vr_recover.proofs.laid.by_number.Goals as goal

pub returns : goal.returns
returns c =
    let sorted = c.in_ok-sort_by_key.ensures in
    record {
      same = subst (λ (es : List CatEntry).
          IsPermutation es (held_entries c.sort_by_key.new.self.items))
          (c.loop-entry.invariant
          ∙ take_all c.loop-entry.entry-index c.args.entries.now (omega arith))
          (IsPermutation-map (λ (e : Bor CatEntry). e.now) c.loop-entry.ordered.items
          c.sort_by_key.new.self.items sorted.permutation);
      ascend = held-ascend c.sort_by_key.new.self.items
          (IsNonDecreasingBy-from_sort_by_key (λ (e : Bor CatEntry). number_of e.now) _
          sorted.sorted (λ a r q k. search rules));
    }
