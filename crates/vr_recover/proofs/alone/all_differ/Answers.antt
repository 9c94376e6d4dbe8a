use Rattle.std.proofs.Common.{rules, ◌≡◌, List, map, subst}
use Rattle.std.specs.List.{IsAllAdjacentAnswer}
use Rattle.std.specs.Ordering.{is_lt}
use Rattle.std.proofs.lemmas.Cmp.{nat_list_cmp_total}
use Rattle.std.proofs.lemmas.Fn.{always_returns_same}
use Rattle.std.proofs.lemmas.List.Sorted.{IsPermutation-map, IsPermutation-sym, ranks_by}
use Rattle.vr_types.specs.Content.{place_cmp}
use Rattle.vr_recover.specs.Keys.{listed}
use Rattle.vr_recover.specs.declared.alone.Key.{Key}
use Rattle.vr_recover.proofs.Differing.{differ-moved, tells-differ}
use Rattle.vr_recover.proofs.alone.all_differ.Goals as goal

pub returns : goal.returns
returns c =
    let keys = c.args.keys.now.items in
    let ordered = c.sort_unstable_by.new.self.items in
    let moves = IsPermutation-map listed keys ordered c.sort_unstable_by.ensures.permutation in
    let sorted = c.sort_unstable_by.ensures.sorted
    (λ one other. is_lt (place_cmp (listed one) (listed other)))
    (ranks_by nat_list_cmp_total listed)
    (always_returns_same _ _ _ (λ a r f called. search rules)) in
    let told = c.is_sorted_by.ensures.cases
    (λ one other. is_lt (place_cmp (listed one) (listed other)))
    (always_returns_same _ _ _ (λ a r f called. search rules)) in
    let tells = tells-differ listed ordered c.is_sorted_by.result sorted
    (subst (λ (xs : List Key). IsAllAdjacentAnswer
    (λ one other b. b ≡ is_lt (place_cmp (listed one) (listed other))) xs c.is_sorted_by.result)
    c.deref.ensures.value told) in (
      λ is. differ-moved (map listed ordered) (map listed keys)
          (IsPermutation-sym (map listed keys) (map listed ordered) moves) (tells.0 is),
      λ differ. tells.1 (differ-moved (map listed keys) (map listed ordered) moves differ),
    )
