use Rattle.std.proofs.Common.{◌≡◌, ◌<◌, ◌+◌, ◌-◌, ℕ, List, sym, arith, subst, rules, drop, length}
use Rattle.std.specs.List.{All}
use Rattle.std.specs.Prelude.{IsTrue}
use Rattle.std.specs.Ordering.{is_le}
use Rattle.std.specs.declared.cmp.Ordering.TheVariants.{Less}
use Rattle.vr_types.specs.Content.{place_cmp}
use Rattle.vr_split.specs.Entries.{lengths_seen}
use Rattle.vr_split.proofs.LengthLemmas.{at_or_before, less_tested}
use Rattle.vr_split.proofs.Totals.{length_seen}
use Rattle.vr_split.proofs.EntryLemmas.{position_after, past_more}
use Rattle.vr_split.proofs.weights.position_in.Goals as goal

pub returns-then-is_lt : goal.returns-then-is_lt
returns-then-is_lt c ascend =
    let i = c.loop-i.i - 1 in
    let entries = c.args.entries.now in
    let inside : i < length entries =
    omega (arith, c.loop-i-test.true, c.loop-i.invariant.within) in
    let less : place_cmp c.index-entries-i.result.place.place c.args.place.now ≡ Less =
    less_tested _ (search rules) in
    let same : i + 1 ≡ c.loop-i.i = omega (arith, c.loop-i-test.true) in
    record {
      within = omega (arith, inside, length_seen entries);
      below = position_after entries c.args.place.now i c.index-entries-i.result ascend inside
          c.index-entries-i.is less;
      past = subst (λ (n : ℕ). All
          (λ (entry : List ℕ × ℕ). IsTrue (is_le (place_cmp c.args.place.now entry.0)))
          (drop n (lengths_seen entries))) (sym same) c.loop-i.invariant.past;
    }

pub loop-i-preserved : goal.loop-i-preserved
loop-i-preserved c =
    let i = c.loop-i.i - 1 in
    let entries = c.args.entries.now in
    let inside : i < length entries =
    omega (arith, c.loop-i-test.true, c.loop-i.invariant.within) in
    let same : i + 1 ≡ c.loop-i.i = omega (arith, c.loop-i-test.true) in
    record {
      within = omega (arith, c.loop-i.invariant.within);
      past = past_more entries c.args.place.now i c.index-entries-i.result inside
          c.index-entries-i.is
          (at_or_before c.index-entries-i.result.place.place c.args.place.now (search rules))
          (subst (λ (n : ℕ). All
          (λ (entry : List ℕ × ℕ). IsTrue (is_le (place_cmp c.args.place.now entry.0)))
          (drop n (lengths_seen entries))) (sym same) c.loop-i.invariant.past);
    }
