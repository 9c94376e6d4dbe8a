use Rattle.std.proofs.Common.{List, ℕ, ◌<◌, ◌+◌, subst, sym}
use Rattle.std.specs.Prelude.{All, Contains}
use Rattle.vr_recover.proofs.Opening.{contains-more, numbered-more}
use Rattle.vr_recover.proofs.syncing.numbers_of.Goals as goal

pub loop-n-preserved : goal.loop-n-preserved
loop-n-preserved c =
    let count = c.args.count in
    let n = c.loop-n.n in
    let numbers = c.loop-n.numbers.items in
    record {
      below = subst (All (λ (m : ℕ). m < count)) (sym c.in_ok-push.ensures.items)
          (numbered-more count n numbers c.loop-n-test.true c.loop-n.invariant.below);
      all = subst (λ (ns : List ℕ). (m : ℕ) → m < n + 1 → Contains ns m)
          (sym c.in_ok-push.ensures.items) (contains-more n numbers c.loop-n.invariant.all);
    }
