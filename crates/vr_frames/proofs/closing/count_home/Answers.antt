use Rattle.std.proofs.Common.{ℕ, cond, Bool, ap, arith, eq-eqb, ne_eqb}
use Rattle.std.specs.Mem.Slots.{slots_items, slots_counts}
use Rattle.vr_frames.proofs.HomeCounts.{count_more}
use Rattle.vr_frames.proofs.closing.count_home.Goals as goal
use Rattle.vr_frames.proofs.closing.count_home.Goals.{then-word-eq0, else-word-eq0}

pub loop-number-preserved : goal.loop-number-preserved
loop-number-preserved c =
    let words = c.args.closed.now.words in let so_far = c.loop-number.invariant in
    let more = count_more (slots_items words) c.loop-number.number c.word.result c.word.ensures
    (omega (arith, (slots_counts words).0, c.requires.long, c.loop-number-test.true)) in
    elim c.if-word-eq0.branch [
      | then-word-eq0 arm ↦ record {
        counted =
            omega (
              arith,
              arm.home-is,
              so_far.counted,
              more,
              ap {B = ℕ} (λ (test : Bool). cond test 1 0)
                  (eq-eqb c.word.result 0 arm.if-word-eq0.true),
            );
        fits =
            omega (arith, arm.home-is, so_far.fits);
      }
      | else-word-eq0 arm ↦ record {
        counted =
            omega (
              arith,
              arm.home-is,
              so_far.counted,
              more,
              ap {B = ℕ} (λ (test : Bool). cond test 1 0)
                  (ne_eqb c.word.result 0 arm.if-word-eq0.false),
            );
        fits =
            omega (arith, arm.home-is, so_far.fits);
      }
    ]
