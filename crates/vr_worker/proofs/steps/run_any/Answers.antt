use Rattle.std.proofs.Common.{◌≡◌, ◌∙◌, ◌++◌, ℕ, List, ap, arith, drop, length, refl, take}
use Rattle.std.proofs.Math.Seq.{take-append_seam}
use Rattle.vr_worker.proofs.steps.run_any.Goals as goal

-- what a part of a list wrote back is the list, where it was the whole
written-back : {X : Type 0} (old new : List X) (many : ℕ) → many ≡ length new
    → take many (new ++ drop (length new) old) ≡ new
written-back old new many is = ap (λ (n : ℕ). take n (new ++ drop (length new) old)) is
    ∙ take-append_seam new (drop (length new) old)

pub returns-in-Decks : goal.returns-in-Decks
returns-in-Decks g c =
    let said = c.run_step.ensures in
    rw c.in-Decks.is (record {
      placed = said.placed;
      left = said.left;
      reported = refl;
      stamps = said.stamps;
    })

pub returns-in-Utilities : goal.returns-in-Utilities
returns-in-Utilities g c =
    let said = c.report_step.ensures in
    let seen = c.as_mut_slice.ensures in
    let back = written-back c.args.volumes.now.items c.report_step.new.volumes
    c.args.volumes.now.len (omega (arith, seen.len, said.left.since.count)) in
    rw back (rw c.in-Utilities.is (rw (← seen.value) (record {
      placed = said.placed;
      left = said.left;
      reported = said.reported;
      stamps = said.stamps;
    })))
