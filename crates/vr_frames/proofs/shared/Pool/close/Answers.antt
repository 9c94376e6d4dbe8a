use Rattle.std.proofs.Common.{◌≡◌, ℕ, ◌==◌, List, count_by, take, length, sym, ap, ◌∙◌, arith}
use Rattle.std.proofs.lemmas.List.{nil_from_length}
use Rattle.std.specs.Mem.Slots.{slots_counts}
use Rattle.vr_frames.specs.Rule.{IsBuffer}
use Rattle.vr_frames.proofs.HomeCounts.{home_most, home_last}
use Rattle.vr_frames.proofs.shared.Pool.close.Goals as goal

pub returns-clause-most : goal.returns-clause-most
returns-clause-most c =
    let closed = c.close_with-closed.ensures in let final = closed.values.2 in let state =
    final.0 in
    let long : length state.homes ≡ c.args.self.frames =
    omega (
      arith,
      final.3,
      (slots_counts c.close_with-closed.result.slots).0,
      closed.counts.1,
      c.args.self.counts.0,
    ) in
    let counted = c.count_home-home.ensures
    ∙ (ap (λ (words : List ℕ). count_by (λ word. word == 0) (take c.args.self.frames words))
    (sym final.2) ∙ ap (λ (n : ℕ). count_by (λ word. word == 0) (take n state.words))
    (sym long)) in
    omega (
      arith,
      counted,
      long,
      c.args.self.counts.0,
      home_most IsBuffer _ state final.1.0 _ _ final.1.1,
    )

pub returns-clause-last : goal.returns-clause-last
returns-clause-last c whole =
    let closed = c.close_with-closed.ensures in let final = closed.values.2 in let state =
    final.0 in
    let long : length state.homes ≡ c.args.self.frames =
    omega (
      arith,
      final.3,
      (slots_counts c.close_with-closed.result.slots).0,
      closed.counts.1,
      c.args.self.counts.0,
    ) in
    let counted = c.count_home-home.ensures
    ∙ (ap (λ (words : List ℕ). count_by (λ word. word == 0) (take c.args.self.frames words))
    (sym final.2) ∙ ap (λ (n : ℕ). count_by (λ word. word == 0) (take n state.words))
    (sym long)) in
    omega (
      arith,
      counted,
      long,
      c.args.self.counts.0,
      home_last IsBuffer _ state final.1.0 _ _ final.1.1 whole
          (nil_from_length _ c.args.seat.rests.1),
    )
