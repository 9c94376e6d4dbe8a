use Rattle.std.proofs.Common.{◌≡◌, List, ℕ, Some, ap, subst, ◌∙◌}
use Rattle.std.specs.Ordering.{is_lt}
use Rattle.vr_types.specs.Content.{place_cmp}
use Rattle.vr_space.specs.Room.{Range}
use Rattle.vr_split.specs.Halves.{HasRange}
use Rattle.vr_split.proofs.Ready.{found-is}
use Rattle.vr_split.proofs.making.write_upper.Goals as goal

pub returns-in-Some : goal.returns-in-Some
returns-in-Some c at head leads less holds =
    let a = c.args in
    let high : c.in-Some.found.high.now ≡ at.0.high = ap (λ (r : Range). r.high)
    (found-is a.top.now a.cut.now at c.in-Some.found leads (c.in-Some.ensures.found head)) in
    subst (λ (place : List ℕ). HasRange a.layout.now
    (record { low = Some a.cut.now; high = place }) a.block.now c.write_range.new.out) high
    (c.write_range.ensures at.0 holds (ap is_lt (ap (place_cmp a.cut.now) high ∙ less)))
