use Rattle.std.proofs.Common.{◌≡◌, sym, subst, true}
use Rattle.vr_space.specs.Room.{Range, is_above}
use Rattle.vr_space.specs.Keyed.{entries_of, low_of}
use Rattle.vr_space.specs.Search.{range_found}
use Rattle.vr_space.proofs.CallerLemmas.{head-ascends}
use Rattle.vr_split.specs.Halves.{HasRange}
use Rattle.vr_split.proofs.Leading.{in-leads}
use Rattle.vr_split.proofs.Ready.{found-is, range-rises}
use Rattle.vr_split.proofs.making.write_lower.Goals as goal

pub returns-in-Some : goal.returns-in-Some
returns-in-Some c at head leads holds =
    let a = c.args in
    let same : range_found c.in-Some.found ≡ at.0 =
    found-is a.top.now a.cut.now at c.in-Some.found leads (c.in-Some.ensures.found head) in
    subst (λ (r : Range). HasRange a.layout.now r a.block.now c.write_range.new.out) same
    (c.write_range.ensures at.0 holds
    (subst (λ (r : Range). is_above r.low r.high ≡ true) (sym same)
    (range-rises (low_of a.top.now) (entries_of a.top.now) a.cut.now at
    (head-ascends a.layout.now a.top.now head) (in-leads a.top.now a.cut.now at leads))))
