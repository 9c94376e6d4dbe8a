use Rattle.std.proofs.Common.{length, ◌-◌, ◌≢◌, [], arith, ap, sym, ◌∙◌, Some, List, ℕ}
use Rattle.vr_seqset.specs.Entry.{Entry}
use Rattle.vr_space.specs.Keyed.{low_in}
use Rattle.vr_space.proofs.Searching.{low_at}
use Rattle.vr_space.proofs.search.low_at.Goals as goal

pub returns-clause-low : goal.returns-clause-low
returns-clause-low c =
    let some : c.args.number ≢ 0 = omega arith in
    let none : Entry = record { intervals = []; high = [] } in
    ap (λ (high : List ℕ). Some high) c.high.ensures
    ∙ sym (low_at (low_in c.args.view.now) c.args.view.now.entries c.args.number none some
    c.requires.number)

pub returns-clause-length : goal.returns-clause-length
returns-clause-length c =
    let none : Entry = record { intervals = []; high = [] } in
    ap length c.high.ensures
    ∙ (c.requires.whole (c.args.number - 1) none (omega (arith, c.requires.number))).high
