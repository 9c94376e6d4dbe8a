use Rattle.std.proofs.Common.{◌≡◌, ℕ, Option, Some, arith, length}
use Rattle.vr_seqset.specs.Reading.{record_in}
use Rattle.vr_space.specs.Keyed.{entries_of}
use Rattle.vr_casplit.proofs.WrittenHeads.{entries-below, entries-field}
use Rattle.vr_casplit.proofs.link.moving.Goals as goal

same-some : (one other : ℕ) (found : Option ℕ) → found ≡ Some one → found ≡ Some other
    → one ≡ other
same-some one other found is also = cc

pub overflow_cast-result : goal.overflow_cast-result
overflow_cast-result c =
    let top = c.args.top.now in
    let rules = c.requires.head.spelled.rules in
    omega (
      arith,
      same-some c.in-Some.entries (length (entries_of top)) c.entry_count.result c.in-Some.is
          (c.entry_count.ensures c.requires.head),
      entries-field c.args.layout.now.area (length top) (record_in top) rules,
    )

pub returns-clause-area : goal.returns-clause-area
returns-clause-area c =
    let top = c.args.top.now in
    let rules = c.requires.head.spelled.rules in
    omega (
      arith,
      same-some c.in-Some.entries (length (entries_of top)) c.entry_count.result c.in-Some.is
          (c.entry_count.ensures c.requires.head),
      entries-below c.args.layout.now.area (length top) (record_in top) rules,
    )
