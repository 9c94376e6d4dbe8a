use Rattle.std.proofs.Common.{◌≡◌, [], Some, length, ap, sym, ◌∙◌}
use Rattle.std.proofs.Common.{arith}
use Rattle.std.specs.List.{slice_get}
use Rattle.std.proofs.lemmas.Option.{slice_get-get_or}
use Rattle.vr_seqset.specs.Entry.{Entry}
use Rattle.vr_seqset.specs.SequenceSet.{SequenceSet}
use Rattle.vr_space.specs.Keyed.{low_in}
use Rattle.vr_space.specs.Search.{low_before}
use Rattle.vr_space.proofs.Searching.{got-whole, got-in, found_range}
use Rattle.vr_space.proofs.search.found_at.Goals as goal

pub interval-interval-requires : goal.interval-interval-requires
interval-interval-requires c =
    let none : Entry = record { intervals = []; high = [] } in
    let is : slice_get c.args.view.now.entries c.args.number ≡ Some c.entry-entry.result =
    slice_get-get_or c.args.view.now.entries c.args.number none (omega arith)
    ∙ ap (λ (e : Entry). Some e) (sym c.entry-entry.ensures) in
    (got-whole (length c.args.view.now.low) c.args.view.now.entries c.args.number
    c.entry-entry.result c.requires.whole is).some

pub low_at-requires-clause-whole : goal.low_at-requires-clause-whole
low_at-requires-clause-whole c = c.requires.whole

pub returns-clause-found : goal.returns-clause-found
returns-clause-found c = λ top size same rules_kept.
    let none : Entry = record { intervals = []; high = [] } in
    let is : slice_get c.args.view.now.entries c.args.number ≡ Some c.entry-entry.result =
    slice_get-get_or c.args.view.now.entries c.args.number none (omega arith)
    ∙ ap (λ (e : Entry). Some e) (sym c.entry-entry.ensures) in
    record {
      entry = c.entry-entry.result;
      number = ap (λ (s : SequenceSet). slice_get s.entries c.args.number) same ∙ is;
      range = found_range _ _ _ c.entry-entry.result
          (c.low_at.ensures.low
          ∙ ap (λ (s : SequenceSet). low_before (low_in s) s.entries c.args.number) (sym same))
          c.high.ensures;
      interval = c.interval-interval.ensures;
    }

pub returns-then-interval-area-clause-found : goal.returns-then-interval-area-clause-found
returns-then-interval-area-clause-found c = λ top size same rules_kept.
    let none : Entry = record { intervals = []; high = [] } in
    let is : slice_get c.args.view.now.entries c.args.number ≡ Some c.entry-entry.result =
    slice_get-get_or c.args.view.now.entries c.args.number none (omega arith)
    ∙ ap (λ (e : Entry). Some e) (sym c.entry-entry.ensures) in
    absurd (omega (
      arith,
      c.interval-interval.ensures,
      c.if-interval-area.true,
      got-in c.args.area size c.args.view.now c.args.number c.entry-entry.result rules_kept is,
    ))

pub returns-clause-places : goal.returns-clause-places
returns-clause-places c =
    let none : Entry = record { intervals = []; high = [] } in
    let is : slice_get c.args.view.now.entries c.args.number ≡ Some c.entry-entry.result =
    slice_get-get_or c.args.view.now.entries c.args.number none (omega arith)
    ∙ ap (λ (e : Entry). Some e) (sym c.entry-entry.ensures) in
    record {
      low = c.low_at.ensures.length;
      high = ap length c.high.ensures
          ∙ (got-whole (length c.args.view.now.low) c.args.view.now.entries c.args.number
          c.entry-entry.result c.requires.whole is).high;
    }
