use Rattle.std.proofs.Common.{ap, sym, ◌∙◌, true≢false}
use Rattle.vr_space.specs.Rosters.{Numbered}
use Rattle.vr_entries.proofs.Passing.{entries-read, items-read, read-entries}
use Rattle.vr_entries.proofs.reading.entries_in.Goals as goal

pub returns-in_default-clause-none : goal.returns-in_default-clause-none
returns-in_default-clause-none c = λ none entries. c.in_default.ensures.only _ entries.spelled

pub returns-then-not-is_of_entries-clause-none : goal.returns-then-not-is_of_entries-clause-none
returns-then-not-is_of_entries-clause-none c = λ none entries. true≢false
    (sym (c.is_of_entries.ensures.1 (read-entries c.args.layout.now c.args.block.now c.in-Ok.view
    c.in-Ok.ensures.ok entries)) ∙ c.if-not-is_of_entries.true)

pub returns-clause-items : goal.returns-clause-items
returns-clause-items c =
    items-read c.args.layout.now c.args.block.now c.in-Ok.view c.in-Ok.ensures.ok
    (c.is_of_entries.ensures.0 c.if-not-is_of_entries.false)

pub returns-clause-some : goal.returns-clause-some
returns-clause-some c =
    entries-read c.args.layout.now c.args.block.now c.in-Ok.view c.in-Ok.ensures.ok
    (c.is_of_entries.ensures.0 c.if-not-is_of_entries.false)
    (c.if-block-layout.false
    ∙ ap (λ (p : Numbered). p.geometry.size) c.layout.view_is)
