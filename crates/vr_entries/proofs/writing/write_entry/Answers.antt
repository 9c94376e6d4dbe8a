use Rattle.std.proofs.Common.{rules, subst, ◌∙◌}
use Rattle.vr_ci.specs.Writer.{form_of}
use Rattle.vr_space.specs.Part.{given}
use Rattle.vr_entries.specs.Entry.{IsEntrySet}
use Rattle.vr_entries.proofs.Making.{set-written}
use Rattle.vr_entries.proofs.writing.write_entry.Goals as goal

pub returns-clause-written : goal.returns-clause-written
returns-clause-written c = λ entries may done.
    let part = c.args.layout.now in
    let added = c.add_entries.ensures.added in
    let is = c.end.ensures.interval added.0 added.1 in
    let long = c.end.ensures.size ∙ c.add_entries.ensures.size ∙ c.begin-writer.ensures.size
    ∙ c.requires.size in
    subst (IsEntrySet part c.args.at (given c.args.bytes) c.args.block.now) (search rules)
    (set-written part (form_of c.add_entries.new.writer) c.args.block.now _ c.args.at
    (given c.args.bytes) c.in-Some.view.items added.0
    (c.add_entries.ensures.form ∙ c.begin-writer.ensures.form) long is c.in-Some.ensures.items
    entries (c.may_stand.ensures.0 c.if-not-may_stand.false) added.2)
