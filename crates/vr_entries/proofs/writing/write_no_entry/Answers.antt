use Rattle.std.proofs.Common.{[], rules, subst, ◌∙◌}
use Rattle.vr_ci.specs.Writer.{form_of}
use Rattle.vr_entries.specs.Entry.{HasNoEntry}
use Rattle.vr_entries.proofs.Making.{entries-written}
use Rattle.vr_entries.proofs.writing.write_no_entry.Goals as goal

pub returns-clause-empty : goal.returns-clause-empty
returns-clause-empty c =
    let part = c.args.layout.now in
    let is = c.end.ensures.interval _ c.begin-writer.ensures.empty in
    let long = c.end.ensures.size ∙ c.begin-writer.ensures.size ∙ c.requires.size in
    let both = entries-written part (form_of c.begin-writer.result) _ []
    c.begin-writer.ensures.form long is tt in
    subst (HasNoEntry part) (search rules) (record { entries = both.0; items = both.1 })
