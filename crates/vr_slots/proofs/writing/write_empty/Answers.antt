use Rattle.std.proofs.Common.{rules, ap, subst, ◌∙◌, replicate}
use Rattle.vr_ci_match.specs.declared.form.Form.TheVariants as forms
use Rattle.vr_ci.specs.Writer.{form_of}
use Rattle.vr_space.specs.Rosters.{Numbered}
use Rattle.vr_space.specs.Slots.{slots_of}
use Rattle.vr_slots.specs.Slot.{AreSlotsEmpty, empty_slot}
use Rattle.vr_slots.proofs.WritingSlots.{slots-written}
use Rattle.vr_slots.proofs.writing.write_empty.Goals as goal

pub returns-clause-empty : goal.returns-clause-empty
returns-clause-empty c =
    let part = c.args.layout.now in
    let is = c.end.ensures.interval _ c.add_empty.ensures.added in
    let long = c.end.ensures.size ∙ c.add_empty.ensures.size ∙ c.begin-writer.ensures.size
    ∙ c.requires.size in
    let both = slots-written part (form_of c.add_empty.new.writer) _
    (replicate (slots_of part) (empty_slot part))
    (c.add_empty.ensures.form ∙ c.begin-writer.ensures.form
    ∙ ap (λ (p : Numbered). forms.Slots p.most) c.layout.view_is) long is in
    subst (AreSlotsEmpty part) (search rules) (record { slots = both.0; items = both.1 })
