use Rattle.std.proofs.Common.{refl, rules, ap, subst, ◌∙◌}
use Rattle.vr_ci_match.specs.declared.form.Form.TheVariants as forms
use Rattle.vr_ci.specs.Writer.{form_of}
use Rattle.vr_space.specs.Part.{given}
use Rattle.vr_space.specs.Rosters.{Numbered}
use Rattle.vr_slots.specs.Slot.{IsSlotSet}
use Rattle.vr_slots.proofs.WritingSlots.{set-written}
use Rattle.vr_slots.proofs.writing.write_set.Goals as goal

pub returns-clause-written : goal.returns-clause-written
returns-clause-written c = λ slots whole.
    let part = c.args.layout.now in
    let is = c.end.ensures.interval _ c.add_slots.ensures.added in
    let long = c.end.ensures.size ∙ c.add_slots.ensures.size ∙ c.begin-writer.ensures.size
    ∙ c.requires.size in (
      refl,
      subst (IsSlotSet part c.args.slot (given c.args.bytes) c.args.block.now) (search rules)
          (set-written part (form_of c.add_slots.new.writer) c.args.block.now _ c.args.slot
          (given c.args.bytes) c.in-Some.view.items
          (c.add_slots.ensures.form ∙ c.begin-writer.ensures.form
          ∙ ap (λ (p : Numbered). forms.Slots p.most) c.layout.view_is)
          long is c.in-Some.ensures.items slots),
    )
