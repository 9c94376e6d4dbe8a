use Rattle.std.proofs.Common.{◌≡◌, ◌<◌, ℕ, List, None, true, ◌∙◌, ap, sym, subst}
use Rattle.vr_types.specs.declared.reply.Reply.TheVariants.{Done}
use Rattle.vr_history.specs.declared.entry.What.TheVariants.{Asked}
use Rattle.vr_record_file.specs.CatalogEdit.{catalog_edited, entries_of}
use Rattle.vr_record_file.specs.Now.{FileNow, IsStateOf, ended, has_deck, number_of, with_event}
use Rattle.vr_record_file.specs.declared.numbers.DeckNumber.{DeckNumber}
use Rattle.vr_record_file.proofs.CatalogEdits.{edited_is}
use Rattle.vr_record_file.proofs.RecordsMade.{steps_keep}
use Rattle.vr_record_file.proofs.Stepping.{one_left, steps_room}
use Rattle.vr_record_file.proofs.file.RecordFile.edit_catalog.Goals as goal

pub end_unit-requires-clause-room : goal.end_unit-requires-clause-room
end_unit-requires-clause-room c = subst (λ (n : ℕ). 0 < n)
    (sym (ap (λ (file : FileNow). file.room) c.enter_steps.ensures.leaves
    ∙ steps_room c.args.after c.args.line c.args.unit c.args.steps.items c.args.self.now))
    (one_left c.args.self.now.room (entries_of c.args.steps.items) c.requires.room)

pub end_unit-requires-clause-deck : goal.end_unit-requires-clause-deck
end_unit-requires-clause-deck c =
    subst (λ (l : List DeckNumber). has_deck c.args.unit.deck l ≡ true)
    (sym (ap (λ (file : FileNow). file.numbers) c.enter_steps.ensures.leaves
    ∙ ap (λ (file : FileNow). file.numbers)
    (steps_keep c.args.after c.args.line c.args.unit c.args.steps.items c.args.self.now)))
    c.requires.deck

pub end_unit-requires-clause-number : goal.end_unit-requires-clause-number
end_unit-requires-clause-number c =
    subst (λ (l : List DeckNumber). number_of l c.args.unit.deck < 4294967295)
    (sym (ap (λ (file : FileNow). file.numbers) c.enter_steps.ensures.leaves
    ∙ ap (λ (file : FileNow). file.numbers)
    (steps_keep c.args.after c.args.line c.args.unit c.args.steps.items c.args.self.now)))
    c.requires.number

pub returns-clause-state : goal.returns-clause-state
returns-clause-state c = λ opening changes is may.
    let leaves : c.end_unit.new.self ≡ catalog_edited c.args.after c.args.unit c.args.line
    c.args.steps.items c.args.commit c.args.catalog c.args.self.now =
    c.end_unit.ensures.leaves
    ∙ ap (λ (to : FileNow). with_event 0 c.args.unit c.args.line (Asked
    c.args.commit (Done 0 None None)) (ended c.args.unit to)) c.enter_steps.ensures.leaves in
    subst (IsStateOf opening) (sym leaves) (edited_is opening c.args.self.now c.args.after
    c.args.line c.args.unit c.args.steps.items changes c.args.commit
    c.args.catalog is may c.requires.deck c.requires.number)
