use Rattle.std.proofs.Common.{◌∙◌, ◌≤◌, ℕ, List, Ok, ap, arith, inr, subst, sym}
use Rattle.vr_history.specs.declared.entry.Entry.{Entry}
use Rattle.vr_trace.specs.Shown.{Shown}
use Rattle.vr_ams_define.specs.Edited.{IsShownEdited}
use Rattle.vr_ams_define.specs.Grown.{HasEntered}
use Rattle.vr_ams_define.specs.declared.answer.Changed.{Changed}
use Rattle.vr_event.proofs.CallerLemmas.{few-changes}
use Rattle.vr_job.specs.Answering.{changed_of}
use Rattle.vr_job.specs.Going.{went-then}
use Rattle.vr_job.specs.Serving.{shown_of}
use Rattle.vr_job.proofs.DefineShown.{none-defined, ready-shown}
use Rattle.vr_job.proofs.EditShown.{edit-refused, edit-shown, ready-may}
use Rattle.vr_job.proofs.GoingOn.{less-then}
use Rattle.vr_job.proofs.editing.edit_catalog.Goals as goal

pub entries_to_edit-requires : goal.entries_to_edit-requires
entries_to_edit-requires g c = record {
  few = few-changes c.args.volume.now.file.geometry c.args.volume.now.file.catalog
      c.args.edit.now c.requires.edit;
}

pub returns-in_err-make_ready-clause-refused : goal.returns-in_err-make_ready-clause-refused
returns-in_err-make_ready-clause-refused g c fails =
    let B = g.B.Blocks in
    ready-shown B.tells B.seen B.faults c.args.volume.now c.make_ready.new.volume
    c.make_ready.ensures.stays c.make_ready.ensures.stopped

pub returns-in_err-make_ready-clause-entered : goal.returns-in_err-make_ready-clause-entered
returns-in_err-make_ready-clause-entered g c = none-defined c.args.line c.args.after
    c.args.volume.now.file.entries c.make_ready.new.volume.file.entries
    c.make_ready.ensures.stays.entries

pub edit_event-requires-clause-may : goal.edit_event-requires-clause-may
edit_event-requires-clause-may g c = record {
  whole = c.make_ready.ensures.stays.serving.whole;
  going = c.make_ready.ensures.stopped ∙ c.requires.going;
  room = subst (λ (n : ℕ). n ≤ c.make_ready.new.volume.file.room) c.entries_to_edit.ensures
      c.in_ok-make_ready.ensures.room;
  last = omega (arith, c.in_ok-make_ready.ensures.last);
  after_is = omega (arith, c.in_ok-make_ready.ensures.after);
  deck = c.in_ok-make_ready.ensures.deck;
  number = c.in_ok-make_ready.ensures.number;
  generation = c.in_ok-make_ready.ensures.generation;
  edit_is = ready-may g.B.Blocks.tells g.B.Blocks.seen g.B.Blocks.faults c.args.volume.now
      c.make_ready.new.volume c.make_ready.ensures.stays c.args.edit.now c.requires.edit;
}

pub returns-in_err-event-clause-follows : goal.returns-in_err-event-clause-follows
returns-in_err-event-clause-follows g c =
    let B = g.B.Blocks in
    inr (went-then B.tells B.seen B.faults c.args.volume.now c.make_ready.new.volume
    c.edit_event.new.volume c.make_ready.ensures.stays.went c.edit_event.ensures.went)

pub returns-in_err-event-clause-refused : goal.returns-in_err-event-clause-refused
returns-in_err-event-clause-refused g c fails =
    let B = g.B.Blocks in
    edit-refused B.seen c.args.after c.args.line c.args.edit.now
    c.in_err-event.field-0.0 c.make_ready.new.volume c.edit_event.new.volume
    c.in_err-event.ensures.come
    ∙ ready-shown B.tells B.seen B.faults c.args.volume.now c.make_ready.new.volume
    c.make_ready.ensures.stays c.make_ready.ensures.stopped

pub returns-in_err-event-clause-entered : goal.returns-in_err-event-clause-entered
returns-in_err-event-clause-entered g c =
    subst (λ (entries : List Entry). HasEntered c.args.line c.args.after entries
    c.edit_event.new.volume.file.entries) c.make_ready.ensures.stays.entries
    c.edit_event.ensures.entered_on

pub returns-clause-follows : goal.returns-clause-follows
returns-clause-follows g c =
    let B = g.B.Blocks in
    inr (went-then B.tells B.seen B.faults c.args.volume.now c.make_ready.new.volume
    c.edit_event.new.volume c.make_ready.ensures.stays.went c.edit_event.ensures.went)

pub returns-clause-changed : goal.returns-clause-changed
returns-clause-changed g c = record {
  ready = c.make_ready.new.volume;
  stays = c.make_ready.ensures.stays;
  going = c.make_ready.ensures.stopped ∙ c.requires.going;
  went = c.edit_event.ensures.went;
  after = c.args.after;
  event = c.in_ok-event.event;
  answer_is = c.changed_of.ensures;
  come = c.in_ok-event.ensures.come;
  no_room = c.in_ok-event.ensures.no_room;
  nearer = λ told again. less-then g.B.Blocks.tells g.B.Blocks.seen g.B.Blocks.faults
      c.args.volume.now c.make_ready.new.volume c.edit_event.new.volume
      c.make_ready.ensures.stays (c.in_ok-event.ensures.nearer told (ap Ok again));
  cause = c.in_ok-event.ensures.cause;
}

pub returns-clause-shown : goal.returns-clause-shown
returns-clause-shown g c =
    let B = g.B.Blocks in
    subst (λ (answer : Changed). IsShownEdited answer c.args.edit.now
    (shown_of c.args.volume.now) (shown_of c.edit_event.new.volume)) (sym c.changed_of.ensures)
    (subst (λ (old : Shown). IsShownEdited (changed_of c.in_ok-event.event) c.args.edit.now old
    (shown_of c.edit_event.new.volume))
    (ready-shown B.tells B.seen B.faults c.args.volume.now c.make_ready.new.volume
    c.make_ready.ensures.stays c.make_ready.ensures.stopped)
    (edit-shown B.seen c.args.after c.args.line c.args.edit.now c.in_ok-event.event
    c.make_ready.new.volume c.edit_event.new.volume c.in_ok-event.ensures.come))

pub returns-clause-entered : goal.returns-clause-entered
returns-clause-entered g c =
    subst (λ (entries : List Entry). HasEntered c.args.line c.args.after entries
    c.edit_event.new.volume.file.entries) c.make_ready.ensures.stays.entries
    c.edit_event.ensures.entered_on
