use Rattle.std.proofs.Common.{◌∙◌, Contains, List, ap, inr, subst, sym}
use Rattle.std.specs.Option.{option_copied}
use Rattle.vr_catalog.specs.declared.entry.CatEntry.{CatEntry}
use Rattle.vr_history.specs.declared.entry.Entry.{Entry}
use Rattle.vr_trace.specs.Shown.{Shown}
use Rattle.vr_ams_define.specs.Answers.{IsShownRead}
use Rattle.vr_ams_define.specs.Grown.{HasEntered}
use Rattle.vr_ams_define.specs.declared.answer.ReadBack.{ReadBack}
use Rattle.vr_job.specs.Answering.{read_back_of}
use Rattle.vr_job.specs.Going.{went-then}
use Rattle.vr_job.specs.Serving.{shown_of}
use Rattle.vr_job.proofs.ReadEvents.{are-of, read-shown}
use Rattle.vr_job.proofs.DefineShown.{none-defined, ready-catalog, ready-shown, shown_in}
use Rattle.vr_job.proofs.reading.read.Goals as goal

pub returns-in_err-make_ready-clause-refused : goal.returns-in_err-make_ready-clause-refused
returns-in_err-make_ready-clause-refused g c fails =
    let B = g.B.Blocks in
    ready-shown B.tells B.seen B.faults c.args.volume.now c.make_ready.new.volume
    c.make_ready.ensures.stays c.make_ready.ensures.stopped

pub returns-in_err-make_ready-clause-entered : goal.returns-in_err-make_ready-clause-entered
returns-in_err-make_ready-clause-entered g c = none-defined c.args.line c.args.after
    c.args.volume.now.file.entries c.make_ready.new.volume.file.entries
    c.make_ready.ensures.stays.entries

pub read_event-requires-clause-entry : goal.read_event-requires-clause-entry
read_event-requires-clause-entry g c =
    let B = g.B.Blocks in
    subst (λ (catalog : List CatEntry). Contains catalog c.args.entry.now)
    (sym (ready-catalog B.tells B.seen B.faults c.args.volume.now c.make_ready.new.volume
    c.make_ready.ensures.stays)) c.requires.entry

pub returns-in_err-event-clause-follows : goal.returns-in_err-event-clause-follows
returns-in_err-event-clause-follows g c =
    let B = g.B.Blocks in
    inr (went-then B.tells B.seen B.faults c.args.volume.now c.make_ready.new.volume
    c.read_event.new.volume c.make_ready.ensures.stays.went c.read_event.ensures.went)

pub returns-in_err-event-clause-refused : goal.returns-in_err-event-clause-refused
returns-in_err-event-clause-refused g c fails =
    let B = g.B.Blocks in
    ap shown_in c.in_err-event.ensures.entered
    ∙ ready-shown B.tells B.seen B.faults c.args.volume.now c.make_ready.new.volume
    c.make_ready.ensures.stays c.make_ready.ensures.stopped

pub returns-in_err-event-clause-entered : goal.returns-in_err-event-clause-entered
returns-in_err-event-clause-entered g c =
    subst (λ (entries : List Entry). HasEntered c.args.line c.args.after entries
    c.read_event.new.volume.file.entries) c.make_ready.ensures.stays.entries
    c.read_event.ensures.entered_on

pub returns-clause-follows : goal.returns-clause-follows
returns-clause-follows g c =
    let B = g.B.Blocks in
    inr (went-then B.tells B.seen B.faults c.args.volume.now c.make_ready.new.volume
    c.read_event.new.volume c.make_ready.ensures.stays.went c.read_event.ensures.went)

pub returns-clause-read : goal.returns-clause-read
returns-clause-read g c = record {
  records = c.in_ok-event.ensures.read.records;
  answered = record {
    ready = c.make_ready.new.volume;
    stays = c.make_ready.ensures.stays;
    went = c.read_event.ensures.went;
    after = c.args.after;
    event = c.in_ok-event.event;
    answer_is = c.read_back_of.ensures;
    entered = c.in_ok-event.ensures.entered;
    found = λ told opening held. are-of c.in_ok-event.event c.args.entry.now
        (option_copied c.args.from) c.in_ok-event.ensures.read.records opening
        c.make_ready.new.volume.file (c.in_ok-event.ensures.read.are told opening held);
    cause = c.in_ok-event.ensures.cause;
  };
  visited = c.in_ok-event.ensures.read.visited;
}

pub returns-clause-shown : goal.returns-clause-shown
returns-clause-shown g c =
    let B = g.B.Blocks in
    subst (λ (answer : ReadBack). IsShownRead answer
    (shown_of c.args.volume.now) (shown_of c.read_event.new.volume)) (sym c.read_back_of.ensures)
    (subst (λ (old : Shown). IsShownRead (read_back_of c.in_ok-event.event) old
    (shown_of c.read_event.new.volume))
    (ready-shown B.tells B.seen B.faults c.args.volume.now c.make_ready.new.volume
    c.make_ready.ensures.stays c.make_ready.ensures.stopped)
    (read-shown c.args.after c.args.line c.in_ok-event.event c.make_ready.new.volume
    c.read_event.new.volume c.in_ok-event.ensures.entered))

pub returns-clause-entered : goal.returns-clause-entered
returns-clause-entered g c =
    subst (λ (entries : List Entry). HasEntered c.args.line c.args.after entries
    c.read_event.new.volume.file.entries) c.make_ready.ensures.stays.entries
    c.read_event.ensures.entered_on
