use Rattle.std.proofs.Common.{◌≡◌, ◌≢◌, ◌∙◌, ◌⊎◌, ⊎_elim, ap, inl, inr, subst, sym, refl, Some, None, Option, []}
use Rattle.std.proofs.lemmas.Option.{none-some, same_Some}
use Rattle.vr_types.specs.Moments.{Guards}
use Rattle.vr_record_file.specs.Now.{FileNow, state_now}
use Rattle.vr_volume.specs.Crashes.{RecoversTo}
use Rattle.vr_types.specs.Faults.{HasCause}
use Rattle.vr_store.specs.Parts.{OnlyMet}
use Rattle.vr_store.specs.Store.{StoreNow}
use Rattle.vr_event.specs.EditSteps.{IsLaterEdit}
use Rattle.vr_event.specs.declared.edit.Edit.{Edit}
use Rattle.vr_event.specs.declared.edit.Edit.TheVariants as answers
use Rattle.vr_event.proofs.AskedClusters.{holds-later}
use Rattle.vr_event.proofs.EditAsked.{stage-due}
use Rattle.vr_event.proofs.EditCome.{later-fault, later-stage}
use Rattle.vr_event.proofs.EditOpened.{asked-same, by-space, held-then, opened-answered, opened-met}
use Rattle.vr_event.proofs.EditOpened.{fault-room, space-answer, space-faults, space-less, space-open}
use Rattle.vr_event.proofs.EditOpened.{space-ready, space-room, stage-room, unasked-faults}
use Rattle.vr_event.proofs.UtilitySteps.{fault-edit, less-after, less-as, less-met, less-stopped}
use Rattle.vr_event.proofs.volume.Volume.open_place.Goals as goal

pub stage_edit-requires-clause-due : goal.stage_edit-requires-clause-due
stage_edit-requires-clause-due g c told = stage-due c.ask_entry.new.self.store
    (g.B.Blocks.seen c.ask_entry.new.self.blocks).cur c.args.change.now.place _ c.in-Ok.room
    (c.in-Ok.ensures.still told) c.in-Stage.is

pub stage_edit-requires-clause-holds : goal.stage_edit-requires-clause-holds
stage_edit-requires-clause-holds g c told = holds-later g.B.Blocks.seen c.args.self.now
    c.ask_entry.new.self (c.requires.holds told) (c.ask_entry.ensures.held told)

pub returns-in-Ready-clause-opened : goal.returns-in-Ready-clause-opened
returns-in-Ready-clause-opened g c = opened-met g.B.Blocks.seen c.args.after c.args.unit c.args.line
    c.args.self.now c.ask_entry.new.self c.ask_entry.ensures.whole c.ask_entry.ensures.file
    c.ask_entry.ensures.number (ap (λ (s : StoreNow). s.log) c.ask_entry.ensures.rest)

pub returns-in-Ready-clause-met : goal.returns-in-Ready-clause-met
returns-in-Ready-clause-met g c none = record {
  file = c.ask_entry.ensures.file;
  only = c.ask_entry.ensures.parts;
  rest = c.ask_entry.ensures.rest;
  next = c.in-Ok.ensures.next;
}

pub returns-in-Ready-clause-open : goal.returns-in-Ready-clause-open
returns-in-Ready-clause-open g c told none = space-ready
    c.ask_entry.new.self.store (g.B.Blocks.seen c.ask_entry.new.self.blocks).cur
    c.args.change.now c.in-Ok.room (c.in-Ok.ensures.still told) c.in-Ready.is

pub returns-in-Ready-clause-less : goal.returns-in-Ready-clause-less
returns-in-Ready-clause-less g c told = less-met _ 0 c.args.self.now c.ask_entry.new.self
    (λ is. none-some _ is) c.ask_entry.ensures.parts c.ask_entry.ensures.file

pub returns-in-Ready-clause-held : goal.returns-in-Ready-clause-held
returns-in-Ready-clause-held g c told opening held = record {
  held = c.ask_entry.ensures.held told opening held;
  moments = c.ask_entry.ensures.moments told opening held;
}

pub returns-in-NoSpace-clause-opened : goal.returns-in-NoSpace-clause-opened
returns-in-NoSpace-clause-opened g c = by-space g.B.Blocks.seen c.args.after c.args.unit c.args.line
    c.args.self.now c.ask_entry.new.self c.args.change.now.before c.without_space.result
    c.without_space.ensures c.ask_entry.ensures.whole c.ask_entry.ensures.file
    c.ask_entry.ensures.number (ap (λ (s : StoreNow). s.log) c.ask_entry.ensures.rest)

pub returns-in-NoSpace-clause-met : goal.returns-in-NoSpace-clause-met
returns-in-NoSpace-clause-met g c none = record {
  file = c.ask_entry.ensures.file;
  only = c.ask_entry.ensures.parts;
  rest = c.ask_entry.ensures.rest;
  next = c.in-Ok.ensures.next;
}

pub returns-in-NoSpace-clause-open : goal.returns-in-NoSpace-clause-open
returns-in-NoSpace-clause-open g c told none = space-open
    c.ask_entry.new.self.store (g.B.Blocks.seen c.ask_entry.new.self.blocks).cur
    c.args.change.now c.in-Ok.room c.without_space.result c.without_space.ensures none
    (c.in-Ok.ensures.still told) c.in-NoSpace.need
    c.in-NoSpace.free c.in-NoSpace.is

pub returns-in-NoSpace-clause-no_room : goal.returns-in-NoSpace-clause-no_room
returns-in-NoSpace-clause-no_room g c told is = (
  space-room c.args.change.now.before c.without_space.result c.without_space.ensures is,
  space-answer c.args.self.now.store (g.B.Blocks.seen c.args.self.now.blocks).cur
      c.args.change.now.place c.in-Ok.room (c.in-Ok.ensures.answer told) c.in-NoSpace.need
      c.in-NoSpace.free c.in-NoSpace.is,
)

pub returns-in-NoSpace-clause-cause : goal.returns-in-NoSpace-clause-cause
returns-in-NoSpace-clause-cause g c = space-faults c.args.change.now.before c.without_space.result
    c.without_space.ensures (g.B.Blocks.faults c.args.self.now.blocks)
    (g.B.Blocks.faults c.ask_entry.new.self.blocks)
    (asked-same (g.B.Blocks.faults c.args.self.now.blocks)
    (g.B.Blocks.faults c.ask_entry.new.self.blocks) c.ask_entry.result c.in-Ok.room
    c.ask_entry.ensures.cause c.in-Ok.is)

pub returns-in-NoSpace-clause-less : goal.returns-in-NoSpace-clause-less
returns-in-NoSpace-clause-less g c told = less-met _ 0 c.args.self.now c.ask_entry.new.self
    (space-less c.args.change.now.before c.without_space.result c.without_space.ensures)
    c.ask_entry.ensures.parts c.ask_entry.ensures.file

pub returns-in-NoSpace-clause-held : goal.returns-in-NoSpace-clause-held
returns-in-NoSpace-clause-held g c told opening held = record {
  held = c.ask_entry.ensures.held told opening held;
  moments = c.ask_entry.ensures.moments told opening held;
}

pub returns-in-Stage-clause-opened : goal.returns-in-Stage-clause-opened
returns-in-Stage-clause-opened g c = opened-answered g.B.Blocks.seen c.args.after c.args.unit
    c.args.line c.stage_edit.result c.args.self.now c.ask_entry.new.self c.stage_edit.new.self
    c.ask_entry.ensures.file c.ask_entry.ensures.number
    (ap (λ (s : StoreNow). s.log) c.ask_entry.ensures.rest) c.stage_edit.ensures.whole
    c.stage_edit.ensures.entered (later-stage c.stage_edit.result c.stage_edit.ensures.is)
    c.stage_edit.ensures.number c.stage_edit.ensures.generation

pub returns-in-Stage-clause-less : goal.returns-in-Stage-clause-less
returns-in-Stage-clause-less g c told = less-after _ 0 c.args.self.now c.ask_entry.new.self
    c.stage_edit.new.self c.ask_entry.ensures.parts c.ask_entry.ensures.rest
    c.ask_entry.ensures.file
    (less-as (c.stage_edit.result ≡ answers.Again) _ c.ask_entry.new.self
    c.stage_edit.new.self (λ is. same_Some c.stage_edit.result answers.Again is)
    (c.stage_edit.ensures.less told))

pub returns-in-Stage-clause-no_room : goal.returns-in-Stage-clause-no_room
returns-in-Stage-clause-no_room g c told is = absurd (stage-room c.stage_edit.result
    c.stage_edit.ensures.is (same_Some c.stage_edit.result answers.NoRoom is))

pub returns-in-Stage-clause-held : goal.returns-in-Stage-clause-held
returns-in-Stage-clause-held g c told opening held =
    let then = c.ask_entry.ensures.held told opening held in
    held-then g.B.Blocks.seen opening c.args.self.now c.ask_entry.new.self c.stage_edit.new.self
    c.ask_entry.ensures.file c.ask_entry.ensures.number
    (ap (λ (s : StoreNow). s.log) c.ask_entry.ensures.rest)
    (c.ask_entry.ensures.moments told opening held) (record {
      held = c.stage_edit.ensures.held told opening then;
      moments = c.stage_edit.ensures.moments told opening then;
    })

pub returns-in-Err-clause-opened : goal.returns-in-Err-clause-opened
returns-in-Err-clause-opened g c = opened-answered g.B.Blocks.seen c.args.after c.args.unit
    c.args.line c.enter_unasked.result c.args.self.now c.ask_entry.new.self
    c.enter_unasked.new.self c.ask_entry.ensures.file c.ask_entry.ensures.number
    (ap (λ (s : StoreNow). s.log) c.ask_entry.ensures.rest) c.enter_unasked.ensures.whole
    c.enter_unasked.ensures.entered
    (subst IsLaterEdit (sym c.enter_unasked.ensures.is) (later-fault c.in-Err.fault))
    c.enter_unasked.ensures.number
    (ap (λ (s : StoreNow). s.log.generation) c.enter_unasked.ensures.store)

pub returns-in-Err-clause-no_room : goal.returns-in-Err-clause-no_room
returns-in-Err-clause-no_room g c told is = absurd (fault-room c.in-Err.fault
    (sym c.enter_unasked.ensures.is ∙ same_Some c.enter_unasked.result answers.NoRoom is))

pub returns-in-Err-clause-cause : goal.returns-in-Err-clause-cause
returns-in-Err-clause-cause g c = unasked-faults (g.B.Blocks.faults c.args.self.now.blocks)
    (g.B.Blocks.faults c.enter_unasked.new.self.blocks) c.ask_entry.result c.in-Err.fault
    c.enter_unasked.result
    (subst (λ (b : g.row.B.Denot). HasCause (g.B.Blocks.faults c.args.self.now.blocks)
    (g.B.Blocks.faults b) c.ask_entry.result) (sym c.enter_unasked.ensures.blocks)
    c.ask_entry.ensures.cause) c.in-Err.is c.enter_unasked.ensures.is

pub returns-in-Err-clause-less : goal.returns-in-Err-clause-less
returns-in-Err-clause-less g c told = ⊎_elim
    (λ same. less-met _ 0 c.args.self.now c.enter_unasked.new.self
    (λ is. fault-edit c.in-Err.fault (sym c.enter_unasked.ensures.is
    ∙ same_Some c.enter_unasked.result answers.Again is))
    (subst (λ (s : StoreNow). OnlyMet 0 c.args.self.now.store.parts s.parts)
    (sym c.enter_unasked.ensures.store) c.ask_entry.ensures.parts)
    (same ∙ c.ask_entry.ensures.file))
    (λ stopped. less-stopped _ c.args.self.now c.enter_unasked.new.self
    (λ is. fault-edit c.in-Err.fault (sym c.enter_unasked.ensures.is
    ∙ same_Some c.enter_unasked.result answers.Again is)) stopped)
    c.enter_unasked.ensures.stopped

pub returns-in-Err-clause-held : goal.returns-in-Err-clause-held
returns-in-Err-clause-held g c told opening held = record {
  held = c.enter_unasked.ensures.held told opening (c.ask_entry.ensures.held told opening held);
  moments = subst (λ (b : g.row.B.Denot).
      Guards (g.B.Blocks.seen c.args.self.now.blocks) (g.B.Blocks.seen b)
      (RecoversTo c.args.self.now.store.log.geometry c.args.self.now.number
      (state_now opening c.args.self.now.file) [])) (sym c.enter_unasked.ensures.blocks)
      (c.ask_entry.ensures.moments told opening held);
}
