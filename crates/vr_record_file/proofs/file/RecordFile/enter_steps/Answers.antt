use Rattle.std.proofs.Common.{◌+◌, ◌<◌, ◌^◌, ◌∙◌, ap, length, refl, subst, sym, List}
use Rattle.std.specs.List.{remove}
use Rattle.vr_history.specs.Merged.{last_stamp}
use Rattle.vr_record_file.specs.CatalogEdit.{entries_of, entries_of_step, steps_made}
use Rattle.vr_record_file.specs.Now.{FileNow}
use Rattle.vr_record_file.specs.declared.entry_step.EntryStep.{EntryStep}
use Rattle.vr_record_file.proofs.Stepping.{IsStepping, as_first, as_whole, first_room, first_stamps}
use Rattle.vr_record_file.proofs.Stepping.{plus_zero, shorter, step_on}
use Rattle.vr_record_file.proofs.file.RecordFile.enter_steps.Goals as goal

pub loop-unit-init : goal.loop-unit-init
loop-unit-init c =
    let whole : FileNow = steps_made c.args.after c.args.unit c.args.line c.args.steps.items
    c.args.self.now in
    subst (λ (left : List EntryStep). IsStepping whole c.args.unit c.args.line left c.args.after
    c.args.self.now) (sym c.from_vec-left.ensures) (record {
      same = refl;
      room = c.requires.room;
      last = c.requires.last;
      after = c.requires.after;
    })

pub enter_step-requires-clause-room : goal.enter_step-requires-clause-room
enter_step-requires-clause-room c =
    first_room (entries_of_step c.remove-step.result) (entries_of (remove c.loop-unit.left 0))
    c.loop-unit.self.room (as_first _ c.args.unit c.args.line c.loop-unit.left c.loop-unit.above
    c.loop-unit.self c.remove-step.result c.loop-unit.invariant c.remove-step.ensures.item).room

pub enter_step-requires-clause-last : goal.enter_step-requires-clause-last
enter_step-requires-clause-last c =
    first_stamps (last_stamp 0 c.loop-unit.self.entries) (entries_of_step c.remove-step.result)
    (entries_of (remove c.loop-unit.left 0))
    (as_first _ c.args.unit c.args.line c.loop-unit.left c.loop-unit.above
    c.loop-unit.self c.remove-step.result c.loop-unit.invariant c.remove-step.ensures.item).last

pub enter_step-requires-clause-after : goal.enter_step-requires-clause-after
enter_step-requires-clause-after c =
    first_stamps c.loop-unit.above (entries_of_step c.remove-step.result)
    (entries_of (remove c.loop-unit.left 0))
    (as_first _ c.args.unit c.args.line c.loop-unit.left c.loop-unit.above
    c.loop-unit.self c.remove-step.result c.loop-unit.invariant c.remove-step.ensures.item).after

pub loop-unit-smaller : goal.loop-unit-smaller
loop-unit-smaller c =
    subst (λ (left : List EntryStep). length left < length c.loop-unit.left)
    (sym c.remove-step.ensures.rest)
    (shorter c.loop-unit.left c.remove-step.result c.remove-step.ensures.item)

pub loop-unit-preserved : goal.loop-unit-preserved
loop-unit-preserved c =
    let whole : FileNow = steps_made c.args.after c.args.unit c.args.line c.args.steps.items
    c.args.self.now in
    subst (λ (left : List EntryStep). IsStepping whole c.args.unit c.args.line left 0
    c.enter_step.new.self) (sym c.remove-step.ensures.rest)
    (step_on whole c.args.unit c.args.line c.remove-step.result (remove c.loop-unit.left 0)
    c.loop-unit.above c.loop-unit.self c.enter_step.new.self
    (as_first whole c.args.unit c.args.line c.loop-unit.left c.loop-unit.above c.loop-unit.self
    c.remove-step.result c.loop-unit.invariant c.remove-step.ensures.item)
    c.enter_step.ensures.leaves c.enter_step.ensures.last)

pub returns-clause-leaves : goal.returns-clause-leaves
returns-clause-leaves c =
    c.take_catalog.ensures
    ∙ ap (λ (file : FileNow). record file { catalog = c.args.catalog })
    (as_whole _ c.args.unit c.args.line c.loop-unit.left c.loop-unit.above c.loop-unit.self
    c.loop-unit.invariant (c.loop-unit-test.ensures.0 cc)).same

pub returns-clause-last : goal.returns-clause-last
returns-clause-last c =
    subst (λ (file : FileNow). last_stamp 0 file.entries + 2 < 2 ^ 64) (sym c.take_catalog.ensures)
    (plus_zero (last_stamp 0 c.loop-unit.self.entries)
    (as_whole _ c.args.unit c.args.line c.loop-unit.left c.loop-unit.above c.loop-unit.self
    c.loop-unit.invariant (c.loop-unit-test.ensures.0 cc)).last)
