use Rattle.std.proofs.Common.{◌≡◌, ◌∙◌, ◌+◌, ◌<◌, None, ap, inl, inr, subst, sym}
use Rattle.vr_types.specs.Moments.{Guards}
use Rattle.vr_types.specs.declared.reply.Reply.TheVariants.{Done}
use Rattle.vr_history.specs.State.{State}
use Rattle.vr_record_file.specs.Now.{FileNow, MayBeAsked, state_now}
use Rattle.vr_volume.specs.Committed.{KeepsNoneIf}
use Rattle.vr_volume.specs.Steps.{IsEndedIn}
use Rattle.vr_event.specs.Acting.{IsActed, IsLeftIn}
use Rattle.vr_store.specs.Store.{StoreNow}
use Rattle.vr_event.specs.Volume.{IsHeld, VolumeNow}
use Rattle.vr_event.specs.declared.act.Act.TheVariants as acts
use Rattle.vr_event.proofs.Acts.{acted-ended, acted-failed, write-counted}
use Rattle.vr_event.proofs.Asking.{ends-by}
use Rattle.vr_event.proofs.Recovers.{recovers-end}
use Rattle.vr_event.proofs.UnitEnded.{held-ended, held-stopped, may-fail-write}
use Rattle.vr_event.proofs.volume.Volume.end_live.Goals as goal

pub returns-in-Ok-clause-held : goal.returns-in-Ok-clause-held
returns-in-Ok-clause-held g c told opening held asked keeps =
    let seen = g.B.Blocks.seen in
    let before : VolumeNow g.row.B.Denot = record {
      blocks = c.self.inside.blocks;
      number = c.self.inside.number;
      store = c.self.inside.store;
      file = c.self.inside.file;
    } in
    let file = c.self.inside.file in
    let unit = c.args.unit in
    let was : IsHeld seen opening before =
    subst (IsHeld seen opening) (sym c.self.view_is) held in
    let may : MayBeAsked opening file unit c.args.request (Done 0 None None) =
    subst (λ (f : FileNow). MayBeAsked opening f unit c.args.request (Done 0 None None))
    (sym (ap (λ (v : VolumeNow g.row.B.Denot). v.file) c.self.view_is)) asked in
    let going : file.stopped ≡ None =
    ap (λ (v : VolumeNow g.row.B.Denot). v.file.stopped) c.self.view_is ∙ c.requires.going in
    let old : State = state_now opening file in
    let none : KeepsNoneIf c.args.kind old unit =
    subst (λ (f : FileNow). KeepsNoneIf c.args.kind (state_now opening f) unit)
    (sym (ap (λ (v : VolumeNow g.row.B.Denot). v.file) c.self.view_is)) keeps in
    let ends = ends-by c.args.kind c.args.request c.requires.ends in
    held-ended seen opening before c.end_unit.new.self c.end.new.self c.end.new.blocks c.args.after
    unit c.args.line c.args.request ends c.end_unit.ensures.leaves going
    (ap (λ (s : StoreNow). s.space) c.end.ensures.rest) was
    (c.end_unit.ensures.state opening was.file may ends)
    (λ (new : State) (made : IsEndedIn unit old new).
    c.in-Ok.ensures.ended told before.number old new (was.stored going) may.current none made
    (subst (λ (v : VolumeNow g.row.B.Denot). v.store.log.generation + 1 < 9223372036854775808)
    (sym c.self.view_is) c.requires.generation))

pub returns-in-Ok-clause-moments : goal.returns-in-Ok-clause-moments
returns-in-Ok-clause-moments g c told opening held keeps =
    let seen = g.B.Blocks.seen in
    let before : VolumeNow g.row.B.Denot = record {
      blocks = c.self.inside.blocks;
      number = c.self.inside.number;
      store = c.self.inside.store;
      file = c.self.inside.file;
    } in
    let state = state_now opening before.file in
    let was : IsHeld seen opening before =
    subst (IsHeld seen opening) (sym c.self.view_is) held in
    let stored = was.stored (ap (λ (v : VolumeNow g.row.B.Denot). v.file.stopped) c.self.view_is
    ∙ c.requires.going) in
    subst (λ (v : VolumeNow g.row.B.Denot). Guards (seen v.blocks) (seen c.end.new.blocks)
    (IsLeftIn v.store.log.geometry v.number (state_now opening v.file) c.args.after c.args.unit
    c.args.line c.args.request v.file c.end_unit.new.self)) c.self.view_is
    (recovers-end before.number before.store state (seen before.blocks) (seen c.end.new.blocks)
    stored c.args.after c.args.unit c.args.line c.args.kind c.args.request before.file
    c.end_unit.new.self c.requires.ends (inl c.end_unit.ensures.leaves)
    (c.end.ensures.moments told before.number state stored
    (subst (λ (f : FileNow). KeepsNoneIf c.args.kind (state_now opening f) c.args.unit)
    (sym (ap (λ (v : VolumeNow g.row.B.Denot). v.file) c.self.view_is)) keeps)))

pub returns-in-Ok-clause-acted : goal.returns-in-Ok-clause-acted
returns-in-Ok-clause-acted g c =
    let faults = g.B.Blocks.faults in
    let cause = c.in-Ok.ensures.cause in
    subst (λ (v : VolumeNow g.row.B.Denot). IsActed (faults v.blocks) (faults c.end.new.blocks)
    acts.Done c.args.after c.args.unit c.args.line c.args.request v.file c.end_unit.new.self)
    c.self.view_is
    (acted-ended cause.cause.ok
    (ends-by c.args.kind c.args.request c.requires.ends) c.end_unit.ensures.leaves)

pub returns-in-Err-clause-held : goal.returns-in-Err-clause-held
returns-in-Err-clause-held g c told opening held asked keeps =
    let seen = g.B.Blocks.seen in
    let before : VolumeNow g.row.B.Denot = record {
      blocks = c.self.inside.blocks;
      number = c.self.inside.number;
      store = c.self.inside.store;
      file = c.self.inside.file;
    } in
    let file = c.self.inside.file in
    let unit = c.args.unit in
    let was : IsHeld seen opening before =
    subst (IsHeld seen opening) (sym c.self.view_is) held in
    let may : MayBeAsked opening file unit c.args.request (Done 0 None None) =
    subst (λ (f : FileNow). MayBeAsked opening f unit c.args.request (Done 0 None None))
    (sym (ap (λ (v : VolumeNow g.row.B.Denot). v.file) c.self.view_is)) asked in
    held-stopped seen opening before c.fail_write.new.self c.end.new.self c.end.new.blocks
    c.args.after unit c.args.line c.args.request c.fail_write.ensures.leaves
    (ap (λ (s : StoreNow). s.space) c.end.ensures.rest) was
    (c.fail_write.ensures.state opening file.locks was.file
    (may-fail-write opening file unit c.args.request 0 None None may))

pub returns-in-Err-clause-moments : goal.returns-in-Err-clause-moments
returns-in-Err-clause-moments g c told opening held keeps =
    let seen = g.B.Blocks.seen in
    let before : VolumeNow g.row.B.Denot = record {
      blocks = c.self.inside.blocks;
      number = c.self.inside.number;
      store = c.self.inside.store;
      file = c.self.inside.file;
    } in
    let state = state_now opening before.file in
    let was : IsHeld seen opening before =
    subst (IsHeld seen opening) (sym c.self.view_is) held in
    let stored = was.stored (ap (λ (v : VolumeNow g.row.B.Denot). v.file.stopped) c.self.view_is
    ∙ c.requires.going) in
    subst (λ (v : VolumeNow g.row.B.Denot). Guards (seen v.blocks) (seen c.end.new.blocks)
    (IsLeftIn v.store.log.geometry v.number (state_now opening v.file) c.args.after c.args.unit
    c.args.line c.args.request v.file c.fail_write.new.self)) c.self.view_is
    (recovers-end before.number before.store state (seen before.blocks) (seen c.end.new.blocks)
    stored c.args.after c.args.unit c.args.line c.args.kind c.args.request before.file
    c.fail_write.new.self c.requires.ends (inr c.fail_write.ensures.leaves)
    (c.end.ensures.moments told before.number state stored
    (subst (λ (f : FileNow). KeepsNoneIf c.args.kind (state_now opening f) c.args.unit)
    (sym (ap (λ (v : VolumeNow g.row.B.Denot). v.file) c.self.view_is)) keeps)))

pub returns-in-Err-clause-acted : goal.returns-in-Err-clause-acted
returns-in-Err-clause-acted g c =
    let faults = g.B.Blocks.faults in
    let cause = c.end.ensures.cause in
    subst (λ (v : VolumeNow g.row.B.Denot). IsActed (faults v.blocks) (faults c.end.new.blocks)
    acts.Done c.args.after c.args.unit c.args.line c.args.request v.file c.fail_write.new.self)
    c.self.view_is
    (acted-failed cause.cause.reads
    (write-counted (g.B.Blocks.faults c.self.inside.blocks) (g.B.Blocks.faults c.end.new.blocks)
    c.end.result _ c.in-Err.is cause) c.fail_write.ensures.leaves
    (ap (λ (v : VolumeNow g.row.B.Denot). v.file.stopped) c.self.view_is ∙ c.requires.going))

pub returns-in-Ok-clause-parts : goal.returns-in-Ok-clause-parts
returns-in-Ok-clause-parts g c =
    ap (λ (s : StoreNow). s.parts) c.end.ensures.rest
    ∙ ap (λ (v : VolumeNow g.row.B.Denot). v.store.parts) c.self.view_is

pub returns-in-Err-clause-parts : goal.returns-in-Err-clause-parts
returns-in-Err-clause-parts g c =
    ap (λ (s : StoreNow). s.parts) c.end.ensures.rest
    ∙ ap (λ (v : VolumeNow g.row.B.Denot). v.store.parts) c.self.view_is
