use Rattle.std.proofs.Common.{◌≡◌, ◌+◌, ◌≤◌, ◌∙◌, ℕ, List, None, ap, refl, subst, sym}
use Rattle.std.proofs.lemmas.Option.{none-some}
use Rattle.vr_types.specs.declared.fault.DeviceFault.TheVariants.{Read, Write}
use Rattle.vr_types.specs.Locks.{first_conflict}
use Rattle.vr_types.specs.LogSpace.{log_size}
use Rattle.vr_types.specs.declared.lock_name.LockName.{LockName}
use Rattle.vr_types.specs.declared.unit.Mode.TheVariants.{Exclusive}
use Rattle.vr_types.specs.declared.unit.Unit.{Unit as UnitOfRecovery}
use Rattle.vr_log.specs.Live.{used_by}
use Rattle.vr_record_file.specs.Defining.{need_to_define}
use Rattle.vr_record_file.specs.Now.{FileNow}
use Rattle.vr_event.specs.declared.define.Define.TheVariants as defines
use Rattle.vr_event.proofs.AskedClusters.{asked-held, come-asked, come-no-room, come-staged}
use Rattle.vr_event.proofs.AskedClusters.{come-unread, come-unwritten, fault-held, file-held}
use Rattle.vr_event.proofs.AskedClusters.{holds-later, room-lacks, room-settable, staged-held}
use Rattle.vr_event.proofs.DefineCome.{come-held-after}
use Rattle.vr_event.proofs.Prepared.{prepared-at, prepared-length, prepared-name, prepared-place}
use Rattle.vr_event.proofs.UtilitySteps.{no-room-define, same-ok}
use Rattle.vr_event.proofs.UtilitySteps.{fault-define, less-after, less-as, less-met, less-stopped}
use Rattle.vr_event.proofs.volume.Volume.define_asked.Goals as goal
use Rattle.vr_event.specs.Defining.{utility_unit}
use Rattle.vr_store.specs.Store.{StoreNow}

pub ask_entry-requires-clause-place : goal.ask_entry-requires-clause-place
ask_entry-requires-clause-place g c = prepared-place c.args.self.now.number
    c.args.self.now.file.catalog c.args.entry.now c.args.new c.requires.ready.new_is

pub add_cluster-requires-clause-can : goal.add_cluster-requires-clause-can
add_cluster-requires-clause-can g c told = room-settable c.ask_entry.new.self.store
    (g.B.Blocks.seen c.ask_entry.new.self.blocks).cur c.args.new.place c.args.new.bytes c.in-Ok.room
    (c.in-Ok.ensures.still told) c.in-Ready.is (prepared-length c.args.self.now.number
    c.args.self.now.file.catalog c.args.entry.now c.args.new c.requires.ready.new_is)

pub add_cluster-requires-clause-holds : goal.add_cluster-requires-clause-holds
add_cluster-requires-clause-holds g c told = holds-later g.B.Blocks.seen c.args.self.now
    c.ask_entry.new.self (c.requires.holds told) (c.ask_entry.ensures.held told)

pub stage_entry-staged-requires-clause-place : goal.stage_entry-staged-requires-clause-place
stage_entry-staged-requires-clause-place g c = prepared-place c.args.self.now.number
    c.args.self.now.file.catalog c.args.entry.now c.args.new c.requires.ready.new_is

pub stage_entry-staged-requires-clause-holds : goal.stage_entry-staged-requires-clause-holds
stage_entry-staged-requires-clause-holds g c told = holds-later g.B.Blocks.seen c.args.self.now
    c.ask_entry.new.self (c.requires.holds told) (c.ask_entry.ensures.held told)

pub returns-in-Ready-clause-held : goal.returns-in-Ready-clause-held
returns-in-Ready-clause-held g c told opening held = come-held-after g.B.Blocks.seen c.args.after
    c.args.unit c.args.line c.args.entry.now opening c.args.self.now c.ask_entry.new.self
    c.add_cluster.new.self c.ask_entry.ensures.file c.ask_entry.ensures.number
    (ap (λ (s : StoreNow). s.log) c.ask_entry.ensures.rest)
    (c.ask_entry.ensures.moments told opening held)
    (c.add_cluster.ensures.held told opening (c.ask_entry.ensures.held told opening held))

pub returns-in-Stage-clause-held : goal.returns-in-Stage-clause-held
returns-in-Stage-clause-held g c told opening held =
    let then = c.ask_entry.ensures.held told opening held in
    staged-held g.B.Blocks.seen opening c.args.after c.args.unit c.args.line c.args.entry.now
    c.args.self.now c.ask_entry.new.self (c.ask_entry.ensures.moments told opening held)
    c.stage_entry-staged.new.self c.ask_entry.ensures.file c.ask_entry.ensures.number
    c.ask_entry.ensures.rest (c.stage_entry-staged.ensures.held told opening then)
    (c.stage_entry-staged.ensures.moments told opening then)

pub returns-in-NoSpace-clause-no_room : goal.returns-in-NoSpace-clause-no_room
returns-in-NoSpace-clause-no_room g c told is =
    let volume = c.args.self.now in
    let ready = c.requires.ready in
    let at = prepared-at volume.number volume.file.catalog c.args.entry.now c.args.new
    ready.new_is in
    record {
      no_room = room-lacks volume.store (g.B.Blocks.seen volume.blocks).cur c.args.new.place _
          c.in-Ok.room c.in-NoSpace.need c.in-NoSpace.free (c.in-Ok.ensures.answer told)
          c.in-NoSpace.is at;
      unlocked = subst (λ (n : LockName).
          first_conflict volume.file.locks (utility_unit volume.file) Exclusive n ≡ None)
          (prepared-name volume.number volume.file.catalog c.args.entry.now c.args.new ready.new_is)
          (subst (λ (u : UnitOfRecovery).
          first_conflict volume.file.locks u Exclusive c.args.new.name ≡ None) ready.unit_is
          ready.unlocked);
      log = subst (λ (place : List ℕ). used_by volume.store.log.records + need_to_define place
          ≤ log_size volume.file.geometry) at ready.log;
    }

pub returns-in-NoSpace-clause-held : goal.returns-in-NoSpace-clause-held
returns-in-NoSpace-clause-held g c told opening held = asked-held g.B.Blocks.seen opening
    c.args.after c.args.unit c.args.line c.args.entry.now c.args.self.now c.ask_entry.new.self
    (c.ask_entry.ensures.moments told opening held) (c.ask_entry.ensures.held told opening held)

pub returns-in-Read-clause-held : goal.returns-in-Read-clause-held
returns-in-Read-clause-held g c told opening held = asked-held g.B.Blocks.seen opening c.args.after
    c.args.unit c.args.line c.args.entry.now c.args.self.now c.ask_entry.new.self
    (c.ask_entry.ensures.moments told opening held) (c.ask_entry.ensures.held told opening held)

pub returns-in-Write-clause-held : goal.returns-in-Write-clause-held
returns-in-Write-clause-held g c told opening held = fault-held g.B.Blocks.seen opening c.args.after
    c.args.unit c.args.line c.args.entry.now c.args.self.now c.ask_entry.new.self
    (c.ask_entry.ensures.moments told opening held) c.enter_fault.new.self
    c.enter_fault.ensures.blocks
    (c.enter_fault.ensures.held told opening (file-held g.B.Blocks.seen opening
    c.ask_entry.new.self (c.ask_entry.ensures.held told opening held)))

pub returns-in-Ready-clause-come : goal.returns-in-Ready-clause-come
returns-in-Ready-clause-come g c = come-asked g.B.Blocks.seen c.args.after c.args.unit c.args.line
    c.args.entry.now c.args.self.now c.ask_entry.new.self c.ask_entry.ensures.file
    c.ask_entry.ensures.number c.ask_entry.ensures.rest c.add_cluster.result c.add_cluster.new.self
    c.add_cluster.ensures.come

pub returns-in-Stage-clause-come : goal.returns-in-Stage-clause-come
returns-in-Stage-clause-come g c = come-staged g.B.Blocks.seen c.args.after c.args.unit c.args.line
    c.args.entry.now c.args.self.now c.ask_entry.new.self c.ask_entry.ensures.file
    c.ask_entry.ensures.number c.ask_entry.ensures.rest c.stage_entry-staged.result
    c.stage_entry-staged.new.self c.stage_entry-staged.ensures.whole
    (c.stage_entry-staged.ensures.entered c.args.entry.now) c.stage_entry-staged.ensures.is
    c.stage_entry-staged.ensures.number c.stage_entry-staged.ensures.generation

pub returns-in-NoSpace-clause-come : goal.returns-in-NoSpace-clause-come
returns-in-NoSpace-clause-come g c = come-no-room g.B.Blocks.seen c.args.after c.args.unit
    c.args.line c.args.entry.now c.args.self.now c.ask_entry.new.self c.ask_entry.ensures.file
    c.ask_entry.ensures.number c.ask_entry.ensures.rest c.ask_entry.ensures.whole

pub returns-in-Read-clause-come : goal.returns-in-Read-clause-come
returns-in-Read-clause-come g c = come-unread g.B.Blocks.seen c.args.after c.args.unit
    c.args.line c.args.entry.now c.args.self.now c.ask_entry.new.self c.ask_entry.ensures.file
    c.ask_entry.ensures.number c.ask_entry.ensures.rest c.ask_entry.ensures.whole

pub returns-in-Write-clause-come : goal.returns-in-Write-clause-come
returns-in-Write-clause-come g c = come-unwritten g.B.Blocks.seen c.args.after c.args.unit
    c.args.line c.args.entry.now c.args.self.now c.ask_entry.new.self c.ask_entry.ensures.file
    c.ask_entry.ensures.number c.ask_entry.ensures.rest c.enter_fault.new.self
    c.ask_entry.ensures.whole c.enter_fault.ensures.leaves c.enter_fault.ensures.volume

pub returns-in-Ready-clause-less : goal.returns-in-Ready-clause-less
returns-in-Ready-clause-less g c told = less-after _ 0 c.args.self.now c.ask_entry.new.self
    c.add_cluster.new.self c.ask_entry.ensures.parts c.ask_entry.ensures.rest
    c.ask_entry.ensures.file (c.add_cluster.ensures.less told)

pub returns-in-Stage-clause-less : goal.returns-in-Stage-clause-less
returns-in-Stage-clause-less g c told = less-after _ 0 c.args.self.now c.ask_entry.new.self
    c.stage_entry-staged.new.self c.ask_entry.ensures.parts c.ask_entry.ensures.rest
    c.ask_entry.ensures.file
    (less-as (c.stage_entry-staged.result ≡ defines.Again) _ c.ask_entry.new.self
    c.stage_entry-staged.new.self (λ is. same-ok refl is)
    (c.stage_entry-staged.ensures.less told))

pub returns-in-NoSpace-clause-less : goal.returns-in-NoSpace-clause-less
returns-in-NoSpace-clause-less g c told = less-met _ 0 c.args.self.now c.ask_entry.new.self
    (λ is. no-room-define (same-ok refl is)) c.ask_entry.ensures.parts c.ask_entry.ensures.file

pub returns-in-Read-clause-less : goal.returns-in-Read-clause-less
returns-in-Read-clause-less g c told = less-met _ 0 c.args.self.now c.ask_entry.new.self
    (λ is. fault-define Read (same-ok refl is)) c.ask_entry.ensures.parts c.ask_entry.ensures.file

pub returns-in-Write-clause-less : goal.returns-in-Write-clause-less
returns-in-Write-clause-less g c told = less-stopped _ c.args.self.now c.enter_fault.new.self
    (λ is. fault-define Write (same-ok refl is))
    (λ going. none-some _ (sym going
    ∙ ap (λ (f : FileNow). f.stopped) c.enter_fault.ensures.leaves))
