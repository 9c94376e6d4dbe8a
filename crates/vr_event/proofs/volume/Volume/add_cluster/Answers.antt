use Rattle.std.proofs.Common.{◌≡◌, ◌≢◌, ◌∙◌, None, ap, refl, subst, sym}
use Rattle.std.specs.Prelude.{Err, IfSome, Ok}
use Rattle.vr_types.specs.declared.fault.DeviceFault.TheVariants.{Write}
use Rattle.vr_catalog.specs.Record.{spelling}
use Rattle.vr_record_file.specs.Now.{state_now}
use Rattle.vr_space.specs.Part.{IsPlaceOf, IsRecordOf, Shape}
use Rattle.vr_start.specs.Startable.{IsStartable}
use Rattle.vr_store.specs.Store.{part_among, shape_among}
use Rattle.vr_store.specs.declared.no.DefineNo.TheVariants.{Fault}
use Rattle.vr_event.specs.DefineSteps.{HasCome, HasComeHeld, MayAdd}
use Rattle.vr_event.specs.Defining.{EnteredBy, entry_with_area}
use Rattle.vr_event.specs.Nearer.{LeavesLess}
use Rattle.vr_event.specs.Volume.{IsHeld, VolumeNow}
use Rattle.vr_event.specs.declared.define.Define.{Define}
use Rattle.vr_event.specs.declared.define.Define.TheVariants as defines
use Rattle.vr_event.proofs.AddedClusters.{added-come, added-fresh, added-item, added-place}
use Rattle.vr_event.proofs.AddedClusters.{added-room, added-sizes, done-held, failed-come}
use Rattle.vr_event.proofs.AddedClusters.{failed-held, memory-apart, refused-held}
use Rattle.vr_event.proofs.UtilitySteps.{define-stopped, done-define, fault-define, less-defined, less-still}
use Rattle.vr_event.proofs.UtilitySteps.{less-stopped, not-err, same-ok, splits-defined}
use Rattle.vr_event.proofs.volume.Volume.add_cluster.Goals as goal

pub define-done-requires-clause-fresh : goal.define-done-requires-clause-fresh
define-done-requires-clause-fresh g c =
    subst (λ (v : VolumeNow g.row.B.Denot). part_among v.store.parts c.args.new.part.0 ≡ None)
    (sym c.self.view_is)
    (added-fresh g.B.Blocks.seen c.args.after c.args.line c.args.entry.now c.args.self.now
    c.args.new c.args.unit c.requires.ready)

pub define-done-requires-clause-sizes : goal.define-done-requires-clause-sizes
define-done-requires-clause-sizes g c =
    subst (λ (v : VolumeNow g.row.B.Denot). IsStartable v.store.log.geometry c.args.new.definition)
    (sym c.self.view_is)
    (added-sizes g.B.Blocks.seen c.args.after c.args.line c.args.entry.now c.args.self.now
    c.args.new c.args.unit c.requires.ready)

pub define-done-requires-clause-place : goal.define-done-requires-clause-place
define-done-requires-clause-place g c =
    subst (λ (v : VolumeNow g.row.B.Denot). IfSome (shape_among v.store.parts 0)
    (λ (shape : Shape). IsPlaceOf shape c.args.new.place))
    (sym c.self.view_is)
    (added-place g.B.Blocks.seen c.args.after c.args.line c.args.entry.now c.args.self.now
    c.args.new c.args.unit c.requires.ready)

pub define-done-requires-clause-item : goal.define-done-requires-clause-item
define-done-requires-clause-item g c =
    subst (λ (v : VolumeNow g.row.B.Denot). IfSome (shape_among v.store.parts 0)
    (λ (shape : Shape). IsRecordOf shape c.args.new.place c.as_slice.result.now))
    (sym c.self.view_is)
    (added-item g.B.Blocks.seen c.args.after c.args.line c.args.entry.now c.args.self.now c.args.new
    c.args.unit c.requires.ready c.as_slice.result.now c.as_slice.ensures)

pub unreachable-requires : goal.unreachable-requires
unreachable-requires g c =
    let seen = g.B.Blocks.seen in
    let before : VolumeNow g.row.B.Denot = record {
      blocks = c.self.inside.blocks;
      number = c.self.inside.number;
      store = c.self.inside.store;
      file = c.self.inside.file;
    } in
    let entry = c.args.entry.now in
    let new = c.args.new in
    let ready : MayAdd seen c.args.after c.args.unit entry new before =
    subst (MayAdd seen c.args.after c.args.unit entry new) (sym c.self.view_is) c.requires.ready in
    added-room seen c.args.after c.args.line entry before new c.args.unit ready
    c.define-done.result c.define-done.ensures.full (c.in-Err.is ∙ ap Err c.in-Full.is)

pub returns-in-Ok-clause-come : goal.returns-in-Ok-clause-come
returns-in-Ok-clause-come g c =
    let seen = g.B.Blocks.seen in
    let before : VolumeNow g.row.B.Denot = record {
      blocks = c.self.inside.blocks;
      number = c.self.inside.number;
      store = c.self.inside.store;
      file = c.self.inside.file;
    } in
    let entry = c.args.entry.now in
    let new = c.args.new in
    let ready : MayAdd seen c.args.after c.args.unit entry new before =
    subst (MayAdd seen c.args.after c.args.unit entry new) (sym c.self.view_is) c.requires.ready in
    subst (λ (v : VolumeNow g.row.B.Denot). HasCome seen c.args.after c.args.unit c.args.line entry
    (Ok c.enter_defined.result) v c.enter_defined.new.self) c.self.view_is
    (added-come seen c.args.after c.args.line entry before new c.args.unit ready
    c.enter_defined.result c.enter_defined.new.self c.define-done.new.self c.define-done.new.blocks
    c.enter_defined.ensures.done c.enter_defined.ensures.leaves c.enter_defined.ensures.volume
    c.enter_defined.ensures.store c.enter_defined.ensures.blocks c.in-Ok.ensures.set
    c.in-Ok.ensures.shapes c.in-Ok.ensures.log)

pub returns-in-Ok-clause-held : goal.returns-in-Ok-clause-held
returns-in-Ok-clause-held g c told opening held =
    let seen = g.B.Blocks.seen in
    let before : VolumeNow g.row.B.Denot = record {
      blocks = c.self.inside.blocks;
      number = c.self.inside.number;
      store = c.self.inside.store;
      file = c.self.inside.file;
    } in
    let entry = c.args.entry.now in
    let new = c.args.new in
    let ready : MayAdd seen c.args.after c.args.unit entry new before =
    subst (MayAdd seen c.args.after c.args.unit entry new) (sym c.self.view_is) c.requires.ready in
    let was : IsHeld seen opening before =
    subst (IsHeld seen opening) (sym c.self.view_is) held in
    subst (λ (v : VolumeNow g.row.B.Denot). HasComeHeld seen opening c.args.after c.args.unit
    c.args.line entry v c.enter_defined.new.self) c.self.view_is
    (done-held seen c.args.after c.args.line entry before new c.args.unit ready opening was
    (g.met.B.Blocks.cur_may before.blocks told) c.as_slice.result.now c.as_slice.ensures
    c.enter_defined.new.self c.define-done.new.self c.define-done.new.blocks
    c.enter_defined.ensures.leaves c.enter_defined.ensures.volume c.enter_defined.ensures.store
    c.enter_defined.ensures.blocks c.in-Ok.ensures.space
    (c.enter_defined.ensures.state opening (spelling (entry_with_area entry new.area)) was.file)
    (λ can. c.in-Ok.ensures.defined told before.number (state_now opening before.file) _ can
    ready.may.generation)
    (c.define-done.ensures.moments told before.number (state_now opening before.file) _))

pub returns-in-Fault-clause-come : goal.returns-in-Fault-clause-come
returns-in-Fault-clause-come g c =
    let seen = g.B.Blocks.seen in
    let before : VolumeNow g.row.B.Denot = record {
      blocks = c.self.inside.blocks;
      number = c.self.inside.number;
      store = c.self.inside.store;
      file = c.self.inside.file;
    } in
    let entry = c.args.entry.now in
    let new = c.args.new in
    let ready : MayAdd seen c.args.after c.args.unit entry new before =
    subst (MayAdd seen c.args.after c.args.unit entry new) (sym c.self.view_is) c.requires.ready in
    subst (λ (v : VolumeNow g.row.B.Denot). HasCome seen c.args.after c.args.unit c.args.line entry
    (Ok c.enter_failed.result) v c.enter_failed.new.self) c.self.view_is
    (failed-come seen c.args.after c.args.line entry before new c.args.unit ready
    c.enter_failed.result c.enter_failed.new.self c.define-done.new.self
    c.enter_failed.ensures.fault c.enter_failed.ensures.volume c.in-Err.ensures.kept
    c.enter_failed.ensures.free c.enter_failed.ensures.taken)

pub returns-in-Fault-clause-held : goal.returns-in-Fault-clause-held
returns-in-Fault-clause-held g c told opening held =
    let seen = g.B.Blocks.seen in
    let before : VolumeNow g.row.B.Denot = record {
      blocks = c.self.inside.blocks;
      number = c.self.inside.number;
      store = c.self.inside.store;
      file = c.self.inside.file;
    } in
    let entry = c.args.entry.now in
    let new = c.args.new in
    let ready : MayAdd seen c.args.after c.args.unit entry new before =
    subst (MayAdd seen c.args.after c.args.unit entry new) (sym c.self.view_is) c.requires.ready in
    let was : IsHeld seen opening before =
    subst (IsHeld seen opening) (sym c.self.view_is) held in
    let state = state_now opening before.file in
    subst (λ (v : VolumeNow g.row.B.Denot). HasComeHeld seen opening c.args.after c.args.unit
    c.args.line entry v c.enter_failed.new.self) c.self.view_is
    (failed-held seen c.args.after c.args.line entry before new c.args.unit ready opening was
    (g.met.B.Blocks.cur_may before.blocks told) c.as_slice.result.now c.as_slice.ensures
    c.enter_failed.new.self c.define-done.new.self c.define-done.new.blocks
    c.enter_failed.ensures.volume c.enter_failed.ensures.store c.enter_failed.ensures.blocks
    c.in-Err.ensures.kept c.enter_failed.ensures.free c.enter_failed.ensures.taken
    (c.enter_failed.ensures.state opening (spelling (entry_with_area entry new.area)) was.file)
    (λ same. c.in-Err.ensures.begun told same before.number state)
    (c.define-done.ensures.moments told before.number state _))

pub returns-in-Memory-clause-held : goal.returns-in-Memory-clause-held
returns-in-Memory-clause-held g c told opening held =
    let seen = g.B.Blocks.seen in
    let before : VolumeNow g.row.B.Denot = record {
      blocks = c.self.inside.blocks;
      number = c.self.inside.number;
      store = c.self.inside.store;
      file = c.self.inside.file;
    } in
    let entry = c.args.entry.now in
    let new = c.args.new in
    let ready : MayAdd seen c.args.after c.args.unit entry new before =
    subst (MayAdd seen c.args.after c.args.unit entry new) (sym c.self.view_is) c.requires.ready in
    let was : IsHeld seen opening before =
    subst (IsHeld seen opening) (sym c.self.view_is) held in
    let state = state_now opening before.file in
    let other : c.in-Err.why ≢ Fault Write = λ is. memory-apart (sym c.in-Memory.is ∙ is) in
    subst (λ (v : VolumeNow g.row.B.Denot). HasComeHeld seen opening c.args.after c.args.unit
    c.args.line entry v (record before {
      blocks = c.define-done.new.blocks;
      store = c.define-done.new.self;
    })) c.self.view_is
    (refused-held seen c.args.after c.args.line entry before new c.args.unit ready opening was
    (g.met.B.Blocks.cur_may before.blocks told) c.as_slice.result.now c.as_slice.ensures
    c.define-done.new.self c.define-done.new.blocks (c.in-Err.ensures.unchanged other).0
    (c.in-Err.ensures.stored told other before.number state)
    (λ same. c.in-Err.ensures.begun told same before.number state))

pub returns-in-Ok-clause-less : goal.returns-in-Ok-clause-less
returns-in-Ok-clause-less g c told =
    let seen = g.B.Blocks.seen in
    let before : VolumeNow g.row.B.Denot = record {
      blocks = c.self.inside.blocks;
      number = c.self.inside.number;
      store = c.self.inside.store;
      file = c.self.inside.file;
    } in
    let new = c.args.new in
    subst (λ (v : VolumeNow g.row.B.Denot). LeavesLess (Ok c.enter_defined.result ≡ Ok defines.Again) v
    c.enter_defined.new.self) c.self.view_is
    (less-defined _ _ _ _ _ before c.enter_defined.new.self c.define-done.new.self _
    (λ is. done-define new.area (sym c.enter_defined.ensures.done ∙ same-ok refl is))
    c.enter_defined.ensures.store c.enter_defined.ensures.leaves c.in-Ok.ensures.parts
    (λ n. splits-defined n c.args.after c.args.unit c.args.line new.part new.area new.add new.shown
    new.commit new.catalog before.file))

pub returns-in-Fault-clause-less : goal.returns-in-Fault-clause-less
returns-in-Fault-clause-less g c told =
    let seen = g.B.Blocks.seen in
    let before : VolumeNow g.row.B.Denot = record {
      blocks = c.self.inside.blocks;
      number = c.self.inside.number;
      store = c.self.inside.store;
      file = c.self.inside.file;
    } in
    let entry = c.args.entry.now in
    let new = c.args.new in
    let final = c.enter_failed.new.self in
    let ready : MayAdd seen c.args.after c.args.unit entry new before =
    subst (MayAdd seen c.args.after c.args.unit entry new) (sym c.self.view_is) c.requires.ready in
    let come = failed-come seen c.args.after c.args.line entry before new c.args.unit ready
    c.enter_failed.result final c.define-done.new.self c.enter_failed.ensures.fault
    c.enter_failed.ensures.volume c.in-Err.ensures.kept c.enter_failed.ensures.free
    c.enter_failed.ensures.taken in
    less-stopped _ c.args.self.now final
    (λ is. fault-define Write (sym c.enter_failed.ensures.fault ∙ same-ok refl is))
    (define-stopped before.number c.args.after c.args.unit c.args.line entry before.file final.file
    (subst (λ (d : Define). EnteredBy d before.number c.args.after c.args.unit c.args.line entry
    before.file final.file) c.enter_failed.ensures.fault come.entered))

pub returns-in-Memory-clause-less : goal.returns-in-Memory-clause-less
returns-in-Memory-clause-less g c told =
    let before : VolumeNow g.row.B.Denot = record {
      blocks = c.self.inside.blocks;
      number = c.self.inside.number;
      store = c.self.inside.store;
      file = c.self.inside.file;
    } in
    let other : c.in-Err.why ≢ Fault Write = λ is. memory-apart (sym c.in-Memory.is ∙ is) in
    less-still _ c.args.self.now
    (record before { blocks = c.define-done.new.blocks; store = c.define-done.new.self })
    (not-err refl)
    ((c.in-Err.ensures.unchanged other).0
    ∙ ap (λ (v : VolumeNow g.row.B.Denot). v.store) c.self.view_is)
    (ap (λ (v : VolumeNow g.row.B.Denot). v.file) c.self.view_is)
