use Rattle.std.proofs.Common.{◌≡◌, ◌≢◌, ◌∙◌, ◌+◌, ◌<◌, ◌≤◌, ◌^◌, ℕ, List, Option, All, ap, arith, map, refl, subst, sym}
use Rattle.std.proofs.Common.{length, []}
use Rattle.std.proofs.lemmas.Option.{none-some}
use Rattle.std.specs.Prelude.{Err, IfSome, Ok}
use Rattle.vr_types.specs.declared.fault.DeviceFault.TheVariants.{Read, Write}
use Rattle.vr_types.proofs.CallerLemmas.{keeps-none}
use Rattle.vr_log.specs.LogNow.{with_records}
use Rattle.vr_log.specs.Records.{HasLengths}
use Rattle.vr_log.specs.declared.record.EndKind.TheVariants.{Committed}
use Rattle.vr_record_file.specs.Now.{FileNow, state_now}
use Rattle.vr_space.specs.Known.{HasMet}
use Rattle.vr_space.specs.Part.{Shape}
use Rattle.vr_volume.specs.EndedLog.{IsEndedLog}
use Rattle.vr_volume.specs.EntryChanges.{AreApart, MayStand, logged_for}
use Rattle.vr_volume.specs.declared.setting.EntryChange.{EntryChange}
use Rattle.vr_store.specs.Define.{IsFullFor}
use Rattle.vr_store.specs.EntryChanges.{AreEntriesSettable, HaveEntries, IsChangingEntries, entries_need}
use Rattle.vr_store.specs.Store.{PartNow, part_among, shape_among}
use Rattle.vr_store.specs.declared.no.DefineNo.TheVariants.{Fault}
use Rattle.vr_event.specs.CatalogEdit.{EditFaultsBy, changes_of, file_edited}
use Rattle.vr_event.specs.EditSteps.{AreMetAt, HasEditCome, HasEditComeHeld, IsEditReady, IsOpenAt}
use Rattle.vr_event.specs.Nearer.{LeavesLess}
use Rattle.vr_event.specs.Volume.{IsHeld, VolumeNow}
use Rattle.vr_event.specs.declared.edit.Edit.TheVariants as answers
use Rattle.vr_event.proofs.AddedClusters.{memory-apart}
use Rattle.vr_event.proofs.CatalogPart.{catalog-there}
use Rattle.vr_event.proofs.EditAsked.{met-all}
use Rattle.vr_event.proofs.EditMade.{failed-come, failed-faults, failed-held, made-apart, made-come, made-entered}
use Rattle.vr_event.proofs.EditMade.{made-entries, made-few, made-gone, made-held, made-lengths}
use Rattle.vr_event.proofs.EditMade.{made-stamps}
use Rattle.vr_event.proofs.EditMade.{made-room, made-settable, made-some, made-stand, read-apart}
use Rattle.vr_event.proofs.EditMade.{refused-held}
use Rattle.vr_event.proofs.Recovers.{recovers-keeps}
use Rattle.vr_event.proofs.UtilitySteps.{done-edit, fault-edit, less-left, less-still}
use Rattle.vr_event.proofs.UtilitySteps.{less-stopped, not-err, same-ok, splits-edited}
use Rattle.vr_event.proofs.volume.Volume.make_edit.Goals as goal

pub change_entries-done-requires-clause-gone : goal.change_entries-done-requires-clause-gone
change_entries-done-requires-clause-gone g c = made-gone g.B.Blocks.seen c.args.after c.args.line
    c.args.edit.now c.args.self.now c.args.prepared c.args.unit c.requires.ready

pub change_entries-done-requires-clause-some : goal.change_entries-done-requires-clause-some
change_entries-done-requires-clause-some g c =
    let seen = g.B.Blocks.seen in
    let old = c.args.self.now in
    subst (λ (changes : List EntryChange). changes ≢ []) (sym c.as_slice.ensures.value)
    (made-some seen c.args.after c.args.line c.args.edit.now old c.args.prepared c.args.unit
    c.requires.ready)

pub change_entries-done-requires-clause-few : goal.change_entries-done-requires-clause-few
change_entries-done-requires-clause-few g c =
    let seen = g.B.Blocks.seen in
    let old = c.args.self.now in
    subst (λ (changes : List EntryChange). length changes < 65536) (sym c.as_slice.ensures.value)
    (omega (
      arith,
      made-few seen c.args.after c.args.line c.args.edit.now old c.args.prepared c.args.unit
          c.requires.ready,
    ))

pub change_entries-done-requires-clause-lengths : goal.change_entries-done-requires-clause-lengths
change_entries-done-requires-clause-lengths g c =
    let seen = g.B.Blocks.seen in
    let old = c.args.self.now in
    subst (λ (changes : List EntryChange). All (λ (change : EntryChange).
    HasLengths (logged_for c.args.unit change)) changes) (sym c.as_slice.ensures.value)
    (made-lengths seen c.args.after c.args.line c.args.edit.now old c.args.prepared c.args.unit
    c.requires.ready)

pub change_entries-done-requires-clause-stand : goal.change_entries-done-requires-clause-stand
change_entries-done-requires-clause-stand g c =
    let seen = g.B.Blocks.seen in
    let old = c.args.self.now in
    subst (λ (v : VolumeNow g.row.B.Denot). IfSome (shape_among v.store.parts 0)
    (λ (shape : Shape). All (MayStand shape) c.as_slice.result.now)) (sym c.self.view_is)
    (subst (λ (changes : List EntryChange). IfSome (shape_among old.store.parts 0)
    (λ (shape : Shape). All (MayStand shape) changes)) (sym c.as_slice.ensures.value)
    (made-stand seen c.args.after c.args.line c.args.edit.now old c.args.prepared c.args.unit
    c.requires.ready))

pub change_entries-done-requires-clause-stands : goal.change_entries-done-requires-clause-stands
change_entries-done-requires-clause-stands g c told =
    let seen = g.B.Blocks.seen in
    let old = c.args.self.now in
    subst (λ (v : VolumeNow g.row.B.Denot). HaveEntries v.store c.as_slice.result.now (seen v.blocks)) (sym c.self.view_is)
    (subst (λ (changes : List EntryChange). HaveEntries old.store changes (seen old.blocks)) (sym c.as_slice.ensures.value)
    (made-entered seen c.args.after c.args.line c.args.edit.now old c.args.prepared c.args.unit
    c.requires.ready (c.requires.holds told).opening (c.requires.holds told).held
    (g.met.B.Blocks.cur_may old.blocks told)))

pub change_entries-done-requires-clause-can : goal.change_entries-done-requires-clause-can
change_entries-done-requires-clause-can g c told =
    let seen = g.B.Blocks.seen in
    let old = c.args.self.now in
    subst (λ (v : VolumeNow g.row.B.Denot). AreEntriesSettable v.store c.args.unit
    (seen v.blocks).cur c.as_slice.result.now) (sym c.self.view_is)
    (subst (λ (changes : List EntryChange). AreEntriesSettable old.store c.args.unit
    (seen old.blocks).cur changes) (sym c.as_slice.ensures.value)
    (made-settable seen c.args.after c.args.line c.args.edit.now old c.args.prepared c.args.unit
    c.requires.ready (c.requires.holds told).opening (c.requires.holds told).held
    (g.met.B.Blocks.cur_may old.blocks told)
    (c.requires.open told)))

pub change_entries-done-requires-clause-apart : goal.change_entries-done-requires-clause-apart
change_entries-done-requires-clause-apart g c =
    subst AreApart (sym c.as_slice.ensures.value) (made-apart g.B.Blocks.seen c.args.after c.args.line
    c.args.edit.now c.args.self.now c.args.prepared c.args.unit c.requires.ready)

pub unreachable-requires : goal.unreachable-requires
unreachable-requires g c =
    let seen = g.B.Blocks.seen in
    let before : VolumeNow g.row.B.Denot = record {
      blocks = c.self.inside.blocks;
      number = c.self.inside.number;
      store = c.self.inside.store;
      file = c.self.inside.file;
    } in
    let edit = c.args.edit.now in
    let prepared = c.args.prepared in
    let ready : IsEditReady seen c.args.after c.args.unit edit prepared before =
    subst (IsEditReady seen c.args.after c.args.unit edit prepared) (sym c.self.view_is)
    c.requires.ready in
    made-room seen c.args.after c.args.line edit before prepared c.args.unit ready
    c.change_entries-done.result (subst (λ (changes : List EntryChange).
    IsFullFor before.store.log (entries_need before.store.log c.args.unit changes)
    c.change_entries-done.result) c.as_slice.ensures.value c.change_entries-done.ensures.full)
    (c.in-Err.is ∙ ap Err c.in-Full.is)

pub returns-in-Ok-clause-come : goal.returns-in-Ok-clause-come
returns-in-Ok-clause-come g c =
    let seen = g.B.Blocks.seen in
    let before : VolumeNow g.row.B.Denot = record {
      blocks = c.self.inside.blocks;
      number = c.self.inside.number;
      store = c.self.inside.store;
      file = c.self.inside.file;
    } in
    let edit = c.args.edit.now in
    let prepared = c.args.prepared in
    let ready : IsEditReady seen c.args.after c.args.unit edit prepared before =
    subst (IsEditReady seen c.args.after c.args.unit edit prepared) (sym c.self.view_is)
    c.requires.ready in
    subst (λ (v : VolumeNow g.row.B.Denot). HasEditCome seen c.args.after c.args.unit c.args.line
    edit (Ok c.enter_edited.result) v c.enter_edited.new.self) c.self.view_is
    (made-come seen c.args.after c.args.line edit before prepared c.args.unit ready
    c.enter_edited.result c.enter_edited.new.self c.change_entries-done.new.self
    c.change_entries-done.new.blocks c.enter_edited.ensures.done
    c.enter_edited.ensures.leaves c.enter_edited.ensures.volume c.enter_edited.ensures.store
    c.enter_edited.ensures.blocks c.in-Ok.ensures.set c.in-Ok.ensures.shapes
    (subst (λ (changes : List EntryChange). IsEndedLog (with_records before.store.log
    (map (logged_for c.args.unit) changes)) c.args.unit Committed
    c.change_entries-done.new.self.log) c.as_slice.ensures.value c.in-Ok.ensures.log))

pub returns-in-Ok-clause-held : goal.returns-in-Ok-clause-held
returns-in-Ok-clause-held g c told opening held =
    let seen = g.B.Blocks.seen in
    let before : VolumeNow g.row.B.Denot = record {
      blocks = c.self.inside.blocks;
      number = c.self.inside.number;
      store = c.self.inside.store;
      file = c.self.inside.file;
    } in
    let edit = c.args.edit.now in
    let prepared = c.args.prepared in
    let ready : IsEditReady seen c.args.after c.args.unit edit prepared before =
    subst (IsEditReady seen c.args.after c.args.unit edit prepared) (sym c.self.view_is)
    c.requires.ready in
    let was : IsHeld seen opening before =
    subst (IsHeld seen opening) (sym c.self.view_is) held in
    let done : FileNow = file_edited before.number c.args.after c.args.unit c.args.line edit
    before.file in
    subst (λ (v : VolumeNow g.row.B.Denot). HasEditComeHeld seen opening c.args.after c.args.unit
    c.args.line edit v c.enter_edited.new.self) c.self.view_is
    (made-held seen c.args.after c.args.line edit before prepared c.args.unit ready opening was
    (g.met.B.Blocks.cur_may before.blocks told)
    c.enter_edited.new.self c.change_entries-done.new.self c.change_entries-done.new.blocks
    c.enter_edited.ensures.leaves c.enter_edited.ensures.volume c.enter_edited.ensures.store
    c.enter_edited.ensures.blocks c.in-Ok.ensures.space
    (c.enter_edited.ensures.state opening (changes_of edit) was.file)
    (λ can. c.in-Ok.ensures.done told before.number (state_now opening before.file) _
    (subst (λ (changes : List EntryChange). IsChangingEntries before.number before.store c.args.unit
    changes prepared.gone (state_now opening before.file) (state_now opening done) (seen before.blocks))
    (sym c.as_slice.ensures.value) can) ready.may.generation)
    (λ can. c.change_entries-done.ensures.moments told before.number
    (state_now opening before.file) _ (subst (λ (changes : List EntryChange).
    IsChangingEntries before.number before.store c.args.unit changes prepared.gone
    (state_now opening before.file) (state_now opening done) (seen before.blocks)) (sym c.as_slice.ensures.value) can)))

pub returns-in-Fault-clause-come : goal.returns-in-Fault-clause-come
returns-in-Fault-clause-come g c =
    let seen = g.B.Blocks.seen in
    let before : VolumeNow g.row.B.Denot = record {
      blocks = c.self.inside.blocks;
      number = c.self.inside.number;
      store = c.self.inside.store;
      file = c.self.inside.file;
    } in
    let edit = c.args.edit.now in
    let prepared = c.args.prepared in
    let ready : IsEditReady seen c.args.after c.args.unit edit prepared before =
    subst (IsEditReady seen c.args.after c.args.unit edit prepared) (sym c.self.view_is)
    c.requires.ready in
    subst (λ (v : VolumeNow g.row.B.Denot). HasEditCome seen c.args.after c.args.unit c.args.line
    edit (Ok c.enter_edit_in_doubt.result) v c.enter_edit_in_doubt.new.self)
    c.self.view_is
    (failed-come seen c.args.after c.args.line edit before prepared c.args.unit ready
    c.enter_edit_in_doubt.result c.enter_edit_in_doubt.new.self
    c.enter_edit_in_doubt.ensures.fault c.enter_edit_in_doubt.ensures.leaves
    c.enter_edit_in_doubt.ensures.volume)

pub returns-in-Fault-clause-held : goal.returns-in-Fault-clause-held
returns-in-Fault-clause-held g c told opening held =
    let seen = g.B.Blocks.seen in
    let before : VolumeNow g.row.B.Denot = record {
      blocks = c.self.inside.blocks;
      number = c.self.inside.number;
      store = c.self.inside.store;
      file = c.self.inside.file;
    } in
    let edit = c.args.edit.now in
    let prepared = c.args.prepared in
    let ready : IsEditReady seen c.args.after c.args.unit edit prepared before =
    subst (IsEditReady seen c.args.after c.args.unit edit prepared) (sym c.self.view_is)
    c.requires.ready in
    let was : IsHeld seen opening before =
    subst (IsHeld seen opening) (sym c.self.view_is) held in
    let done : FileNow = file_edited before.number c.args.after c.args.unit c.args.line edit
    before.file in
    subst (λ (v : VolumeNow g.row.B.Denot). HasEditComeHeld seen opening c.args.after c.args.unit
    c.args.line edit v c.enter_edit_in_doubt.new.self) c.self.view_is
    (failed-held seen c.args.after c.args.line edit before prepared c.args.unit ready opening
    was (g.met.B.Blocks.cur_may before.blocks told)
    c.enter_edit_in_doubt.new.self c.change_entries-done.new.self c.change_entries-done.new.blocks
    c.enter_edit_in_doubt.ensures.leaves c.enter_edit_in_doubt.ensures.volume
    c.enter_edit_in_doubt.ensures.store c.enter_edit_in_doubt.ensures.blocks
    c.in-Err.ensures.kept
    (c.enter_edit_in_doubt.ensures.state opening (changes_of edit) was.file)
    (λ can. c.change_entries-done.ensures.moments told before.number
    (state_now opening before.file) _ (subst (λ (changes : List EntryChange).
    IsChangingEntries before.number before.store c.args.unit changes prepared.gone
    (state_now opening before.file) (state_now opening done) (seen before.blocks)) (sym c.as_slice.ensures.value) can)))

pub returns-in-Memory-clause-held : goal.returns-in-Memory-clause-held
returns-in-Memory-clause-held g c told opening held =
    let seen = g.B.Blocks.seen in
    let before : VolumeNow g.row.B.Denot = record {
      blocks = c.self.inside.blocks;
      number = c.self.inside.number;
      store = c.self.inside.store;
      file = c.self.inside.file;
    } in
    let edit = c.args.edit.now in
    let prepared = c.args.prepared in
    let ready : IsEditReady seen c.args.after c.args.unit edit prepared before =
    subst (IsEditReady seen c.args.after c.args.unit edit prepared) (sym c.self.view_is)
    c.requires.ready in
    let was : IsHeld seen opening before =
    subst (IsHeld seen opening) (sym c.self.view_is) held in
    let done : FileNow = file_edited before.number c.args.after c.args.unit c.args.line edit
    before.file in
    let other : c.in-Err.why ≢ Fault Write = λ is. memory-apart (sym c.in-Memory.is ∙ is) in
    let unread : c.in-Err.why ≢ Fault Read = λ is. read-apart (sym c.in-Memory.is ∙ is) in
    let now = seen before.blocks in
    subst (λ (v : VolumeNow g.row.B.Denot). HasEditComeHeld seen opening c.args.after c.args.unit
    c.args.line edit v (record before {
      blocks = c.change_entries-done.new.blocks;
      store = c.change_entries-done.new.self;
    })) c.self.view_is
    (refused-held seen c.args.after c.args.line edit before prepared c.args.unit ready opening
    was (g.met.B.Blocks.cur_may before.blocks told)
    c.change_entries-done.new.self c.change_entries-done.new.blocks
    (c.in-Err.ensures.unchanged other unread).0 (c.in-Err.ensures.unchanged other unread).1
    (recovers-keeps before.number before.store (state_now opening before.file) now now
    (was.stored ready.may.going) g.B.Blocks.tells told
    (keeps-none g.B.Blocks.tells now
    (λ told image is. g.met.B.Blocks.images_may before.blocks image told is))))

pub returns-in-Ok-clause-less : goal.returns-in-Ok-clause-less
returns-in-Ok-clause-less g c told =
    let before : VolumeNow g.row.B.Denot = record {
      blocks = c.self.inside.blocks;
      number = c.self.inside.number;
      store = c.self.inside.store;
      file = c.self.inside.file;
    } in
    let prepared = c.args.prepared in
    subst (λ (v : VolumeNow g.row.B.Denot). LeavesLess (Ok c.enter_edited.result ≡ Ok answers.Again) v
    c.enter_edited.new.self) c.self.view_is
    (less-left _ prepared.gone before c.enter_edited.new.self c.change_entries-done.new.self _
    (λ is. done-edit (sym c.enter_edited.ensures.done ∙ same-ok refl is))
    c.enter_edited.ensures.store c.enter_edited.ensures.leaves c.in-Ok.ensures.parts
    (λ n. splits-edited n c.args.after c.args.unit c.args.line prepared.steps.items
    prepared.commit prepared.catalog before.file))

pub returns-in-Fault-clause-less : goal.returns-in-Fault-clause-less
returns-in-Fault-clause-less g c told = less-stopped _ c.args.self.now
    c.enter_edit_in_doubt.new.self
    (λ is. fault-edit Write (sym c.enter_edit_in_doubt.ensures.fault ∙ same-ok refl is))
    (λ going. none-some _ (sym going
    ∙ ap (λ (f : FileNow). f.stopped) c.enter_edit_in_doubt.ensures.leaves))

pub returns-in-Memory-clause-less : goal.returns-in-Memory-clause-less
returns-in-Memory-clause-less g c told =
    let before : VolumeNow g.row.B.Denot = record {
      blocks = c.self.inside.blocks;
      number = c.self.inside.number;
      store = c.self.inside.store;
      file = c.self.inside.file;
    } in
    let other : c.in-Err.why ≢ Fault Write = λ is. memory-apart (sym c.in-Memory.is ∙ is) in
    let unread : c.in-Err.why ≢ Fault Read = λ is. read-apart (sym c.in-Memory.is ∙ is) in
    less-still _ c.args.self.now
    (record before { blocks = c.change_entries-done.new.blocks; store = c.change_entries-done.new.self })
    (not-err refl)
    ((c.in-Err.ensures.unchanged other unread).0
    ∙ ap (λ (v : VolumeNow g.row.B.Denot). v.store) c.self.view_is)
    (ap (λ (v : VolumeNow g.row.B.Denot). v.file) c.self.view_is)

pub enter_edited-requires-clause-room : goal.enter_edited-requires-clause-room
enter_edited-requires-clause-room g c =
    let seen = g.B.Blocks.seen in
    let before : VolumeNow g.row.B.Denot = record {
      blocks = c.self.inside.blocks;
      number = c.self.inside.number;
      store = c.self.inside.store;
      file = c.self.inside.file;
    } in
    let edit = c.args.edit.now in
    let prepared = c.args.prepared in
    let ready : IsEditReady seen c.args.after c.args.unit edit prepared before =
    subst (IsEditReady seen c.args.after c.args.unit edit prepared) (sym c.self.view_is)
    c.requires.ready in
    let few = made-entries seen c.args.after c.args.line edit before prepared c.args.unit ready in
    omega (arith, few, ready.may.room)

pub enter_edited-requires-clause-last : goal.enter_edited-requires-clause-last
enter_edited-requires-clause-last g c =
    let seen = g.B.Blocks.seen in
    let before : VolumeNow g.row.B.Denot = record {
      blocks = c.self.inside.blocks;
      number = c.self.inside.number;
      store = c.self.inside.store;
      file = c.self.inside.file;
    } in
    let edit = c.args.edit.now in
    let prepared = c.args.prepared in
    let ready : IsEditReady seen c.args.after c.args.unit edit prepared before =
    subst (IsEditReady seen c.args.after c.args.unit edit prepared) (sym c.self.view_is)
    c.requires.ready in
    let few = made-stamps seen c.args.after c.args.line edit before prepared c.args.unit ready in
    omega (arith, few, ready.may.last)

pub enter_edited-requires-clause-after : goal.enter_edited-requires-clause-after
enter_edited-requires-clause-after g c =
    let seen = g.B.Blocks.seen in
    let before : VolumeNow g.row.B.Denot = record {
      blocks = c.self.inside.blocks;
      number = c.self.inside.number;
      store = c.self.inside.store;
      file = c.self.inside.file;
    } in
    let edit = c.args.edit.now in
    let prepared = c.args.prepared in
    let ready : IsEditReady seen c.args.after c.args.unit edit prepared before =
    subst (IsEditReady seen c.args.after c.args.unit edit prepared) (sym c.self.view_is)
    c.requires.ready in
    let few = made-stamps seen c.args.after c.args.line edit before prepared c.args.unit ready in
    omega (arith, few, ready.may.after_is)

pub enter_edit_in_doubt-requires-clause-room : goal.enter_edit_in_doubt-requires-clause-room
enter_edit_in_doubt-requires-clause-room g c =
    let seen = g.B.Blocks.seen in
    let before : VolumeNow g.row.B.Denot = record {
      blocks = c.self.inside.blocks;
      number = c.self.inside.number;
      store = c.self.inside.store;
      file = c.self.inside.file;
    } in
    let edit = c.args.edit.now in
    let prepared = c.args.prepared in
    let ready : IsEditReady seen c.args.after c.args.unit edit prepared before =
    subst (IsEditReady seen c.args.after c.args.unit edit prepared) (sym c.self.view_is)
    c.requires.ready in
    let few = made-entries seen c.args.after c.args.line edit before prepared c.args.unit ready in
    omega (arith, few, ready.may.room)

pub enter_edit_in_doubt-requires-clause-last : goal.enter_edit_in_doubt-requires-clause-last
enter_edit_in_doubt-requires-clause-last g c =
    let seen = g.B.Blocks.seen in
    let before : VolumeNow g.row.B.Denot = record {
      blocks = c.self.inside.blocks;
      number = c.self.inside.number;
      store = c.self.inside.store;
      file = c.self.inside.file;
    } in
    let edit = c.args.edit.now in
    let prepared = c.args.prepared in
    let ready : IsEditReady seen c.args.after c.args.unit edit prepared before =
    subst (IsEditReady seen c.args.after c.args.unit edit prepared) (sym c.self.view_is)
    c.requires.ready in
    let few = made-stamps seen c.args.after c.args.line edit before prepared c.args.unit ready in
    omega (arith, few, ready.may.last)

pub enter_edit_in_doubt-requires-clause-after : goal.enter_edit_in_doubt-requires-clause-after
enter_edit_in_doubt-requires-clause-after g c =
    let seen = g.B.Blocks.seen in
    let before : VolumeNow g.row.B.Denot = record {
      blocks = c.self.inside.blocks;
      number = c.self.inside.number;
      store = c.self.inside.store;
      file = c.self.inside.file;
    } in
    let edit = c.args.edit.now in
    let prepared = c.args.prepared in
    let ready : IsEditReady seen c.args.after c.args.unit edit prepared before =
    subst (IsEditReady seen c.args.after c.args.unit edit prepared) (sym c.self.view_is)
    c.requires.ready in
    let few = made-stamps seen c.args.after c.args.line edit before prepared c.args.unit ready in
    omega (arith, few, ready.may.after_is)

pub returns-in-Fault-clause-cause : goal.returns-in-Fault-clause-cause
returns-in-Fault-clause-cause g c =
    let faults = g.B.Blocks.faults in
    let given = c.args.prepared.changes.items in
    let met = subst (λ (changes : List EntryChange). IfSome (part_among c.self.inside.store.parts 0)
    (λ (part : PartNow). All (λ (change : EntryChange). HasMet part.known change.place) changes))
    (sym c.as_slice.ensures.value) (met-all c.self.inside.store.parts given
    (subst (λ (v : VolumeNow g.row.B.Denot). AreMetAt v.store.parts given) (sym c.self.view_is)
    c.requires.met)) in
    subst (λ (v : VolumeNow g.row.B.Denot). EditFaultsBy c.enter_edit_in_doubt.result
    (faults v.blocks) (faults c.enter_edit_in_doubt.new.self.blocks)) c.self.view_is
    (subst (λ (b : g.row.B.Denot). EditFaultsBy c.enter_edit_in_doubt.result
    (faults c.self.inside.blocks) (faults b)) (sym c.enter_edit_in_doubt.ensures.blocks)
    (failed-faults (faults c.self.inside.blocks) (faults c.change_entries-done.new.blocks)
    c.change_entries-done.result c.in-Err.why _ c.enter_edit_in_doubt.result
    c.change_entries-done.ensures.cause c.in-Err.is c.in-Fault.is
    (c.in-Err.ensures.never_read met) c.enter_edit_in_doubt.ensures.fault))
