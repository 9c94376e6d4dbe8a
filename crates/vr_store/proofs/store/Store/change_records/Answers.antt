-- The changes of the catalog are made by the event of its blocks, with the store as it is seen.
use Rattle.std.proofs.Common.{◌∙◌, ◌⊎◌, ◌<◌, ◌+◌, ◌^◌, [], None, Ok, ap, map, refl, set, subst, sym}
use Rattle.vr_types.specs.Moments.{Guards}
use Rattle.std.specs.Prelude.{All, IfSome}
use Rattle.std.proofs.Common.{◌≡◌, List, Option, Some, rules}
use Rattle.vr_types.specs.declared.unit.PartNo.{PartNo}
use Rattle.vr_space.specs.Known.{HasMet}
use Rattle.vr_space.specs.Part.{Shape, part_no}
use Rattle.vr_space.specs.Room.{Lengths}
use Rattle.vr_history.specs.State.{BeforeImage}
use Rattle.vr_volume.specs.EntryChanges.{CanSetAll, image_for}
use Rattle.vr_volume.specs.PutBack.{lengths_kept}
use Rattle.vr_volume.specs.declared.setting.EntryChange.{EntryChange}
use Rattle.vr_space.proofs.CallerLemmas.{held-same}
use Rattle.vr_log.specs.Live.{live_in, need_of_all}
use Rattle.vr_log.specs.LogNow.{IsFullWhere, with_records}
use Rattle.vr_log.specs.declared.record.EndKind.TheVariants.{Committed}
use Rattle.vr_undo.specs.Records.{images_in}
use Rattle.vr_volume.specs.Crashes.{RecoversTo}
use Rattle.vr_store.specs.Define.{IsMetAt}
use Rattle.vr_store.specs.EntryChange.{number_gone}
use Rattle.vr_store.specs.EntryChanges.{AreChangesReady, IsChangingEntries}
use Rattle.vr_store.specs.Store.{IsSet, PartNow, StoreNow, changed_by, owners_of, part_among, part_now}
use Rattle.vr_store.proofs.ChangedEntries.{catalog-rested, stored-left}
use Rattle.vr_store.proofs.Ends.{idle-ended}
use Rattle.vr_store.proofs.ManyChanges.{catalog-for}
use Rattle.vr_store.proofs.PartsAt.{laid-at, laid-found, none-laid, part-split, same-met}
use Rattle.vr_store.proofs.StoredAfter.{set-logged}
use Rattle.vr_store.proofs.Worked.{set-unclaimed}
use Rattle.vr_store.proofs.store.Store.change_records.Goals as goal

pub change_entries-requires-clause-part : goal.change_entries-requires-clause-part
change_entries-requires-clause-part g c =
    let shape = g.P.Part.shape in
    let known = g.P.Part.known in
    let inside = c.self.inside in
    let unit = c.args.unit in
    let changes = c.args.changes.now in
    let a = g.B.Blocks.seen c.args.blocks.now in
    let laid = c.index_mut.result.now in
    let v : StoreNow = record {
      log = inside.log;
      undo = inside.undo;
      parts = map (part_now shape known) inside.parts.items;
      changed = map changed_by inside.changed.items;
      space = inside.space;
    } in
    let catalog = part_now shape known laid in
    let found = laid-found shape known inside.parts.items 0 c.deref.result.now
    c.index_of.result v.parts c.deref.ensures.value refl c.index_of.ensures c.in-Some.at
    c.in-Some.is laid c.index_mut.ensures.value in
    let at = catalog-for g.B.Blocks.tells (λ s. AreChangesReady s unit changes a) v
    c.args.self.now c.self.view_is changes a catalog found c.requires.set c.requires.stand
    c.requires.ready in
    at.number

pub change_entries-requires-clause-on : goal.change_entries-requires-clause-on
change_entries-requires-clause-on g c =
    let shape = g.P.Part.shape in
    let known = g.P.Part.known in
    let inside = c.self.inside in
    let unit = c.args.unit in
    let changes = c.args.changes.now in
    let a = g.B.Blocks.seen c.args.blocks.now in
    let laid = c.index_mut.result.now in
    let v : StoreNow = record {
      log = inside.log;
      undo = inside.undo;
      parts = map (part_now shape known) inside.parts.items;
      changed = map changed_by inside.changed.items;
      space = inside.space;
    } in
    let catalog = part_now shape known laid in
    let found = laid-found shape known inside.parts.items 0 c.deref.result.now
    c.index_of.result v.parts c.deref.ensures.value refl c.index_of.ensures c.in-Some.at
    c.in-Some.is laid c.index_mut.ensures.value in
    let at = catalog-for g.B.Blocks.tells (λ s. AreChangesReady s unit changes a) v
    c.args.self.now c.self.view_is changes a catalog found c.requires.set c.requires.stand
    c.requires.ready in
    at.on

pub change_entries-requires-clause-stand : goal.change_entries-requires-clause-stand
change_entries-requires-clause-stand g c =
    let shape = g.P.Part.shape in
    let known = g.P.Part.known in
    let inside = c.self.inside in
    let unit = c.args.unit in
    let changes = c.args.changes.now in
    let a = g.B.Blocks.seen c.args.blocks.now in
    let laid = c.index_mut.result.now in
    let v : StoreNow = record {
      log = inside.log;
      undo = inside.undo;
      parts = map (part_now shape known) inside.parts.items;
      changed = map changed_by inside.changed.items;
      space = inside.space;
    } in
    let catalog = part_now shape known laid in
    let found = laid-found shape known inside.parts.items 0 c.deref.result.now
    c.index_of.result v.parts c.deref.ensures.value refl c.index_of.ensures c.in-Some.at
    c.in-Some.is laid c.index_mut.ensures.value in
    let at = catalog-for g.B.Blocks.tells (λ s. AreChangesReady s unit changes a) v
    c.args.self.now c.self.view_is changes a catalog found c.requires.set c.requires.stand
    c.requires.ready in
    at.stand

pub change_entries-requires-clause-rests : goal.change_entries-requires-clause-rests
change_entries-requires-clause-rests g c told =
    let shape = g.P.Part.shape in
    let known = g.P.Part.known in
    let inside = c.self.inside in
    let unit = c.args.unit in
    let changes = c.args.changes.now in
    let a = g.B.Blocks.seen c.args.blocks.now in
    let laid = c.index_mut.result.now in
    let v : StoreNow = record {
      log = inside.log;
      undo = inside.undo;
      parts = map (part_now shape known) inside.parts.items;
      changed = map changed_by inside.changed.items;
      space = inside.space;
    } in
    let catalog = part_now shape known laid in
    let found = laid-found shape known inside.parts.items 0 c.deref.result.now
    c.index_of.result v.parts c.deref.ensures.value refl c.index_of.ensures c.in-Some.at
    c.in-Some.is laid c.index_mut.ensures.value in
    let at = catalog-for g.B.Blocks.tells (λ s. AreChangesReady s unit changes a) v
    c.args.self.now c.self.view_is changes a catalog found c.requires.set c.requires.stand
    c.requires.ready in
    (at.ready told).rests

pub change_entries-requires-clause-room : goal.change_entries-requires-clause-room
change_entries-requires-clause-room g c told =
    let shape = g.P.Part.shape in
    let known = g.P.Part.known in
    let inside = c.self.inside in
    let unit = c.args.unit in
    let changes = c.args.changes.now in
    let a = g.B.Blocks.seen c.args.blocks.now in
    let laid = c.index_mut.result.now in
    let v : StoreNow = record {
      log = inside.log;
      undo = inside.undo;
      parts = map (part_now shape known) inside.parts.items;
      changed = map changed_by inside.changed.items;
      space = inside.space;
    } in
    let catalog = part_now shape known laid in
    let found = laid-found shape known inside.parts.items 0 c.deref.result.now
    c.index_of.result v.parts c.deref.ensures.value refl c.index_of.ensures c.in-Some.at
    c.in-Some.is laid c.index_mut.ensures.value in
    let at = catalog-for g.B.Blocks.tells (λ s. AreChangesReady s unit changes a) v
    c.args.self.now c.self.view_is changes a catalog found c.requires.set c.requires.stand
    c.requires.ready in
    (at.ready told).room

pub change_entries-requires-clause-firm : goal.change_entries-requires-clause-firm
change_entries-requires-clause-firm g c told =
    let shape = g.P.Part.shape in
    let known = g.P.Part.known in
    let inside = c.self.inside in
    let unit = c.args.unit in
    let changes = c.args.changes.now in
    let a = g.B.Blocks.seen c.args.blocks.now in
    let laid = c.index_mut.result.now in
    let v : StoreNow = record {
      log = inside.log;
      undo = inside.undo;
      parts = map (part_now shape known) inside.parts.items;
      changed = map changed_by inside.changed.items;
      space = inside.space;
    } in
    let catalog = part_now shape known laid in
    let found = laid-found shape known inside.parts.items 0 c.deref.result.now
    c.index_of.result v.parts c.deref.ensures.value refl c.index_of.ensures c.in-Some.at
    c.in-Some.is laid c.index_mut.ensures.value in
    let at = catalog-for g.B.Blocks.tells (λ s. AreChangesReady s unit changes a) v
    c.args.self.now c.self.view_is changes a catalog found c.requires.set c.requires.stand
    c.requires.ready in
    (at.ready told).firm

pub change_entries-requires-clause-knows : goal.change_entries-requires-clause-knows
change_entries-requires-clause-knows g c told =
    let shape = g.P.Part.shape in
    let known = g.P.Part.known in
    let inside = c.self.inside in
    let unit = c.args.unit in
    let changes = c.args.changes.now in
    let a = g.B.Blocks.seen c.args.blocks.now in
    let laid = c.index_mut.result.now in
    let v : StoreNow = record {
      log = inside.log;
      undo = inside.undo;
      parts = map (part_now shape known) inside.parts.items;
      changed = map changed_by inside.changed.items;
      space = inside.space;
    } in
    let catalog = part_now shape known laid in
    let found = laid-found shape known inside.parts.items 0 c.deref.result.now
    c.index_of.result v.parts c.deref.ensures.value refl c.index_of.ensures c.in-Some.at
    c.in-Some.is laid c.index_mut.ensures.value in
    let at = catalog-for g.B.Blocks.tells (λ s. AreChangesReady s unit changes a) v
    c.args.self.now c.self.view_is changes a catalog found c.requires.set c.requires.stand
    c.requires.ready in
    (at.ready told).knows

pub change_entries-requires-clause-can : goal.change_entries-requires-clause-can
change_entries-requires-clause-can g c told =
    let shape = g.P.Part.shape in
    let known = g.P.Part.known in
    let inside = c.self.inside in
    let unit = c.args.unit in
    let changes = c.args.changes.now in
    let a = g.B.Blocks.seen c.args.blocks.now in
    let laid = c.index_mut.result.now in
    let v : StoreNow = record {
      log = inside.log;
      undo = inside.undo;
      parts = map (part_now shape known) inside.parts.items;
      changed = map changed_by inside.changed.items;
      space = inside.space;
    } in
    let catalog = part_now shape known laid in
    let found = laid-found shape known inside.parts.items 0 c.deref.result.now
    c.index_of.result v.parts c.deref.ensures.value refl c.index_of.ensures c.in-Some.at
    c.in-Some.is laid c.index_mut.ensures.value in
    let at = catalog-for g.B.Blocks.tells (λ s. AreChangesReady s unit changes a) v
    c.args.self.now c.self.view_is changes a catalog found c.requires.set c.requires.stand
    c.requires.ready in
    subst (λ (lengths : Lengths).
    CanSetAll catalog.shape catalog.known a.cur lengths changes)
    (sym (ap (λ (images : List BeforeImage). lengths_kept images (part_no catalog.shape).0)
    c.requires.kept
    ∙ ap (λ (p : PartNo). lengths_kept (map (image_for unit) changes) p.0) at.number))
    (at.ready told).can

pub change_entries-requires-clause-kept : goal.change_entries-requires-clause-kept
change_entries-requires-clause-kept g c =
    let shape = g.P.Part.shape in
    let known = g.P.Part.known in
    let inside = c.self.inside in
    let unit = c.args.unit in
    let changes = c.args.changes.now in
    let a = g.B.Blocks.seen c.args.blocks.now in
    let laid = c.index_mut.result.now in
    let v : StoreNow = record {
      log = inside.log;
      undo = inside.undo;
      parts = map (part_now shape known) inside.parts.items;
      changed = map changed_by inside.changed.items;
      space = inside.space;
    } in
    let catalog = part_now shape known laid in
    let found = laid-found shape known inside.parts.items 0 c.deref.result.now
    c.index_of.result v.parts c.deref.ensures.value refl c.index_of.ensures c.in-Some.at
    c.in-Some.is laid c.index_mut.ensures.value in
    let at = catalog-for g.B.Blocks.tells (λ s. AreChangesReady s unit changes a) v
    c.args.self.now c.self.view_is changes a catalog found c.requires.set c.requires.stand
    c.requires.ready in
    ap (λ (images : List BeforeImage). lengths_kept images (part_no catalog.shape).0)
    c.requires.kept
    ∙ ap (λ (p : PartNo). lengths_kept (map (image_for unit) changes) p.0) at.number

pub returns-in_err-change_entries-in-Some-clause-never_read : goal.returns-in_err-change_entries-in-Some-clause-never_read
returns-in_err-change_entries-in-Some-clause-never_read g c met =
    let shape = g.P.Part.shape in
    let known = g.P.Part.known in
    let inside = c.self.inside in
    let unit = c.args.unit in
    let changes = c.args.changes.now in
    let a = g.B.Blocks.seen c.args.blocks.now in
    let laid = c.index_mut.result.now in
    let v : StoreNow = record {
      log = inside.log;
      undo = inside.undo;
      parts = map (part_now shape known) inside.parts.items;
      changed = map changed_by inside.changed.items;
      space = inside.space;
    } in
    let catalog = part_now shape known laid in
    let found = laid-found shape known inside.parts.items 0 c.deref.result.now
    c.index_of.result v.parts c.deref.ensures.value refl c.index_of.ensures c.in-Some.at
    c.in-Some.is laid c.index_mut.ensures.value in
    let now = subst (λ (s : StoreNow). part_among s.parts 0 ≡ Some catalog) c.self.view_is found in
    let never = c.in_err-change_entries-in-Some.ensures.never_read
    (subst (λ (one : Option PartNow). IfSome one (λ (part : PartNow).
    All (λ (change : EntryChange). HasMet part.known change.place) changes)) now met) in
    search rules

pub returns-in_err-change_entries-in-Some-clause-moments :
    goal.returns-in_err-change_entries-in-Some-clause-moments
returns-in_err-change_entries-in-Some-clause-moments g c told volume gone old new is =
    let shape = g.P.Part.shape in
    let known = g.P.Part.known in
    let inside = c.self.inside in
    let unit = c.args.unit in
    let changes = c.args.changes.now in
    let a = g.B.Blocks.seen c.args.blocks.now in
    let laid = c.index_mut.result.now in
    let v : StoreNow = record {
      log = inside.log;
      undo = inside.undo;
      parts = map (part_now shape known) inside.parts.items;
      changed = map changed_by inside.changed.items;
      space = inside.space;
    } in
    let catalog = part_now shape known laid in
    let found = laid-found shape known inside.parts.items 0 c.deref.result.now
    c.index_of.result v.parts c.deref.ensures.value refl c.index_of.ensures c.in-Some.at
    c.in-Some.is laid c.index_mut.ensures.value in
    let is-set = subst (λ (s : StoreNow). IsSet s a) (sym c.self.view_is) c.requires.set in
    let b = g.B.Blocks.seen c.change_entries.new.blocks in
    let by = subst (λ (s : StoreNow).
    IsChangingEntries volume s unit changes gone old new a) (sym c.self.view_is) is in
    subst (λ (s : StoreNow). Guards a b (λ image. RecoversTo s.log.geometry volume old [] image
    ⊎ RecoversTo s.log.geometry volume new [] image)) c.self.view_is
    (c.change_entries.ensures.any_moment told volume (owners_of v) old new (images_in v.undo)
    (number_gone gone) by.stored.volume
    (catalog-rested volume v unit changes gone old new a is-set by catalog found) by.can
    by.changed)

pub returns-clause-moments : goal.returns-clause-moments
returns-clause-moments g c told volume gone old new is =
    let shape = g.P.Part.shape in
    let known = g.P.Part.known in
    let inside = c.self.inside in
    let unit = c.args.unit in
    let changes = c.args.changes.now in
    let a = g.B.Blocks.seen c.args.blocks.now in
    let laid = c.index_mut.result.now in
    let v : StoreNow = record {
      log = inside.log;
      undo = inside.undo;
      parts = map (part_now shape known) inside.parts.items;
      changed = map changed_by inside.changed.items;
      space = inside.space;
    } in
    let catalog = part_now shape known laid in
    let found = laid-found shape known inside.parts.items 0 c.deref.result.now
    c.index_of.result v.parts c.deref.ensures.value refl c.index_of.ensures c.in-Some.at
    c.in-Some.is laid c.index_mut.ensures.value in
    let is-set = subst (λ (s : StoreNow). IsSet s a) (sym c.self.view_is) c.requires.set in
    let b = g.B.Blocks.seen c.change_entries.new.blocks in
    let by = subst (λ (s : StoreNow).
    IsChangingEntries volume s unit changes gone old new a) (sym c.self.view_is) is in
    subst (λ (s : StoreNow). Guards a b (λ image. RecoversTo s.log.geometry volume old [] image
    ⊎ RecoversTo s.log.geometry volume new [] image)) c.self.view_is
    (c.change_entries.ensures.any_moment told volume (owners_of v) old new (images_in v.undo)
    (number_gone gone) by.stored.volume
    (catalog-rested volume v unit changes gone old new a is-set by catalog found) by.can
    by.changed)

pub returns-clause-done : goal.returns-clause-done
returns-clause-done g c told volume gone old new is small =
    let shape = g.P.Part.shape in
    let known = g.P.Part.known in
    let inside = c.self.inside in
    let unit = c.args.unit in
    let changes = c.args.changes.now in
    let a = g.B.Blocks.seen c.args.blocks.now in
    let laid = c.index_mut.result.now in
    let v : StoreNow = record {
      log = inside.log;
      undo = inside.undo;
      parts = map (part_now shape known) inside.parts.items;
      changed = map changed_by inside.changed.items;
      space = inside.space;
    } in
    let catalog = part_now shape known laid in
    let found = laid-found shape known inside.parts.items 0 c.deref.result.now
    c.index_of.result v.parts c.deref.ensures.value refl c.index_of.ensures c.in-Some.at
    c.in-Some.is laid c.index_mut.ensures.value in
    let is-set = subst (λ (s : StoreNow). IsSet s a) (sym c.self.view_is) c.requires.set in
    let b = g.B.Blocks.seen c.change_entries.new.blocks in
    let by = subst (λ (s : StoreNow).
    IsChangingEntries volume s unit changes gone old new a) (sym c.self.view_is) is in
    let now = part_now shape known
    (record { number = laid.number; part = c.change_entries.new.catalog }) in
    let parts = map (part_now shape known) (set inside.parts.items c.in-Some.at
    (record { number = laid.number; part = c.change_entries.new.catalog })) in
    let into = laid-at shape known inside.parts.items 0 c.deref.result.now
    c.index_of.result v.parts c.deref.ensures.value refl c.index_of.ensures c.in-Some.at
    c.in-Some.is laid
    (record { number = laid.number; part = c.change_entries.new.catalog })
    c.index_mut.ensures.value in
    let ensured = c.in_ok-change_entries-in-Some.ensures in
    let below = subst (λ (s : StoreNow). s.log.generation + 1 < 2 ^ 63) (sym c.self.view_is)
    small in
    let rested = catalog-rested volume v unit changes gone old new a is-set by catalog
    found in
    stored-left volume v unit changes gone old new a is-set by catalog found b
    c.change_entries.new.log parts now into refl ensured.part ensured.geometry
    (ensured.done told volume (owners_of v) old new (images_in v.undo) (number_gone gone)
    by.stored.volume rested by.can by.changed below)
    (λ other known apart stays other-rested. ensured.others told volume (owners_of v) old new
    (images_in v.undo) (number_gone gone) other known by.stored.volume rested by.can by.changed
    apart stays other-rested)

pub returns-clause-set : goal.returns-clause-set
returns-clause-set g c =
    let shape = g.P.Part.shape in
    let known = g.P.Part.known in
    let inside = c.self.inside in
    let unit = c.args.unit in
    let changes = c.args.changes.now in
    let a = g.B.Blocks.seen c.args.blocks.now in
    let laid = c.index_mut.result.now in
    let v : StoreNow = record {
      log = inside.log;
      undo = inside.undo;
      parts = map (part_now shape known) inside.parts.items;
      changed = map changed_by inside.changed.items;
      space = inside.space;
    } in
    let catalog = part_now shape known laid in
    let found = laid-found shape known inside.parts.items 0 c.deref.result.now
    c.index_of.result v.parts c.deref.ensures.value refl c.index_of.ensures c.in-Some.at
    c.in-Some.is laid c.index_mut.ensures.value in
    let is-set = subst (λ (s : StoreNow). IsSet s a) (sym c.self.view_is) c.requires.set in
    let b = g.B.Blocks.seen c.change_entries.new.blocks in
    let now = part_now shape known
    (record { number = laid.number; part = c.change_entries.new.catalog }) in
    let parts = map (part_now shape known) (set inside.parts.items c.in-Some.at
    (record { number = laid.number; part = c.change_entries.new.catalog })) in
    let into = laid-at shape known inside.parts.items 0 c.deref.result.now
    c.index_of.result v.parts c.deref.ensures.value refl c.index_of.ensures c.in-Some.at
    c.in-Some.is laid
    (record { number = laid.number; part = c.change_entries.new.catalog })
    c.index_mut.ensures.value in
    let ensured = c.in_ok-change_entries-in-Some.ensures in
    let still = set-unclaimed v 0 catalog now parts v.space into
    (ap (λ (s : Shape). part-split laid.number s None) ensured.part) a b ensured.count
    ensured.size
    (held-same catalog.shape catalog.known now.known ensured.areas ensured.moves) refl is-set in
    set-logged (record v { parts = parts }) c.change_entries.new.log v.changed b ensured.geometry
    ensured.sound
    (idle-ended (with_records v.log c.args.records.now) c.change_entries.new.log unit Committed
    ensured.log) still.changed still

pub returns-clause-parts : goal.returns-clause-parts
returns-clause-parts g c =
    let shape = g.P.Part.shape in
    let known = g.P.Part.known in
    let inside = c.self.inside in
    let unit = c.args.unit in
    let changes = c.args.changes.now in
    let a = g.B.Blocks.seen c.args.blocks.now in
    let laid = c.index_mut.result.now in
    let v : StoreNow = record {
      log = inside.log;
      undo = inside.undo;
      parts = map (part_now shape known) inside.parts.items;
      changed = map changed_by inside.changed.items;
      space = inside.space;
    } in
    let catalog = part_now shape known laid in
    let found = laid-found shape known inside.parts.items 0 c.deref.result.now
    c.index_of.result v.parts c.deref.ensures.value refl c.index_of.ensures c.in-Some.at
    c.in-Some.is laid c.index_mut.ensures.value in
    let now = part_now shape known
    (record { number = laid.number; part = c.change_entries.new.catalog }) in
    let parts = map (part_now shape known) (set inside.parts.items c.in-Some.at
    (record { number = laid.number; part = c.change_entries.new.catalog })) in
    let into = laid-at shape known inside.parts.items 0 c.deref.result.now
    c.index_of.result v.parts c.deref.ensures.value refl c.index_of.ensures c.in-Some.at
    c.in-Some.is laid
    (record { number = laid.number; part = c.change_entries.new.catalog })
    c.index_mut.ensures.value in
    let ensured = c.in_ok-change_entries-in-Some.ensures in
    subst (λ (s : StoreNow). IsMetAt 0 s.parts parts) c.self.view_is
    (record {
      before = catalog;
      after = now;
      found = into.found;
      is = into.is;
      same = same-met laid.number catalog.shape now.shape catalog.known now.known ensured.part
          ensured.split ensured.moves ensured.areas ensured.used;
    })

pub returns-clause-full : goal.returns-clause-full
returns-clause-full g c = subst (λ (s : StoreNow). IsFullWhere {T = Unit {0}} s.log
    (need_of_all (live_in s.log.records) c.args.records.now) (Ok tt)) c.self.view_is
    c.in_ok-change_entries-in-Some.ensures.full

pub unreachable-requires : goal.unreachable-requires
unreachable-requires g c =
    c.requires.catalog (none-laid g.P.Part.shape g.P.Part.known c.self.inside.parts.items 0
    c.deref.result.now c.index_of.result c.args.self.now.parts c.deref.ensures.value
    (ap (λ (s : StoreNow). s.parts) c.self.view_is) c.index_of.ensures c.in-None.is)
