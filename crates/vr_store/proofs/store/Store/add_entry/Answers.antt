-- The catalog is given a record by the event of its blocks, with the store as it is seen.
use Rattle.std.proofs.Common.{◌⊎◌, ◌<◌, ◌+◌, ◌^◌, [], None, Some, ap, map, refl, set, subst}
use Rattle.std.proofs.Common.{sym}
use Rattle.vr_types.specs.Moments.{Guards}
use Rattle.vr_types.specs.declared.unit.PartNo.{PartNo}
use Rattle.vr_space.specs.Part.{CanSet, HasKeptRoom, Shape}
use Rattle.vr_space.proofs.CallerLemmas.{held-same}
use Rattle.vr_log.specs.Live.{live_in, need_of}
use Rattle.vr_log.specs.LogNow.{with_record}
use Rattle.vr_log.specs.Records.{HasLengths}
use Rattle.vr_log.specs.declared.record.LogRecord.{LogRecord}
use Rattle.vr_log.specs.declared.record.EndKind.TheVariants.{Committed}
use Rattle.vr_undo.specs.Records.{images_in}
use Rattle.vr_volume.specs.Crashes.{RecoversTo}
use Rattle.vr_volume.specs.Defining.{IsDefinedIn}
use Rattle.vr_volume.specs.PutBack.{lengths_kept}
use Rattle.vr_store.specs.Define.{IsBegun, IsEntryReady, IsMetAt, entry_need}
use Rattle.vr_store.specs.Store.{IsSet, StoreNow, changed_by, owners_of, part_now}
use Rattle.vr_store.proofs.CatalogParts.{catalog-at}
use Rattle.vr_store.proofs.DefinedEntry.{catalog-rested, kept-same, stored-entered}
use Rattle.vr_store.proofs.Ends.{idle-ended}
use Rattle.vr_store.proofs.PartsAt.{laid-at, laid-found, none-laid, part-split, same-met}
use Rattle.vr_store.proofs.StoredAfter.{set-logged}
use Rattle.vr_store.proofs.Worked.{set-unclaimed}
use Rattle.vr_store.proofs.store.Store.add_entry.Goals as goal

pub define-requires-clause-lengths : goal.define-requires-clause-lengths
define-requires-clause-lengths g c =
    let shape = g.P.Part.shape in
    let known = g.P.Part.known in
    let inside = c.self.inside in
    let unit = c.args.unit in
    let place = c.args.place.now in
    let bytes = c.args.bytes.now in
    let a = g.B.Blocks.seen c.args.blocks.now in
    let laid = c.index_mut.result.now in
    let v : StoreNow = record {
      log = inside.log;
      undo = inside.undo;
      parts = map (part_now shape known) inside.parts.items;
      changed = map changed_by inside.changed.items;
      space = inside.space;
    } in
    let catalog = part_now shape known laid in
    let found = laid-found shape known inside.parts.items 0 c.deref.result.now
    c.index_of.result v.parts c.deref.ensures.value refl c.index_of.ensures c.in-Some.at
    c.in-Some.is laid c.index_mut.ensures.value in
    let at = catalog-at g.B.Blocks.tells (λ s. IsEntryReady s place bytes a) v c.args.self.now
    c.self.view_is place bytes a catalog found c.requires.set c.requires.place c.requires.item
    c.requires.met c.requires.ready in
    subst HasLengths (sym c.requires.rec) (at.short, tt)

pub define-requires-clause-stands : goal.define-requires-clause-stands
define-requires-clause-stands g c told =
    let shape = g.P.Part.shape in
    let known = g.P.Part.known in
    let inside = c.self.inside in
    let unit = c.args.unit in
    let place = c.args.place.now in
    let bytes = c.args.bytes.now in
    let a = g.B.Blocks.seen c.args.blocks.now in
    let laid = c.index_mut.result.now in
    let v : StoreNow = record {
      log = inside.log;
      undo = inside.undo;
      parts = map (part_now shape known) inside.parts.items;
      changed = map changed_by inside.changed.items;
      space = inside.space;
    } in
    let catalog = part_now shape known laid in
    let found = laid-found shape known inside.parts.items 0 c.deref.result.now
    c.index_of.result v.parts c.deref.ensures.value refl c.index_of.ensures c.in-Some.at
    c.in-Some.is laid c.index_mut.ensures.value in
    let at = catalog-at g.B.Blocks.tells (λ s. IsEntryReady s place bytes a) v c.args.self.now
    c.self.view_is place bytes a catalog found c.requires.set c.requires.place c.requires.item
    c.requires.met c.requires.ready in
    (at.ready told).log

pub define-requires-clause-part : goal.define-requires-clause-part
define-requires-clause-part g c =
    let shape = g.P.Part.shape in
    let known = g.P.Part.known in
    let inside = c.self.inside in
    let unit = c.args.unit in
    let place = c.args.place.now in
    let bytes = c.args.bytes.now in
    let a = g.B.Blocks.seen c.args.blocks.now in
    let laid = c.index_mut.result.now in
    let v : StoreNow = record {
      log = inside.log;
      undo = inside.undo;
      parts = map (part_now shape known) inside.parts.items;
      changed = map changed_by inside.changed.items;
      space = inside.space;
    } in
    let catalog = part_now shape known laid in
    let found = laid-found shape known inside.parts.items 0 c.deref.result.now
    c.index_of.result v.parts c.deref.ensures.value refl c.index_of.ensures c.in-Some.at
    c.in-Some.is laid c.index_mut.ensures.value in
    let at = catalog-at g.B.Blocks.tells (λ s. IsEntryReady s place bytes a) v c.args.self.now
    c.self.view_is place bytes a catalog found c.requires.set c.requires.place c.requires.item
    c.requires.met c.requires.ready in
    at.number

pub define-requires-clause-on : goal.define-requires-clause-on
define-requires-clause-on g c =
    let shape = g.P.Part.shape in
    let known = g.P.Part.known in
    let inside = c.self.inside in
    let unit = c.args.unit in
    let place = c.args.place.now in
    let bytes = c.args.bytes.now in
    let a = g.B.Blocks.seen c.args.blocks.now in
    let laid = c.index_mut.result.now in
    let v : StoreNow = record {
      log = inside.log;
      undo = inside.undo;
      parts = map (part_now shape known) inside.parts.items;
      changed = map changed_by inside.changed.items;
      space = inside.space;
    } in
    let catalog = part_now shape known laid in
    let found = laid-found shape known inside.parts.items 0 c.deref.result.now
    c.index_of.result v.parts c.deref.ensures.value refl c.index_of.ensures c.in-Some.at
    c.in-Some.is laid c.index_mut.ensures.value in
    let at = catalog-at g.B.Blocks.tells (λ s. IsEntryReady s place bytes a) v c.args.self.now
    c.self.view_is place bytes a catalog found c.requires.set c.requires.place c.requires.item
    c.requires.met c.requires.ready in
    at.on

pub define-requires-clause-place : goal.define-requires-clause-place
define-requires-clause-place g c =
    let shape = g.P.Part.shape in
    let known = g.P.Part.known in
    let inside = c.self.inside in
    let unit = c.args.unit in
    let place = c.args.place.now in
    let bytes = c.args.bytes.now in
    let a = g.B.Blocks.seen c.args.blocks.now in
    let laid = c.index_mut.result.now in
    let v : StoreNow = record {
      log = inside.log;
      undo = inside.undo;
      parts = map (part_now shape known) inside.parts.items;
      changed = map changed_by inside.changed.items;
      space = inside.space;
    } in
    let catalog = part_now shape known laid in
    let found = laid-found shape known inside.parts.items 0 c.deref.result.now
    c.index_of.result v.parts c.deref.ensures.value refl c.index_of.ensures c.in-Some.at
    c.in-Some.is laid c.index_mut.ensures.value in
    let at = catalog-at g.B.Blocks.tells (λ s. IsEntryReady s place bytes a) v c.args.self.now
    c.self.view_is place bytes a catalog found c.requires.set c.requires.place c.requires.item
    c.requires.met c.requires.ready in
    at.place_is

pub define-requires-clause-record : goal.define-requires-clause-record
define-requires-clause-record g c =
    let shape = g.P.Part.shape in
    let known = g.P.Part.known in
    let inside = c.self.inside in
    let unit = c.args.unit in
    let place = c.args.place.now in
    let bytes = c.args.bytes.now in
    let a = g.B.Blocks.seen c.args.blocks.now in
    let laid = c.index_mut.result.now in
    let v : StoreNow = record {
      log = inside.log;
      undo = inside.undo;
      parts = map (part_now shape known) inside.parts.items;
      changed = map changed_by inside.changed.items;
      space = inside.space;
    } in
    let catalog = part_now shape known laid in
    let found = laid-found shape known inside.parts.items 0 c.deref.result.now
    c.index_of.result v.parts c.deref.ensures.value refl c.index_of.ensures c.in-Some.at
    c.in-Some.is laid c.index_mut.ensures.value in
    let at = catalog-at g.B.Blocks.tells (λ s. IsEntryReady s place bytes a) v c.args.self.now
    c.self.view_is place bytes a catalog found c.requires.set c.requires.place c.requires.item
    c.requires.met c.requires.ready in
    at.item

pub define-requires-clause-met : goal.define-requires-clause-met
define-requires-clause-met g c =
    let shape = g.P.Part.shape in
    let known = g.P.Part.known in
    let inside = c.self.inside in
    let unit = c.args.unit in
    let place = c.args.place.now in
    let bytes = c.args.bytes.now in
    let a = g.B.Blocks.seen c.args.blocks.now in
    let laid = c.index_mut.result.now in
    let v : StoreNow = record {
      log = inside.log;
      undo = inside.undo;
      parts = map (part_now shape known) inside.parts.items;
      changed = map changed_by inside.changed.items;
      space = inside.space;
    } in
    let catalog = part_now shape known laid in
    let found = laid-found shape known inside.parts.items 0 c.deref.result.now
    c.index_of.result v.parts c.deref.ensures.value refl c.index_of.ensures c.in-Some.at
    c.in-Some.is laid c.index_mut.ensures.value in
    let at = catalog-at g.B.Blocks.tells (λ s. IsEntryReady s place bytes a) v c.args.self.now
    c.self.view_is place bytes a catalog found c.requires.set c.requires.place c.requires.item
    c.requires.met c.requires.ready in
    at.met

pub define-requires-clause-rests : goal.define-requires-clause-rests
define-requires-clause-rests g c told =
    let shape = g.P.Part.shape in
    let known = g.P.Part.known in
    let inside = c.self.inside in
    let unit = c.args.unit in
    let place = c.args.place.now in
    let bytes = c.args.bytes.now in
    let a = g.B.Blocks.seen c.args.blocks.now in
    let laid = c.index_mut.result.now in
    let v : StoreNow = record {
      log = inside.log;
      undo = inside.undo;
      parts = map (part_now shape known) inside.parts.items;
      changed = map changed_by inside.changed.items;
      space = inside.space;
    } in
    let catalog = part_now shape known laid in
    let found = laid-found shape known inside.parts.items 0 c.deref.result.now
    c.index_of.result v.parts c.deref.ensures.value refl c.index_of.ensures c.in-Some.at
    c.in-Some.is laid c.index_mut.ensures.value in
    let at = catalog-at g.B.Blocks.tells (λ s. IsEntryReady s place bytes a) v c.args.self.now
    c.self.view_is place bytes a catalog found c.requires.set c.requires.place c.requires.item
    c.requires.met c.requires.ready in
    (at.ready told).rests

pub define-requires-clause-room : goal.define-requires-clause-room
define-requires-clause-room g c told =
    let shape = g.P.Part.shape in
    let known = g.P.Part.known in
    let inside = c.self.inside in
    let unit = c.args.unit in
    let place = c.args.place.now in
    let bytes = c.args.bytes.now in
    let a = g.B.Blocks.seen c.args.blocks.now in
    let laid = c.index_mut.result.now in
    let v : StoreNow = record {
      log = inside.log;
      undo = inside.undo;
      parts = map (part_now shape known) inside.parts.items;
      changed = map changed_by inside.changed.items;
      space = inside.space;
    } in
    let catalog = part_now shape known laid in
    let found = laid-found shape known inside.parts.items 0 c.deref.result.now
    c.index_of.result v.parts c.deref.ensures.value refl c.index_of.ensures c.in-Some.at
    c.in-Some.is laid c.index_mut.ensures.value in
    let at = catalog-at g.B.Blocks.tells (λ s. IsEntryReady s place bytes a) v c.args.self.now
    c.self.view_is place bytes a catalog found c.requires.set c.requires.place c.requires.item
    c.requires.met c.requires.ready in
    subst (λ (n : PartNo). HasKeptRoom catalog.shape (lengths_kept (images_in v.undo) n.0) a)
    (sym at.number) (at.ready told).room

pub define-requires-clause-knows : goal.define-requires-clause-knows
define-requires-clause-knows g c told =
    let shape = g.P.Part.shape in
    let known = g.P.Part.known in
    let inside = c.self.inside in
    let unit = c.args.unit in
    let place = c.args.place.now in
    let bytes = c.args.bytes.now in
    let a = g.B.Blocks.seen c.args.blocks.now in
    let laid = c.index_mut.result.now in
    let v : StoreNow = record {
      log = inside.log;
      undo = inside.undo;
      parts = map (part_now shape known) inside.parts.items;
      changed = map changed_by inside.changed.items;
      space = inside.space;
    } in
    let catalog = part_now shape known laid in
    let found = laid-found shape known inside.parts.items 0 c.deref.result.now
    c.index_of.result v.parts c.deref.ensures.value refl c.index_of.ensures c.in-Some.at
    c.in-Some.is laid c.index_mut.ensures.value in
    let at = catalog-at g.B.Blocks.tells (λ s. IsEntryReady s place bytes a) v c.args.self.now
    c.self.view_is place bytes a catalog found c.requires.set c.requires.place c.requires.item
    c.requires.met c.requires.ready in
    (at.ready told).knows

pub define-requires-clause-can : goal.define-requires-clause-can
define-requires-clause-can g c told =
    let shape = g.P.Part.shape in
    let known = g.P.Part.known in
    let inside = c.self.inside in
    let unit = c.args.unit in
    let place = c.args.place.now in
    let bytes = c.args.bytes.now in
    let a = g.B.Blocks.seen c.args.blocks.now in
    let laid = c.index_mut.result.now in
    let v : StoreNow = record {
      log = inside.log;
      undo = inside.undo;
      parts = map (part_now shape known) inside.parts.items;
      changed = map changed_by inside.changed.items;
      space = inside.space;
    } in
    let catalog = part_now shape known laid in
    let found = laid-found shape known inside.parts.items 0 c.deref.result.now
    c.index_of.result v.parts c.deref.ensures.value refl c.index_of.ensures c.in-Some.at
    c.in-Some.is laid c.index_mut.ensures.value in
    let at = catalog-at g.B.Blocks.tells (λ s. IsEntryReady s place bytes a) v c.args.self.now
    c.self.view_is place bytes a catalog found c.requires.set c.requires.place c.requires.item
    c.requires.met c.requires.ready in
    subst (λ (n : PartNo). CanSet catalog.shape catalog.known a.cur
    (lengths_kept (images_in v.undo) n.0) place (Some bytes)) (sym at.number)
    (at.ready told).can

pub returns-in_err-define-in-Some-clause-moments : goal.returns-in_err-define-in-Some-clause-moments
returns-in_err-define-in-Some-clause-moments g c told volume old new begun =
    let shape = g.P.Part.shape in
    let known = g.P.Part.known in
    let inside = c.self.inside in
    let unit = c.args.unit in
    let place = c.args.place.now in
    let bytes = c.args.bytes.now in
    let a = g.B.Blocks.seen c.args.blocks.now in
    let laid = c.index_mut.result.now in
    let v : StoreNow = record {
      log = inside.log;
      undo = inside.undo;
      parts = map (part_now shape known) inside.parts.items;
      changed = map changed_by inside.changed.items;
      space = inside.space;
    } in
    let catalog = part_now shape known laid in
    let found = laid-found shape known inside.parts.items 0 c.deref.result.now
    c.index_of.result v.parts c.deref.ensures.value refl c.index_of.ensures c.in-Some.at
    c.in-Some.is laid c.index_mut.ensures.value in
    let is-set = subst (λ (s : StoreNow). IsSet s a) (sym c.self.view_is) c.requires.set in
    let b = g.B.Blocks.seen c.define.new.blocks in
    let by = subst (λ (s : StoreNow). IsBegun volume s unit place bytes old new a)
    (sym c.self.view_is) begun in
    subst (λ (s : StoreNow). Guards a b (λ image. RecoversTo s.log.geometry volume old [] image
    ⊎ RecoversTo s.log.geometry volume new [] image)) c.self.view_is
    (c.define.ensures.any_moment told volume (owners_of v) old new (images_in v.undo) by.added.shape
    by.added.known (entry_need v.log unit place) by.stored.volume
    (catalog-rested volume v unit place bytes old new a is-set by catalog found) by.can by.started
    by.defined (kept-same volume v unit place bytes old new a is-set by catalog found))

pub returns-clause-moments : goal.returns-clause-moments
returns-clause-moments g c told volume old new begun =
    let shape = g.P.Part.shape in
    let known = g.P.Part.known in
    let inside = c.self.inside in
    let unit = c.args.unit in
    let place = c.args.place.now in
    let bytes = c.args.bytes.now in
    let a = g.B.Blocks.seen c.args.blocks.now in
    let laid = c.index_mut.result.now in
    let v : StoreNow = record {
      log = inside.log;
      undo = inside.undo;
      parts = map (part_now shape known) inside.parts.items;
      changed = map changed_by inside.changed.items;
      space = inside.space;
    } in
    let catalog = part_now shape known laid in
    let found = laid-found shape known inside.parts.items 0 c.deref.result.now
    c.index_of.result v.parts c.deref.ensures.value refl c.index_of.ensures c.in-Some.at
    c.in-Some.is laid c.index_mut.ensures.value in
    let is-set = subst (λ (s : StoreNow). IsSet s a) (sym c.self.view_is) c.requires.set in
    let b = g.B.Blocks.seen c.define.new.blocks in
    let by = subst (λ (s : StoreNow). IsBegun volume s unit place bytes old new a)
    (sym c.self.view_is) begun in
    subst (λ (s : StoreNow). Guards a b (λ image. RecoversTo s.log.geometry volume old [] image
    ⊎ RecoversTo s.log.geometry volume new [] image)) c.self.view_is
    (c.define.ensures.any_moment told volume (owners_of v) old new (images_in v.undo) by.added.shape
    by.added.known (entry_need v.log unit place) by.stored.volume
    (catalog-rested volume v unit place bytes old new a is-set by catalog found) by.can by.started
    by.defined (kept-same volume v unit place bytes old new a is-set by catalog found))

pub returns-clause-defined : goal.returns-clause-defined
returns-clause-defined g c told volume old new begun small =
    let shape = g.P.Part.shape in
    let known = g.P.Part.known in
    let inside = c.self.inside in
    let unit = c.args.unit in
    let place = c.args.place.now in
    let bytes = c.args.bytes.now in
    let a = g.B.Blocks.seen c.args.blocks.now in
    let laid = c.index_mut.result.now in
    let v : StoreNow = record {
      log = inside.log;
      undo = inside.undo;
      parts = map (part_now shape known) inside.parts.items;
      changed = map changed_by inside.changed.items;
      space = inside.space;
    } in
    let catalog = part_now shape known laid in
    let found = laid-found shape known inside.parts.items 0 c.deref.result.now
    c.index_of.result v.parts c.deref.ensures.value refl c.index_of.ensures c.in-Some.at
    c.in-Some.is laid c.index_mut.ensures.value in
    let is-set = subst (λ (s : StoreNow). IsSet s a) (sym c.self.view_is) c.requires.set in
    let b = g.B.Blocks.seen c.define.new.blocks in
    let now = part_now shape known
    (record { number = laid.number; part = c.define.new.catalog }) in
    let parts = map (part_now shape known) (set inside.parts.items c.in-Some.at
    (record { number = laid.number; part = c.define.new.catalog })) in
    let into = laid-at shape known inside.parts.items 0 c.deref.result.now
    c.index_of.result v.parts c.deref.ensures.value refl c.index_of.ensures c.in-Some.at
    c.in-Some.is laid
    (record { number = laid.number; part = c.define.new.catalog }) c.index_mut.ensures.value in
    let ensured = c.in_ok-define-in-Some.ensures in
    let by = subst (λ (s : StoreNow). IsBegun volume s unit place bytes old new a)
    (sym c.self.view_is) begun in
    let below = subst (λ (s : StoreNow). s.log.generation + 1 < 2 ^ 63) (sym c.self.view_is) small in
    let rested = catalog-rested volume v unit place bytes old new a is-set by catalog found in
    let defined = subst (λ (rec : LogRecord). IsDefinedIn unit place bytes
    (need_of (live_in v.log.records) rec) old new) (sym c.requires.rec) by.defined in
    stored-entered volume v unit place bytes old new a is-set by catalog found b
    c.define.new.log parts now into refl ensured.part ensured.geometry
    (ensured.defined told volume (owners_of v) old new (images_in v.undo) by.added.shape
    by.added.known by.stored.volume rested by.can by.started defined
    (kept-same volume v unit place bytes old new a is-set by catalog found) below)
    (λ other known apart new-apart other-rested. ensured.others told volume (owners_of v) old new
    (images_in v.undo) by.added.shape (need_of (live_in v.log.records) c.args.rec.now) other known
    by.stored.volume rested by.can defined apart new-apart other-rested)
    (λ other known apart other-rested. ensured.others_due told volume (owners_of v)
    (images_in v.undo) old other known by.stored.volume rested apart other-rested)

pub returns-clause-set : goal.returns-clause-set
returns-clause-set g c =
    let shape = g.P.Part.shape in
    let known = g.P.Part.known in
    let inside = c.self.inside in
    let unit = c.args.unit in
    let place = c.args.place.now in
    let bytes = c.args.bytes.now in
    let a = g.B.Blocks.seen c.args.blocks.now in
    let laid = c.index_mut.result.now in
    let v : StoreNow = record {
      log = inside.log;
      undo = inside.undo;
      parts = map (part_now shape known) inside.parts.items;
      changed = map changed_by inside.changed.items;
      space = inside.space;
    } in
    let catalog = part_now shape known laid in
    let found = laid-found shape known inside.parts.items 0 c.deref.result.now
    c.index_of.result v.parts c.deref.ensures.value refl c.index_of.ensures c.in-Some.at
    c.in-Some.is laid c.index_mut.ensures.value in
    let is-set = subst (λ (s : StoreNow). IsSet s a) (sym c.self.view_is) c.requires.set in
    let b = g.B.Blocks.seen c.define.new.blocks in
    let now = part_now shape known
    (record { number = laid.number; part = c.define.new.catalog }) in
    let parts = map (part_now shape known) (set inside.parts.items c.in-Some.at
    (record { number = laid.number; part = c.define.new.catalog })) in
    let into = laid-at shape known inside.parts.items 0 c.deref.result.now
    c.index_of.result v.parts c.deref.ensures.value refl c.index_of.ensures c.in-Some.at
    c.in-Some.is laid
    (record { number = laid.number; part = c.define.new.catalog }) c.index_mut.ensures.value in
    let ensured = c.in_ok-define-in-Some.ensures in
    set-logged (record v { parts = parts }) c.define.new.log v.changed b ensured.geometry
    ensured.sound
    (idle-ended (with_record v.log c.args.rec.now) c.define.new.log unit Committed ensured.log)
    (set-unclaimed v 0 catalog now parts v.space into
    (ap (λ (s : Shape). part-split laid.number s None) ensured.part) a b ensured.count ensured.size
    (held-same catalog.shape catalog.known now.known ensured.areas ensured.moves) refl
    is-set).changed
    (set-unclaimed v 0 catalog now parts v.space into
    (ap (λ (s : Shape). part-split laid.number s None) ensured.part) a b ensured.count ensured.size
    (held-same catalog.shape catalog.known now.known ensured.areas ensured.moves) refl is-set)

pub returns-clause-parts : goal.returns-clause-parts
returns-clause-parts g c =
    let shape = g.P.Part.shape in
    let known = g.P.Part.known in
    let inside = c.self.inside in
    let unit = c.args.unit in
    let place = c.args.place.now in
    let bytes = c.args.bytes.now in
    let a = g.B.Blocks.seen c.args.blocks.now in
    let laid = c.index_mut.result.now in
    let v : StoreNow = record {
      log = inside.log;
      undo = inside.undo;
      parts = map (part_now shape known) inside.parts.items;
      changed = map changed_by inside.changed.items;
      space = inside.space;
    } in
    let catalog = part_now shape known laid in
    let found = laid-found shape known inside.parts.items 0 c.deref.result.now
    c.index_of.result v.parts c.deref.ensures.value refl c.index_of.ensures c.in-Some.at
    c.in-Some.is laid c.index_mut.ensures.value in
    let is-set = subst (λ (s : StoreNow). IsSet s a) (sym c.self.view_is) c.requires.set in
    let b = g.B.Blocks.seen c.define.new.blocks in
    let now = part_now shape known
    (record { number = laid.number; part = c.define.new.catalog }) in
    let parts = map (part_now shape known) (set inside.parts.items c.in-Some.at
    (record { number = laid.number; part = c.define.new.catalog })) in
    let into = laid-at shape known inside.parts.items 0 c.deref.result.now
    c.index_of.result v.parts c.deref.ensures.value refl c.index_of.ensures c.in-Some.at
    c.in-Some.is laid
    (record { number = laid.number; part = c.define.new.catalog }) c.index_mut.ensures.value in
    let ensured = c.in_ok-define-in-Some.ensures in
    subst (λ (s : StoreNow). IsMetAt 0 s.parts parts) c.self.view_is
    (record {
      before = catalog;
      after = now;
      found = into.found;
      is = into.is;
      same = same-met laid.number catalog.shape now.shape catalog.known now.known ensured.part
          ensured.split ensured.moves ensured.areas ensured.used;
    })

pub unreachable-requires : goal.unreachable-requires
unreachable-requires g c =
    c.requires.catalog (none-laid g.P.Part.shape g.P.Part.known c.self.inside.parts.items 0
    c.deref.result.now c.index_of.result c.args.self.now.parts c.deref.ensures.value
    (ap (λ (s : StoreNow). s.parts) c.self.view_is) c.index_of.ensures c.in-None.is)
