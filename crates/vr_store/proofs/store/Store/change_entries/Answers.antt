-- A change of an entry: where there is no memory for the record of the log nothing is touched; once
-- the record of the catalog is changed, the part that goes is let go.
use Rattle.std.proofs.Common.{[], All, ap, inl, subst, sym, ◌∙◌}
use Rattle.vr_types.proofs.CallerLemmas.{guards-weaken}
use Rattle.vr_log.specs.Records.{HasLengths}
use Rattle.vr_volume.specs.Crashes.{RecoversTo}
use Rattle.vr_store.specs.Store.{IsSet, IsStored, StoreNow}
use Rattle.vr_store.proofs.ChangedEntries.{changes-ready}
use Rattle.vr_store.proofs.Definitions.{Either}
use Rattle.vr_store.proofs.EntryAreas.{set-left}
use Rattle.vr_store.proofs.EntryParts.{parts-met, shapes-met}
use Rattle.vr_store.proofs.Idle.{idle-guards}
use Rattle.vr_store.proofs.ManyChanges.{all-short}
use Rattle.vr_store.proofs.store.Store.change_entries.Goals as goal

pub returns-in_err-add_records-clause-moments : goal.returns-in_err-add_records-clause-moments
returns-in_err-add_records-clause-moments g c told volume old new is =
    let store = c.args.self.now in
    let now = g.B.Blocks.seen c.args.blocks.now in
    guards-weaken now now (RecoversTo store.log.geometry volume old [])
    (Either store volume old new)
    (idle-guards volume store old now is.stored
    (λ image there. g.met.B.Blocks.images_may c.args.blocks.now image told there))
    (λ image recovers. inl recovers)

pub returns-in_err-keep_all-clause-moments : goal.returns-in_err-keep_all-clause-moments
returns-in_err-keep_all-clause-moments g c told volume old new is =
    let store = c.args.self.now in
    let now = g.B.Blocks.seen c.args.blocks.now in
    guards-weaken now now (RecoversTo store.log.geometry volume old [])
    (Either store volume old new)
    (idle-guards volume store old now is.stored
    (λ image there. g.met.B.Blocks.images_may c.args.blocks.now image told there))
    (λ image recovers. inl recovers)

pub change_records-requires-clause-ready : goal.change_records-requires-clause-ready
change_records-requires-clause-ready g c told = changes-ready c.args.self.now
    (g.B.Blocks.seen c.args.blocks.now) c.requires.set c.requires.idle c.args.unit
    c.args.changes.now (c.requires.stands told) (c.requires.can told) c.requires.catalog

pub returns-in-Ok-clause-done : goal.returns-in-Ok-clause-done
returns-in-Ok-clause-done g c told volume old new is below =
    subst (λ (s : StoreNow). IsStored volume s new (g.B.Blocks.seen c.change_records.new.blocks))
    (sym c.let_go.ensures)
    (c.in-Ok.ensures.done told volume c.args.gone old new is below)

pub returns-in-Ok-clause-moments : goal.returns-in-Ok-clause-moments
returns-in-Ok-clause-moments g c told volume old new is =
    c.change_records.ensures.moments told volume c.args.gone old new is

pub returns-in-Err-Full-clause-moments : goal.returns-in-Err-Full-clause-moments
returns-in-Err-Full-clause-moments g c told volume old new is =
    c.change_records.ensures.moments told volume c.args.gone old new is

pub returns-clause-moments : goal.returns-clause-moments
returns-clause-moments g c told volume old new is =
    c.change_records.ensures.moments told volume c.args.gone old new is

pub returns-in-Ok-clause-set : goal.returns-in-Ok-clause-set
returns-in-Ok-clause-set g c =
    let now = g.B.Blocks.seen c.change_records.new.blocks in
    subst (λ (s : StoreNow). IsSet s now) (sym c.let_go.ensures)
    (set-left c.change_records.new.self now c.in-Ok.ensures.set c.args.gone)

pub returns-in-Ok-clause-parts : goal.returns-in-Ok-clause-parts
returns-in-Ok-clause-parts g c = parts-met c.args.gone c.args.self.now.parts
    c.change_records.new.self.parts c.let_go.new.self.parts c.in-Ok.ensures.parts
    (ap (λ (s : StoreNow). s.parts) c.let_go.ensures)

pub returns-in-Ok-clause-shapes : goal.returns-in-Ok-clause-shapes
returns-in-Ok-clause-shapes g c = shapes-met c.args.gone c.args.self.now.parts
    c.let_go.new.self.parts
    (parts-met c.args.gone c.args.self.now.parts c.change_records.new.self.parts
    c.let_go.new.self.parts c.in-Ok.ensures.parts
    (ap (λ (s : StoreNow). s.parts) c.let_go.ensures))

pub change_records-requires-clause-lengths : goal.change_records-requires-clause-lengths
change_records-requires-clause-lengths g c =
    subst (All HasLengths) (sym (c.deref.ensures.value ∙ c.in_ok-add_records.ensures))
    (all-short c.args.unit c.args.changes.now c.requires.lengths)

pub returns-in-Err-Read-clause-moments : goal.returns-in-Err-Read-clause-moments
returns-in-Err-Read-clause-moments g c told volume old new is =
    c.change_records.ensures.moments told volume c.args.gone old new is
