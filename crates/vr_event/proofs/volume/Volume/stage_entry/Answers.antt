use Rattle.std.proofs.Common.{◌≡◌, ◌≢◌, ◌<◌, ◌∙◌, [], None, ap, refl, subst, sym}
use Rattle.std.specs.Prelude.{IfOk, IfSome, Result}
use Rattle.std.proofs.lemmas.Option.{none-some}
use Rattle.vr_types.specs.Moments.{Guards}
use Rattle.vr_types.specs.declared.fault.DeviceFault.{DeviceFault}
use Rattle.vr_types.specs.declared.fault.DeviceFault.TheVariants.{Read, Write}
use Rattle.vr_types.specs.declared.unit.StageKind.{StageKind}
use Rattle.vr_attach.specs.Owning.{claimed_by, owner_of}
use Rattle.vr_space.specs.Part.{IsStageOf, Shape}
use Rattle.vr_record_file.specs.Now.{FileNow, state_now}
use Rattle.vr_volume.specs.Crashes.{RecoversTo}
use Rattle.vr_store.specs.Left.{left_for}
use Rattle.vr_store.specs.Store.{StoreNow, part_among, shape_among}
use Rattle.vr_store.proofs.CallerLemmas.{shapes-same}
use Rattle.vr_event.specs.Defining.{catalog_part}
use Rattle.vr_event.specs.Nearer.{CountsSplits, LeavesLess}
use Rattle.vr_event.specs.Volume.{Holds, IsHeld, IsWhole, VolumeNow}
use Rattle.vr_event.specs.declared.define.Define.TheVariants as defines
use Rattle.vr_event.proofs.CatalogPart.{catalog-there}
use Rattle.vr_event.proofs.CountedSplits.{keeps-stored, splits-none}
use Rattle.vr_event.proofs.Recovering.{owned-recovers}
use Rattle.vr_event.proofs.SplitCounts.{counts-staged}
use Rattle.vr_event.proofs.Staged.{owners-claimed, shape-some, staged-of}
use Rattle.vr_event.proofs.UtilitySteps.{fault-define, less-stopped}
use Rattle.vr_event.proofs.Wholes.{held-moved, whole-of}
use Rattle.vr_event.proofs.volume.Volume.stage_entry.Goals as goal

pub advance-requires-clause-part : goal.advance-requires-clause-part
advance-requires-clause-part g c =
    let seen = g.B.Blocks.seen in
    let before : VolumeNow g.row.B.Denot = record {
      blocks = c.self.inside.blocks;
      number = c.self.inside.number;
      store = c.self.inside.store;
      file = c.self.inside.file;
    } in
    let goes : before.file.stopped ≡ None =
    ap (λ (v : VolumeNow g.row.B.Denot). v.file.stopped) c.self.view_is ∙ c.requires.going in
    catalog-there before.store.parts before.file.geometry
    ((subst (IsWhole seen) (sym c.self.view_is) c.requires.whole).laid goes 0)

pub returns-in-Ok-clause-moments : goal.returns-in-Ok-clause-moments
returns-in-Ok-clause-moments g c told opening held =
    let seen = g.B.Blocks.seen in
    let before : VolumeNow g.row.B.Denot = record {
      blocks = c.self.inside.blocks;
      number = c.self.inside.number;
      store = c.self.inside.store;
      file = c.self.inside.file;
    } in
    let goes : before.file.stopped ≡ None =
    ap (λ (v : VolumeNow g.row.B.Denot). v.file.stopped) c.self.view_is ∙ c.requires.going in
    let was : IsHeld seen opening before =
    subst (IsHeld seen opening) (sym c.self.view_is) held in
    let state = state_now opening before.file in
    subst (λ (v : VolumeNow g.row.B.Denot). Guards (seen v.blocks)
    (seen c.enter_stage.new.self.blocks)
    (RecoversTo v.store.log.geometry v.number (state_now opening v.file) [])) c.self.view_is
    (subst (λ (b : g.row.B.Denot). Guards (seen before.blocks) (seen b)
    (RecoversTo before.store.log.geometry before.number state []))
    (sym c.enter_stage.ensures.blocks)
    (owned-recovers before.number before.store state (seen before.blocks)
    (seen c.advance.new.blocks)
    (owner_of before.store.log.geometry (claimed_by catalog_part before.store.space))
    (was.stored goes)
    (c.advance.ensures.moments told before.number state (was.stored goes))))

pub returns-in-Err-Read-clause-moments : goal.returns-in-Err-Read-clause-moments
returns-in-Err-Read-clause-moments g c told opening held =
    let seen = g.B.Blocks.seen in
    let before : VolumeNow g.row.B.Denot = record {
      blocks = c.self.inside.blocks;
      number = c.self.inside.number;
      store = c.self.inside.store;
      file = c.self.inside.file;
    } in
    let goes : before.file.stopped ≡ None =
    ap (λ (v : VolumeNow g.row.B.Denot). v.file.stopped) c.self.view_is ∙ c.requires.going in
    let was : IsHeld seen opening before =
    subst (IsHeld seen opening) (sym c.self.view_is) held in
    subst (λ (v : VolumeNow g.row.B.Denot). Guards (seen v.blocks) (seen c.advance.new.blocks)
    (RecoversTo v.store.log.geometry v.number (state_now opening v.file) [])) c.self.view_is
    (owned-recovers before.number before.store (state_now opening before.file) (seen before.blocks)
    (seen c.advance.new.blocks)
    (owner_of before.store.log.geometry (claimed_by catalog_part before.store.space))
    (was.stored goes) (c.advance.ensures.moments told before.number
    (state_now opening before.file) (was.stored goes)))

pub returns-in-Ok-clause-whole : goal.returns-in-Ok-clause-whole
returns-in-Ok-clause-whole g c =
    let seen = g.B.Blocks.seen in
    let before : VolumeNow g.row.B.Denot = record {
      blocks = c.self.inside.blocks;
      number = c.self.inside.number;
      store = c.self.inside.store;
      file = c.self.inside.file;
    } in
    let goes : before.file.stopped ≡ None =
    ap (λ (v : VolumeNow g.row.B.Denot). v.file.stopped) c.self.view_is ∙ c.requires.going in
    let whole : IsWhole seen before = subst (IsWhole seen) (sym c.self.view_is) c.requires.whole in
    c.enter_stage.ensures.whole
    (whole-of seen before c.advance.new.self c.advance.new.blocks before.file whole (λ going. goes)
    refl refl
    (λ going. ap (λ (s : StoreNow). s.log.geometry) c.advance.ensures.rest)
    (λ going. shapes-same c.advance.new.self.parts before.store.parts
    c.advance.ensures.parts.parts)
    (λ going. c.advance.ensures.set))

pub returns-in-Err-Read-clause-whole : goal.returns-in-Err-Read-clause-whole
returns-in-Err-Read-clause-whole g c =
    let seen = g.B.Blocks.seen in
    let before : VolumeNow g.row.B.Denot = record {
      blocks = c.self.inside.blocks;
      number = c.self.inside.number;
      store = c.self.inside.store;
      file = c.self.inside.file;
    } in
    let goes : before.file.stopped ≡ None =
    ap (λ (v : VolumeNow g.row.B.Denot). v.file.stopped) c.self.view_is ∙ c.requires.going in
    let whole : IsWhole seen before = subst (IsWhole seen) (sym c.self.view_is) c.requires.whole in
    whole-of seen before c.advance.new.self c.advance.new.blocks before.file whole (λ going. goes)
    refl refl
    (λ going. ap (λ (s : StoreNow). s.log.geometry) c.advance.ensures.rest)
    (λ going. shapes-same c.advance.new.self.parts before.store.parts
    c.advance.ensures.parts.parts)
    (λ going. c.advance.ensures.set)

pub returns-in-Ok-clause-held : goal.returns-in-Ok-clause-held
returns-in-Ok-clause-held g c told opening held =
    let seen = g.B.Blocks.seen in
    let before : VolumeNow g.row.B.Denot = record {
      blocks = c.self.inside.blocks;
      number = c.self.inside.number;
      store = c.self.inside.store;
      file = c.self.inside.file;
    } in
    let goes : before.file.stopped ≡ None =
    ap (λ (v : VolumeNow g.row.B.Denot). v.file.stopped) c.self.view_is ∙ c.requires.going in
    let was : IsHeld seen opening before =
    subst (IsHeld seen opening) (sym c.self.view_is) held in
    let whole : IsWhole seen before = subst (IsWhole seen) (sym c.self.view_is) c.requires.whole in
    let laid : part_among before.store.parts 0 ≢ None =
    catalog-there before.store.parts before.file.geometry (whole.laid goes 0) in
    c.enter_stage.ensures.held told opening before.store.space
    (staged-of seen opening before c.advance.new.self c.advance.new.blocks catalog_part
    c.area_taken-taken.result whole goes was
    (shape-some before.store.parts 0 laid)
    (c.area_taken-taken.ensures catalog_part before.store.space c.advance.new.self.space
    c.least_free-least.ensures c.free_areas-free.ensures c.free_areas.ensures
    (owners-claimed catalog_part c.in-Ok.kind before.store.space c.advance.new.self.space
    c.in-Ok.ensures.owners))
    (c.in-Ok.ensures.stored told before.number (state_now opening before.file) (was.stored goes)))

pub returns-in-Err-Read-clause-held : goal.returns-in-Err-Read-clause-held
returns-in-Err-Read-clause-held g c told opening held =
    let seen = g.B.Blocks.seen in
    let before : VolumeNow g.row.B.Denot = record {
      blocks = c.self.inside.blocks;
      number = c.self.inside.number;
      store = c.self.inside.store;
      file = c.self.inside.file;
    } in
    let was : IsHeld seen opening before =
    subst (IsHeld seen opening) (sym c.self.view_is) held in
    held-moved seen opening before c.advance.new.self c.advance.new.blocks
    c.in-Err-Read.ensures.owners_stay
    (λ going. (c.in-Err-Read.ensures.unread c.in-Err-Read.field-0-is).1 told before.number
    (state_now opening before.file) (was.stored going)) was

pub returns-in-Err-Write-clause-moments : goal.returns-in-Err-Write-clause-moments
returns-in-Err-Write-clause-moments g c told opening held =
    let seen = g.B.Blocks.seen in
    let before : VolumeNow g.row.B.Denot = record {
      blocks = c.self.inside.blocks;
      number = c.self.inside.number;
      store = c.self.inside.store;
      file = c.self.inside.file;
    } in
    let goes : before.file.stopped ≡ None =
    ap (λ (v : VolumeNow g.row.B.Denot). v.file.stopped) c.self.view_is ∙ c.requires.going in
    let was : IsHeld seen opening before =
    subst (IsHeld seen opening) (sym c.self.view_is) held in
    let state = state_now opening before.file in
    subst (λ (v : VolumeNow g.row.B.Denot). Guards (seen v.blocks)
    (seen c.enter_fault.new.self.blocks)
    (RecoversTo v.store.log.geometry v.number (state_now opening v.file) [])) c.self.view_is
    (subst (λ (b : g.row.B.Denot). Guards (seen before.blocks) (seen b)
    (RecoversTo before.store.log.geometry before.number state []))
    (sym c.enter_fault.ensures.blocks)
    (owned-recovers before.number before.store state (seen before.blocks)
    (seen c.advance.new.blocks)
    (owner_of before.store.log.geometry (claimed_by catalog_part before.store.space))
    (was.stored goes)
    (c.advance.ensures.moments told before.number state (was.stored goes))))

pub returns-in-Ok-clause-less : goal.returns-in-Ok-clause-less
returns-in-Ok-clause-less g c told =
    let seen = g.B.Blocks.seen in
    let before : VolumeNow g.row.B.Denot = record {
      blocks = c.self.inside.blocks;
      number = c.self.inside.number;
      store = c.self.inside.store;
      file = c.self.inside.file;
    } in
    let final = c.enter_stage.new.self in
    subst (λ (v : VolumeNow g.row.B.Denot). LeavesLess (defines.Again ≡ defines.Again) v final)
    c.self.view_is (record {
      nearer = λ again unit. subst (λ (s : StoreNow). left_for unit s < left_for unit before.store)
          (sym c.enter_stage.ensures.store) (c.in-Ok.ensures.nearer told unit);
      splits = λ going. subst (λ (s : StoreNow).
          CountsSplits before.store s before.file.entries final.file.entries)
          (sym c.enter_stage.ensures.store)
          (counts-staged catalog_part c.in-Ok.kind before.store c.advance.new.self before.file
          final.file.entries c.args.after c.args.unit c.args.line c.splits_interval.result
          c.area_taken-taken.result (c.in-Ok.ensures.more told) c.advance.ensures.parts
          (catalog-there before.store.parts before.file.geometry
          ((subst (IsWhole seen) (sym c.self.view_is) c.requires.whole).laid
          (ap (λ (v : VolumeNow g.row.B.Denot). v.file.stopped) c.self.view_is
          ∙ c.requires.going) 0))
          (subst (λ (r : Result StageKind DeviceFault). IfSome (shape_among before.store.parts 0)
          (λ (shape : Shape). IfOk r (IsStageOf shape))) c.in-Ok.is
          (c.advance.ensures.kind told))
          c.in-Ok.ensures.owners
          (c.area_taken-taken.ensures catalog_part before.store.space c.advance.new.self.space
          c.least_free-least.ensures c.free_areas-free.ensures c.free_areas.ensures
          (owners-claimed catalog_part c.in-Ok.kind before.store.space c.advance.new.self.space
          c.in-Ok.ensures.owners))
          c.splits_interval.ensures.yes c.splits_interval.ensures.no
          (ap (λ (f : FileNow). f.entries) c.enter_stage.ensures.leaves));
    })

pub returns-in-Err-Read-clause-less : goal.returns-in-Err-Read-clause-less
returns-in-Err-Read-clause-less g c told =
    let seen = g.B.Blocks.seen in
    let before : VolumeNow g.row.B.Denot = record {
      blocks = c.self.inside.blocks;
      number = c.self.inside.number;
      store = c.self.inside.store;
      file = c.self.inside.file;
    } in
    let goes : before.file.stopped ≡ None =
    ap (λ (v : VolumeNow g.row.B.Denot). v.file.stopped) c.self.view_is ∙ c.requires.going in
    let holds : Holds seen before = subst (Holds seen) (sym c.self.view_is)
    (c.requires.holds told) in
    let stored = holds.held.stored goes in
    let unread = c.in-Err-Read.ensures.unread c.in-Err-Read.field-0-is in
    subst (λ (v : VolumeNow g.row.B.Denot). LeavesLess (defines.Fault Read ≡ defines.Again) v
    (record before { blocks = c.advance.new.blocks; store = c.advance.new.self })) c.self.view_is
    (record {
      nearer = λ is. absurd (fault-define Read is);
      splits = splits-none before
          (record before { blocks = c.advance.new.blocks; store = c.advance.new.self })
          (λ going. keeps-stored before.number before.store c.advance.new.self
          (state_now holds.opening before.file) (seen before.blocks) (seen c.advance.new.blocks)
          c.advance.ensures.parts.parts (unread.0.content told) stored
          (unread.1 told before.number (state_now holds.opening before.file) stored))
          (λ n. refl);
    })

pub returns-in-Err-Write-clause-less : goal.returns-in-Err-Write-clause-less
returns-in-Err-Write-clause-less g c told = less-stopped (defines.Fault Write ≡ defines.Again)
    c.args.self.now c.enter_fault.new.self (fault-define Write)
    (λ going. none-some _ (sym going
    ∙ ap (λ (f : FileNow). f.stopped) c.enter_fault.ensures.leaves))
