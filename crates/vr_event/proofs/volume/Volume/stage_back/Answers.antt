use Rattle.std.proofs.Common.{Bool, None, ap, arith, refl, subst, sym, ◌∙◌, ◌≡◌, []}
use Rattle.vr_types.specs.Moments.{Guards}
use Rattle.vr_record_file.specs.Now.{FileNow, state_now}
use Rattle.vr_volume.specs.Crashes.{RecoversTo}
use Rattle.vr_event.specs.Acting.{IsActed}
use Rattle.vr_event.specs.EndedFile.{IsEnding}
use Rattle.vr_event.specs.declared.act.Act.TheVariants as acts
use Rattle.vr_store.specs.LastImage.{last_claimed}
use Rattle.vr_event.specs.Volume.{IsHeld, IsWhole, VolumeNow}
use Rattle.vr_event.proofs.Asking.{read-asked, write-asked}
use Rattle.vr_event.proofs.Acts.{acted-again}
use Rattle.vr_event.proofs.Recovering.{owned-recovers}
use Rattle.vr_event.proofs.Staged.{last-claimed, last-laid, last-shape, staged-of}
use Rattle.vr_event.proofs.Staged.{stepped-entered}
use Rattle.vr_event.proofs.Stepped.{known-with}
use Rattle.vr_event.proofs.Wholes.{held-moved}
use Rattle.std.proofs.Common.{◌<◌, inl, Some}
use Rattle.vr_store.specs.Store.{StoreNow}
use Rattle.vr_store.specs.Left.{left_for}
use Rattle.std.specs.Prelude.{option_map}
use Rattle.vr_types.specs.Space.{free_count}
use Rattle.vr_history.specs.State.{BeforeImage}
use Rattle.vr_store.specs.Parts.{HasMoreAt, OnlySplit}
use Rattle.vr_store.specs.LastImage.{IsDueAtLast, last_of_unit, stage_told}
use Rattle.vr_event.specs.Nearer.{CountsSplits, EntersSplits, HasKeyed}
use Rattle.vr_event.proofs.CountedSplits.{KeepsUsed, adds-told, at-last, counts-stage, keeps-stored}
use Rattle.vr_event.proofs.CountedSplits.{no-reads, one-read, splits-answered}
use Rattle.vr_event.proofs.DueSplits.{last-keyed}
use Rattle.vr_event.proofs.SplitCounts.{split_entered}
use Rattle.vr_event.proofs.volume.Volume.stage_back.Goals as goal

pub returns-in-Ok-clause-held : goal.returns-in-Ok-clause-held
returns-in-Ok-clause-held g c told opening held ending =
    let seen = g.B.Blocks.seen in
    let before : VolumeNow g.row.B.Denot = record {
      blocks = c.self.inside.blocks;
      number = c.self.inside.number;
      store = c.self.inside.store;
      file = c.self.inside.file;
    } in
    let was : IsHeld seen opening before =
    subst (IsHeld seen opening) (sym c.self.view_is) held in
    let going : before.file.stopped ≡ None =
    ap (λ (v : VolumeNow g.row.B.Denot). v.file.stopped) c.self.view_is ∙ c.requires.going in
    let whole : IsWhole seen before = subst (IsWhole seen) (sym c.self.view_is) c.requires.whole in
    let there = last-shape before.store (seen before.blocks) c.args.unit (whole.set going) in
    let part = c.last_of-part.result in
    let numbers : Some part.0
    ≡ option_map (λ (last : BeforeImage). last.part) (last_of_unit before.store c.args.unit) =
    sym (ap (λ (v : VolumeNow g.row.B.Denot). option_map (λ (last : BeforeImage). last.part)
    (last_of_unit v.store c.args.unit)) c.self.view_is ∙ c.last_of-part.ensures) in
    let claimed = last-claimed before.store c.args.unit (Some part) part
    c.advance_last.new.self.space refl numbers there (c.in-Ok.ensures.owners told) in
    c.enter_stage.ensures.held told opening before.store.space
    (staged-of seen opening before c.advance_last.new.self c.advance_last.new.blocks part
    c.area_taken-taken.result whole going was
    (last-laid before.store c.args.unit (Some part) part refl numbers there)
    (c.area_taken-taken.ensures part before.store.space c.advance_last.new.self.space
    c.least_free-least.ensures c.free_areas-free.ensures c.free_areas.ensures claimed)
    (c.in-Ok.ensures.stored told before.number (state_now opening before.file) (was.stored going)))

pub returns-in-Ok-clause-moments : goal.returns-in-Ok-clause-moments
returns-in-Ok-clause-moments g c told opening held =
    let seen = g.B.Blocks.seen in
    let before : VolumeNow g.row.B.Denot = record {
      blocks = c.self.inside.blocks;
      number = c.self.inside.number;
      store = c.self.inside.store;
      file = c.self.inside.file;
    } in
    let was : IsHeld seen opening before =
    subst (IsHeld seen opening) (sym c.self.view_is) held in
    let going : before.file.stopped ≡ None =
    ap (λ (v : VolumeNow g.row.B.Denot). v.file.stopped) c.self.view_is ∙ c.requires.going in
    let state = state_now opening before.file in
    let stored = was.stored going in
    subst (λ (v : VolumeNow g.row.B.Denot). Guards (seen v.blocks)
    (seen c.enter_stage.new.self.blocks)
    (RecoversTo v.store.log.geometry v.number (state_now opening v.file) [])) c.self.view_is
    (subst (λ (b : g.row.B.Denot). Guards (seen before.blocks) (seen b)
    (RecoversTo before.store.log.geometry before.number state [])) (sym c.enter_stage.ensures.blocks)
    (owned-recovers before.number before.store state (seen before.blocks)
    (seen c.advance_last.new.blocks) (last_claimed before.store c.args.unit) stored
    (c.advance_last.ensures.moments told before.number state stored)))

pub returns-in-Ok-clause-acted : goal.returns-in-Ok-clause-acted
returns-in-Ok-clause-acted g c =
    let faults = g.B.Blocks.faults in
    let cause = c.in-Ok.ensures.cause in
    subst (λ (v : VolumeNow g.row.B.Denot). IsActed (faults v.blocks)
    (faults c.enter_stage.new.self.blocks) (acts.Again c.args.request) c.args.after c.args.unit
    c.args.line c.args.request v.file c.enter_stage.new.self.file) c.self.view_is
    (subst (λ (b : g.row.B.Denot). IsActed (faults c.self.inside.blocks) (faults b)
    (acts.Again c.args.request) c.args.after c.args.unit c.args.line c.args.request
    c.self.inside.file c.enter_stage.new.self.file) (sym c.enter_stage.ensures.blocks)
    (acted-again cause.ok
    (stepped-entered c.args.after c.args.unit c.args.line c.last_of-part.result c.self.inside.file
    c.enter_stage.new.self.file c.args.request _ _ c.enter_stage.ensures.leaves)))

pub returns-in-Err-Read-clause-held : goal.returns-in-Err-Read-clause-held
returns-in-Err-Read-clause-held g c told opening held ending =
    let seen = g.B.Blocks.seen in
    let before : VolumeNow g.row.B.Denot = record {
      blocks = c.self.inside.blocks;
      number = c.self.inside.number;
      store = c.self.inside.store;
      file = c.self.inside.file;
    } in
    let was : IsHeld seen opening before =
    subst (IsHeld seen opening) (sym c.self.view_is) held in
    let mid : VolumeNow g.row.B.Denot =
    record before { blocks = c.advance_last.new.blocks; store = c.advance_last.new.self } in
    let mine : IsEnding opening before.file c.args.unit c.args.request =
    subst (λ (f : FileNow). IsEnding opening f c.args.unit c.args.request)
    (sym (ap (λ (v : VolumeNow g.row.B.Denot). v.file) c.self.view_is)) ending in
    c.refuse_read.ensures.held told opening
    (held-moved seen opening before c.advance_last.new.self c.advance_last.new.blocks
    c.in-Err-Read.ensures.owners_stay
    (λ on. (c.in-Err-Read.ensures.unread c.in-Err-Read.field-0-is).1 told before.number
    (state_now opening before.file) (was.stored on)) was)
    (read-asked opening before.file c.args.unit c.args.request c.requires.request mine)

pub returns-in-Err-Read-clause-moments : goal.returns-in-Err-Read-clause-moments
returns-in-Err-Read-clause-moments g c told opening held =
    let seen = g.B.Blocks.seen in
    let before : VolumeNow g.row.B.Denot = record {
      blocks = c.self.inside.blocks;
      number = c.self.inside.number;
      store = c.self.inside.store;
      file = c.self.inside.file;
    } in
    let was : IsHeld seen opening before =
    subst (IsHeld seen opening) (sym c.self.view_is) held in
    let going : before.file.stopped ≡ None =
    ap (λ (v : VolumeNow g.row.B.Denot). v.file.stopped) c.self.view_is ∙ c.requires.going in
    let state = state_now opening before.file in
    let stored = was.stored going in
    subst (λ (v : VolumeNow g.row.B.Denot). Guards (seen v.blocks) (seen c.refuse_read.new.self.blocks)
    (RecoversTo v.store.log.geometry v.number (state_now opening v.file) [])) c.self.view_is
    (subst (λ (b : g.row.B.Denot). Guards (seen before.blocks) (seen b)
    (RecoversTo before.store.log.geometry before.number state [])) (sym c.refuse_read.ensures.blocks)
    (owned-recovers before.number before.store state (seen before.blocks)
    (seen c.advance_last.new.blocks) (last_claimed before.store c.args.unit) stored
    (c.advance_last.ensures.moments told before.number state stored)))

pub returns-in-Err-Write-clause-held : goal.returns-in-Err-Write-clause-held
returns-in-Err-Write-clause-held g c told opening held ending =
    let seen = g.B.Blocks.seen in
    let before : VolumeNow g.row.B.Denot = record {
      blocks = c.self.inside.blocks;
      number = c.self.inside.number;
      store = c.self.inside.store;
      file = c.self.inside.file;
    } in
    let was : IsHeld seen opening before =
    subst (IsHeld seen opening) (sym c.self.view_is) held in
    let mid : VolumeNow g.row.B.Denot =
    record before { blocks = c.advance_last.new.blocks; store = c.advance_last.new.self } in
    let mine : IsEnding opening before.file c.args.unit c.args.request =
    subst (λ (f : FileNow). IsEnding opening f c.args.unit c.args.request)
    (sym (ap (λ (v : VolumeNow g.row.B.Denot). v.file) c.self.view_is)) ending in
    c.stop.ensures.held told opening
    (known-with seen opening before c.advance_last.new.self c.advance_last.new.blocks
    c.in-Err-Write.ensures.owners_stay was)
    (write-asked opening before.file c.args.unit c.args.request mine)

pub returns-in-Err-Write-clause-moments : goal.returns-in-Err-Write-clause-moments
returns-in-Err-Write-clause-moments g c told opening held =
    let seen = g.B.Blocks.seen in
    let before : VolumeNow g.row.B.Denot = record {
      blocks = c.self.inside.blocks;
      number = c.self.inside.number;
      store = c.self.inside.store;
      file = c.self.inside.file;
    } in
    let was : IsHeld seen opening before =
    subst (IsHeld seen opening) (sym c.self.view_is) held in
    let going : before.file.stopped ≡ None =
    ap (λ (v : VolumeNow g.row.B.Denot). v.file.stopped) c.self.view_is ∙ c.requires.going in
    let state = state_now opening before.file in
    let stored = was.stored going in
    subst (λ (v : VolumeNow g.row.B.Denot). Guards (seen v.blocks) (seen c.stop.new.self.blocks)
    (RecoversTo v.store.log.geometry v.number (state_now opening v.file) [])) c.self.view_is
    (subst (λ (b : g.row.B.Denot). Guards (seen before.blocks) (seen b)
    (RecoversTo before.store.log.geometry before.number state [])) (sym c.stop.ensures.blocks)
    (owned-recovers before.number before.store state (seen before.blocks)
    (seen c.advance_last.new.blocks) (last_claimed before.store c.args.unit) stored
    (c.advance_last.ensures.moments told before.number state stored)))

pub returns-in-Ok-clause-nearer : goal.returns-in-Ok-clause-nearer
returns-in-Ok-clause-nearer g c told =
    let unit = c.args.unit in
    let store = c.self.inside.store in
    subst (λ (v : VolumeNow g.row.B.Denot).
    left_for unit c.enter_stage.new.self.store < left_for unit v.store) c.self.view_is
    (subst (λ (s : StoreNow). left_for unit s < left_for unit store)
    (sym c.enter_stage.ensures.store) (c.in-Ok.ensures.nearer told unit))

pub returns-in-Ok-clause-splits : goal.returns-in-Ok-clause-splits
returns-in-Ok-clause-splits g c told =
    let before : VolumeNow g.row.B.Denot = record {
      blocks = c.self.inside.blocks;
      number = c.self.inside.number;
      store = c.self.inside.store;
      file = c.self.inside.file;
    } in
    let part = c.last_of-part.result in
    let unit = c.args.unit in
    let new = c.enter_stage.new.self in
    let store = c.advance_last.new.self in
    let split = c.in-Ok.split in
    let taken = c.area_taken-taken.result in
    let numbers : option_map (λ (last : BeforeImage). last.part) (last_of_unit before.store unit)
    ≡ Some part.0 =
    ap (λ (v : VolumeNow g.row.B.Denot).
    option_map (λ (last : BeforeImage). last.part) (last_of_unit v.store unit)) c.self.view_is
    ∙ c.last_of-part.ensures in
    let space = c.advance_last.ensures.claims_none told in
    let by = c.area_taken-taken.ensures part before.store.space store.space
    c.least_free-least.ensures c.free_areas-free.ensures c.free_areas.ensures (inl space) in
    let free = free_count before.store.space in
    let now = free_count store.space in
    subst (λ (v : VolumeNow g.row.B.Denot). EntersSplits v new) c.self.view_is
    (λ going. subst (λ (s : StoreNow).
    CountsSplits before.store s before.file.entries new.file.entries)
    (sym c.enter_stage.ensures.store)
    (counts-stage part (stage_told split) before.store store before.file new.file c.args.after unit
    c.args.line c.is_some.result taken free now c.enter_stage.ensures.leaves
    (at-last (λ n. OnlySplit n before.store.parts store.parts) before.store unit part numbers
    c.advance_last.ensures.parts)
    (at-last (λ n. HasMoreAt n (stage_told split) before.store.parts store.parts free now)
    before.store unit part numbers (c.in-Ok.ensures.more told))
    (adds-told part before.store.space store.space split taken space by
    ∙ ap (λ (b : Bool). split_entered b taken) (sym c.is_some.ensures))
    (at-last (λ n. HasKeyed before.store.parts n) before.store unit part numbers
    (last-keyed before.store (g.B.Blocks.seen before.blocks).cur unit c.args.length
    (last-shape before.store (g.B.Blocks.seen before.blocks) unit
    ((subst (IsWhole g.B.Blocks.seen) (sym c.self.view_is) c.requires.whole).set
    (ap (λ (v : VolumeNow g.row.B.Denot). v.file.stopped) c.self.view_is ∙ c.requires.going)))
    (subst (λ (v : VolumeNow g.row.B.Denot).
    IsDueAtLast v.store (g.B.Blocks.seen v.blocks).cur unit c.args.length) (sym c.self.view_is)
    (c.requires.due told))))))

pub returns-in-Err-Read-clause-splits : goal.returns-in-Err-Read-clause-splits
returns-in-Err-Read-clause-splits g c told =
    let seen = g.B.Blocks.seen in
    let before : VolumeNow g.row.B.Denot = record {
      blocks = c.self.inside.blocks;
      number = c.self.inside.number;
      store = c.self.inside.store;
      file = c.self.inside.file;
    } in
    let new = c.refuse_read.new.self in
    let has = c.requires.holds told in
    let was : IsHeld seen has.opening before =
    subst (IsHeld seen has.opening) (sym c.self.view_is) has.held in
    let going : before.file.stopped ≡ None =
    ap (λ (v : VolumeNow g.row.B.Denot). v.file.stopped) c.self.view_is ∙ c.requires.going in
    let state = state_now has.opening before.file in
    let stored = was.stored going in
    let unread = c.in-Err-Read.ensures.unread c.in-Err-Read.field-0-is in
    subst (λ (v : VolumeNow g.row.B.Denot). EntersSplits v new) c.self.view_is
    (splits-answered before new no-reads one-read c.args.after c.args.unit c.args.line
    c.args.request
    (λ on. subst (KeepsUsed before.store) (sym c.refuse_read.ensures.store)
    (keeps-stored before.number before.store c.advance_last.new.self state (seen before.blocks)
    (seen c.advance_last.new.blocks)
    (at-last (λ n. OnlySplit n before.store.parts c.advance_last.new.self.parts) before.store
    c.args.unit c.last_of-part.result
    (ap (λ (v : VolumeNow g.row.B.Denot). option_map (λ (last : BeforeImage). last.part)
    (last_of_unit v.store c.args.unit)) c.self.view_is ∙ c.last_of-part.ensures)
    c.advance_last.ensures.parts).parts
    (unread.0.content told) stored (unread.1 told before.number state stored)))
    (c.refuse_read.ensures.acted no-reads one-read (omega arith) refl))

pub returns-in-Err-Write-clause-splits : goal.returns-in-Err-Write-clause-splits
returns-in-Err-Write-clause-splits g c told going = absurd (c.stop.ensures.stops going)
