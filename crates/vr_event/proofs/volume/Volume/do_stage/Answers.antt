use Rattle.std.proofs.Common.{◌≡◌, ◌≢◌, ◌∙◌, [], Err, None, ap, refl, subst, sym}
use Rattle.vr_types.specs.Moments.{Guards}
use Rattle.vr_types.specs.declared.fault.DeviceFault.{DeviceFault}
use Rattle.vr_types.specs.declared.fault.DeviceFault.TheVariants.{Read, Write}
use Rattle.vr_types.specs.declared.reply.Refusal.TheVariants.{NoSpace, ReadFault, WriteFault}
use Rattle.vr_types.specs.declared.reply.Reply.TheVariants.{Refused}
use Rattle.vr_history.specs.Step.{case_of}
use Rattle.vr_record_file.specs.Now.{FileNow, state_now}
use Rattle.vr_volume.specs.Crashes.{RecoversTo}
use Rattle.vr_event.specs.Acting.{IsActed}
use Rattle.vr_event.specs.Getting.{IsEntered}
use Rattle.vr_event.specs.Putting.{IsChanging}
use Rattle.vr_event.specs.Staging.{IsStateStaged}
use Rattle.vr_attach.specs.Owning.{claimed_by, owner_of}
use Rattle.vr_store.specs.Store.{StoreNow, part_among}
use Rattle.vr_event.specs.Volume.{IsHeld, IsWhole, VolumeNow}
use Rattle.vr_event.specs.declared.act.Act.TheVariants as acts
use Rattle.vr_store.specs.declared.no.LookNo.TheVariants.{Fault}
use Rattle.vr_event.proofs.Entering.{held-refused}
use Rattle.vr_store.proofs.CallerLemmas.{shapes-same}
use Rattle.vr_event.proofs.Recovering.{owned-recovers}
use Rattle.vr_event.proofs.Acts.{acted-again, acted-failed, acted-read}
use Rattle.vr_event.proofs.Replied.{not-failed, replied-over}
use Rattle.vr_event.proofs.Staged.{geometry-staged, not-staged, owners-claimed, shape-some}
use Rattle.vr_event.proofs.Staged.{staged-of, state-staged, stepped-entered}
use Rattle.vr_event.proofs.UnitEnded.{held-stopped}
use Rattle.vr_event.proofs.Weighs.{refuse-look}
use Rattle.vr_event.proofs.Wholes.{held-moved, may-changing, whole-of}
use Rattle.std.proofs.Common.{◌<◌}
use Rattle.vr_store.specs.Left.{left_for}
use Rattle.vr_event.specs.Nearer.{CountsSplits, EntersSplits}
use Rattle.vr_history.specs.declared.entry.What.TheVariants.{Asked}
use Rattle.vr_event.proofs.CountedSplits.{keeps-stored, none-event, splits-none}
use Rattle.vr_event.proofs.SplitCounts.{counts-staged}
use Rattle.vr_event.proofs.CountedSplits.{failed-stops}
use Rattle.vr_event.proofs.volume.Volume.do_stage.Goals as goal

pub returns-in-Ok-clause-moments : goal.returns-in-Ok-clause-moments
returns-in-Ok-clause-moments g c told opening held =
    let seen = g.B.Blocks.seen in
    let before : VolumeNow g.row.B.Denot = record {
      blocks = c.self.inside.blocks;
      number = c.self.inside.number;
      store = c.self.inside.store;
      file = c.self.inside.file;
    } in
    let goes : before.file.stopped ≡ None =
    ap (λ (v : VolumeNow g.row.B.Denot). v.file.stopped) c.self.view_is ∙ c.requires.going in
    let was : IsHeld seen opening before =
    subst (IsHeld seen opening) (sym c.self.view_is) held in
    let state = state_now opening before.file in
    subst (λ (v : VolumeNow g.row.B.Denot). Guards (seen v.blocks)
    (seen c.enter_stage.new.self.blocks)
    (RecoversTo v.store.log.geometry v.number (state_now opening v.file) [])) c.self.view_is
    (subst (λ (b : g.row.B.Denot). Guards (seen before.blocks) (seen b)
    (RecoversTo before.store.log.geometry before.number state [])) (sym c.enter_stage.ensures.blocks)
    (owned-recovers before.number before.store state (seen before.blocks)
    (seen c.advance.new.blocks)
    (owner_of before.store.log.geometry (claimed_by c.args.part before.store.space))
    (was.stored goes)
    (c.advance.ensures.moments told before.number state (was.stored goes))))

pub returns-in-Ok-clause-whole : goal.returns-in-Ok-clause-whole
returns-in-Ok-clause-whole g c =
    let seen = g.B.Blocks.seen in
    let before : VolumeNow g.row.B.Denot = record {
      blocks = c.self.inside.blocks;
      number = c.self.inside.number;
      store = c.self.inside.store;
      file = c.self.inside.file;
    } in
    let goes : before.file.stopped ≡ None =
    ap (λ (v : VolumeNow g.row.B.Denot). v.file.stopped) c.self.view_is ∙ c.requires.going in
    let whole : IsWhole seen before = subst (IsWhole seen) (sym c.self.view_is) c.requires.whole in
    c.enter_stage.ensures.whole
    (whole-of seen before c.advance.new.self c.advance.new.blocks before.file whole (λ going. goes)
    refl refl
    (λ going. ap (λ (s : StoreNow). s.log.geometry) c.advance.ensures.rest)
    (λ going. shapes-same c.advance.new.self.parts before.store.parts
    c.advance.ensures.parts.parts)
    (λ going. c.advance.ensures.set))

pub returns-in-Ok-clause-held : goal.returns-in-Ok-clause-held
returns-in-Ok-clause-held g c told opening held asked =
    let seen = g.B.Blocks.seen in
    let before : VolumeNow g.row.B.Denot = record {
      blocks = c.self.inside.blocks;
      number = c.self.inside.number;
      store = c.self.inside.store;
      file = c.self.inside.file;
    } in
    let was : IsHeld seen opening before =
    subst (IsHeld seen opening) (sym c.self.view_is) held in
    let goes : before.file.stopped ≡ None =
    ap (λ (v : VolumeNow g.row.B.Denot). v.file.stopped) c.self.view_is ∙ c.requires.going in
    let whole : IsWhole seen before = subst (IsWhole seen) (sym c.self.view_is) c.requires.whole in
    let laid : part_among before.store.parts c.args.part.0 ≢ None =
    subst (λ (v : VolumeNow g.row.B.Denot). part_among v.store.parts c.args.part.0 ≢ None)
    (sym c.self.view_is) c.requires.at.laid in
    c.enter_stage.ensures.held told opening before.store.space
    (staged-of seen opening before c.advance.new.self c.advance.new.blocks c.args.part
    c.area_taken-taken.result whole goes was
    (shape-some before.store.parts c.args.part.0 laid)
    (c.area_taken-taken.ensures c.args.part before.store.space c.advance.new.self.space
    c.least_free-least.ensures c.free_areas-free.ensures c.free_areas.ensures
    (owners-claimed c.args.part c.in-Ok.kind before.store.space c.advance.new.self.space
    c.in-Ok.ensures.owners))
    (c.in-Ok.ensures.stored told before.number (state_now opening before.file) (was.stored goes)))

pub returns-in-Ok-clause-again : goal.returns-in-Ok-clause-again
returns-in-Ok-clause-again g c opening =
    let part = c.args.part in
    let new = c.enter_stage.new.self.file in
    let of-file : c.self.inside.file ≡ c.args.self.now.file =
    ap (λ (v : VolumeNow g.row.B.Denot). v.file) c.self.view_is in (
      subst (λ (f : FileNow). new.geometry ≡ f.geometry) of-file
          (geometry-staged c.args.after c.args.unit c.args.line part c.self.inside.file new _ _
          c.enter_stage.ensures.leaves),
      subst (λ (f : FileNow). IsStateStaged part.0 (state_now opening f) (state_now opening new))
          of-file
          (state-staged c.args.after c.args.unit c.args.line part c.self.inside.file new opening _ _
          c.enter_stage.ensures.leaves),
    )

pub returns-in-Ok-clause-acted : goal.returns-in-Ok-clause-acted
returns-in-Ok-clause-acted g c =
    let faults = g.B.Blocks.faults in
    let cause = c.in-Ok.ensures.cause in
    subst (λ (v : VolumeNow g.row.B.Denot). IsActed (faults v.blocks)
    (faults c.enter_stage.new.self.blocks) (acts.Again c.args.request) c.args.after c.args.unit
    c.args.line c.args.request v.file c.enter_stage.new.self.file) c.self.view_is
    (subst (λ (b : g.row.B.Denot). IsActed (faults c.self.inside.blocks) (faults b)
    (acts.Again c.args.request) c.args.after c.args.unit c.args.line c.args.request
    c.self.inside.file c.enter_stage.new.self.file) (sym c.enter_stage.ensures.blocks)
    (acted-again cause.ok
    (stepped-entered c.args.after c.args.unit c.args.line c.args.part c.self.inside.file
    c.enter_stage.new.self.file c.args.request _ _ c.enter_stage.ensures.leaves)))

pub returns-in-Ok-clause-lacks : goal.returns-in-Ok-clause-lacks
returns-in-Ok-clause-lacks g c entered need free is =
    let of-file = ap (λ (v : VolumeNow g.row.B.Denot). v.file) c.self.view_is in
    not-staged c.args.after c.args.unit c.args.line c.args.part c.self.inside.file
    c.enter_stage.new.self.file c.args.request _ _ c.enter_stage.ensures.leaves
    (subst (λ (f : FileNow). IsEntered c.args.after c.args.unit c.args.line c.args.request f
    c.enter_stage.new.self.file) (sym of-file) entered)

pub returns-in-Err-Read-clause-moments : goal.returns-in-Err-Read-clause-moments
returns-in-Err-Read-clause-moments g c told opening held =
    let seen = g.B.Blocks.seen in
    let before : VolumeNow g.row.B.Denot = record {
      blocks = c.self.inside.blocks;
      number = c.self.inside.number;
      store = c.self.inside.store;
      file = c.self.inside.file;
    } in
    let goes : before.file.stopped ≡ None =
    ap (λ (v : VolumeNow g.row.B.Denot). v.file.stopped) c.self.view_is ∙ c.requires.going in
    let was : IsHeld seen opening before =
    subst (IsHeld seen opening) (sym c.self.view_is) held in
    let b = seen c.advance.new.blocks in
    subst (λ (v : VolumeNow g.row.B.Denot). Guards (seen v.blocks) b
    (RecoversTo v.store.log.geometry v.number (state_now opening v.file) [])) c.self.view_is
    (owned-recovers before.number before.store (state_now opening before.file) (seen before.blocks)
    b (owner_of before.store.log.geometry (claimed_by c.args.part before.store.space))
    (was.stored goes) (c.advance.ensures.moments told before.number
    (state_now opening before.file) (was.stored goes)))

pub returns-in-Err-Write-clause-moments : goal.returns-in-Err-Write-clause-moments
returns-in-Err-Write-clause-moments g c told opening held =
    let seen = g.B.Blocks.seen in
    let before : VolumeNow g.row.B.Denot = record {
      blocks = c.self.inside.blocks;
      number = c.self.inside.number;
      store = c.self.inside.store;
      file = c.self.inside.file;
    } in
    let goes : before.file.stopped ≡ None =
    ap (λ (v : VolumeNow g.row.B.Denot). v.file.stopped) c.self.view_is ∙ c.requires.going in
    let was : IsHeld seen opening before =
    subst (IsHeld seen opening) (sym c.self.view_is) held in
    let b = seen c.advance.new.blocks in
    subst (λ (v : VolumeNow g.row.B.Denot). Guards (seen v.blocks) b
    (RecoversTo v.store.log.geometry v.number (state_now opening v.file) [])) c.self.view_is
    (owned-recovers before.number before.store (state_now opening before.file) (seen before.blocks)
    b (owner_of before.store.log.geometry (claimed_by c.args.part before.store.space))
    (was.stored goes) (c.advance.ensures.moments told before.number
    (state_now opening before.file) (was.stored goes)))

pub returns-in-Err-Read-clause-whole : goal.returns-in-Err-Read-clause-whole
returns-in-Err-Read-clause-whole g c =
    let seen = g.B.Blocks.seen in
    let before : VolumeNow g.row.B.Denot = record {
      blocks = c.self.inside.blocks;
      number = c.self.inside.number;
      store = c.self.inside.store;
      file = c.self.inside.file;
    } in
    let goes : before.file.stopped ≡ None =
    ap (λ (v : VolumeNow g.row.B.Denot). v.file.stopped) c.self.view_is ∙ c.requires.going in
    let whole : IsWhole seen before = subst (IsWhole seen) (sym c.self.view_is) c.requires.whole in
    whole-of seen before c.advance.new.self c.advance.new.blocks c.refuse.new.self whole (λ going. goes)
    (ap (λ (f : FileNow). f.geometry) c.refuse.ensures.same) (ap (λ (f : FileNow). f.catalog) c.refuse.ensures.same)
    (λ going. ap (λ (s : StoreNow). s.log.geometry) c.advance.ensures.rest)
    (λ going. shapes-same c.advance.new.self.parts before.store.parts
    c.advance.ensures.parts.parts)
    (λ going. c.advance.ensures.set)

pub returns-in-Err-Write-clause-whole : goal.returns-in-Err-Write-clause-whole
returns-in-Err-Write-clause-whole g c =
    let seen = g.B.Blocks.seen in
    let before : VolumeNow g.row.B.Denot = record {
      blocks = c.self.inside.blocks;
      number = c.self.inside.number;
      store = c.self.inside.store;
      file = c.self.inside.file;
    } in
    let goes : before.file.stopped ≡ None =
    ap (λ (v : VolumeNow g.row.B.Denot). v.file.stopped) c.self.view_is ∙ c.requires.going in
    let whole : IsWhole seen before = subst (IsWhole seen) (sym c.self.view_is) c.requires.whole in
    whole-of seen before c.advance.new.self c.advance.new.blocks c.fail_write.new.self whole (λ going. goes)
    (ap (λ (f : FileNow). f.geometry) c.fail_write.ensures.leaves) (ap (λ (f : FileNow). f.catalog) c.fail_write.ensures.leaves)
    (λ going. ap (λ (s : StoreNow). s.log.geometry) c.advance.ensures.rest)
    (λ going. shapes-same c.advance.new.self.parts before.store.parts
    c.advance.ensures.parts.parts)
    (λ going. c.advance.ensures.set)

pub returns-in-Err-Read-clause-held : goal.returns-in-Err-Read-clause-held
returns-in-Err-Read-clause-held g c told opening held asked =
    let seen = g.B.Blocks.seen in
    let before : VolumeNow g.row.B.Denot = record {
      blocks = c.self.inside.blocks;
      number = c.self.inside.number;
      store = c.self.inside.store;
      file = c.self.inside.file;
    } in
    let was : IsHeld seen opening before =
    subst (IsHeld seen opening) (sym c.self.view_is) held in
    let mine : IsChanging opening before.file c.args.unit c.args.request =
    subst (λ (f : FileNow). IsChanging opening f c.args.unit c.args.request)
    (sym (ap (λ (v : VolumeNow g.row.B.Denot). v.file) c.self.view_is)) asked in
    let moved = held-moved seen opening before c.advance.new.self c.advance.new.blocks
    c.in-Err-Read.ensures.owners_stay
    (λ going. (c.in-Err-Read.ensures.unread c.in-Err-Read.field-0-is).1 told before.number
    (state_now opening before.file) (was.stored going)) was in
    let may = may-changing opening before.file c.args.unit c.args.request (Refused ReadFault) mine
    (refuse-look (case_of before.file.geometry (state_now opening before.file) c.args.unit
    c.args.request) c.requires.change (Fault Read) mine.unrefused).0 in
    held-refused seen opening (record before {
      blocks = c.advance.new.blocks;
      store = c.advance.new.self;
    }) c.refuse.new.self c.args.after c.args.unit c.args.line c.args.request ReadFault
    c.refuse.ensures.same moved (c.refuse.ensures.state opening was.file may refl)

pub returns-in-Err-Read-clause-acted : goal.returns-in-Err-Read-clause-acted
returns-in-Err-Read-clause-acted g c =
    let faults = g.B.Blocks.faults in
    let cause = c.in-Err-Read.ensures.cause in
    subst (λ (v : VolumeNow g.row.B.Denot). IsActed (faults v.blocks)
    (faults c.advance.new.blocks) acts.Done c.args.after c.args.unit c.args.line c.args.request
    v.file c.refuse.new.self) c.self.view_is
    (acted-read (cause.read (ap (λ (f : DeviceFault). Err f) c.in-Err-Read.field-0-is))
    (cause.unwritten (ap (λ (f : DeviceFault). Err f) c.in-Err-Read.field-0-is))
    c.refuse.ensures.same)

pub returns-in-Err-Write-clause-held : goal.returns-in-Err-Write-clause-held
returns-in-Err-Write-clause-held g c told opening held asked =
    let seen = g.B.Blocks.seen in
    let before : VolumeNow g.row.B.Denot = record {
      blocks = c.self.inside.blocks;
      number = c.self.inside.number;
      store = c.self.inside.store;
      file = c.self.inside.file;
    } in
    let was : IsHeld seen opening before =
    subst (IsHeld seen opening) (sym c.self.view_is) held in
    let mine : IsChanging opening before.file c.args.unit c.args.request =
    subst (λ (f : FileNow). IsChanging opening f c.args.unit c.args.request)
    (sym (ap (λ (v : VolumeNow g.row.B.Denot). v.file) c.self.view_is)) asked in
    let may = may-changing opening before.file c.args.unit c.args.request (Refused WriteFault) mine
    (refuse-look (case_of before.file.geometry (state_now opening before.file) c.args.unit
    c.args.request) c.requires.change (Fault Write) mine.unrefused).0 in
    held-stopped seen opening before c.fail_write.new.self c.advance.new.self c.advance.new.blocks
    c.args.after c.args.unit c.args.line c.args.request c.fail_write.ensures.leaves
    c.in-Err-Write.ensures.owners_stay was
    (c.fail_write.ensures.state opening before.file.locks was.file may)

pub returns-in-Err-Write-clause-acted : goal.returns-in-Err-Write-clause-acted
returns-in-Err-Write-clause-acted g c =
    let faults = g.B.Blocks.faults in
    let cause = c.in-Err-Write.ensures.cause in
    subst (λ (v : VolumeNow g.row.B.Denot). IsActed (faults v.blocks)
    (faults c.advance.new.blocks) acts.Done c.args.after c.args.unit c.args.line c.args.request
    v.file c.fail_write.new.self) c.self.view_is
    (acted-failed cause.reads
    (cause.write (ap (λ (f : DeviceFault). Err f) c.in-Err-Write.field-0-is))
    c.fail_write.ensures.leaves
    (ap (λ (v : VolumeNow g.row.B.Denot). v.file.stopped) c.self.view_is ∙ c.requires.going))

pub returns-in-Err-Read-clause-lacks : goal.returns-in-Err-Read-clause-lacks
returns-in-Err-Read-clause-lacks g c entered need free is =
    let of-file = ap (λ (v : VolumeNow g.row.B.Denot). v.file) c.self.view_is in
    let reply : entered.reply ≡ Refused ReadFault =
    replied-over c.args.after c.args.unit c.args.line c.args.request c.args.self.now.file
    c.refuse.new.self entered c.self.inside.file.entries (ap (λ (f : FileNow). f.entries) of-file)
    (Refused ReadFault) (ap (λ (f : FileNow). f.entries) c.refuse.ensures.same) in
    let both : Refused ReadFault ≡ Refused (NoSpace need free) = sym reply ∙ is in
    cc

pub returns-in-Err-Write-clause-lacks : goal.returns-in-Err-Write-clause-lacks
returns-in-Err-Write-clause-lacks g c entered need free is =
    let of-file = ap (λ (v : VolumeNow g.row.B.Denot). v.file) c.self.view_is in
    not-failed c.args.after c.args.unit c.args.line c.args.request c.args.self.now.file
    c.fail_write.new.self entered c.self.inside.file (ap (λ (f : FileNow). f.entries) of-file)
    c.fail_write.ensures.leaves

pub returns-in-Ok-clause-nearer : goal.returns-in-Ok-clause-nearer
returns-in-Ok-clause-nearer g c told =
    let unit = c.args.unit in
    let store = c.self.inside.store in
    subst (λ (v : VolumeNow g.row.B.Denot).
    left_for unit c.enter_stage.new.self.store < left_for unit v.store) c.self.view_is
    (subst (λ (s : StoreNow). left_for unit s < left_for unit store)
    (sym c.enter_stage.ensures.store) (c.in-Ok.ensures.nearer told unit))

pub returns-in-Ok-clause-splits : goal.returns-in-Ok-clause-splits
returns-in-Ok-clause-splits g c told =
    let before : VolumeNow g.row.B.Denot = record {
      blocks = c.self.inside.blocks;
      number = c.self.inside.number;
      store = c.self.inside.store;
      file = c.self.inside.file;
    } in
    let part = c.args.part in
    let new = c.enter_stage.new.self in
    let store = c.advance.new.self in
    let owners = c.in-Ok.ensures.owners in
    subst (λ (v : VolumeNow g.row.B.Denot). EntersSplits v new) c.self.view_is
    (λ going. subst (λ (s : StoreNow).
    CountsSplits before.store s before.file.entries new.file.entries)
    (sym c.enter_stage.ensures.store)
    (counts-staged part c.in-Ok.kind before.store store before.file new.file.entries c.args.after
    c.args.unit c.args.line c.splits_interval.result c.area_taken-taken.result
    (c.in-Ok.ensures.more told) c.advance.ensures.parts
    (subst (λ (v : VolumeNow g.row.B.Denot). part_among v.store.parts part.0 ≢ None)
    (sym c.self.view_is) c.requires.at.laid)
    (c.in-Ok.ensures.kind told) owners
    (c.area_taken-taken.ensures part before.store.space store.space c.least_free-least.ensures
    c.free_areas-free.ensures c.free_areas.ensures
    (owners-claimed part c.in-Ok.kind before.store.space store.space owners))
    c.splits_interval.ensures.yes c.splits_interval.ensures.no
    (ap (λ (f : FileNow). f.entries) c.enter_stage.ensures.leaves)))

pub returns-in-Err-Read-clause-splits : goal.returns-in-Err-Read-clause-splits
returns-in-Err-Read-clause-splits g c told =
    let seen = g.B.Blocks.seen in
    let before : VolumeNow g.row.B.Denot = record {
      blocks = c.self.inside.blocks;
      number = c.self.inside.number;
      store = c.self.inside.store;
      file = c.self.inside.file;
    } in
    let new : VolumeNow g.row.B.Denot = record before {
      blocks = c.advance.new.blocks;
      store = c.advance.new.self;
      file = c.refuse.new.self;
    } in
    let has = c.requires.holds told in
    let was : IsHeld seen has.opening before =
    subst (IsHeld seen has.opening) (sym c.self.view_is) has.held in
    let going : before.file.stopped ≡ None =
    ap (λ (v : VolumeNow g.row.B.Denot). v.file.stopped) c.self.view_is ∙ c.requires.going in
    let state = state_now has.opening before.file in
    let stored = was.stored going in
    let unread = c.in-Err-Read.ensures.unread c.in-Err-Read.field-0-is in
    subst (λ (v : VolumeNow g.row.B.Denot). EntersSplits v new) c.self.view_is
    (splits-none before new
    (λ on. keeps-stored before.number before.store new.store state (seen before.blocks)
    (seen new.blocks) c.advance.ensures.parts.parts (unread.0.content told) stored
    (unread.1 told before.number state stored))
    (none-event c.args.after c.args.unit c.args.line (Asked c.args.request (Refused ReadFault))
    (record before.file { files = new.file.files; files_room = new.file.files_room }) new.file
    c.refuse.ensures.same (λ n. refl)))

pub returns-in-Err-Write-clause-splits : goal.returns-in-Err-Write-clause-splits
returns-in-Err-Write-clause-splits g c told going =
    absurd (failed-stops c.args.after c.args.unit c.args.line c.args.request c.self.inside.file
    c.fail_write.new.self c.fail_write.ensures.leaves going)
