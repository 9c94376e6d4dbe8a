use Rattle.std.proofs.Common.{◌≡◌, ◌∙◌, [], List, ℕ, None, Option, Some, ap, refl, subst, sym}
use Rattle.std.specs.Option.{option_copied}
use Rattle.vr_types.specs.Moments.{Guards}
use Rattle.vr_types.specs.declared.lock_name.LockName.{LockName}
use Rattle.vr_types.specs.declared.reply.Refusal.TheVariants.{Memory as NoMemory, WriteFault}
use Rattle.vr_types.specs.declared.reply.Refusal.TheVariants.{NoSpace}
use Rattle.vr_types.specs.declared.reply.Reply.TheVariants.{Refused}
use Rattle.vr_types.specs.declared.request.Request.{Request}
use Rattle.vr_types.specs.declared.unit.Mode.TheVariants.{Exclusive}
use Rattle.vr_types.specs.declared.fault.DeviceFault.TheVariants.{Write}
use Rattle.vr_history.specs.declared.entry.What.TheVariants.{Asked}
use Rattle.vr_history.specs.Case.{new_record}
use Rattle.vr_history.specs.Change.{place_changed}
use Rattle.vr_history.specs.Names.{lock_names, with_locks}
use Rattle.vr_history.specs.State.{State}
use Rattle.vr_history.specs.Step.{case_of}
use Rattle.vr_record_file.specs.Now.{FileNow, IsStateOf, MayBeAsked, failed, state_now}
use Rattle.vr_record_file.specs.Now.{with_event}
use Rattle.vr_volume.specs.Crashes.{RecoversTo}
use Rattle.vr_event.specs.Acting.{IsActed}
use Rattle.vr_store.specs.Change.{IsMadeOf}
use Rattle.vr_event.specs.Putting.{IsChanging, IsReadyFor, need_at}
use Rattle.vr_store.specs.Store.{StoreNow, left_among, part_among}
use Rattle.vr_event.specs.Volume.{IsHeld, IsWhole, VolumeNow}
use Rattle.vr_event.specs.declared.act.Act.TheVariants as acts
use Rattle.vr_store.specs.declared.no.LookNo.TheVariants.{Fault}
use Rattle.vr_event.proofs.Acts.{acted-entered}
use Rattle.vr_event.proofs.Causes.{calm-unwritten, cause-calm}
use Rattle.vr_event.proofs.Entering.{held-refused}
use Rattle.vr_event.proofs.Makes.{entered-change, has-room, held-put, may-reply, replied}
use Rattle.vr_event.proofs.Makes.{to-make-laid}
use Rattle.vr_event.proofs.MetParts.{met-shapes}
use Rattle.vr_event.proofs.Replied.{not-failed, replied-over}
use Rattle.vr_event.proofs.Weighs.{asks-change, refuse-look, refuse-memory}
use Rattle.vr_event.proofs.Wholes.{held-moved, held-stopped-locked, may-changing, whole-of}
use Rattle.vr_event.proofs.CountedSplits.{failed-stops, met-same}
use Rattle.vr_store.specs.Parts.{OnlyMet}
use Rattle.vr_event.proofs.volume.Volume.put.Goals as goal

pub put_at_place-requires-clause-ready : goal.put_at_place-requires-clause-ready
put_at_place-requires-clause-ready g c told =
    let seen = g.B.Blocks.seen in
    let before : VolumeNow g.row.B.Denot = record {
      blocks = c.self.inside.blocks;
      number = c.self.inside.number;
      store = c.self.inside.store;
      file = c.self.inside.file;
    } in
    let of-file : before.file ≡ c.args.self.now.file =
    ap (λ (v : VolumeNow g.row.B.Denot). v.file) c.self.view_is in
    let goes : before.file.stopped ≡ None =
    ap (λ (f : FileNow). f.stopped) of-file ∙ c.requires.going in
    let whole : IsWhole seen before = subst (IsWhole seen) (sym c.self.view_is) c.requires.whole in
    let has = c.requires.ready told in
    let opening = has.opening in
    let was : IsHeld seen opening before =
    subst (IsHeld seen opening) (sym c.self.view_is) has.held in
    let unit = c.args.unit in
    let request = c.args.request in
    let part = c.args.part in
    let place = c.args.place.now in
    let old = option_copied c.args.old in
    let reply = c.args.reply in
    let names = c.args.names.now in
    let state : State = state_now opening before.file in
    let is-ready : IsReadyFor (case_of before.file.geometry state unit request) place old reply names =
    subst (λ (f : FileNow). IsReadyFor (case_of f.geometry (state_now opening f) unit request)
    place old reply names) (sym of-file) has.ready in
    let laid = λ (none : part_among before.store.parts part.0 ≡ None). c.requires.fits.at.laid
    (ap (λ (v : VolumeNow g.row.B.Denot). part_among v.store.parts part.0) (sym c.self.view_is)
    ∙ none) in
    let to = to-make-laid seen opening before goes whole was unit request part place old reply names
    (sym c.requires.base) is-ready (g.met.B.Blocks.cur_may before.blocks told) laid in
    record { number = before.number; state = state; to = to }

pub returns-in-Ok-clause-moments : goal.returns-in-Ok-clause-moments
returns-in-Ok-clause-moments g c told opening held ready =
    let seen = g.B.Blocks.seen in
    let before : VolumeNow g.row.B.Denot = record {
      blocks = c.self.inside.blocks;
      number = c.self.inside.number;
      store = c.self.inside.store;
      file = c.self.inside.file;
    } in
    let of-file : before.file ≡ c.args.self.now.file =
    ap (λ (v : VolumeNow g.row.B.Denot). v.file) c.self.view_is in
    let goes : before.file.stopped ≡ None =
    ap (λ (f : FileNow). f.stopped) of-file ∙ c.requires.going in
    let whole : IsWhole seen before = subst (IsWhole seen) (sym c.self.view_is) c.requires.whole in
    let was : IsHeld seen opening before =
    subst (IsHeld seen opening) (sym c.self.view_is) held in
    let unit = c.args.unit in
    let request = c.args.request in
    let part = c.args.part in
    let place = c.args.place.now in
    let old = option_copied c.args.old in
    let reply = c.args.reply in
    let names = c.args.names.now in
    let state : State = state_now opening before.file in
    let is-ready : IsReadyFor (case_of before.file.geometry state unit request) place old reply names =
    subst (λ (f : FileNow). IsReadyFor (case_of f.geometry (state_now opening f) unit request)
    place old reply names) (sym of-file) ready in
    let laid = λ (none : part_among before.store.parts part.0 ≡ None). c.requires.fits.at.laid
    (ap (λ (v : VolumeNow g.row.B.Denot). part_among v.store.parts part.0) (sym c.self.view_is)
    ∙ none) in
    let to = to-make-laid seen opening before goes whole was unit request part place old reply names
    (sym c.requires.base) is-ready (g.met.B.Blocks.cur_may before.blocks told) laid in
    let b = seen c.put_at_place.new.blocks in
    subst (λ (v : VolumeNow g.row.B.Denot). Guards (seen v.blocks) b
    (RecoversTo v.store.log.geometry v.number (state_now opening v.file) [])) c.self.view_is
    (c.put_at_place.ensures.moments told before.number state to)

pub returns-in-Err-Memory-clause-moments : goal.returns-in-Err-Memory-clause-moments
returns-in-Err-Memory-clause-moments g c told opening held ready =
    let seen = g.B.Blocks.seen in
    let before : VolumeNow g.row.B.Denot = record {
      blocks = c.self.inside.blocks;
      number = c.self.inside.number;
      store = c.self.inside.store;
      file = c.self.inside.file;
    } in
    let of-file : before.file ≡ c.args.self.now.file =
    ap (λ (v : VolumeNow g.row.B.Denot). v.file) c.self.view_is in
    let goes : before.file.stopped ≡ None =
    ap (λ (f : FileNow). f.stopped) of-file ∙ c.requires.going in
    let whole : IsWhole seen before = subst (IsWhole seen) (sym c.self.view_is) c.requires.whole in
    let was : IsHeld seen opening before =
    subst (IsHeld seen opening) (sym c.self.view_is) held in
    let unit = c.args.unit in
    let request = c.args.request in
    let part = c.args.part in
    let place = c.args.place.now in
    let old = option_copied c.args.old in
    let reply = c.args.reply in
    let names = c.args.names.now in
    let state : State = state_now opening before.file in
    let is-ready : IsReadyFor (case_of before.file.geometry state unit request) place old reply names =
    subst (λ (f : FileNow). IsReadyFor (case_of f.geometry (state_now opening f) unit request)
    place old reply names) (sym of-file) ready in
    let laid = λ (none : part_among before.store.parts part.0 ≡ None). c.requires.fits.at.laid
    (ap (λ (v : VolumeNow g.row.B.Denot). part_among v.store.parts part.0) (sym c.self.view_is)
    ∙ none) in
    let to = to-make-laid seen opening before goes whole was unit request part place old reply names
    (sym c.requires.base) is-ready (g.met.B.Blocks.cur_may before.blocks told) laid in
    let b = seen c.put_at_place.new.blocks in
    subst (λ (v : VolumeNow g.row.B.Denot). Guards (seen v.blocks) b
    (RecoversTo v.store.log.geometry v.number (state_now opening v.file) [])) c.self.view_is
    (c.put_at_place.ensures.moments told before.number state to)

pub returns-clause-moments : goal.returns-clause-moments
returns-clause-moments g c told opening held ready =
    let seen = g.B.Blocks.seen in
    let before : VolumeNow g.row.B.Denot = record {
      blocks = c.self.inside.blocks;
      number = c.self.inside.number;
      store = c.self.inside.store;
      file = c.self.inside.file;
    } in
    let of-file : before.file ≡ c.args.self.now.file =
    ap (λ (v : VolumeNow g.row.B.Denot). v.file) c.self.view_is in
    let goes : before.file.stopped ≡ None =
    ap (λ (f : FileNow). f.stopped) of-file ∙ c.requires.going in
    let whole : IsWhole seen before = subst (IsWhole seen) (sym c.self.view_is) c.requires.whole in
    let was : IsHeld seen opening before =
    subst (IsHeld seen opening) (sym c.self.view_is) held in
    let unit = c.args.unit in
    let request = c.args.request in
    let part = c.args.part in
    let place = c.args.place.now in
    let old = option_copied c.args.old in
    let reply = c.args.reply in
    let names = c.args.names.now in
    let state : State = state_now opening before.file in
    let is-ready : IsReadyFor (case_of before.file.geometry state unit request) place old reply names =
    subst (λ (f : FileNow). IsReadyFor (case_of f.geometry (state_now opening f) unit request)
    place old reply names) (sym of-file) ready in
    let laid = λ (none : part_among before.store.parts part.0 ≡ None). c.requires.fits.at.laid
    (ap (λ (v : VolumeNow g.row.B.Denot). part_among v.store.parts part.0) (sym c.self.view_is)
    ∙ none) in
    let to = to-make-laid seen opening before goes whole was unit request part place old reply names
    (sym c.requires.base) is-ready (g.met.B.Blocks.cur_may before.blocks told) laid in
    let b = seen c.put_at_place.new.blocks in
    subst (λ (v : VolumeNow g.row.B.Denot). Guards (seen v.blocks) b
    (RecoversTo v.store.log.geometry v.number (state_now opening v.file) [])) c.self.view_is
    (c.put_at_place.ensures.moments told before.number state to)

pub returns-in-Ok-clause-held : goal.returns-in-Ok-clause-held
returns-in-Ok-clause-held g c told opening held ready asked =
    let seen = g.B.Blocks.seen in
    let before : VolumeNow g.row.B.Denot = record {
      blocks = c.self.inside.blocks;
      number = c.self.inside.number;
      store = c.self.inside.store;
      file = c.self.inside.file;
    } in
    let of-file : before.file ≡ c.args.self.now.file =
    ap (λ (v : VolumeNow g.row.B.Denot). v.file) c.self.view_is in
    let goes : before.file.stopped ≡ None =
    ap (λ (f : FileNow). f.stopped) of-file ∙ c.requires.going in
    let whole : IsWhole seen before = subst (IsWhole seen) (sym c.self.view_is) c.requires.whole in
    let was : IsHeld seen opening before =
    subst (IsHeld seen opening) (sym c.self.view_is) held in
    let unit = c.args.unit in
    let request = c.args.request in
    let part = c.args.part in
    let place = c.args.place.now in
    let old = option_copied c.args.old in
    let reply = c.args.reply in
    let names = c.args.names.now in
    let state : State = state_now opening before.file in
    let is-ready : IsReadyFor (case_of before.file.geometry state unit request) place old reply names =
    subst (λ (f : FileNow). IsReadyFor (case_of f.geometry (state_now opening f) unit request)
    place old reply names) (sym of-file) ready in
    let laid = λ (none : part_among before.store.parts part.0 ≡ None). c.requires.fits.at.laid
    (ap (λ (v : VolumeNow g.row.B.Denot). part_among v.store.parts part.0) (sym c.self.view_is)
    ∙ none) in
    let to = to-make-laid seen opening before goes whole was unit request part place old reply names
    (sym c.requires.base) is-ready (g.met.B.Blocks.cur_may before.blocks told) laid in
    let mine : IsChanging opening before.file unit request =
    subst (λ (f : FileNow). IsChanging opening f unit request) (sym of-file) asked in
    let mid : FileNow = c.put_at_place.new.file in
    let back : record mid { locks = before.file.locks } ≡ before.file =
    ap (λ (f : FileNow). record f { locks = before.file.locks }) c.put_at_place.ensures.file in
    let base = sym c.requires.base in
    let given-is : option_copied c.new_record-new.result ≡ new_record request =
    c.new_record-new.ensures ∙ ap (λ (r : Request). new_record r) c.get.ensures in
    let done = replied seen opening before goes whole was unit request part place old reply names
    base is-ready in
    let may : MayBeAsked opening before.file unit request reply =
    may-changing opening before.file unit request reply mine
    (may-reply seen opening before goes whole was unit request part place old reply names base
    is-ready mine.unrefused) in
    held-put seen opening before goes whole was unit request part place old reply names base is-ready
    mine.unrefused laid c.change.new.self mid c.put_at_place.new.store c.put_at_place.new.blocks c.args.after c.args.line
    (ap (λ (f : FileNow). f.entries) c.put_at_place.ensures.file)
    (ap (λ (f : FileNow). f.geometry) c.put_at_place.ensures.file)
    (ap (λ (f : FileNow). f.catalog) c.put_at_place.ensures.file)
    c.change.ensures.leaves c.put_at_place.ensures.space
    (c.change.ensures.state opening before.file.locks place done.feedback done.shown done.bytes
    (subst (IsStateOf opening) (sym back) was.file)
    (subst (λ (f : FileNow). MayBeAsked opening f unit request reply) (sym back) may) done.is
    (subst (λ (f : FileNow). place_changed (case_of f.geometry (state_now opening f) unit request)
    ≡ Some place) (sym back) is-ready.at.place_is)
    (subst (λ (f : FileNow). mid.locks ≡ with_locks unit Exclusive
    (lock_names (case_of f.geometry (state_now opening f) unit request) request)
    before.file.locks) (sym back)
    (c.in-Ok.ensures.locked
    ∙ ap (λ (l : List LockName). with_locks unit Exclusive l before.file.locks) is-ready.names_are))
    is-ready.at.not_catalog)
    (λ next made. c.in-Ok.ensures.made told before.number state next to
    (subst (λ (item : Option (List ℕ)). IsMadeOf unit part place
    (left_among before.store.parts part.0 state place item)
    (need_at before.store unit part place old) state next) (sym given-is) made))

pub returns-in-Err-Memory-clause-held : goal.returns-in-Err-Memory-clause-held
returns-in-Err-Memory-clause-held g c told opening held ready asked =
    let seen = g.B.Blocks.seen in
    let before : VolumeNow g.row.B.Denot = record {
      blocks = c.self.inside.blocks;
      number = c.self.inside.number;
      store = c.self.inside.store;
      file = c.self.inside.file;
    } in
    let of-file : before.file ≡ c.args.self.now.file =
    ap (λ (v : VolumeNow g.row.B.Denot). v.file) c.self.view_is in
    let goes : before.file.stopped ≡ None =
    ap (λ (f : FileNow). f.stopped) of-file ∙ c.requires.going in
    let whole : IsWhole seen before = subst (IsWhole seen) (sym c.self.view_is) c.requires.whole in
    let was : IsHeld seen opening before =
    subst (IsHeld seen opening) (sym c.self.view_is) held in
    let unit = c.args.unit in
    let request = c.args.request in
    let part = c.args.part in
    let place = c.args.place.now in
    let old = option_copied c.args.old in
    let reply = c.args.reply in
    let names = c.args.names.now in
    let state : State = state_now opening before.file in
    let is-ready : IsReadyFor (case_of before.file.geometry state unit request) place old reply names =
    subst (λ (f : FileNow). IsReadyFor (case_of f.geometry (state_now opening f) unit request)
    place old reply names) (sym of-file) ready in
    let laid = λ (none : part_among before.store.parts part.0 ≡ None). c.requires.fits.at.laid
    (ap (λ (v : VolumeNow g.row.B.Denot). part_among v.store.parts part.0) (sym c.self.view_is)
    ∙ none) in
    let to = to-make-laid seen opening before goes whole was unit request part place old reply names
    (sym c.requires.base) is-ready (g.met.B.Blocks.cur_may before.blocks told) laid in
    let mine : IsChanging opening before.file unit request =
    subst (λ (f : FileNow). IsChanging opening f unit request) (sym of-file) asked in
    let left = c.in-Err-Memory.ensures.unchanged c.in-Err-Memory.field-0-is in
    let same : c.put_at_place.new.file ≡ before.file =
    c.in-Err-Memory.ensures.unlocked c.in-Err-Memory.field-0-is
    (has-room seen opening before goes whole was unit request part place old reply names
    (sym c.requires.base) is-ready) in
    let moved = held-moved seen opening before c.put_at_place.new.store c.put_at_place.new.blocks
    c.put_at_place.ensures.space (λ going. left.3 before.number state (was.stored going)) was in
    let case = case_of before.file.geometry state unit request in
    let may = may-changing opening before.file unit request (Refused NoMemory) mine
    (refuse-memory case (asks-change case request place is-ready.at.place_is) mine.unrefused).0 in
    held-refused seen opening (record before {
      blocks = c.put_at_place.new.blocks;
      store = c.put_at_place.new.store;
    }) c.refuse.new.self c.args.after unit c.args.line request NoMemory
    (c.refuse.ensures.same
    ∙ ap (λ (f : FileNow). with_event c.args.after unit c.args.line (Asked request (Refused NoMemory))
    (record f { files = c.refuse.new.self.files; files_room = c.refuse.new.self.files_room })) same)
    moved
    (c.refuse.ensures.state opening (subst (IsStateOf opening) (sym same) was.file)
    (subst (λ (f : FileNow). MayBeAsked opening f unit request (Refused NoMemory)) (sym same) may)
    refl)

pub returns-clause-held : goal.returns-clause-held
returns-clause-held g c told opening held ready asked =
    let seen = g.B.Blocks.seen in
    let before : VolumeNow g.row.B.Denot = record {
      blocks = c.self.inside.blocks;
      number = c.self.inside.number;
      store = c.self.inside.store;
      file = c.self.inside.file;
    } in
    let of-file : before.file ≡ c.args.self.now.file =
    ap (λ (v : VolumeNow g.row.B.Denot). v.file) c.self.view_is in
    let goes : before.file.stopped ≡ None =
    ap (λ (f : FileNow). f.stopped) of-file ∙ c.requires.going in
    let whole : IsWhole seen before = subst (IsWhole seen) (sym c.self.view_is) c.requires.whole in
    let was : IsHeld seen opening before =
    subst (IsHeld seen opening) (sym c.self.view_is) held in
    let unit = c.args.unit in
    let request = c.args.request in
    let part = c.args.part in
    let place = c.args.place.now in
    let old = option_copied c.args.old in
    let reply = c.args.reply in
    let names = c.args.names.now in
    let state : State = state_now opening before.file in
    let is-ready : IsReadyFor (case_of before.file.geometry state unit request) place old reply names =
    subst (λ (f : FileNow). IsReadyFor (case_of f.geometry (state_now opening f) unit request)
    place old reply names) (sym of-file) ready in
    let laid = λ (none : part_among before.store.parts part.0 ≡ None). c.requires.fits.at.laid
    (ap (λ (v : VolumeNow g.row.B.Denot). part_among v.store.parts part.0) (sym c.self.view_is)
    ∙ none) in
    let to = to-make-laid seen opening before goes whole was unit request part place old reply names
    (sym c.requires.base) is-ready (g.met.B.Blocks.cur_may before.blocks told) laid in
    let mine : IsChanging opening before.file unit request =
    subst (λ (f : FileNow). IsChanging opening f unit request) (sym of-file) asked in
    let mid : FileNow = c.put_at_place.new.file in
    let back : record mid { locks = before.file.locks } ≡ before.file =
    ap (λ (f : FileNow). record f { locks = before.file.locks }) c.put_at_place.ensures.file in
    let case = case_of before.file.geometry state unit request in
    let may = may-changing opening before.file unit request (Refused WriteFault) mine
    (refuse-look case (asks-change case request place is-ready.at.place_is) (Fault Write)
    mine.unrefused).0 in
    held-stopped-locked seen opening before c.fail_write.new.self c.put_at_place.new.store
    c.put_at_place.new.blocks c.args.after unit c.args.line request mid.locks
    (c.fail_write.ensures.leaves
    ∙ ap (λ (f : FileNow). failed c.args.after unit c.args.line request f)
    c.put_at_place.ensures.file) c.put_at_place.ensures.space was
    (c.fail_write.ensures.state opening before.file.locks
    (subst (IsStateOf opening) (sym back) was.file)
    (subst (λ (f : FileNow). MayBeAsked opening f unit request (Refused WriteFault)) (sym back) may))

pub returns-in-Ok-clause-whole : goal.returns-in-Ok-clause-whole
returns-in-Ok-clause-whole g c =
    let seen = g.B.Blocks.seen in
    let before : VolumeNow g.row.B.Denot = record {
      blocks = c.self.inside.blocks;
      number = c.self.inside.number;
      store = c.self.inside.store;
      file = c.self.inside.file;
    } in
    let of-file : before.file ≡ c.args.self.now.file =
    ap (λ (v : VolumeNow g.row.B.Denot). v.file) c.self.view_is in
    let goes : before.file.stopped ≡ None =
    ap (λ (f : FileNow). f.stopped) of-file ∙ c.requires.going in
    let whole : IsWhole seen before = subst (IsWhole seen) (sym c.self.view_is) c.requires.whole in
    whole-of seen before c.put_at_place.new.store c.put_at_place.new.blocks c.change.new.self whole
    (λ going. goes)
    (ap (λ (f : FileNow). f.geometry) c.change.ensures.leaves
    ∙ ap (λ (f : FileNow). f.geometry) c.put_at_place.ensures.file)
    (ap (λ (f : FileNow). f.catalog) c.change.ensures.leaves
    ∙ ap (λ (f : FileNow). f.catalog) c.put_at_place.ensures.file)
    (λ going. c.in-Ok.ensures.geometry)
    (λ going. met-shapes c.args.part.0 before.store.parts c.put_at_place.new.store.parts
    c.in-Ok.ensures.parts)
    (λ going. c.in-Ok.ensures.set)

pub returns-in-Err-Memory-clause-whole : goal.returns-in-Err-Memory-clause-whole
returns-in-Err-Memory-clause-whole g c =
    let seen = g.B.Blocks.seen in
    let before : VolumeNow g.row.B.Denot = record {
      blocks = c.self.inside.blocks;
      number = c.self.inside.number;
      store = c.self.inside.store;
      file = c.self.inside.file;
    } in
    let of-file : before.file ≡ c.args.self.now.file =
    ap (λ (v : VolumeNow g.row.B.Denot). v.file) c.self.view_is in
    let goes : before.file.stopped ≡ None =
    ap (λ (f : FileNow). f.stopped) of-file ∙ c.requires.going in
    let whole : IsWhole seen before = subst (IsWhole seen) (sym c.self.view_is) c.requires.whole in
    let left = c.in-Err-Memory.ensures.unchanged c.in-Err-Memory.field-0-is in
    whole-of seen before c.put_at_place.new.store c.put_at_place.new.blocks c.refuse.new.self whole
    (λ going. goes)
    (ap (λ (f : FileNow). f.geometry) c.refuse.ensures.same
    ∙ ap (λ (f : FileNow). f.geometry) c.put_at_place.ensures.file)
    (ap (λ (f : FileNow). f.catalog) c.refuse.ensures.same
    ∙ ap (λ (f : FileNow). f.catalog) c.put_at_place.ensures.file)
    (λ going. ap (λ (s : StoreNow). s.log.geometry) left.1)
    (λ going n. ap (λ (s : StoreNow). Rattle.vr_store.specs.Store.shape_among s.parts n) left.1)
    (λ going. left.2)

pub returns-in-Ok-clause-acted : goal.returns-in-Ok-clause-acted
returns-in-Ok-clause-acted g c =
    let faults = g.B.Blocks.faults in
    subst (λ (v : VolumeNow g.row.B.Denot). IsActed (faults v.blocks)
    (faults c.put_at_place.new.blocks) acts.Done c.args.after c.args.unit c.args.line c.args.request
    v.file c.change.new.self) c.self.view_is
    (acted-entered (entered-change c.args.reply c.self.inside.file c.put_at_place.new.file
    c.change.new.self c.put_at_place.ensures.file c.change.ensures.leaves
    (cause-calm _ _ c.args.reply c.in-Ok.ensures.quiet c.requires.calm)
    (calm-unwritten c.args.reply c.requires.calm)))

pub returns-in-Err-Memory-clause-acted : goal.returns-in-Err-Memory-clause-acted
returns-in-Err-Memory-clause-acted g c =
    let faults = g.B.Blocks.faults in
    subst (λ (v : VolumeNow g.row.B.Denot). IsActed (faults v.blocks)
    (faults c.put_at_place.new.blocks) acts.Done c.args.after c.args.unit c.args.line c.args.request
    v.file c.refuse.new.self) c.self.view_is
    (acted-entered (entered-change (Refused NoMemory) c.self.inside.file c.put_at_place.new.file
    c.refuse.new.self c.put_at_place.ensures.file (c.refuse.ensures.leaves refl)
    (cause-calm _ _ (Refused NoMemory)
    (ap faults (c.in-Err-Memory.ensures.unchanged c.in-Err-Memory.field-0-is).0) refl) refl))

pub returns-in-Ok-clause-lacks : goal.returns-in-Ok-clause-lacks
returns-in-Ok-clause-lacks g c entered need free is =
    sym (replied-over c.args.after c.args.unit c.args.line c.args.request c.args.self.now.file
    c.change.new.self entered c.put_at_place.new.file.entries
    (ap (λ (f : FileNow). f.entries) c.put_at_place.ensures.file
    ∙ ap (λ (v : VolumeNow g.row.B.Denot). v.file.entries) c.self.view_is) c.args.reply
    (ap (λ (f : FileNow). f.entries) c.change.ensures.leaves)) ∙ is

pub returns-in-Err-Memory-clause-lacks : goal.returns-in-Err-Memory-clause-lacks
returns-in-Err-Memory-clause-lacks g c entered need free is =
    let reply : entered.reply ≡ Refused NoMemory =
    replied-over c.args.after c.args.unit c.args.line c.args.request c.args.self.now.file
    c.refuse.new.self entered c.put_at_place.new.file.entries
    (ap (λ (f : FileNow). f.entries) c.put_at_place.ensures.file
    ∙ ap (λ (v : VolumeNow g.row.B.Denot). v.file.entries) c.self.view_is) (Refused NoMemory)
    (ap (λ (f : FileNow). f.entries) c.refuse.ensures.same) in
    let both : Refused NoMemory ≡ Refused (NoSpace need free) = sym reply ∙ is in
    absurd cc

pub returns-clause-lacks : goal.returns-clause-lacks
returns-clause-lacks g c entered need free is =
    absurd (not-failed c.args.after c.args.unit c.args.line c.args.request c.args.self.now.file
    c.fail_write.new.self entered c.put_at_place.new.file
    (ap (λ (f : FileNow). f.entries) c.put_at_place.ensures.file
    ∙ ap (λ (v : VolumeNow g.row.B.Denot). v.file.entries) c.self.view_is)
    c.fail_write.ensures.leaves)

pub returns-in-Ok-clause-met : goal.returns-in-Ok-clause-met
returns-in-Ok-clause-met g c going =
    subst (λ (v : VolumeNow g.row.B.Denot).
    OnlyMet c.args.part.0 v.store.parts c.put_at_place.new.store.parts) c.self.view_is
    c.in-Ok.ensures.parts

pub returns-in-Err-Memory-clause-met : goal.returns-in-Err-Memory-clause-met
returns-in-Err-Memory-clause-met g c going =
    met-same c.args.part.0 c.args.self.now.store.parts c.put_at_place.new.store.parts
    (ap (λ (s : StoreNow). s.parts)
    (c.in-Err-Memory.ensures.unchanged c.in-Err-Memory.field-0-is).1
    ∙ ap (λ (v : VolumeNow g.row.B.Denot). v.store.parts) c.self.view_is)

pub returns-clause-met : goal.returns-clause-met
returns-clause-met g c going =
    absurd (failed-stops c.args.after c.args.unit c.args.line c.args.request
    c.put_at_place.new.file c.fail_write.new.self c.fail_write.ensures.leaves going)
