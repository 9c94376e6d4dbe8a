use Rattle.std.proofs.Common.{None, [], ap, refl, subst, sym, ◌∙◌, ◌≡◌}
use Rattle.vr_types.specs.Moments.{Guards}
use Rattle.vr_history.specs.State.{State}
use Rattle.vr_history.specs.Step.{IsLastKept, puts_back}
use Rattle.vr_undo.specs.Records.{image_of}
use Rattle.vr_record_file.specs.Now.{FileNow, state_now}
use Rattle.vr_volume.specs.Crashes.{RecoversTo}
use Rattle.vr_event.specs.EndedFile.{IsEnding}
use Rattle.vr_store.specs.Store.{StoreNow}
use Rattle.vr_event.specs.Volume.{IsHeld, VolumeNow}
use Rattle.vr_event.proofs.Asking.{write-asked}
use Rattle.vr_store.proofs.CallerLemmas.{last-kept-in, last-state}
use Rattle.vr_event.proofs.Recovers.{recovers-safe}
use Rattle.vr_event.proofs.Stepped.{held-at, held-undone, known-with, undone-in}
use Rattle.std.proofs.Common.{◌<◌, ◌≢◌}
use Rattle.vr_store.specs.Left.{left_for}
use Rattle.vr_event.specs.Nearer.{EntersSplits}
use Rattle.vr_event.proofs.CountedSplits.{KeepsUsed, keeps-last, none-event, splits-none}
use Rattle.vr_history.specs.declared.entry.What.TheVariants.{Undone}
use Rattle.vr_store.specs.LastImage.{last_of_unit}
use Rattle.vr_event.proofs.volume.Volume.put_back.Goals as goal

pub returns-in-Ok-clause-held : goal.returns-in-Ok-clause-held
returns-in-Ok-clause-held g c told opening held ending =
    let seen = g.B.Blocks.seen in
    let before : VolumeNow g.row.B.Denot = record {
      blocks = c.self.inside.blocks;
      number = c.self.inside.number;
      store = c.self.inside.store;
      file = c.self.inside.file;
    } in
    let was : IsHeld seen opening before =
    subst (IsHeld seen opening) (sym c.self.view_is) held in
    let going : before.file.stopped ≡ None =
    ap (λ (v : VolumeNow g.row.B.Denot). v.file.stopped) c.self.view_is ∙ c.requires.going in
    let mine : IsEnding opening before.file c.args.unit c.args.request =
    subst (λ (f : FileNow). IsEnding opening f c.args.unit c.args.request)
    (sym (ap (λ (v : VolumeNow g.row.B.Denot). v.file) c.self.view_is)) ending in
    let unit = c.args.unit in
    let state : State = state_now opening before.file in
    let image = image_of unit c.in-Ok.before in
    let stored = was.stored going in
    let last = last-state before.store (seen before.blocks) before.number state stored unit image
    c.in-Ok.ensures.at in
    let kept : IsLastKept state unit image.part image.place = (image, last, refl, refl) in
    held-at seen opening c.enter_undone.new.self c.put_last.new.blocks before.number
    c.put_last.new.self c.enter_undone.ensures.blocks c.enter_undone.ensures.volume
    c.enter_undone.ensures.store
    (held-undone seen opening before c.enter_undone.new.self.file c.put_last.new.self
    c.put_last.new.blocks c.args.after unit c.args.line c.in-Ok.before.part c.in-Ok.before.place
    c.enter_undone.ensures.leaves (ap (λ (s : StoreNow). s.space) c.put_last.ensures.rest) going was
    (c.enter_undone.ensures.state opening was.file going kept)
    (c.in-Ok.ensures.back told before.number state (puts_back unit state) stored mine.current
    (undone-in before.store.log.geometry state unit image c.in-Ok.before.old refl
    (last-kept-in before.store (seen before.blocks) before.number state stored unit image
    c.in-Ok.ensures.at) last)))

pub returns-in-Ok-clause-moments : goal.returns-in-Ok-clause-moments
returns-in-Ok-clause-moments g c told opening held ending =
    let seen = g.B.Blocks.seen in
    let before : VolumeNow g.row.B.Denot = record {
      blocks = c.self.inside.blocks;
      number = c.self.inside.number;
      store = c.self.inside.store;
      file = c.self.inside.file;
    } in
    let was : IsHeld seen opening before =
    subst (IsHeld seen opening) (sym c.self.view_is) held in
    let going : before.file.stopped ≡ None =
    ap (λ (v : VolumeNow g.row.B.Denot). v.file.stopped) c.self.view_is ∙ c.requires.going in
    let mine : IsEnding opening before.file c.args.unit c.args.request =
    subst (λ (f : FileNow). IsEnding opening f c.args.unit c.args.request)
    (sym (ap (λ (v : VolumeNow g.row.B.Denot). v.file) c.self.view_is)) ending in
    let state = state_now opening before.file in
    let stored = was.stored going in
    subst (λ (v : VolumeNow g.row.B.Denot). Guards (seen v.blocks) (seen c.enter_undone.new.self.blocks)
    (RecoversTo v.store.log.geometry v.number (state_now opening v.file) [])) c.self.view_is
    (subst (λ (b : g.row.B.Denot). Guards (seen before.blocks) (seen b)
    (RecoversTo before.store.log.geometry before.number state [])) (sym c.enter_undone.ensures.blocks)
    (recovers-safe before.number before.store state (seen before.blocks)
    (seen c.put_last.new.blocks) stored
    (c.put_last.ensures.moments told before.number state stored mine.current)))

pub returns-in-Err-clause-held : goal.returns-in-Err-clause-held
returns-in-Err-clause-held g c told opening held ending =
    let seen = g.B.Blocks.seen in
    let before : VolumeNow g.row.B.Denot = record {
      blocks = c.self.inside.blocks;
      number = c.self.inside.number;
      store = c.self.inside.store;
      file = c.self.inside.file;
    } in
    let was : IsHeld seen opening before =
    subst (IsHeld seen opening) (sym c.self.view_is) held in
    let mine : IsEnding opening before.file c.args.unit c.args.request =
    subst (λ (f : FileNow). IsEnding opening f c.args.unit c.args.request)
    (sym (ap (λ (v : VolumeNow g.row.B.Denot). v.file) c.self.view_is)) ending in
    c.stop.ensures.held told opening
    (known-with seen opening before c.put_last.new.self c.put_last.new.blocks
    (ap (λ (s : StoreNow). s.space) c.put_last.ensures.rest) was)
    (write-asked opening before.file c.args.unit c.args.request mine)

pub returns-in-Err-clause-moments : goal.returns-in-Err-clause-moments
returns-in-Err-clause-moments g c told opening held ending =
    let seen = g.B.Blocks.seen in
    let before : VolumeNow g.row.B.Denot = record {
      blocks = c.self.inside.blocks;
      number = c.self.inside.number;
      store = c.self.inside.store;
      file = c.self.inside.file;
    } in
    let was : IsHeld seen opening before =
    subst (IsHeld seen opening) (sym c.self.view_is) held in
    let going : before.file.stopped ≡ None =
    ap (λ (v : VolumeNow g.row.B.Denot). v.file.stopped) c.self.view_is ∙ c.requires.going in
    let mine : IsEnding opening before.file c.args.unit c.args.request =
    subst (λ (f : FileNow). IsEnding opening f c.args.unit c.args.request)
    (sym (ap (λ (v : VolumeNow g.row.B.Denot). v.file) c.self.view_is)) ending in
    let state = state_now opening before.file in
    let stored = was.stored going in
    subst (λ (v : VolumeNow g.row.B.Denot). Guards (seen v.blocks) (seen c.stop.new.self.blocks)
    (RecoversTo v.store.log.geometry v.number (state_now opening v.file) [])) c.self.view_is
    (subst (λ (b : g.row.B.Denot). Guards (seen before.blocks) (seen b)
    (RecoversTo before.store.log.geometry before.number state [])) (sym c.stop.ensures.blocks)
    (recovers-safe before.number before.store state (seen before.blocks)
    (seen c.put_last.new.blocks) stored
    (c.put_last.ensures.moments told before.number state stored mine.current)))

pub returns-in-Ok-clause-nearer : goal.returns-in-Ok-clause-nearer
returns-in-Ok-clause-nearer g c told =
    let unit = c.args.unit in
    let store = c.self.inside.store in
    subst (λ (v : VolumeNow g.row.B.Denot).
    left_for unit c.enter_undone.new.self.store < left_for unit v.store) c.self.view_is
    (subst (λ (s : StoreNow). left_for unit s < left_for unit store)
    (sym c.enter_undone.ensures.store) (c.put_last.ensures.nearer))

pub returns-in-Ok-clause-splits : goal.returns-in-Ok-clause-splits
returns-in-Ok-clause-splits g c told =
    let before : VolumeNow g.row.B.Denot = record {
      blocks = c.self.inside.blocks;
      number = c.self.inside.number;
      store = c.self.inside.store;
      file = c.self.inside.file;
    } in
    let new = c.enter_undone.new.self in
    let some = subst (λ (v : VolumeNow g.row.B.Denot). last_of_unit v.store c.args.unit ≢ None)
    (sym c.self.view_is) c.requires.some in
    subst (λ (v : VolumeNow g.row.B.Denot). EntersSplits v new) c.self.view_is
    (splits-none before new
    (λ going. subst (KeepsUsed before.store) (sym c.enter_undone.ensures.store)
    (keeps-last before.store c.put_last.new.self c.args.unit some c.put_last.ensures.parts))
    (none-event c.args.after c.args.unit c.args.line
    (Undone c.in-Ok.before.part c.in-Ok.before.place) before.file new.file
    c.enter_undone.ensures.leaves (λ n. refl)))

pub returns-in-Err-clause-splits : goal.returns-in-Err-clause-splits
returns-in-Err-clause-splits g c told going = absurd (c.stop.ensures.stops going)
