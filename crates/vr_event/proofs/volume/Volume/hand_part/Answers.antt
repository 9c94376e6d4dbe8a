use Rattle.std.proofs.Common.{◌≡◌, ◌-◌, ◌^◌, ℕ, [], None, ap, refl, subst, sym, ◌∙◌}
use Rattle.std.specs.List.Sorted.{IsPermutation}
use Rattle.std.specs.Option.{option_copied}
use Rattle.std.proofs.lemmas.Result.{on_ok_weaker}
use Rattle.vr_types.specs.Moments.{Guards}
use Rattle.vr_types.specs.Space.{free_count}
use Rattle.vr_trace.specs.Visitors.{visited_by}
use Rattle.vr_history.specs.State.{State}
use Rattle.vr_record_file.specs.Now.{state_now}
use Rattle.vr_volume.specs.Crashes.{RecoversTo}
use Rattle.vr_store.specs.Cause.{HasLookCause}
use Rattle.vr_store.specs.Store.{IsSet, IsStored, StoreNow, shape_among}
use Rattle.vr_store.proofs.CallerLemmas.{set-keeps, stored-keeps}
use Rattle.vr_event.specs.Reading.{HasVisitedSome, first_records}
use Rattle.vr_event.specs.Opening.{owned_in}
use Rattle.vr_event.specs.Volume.{IsHeld, IsWhole, OwnLaid, VolumeNow}
use Rattle.vr_event.proofs.HandedRecords.{unless-weaker}
use Rattle.vr_event.proofs.Recovers.{recovers-keeps}
use Rattle.vr_event.proofs.Wholes.{whole-of}
use Rattle.vr_event.proofs.volume.Volume.hand_part.Goals as goal

pub returns-clause-held : goal.returns-clause-held
returns-clause-held g c told opening held =
    let seen = g.B.Blocks.seen in
    let before : VolumeNow g.row.B.Denot = record {
      blocks = c.self.inside.blocks;
      number = c.self.inside.number;
      store = c.self.inside.store;
      file = c.self.inside.file;
    } in
    let then : IsHeld seen opening before =
    subst (IsHeld seen opening) (sym c.self.view_is) held in
    let same = sym c.hand_records.ensures.same in
    record {
      file = then.file;
      free = ap (λ (s : StoreNow). free_count s.space) c.hand_records.ensures.same ∙ then.free;
      owned = subst (λ (s : StoreNow). IsPermutation (owned_in s.space)
          (state_now opening before.file).owned) same then.owned;
      unlaid = λ going. subst (λ (s : StoreNow). OwnLaid before.file.geometry before.file.catalog
          s.space) same (then.unlaid going);
      stored = λ going. subst (λ (s : StoreNow). IsStored before.number s
          (state_now opening before.file) (seen c.hand_records.new.blocks)) same
          (stored-keeps g.B.Blocks.tells told (seen before.blocks)
          (seen c.hand_records.new.blocks) c.hand_records.ensures.keeps before.number
          before.store (state_now opening before.file)
          (g.met.B.Blocks.cur_may before.blocks told) (then.stored going));
    }

pub returns-clause-whole : goal.returns-clause-whole
returns-clause-whole g c =
    let seen = g.B.Blocks.seen in
    let before : VolumeNow g.row.B.Denot = record {
      blocks = c.self.inside.blocks;
      number = c.self.inside.number;
      store = c.self.inside.store;
      file = c.self.inside.file;
    } in
    let whole : IsWhole seen before = subst (IsWhole seen) (sym c.self.view_is) c.requires.whole in
    let same = c.hand_records.ensures.same in
    whole-of seen before c.hand_records.new.store c.hand_records.new.blocks before.file whole
    (λ going. going) refl refl
    (λ going. ap (λ (s : StoreNow). s.log.geometry) same)
    (λ going n. ap (λ (s : StoreNow). shape_among s.parts n) same)
    (λ going. subst (λ (s : StoreNow). IsSet s (seen c.hand_records.new.blocks)) (sym same)
    (set-keeps g.B.Blocks.tells before.store (seen before.blocks)
    (seen c.hand_records.new.blocks) c.hand_records.ensures.keeps (whole.set going)))

pub returns-clause-all : goal.returns-clause-all
returns-clause-all g c told =
    let seen = g.B.Blocks.seen in
    let R = g.R.RecordVisitor in
    let part = c.args.part.0 in
    let from = option_copied c.args.from in
    let before : VolumeNow g.row.B.Denot = record {
      blocks = c.self.inside.blocks;
      number = c.self.inside.number;
      store = c.self.inside.store;
      file = c.self.inside.file;
    } in
    let going : before.file.stopped ≡ None =
    ap (λ (v : VolumeNow g.row.B.Denot). v.file.stopped) c.self.view_is ∙ c.requires.going in
    on_ok_weaker c.hand_records.result
    (λ is opening held.
    let then : IsHeld seen opening before =
    subst (IsHeld seen opening) (sym c.self.view_is) held in
    subst (λ (v : VolumeNow g.row.B.Denot).
    c.hand_records.new.visitor ≡ visited_by R.after R.done (first_records (2 ^ 64 - 1) from
    ((state_now opening v.file).contents part)) c.args.visitor.now) c.self.view_is
    (is before.number (state_now opening before.file) (then.stored going)))
    (c.hand_records.ensures.all told)

pub returns-clause-first : goal.returns-clause-first
returns-clause-first g c told =
    let seen = g.B.Blocks.seen in
    let R = g.R.RecordVisitor in
    let part = c.args.part.0 in
    let from = option_copied c.args.from in
    let before : VolumeNow g.row.B.Denot = record {
      blocks = c.self.inside.blocks;
      number = c.self.inside.number;
      store = c.self.inside.store;
      file = c.self.inside.file;
    } in
    let going : before.file.stopped ≡ None =
    ap (λ (v : VolumeNow g.row.B.Denot). v.file.stopped) c.self.view_is ∙ c.requires.going in
    unless-weaker c.hand_records.result
    ((volume : ℕ) (state : State) → IsStored volume before.store state (seen before.blocks)
    → HasVisitedSome R.after R.done from (state.contents part) c.args.visitor.now
    c.hand_records.new.visitor)
    ((opening : State) → IsHeld seen opening c.args.self.now
    → HasVisitedSome R.after R.done from
    ((state_now opening c.args.self.now.file).contents part) c.args.visitor.now
    c.hand_records.new.visitor)
    (λ is opening held.
    let then : IsHeld seen opening before =
    subst (IsHeld seen opening) (sym c.self.view_is) held in
    subst (λ (v : VolumeNow g.row.B.Denot). HasVisitedSome R.after R.done from
    ((state_now opening v.file).contents part) c.args.visitor.now
    c.hand_records.new.visitor) c.self.view_is
    (is before.number (state_now opening before.file) (then.stored going)))
    (c.hand_records.ensures.first told)

pub returns-clause-moments : goal.returns-clause-moments
returns-clause-moments g c told opening held =
    let seen = g.B.Blocks.seen in
    let before : VolumeNow g.row.B.Denot = record {
      blocks = c.self.inside.blocks;
      number = c.self.inside.number;
      store = c.self.inside.store;
      file = c.self.inside.file;
    } in
    let then : IsHeld seen opening before =
    subst (IsHeld seen opening) (sym c.self.view_is) held in
    let going : before.file.stopped ≡ None =
    ap (λ (v : VolumeNow g.row.B.Denot). v.file.stopped) c.self.view_is ∙ c.requires.going in
    subst (λ (v : VolumeNow g.row.B.Denot). Guards (seen v.blocks)
    (seen c.hand_records.new.blocks)
    (RecoversTo v.store.log.geometry v.number (state_now opening v.file) [])) c.self.view_is
    (recovers-keeps before.number before.store (state_now opening before.file)
    (seen before.blocks) (seen c.hand_records.new.blocks) (then.stored going) g.B.Blocks.tells told
    c.hand_records.ensures.keeps)

pub returns-clause-cause : goal.returns-clause-cause
returns-clause-cause g c =
    subst (λ (v : VolumeNow g.row.B.Denot). HasLookCause (g.B.Blocks.faults v.blocks)
    (g.B.Blocks.faults c.hand_records.new.blocks) c.hand_records.result) c.self.view_is
    c.hand_records.ensures.cause
