use Rattle.std.proofs.Common.{◌≡◌, ap, subst, sym, ◌∙◌}
use Rattle.std.specs.List.Sorted.{IsPermutation}
use Rattle.vr_types.specs.Space.{free_count}
use Rattle.vr_answer.specs.Here.{base_here}
use Rattle.vr_history.specs.Step.{case_of}
use Rattle.vr_record_file.specs.Now.{FileNow, state_now}
use Rattle.vr_event.specs.Getting.{IsAsked, MayEnd}
use Rattle.vr_store.specs.Store.{IsStored, StoreNow}
use Rattle.vr_event.specs.Opening.{owned_in}
use Rattle.vr_event.specs.Volume.{IsHeld, IsWhole, OwnLaid, VolumeNow}
use Rattle.vr_event.proofs.SpaceHeld.{space-held}
use Rattle.vr_store.proofs.CallerLemmas.{stored-keeps}
use Rattle.vr_event.specs.Cause.{HasOutcomeCause}
use Rattle.vr_event.proofs.volume.Volume.decide_read.Goals as goal

pub returns-clause-held : goal.returns-clause-held
returns-clause-held g c told opening held =
    let seen = g.B.Blocks.seen in
    let before : VolumeNow g.row.B.Denot = record {
      blocks = c.self.inside.blocks;
      number = c.self.inside.number;
      store = c.self.inside.store;
      file = c.self.inside.file;
    } in
    let then : IsHeld seen opening before =
    subst (IsHeld seen opening) (sym c.self.view_is) held in
    let same = sym c.decide.ensures.same in
    record {
      file = then.file;
      free = ap (λ (s : StoreNow). free_count s.space) c.decide.ensures.same ∙ then.free;
      owned = subst (λ (s : StoreNow). IsPermutation (owned_in s.space)
          (state_now opening before.file).owned) same then.owned;
      unlaid = λ going. subst (λ (s : StoreNow). OwnLaid before.file.geometry before.file.catalog
          s.space) same (then.unlaid going);
      stored = λ going. subst (λ (s : StoreNow). IsStored before.number s
          (state_now opening before.file) (seen c.decide.new.blocks)) same
          (stored-keeps g.B.Blocks.tells told (seen before.blocks) (seen c.decide.new.blocks)
          c.decide.ensures.keeps before.number before.store (state_now opening before.file)
          (g.met.B.Blocks.cur_may before.blocks told) (then.stored going));
    }

pub returns-clause-ends : goal.returns-clause-ends
returns-clause-ends g c told opening held asked =
    let seen = g.B.Blocks.seen in
    let before : VolumeNow g.row.B.Denot = record {
      blocks = c.self.inside.blocks;
      number = c.self.inside.number;
      store = c.self.inside.store;
      file = c.self.inside.file;
    } in
    let then : IsHeld seen opening before =
    subst (IsHeld seen opening) (sym c.self.view_is) held in
    let of-file : before.file ≡ c.args.self.now.file =
    ap (λ (v : VolumeNow g.row.B.Denot). v.file) c.self.view_is in
    let mine = subst (λ (f : FileNow). IsAsked opening f c.args.unit c.args.request.now)
    (sym of-file) asked in
    let going = ap (λ (f : FileNow). f.stopped) of-file ∙ c.requires.going in
    let whole : IsWhole seen before = subst (IsWhole seen) (sym c.self.view_is) c.requires.whole in
    subst (λ (f : FileNow). MayEnd (case_of f.geometry (state_now opening f) c.args.unit
    c.args.request.now) c.decide.result) of-file
    (c.decide.ensures.ends told before.number opening then.file going (then.stored going)
    mine.of_deck mine.read
    (space-held seen opening before whole then going c.args.unit c.args.request.now
    (base_here c.args.request.now)) mine.unrefused)

pub returns-clause-cause : goal.returns-clause-cause
returns-clause-cause g c =
    subst (λ (v : VolumeNow g.row.B.Denot). HasOutcomeCause (g.B.Blocks.faults v.blocks)
    (g.B.Blocks.faults c.decide.new.blocks) c.decide.result) c.self.view_is
    c.decide.ensures.cause
