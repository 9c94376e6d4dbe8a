use Rattle.std.proofs.Common.{◌≡◌, ◌∙◌, None, Some, ap, refl, subst, sym}
use Rattle.vr_history.specs.Change.{place_changed}
use Rattle.vr_history.specs.Replies.{first_of}
use Rattle.vr_history.specs.Step.{case_of}
use Rattle.vr_answer.specs.Tried.{file_refusals}
use Rattle.vr_record_file.specs.Now.{FileNow, state_now}
use Rattle.vr_event.specs.Lacking.{IfLacks, LacksRoomIn}
use Rattle.vr_event.specs.Putting.{MayWeigh}
use Rattle.vr_store.specs.Store.{StoreNow}
use Rattle.vr_event.specs.Volume.{IsHeld, IsWhole, VolumeNow}
use Rattle.vr_event.proofs.MetParts.{met-shapes}
use Rattle.vr_event.proofs.SpaceHeld.{space-held}
use Rattle.vr_event.proofs.Wholes.{held-moved, whole-of}
use Rattle.vr_event.specs.Nearer.{MeetsOnly}
use Rattle.vr_event.proofs.volume.Volume.weigh_change.Goals as goal

pub returns-clause-may : goal.returns-clause-may
returns-clause-may g c told opening held =
    let seen = g.B.Blocks.seen in
    let before : VolumeNow g.row.B.Denot = record {
      blocks = c.self.inside.blocks;
      number = c.self.inside.number;
      store = c.self.inside.store;
      file = c.self.inside.file;
    } in
    let was : IsHeld seen opening before =
    subst (IsHeld seen opening) (sym c.self.view_is) held in
    let of-file : before.file ≡ c.args.self.now.file =
    ap (λ (v : VolumeNow g.row.B.Denot). v.file) c.self.view_is in
    let going = ap (λ (f : FileNow). f.stopped) of-file ∙ c.requires.going in
    let whole : IsWhole seen before = subst (IsWhole seen) (sym c.self.view_is) c.requires.whole in
    subst (λ (f : FileNow). MayWeigh (case_of f.geometry (state_now opening f) c.args.unit
    c.args.request.now) c.weigh.result) of-file
    (c.weigh.ensures.may told before.number opening was.file going (was.stored going)
    (space-held seen opening before whole was going c.args.unit c.args.request.now c.args.part.0))

pub returns-clause-held : goal.returns-clause-held
returns-clause-held g c told opening held =
    let seen = g.B.Blocks.seen in
    let before : VolumeNow g.row.B.Denot = record {
      blocks = c.self.inside.blocks;
      number = c.self.inside.number;
      store = c.self.inside.store;
      file = c.self.inside.file;
    } in
    let was : IsHeld seen opening before =
    subst (IsHeld seen opening) (sym c.self.view_is) held in
    held-moved seen opening before c.weigh.new.store c.weigh.new.blocks
    (ap (λ (s : StoreNow). s.space) c.weigh.ensures.rest)
    (λ going. c.weigh.ensures.stored told before.number (state_now opening before.file)
    (was.stored going)) was

pub returns-clause-whole : goal.returns-clause-whole
returns-clause-whole g c =
    let seen = g.B.Blocks.seen in
    let before : VolumeNow g.row.B.Denot = record {
      blocks = c.self.inside.blocks;
      number = c.self.inside.number;
      store = c.self.inside.store;
      file = c.self.inside.file;
    } in
    let whole : IsWhole seen before = subst (IsWhole seen) (sym c.self.view_is) c.requires.whole in
    whole-of seen before c.weigh.new.store c.weigh.new.blocks before.file whole (λ going. going)
    refl refl
    (λ going. ap (λ (s : StoreNow). s.log.geometry) c.weigh.ensures.rest)
    (λ going. met-shapes c.args.part.0 before.store.parts c.weigh.new.store.parts
    c.weigh.ensures.parts)
    (λ going. c.weigh.ensures.set)

pub returns-clause-lacks : goal.returns-clause-lacks
returns-clause-lacks g c told opening held none place at =
    let seen = g.B.Blocks.seen in
    let before : VolumeNow g.row.B.Denot = record {
      blocks = c.self.inside.blocks;
      number = c.self.inside.number;
      store = c.self.inside.store;
      file = c.self.inside.file;
    } in
    let request = c.args.request.now in
    let was : IsHeld seen opening before =
    subst (IsHeld seen opening) (sym c.self.view_is) held in
    let going = ap (λ (v : VolumeNow g.row.B.Denot). v.file.stopped) c.self.view_is
    ∙ c.requires.going in
    let whole : IsWhole seen before = subst (IsWhole seen) (sym c.self.view_is) c.requires.whole in
    subst (λ (v : VolumeNow g.row.B.Denot).
    first_of (file_refusals (case_of v.file.geometry (state_now opening v.file) c.args.unit
    request)) ≡ None
    → place_changed (case_of v.file.geometry (state_now opening v.file) c.args.unit request)
    ≡ Some place
    → IfLacks (LacksRoomIn v.store (seen v.blocks).cur c.args.part.0 place request) c.weigh.result)
    c.self.view_is
    (λ none at. c.weigh.ensures.lacks told before.number opening was.file going (was.stored going)
    (space-held seen opening before whole was going c.args.unit request c.args.part.0) none place at)
    none at

pub returns-clause-meets : goal.returns-clause-meets
returns-clause-meets g c =
    subst (λ (v : VolumeNow g.row.B.Denot). MeetsOnly v.store c.weigh.new.store) c.self.view_is
    (record {
      number = c.args.part.0;
      parts = c.weigh.ensures.parts;
      rest = c.weigh.ensures.rest;
    })
