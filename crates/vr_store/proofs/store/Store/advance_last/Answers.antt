use Rattle.std.specs.Prelude.{IfSome}
use Rattle.vr_types.specs.declared.unit.StageKind.{StageKind}
use Rattle.vr_types.specs.declared.unit.StageKind.TheVariants.{Extend}
use Rattle.vr_types.specs.Space.{free_count}
use Rattle.vr_space.specs.Left.{added_by}
use Rattle.vr_space.specs.Part.{IsStageOf, OwnersAfter, Shape}
use Rattle.vr_space.specs.declared.room.Room.TheVariants.{Stage}
use Rattle.std.proofs.lemmas.Bool.{true≢false}
use Rattle.vr_undo.specs.declared.before.Before.{Before}
use Rattle.std.proofs.Common.{ℕ, ◌≡◌, ◌≢◌, ◌<◌, true, List, None, Option, Some, ap, map, refl, subst, sym, ◌∙◌}
use Rattle.vr_types.specs.declared.unit.PartNo.{PartNo}
use Rattle.vr_types.specs.declared.unit.Unit.{Unit as UnitOfRecovery}
use Rattle.vr_space.specs.Owners.{Owners}
use Rattle.vr_attach.specs.Owning.{claimed_by, owner_of}
use Rattle.vr_history.specs.State.{BeforeImage}
use Rattle.vr_store.specs.LastImage.{HasAdvanced, IsDueAtLast, IsSplitDue, OnLast, claimed_for}
use Rattle.vr_store.specs.LastImage.{is_stage, last_claimed, last_of_unit, stage_told}
use Rattle.vr_types.specs.Moments.{Guards}
use Rattle.vr_volume.specs.Committed.{committed_by}
use Rattle.vr_volume.specs.Safe.{IsSafeImage}
use Rattle.vr_undo.specs.Records.{befores_of, image_of}
use Rattle.vr_store.specs.Left.{left_for}
use Rattle.vr_store.specs.Parts.{HasMoreAt, OnlySplit}
use Rattle.vr_store.specs.Store.{IsFitImage, IsSet, IsStored, PartNow, StoreNow, part_now, shape_among}
use Rattle.vr_store.specs.Store.{store_of}
use Rattle.vr_store.proofs.Kept.{err-as}
use Rattle.vr_store.proofs.LastImages.{last-has, last-lent, last-on, on-last}
use Rattle.vr_store.proofs.PlacedParts.{shapes-same}
use Rattle.vr_store.proofs.Rooms.{split-first, split-takes-none}
use Rattle.vr_store.proofs.StagesLeft.{more-told, waits-staged}
use Rattle.vr_store.proofs.store.Store.advance_last.Goals as goal

-- which part each block is of, where the part of the last image got the least free area
last-areas : (store : StoreNow) (unit : UnitOfRecovery) (last : BeforeImage) (part : PartNo)
    → last_of_unit store unit ≡ Some last → part.0 ≡ last.part
    → owner_of store.log.geometry (claimed_by part store.space) ≡ last_claimed store unit
last-areas store unit last part is same =
    ap (λ (n : ℕ). let named : PartNo = record { 0 = n } in
    owner_of store.log.geometry (claimed_by named store.space)) same
    ∙ ap (λ (found : Option BeforeImage). owner_of store.log.geometry
    (claimed_for store.space found)) (sym is)

pub advance_at-requires-clause-part : goal.advance_at-requires-clause-part
advance_at-requires-clause-part g c =
    let unit = c.args.unit in
    let inside = c.self.inside in
    let before = c.in-Some.before.now in
    let parts = map (part_now g.P.Part.shape g.P.Part.known) inside.parts.items in
    let set = subst (λ (s : StoreNow). IsSet s (g.B.Blocks.seen c.args.blocks.now))
    (sym c.self.view_is) c.requires.set in
    (last-has (IsFitImage parts) unit (befores_of inside.undo) (image_of unit before) set.kept
    (last-lent unit (befores_of inside.undo) c.last.result c.in-Some.before c.in-Some.is
    c.last.ensures)).part

pub advance_at-requires-clause-place : goal.advance_at-requires-clause-place
advance_at-requires-clause-place g c =
    let unit = c.args.unit in
    let inside = c.self.inside in
    let before = c.in-Some.before.now in
    let parts = map (part_now g.P.Part.shape g.P.Part.known) inside.parts.items in
    let set = subst (λ (s : StoreNow). IsSet s (g.B.Blocks.seen c.args.blocks.now))
    (sym c.self.view_is) c.requires.set in
    (last-has (IsFitImage parts) unit (befores_of inside.undo) (image_of unit before) set.kept
    (last-lent unit (befores_of inside.undo) c.last.result c.in-Some.before c.in-Some.is
    c.last.ensures)).place

pub returns-in_err-kind-in-Some-clause-shapes : goal.returns-in_err-kind-in-Some-clause-shapes
returns-in_err-kind-in-Some-clause-shapes g c number =
    let shape = g.P.Part.shape in
    let known = g.P.Part.known in
    let old = map (part_now shape known) c.self.inside.parts.items in
    let new = map (part_now shape known) c.advance_at.new.parts.items in
    shapes-same new old c.advance_at.ensures.parts.parts number
    ∙ ap (λ (s : StoreNow). shape_among s.parts number) c.self.view_is

pub returns-in_err-kind-in-Some-clause-moments : goal.returns-in_err-kind-in-Some-clause-moments
returns-in_err-kind-in-Some-clause-moments g c told volume state =
    let inside = c.self.inside in
    let store : StoreNow = store_of g.P.Part.shape g.P.Part.known inside.log inside.undo
    inside.parts.items inside.changed.items inside.space in
    let a = g.B.Blocks.seen c.args.blocks.now in
    let b = g.B.Blocks.seen c.advance_at.new.blocks in
    subst (λ (s : StoreNow). IsStored volume s state a → Guards a b
    (IsSafeImage s.log.geometry volume (last_claimed s c.args.unit) s.log (committed_by state)))
    c.self.view_is
    (subst (λ (owners : Owners). IsStored volume store state a → Guards a b
    (IsSafeImage store.log.geometry volume owners store.log (committed_by state)))
    (last-areas store c.args.unit (image_of c.args.unit c.in-Some.before.now)
    c.in-Some.before.now.part
    (last-lent c.args.unit (befores_of inside.undo) c.last.result c.in-Some.before c.in-Some.is
    c.last.ensures) refl)
    (c.advance_at.ensures.moments told volume state))

pub returns-in_err-kind-in-Some-clause-unread : goal.returns-in_err-kind-in-Some-clause-unread
returns-in_err-kind-in-Some-clause-unread g c =
    err-as c.from_residual.result c.in_err-kind-in-Some.field-0.0 _ c.from_residual.ensures.1
    (λ read. let unread = c.in_err-kind-in-Some.ensures.unread read in (
      unread.0,
      λ told volume state stored. unread.1 told volume state
          (subst (λ (s : StoreNow). IsStored volume s state (g.B.Blocks.seen c.args.blocks.now))
          (sym c.self.view_is) stored),
    ))

pub returns-clause-shapes : goal.returns-clause-shapes
returns-clause-shapes g c number =
    let shape = g.P.Part.shape in
    let known = g.P.Part.known in
    let old = map (part_now shape known) c.self.inside.parts.items in
    let new = map (part_now shape known) c.advance_at.new.parts.items in
    shapes-same new old c.advance_at.ensures.parts.parts number
    ∙ ap (λ (s : StoreNow). shape_among s.parts number) c.self.view_is

pub returns-clause-moments : goal.returns-clause-moments
returns-clause-moments g c told volume state =
    let inside = c.self.inside in
    let store : StoreNow = store_of g.P.Part.shape g.P.Part.known inside.log inside.undo
    inside.parts.items inside.changed.items inside.space in
    let a = g.B.Blocks.seen c.args.blocks.now in
    let b = g.B.Blocks.seen c.advance_at.new.blocks in
    subst (λ (s : StoreNow). IsStored volume s state a → Guards a b
    (IsSafeImage s.log.geometry volume (last_claimed s c.args.unit) s.log (committed_by state)))
    c.self.view_is
    (subst (λ (owners : Owners). IsStored volume store state a → Guards a b
    (IsSafeImage store.log.geometry volume owners store.log (committed_by state)))
    (last-areas store c.args.unit (image_of c.args.unit c.in-Some.before.now)
    c.in-Some.before.now.part
    (last-lent c.args.unit (befores_of inside.undo) c.last.result c.in-Some.before c.in-Some.is
    c.last.ensures) refl)
    (c.advance_at.ensures.moments told volume state))

pub returns-clause-stored : goal.returns-clause-stored
returns-clause-stored g c told volume state stored =
    c.in_ok-kind-in-Some.ensures.stored told volume state
    (subst (λ (s : StoreNow). IsStored volume s state (g.B.Blocks.seen c.args.blocks.now))
    (sym c.self.view_is) stored)

advanced : (part : PartNo) (kind : StageKind) (old new : List (Option PartNo))
    (found : Option Shape) → IfSome found (λ (shape : Shape). IsStageOf shape kind)
    → OwnersAfter part kind old new
    → IfSome found (λ (shape : Shape). HasAdvanced part shape old new)
advanced part kind old new None stage owners = tt
advanced part kind old new (Some shape) stage owners =
    record { kind = kind; stage = stage; owners = owners }

pub returns-clause-owners : goal.returns-clause-owners
returns-clause-owners g c told =
    let inside = c.self.inside in
    let store : StoreNow = store_of g.P.Part.shape g.P.Part.known inside.log inside.undo
    inside.parts.items inside.changed.items inside.space in
    let done = c.in_ok-kind-in-Some in
    let before = c.in-Some.before.now in
    let last : BeforeImage = image_of c.args.unit before in
    let new : List (Option PartNo) = c.advance_at.new.space in
    subst (λ (s : StoreNow). OnLast s c.args.unit (λ (image : BeforeImage).
    IfSome (shape_among s.parts image.part)
    (λ (shape : Shape). HasAdvanced (record { 0 = image.part }) shape s.space new)))
    c.self.view_is
    (last-on
    (λ (image : BeforeImage). IfSome (shape_among store.parts image.part)
    (λ (shape : Shape). HasAdvanced (record { 0 = image.part }) shape store.space new))
    (last_of_unit store c.args.unit) last
    (last-lent c.args.unit (befores_of inside.undo) c.last.result c.in-Some.before c.in-Some.is
    c.last.ensures)
    (advanced before.part done.kind store.space new (shape_among store.parts before.part.0)
    (done.ensures.kind told) done.ensures.owners))

-- the stage that was done takes no area
pub returns-clause-claims_none : goal.returns-clause-claims_none
returns-clause-claims_none g c told =
    let inside = c.self.inside in
    let store : StoreNow = store_of g.P.Part.shape g.P.Part.known inside.log inside.undo
    inside.parts.items inside.changed.items inside.space in
    let a = g.B.Blocks.seen c.args.blocks.now in
    let unit = c.args.unit in
    let before = c.in-Some.before.now in
    let last : BeforeImage = image_of unit before in
    let is : last_of_unit store unit ≡ Some last = last-lent unit (befores_of inside.undo)
    c.last.result c.in-Some.before c.in-Some.is c.last.ensures in
    let set = subst (λ (s : StoreNow). IsSet s a) (sym c.self.view_is) c.requires.set in
    let due = subst (λ (s : StoreNow). IsDueAtLast s a.cur unit c.args.length)
    (sym c.self.view_is) (c.requires.due told) in
    let done = c.in_ok-kind-in-Some in
    split-takes-none store a.cur before.part.0 before.place c.args.length before.part done.kind
    c.advance_at.new.space
    (last-has (IsFitImage store.parts) unit (befores_of inside.undo) last set.kept is).part
    (on-last (λ (image : BeforeImage). IsSplitDue store a.cur image.part image.place c.args.length)
    (last_of_unit store unit) last is due)
    (done.ensures.stage told) (done.ensures.kind told) done.ensures.owners
    ∙ ap (λ (s : StoreNow). s.space) c.self.view_is

-- it is none that makes a chain longer, so the answer tells how many intervals it adds
told-by : (kind : StageKind) (answer : Option PartNo) → is_stage (Stage kind) ≡ true
    → (kind ≢ Extend → added_by (stage_told answer) ≡ added_by kind)
    → added_by (stage_told answer) ≡ added_by kind
told-by kind answer first told = told (λ same. true≢false (sym first
    ∙ ap (λ (one : StageKind). is_stage (Stage one)) same))

pub returns-clause-more : goal.returns-clause-more
returns-clause-more g c told =
    let inside = c.self.inside in
    let store : StoreNow = store_of g.P.Part.shape g.P.Part.known inside.log inside.undo
    inside.parts.items inside.changed.items inside.space in
    let new = map (part_now g.P.Part.shape g.P.Part.known) c.advance_at.new.parts.items in
    let a = g.B.Blocks.seen c.args.blocks.now in
    let unit = c.args.unit in
    let before = c.in-Some.before.now in
    let last : BeforeImage = image_of unit before in
    let is : last_of_unit store unit ≡ Some last = last-lent unit (befores_of inside.undo)
    c.last.result c.in-Some.before c.in-Some.is c.last.ensures in
    let set = subst (λ (s : StoreNow). IsSet s a) (sym c.self.view_is) c.requires.set in
    let due = subst (λ (s : StoreNow). IsDueAtLast s a.cur unit c.args.length)
    (sym c.self.view_is) (c.requires.due told) in
    let done = c.in_ok-kind-in-Some in
    let told_kind = stage_told c.split_in.result in
    let free = free_count store.space in
    let left = free_count c.advance_at.new.space in
    let first = split-first store a.cur before.part.0 before.place c.args.length done.kind
    (last-has (IsFitImage store.parts) unit (befores_of inside.undo) last set.kept is).part
    (on-last (λ (image : BeforeImage). IsSplitDue store a.cur image.part image.place c.args.length)
    (last_of_unit store unit) last is due)
    (done.ensures.stage told) in
    subst (λ (s : StoreNow). OnLast s unit (λ (image : BeforeImage).
    HasMoreAt image.part told_kind s.parts new (free_count s.space) left)) c.self.view_is
    (last-on (λ (image : BeforeImage). HasMoreAt image.part told_kind store.parts new free left)
    (last_of_unit store unit) last is
    (more-told before.part.0 done.kind told_kind store.parts new free left
    (told-by done.kind c.split_in.result first c.split_in.ensures) (done.ensures.more told)))

pub returns-clause-nearer : goal.returns-clause-nearer
returns-clause-nearer g c told waits =
    let inside = c.self.inside in
    let store : StoreNow = store_of g.P.Part.shape g.P.Part.known inside.log inside.undo
    inside.parts.items inside.changed.items inside.space in
    let new = map (part_now g.P.Part.shape g.P.Part.known) c.advance_at.new.parts.items in
    let space = c.advance_at.new.space in
    subst (λ (s : StoreNow). left_for waits (record store { parts = new; space = space })
    < left_for waits s) c.self.view_is
    (waits-staged waits store new space (c.in_ok-kind-in-Some.ensures.fewer told))

-- whether it fails or not, of that part alone there is something new
split-on : (store : StoreNow) (unit : UnitOfRecovery) (before : Before) (new : List PartNow)
    → last_of_unit store unit ≡ Some (image_of unit before)
    → OnlySplit before.part.0 store.parts new
    → OnLast store unit (λ (last : BeforeImage). OnlySplit last.part store.parts new)
split-on store unit before new is =
    last-on (λ (last : BeforeImage). OnlySplit last.part store.parts new)
    (last_of_unit store unit) (image_of unit before) is

pub returns-in_err-kind-in-Some-clause-parts : goal.returns-in_err-kind-in-Some-clause-parts
returns-in_err-kind-in-Some-clause-parts g c =
    let inside = c.self.inside in
    let store : StoreNow = store_of g.P.Part.shape g.P.Part.known inside.log inside.undo
    inside.parts.items inside.changed.items inside.space in
    let new = map (part_now g.P.Part.shape g.P.Part.known) c.advance_at.new.parts.items in
    subst (λ (s : StoreNow). OnLast s c.args.unit (λ (last : BeforeImage).
    OnlySplit last.part s.parts new)) c.self.view_is
    (split-on store c.args.unit c.in-Some.before.now new
    (last-lent c.args.unit (befores_of inside.undo) c.last.result c.in-Some.before c.in-Some.is
    c.last.ensures) c.advance_at.ensures.parts)

pub returns-clause-parts : goal.returns-clause-parts
returns-clause-parts g c =
    let inside = c.self.inside in
    let store : StoreNow = store_of g.P.Part.shape g.P.Part.known inside.log inside.undo
    inside.parts.items inside.changed.items inside.space in
    let new = map (part_now g.P.Part.shape g.P.Part.known) c.advance_at.new.parts.items in
    subst (λ (s : StoreNow). OnLast s c.args.unit (λ (last : BeforeImage).
    OnlySplit last.part s.parts new)) c.self.view_is
    (split-on store c.args.unit c.in-Some.before.now new
    (last-lent c.args.unit (befores_of inside.undo) c.last.result c.in-Some.before c.in-Some.is
    c.last.ensures) c.advance_at.ensures.parts)
