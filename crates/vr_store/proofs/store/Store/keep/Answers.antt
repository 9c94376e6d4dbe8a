use Rattle.std.proofs.Common.{◌∙◌, List, ap, sym, subst, map}
use Rattle.std.specs.Option.{option_copied}
use Rattle.std.specs.Prelude.{All, IfSome}
use Rattle.vr_space.specs.Part.{IsGiven, IsPlaceOf}
use Rattle.vr_undo.specs.Records.{before_of, befores_of, image_of}
use Rattle.vr_undo.specs.declared.record.KeptRecord.{KeptRecord}
use Rattle.vr_store.specs.Store.{HasLength, IsFitImage, IsSet, IsStored, StoreNow, changed_by}
use Rattle.vr_store.specs.Store.{part_among}
use Rattle.vr_store.specs.Store.{part_now, shape_among}
use Rattle.vr_store.proofs.Fits.{fit-new, fits-kept}
use Rattle.vr_store.proofs.Kept.{kept-changed, on-err, set-changed, stored-changed}
use Rattle.vr_store.proofs.Kept.{stored-unkept}
use Rattle.vr_store.proofs.store.Store.keep.Goals as goal

pub returns-in_err-make_room-clause-stored : goal.returns-in_err-make_room-clause-stored
returns-in_err-make_room-clause-stored g c =
    let now = g.B.Blocks.seen c.args.blocks.now in
    on-err c.from_residual.result (λ volume state stored.
    stored-changed _ now (map changed_by c.make_room.new.changed.items) c.make_room.ensures.blocks
    volume state
    (subst (λ (store : StoreNow). IsStored volume store state now) (sym c.self.view_is) stored))

pub returns-in_err-make_room-clause-set : goal.returns-in_err-make_room-clause-set
returns-in_err-make_room-clause-set g c set =
    let now = g.B.Blocks.seen c.args.blocks.now in
    let is-set = subst (λ (store : StoreNow). IsSet store now) (sym c.self.view_is) set in
    set-changed _ now (map changed_by c.make_room.new.changed.items) c.self.inside.undo
    c.make_room.ensures.each is-set.kept is-set

pub returns-in_err-rec-clause-stored : goal.returns-in_err-rec-clause-stored
returns-in_err-rec-clause-stored g c =
    let now = g.B.Blocks.seen c.args.blocks.now in
    on-err c.from_residual-in_err-rec.result (λ volume state stored.
    stored-changed _ now (map changed_by c.make_room.new.changed.items) c.make_room.ensures.blocks
    volume state
    (subst (λ (store : StoreNow). IsStored volume store state now) (sym c.self.view_is) stored))

pub returns-in_err-rec-clause-set : goal.returns-in_err-rec-clause-set
returns-in_err-rec-clause-set g c set =
    let now = g.B.Blocks.seen c.args.blocks.now in
    let is-set = subst (λ (store : StoreNow). IsSet store now) (sym c.self.view_is) set in
    set-changed _ now (map changed_by c.make_room.new.changed.items) c.self.inside.undo
    c.make_room.ensures.each is-set.kept is-set

pub returns-in_err-first-clause-stored : goal.returns-in_err-first-clause-stored
returns-in_err-first-clause-stored g c =
    let now = g.B.Blocks.seen c.args.blocks.now in
    on-err c.from_residual-in_err-first.result (λ volume state stored.
    stored-unkept _ now (map changed_by c.make_room.new.changed.items) c.make_room.ensures.blocks
    volume state c.keep.new.self c.in_err-first.ensures.err
    (subst (λ (store : StoreNow). IsStored volume store state now) (sym c.self.view_is) stored))

pub returns-in_err-first-clause-set : goal.returns-in_err-first-clause-set
returns-in_err-first-clause-set g c set =
    let now = g.B.Blocks.seen c.args.blocks.now in
    let is-set = subst (λ (store : StoreNow). IsSet store now) (sym c.self.view_is) set in
    set-changed _ now (map changed_by c.make_room.new.changed.items) c.keep.new.self
    c.make_room.ensures.each
    (subst (λ (undo : List KeptRecord). All (IsFitImage
    (map (part_now g.P.Part.shape g.P.Part.known) c.self.inside.parts.items))
    (befores_of undo))
    (sym c.in_err-first.ensures.err) is-set.kept) is-set

pub returns-clause-kept : goal.returns-clause-kept
returns-clause-kept g c volume state stored =
    let now = g.B.Blocks.seen c.args.blocks.now in
    kept-changed _ now (map changed_by c.make_room.new.changed.items) c.make_room.ensures.blocks
    volume state c.args.unit
    (before_of c.args.part c.args.place.now (option_copied c.args.old)) c.keep.new.self
    c.in_ok-first.ensures.kept
    (subst (λ (store : StoreNow). IsStored volume store state now) (sym c.self.view_is) stored)

pub returns-clause-set : goal.returns-clause-set
returns-clause-set g c set =
    let now = g.B.Blocks.seen c.args.blocks.now in
    let is-set = subst (λ (store : StoreNow). IsSet store now) (sym c.self.view_is) set in
    let parts = map (part_now g.P.Part.shape g.P.Part.known)
    c.self.inside.parts.items in
    set-changed _ now (map changed_by c.make_room.new.changed.items) c.keep.new.self
    c.make_room.ensures.each
    (fits-kept parts c.args.unit
    (image_of c.args.unit (before_of c.args.part c.args.place.now (option_copied c.args.old)))
    (befores_of c.self.inside.undo) (befores_of c.keep.new.self)
    (fit-new parts c.args.unit c.args.part c.args.place.now c.args.old
    (λ none. c.requires.part (ap (λ (s : StoreNow). part_among s.parts c.args.part.0)
    (sym c.self.view_is) ∙ none))
    (subst (λ (s : StoreNow). IfSome (shape_among s.parts c.args.part.0)
    (λ shape. IsPlaceOf shape c.args.place.now)) (sym c.self.view_is) c.requires.place)
    (subst (λ (s : StoreNow). IfSome (shape_among s.parts c.args.part.0)
    (λ shape. IsGiven shape c.args.place.now c.args.old)) (sym c.self.view_is) c.requires.item)
    (subst (λ (s : StoreNow). IfSome (shape_among s.parts c.args.part.0) HasLength)
    (sym c.self.view_is) c.requires.length))
    is-set.kept c.in_ok-first.ensures.befores) is-set
