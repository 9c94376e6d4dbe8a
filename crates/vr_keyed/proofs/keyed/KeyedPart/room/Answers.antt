use Rattle.std.proofs.Common.{◌≡◌, refl, sym, ap, subst}
use Rattle.std.proofs.lemmas.Result.{on_ok_weaker}
use Rattle.vr_types.specs.declared.unit.PartNo.{PartNo}
use Rattle.vr_space.specs.Areas.{ChainKeepsRoom, KeyedChain}
use Rattle.vr_space.specs.Known.{Known}
use Rattle.vr_space.specs.Part.{KeyedShape, Knows, part_no}
use Rattle.vr_space.specs.Room.{Lengths}
use Rattle.vr_keyed.specs.Lent.{ArePlaces}
use Rattle.vr_keyed.specs.Owned.{Owned, known_in, known_of}
use Rattle.vr_keyed.specs.Slots.{mets, most_kept}
use Rattle.vr_keyed.specs.declared.slots.Slots.{Slots}
use Rattle.vr_keyed.proofs.Known.{kept-places, meets-place}
use Rattle.vr_keyed.proofs.Most.{known_less, knows-less, knows-most}
use Rattle.vr_keyed.proofs.keyed.KeyedPart.room.Goals as goal

pub room_over-requires-clause-rooms : goal.room_over-requires-clause-rooms
room_over-requires-clause-rooms g c told =
    let now = c.args.self.now in
    let a = g.B.Blocks.seen c.args.blocks.now in
    let same : c.self.inside.areas.part ≡ now.part =
    ap (λ (keyed : Owned). keyed.part) c.self.view_is in
    let all : PartNo → Lengths = g.K.Kept.kept c.args.kept.now in
    subst (λ (part : KeyedChain). ChainKeepsRoom part (all (part_no (KeyedShape part))) a)
    (sym same) (c.requires.room told)

pub room_over-requires-clause-kept : goal.room_over-requires-clause-kept
room_over-requires-clause-kept g c told =
    let now = c.args.self.now in
    let a = g.B.Blocks.seen c.args.blocks.now in
    let same : c.self.inside.areas.part ≡ now.part =
    ap (λ (keyed : Owned). keyed.part) c.self.view_is in
    let all : PartNo → Lengths = g.K.Kept.kept c.args.kept.now in
    subst (λ (part : KeyedChain). ArePlaces part.key (all (part_no (KeyedShape part)))) (sym same)
    (kept-places now.part (all (part_no (KeyedShape now.part))) a c.requires.on
    (c.requires.room told))

pub room_over-requires-clause-knows : goal.room_over-requires-clause-knows
room_over-requires-clause-knows g c told =
    let a = g.B.Blocks.seen c.args.blocks.now in
    subst (λ (keyed : Owned). Knows (KeyedShape keyed.part) (known_less keyed) a)
    (sym c.self.view_is) (knows-less c.args.self.now a (c.requires.knows told))

pub returns-clause-knows : goal.returns-clause-knows
returns-clause-knows g c told =
    let now = c.args.self.now in
    let b = g.B.Blocks.seen c.room_over.new.blocks in
    let slots : Slots = c.room_over.new.slots in
    let known : Known = known_in c.self.inside.areas c.self.inside.splits (mets slots) in
    let same : c.self.inside.areas.part ≡ now.part =
    ap (λ (keyed : Owned). keyed.part) c.self.view_is in
    knows-most now.part known (most_kept slots) b
    (subst (λ (part : KeyedChain). Knows (KeyedShape part) known b) same
    (c.room_over.ensures.knows told))

pub returns-clause-met : goal.returns-clause-met
returns-clause-met g c =
    let now = c.args.self.now in
    let old : Slots = c.self.inside.slots in
    let new : Slots = c.room_over.new.slots in
    let known : Known = record (known_in c.self.inside.areas c.self.inside.splits (mets new)) {
      most = most_kept new;
    } in
    on_ok_weaker c.room_over.result
    (λ meets. meets-place c.args.place.now old new meets (known_of now) known
    (sym (ap (λ (keyed : Owned). keyed.met) c.self.view_is))
    (sym (ap (λ (keyed : Owned). keyed.most) c.self.view_is)) refl refl)
    c.room_over.ensures.meets
