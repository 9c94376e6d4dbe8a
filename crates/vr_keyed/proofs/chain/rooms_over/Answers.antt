use Rattle.std.proofs.Common.{◌≡◌, ◌∙◌, ◌↔◌, IsTrue, arith, refl, subst}
use Rattle.std.proofs.lemmas.List.Elements.{All-nil}
use Rattle.vr_types.specs.Image.{Image}
use Rattle.vr_types.specs.declared.unit.PartNo.{PartNo}
use Rattle.vr_types.proofs.CallerLemmas.{keeps-none, keeps-then}
use Rattle.vr_space.specs.AreaCalls.{HasRoomHere, area_part}
use Rattle.vr_space.specs.Areas.{area_of}
use Rattle.vr_space.specs.Keyed.{Keyed}
use Rattle.vr_space.specs.Part.{KeyedShape, part_no}
use Rattle.vr_space.specs.Room.{Lengths}
use Rattle.vr_keyed.specs.Lent.{HasRoomFor}
use Rattle.vr_keyed.proofs.Over.{HasAreaRoom, all-more, rooms-all, rooms-lack}
use Rattle.vr_keyed.proofs.Places.{nth-stands, weights-any}
use Rattle.vr_keyed.proofs.chain.rooms_over.Goals as goal

pub loop-i-init : goal.loop-i-init
loop-i-init g c =
    let now = c.args.areas.now in
    let image = (g.B.Blocks.seen c.args.blocks.now).cur in
    record {
      keeps = keeps-none g.B.Blocks.tells (g.B.Blocks.seen c.args.blocks.now)
          (λ told image now. g.met.B.Blocks.images_may c.args.blocks.now image told now);
      faults = refl;
      top = refl;
      weights = c.requires.weights;
      rooms = λ told. All-nil (HasAreaRoom now.part image
          (g.K.Kept.kept c.args.kept.now (part_no (KeyedShape now.part))));
    }

pub rooms_in-requires-clause-stands : goal.rooms_in-requires-clause-stands
rooms_in-requires-clause-stands g c told =
    let now = c.args.areas.now in
    let same : c.area-layout.result ≡ area_of now.part c.area_at.result = cc in
    nth-stands now.part now.areas now.ends g.B.Blocks.tells (g.B.Blocks.seen c.args.blocks.now)
    (g.B.Blocks.seen c.loop-i.blocks) told c.loop-i.invariant.keeps (c.requires.knows told)
    (c.requires.stands told) c.loop-i.i c.area_at.result c.area_at.ensures.area
    c.area-layout.result same

pub returns-in_err-rooms_in-clause-keeps : goal.returns-in_err-rooms_in-clause-keeps
returns-in_err-rooms_in-clause-keeps g c =
    keeps-then g.B.Blocks.tells (g.B.Blocks.seen c.args.blocks.now)
    (g.B.Blocks.seen c.loop-i.blocks) (g.B.Blocks.seen c.rooms_in.new.blocks)
    c.loop-i.invariant.keeps c.rooms_in.ensures.keeps

pub returns-then-not-branch-clause-rooms : goal.returns-then-not-branch-clause-rooms
returns-then-not-branch-clause-rooms g c told =
    let now = c.args.areas.now in
    let image = (g.B.Blocks.seen c.args.blocks.now).cur in
    let at = c.area_at.result in
    let is = c.in_ok-rooms_in.field-0 in
    let all : PartNo → Lengths = g.K.Kept.kept c.args.kept.now in
    let same : c.area-layout.result ≡ area_of now.part at = cc in
    rooms-lack now.part now.areas now.ends image (c.requires.knows told) (c.requires.stands told)
    (all (part_no (KeyedShape now.part))) c.loop-i.i at c.area_at.ensures.area is
    c.if-not-branch.true
    (subst (λ (area : Keyed). IsTrue is ↔ HasRoomHere area (all (area_part area)) image) same
    (subst (λ (cur : Image).
    IsTrue is ↔ HasRoomHere c.area-layout.result (all (area_part c.area-layout.result)) cur)
    (c.loop-i.invariant.keeps.content told) (c.in_ok-rooms_in.ensures.rooms told)))

pub returns-then-not-branch-clause-keeps : goal.returns-then-not-branch-clause-keeps
returns-then-not-branch-clause-keeps g c =
    keeps-then g.B.Blocks.tells (g.B.Blocks.seen c.args.blocks.now)
    (g.B.Blocks.seen c.loop-i.blocks) (g.B.Blocks.seen c.rooms_in.new.blocks)
    c.loop-i.invariant.keeps c.rooms_in.ensures.keeps

pub loop-i-preserved : goal.loop-i-preserved
loop-i-preserved g c =
    let now = c.args.areas.now in
    let image = (g.B.Blocks.seen c.args.blocks.now).cur in
    let at = c.area_at.result in
    let is = c.in_ok-rooms_in.field-0 in
    let all : PartNo → Lengths = g.K.Kept.kept c.args.kept.now in
    let same : c.area-layout.result ≡ area_of now.part at = cc in
    record {
      keeps = keeps-then g.B.Blocks.tells (g.B.Blocks.seen c.args.blocks.now)
          (g.B.Blocks.seen c.loop-i.blocks) (g.B.Blocks.seen c.rooms_in.new.blocks)
          c.loop-i.invariant.keeps c.rooms_in.ensures.keeps;
      faults = c.in_ok-rooms_in.ensures.cause.ok ∙ c.loop-i.invariant.faults;
      top = c.rooms_in.auto.top ∙ c.loop-i.invariant.top;
      weights = weights-any now.part at now.part.first c.rooms_in.new.weights
          (subst (λ (area : Keyed). HasRoomFor area c.rooms_in.new.weights) same
          c.rooms_in.ensures.weights);
      rooms = λ told.
          let here : IsTrue is ↔ HasRoomHere (area_of now.part at)
          (all (part_no (KeyedShape now.part))) image =
          subst (λ (area : Keyed). IsTrue is ↔ HasRoomHere area (all (area_part area)) image) same
          (subst (λ (cur : Image).
          IsTrue is ↔ HasRoomHere c.area-layout.result (all (area_part c.area-layout.result)) cur)
          (c.loop-i.invariant.keeps.content told) (c.in_ok-rooms_in.ensures.rooms told)) in
          all-more (HasAreaRoom now.part image (all (part_no (KeyedShape now.part)))) now.areas
          c.loop-i.i at c.area_at.ensures.area (c.loop-i.invariant.rooms told)
          (here.0 c.if-not-branch.false);
    }

pub returns-clause-rooms : goal.returns-clause-rooms
returns-clause-rooms g c told =
    let now = c.args.areas.now in
    let image = (g.B.Blocks.seen c.args.blocks.now).cur in (
      λ yes. rooms-all now.part now.areas now.ends image (c.requires.knows told)
          (c.requires.stands told)
          (g.K.Kept.kept c.args.kept.now (part_no (KeyedShape now.part))) c.loop-i.i
          (omega (arith, c.count-i-end.ensures, c.loop-i-test.false))
          (c.loop-i.invariant.rooms told),
      λ rooms. refl,
    )
