use Rattle.std.proofs.Common.{IsTrue, refl, subst, sym, ◌∙◌, get_or}
use Rattle.std.proofs.lemmas.Bool.{true≢false}
use Rattle.std.proofs.lemmas.List.Elements.{All-nil}
use Rattle.vr_types.specs.Image.{Image}
use Rattle.vr_types.proofs.CallerLemmas.{keeps-none, keeps-then}
use Rattle.vr_mount.proofs.Telling.{all_mapped, mapped_all}
use Rattle.vr_part.specs.Any.{known_any, shape_any}
use Rattle.vr_part.specs.Attached.{IsAttachedWith}
use Rattle.vr_part.specs.declared.any.AnyPart.{AnyPart}
use Rattle.vr_space.specs.Part.{IsOn, Shape, Stands}
use Rattle.vr_space.proofs.CallerLemmas.{on-still}
use Rattle.vr_undo.specs.Records.{images_in}
use Rattle.vr_recover.specs.Found.{AreItsPlaces, HasRoomOf}
use Rattle.vr_recover.proofs.Keeping.{all-items, still-item, still-push, still-set}
use Rattle.vr_recover.proofs.Settled.{attached-knows}
use Rattle.vr_recover.proofs.rooming.have_room.Goals as goal

pub loop-part-init : goal.loop-part-init
loop-part-init g c = record {
  keeps = keeps-none g.B.Blocks.tells (g.B.Blocks.seen c.args.blocks.now)
      (λ told image now. g.met.B.Blocks.images_may c.args.blocks.now image told now);
  faults = refl;
  same = refl;
  rooms = λ told. All-nil (λ (part : AnyPart). HasRoomOf (images_in c.args.undo.now)
      (g.B.Blocks.seen c.args.blocks.now).cur (shape_any part));
}

pub has_room-requires-clause-on : goal.has_room-requires-clause-on
has_room-requires-clause-on g c =
    let a = g.B.Blocks.seen c.args.blocks.now in
    let b = g.B.Blocks.seen c.loop-part.blocks in
    let x = get_or c.loop-part.parts c.loop-part.part-index c.part-item.result in
    on-still (shape_any x) a b
    (still-item (λ (part : AnyPart). IsOn (shape_any part) a) c.loop-part.parts c.args.parts.now
    c.loop-part.invariant.same c.loop-part.part-index c.part-item.result c.loop-part-test.true
    (mapped_all shape_any (λ (shape : Shape). IsOn shape a) c.args.parts.now c.requires.on))
    c.loop-part.invariant.keeps.count_same c.loop-part.invariant.keeps.size_same

pub has_room-requires-clause-places : goal.has_room-requires-clause-places
has_room-requires-clause-places g c =
    still-item (λ (part : AnyPart). AreItsPlaces (images_in c.args.undo.now) (shape_any part))
    c.loop-part.parts c.args.parts.now c.loop-part.invariant.same c.loop-part.part-index
    c.part-item.result c.loop-part-test.true
    (mapped_all shape_any (AreItsPlaces (images_in c.args.undo.now)) c.args.parts.now
    c.requires.places)

pub has_room-requires-clause-stands : goal.has_room-requires-clause-stands
has_room-requires-clause-stands g c told =
    let cur = (g.B.Blocks.seen c.args.blocks.now).cur in
    let x = get_or c.loop-part.parts c.loop-part.part-index c.part-item.result in
    subst (λ (image : Image). Stands (shape_any x) image)
    (sym (c.loop-part.invariant.keeps.content told))
    (still-item (λ (part : AnyPart). Stands (shape_any part) cur) c.loop-part.parts
    c.args.parts.now c.loop-part.invariant.same c.loop-part.part-index c.part-item.result
    c.loop-part-test.true
    (mapped_all shape_any (λ (shape : Shape). Stands shape cur) c.args.parts.now
    (c.requires.stand told)))

pub has_room-requires-clause-knows : goal.has_room-requires-clause-knows
has_room-requires-clause-knows g c told =
    let b = g.B.Blocks.seen c.loop-part.blocks in
    let cur = (g.B.Blocks.seen c.args.blocks.now).cur in
    let x = get_or c.loop-part.parts c.loop-part.part-index c.part-item.result in
    let known = still-item
    (λ (part : AnyPart). IsAttachedWith (shape_any part) (known_any part) cur) c.loop-part.parts
    c.args.parts.now c.loop-part.invariant.same c.loop-part.part-index c.part-item.result
    c.loop-part-test.true (c.requires.known told) in
    attached-knows (shape_any x) (known_any x) b
    (subst (λ (image : Image). IsAttachedWith (shape_any x) (known_any x) image)
    (sym (c.loop-part.invariant.keeps.content told)) known)

pub loop-part-preserved : goal.loop-part-preserved
loop-part-preserved g c =
    let inv = c.loop-part.invariant in
    let a = g.B.Blocks.seen c.args.blocks.now in
    let b = g.B.Blocks.seen c.loop-part.blocks in
    let x = get_or c.loop-part.parts c.loop-part.part-index c.part-item.result in
    let images = images_in c.args.undo.now in
    let Rooms = λ (part : AnyPart). HasRoomOf images a.cur (shape_any part) in
    record {
      keeps = keeps-then g.B.Blocks.tells a b (g.B.Blocks.seen c.has_room.new.blocks) inv.keeps
          c.has_room.ensures.keeps;
      faults = c.in_ok-has.ensures.cause.ok ∙ inv.faults;
      same = still-set Rooms c.loop-part.parts c.args.parts.now inv.same c.loop-part.part-index
          c.part-item.result c.has_room.new.part c.has_room.ensures.same;
      rooms = λ told. still-push Rooms c.loop-part.parts c.args.parts.now inv.same
          c.loop-part.part-index c.part-item.result c.loop-part-test.true
          (subst (λ (image : Image). HasRoomOf images image (shape_any x)) (inv.keeps.content told)
          ((c.in_ok-has.ensures.room told).0
          (subst IsTrue (sym c.if-not-has.false) refl))) (inv.rooms told);
    }

pub returns-then-not-has-clause-room : goal.returns-then-not-has-clause-room
returns-then-not-has-clause-room g c told =
    let inv = c.loop-part.invariant in
    let a = g.B.Blocks.seen c.args.blocks.now in
    let x = get_or c.loop-part.parts c.loop-part.part-index c.part-item.result in
    let images = images_in c.args.undo.now in
    let Rooms = λ (part : AnyPart). HasRoomOf images a.cur (shape_any part) in (
      λ is. absurd (true≢false (sym is)),
      λ all. absurd (true≢false (sym ((c.in_ok-has.ensures.room told).1
          (subst (λ (image : Image). HasRoomOf images image (shape_any x))
          (sym (inv.keeps.content told))
          (still-item Rooms c.loop-part.parts c.args.parts.now inv.same c.loop-part.part-index
          c.part-item.result c.loop-part-test.true
          (mapped_all shape_any (HasRoomOf images a.cur) c.args.parts.now all))))
          ∙ c.if-not-has.true)),
    )

pub returns-clause-room : goal.returns-clause-room
returns-clause-room g c told =
    let cur = (g.B.Blocks.seen c.args.blocks.now).cur in
    let images = images_in c.args.undo.now in (
      λ is. all_mapped shape_any (HasRoomOf images cur) c.args.parts.now
          (all-items (λ (part : AnyPart). HasRoomOf images cur (shape_any part)) c.args.parts.now
          c.loop-part.part-index c.loop-part-test.false (c.loop-part.invariant.rooms told)),
      λ all. refl,
    )
