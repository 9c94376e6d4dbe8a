use Rattle.std.proofs.Common.{◌≡◌, ◌≢◌, ◌∙◌, ◌+◌, ◌<◌, ℕ, List, Some, ap, arith}
use Rattle.std.proofs.Common.{IsTrue, get_or, length, map, refl, subst, sym, take}
use Rattle.std.specs.Prelude.{All, slice_get}
use Rattle.std.specs.Option.{option_map}
use Rattle.std.proofs.lemmas.List.{length-map, take_all, take_more}
use Rattle.std.proofs.lemmas.List.Elements.{All-map, All-nil, All-push, All-weaker}
use Rattle.std.proofs.lemmas.Option.{get_or_from_slice_get, slice_get-map, slice_get_within}
use Rattle.std.proofs.Math.Seq.{map-set_same}
use Rattle.vr_types.specs.Regions.{Touches}
use Rattle.vr_types.specs.declared.unit.PartNo.{PartNo}
use Rattle.vr_types.proofs.CallerLemmas.{guards-start, guards-then}
use Rattle.vr_part.specs.Any.{known_any, shape_any}
use Rattle.vr_space.specs.Owners.{Owners}
use Rattle.vr_space.specs.Part.{InPart, IsOn, IsSound, Shape, part_no}
use Rattle.vr_space.proofs.CallerLemmas.{StaysPart, on-still, rest-sound}
use Rattle.vr_volume.specs.Laid.{shape_by}
use Rattle.vr_volume.specs.PutBack.{images_of}
use Rattle.vr_volume.specs.Safe.{IsSafeImage}
use Rattle.vr_volume.proofs.Apart.{laid-number}
use Rattle.vr_volume.proofs.Recovering.{each_image_is_safe}
use Rattle.vr_volume.proofs.Rested.{stands-part, stays-apart}
use Rattle.vr_mount.specs.Touched.{Anything}
use Rattle.vr_recover.specs.Found.{held_any}
use Rattle.vr_recover.specs.Opening.{HasNoSplit}
use Rattle.vr_recover.specs.Undone.{FitsPart, HasPart, IsReady, IsSettledPart, ReadsContent, alike}
use Rattle.vr_recover.proofs.PartsBack.{all-at, all-before, all-parts, all-set, at-taken}
use Rattle.vr_recover.proofs.PartsBack.{holds-still, laid-opened, read-off, reads-stay, ready-stays}
use Rattle.vr_recover.proofs.PartsBack.{settled-stays, taken-at}
use Rattle.vr_recover.proofs.PuttingBack.{are-left, part-back}
use Rattle.vr_recover.proofs.undone_parts.put_parts.Goals as goal

pub loop-part-init : goal.loop-part-init
loop-part-init g c =
    let a = g.B.Blocks.seen c.args.blocks.now in
    record {
      shapes = refl;
      split = c.requires.split;
      areas = refl;
      count = refl;
      size = refl;
      faults = refl;
      ready = λ told owners ready. ready;
      safe = λ told geometry member owners contents safe opened. (
        guards-start a
            (IsSafeImage geometry member owners c.args.log.now (alike contents))
            (λ image there. g.met.B.Blocks.images_may c.args.blocks.now image told there)
            (each_image_is_safe geometry member owners c.args.log.now
            (alike contents) a safe),
        safe,
      );
      stands = λ told forced stands. stands;
      reads = λ told geometry owners contents opened settled. (
        All-nil (λ (shape : Shape). ReadsContent shape (contents (part_no shape).0) a.cur),
        λ part shape laid none. settled part shape laid,
      );
    }

-- the shape of the part whose turn it is, among those of all
shape-here : {X : Type 0} (f : X → Shape) (parts : List X) (shapes : List Shape) (at : ℕ) (d : X)
    → map f parts ≡ shapes → at < length parts → slice_get shapes at ≡ Some (f (get_or parts at d))
shape-here f parts shapes at d same below =
    read-off f parts shapes at (get_or parts at d) d same below refl

pub put_back-requires-clause-on : goal.put_back-requires-clause-on
put_back-requires-clause-on g c =
    let a = g.B.Blocks.seen c.args.blocks.now in
    let b = g.B.Blocks.seen c.loop-part.blocks in
    let shapes = map shape_any c.args.parts.now in
    let shape = shape_any (get_or c.loop-part.parts c.loop-part.part-index c.part-item.result)
    in
    on-still shape a b
    (all-at (λ (s : Shape). IsOn s a) shapes c.loop-part.part-index shape
    (shape-here shape_any c.loop-part.parts shapes c.loop-part.part-index c.part-item.result
    c.loop-part.invariant.shapes
    (omega (arith, c.loop-part-test.true, c.loop-part.auto.parts))) c.requires.on)
    c.loop-part.invariant.count c.loop-part.invariant.size

pub put_back-requires-clause-fits : goal.put_back-requires-clause-fits
put_back-requires-clause-fits g c =
    let shapes = map shape_any c.args.parts.now in
    all-at (λ (s : Shape). All (FitsPart s) (images_of c.args.log.now.records)) shapes
    c.loop-part.part-index
    (shape_any (get_or c.loop-part.parts c.loop-part.part-index c.part-item.result))
    (shape-here shape_any c.loop-part.parts shapes c.loop-part.part-index c.part-item.result
    c.loop-part.invariant.shapes
    (omega (arith, c.loop-part-test.true, c.loop-part.auto.parts))) c.requires.fits

pub put_back-requires-clause-ready : goal.put_back-requires-clause-ready
put_back-requires-clause-ready g c told =
    let part = get_or c.loop-part.parts c.loop-part.part-index c.part-item.result in
    let first = c.requires.ready told in (
      first.0,
      subst (λ (no : PartNo). IsReady (shape_any part) first.0 (known_any part)
          (g.K.Kept.kept c.args.kept.now no) (g.B.Blocks.seen c.loop-part.blocks))
          (sym c.number-number.ensures)
          (c.loop-part.invariant.ready told first.0 first.2 c.loop-part.part-index
          c.part-item.result (omega (arith, c.loop-part-test.true, c.loop-part.auto.parts))),
    )

pub returns-in_err-put_back-clause-shapes : goal.returns-in_err-put_back-clause-shapes
returns-in_err-put_back-clause-shapes g c =
    map-set_same shape_any c.loop-part.parts c.loop-part.part-index c.put_back.new.part
    c.part-item.result c.put_back.ensures.shape
    ∙ c.loop-part.invariant.shapes

pub returns-in_err-put_back-clause-areas : goal.returns-in_err-put_back-clause-areas
returns-in_err-put_back-clause-areas g c =
    let part = get_or c.loop-part.parts c.loop-part.part-index c.part-item.result in
    let new = c.put_back.new.part in
    map-set_same held_any c.loop-part.parts c.loop-part.part-index new c.part-item.result
    (holds-still (shape_any part) (shape_any new) (known_any part) (known_any new)
    c.put_back.ensures.shape c.put_back.ensures.areas c.put_back.ensures.moves)
    ∙ c.loop-part.invariant.areas

pub returns-in_err-put_back-clause-safe : goal.returns-in_err-put_back-clause-safe
returns-in_err-put_back-clause-safe g c told geometry member owners contents safe opened =
    let B = g.B.Blocks in
    let log = c.args.log.now in
    let kept = g.K.Kept.kept c.args.kept.now in
    let shapes = map shape_any c.args.parts.now in
    let parts = c.loop-part.parts in
    let index = c.loop-part.part-index in
    let shape = shape_any (get_or parts index c.part-item.result) in
    let number : PartNo = c.number-number.result in
    let a = B.seen c.args.blocks.now in
    let b = B.seen c.loop-part.blocks in
    let d = B.seen c.put_back.new.blocks in
    let within : index < length parts =
    omega (arith, c.loop-part-test.true, c.loop-part.auto.parts) in
    let is : slice_get shapes index ≡ Some shape =
    shape-here shape_any parts shapes index c.part-item.result c.loop-part.invariant.shapes
    within in
    let numbered : number ≡ part_no shape = c.number-number.ensures in
    let before = c.loop-part.invariant.safe told geometry member owners contents safe opened in
    let committed = alike contents in
    let call = c.put_back.ensures.safe told geometry member owners committed before.1
    (laid-opened geometry log contents kept shapes index shape number opened is c.requires.kept
    numbered) opened.records in (
      guards-then a b d (IsSafeImage geometry member owners log committed) before.0 call.0,
      call.1,
    )

-- the shape of a part, among those of all
shape-at : {X : Type 0} (f : X → Shape) (parts : List X) (shapes : List Shape) (at : ℕ) (x : X)
    → map f parts ≡ shapes → slice_get parts at ≡ Some x → slice_get shapes at ≡ Some (f x)
shape-at f parts shapes at x same is = ap (λ (l : List Shape). slice_get l at) (sym same)
    ∙ slice_get-map f parts at ∙ ap (option_map f) is

pub loop-part-preserved : goal.loop-part-preserved
loop-part-preserved g c =
    let B = g.B.Blocks in
    let log = c.args.log.now in
    let kept = g.K.Kept.kept c.args.kept.now in
    let shapes = map shape_any c.args.parts.now in
    let parts = c.loop-part.parts in
    let index = c.loop-part.part-index in
    let shape = shape_any (get_or parts index c.part-item.result) in
    let number : PartNo = c.number-number.result in
    let a = B.seen c.args.blocks.now in
    let b = B.seen c.loop-part.blocks in
    let d = B.seen c.put_back.new.blocks in
    let within : index < length parts =
    omega (arith, c.loop-part-test.true, c.loop-part.auto.parts) in
    let is : slice_get shapes index ≡ Some shape =
    shape-here shape_any parts shapes index c.part-item.result c.loop-part.invariant.shapes
    within in
    let numbered : number ≡ part_no shape = c.number-number.ensures in
    let new = c.put_back.new.part in
    let first : IsTrue B.tells → Owners = λ told. (c.requires.ready told).0 in
    let sounds : (told : IsTrue B.tells) → All (λ (s : Shape). IsSound s (first told) b) shapes =
    λ told. subst (All (λ (s : Shape). IsSound s (first told) b)) c.loop-part.invariant.shapes
    (All-map (λ (s : Shape). IsSound s (first told) b) shape_any parts
    (All-weaker (λ part. IsReady (shape_any part) (first told) (known_any part)
    (kept (part_no (shape_any part))) b)
    (λ part. IsSound (shape_any part) (first told) b)
    (λ part ready. rest-sound (shape_any part) (first told) b ready.rests) parts
    (c.loop-part.invariant.ready told (first told) (c.requires.ready told).2))) in
    let here : IsTrue B.tells → (owners : Owners)
    → All (λ part. IsReady (shape_any part) owners (known_any part)
    (kept (part_no (shape_any part))) a) c.args.parts.now
    → IsReady shape owners (known_any (get_or parts index c.part-item.result)) (kept number)
    b =
    λ told owners all. subst (λ (no : PartNo). IsReady shape owners
    (known_any (get_or parts index c.part-item.result)) (kept no) b) (sym numbered)
    (c.loop-part.invariant.ready told owners all index c.part-item.result within) in
    let touches : IsTrue B.tells → (owners : Owners)
    → All (λ part. IsReady (shape_any part) owners (known_any part)
    (kept (part_no (shape_any part))) a) c.args.parts.now
    → Touches (InPart shape owners) Anything b d =
    λ told owners all. c.put_back.ensures.touches told owners (here told owners all) in
    let stays : IsTrue B.tells → (owners : Owners)
    → All (λ part. IsReady (shape_any part) owners (known_any part)
    (kept (part_no (shape_any part))) a) c.args.parts.now
    → (other : ℕ) (there : Shape) → slice_get shapes other ≡ Some there
    → other ≢ index → StaysPart there owners b d =
    λ told owners all other there at off. stays-apart shape there owners Anything b d
    (c.requires.apart other index there shape at is off) (touches told owners all) in
    record {
      shapes = map-set_same shape_any parts index new c.part-item.result
          c.put_back.ensures.shape ∙ c.loop-part.invariant.shapes;
      split =
          let was = c.loop-part.invariant.split index c.part-item.result within in
          all-set HasNoSplit HasNoSplit parts index new
          (c.put_back.ensures.split ∙ was.0, c.put_back.ensures.moves ∙ was.1)
          (λ other part at off same. same) c.loop-part.invariant.split;
      areas = map-set_same held_any parts index new c.part-item.result
          (holds-still shape (shape_any new) (known_any (get_or parts index c.part-item.result))
          (known_any new) c.put_back.ensures.shape c.put_back.ensures.areas
          c.put_back.ensures.moves)
          ∙ c.loop-part.invariant.areas;
      count = c.put_back.ensures.count ∙ c.loop-part.invariant.count;
      size = c.put_back.ensures.size ∙ c.loop-part.invariant.size;
      faults = c.in_ok-put_back.ensures.cause.ok ∙ c.loop-part.invariant.faults;
      ready = λ told owners all. all-set
          (λ part. IsReady (shape_any part) owners (known_any part)
          (kept (part_no (shape_any part))) b)
          (λ part. IsReady (shape_any part) owners (known_any part)
          (kept (part_no (shape_any part))) d)
          parts index new
          (subst (λ (s : Shape). IsReady s owners (known_any new) (kept (part_no s)) d)
          (sym c.put_back.ensures.shape)
          (subst (λ (no : PartNo). IsReady shape owners (known_any new) (kept no) d) numbered
          (c.in_ok-put_back.ensures.ready told owners (here told owners all))))
          (λ other part at off ready. ready-stays (shape_any part) owners b d
          (stays told owners all other (shape_any part)
          (shape-at shape_any parts shapes other part c.loop-part.invariant.shapes at) off)
          (known_any part) (kept (part_no (shape_any part)))
          (g.met.B.Blocks.cur_may c.loop-part.blocks told) ready)
          (c.loop-part.invariant.ready told owners all);
      safe = λ told geometry member owners contents safe opened.
          let before =
          c.loop-part.invariant.safe told geometry member owners contents safe opened in
          let committed = alike contents in
          let call = c.put_back.ensures.safe told geometry member owners committed before.1
          (laid-opened geometry log contents kept shapes index shape number opened is
          c.requires.kept numbered) opened.records in (
            guards-then a b d (IsSafeImage geometry member owners log committed) before.0 call.0,
            call.1,
          );
      stands = λ told forced stands. stands-part log shape (first told) Anything b d forced
          (c.loop-part.invariant.stands told forced stands) (c.requires.ready told).1
          (touches told (first told) (c.requires.ready told).2);
      reads = λ told geometry owners contents opened settled.
          let before = c.loop-part.invariant.reads told geometry owners contents opened settled in
          let content = contents (part_no shape).0 in
          let images = images_of log.records in
          let left = g.met.B.Blocks.cur_may c.loop-part.blocks told in
          let mine : IsSettledPart shape owners (part_no shape).0 images content b =
          before.1 (part_no shape).0 shape
          (all-at (λ (s : Shape). shape_by geometry (contents 0) (part_no s).0 ≡ Some s) shapes
          index shape is opened.laid)
          (λ has. let there = taken-at index shapes has.0 has.1 has.2 in
          c.requires.apart index has.0 shape has.1 is there.1
          (λ same. omega (arith, same, there.0)) has.3) in
          let first-ready = here told (first told) (c.requires.ready told).2 in
          let ready-by : IsReady shape owners
          (known_any (get_or parts index c.part-item.result)) (kept number) b = record {
            rests = mine.rests;
            room = first-ready.room;
            knows = first-ready.knows;
            no_split = first-ready.no_split;
            no_move = first-ready.no_move;
          } in
          let call : Touches (InPart shape owners) Anything b d =
          c.put_back.ensures.touches told owners ready-by in
          let put = c.in_ok-put_back.ensures.back told content
          (are-left shape owners (part_no shape).0 content images b refl c.requires.alone mine) in
          let reads : ReadsContent shape content d.cur =
          part-back shape owners (part_no shape).0 content images b d refl put mine in (
            subst (All (λ (s : Shape). ReadsContent s (contents (part_no s).0) d.cur))
                (sym (take_more shapes index shape (slice_get_within shapes index shape is)))
                (All-push (λ (s : Shape). ReadsContent s (contents (part_no s).0) d.cur)
                (take index shapes) (get_or shapes index shape)
                (all-before (λ (s : Shape). ReadsContent s (contents (part_no s).0) b.cur)
                (λ (s : Shape). ReadsContent s (contents (part_no s).0) d.cur) shapes index
                (λ other there at off read. reads-stay there (first told) b d
                (stays told (first told) (c.requires.ready told).2 other there at off)
                (all-at (λ (s : Shape). IsSound s (first told) b) shapes other there at
                (sounds told)) left (contents (part_no there).0) read)
                before.0)
                (subst (λ (s : Shape). ReadsContent s (contents (part_no s).0) d.cur)
                (sym (get_or_from_slice_get shapes index shape shape is)) reads)),
            λ part there laid none.
                let was = before.1 part there laid
                (λ has. let taken = taken-at index shapes has.0 has.1 has.2 in
                none (
                  has.0,
                  has.1,
                  at-taken (index + 1) shapes has.0 has.1 (omega (arith, taken.0)) taken.1,
                  has.3,
                )) in
                let off : (part_no there).0 ≢ (part_no shape).0 = λ same.
                none (
                  index,
                  shape,
                  at-taken (index + 1) shapes index shape (omega arith) is,
                  sym (laid-number geometry (contents 0) part there laid) ∙ same,
                ) in
                settled-stays there owners b d
                (stays-apart shape there owners Anything b d off call)
                (rest-sound there owners b was.rests) part images (contents part) left was,
          );
    }

pub returns-clause-reads : goal.returns-clause-reads
returns-clause-reads g c told geometry owners contents opened settled covered =
    let shapes = map shape_any c.args.parts.now in
    let b = g.B.Blocks.seen c.loop-part.blocks in
    let done = c.loop-part.invariant.reads told geometry owners contents opened settled in
    let whole : take c.loop-part.part-index shapes ≡ shapes =
    take_all c.loop-part.part-index shapes
    (omega (arith, c.loop-part-test.false, length-map c.args.parts.now shape_any)) in
    all-parts geometry owners c.args.log.now contents shapes b opened covered
    (subst (All (λ (s : Shape). ReadsContent s (contents (part_no s).0) b.cur)) whole done.0)
    (λ part shape laid none. done.1 part shape laid
    (λ has. none (subst (λ (ss : List Shape). HasPart ss part) whole has)))
