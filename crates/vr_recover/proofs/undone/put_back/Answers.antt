use Rattle.std.proofs.Common.{◌∙◌, IsTrue, List, [], ◌∷◌, ap, refl, subst, sym}
use Rattle.std.specs.Prelude.{All}
use Rattle.std.specs.List.{filter_map}
use Rattle.std.proofs.lemmas.List.{take_all}
use Rattle.std.proofs.lemmas.List.Elements.{All-nil, All-weaker}
use Rattle.vr_types.specs.Regions.{Touches}
use Rattle.vr_types.specs.declared.unit.PartNo.{PartNo}
use Rattle.vr_types.proofs.CallerLemmas.{guards-start, guards-then, touches-then}
use Rattle.vr_space.specs.Owners.{Owners}
use Rattle.vr_space.specs.Part.{InPart, Shape, part_no}
use Rattle.vr_history.specs.State.{BeforeImage}
use Rattle.vr_log.specs.Live.{live_in}
use Rattle.vr_log.specs.declared.record.LogRecord.{LogRecord}
use Rattle.vr_volume.specs.Laying.{IsFreeIn, IsLaidSo}
use Rattle.vr_volume.specs.PutBack.{image_in, images_of}
use Rattle.vr_volume.specs.Safe.{IsSafeImage}
use Rattle.vr_volume.proofs.Recovering.{each_image_is_safe}
use Rattle.vr_mount.specs.Touched.{Anything}
use Rattle.vr_mount.proofs.CallerLemmas.{touches-none}
use Rattle.vr_recover.specs.Undone.{ArePutBack, FitsPart, HasKeptFor, IsLeftIn, IsReady}
use Rattle.vr_recover.proofs.KeptLengths.{all-kept}
use Rattle.vr_recover.proofs.PuttingBack.{all-free, at-record, back-more, none-back}
use Rattle.vr_recover.proofs.undone.put_back.Goals as goal

pub loop-rec-init : goal.loop-rec-init
loop-rec-init g c =
    let a = g.B.Blocks.seen c.args.blocks.now in
    record {
      shape = refl;
      split = refl;
      moves = refl;
      areas = refl;
      count = refl;
      size = refl;
      faults = refl;
      ready = λ told owners ready. ready;
      touches = λ told owners ready. touches-none (InPart (g.P.Part.shape c.args.part.now) owners) a
          (λ image there. g.met.B.Blocks.images_may c.args.blocks.now image told there);
      safe = λ told geometry member owners committed safe laid records. (
        guards-start a (IsSafeImage geometry member owners c.args.log.now committed)
            (λ image there. g.met.B.Blocks.images_may c.args.blocks.now image told there)
            (each_image_is_safe geometry member owners c.args.log.now committed a safe),
        safe,
      );
      back = λ told content left. none-back (g.P.Part.shape c.args.part.now) content [] a
          (All-nil _);
    }

pub put_record-requires-clause-fits : goal.put_record-requires-clause-fits
put_record-requires-clause-fits g c =
    at-record (FitsPart (g.P.Part.shape c.loop-rec.part)) c.args.records.now
    c.args.log.now.records c.requires.records
    (subst (λ (shape : Shape). All (FitsPart shape) (images_of c.args.log.now.records)) (sym c.loop-rec.invariant.shape)
    c.requires.fits)
    c.loop-rec.rec-index c.loop-rec-test.true c.rec-item.result c.rec-item.is

pub put_record-requires-clause-kept : goal.put_record-requires-clause-kept
put_record-requires-clause-kept g c =
    let shape = g.P.Part.shape c.loop-rec.part in
    let kept = g.K.Kept.kept c.args.kept.now c.args.number in
    at-record (HasKeptFor shape kept) c.args.records.now c.args.log.now.records c.requires.records
    (all-kept shape kept c.args.number.0 (images_of c.args.log.now.records) c.requires.alone
    (ap (λ (s : Shape). (part_no s).0) c.loop-rec.invariant.shape
    ∙ ap (λ (no : PartNo). no.0) c.requires.number)
    (c.requires.kept c.args.number))
    c.loop-rec.rec-index c.loop-rec-test.true c.rec-item.result c.rec-item.is

pub returns-in_err-put_record-clause-safe : goal.returns-in_err-put_record-clause-safe
returns-in_err-put_record-clause-safe g c told geometry member owners committed safe laid records =
    let shape = g.P.Part.shape c.args.part.now in
    let a = g.B.Blocks.seen c.args.blocks.now in
    let b = g.B.Blocks.seen c.loop-rec.blocks in
    let d = g.B.Blocks.seen c.put_record.new.blocks in
    let kept = g.K.Kept.kept c.args.kept.now c.args.number in
    let log = c.args.log.now in
    let before =
    c.loop-rec.invariant.safe told geometry member owners committed safe laid records in
    let call = c.put_record.ensures.safe told geometry member owners committed before.1
    (subst (λ (s : Shape). IsLaidSo geometry log committed c.args.number.0 s kept)
    (sym c.loop-rec.invariant.shape) laid)
    (at-record (λ (image : BeforeImage). IsFreeIn log image.part image.place) c.args.records.now
    log.records c.requires.records (all-free log records) c.loop-rec.rec-index
    c.loop-rec-test.true c.rec-item.result c.rec-item.is) in
    (guards-then a b d (IsSafeImage geometry member owners log committed) before.0 call.0, call.1)

pub returns-in_err-put_record-clause-touches : goal.returns-in_err-put_record-clause-touches
returns-in_err-put_record-clause-touches g c told owners ready =
    let shape = g.P.Part.shape c.args.part.now in
    let a = g.B.Blocks.seen c.args.blocks.now in
    let b = g.B.Blocks.seen c.loop-rec.blocks in
    let d = g.B.Blocks.seen c.put_record.new.blocks in
    let kept = g.K.Kept.kept c.args.kept.now c.args.number in
    let same = c.loop-rec.invariant.shape in
    touches-then (InPart shape owners) Anything a b d
    (c.loop-rec.invariant.touches told owners ready)
    (subst (λ (s : Shape). Touches (InPart s owners) Anything b d) same
    (c.put_record.ensures.touches told owners
    (subst (λ (s : Shape). IsReady s owners (g.P.Part.known c.loop-rec.part) kept b) (sym same)
    (c.loop-rec.invariant.ready told owners ready))))

pub loop-rec-preserved : goal.loop-rec-preserved
loop-rec-preserved g c =
    let shape = g.P.Part.shape c.args.part.now in
    let a = g.B.Blocks.seen c.args.blocks.now in
    let b = g.B.Blocks.seen c.loop-rec.blocks in
    let d = g.B.Blocks.seen c.put_record.new.blocks in
    let kept = g.K.Kept.kept c.args.kept.now c.args.number in
    let log = c.args.log.now in
    let f = image_in (live_in log.records) in
    let same = c.loop-rec.invariant.shape in
    let then : IsTrue g.B.Blocks.tells → (owners : Owners)
    → IsReady shape owners (g.P.Part.known c.args.part.now) kept a
    → IsReady (g.P.Part.shape c.loop-rec.part) owners (g.P.Part.known c.loop-rec.part) kept b =
    λ told owners ready. subst
    (λ (s : Shape). IsReady s owners (g.P.Part.known c.loop-rec.part) kept b) (sym same)
    (c.loop-rec.invariant.ready told owners ready) in
    record {
      shape = c.put_record.ensures.shape ∙ same;
      split = c.put_record.ensures.split ∙ c.loop-rec.invariant.split;
      moves = c.put_record.ensures.moves ∙ c.loop-rec.invariant.moves;
      areas = c.put_record.ensures.areas ∙ c.loop-rec.invariant.areas;
      count = c.put_record.ensures.count ∙ c.loop-rec.invariant.count;
      size = c.put_record.ensures.size ∙ c.loop-rec.invariant.size;
      faults = c.in_ok-put_record.ensures.cause.ok ∙ c.loop-rec.invariant.faults;
      ready = λ told owners ready. subst
          (λ (s : Shape). IsReady s owners (g.P.Part.known c.put_record.new.part) kept d) same
          (c.in_ok-put_record.ensures.ready told owners (then told owners ready));
      touches = λ told owners ready. touches-then (InPart shape owners) Anything a b d
          (c.loop-rec.invariant.touches told owners ready)
          (subst (λ (s : Shape). Touches (InPart s owners) Anything b d) same
          (c.put_record.ensures.touches told owners (then told owners ready)));
      safe = λ told geometry member owners committed safe laid records.
          let before =
          c.loop-rec.invariant.safe told geometry member owners committed safe laid records in
          let call = c.put_record.ensures.safe told geometry member owners committed before.1
          (subst (λ (s : Shape). IsLaidSo geometry log committed c.args.number.0 s kept)
          (sym same) laid)
          (at-record (λ (image : BeforeImage). IsFreeIn log image.part image.place)
          c.args.records.now log.records c.requires.records (all-free log records)
          c.loop-rec.rec-index c.loop-rec-test.true c.rec-item.result c.rec-item.is) in (
            guards-then a b d (IsSafeImage geometry member owners log committed) before.0 call.0,
            call.1,
          );
      back = λ told content left.
          let before = c.loop-rec.invariant.back told content left in
          let now = All-weaker (IsLeftIn shape content a.cur) (IsLeftIn shape content b.cur)
          before.left (images_of log.records) left in
          back-more shape content f c.args.records.now c.loop-rec.rec-index c.rec-item.result a b d
          c.loop-rec-test.true c.rec-item.is before
          (subst (λ (s : Shape). ArePutBack s content (filter_map f (c.rec-item.result ∷ [])) b d)
          same
          (c.in_ok-put_record.ensures.back told content
          (at-record (IsLeftIn (g.P.Part.shape c.loop-rec.part) content b.cur) c.args.records.now
          log.records c.requires.records
          (subst (λ (s : Shape). All (IsLeftIn s content b.cur) (images_of log.records)) (sym same)
          now)
          c.loop-rec.rec-index c.loop-rec-test.true c.rec-item.result c.rec-item.is)));
    }

pub put_record-requires-clause-ready : goal.put_record-requires-clause-ready
put_record-requires-clause-ready g c told =
    let first = c.requires.ready told in
    let b = g.B.Blocks.seen c.loop-rec.blocks in (
      first.0,
      subst (λ (s : Shape). IsReady s first.0 (g.P.Part.known c.loop-rec.part)
          (g.K.Kept.kept c.args.kept.now c.args.number) b) (sym c.loop-rec.invariant.shape)
          (c.loop-rec.invariant.ready told first.0 first.1),
    )

pub returns-clause-back : goal.returns-clause-back
returns-clause-back g c told content left =
    let shape = g.P.Part.shape c.args.part.now in
    let a = g.B.Blocks.seen c.args.blocks.now in
    let b = g.B.Blocks.seen c.loop-rec.blocks in
    let f = image_in (live_in c.args.log.now.records) in
    subst (λ (records : List LogRecord). ArePutBack shape content (filter_map f records) a b)
    (take_all c.loop-rec.rec-index c.args.records.now c.loop-rec-test.false ∙ c.requires.records)
    (c.loop-rec.invariant.back told content left)
