use Rattle.std.proofs.Common.{List, get_or, map, refl, subst, sym, take}
use Rattle.std.specs.Prelude.{All, IfSome}
use Rattle.std.proofs.lemmas.Bool.{true≢false}
use Rattle.std.proofs.lemmas.List.{take_all, take_more}
use Rattle.std.proofs.lemmas.List.Elements.{All-push}
use Rattle.vr_part.specs.Any.{shape_any}
use Rattle.vr_log.specs.Live.{live_in}
use Rattle.vr_log.specs.declared.record.LogRecord.{LogRecord}
use Rattle.vr_volume.specs.PutBack.{image_in}
use Rattle.vr_recover.specs.Undone.{IsCovered}
use Rattle.vr_recover.proofs.PuttingBack.{at-record, from-each}
use Rattle.vr_recover.proofs.fitting.are_covered.Goals as goal

pub returns-then-not-is_covered : goal.returns-then-not-is_covered
returns-then-not-is_covered c = (
  λ is. absurd (true≢false (sym is)),
  λ all. c.if-not-is_covered.ensures.1 (at-record (IsCovered (map shape_any c.args.parts.now))
      c.args.records.now c.args.log.now.records c.requires.records all c.loop-rec.rec-index
      c.loop-rec-test.true c.rec-item.result c.rec-item.is),
)

pub loop-rec-preserved : goal.loop-rec-preserved
loop-rec-preserved c =
    let records = c.args.records.now in
    let index = c.loop-rec.rec-index in
    let Fits = λ (rec : LogRecord). IfSome (image_in (live_in c.args.log.now.records) rec)
    (IsCovered (map shape_any c.args.parts.now)) in
    subst (All Fits) (sym (take_more records index c.rec-item.result c.loop-rec-test.true))
    (All-push Fits (take index records) (get_or records index c.rec-item.result)
    c.loop-rec.invariant
    (subst Fits c.rec-item.is (c.if-not-is_covered.ensures.0 refl)))

pub returns : goal.returns
returns c =
    let records = c.args.records.now in
    let f = image_in (live_in c.args.log.now.records) in
    let Fits = IsCovered (map shape_any c.args.parts.now) in (
      λ is. subst (λ (rs : List LogRecord). All Fits (Rattle.std.specs.List.filter_map f rs))
          c.requires.records
          (from-each Fits f records
          (subst (All (λ (rec : LogRecord). IfSome (f rec) Fits))
          (take_all c.loop-rec.rec-index records c.loop-rec-test.false) c.loop-rec.invariant)),
      λ all. refl,
    )
