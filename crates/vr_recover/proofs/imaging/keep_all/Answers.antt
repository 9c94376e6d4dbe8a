use Rattle.std.proofs.Common.{List, ap, subst, sym, ◌∙◌}
use Rattle.std.specs.List.{filter_map}
use Rattle.std.proofs.lemmas.List.{take_all}
use Rattle.vr_log.specs.Live.{live_in}
use Rattle.vr_log.specs.declared.record.LogRecord.{LogRecord}
use Rattle.vr_undo.specs.Records.{images_in}
use Rattle.vr_volume.specs.PutBack.{AreAlone, image_in}
use Rattle.vr_recover.proofs.Keeping.{image-next, next-new}
use Rattle.vr_recover.proofs.imaging.keep_all.Goals as goal

pub keep_one-requires-clause-new : goal.keep_one-requires-clause-new
keep_one-requires-clause-new c =
    let f = image_in (live_in c.args.log.now.records) in
    next-new f c.args.records.now c.loop-rec.rec-index c.rec-item.result c.loop-rec-test.true
    (sym c.rec-item.is) (images_in c.loop-rec.undo) c.loop-rec.invariant
    (subst (λ (rs : List LogRecord). AreAlone (filter_map f rs)) (sym c.requires.records)
    c.requires.alone)

pub loop-rec-init : goal.loop-rec-init
loop-rec-init c = ap images_in c.requires.none

pub loop-rec-preserved : goal.loop-rec-preserved
loop-rec-preserved c =
    image-next (image_in (live_in c.args.log.now.records)) c.args.records.now
    c.loop-rec.rec-index c.rec-item.result c.loop-rec-test.true (sym c.rec-item.is)
    (images_in c.loop-rec.undo) (images_in c.keep_one.new.undo) c.loop-rec.invariant
    c.in_ok-keep_one.ensures

pub returns : goal.returns
returns c =
    let f = image_in (live_in c.args.log.now.records) in
    c.loop-rec.invariant
    ∙ ap (filter_map f) (take_all c.loop-rec.rec-index c.args.records.now c.loop-rec-test.false)
    ∙ ap (filter_map f) c.requires.records
