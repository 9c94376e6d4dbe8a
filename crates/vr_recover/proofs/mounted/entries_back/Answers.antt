use Rattle.std.proofs.Common.{◌≡◌, ◌∙◌, List, ap, inl, refl, subst, sym}
use Rattle.std.specs.Prelude.{All}
use Rattle.std.proofs.lemmas.Result.{IfErr-weaker, IfOk-weaker}
use Rattle.vr_attach.specs.Laid.{catalog_shape}
use Rattle.vr_log.specs.declared.record.LogRecord.{LogRecord}
use Rattle.vr_part.specs.Any.{shape_any}
use Rattle.vr_space.specs.Part.{Shape}
use Rattle.vr_volume.specs.PutBack.{images_of, put_back}
use Rattle.vr_recover.specs.Found.{AreEntriesBack, AreEntriesBy, IsBackShown, IsNoneBy, ShowsOnly}
use Rattle.vr_recover.specs.Images.{named}
use Rattle.vr_recover.specs.Undone.{FitsPart}
use Rattle.vr_recover.proofs.Attaching.{holds-if, not-if}
use Rattle.vr_recover.proofs.CatalogBack.{fits-named}
use Rattle.vr_recover.proofs.Mounting.{entries-by, own-is, shown-by}
use Rattle.vr_recover.proofs.mounted.entries_back.Goals as goal

pub returns-then-not-may_put_back-clause-damaged : goal.returns-then-not-may_put_back-clause-damaged
returns-then-not-may_put_back-clause-damaged c =
    let geometry = c.args.geometry.now in
    let images = images_of c.args.begun.now.content.records in
    subst (ShowsOnly (IsBackShown geometry images c.args.records.now.items))
    (sym c.cannot_go_back.ensures)
    (inl (record {
      block_is = refl;
      rule_is = refl;
      damaged = λ fits. not-if c.may_put_back.result
          (All (FitsPart (shape_any c.index-parts-0.result))
          (images_of c.args.begun.now.log.records))
          c.may_put_back.ensures c.if-not-may_put_back.true
          (subst (λ (shape : Shape). All (FitsPart shape)
          (images_of c.args.begun.now.log.records))
          (sym (own-is geometry c.args.parts.now c.index-parts-0.result c.requires.first
          c.index-parts-0.is))
          (subst (λ (records : List LogRecord). All (FitsPart (catalog_shape geometry))
          (images_of records)) c.requires.log fits));
    }))

pub put_images-requires-clause-named : goal.put_images-requires-clause-named
put_images-requires-clause-named c =
    let geometry = c.args.geometry.now in
    let images = images_of c.args.begun.now.log.records in
    fits-named geometry images
    (subst (λ (shape : Shape). All (FitsPart shape) images)
    (own-is geometry c.args.parts.now c.index-parts-0.result c.requires.first c.index-parts-0.is)
    (holds-if c.may_put_back.result (All (FitsPart (shape_any c.index-parts-0.result)) images)
    c.may_put_back.ensures c.if-not-may_put_back.false))

pub returns-clause-entries : goal.returns-clause-entries
returns-clause-entries c =
    let geometry = c.args.geometry.now in
    let old = c.args.records.now.items in
    let new = c.deref.result.now in
    let images = images_of c.args.begun.now.content.records in
    let back : named new ≡ put_back 0 images (named old) =
    ap named c.deref.ensures.value
    ∙ subst (λ (records : List LogRecord). named c.put_images.new.records.items
    ≡ put_back 0 (images_of records) (named old)) (sym c.requires.log)
    c.in_ok-put_images.ensures in
    IfOk-weaker c.entries_by.result (λ catalog. AreEntriesBy geometry new catalog.value)
    (λ catalog. AreEntriesBack geometry images old catalog.value)
    (λ catalog are. entries-by geometry images old new back catalog.value are)
    c.entries_by.ensures.entries

pub returns-clause-damaged : goal.returns-clause-damaged
returns-clause-damaged c =
    let geometry = c.args.geometry.now in
    let old = c.args.records.now.items in
    let new = c.deref.result.now in
    let images = images_of c.args.begun.now.content.records in
    let back : named new ≡ put_back 0 images (named old) =
    ap named c.deref.ensures.value
    ∙ subst (λ (records : List LogRecord). named c.put_images.new.records.items
    ≡ put_back 0 (images_of records) (named old)) (sym c.requires.log)
    c.in_ok-put_images.ensures in
    IfErr-weaker c.entries_by.result (ShowsOnly (IsNoneBy geometry new))
    (ShowsOnly (IsBackShown geometry images old))
    (λ answer shown. shown-by geometry images old new back answer shown)
    c.entries_by.ensures.damaged
