use Rattle.std.proofs.lemmas.Result.{IfErr-weaker, IfOk-weaker, err_from_is_err_and}
use Rattle.vr_volume.specs.PutBack.{images_of}
use Rattle.vr_recover.specs.Found.{AreEntriesBack, AreEntriesOf, AtCatalog, IsBackShown}
use Rattle.vr_recover.specs.Found.{IsMountShown, ShowsOnly}
use Rattle.vr_recover.specs.Opening.{IsCatalogPartShown}
use Rattle.vr_recover.proofs.Attaching.{shows-more}
use Rattle.vr_recover.proofs.Mounting.{entries-as, shown-as}
use Rattle.vr_recover.proofs.mounted.read_catalog.Goals as goal

pub returns-in_err-records-clause-damaged : goal.returns-in_err-records-clause-damaged
returns-in_err-records-clause-damaged g c told =
    let geometry = c.args.geometry.now in
    let a = g.B.Blocks.seen c.args.blocks.now in
    let images = images_of c.args.begun.now.content.records in
    let p = err_from_is_err_and c.from_residual.result c.from_residual.ensures.1 in
    rw (p.1, p.2) (shows-more (IsCatalogPartShown geometry a.cur)
    (IsMountShown geometry images a)
    (λ block rule shown. AtCatalog shown) c.in_err-records.field-0.0
    (c.in_err-records.ensures.damaged told))

pub returns-clause-entries : goal.returns-clause-entries
returns-clause-entries g c told =
    let geometry = c.args.geometry.now in
    let a = g.B.Blocks.seen c.args.blocks.now in
    let images = images_of c.args.begun.now.content.records in
    let records = c.in_ok-records.records.items in
    IfOk-weaker c.entries_back.result
    (λ catalog. AreEntriesBack geometry images records catalog.value)
    (λ catalog. AreEntriesOf geometry images a.cur catalog.value)
    (λ catalog back. entries-as geometry images a records (c.in_ok-records.ensures.records told)
    catalog.value back)
    c.entries_back.ensures.entries

pub returns-clause-damaged : goal.returns-clause-damaged
returns-clause-damaged g c told =
    let geometry = c.args.geometry.now in
    let a = g.B.Blocks.seen c.args.blocks.now in
    let images = images_of c.args.begun.now.content.records in
    let records = c.in_ok-records.records.items in
    IfErr-weaker c.entries_back.result (ShowsOnly (IsBackShown geometry images records))
    (ShowsOnly (IsMountShown geometry images a))
    (λ answer shown. shown-as geometry images a records (c.in_ok-records.ensures.records told)
    (c.in_ok-records.ensures.stands told) answer shown)
    c.entries_back.ensures.damaged
