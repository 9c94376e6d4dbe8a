use Rattle.std.proofs.Common.{◌≡◌, ap, subst, sym}
use Rattle.vr_record_file.specs.CatalogEdit.{MayEditCatalog}
use Rattle.vr_record_file.specs.Now.{FileNow, IsStateOf}
use Rattle.vr_event.specs.Volume.{VolumeNow}
use Rattle.vr_event.proofs.volume.Volume.enter_edit_in_doubt.Goals as goal

pub returns-clause-state : goal.returns-clause-state
returns-clause-state g c opening changes of may =
    let prepared = c.args.prepared in
    let of-file : c.self.inside.file ≡ c.args.self.now.file =
    ap (λ (v : VolumeNow g.row.B.Denot). v.file) c.self.view_is in
    c.fail_catalog_edit.ensures.state opening changes (subst (IsStateOf opening) (sym of-file) of)
    (subst (λ (f : FileNow). MayEditCatalog opening f c.args.unit prepared.steps.items changes
    prepared.commit prepared.catalog) (sym of-file) may)
