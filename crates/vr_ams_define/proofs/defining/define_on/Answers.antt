use Rattle.std.proofs.Common.{◌≡◌, None, true, sym, subst, rules}
use Rattle.vr_catalog.specs.Define.{define_fault, new_entry}
use Rattle.vr_catalog.specs.Entry.{is_entry}
use Rattle.vr_catalog.specs.declared.entry.CatEntry.{CatEntry}
use Rattle.vr_ams_define.specs.NewCluster.{IsNewCluster}
use Rattle.vr_ams_define.proofs.NewEntries.{is-new}
use Rattle.vr_ams_define.proofs.defining.define_on.Goals as goal

pub enter-requires-clause-new : goal.enter-requires-clause-new
enter-requires-clause-new g c is =
    let geometry = g.V.OwnedVolume.geometry c.args.volume.now in
    let entries = (g.V.ShownVolume.shown c.args.volume.now).catalog in
    let order = c.args.order.now in
    let same : c.added.result.now ≡ new_entry entries order = search rules in
    let none : define_fault entries order geometry ≡ None = search rules in
    subst (λ (entry : CatEntry). IsNewCluster geometry entries entry) (sym same)
    (is-new geometry entries order.name order.what c.requires.plain none
    (subst (λ (entry : CatEntry). is_entry entry ≡ true) same is))
