use Rattle.std.proofs.Common.{◌≡◌, List, Option, subst, sym}
use Rattle.std.specs.Prelude.{All, IfSome}
use Rattle.std.proofs.lemmas.Result.{IfOk-weaker}
use Rattle.vr_types.specs.Content.{Content}
use Rattle.vr_catalog.specs.Catalog.{entries_in}
use Rattle.vr_catalog.specs.declared.entry.CatEntry.{CatEntry}
use Rattle.vr_attach.specs.CatalogRules.{IsCatalog}
use Rattle.vr_mount.specs.Records.{bytes_of}
use Rattle.vr_recover.specs.Found.{HasLength}
use Rattle.vr_recover.proofs.Numbering.{lengths-by}
use Rattle.vr_recover.proofs.mounted.entries_by.Goals as goal

pub returns-in-Some-clause-lengths : goal.returns-in-Some-clause-lengths
returns-in-Some-clause-lengths c =
    let geometry = c.args.geometry.now in
    let records = c.args.records.now in
    let found = c.in_ok-catalog.ensures in
    let entries : (content : Content) → bytes_of content ≡ records
    → c.in-Some.catalog ≡ entries_in content =
    subst (λ (o : Option (List CatEntry)). IfSome o (λ catalog. (content : Content)
    → bytes_of content ≡ records → catalog ≡ entries_in content)) c.in-Some.is found.entries in
    let rules : (content : Content) → bytes_of content ≡ records → IsCatalog geometry content =
    subst (λ (o : Option (List CatEntry)). IfSome o (λ catalog. (content : Content)
    → bytes_of content ≡ records → IsCatalog geometry content)) c.in-Some.is found.catalog in
    IfOk-weaker c.boxed.result (λ boxed. boxed.value ≡ c.in-Some.catalog)
    (λ boxed. All HasLength boxed.value)
    (λ boxed same. subst (All HasLength) (sym same)
    (lengths-by geometry records c.in-Some.catalog
    (λ content is. (entries content is, rules content is))))
    c.boxed.ensures.same
