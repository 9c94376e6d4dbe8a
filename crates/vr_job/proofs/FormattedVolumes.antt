-- Volumes as they were formatted: each opens again.
use Rattle.std.proofs.Common.{◌≡◌, ◌∙◌, ℕ, List, sym}
use Rattle.std.specs.Prelude.{All}
use Rattle.std.proofs.lemmas.List.Elements.{All-weaker}
use Rattle.vr_types.specs.Geometry.{IsAllowed}
use Rattle.vr_types.specs.Image.{Image}
use Rattle.vr_types.specs.Seen.{Seen}
use Rattle.vr_types.specs.declared.geometry.Geometry.{Geometry}
use Rattle.vr_catalog.specs.Catalog.{entries_in}
use Rattle.vr_catalog.specs.declared.entry.CatEntry.{CatEntry}
use Rattle.vr_catalog.specs.declared.entry.EntryKind.{EntryKind}
use Rattle.vr_catalog.specs.declared.entry.EntryKind.TheVariants.{Alternate, Cluster}
use Rattle.vr_edits.specs.Edits.{IsServedEntry}
use Rattle.vr_format.specs.Fit.{IsFormattedWith}
use Rattle.vr_format.specs.Formatted.{IsFormatted, IsPlainCluster, catalog_of, contents_of}
use Rattle.vr_format.specs.Formatted.{first_entries}
use Rattle.vr_format.proofs.CallerLemmas.{first-plain, formatted-recovers, taken-plain}
use Rattle.vr_job.specs.OpensAgain.{OpensAgain}
use Rattle.vr_job.proofs.ServedRuns.{recovered-opens}

-- a plain cluster is served
plain-served : (geometry : Geometry) (entry : CatEntry) → IsPlainCluster geometry entry
    → IsServedEntry geometry entry
plain-served geometry entry is = record {
  plain = λ cluster. is.1;
  unbuilt = λ alternate. absurd (no-alternate (sym is.0 ∙ alternate));
}
  where
    no-alternate : ◌≡◌ {A = EntryKind} Cluster Alternate → ⊥
    no-alternate same = cc

module _ {D : Type 0} (seen : D → Seen) (geometry : Geometry) (number : ℕ)
    (allowed : IsAllowed geometry) where
  formatted-opens : (entries : List CatEntry) (image : Image)
      → IsFormatted geometry number entries image
      → All (IsPlainCluster geometry) (entries_in (catalog_of entries))
      → OpensAgain seen geometry number image
  formatted-opens entries image formatted plain =
      recovered-opens seen geometry number allowed (contents_of entries) image
      (formatted-recovers geometry number entries image formatted)
      (All-weaker (IsPlainCluster geometry) (IsServedEntry geometry) (plain-served geometry)
      (entries_in (catalog_of entries)) plain)

  pub first-opens : (image : Image) → IsFormatted geometry number (first_entries number) image
      → OpensAgain seen geometry number image
  first-opens image formatted = formatted-opens (first_entries number) image formatted
      (first-plain geometry number allowed)

  pub entries-open : (entries : List CatEntry) (image : Image)
      → IsFormattedWith geometry number entries image → OpensAgain seen geometry number image
  entries-open entries image formatted = formatted-opens formatted.clusters image
      formatted.formatted (taken-plain geometry entries formatted.clusters formatted.taken)
