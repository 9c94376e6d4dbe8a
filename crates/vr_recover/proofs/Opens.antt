-- A volume whose catalog is served is refused for nothing that its blocks have.
use Rattle.std.proofs.Common.{◌≡◌, ◌∙◌, ◌+◌, ◌≤◌, All, ℕ, List, ap, get_or, refl, subst, sym}
use Rattle.std.specs.Prelude.{IfSome}
use Rattle.vr_types.specs.Content.{Content}
use Rattle.vr_types.specs.Seen.{Seen}
use Rattle.vr_types.specs.declared.geometry.Geometry.{Geometry}
use Rattle.vr_attach.specs.Laid.{catalog_shape}
use Rattle.vr_catalog.specs.Catalog.{cluster_definition, entries_in}
use Rattle.vr_catalog.specs.declared.definition.Definition.{Definition}
use Rattle.vr_catalog.specs.declared.entry.CatEntry.{CatEntry}
use Rattle.vr_catalog.specs.declared.entry.EntryKind.{EntryKind}
use Rattle.vr_catalog.specs.declared.entry.EntryKind.TheVariants.{Alternate, Cluster, Path}
use Rattle.vr_edits.specs.Edits.{IsServedEntry, IsUnbuilt}
use Rattle.vr_log.specs.Content.{Content as LogContent}
use Rattle.vr_log.specs.Spells.{Spells}
use Rattle.vr_mount.proofs.Headers.{one_shape}
use Rattle.vr_space.specs.Part.{StandsFor}
use Rattle.vr_space.proofs.CallerLemmas.{one_content}
use Rattle.vr_volume.specs.PutBack.{images_of}
use Rattle.vr_volume.specs.Volume.{Recovers}
use Rattle.vr_recover.specs.Images.{catalog_by}
use Rattle.vr_recover.specs.Opening.{IsVolume}
use Rattle.vr_recover.specs.Opens.{AreServed, MayBeOpened}
use Rattle.vr_recover.specs.Unserved.{IsEntryCause, IsPlain, IsUnserved}
use Rattle.vr_recover.specs.declared.open_no.OpenNo.TheVariants as nos
use Rattle.vr_recover.specs.declared.open_no.Unserved.{Unserved}
use Rattle.vr_recover.specs.declared.open_no.Unserved.TheVariants.{BuiltIndex, LongRecord}
use Rattle.vr_recover.proofs.Logs.{same_log}

-- the longest record of a cluster that is served has room; and what passes both tests is served
served-plain : (geometry : Geometry) (entry : CatEntry) → IsServedEntry geometry entry
    → IsPlain geometry entry
served-plain geometry entry served = by-kind entry.entry_kind refl
  where
    by-kind : (kind : EntryKind) → entry.entry_kind ≡ kind
        → IfSome (cluster_definition kind entry)
        (λ (definition : Definition). definition.maximum + 7 ≤ geometry.size)
    by-kind Cluster is = served.plain is
    by-kind Alternate is = tt
    by-kind Path is = tt

pub served-both : (geometry : Geometry) (entries : List CatEntry) → All IsUnbuilt entries
    → All (IsPlain geometry) entries → AreServed geometry entries
served-both geometry entries unbuilt plain = λ k entry below. record {
  plain = λ kind. subst (λ (one : EntryKind). IfSome (cluster_definition one (get_or entries k entry))
      (λ (definition : Definition). definition.maximum + 7 ≤ geometry.size)) kind
      (plain k entry below);
  unbuilt = unbuilt k entry below;
}

served-cause : (geometry : Geometry) (entries : List CatEntry) → AreServed geometry entries
    → (cause : Unserved) → IsEntryCause geometry entries cause → ⊥
served-cause geometry entries served BuiltIndex built =
    built (λ k entry below. (served k entry below).unbuilt)
served-cause geometry entries served LongRecord long = long (λ k entry below.
    served-plain geometry (get_or entries k entry) (served k entry below))

module _ (geometry : Geometry) (number : ℕ) (contents : ℕ → Content) (now : Seen)
    (is : IsVolume number geometry contents now)
    (served : AreServed geometry (entries_in (contents 0))) where
  abbrev recovers : Recovers geometry number now.cur contents
  recovers = is.recovers

  module _ (block : ℕ) (cause : Unserved) (refused : IsUnserved number now block cause) where
    -- block 0 is the header of one shape
    same-shape : refused.geometry ≡ geometry
    same-shape = one_shape refused.geometry geometry number number refused.header.allowed is.allowed
        (sym refused.header.bytes ∙ recovers.stands.header)

    -- the blocks spell one log
    same-images : refused.has.log ≡ recovers.log
    same-images = same_log geometry now.cur refused.has.log recovers.log
        (subst (λ (g : Geometry). Spells g now.cur refused.has.log) same-shape refused.has.spelled)
        recovers.stands.log_is

    -- and those of the catalog stand for one content,
    same-catalog : refused.has.catalog.content ≡ recovers.contents 0
    same-catalog = one_content (catalog_shape geometry) now.cur refused.has.catalog.content
        (recovers.contents 0)
        (subst (λ (g : Geometry). StandsFor (catalog_shape g) now.cur refused.has.catalog.content)
        same-shape refused.has.catalog.stands)
        (recovers.stands.laid 0 (catalog_shape geometry) refl)

    -- so that its entries are those of what it recovers to
    same-entries : entries_in (catalog_by (images_of refused.has.log.records)
        refused.has.catalog.content) ≡ entries_in (contents 0)
    same-entries =
        ap (λ (log : LogContent). entries_in (catalog_by (images_of log.records)
        refused.has.catalog.content)) same-images
        ∙ ap (λ (content : Content). entries_in (catalog_by (images_of recovers.log.records)
        content)) same-catalog
        ∙ ap entries_in (sym (recovers.back 0))

    is-served : ⊥
    is-served = served-cause geometry (entries_in (contents 0)) served cause
        (subst (λ (entries : List CatEntry). IsEntryCause geometry entries cause) same-entries
        (subst (λ (g : Geometry). IsEntryCause g (entries_in (catalog_by
        (images_of refused.has.log.records) refused.has.catalog.content)) cause) same-shape
        refused.has.catalog.is))

  pub may-open : MayBeOpened number now
  may-open (nos.Damaged block rule) refused = refused.none geometry contents is
  may-open (nos.Version found) refused = refused.none geometry contents is
  may-open (nos.Unserved block cause) refused = is-served block cause refused
  may-open nos.Read refused = tt
  may-open nos.Write refused = tt
  may-open nos.Memory refused = tt
