-- The catalog read from its blocks, with before-images put back in it: its entries, and what is shown
-- of it.
use Rattle.std.proofs.Common.{◌≡◌, ◌∙◌, ⊎_elim, inr, ℕ, List, sym, ap, subst, get_or}
use Rattle.vr_types.specs.Content.{Content}
use Rattle.vr_types.specs.Seen.{Seen}
use Rattle.vr_types.specs.declared.geometry.Geometry.{Geometry}
use Rattle.vr_catalog.specs.Catalog.{entries_in}
use Rattle.vr_catalog.specs.declared.entry.CatEntry.{CatEntry}
use Rattle.vr_attach.specs.CatalogRules.{IsCatalog}
use Rattle.vr_attach.specs.Laid.{catalog_shape}
use Rattle.vr_history.specs.State.{BeforeImage}
use Rattle.vr_mount.specs.Listing.{AreRecords}
use Rattle.vr_mount.specs.Records.{bytes_of}
use Rattle.vr_part.specs.Any.{shape_any}
use Rattle.vr_part.specs.declared.any.AnyPart.{AnyPart}
use Rattle.vr_space.specs.Areas.{KeyedChain}
use Rattle.vr_space.specs.Part.{KeyedShape, Stands, StandsFor}
use Rattle.vr_volume.specs.PutBack.{put_back}
use Rattle.vr_recover.specs.Found.{AreEntriesBack, AreEntriesBy, AreEntriesOf, AtImages}
use Rattle.vr_recover.specs.Found.{IsBackShown, IsFirstAlone, IsMountShown, IsNoneBy}
use Rattle.vr_recover.specs.Found.{Misspelled, ShowsOnly, catalog_by, named}
use Rattle.vr_recover.specs.declared.open_no.OpenNo.{OpenNo}
use Rattle.vr_recover.proofs.Attaching.{shows-more}
use Rattle.vr_recover.proofs.CatalogBack.{catalog-named, named-bytes}

-- ---- the catalog's own part

-- the only part there is, as it is attached, has the catalog's shape
pub own-is : (geometry : Geometry) (parts : List AnyPart) (part : AnyPart)
    → IsFirstAlone geometry parts → part ≡ get_or parts 0 part
    → shape_any part ≡ catalog_shape geometry
own-is geometry parts part first is =
    ap shape_any (is ∙ ap (λ (ps : List AnyPart). get_or ps 0 part) first.is)
    ∙ ap (λ (own : KeyedChain). KeyedShape own) first.attached.part_is

-- ---- records, with before-images put back in them

module _ (geometry : Geometry) (images : List BeforeImage) (old new : List (List ℕ))
    (back : named new ≡ put_back 0 images (named old)) where
  bytes-back : bytes_of (put_back 0 images (named old)) ≡ new
  bytes-back = ap bytes_of (sym back) ∙ named-bytes new

  pub entries-by : (entries : List CatEntry) → AreEntriesBy geometry new entries
      → AreEntriesBack geometry images old entries
  entries-by entries are = are (put_back 0 images (named old)) bytes-back

  pub shown-by : (answer : OpenNo) → ShowsOnly (IsNoneBy geometry new) answer
      → ShowsOnly (IsBackShown geometry images old) answer
  shown-by = shows-more (IsNoneBy geometry new) (IsBackShown geometry images old)
      (λ block rule shown. inr (record {
        block_is = shown.block_is;
        rule_is = shown.rule_is;
        damaged = shown.damaged (put_back 0 images (named old)) bytes-back;
      }))

-- ---- the records that the blocks have

module _ (geometry : Geometry) (images : List BeforeImage) (now : Seen)
    (records : List (List ℕ)) (are : AreRecords (catalog_shape geometry) now.cur records) where
  back-as : (content : Content) → StandsFor (catalog_shape geometry) now.cur content
      → put_back 0 images (named records) ≡ catalog_by images content
  back-as content stands = ap (put_back 0 images)
      (sym (catalog-named geometry now.cur content stands ∙ ap named (are content stands)))

  pub entries-as : (entries : List CatEntry) → AreEntriesBack geometry images records entries
      → AreEntriesOf geometry images now.cur entries
  entries-as entries back content stands = (
    back.0 ∙ ap entries_in (back-as content stands),
    subst (IsCatalog geometry) (back-as content stands) back.1,
  )

  pub shown-as : Stands (catalog_shape geometry) now.cur → (answer : OpenNo)
      → ShowsOnly (IsBackShown geometry images records) answer
      → ShowsOnly (IsMountShown geometry images now) answer
  shown-as stands = shows-more (IsBackShown geometry images records)
      (IsMountShown geometry images now)
      (λ block rule shown. ⊎_elim (λ own. AtImages stands own)
      (λ none. Misspelled (record {
        block_is = none.block_is;
        rule_is = none.rule_is;
        stands = stands;
        damaged = λ content there is. none.damaged
            (subst (IsCatalog geometry) (sym (back-as content there)) is);
      }))
      shown)
