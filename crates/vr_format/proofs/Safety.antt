-- What was formatted is safe, and recovers to its contents.
use Rattle.std.proofs.Common.{◌≡◌, ◌+◌, ◌<◌, ℕ, zero, suc, Bool, true, false, List, [], set}
use Rattle.std.proofs.Common.{refl, sym, ap, subst, ◌∙◌, arith, Option, Some, None, inl}
use Rattle.std.specs.Prelude.{cond, nat_eq, Contains}
use Rattle.std.specs.List.{fold}
use Rattle.std.proofs.lemmas.List.Elements.{All-nil, All-replicate}
use Rattle.vr_types.specs.Content.{Ascends, Content, Item, item_at}
use Rattle.vr_types.specs.Fields.{AreZeros}
use Rattle.vr_types.specs.Geometry.{area_count, head_block}
use Rattle.vr_types.specs.Image.{Image}
use Rattle.vr_types.specs.Space.{all_free}
use Rattle.vr_types.specs.declared.geometry.Geometry.{Geometry}
use Rattle.vr_types.specs.declared.unit.PartNo.{PartNo}
use Rattle.vr_space.specs.Areas.{KeyedChain, areas_after, areas_in}
use Rattle.vr_space.specs.Part.{KeyedShape, NumberedShape, Shape, Stands}
use Rattle.vr_space.specs.Rosters.{Numbered, areas_from, chain_of}
use Rattle.vr_space.proofs.CallerLemmas.{content_item, item-read, stands_content}
use Rattle.vr_catalog.specs.Catalog.{entries_in}
use Rattle.vr_catalog.specs.declared.entry.CatEntry.{CatEntry}
use Rattle.vr_attach.specs.Laid.{ReachesArea, shape_in}
use Rattle.vr_attach.specs.Owning.{owner_of}
use Rattle.vr_log.specs.Content.{Content as LogContent}
use Rattle.vr_history.specs.State.{BeforeImage}
use Rattle.vr_undo.proofs.CallerLemmas.{stands-same}
use Rattle.vr_volume.specs.Laid.{catalog_shape, shape_by}
use Rattle.vr_volume.specs.PutBack.{standing, standing_of}
use Rattle.vr_volume.specs.Safe.{IsImageSafe}
use Rattle.vr_volume.specs.Volume.{CanPutBack, IsInside, Recovers}
use Rattle.vr_volume.proofs.CallerLemmas.{image_recovers, recovers-same}
use Rattle.vr_mount.specs.Areas.{AreFirstOwners, AreOn, AreOwners, BeginsWith, EndsBefore}
use Rattle.vr_mount.specs.Areas.{catalog_part, part_of}
use Rattle.vr_mount.specs.Marks.{marked}
use Rattle.vr_mount.specs.Numbers.{laid_area}
use Rattle.vr_mount.proofs.Blocks.{one_area}
use Rattle.vr_mount.proofs.Owning.{owners_made}
use Rattle.vr_mount.proofs.Parts.{parts_told}
use Rattle.vr_mount.proofs.CallerLemmas.{OwnParts, area-on, areas-own, none-ascend, part-fits}
use Rattle.vr_format.specs.Formatted.{IsFormatted, catalog_of, contents_of}

abbrev pub no_log : LogContent
no_log = record { generation = 0; records = [] }

no-image : (image : BeforeImage) → None ≡ Some image → ⊥
no-image image is = cc

no-shape : (shape : Shape) → Some shape ≡ None → ⊥
no-shape shape is = cc

-- ---- the first area of a part

-- a part that is on blocks that the volume has begins with an area that ends there
inside-ends : (geometry : Geometry) (shape : Shape) → IsInside geometry shape
    → EndsBefore geometry.blocks shape
inside-ends geometry (KeyedShape part) inside =
    subst (λ (g : Geometry). head_block part.geometry part.first + part.geometry.area < g.blocks)
    inside.1 (area-on part.geometry part.first inside.0.first)
inside-ends geometry (NumberedShape part) inside =
    subst (λ (g : Geometry). head_block part.geometry part.first + part.geometry.area < g.blocks)
    inside.1 (area-on part.geometry part.first inside.0.first)

first-of-chain : (part : Numbered) (image : Image) (k : ℕ) → 0 < k
    → Contains (areas_from part image k part.first) part.first
first-of-chain part image zero some = absurd (omega (arith, some))
first-of-chain part image (suc k) some = (0, omega arith, refl)

first-of-areas : (part : KeyedChain) (image : Image) (k : ℕ) → 0 < k
    → Contains (areas_after part image k part.first) part.first
first-of-areas part image zero some = absurd (omega (arith, some))
first-of-areas part image (suc k) some = (0, omega arith, refl)

-- which area that is
begins-at : (geometry own : Geometry) (first area : ℕ) → own ≡ geometry
    → head_block own first ≡ head_block geometry area → first ≡ area
begins-at geometry own first area inside begins =
    let begun : head_block geometry first ≡ head_block geometry area =
    subst (λ (g : Geometry). head_block g first ≡ head_block geometry area) inside begins in
    one_area (1 + geometry.log) geometry.area first area (head_block geometry area)
    (omega (arith, begun)) (omega (arith, begun)) (omega arith) (omega arith)

-- it reaches that area
first-reached : (geometry : Geometry) (area : ℕ) (shape : Shape) (image : Image)
    → IsInside geometry shape → BeginsWith (head_block geometry area) shape
    → ReachesArea geometry shape image area
first-reached geometry area (KeyedShape part) image inside begins =
    subst (λ (at : ℕ). Contains (areas_in part image) at)
    (begins-at geometry part.geometry part.first area inside.1 begins)
    (first-of-areas part image (area_count part.geometry) (omega arith))
first-reached geometry area (NumberedShape part) image inside begins =
    subst (λ (at : ℕ). Contains (chain_of part image) at)
    (begins-at geometry part.geometry part.first area inside.1 begins)
    (first-of-chain part image (area_count part.geometry) (omega (arith, inside.0.first)))

module _ (geometry : Geometry) (number : ℕ) (entries : List CatEntry) (image : Image)
    (formatted : IsFormatted geometry number entries image) where
  abbrev contents : ℕ → Content
  contents = contents_of entries

  -- part 0 is laid whatever the catalog has
  catalog-laid : shape_by geometry (catalog_of entries) 0 ≡ Some (catalog_shape geometry)
  catalog-laid = refl

  each-by : (b : Bool) → Ascends (cond b (catalog_of entries) [])
  each-by true = (stands_content (catalog_shape geometry) image (catalog_of entries)
      (formatted.laid 0 (catalog_shape geometry) catalog-laid)).ascends
  each-by false = none-ascend

  others-by : (part : ℕ) (b : Bool) → nat_eq part 0 ≡ b
      → shape_by geometry (catalog_of entries) part ≡ None → cond b (catalog_of entries) [] ≡ []
  others-by part true is none = absurd (no-shape (catalog_shape geometry)
      (sym (ap (λ (b : Bool). cond b (Some (catalog_shape geometry))
      (Rattle.std.specs.Option.option_and_then (Rattle.vr_volume.specs.Laid.shape_of geometry)
      (Rattle.vr_catalog.specs.Catalog.entry_with_part
      (Rattle.vr_catalog.specs.Catalog.entries_in (catalog_of entries)) part))) is) ∙ none))
  others-by part false is none = refl

  -- what is at a place is a record
  recorded : (b : Bool) (place : List ℕ)
      → standing_of (item_at (cond b (catalog_of entries) []) place)
      ≡ item_at (cond b (catalog_of entries) []) place
  recorded true place = subst (λ (item : Option Item). standing_of item ≡ item)
      (sym (content_item (catalog_shape geometry) image (catalog_of entries)
      (formatted.laid 0 (catalog_shape geometry) catalog-laid) place))
      (sym (item-read (catalog_shape geometry) image place tt))
  recorded false place = refl

  -- ---- who owns the areas

  abbrev cataloged : List CatEntry
  cataloged = entries_in (catalog_of entries)

  stands-some : (part : ℕ) (shape : Shape) → shape_in geometry cataloged part ≡ Some shape
      → Stands shape image
  stands-some part shape laid = (contents part, formatted.laid part shape laid)

  on-all : AreOn geometry cataloged
  on-all part shape laid = inside-ends geometry shape (formatted.inside part shape laid)

  -- each part owns its one area
  pub owned : (owners : List (Option PartNo)) × AreOwners geometry cataloged image owners
  owned =
      let owners : List (Option PartNo) = fold (marked laid_area part_of)
      (set (all_free (area_count geometry)) 0 (Some catalog_part)) cataloged in
      let firsts : AreFirstOwners geometry cataloged owners =
      owners_made geometry cataloged owners (parts_told cataloged formatted.catalog.parts)
      formatted.apart on-all refl in (
        owners,
        record {
          count = firsts.count;
          owned = λ part area reached. firsts.owned part area (record {
            shape = reached.shape;
            laid = reached.laid;
            begins = formatted.alone part.0 reached.shape reached.laid area reached.reaches;
          });
          only = λ part area is.
              let laid = firsts.only part area is in
              record {
                shape = laid.shape;
                laid = laid.laid;
                reaches = first-reached geometry area laid.shape image
                    (formatted.inside part.0 laid.shape laid.laid) laid.begins;
              };
        },
      )

  within : OwnParts geometry cataloged (owner_of geometry owned.0) image
  within = areas-own geometry cataloged owned.0 image owned.1 stands-some

  pub formatted-safe : IsImageSafe geometry number (owner_of geometry owned.0) no_log contents
      image
  formatted-safe = record {
    past = within.past;
    header = formatted.header;
    log_is = inl (record {
      zeros = subst AreZeros (sym formatted.log)
          (All-replicate (λ (b : ℕ). b ≡ 0) geometry.size 0 refl);
      none = refl;
    });
    committed = record {
      each = λ part. each-by (nat_eq part 0);
      catalog = formatted.catalog;
      inside = formatted.inside;
      others = λ part none. others-by part (nat_eq part 0) refl none;
      images = All-nil (CanPutBack (shape_by geometry (contents 0)));
      alone = tt;
      olds = λ part place one is. absurd (no-image one is);
    };
    parts = λ part shape is. record {
      has = record {
        content = contents part;
        stands = formatted.laid part shape is;
        within = within.within part shape is;
        each = λ place none. refl;
      };
      room = part-fits shape image (contents part) (formatted.laid part shape is);
    };
  }

  pub formatted-recovers : Recovers geometry number image contents
  formatted-recovers = recovers-same geometry number image
      (λ (part : ℕ). standing (contents part)) contents
      (λ part. sym (stands-same (contents part) (each-by (nat_eq part 0))
      (recorded (nat_eq part 0))))
      (image_recovers geometry number (owner_of geometry owned.0) image no_log contents
      formatted-safe).recovers
