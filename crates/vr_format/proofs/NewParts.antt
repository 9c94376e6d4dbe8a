-- What a new cluster stands for: no record, in one area of the volume.
use Rattle.std.proofs.Common.{◌≡◌, ◌+◌, ◌*◌, ◌<◌, ℕ, zero, suc, List, [], ◌∷◌, ◌++◌}
use Rattle.std.proofs.Common.{refl, sym, ap, subst, arith, Option, Some, None, ◌∙◌}
use Rattle.std.specs.Prelude.{Contains}
use Rattle.std.proofs.lemmas.List.Elements.{All-contains, All-cons, All-nil}
use Rattle.vr_types.specs.Content.{Content}
use Rattle.vr_types.specs.Geometry.{IsAllowed, area_count, head_block}
use Rattle.vr_types.specs.Image.{Block, Image, block_at}
use Rattle.vr_types.specs.declared.geometry.Geometry.{Geometry}
use Rattle.vr_types.specs.declared.unit.Kind.{Kind}
use Rattle.vr_types.specs.declared.unit.Kind.TheVariants as kinds
use Rattle.vr_catalog.specs.Catalog.{definition_in}
use Rattle.vr_catalog.specs.declared.entry.CatEntry.{CatEntry}
use Rattle.vr_seqset.specs.Roster.{IsRoster, Roster}
use Rattle.vr_seqset.specs.Reading.{roster_in}
use Rattle.vr_seqset.proofs.CallerLemmas.{roster_is}
use Rattle.vr_space.specs.Areas.{KeyedChain}
use Rattle.vr_space.specs.Part.{InFirstArea, KeyedShape, NumberedShape, Shape, StandsFor}
use Rattle.vr_space.specs.Rosters.{Chains, IsChainedBy, IsNumbered, IsNextOf, IsOf, Numbered}
use Rattle.vr_space.specs.Rosters.{after_next, areas_from, interval_in, roster_block}
use Rattle.vr_space.specs.Numbered.{IsFilled, NumberedStandsFor, items_from, items_over, span_of}
use Rattle.vr_space.specs.Numbered.{start_of}
use Rattle.vr_attach.specs.Laid.{shape_by_kind}
use Rattle.vr_volume.specs.Volume.{IsInside}
use Rattle.vr_format.specs.Formatted.{HasOneArea}
use Rattle.vr_format.specs.Planned.{BeginsEmpty, InAreaAt, IsCluster, IsClusterOf, IsNew, IsNewOf}
use Rattle.vr_format.specs.Planned.{MayBeNumbered, StandsInFirst, cluster_keyed, cluster_numbered}
use Rattle.vr_format.specs.Planned.{cluster_shape, first_roster}
use Rattle.vr_format.proofs.OneArea.{alone-reaches}

-- ---- an entry-sequenced or relative part that begins empty

module _ (part : Numbered) (image : Image) (begins : BeginsEmpty part image) where
  abbrev Own : ℕ → Type 0
  Own area = area < area_count part.geometry

  abbrev top : Block
  top = block_at image (roster_block part part.first)

  says : roster_in top ≡ first_roster part
  says = roster_is part.geometry.area top (first_roster part) begins.roster

  used : (roster_in top).used ≡ 0
  used = ap (λ (roster : Roster). roster.used) says

  next : (roster_in top).next ≡ None
  next = ap (λ (roster : Roster). roster.next) says

  -- its chain is its first area, of which no interval is used
  chained : (k : ℕ) → 0 < k → part.first < area_count part.geometry
      → Chains part Own (IsFilled part) (IsOf image) k part.first
  chained zero some there = absurd (omega (arith, some))
  chained (suc k) some there = (
    there,
    λ block is. subst (IsChainedBy part (IsFilled part) (IsOf image) part.first
        (Chains part Own (IsFilled part) (IsOf image) k)) (sym is) (record {
          roster = record {
            spelled = subst (IsRoster part.geometry.area top) (sym says) begins.roster;
            size = begins.size;
            number = ap (λ (roster : Roster). roster.part) says;
          };
          intervals = λ interval below one may. absurd (omega (arith, below, used));
          next = subst (IsNextOf (roster_in top).used part.geometry.area
              (Chains part Own (IsFilled part) (IsOf image) k)) (sym next) tt;
        }),
  )

  records : (k number : ℕ) → items_from part image k number part.first ≡ []
  records zero number = refl
  records (suc k) number =
      ap (λ (roster : Roster).
      items_over part image number (interval_in part part.first 0) roster.used
      ++ after_next [] (items_from part image k (number + roster.used * span_of part))
      roster.next) says

  areas : (k : ℕ) → areas_from part image (suc k) part.first ≡ part.first ∷ []
  areas k = ap (λ (o : Option ℕ). part.first ∷ after_next [] (areas_from part image k) o) next

  reaches : (k area : ℕ) → Contains (areas_from part image k part.first) area → area ≡ part.first
  reaches zero area among = absurd (omega (arith, among.1))
  reaches (suc k) area among =
      All-contains (λ (at : ℕ). at ≡ part.first) (part.first ∷ []) area
      (All-cons (λ (at : ℕ). at ≡ part.first) part.first [] refl
      (All-nil (λ (at : ℕ). at ≡ part.first)))
      (subst (λ (list : List ℕ). Contains list area) (areas k) among)

  none-stands : IsNumbered part → NumberedStandsFor part image []
  none-stands is = record {
    part_is = is;
    chain = chained (area_count part.geometry) (omega (arith, is.first)) is.first;
    records = sym (records (area_count part.geometry) (start_of part));
  }

-- ---- a new cluster, by its kind

-- The cluster in the area is on the volume, and has no record and no other area.
pub record IsMade (geometry : Geometry) (shape : Shape) (image : Image) : Type 0 where
  pub inside : IsInside geometry shape
  pub stands : StandsFor shape image []
  pub alone : HasOneArea geometry shape image

-- a keyed part that stands in its first area reaches it alone
pub one-alone : (geometry : Geometry) (part : KeyedChain) (image : Image) (content : Content)
    → part.geometry ≡ geometry → StandsInFirst part image content
    → HasOneArea geometry (KeyedShape part) image
one-alone geometry part image content is stands = λ area reaches.
    ap (head_block part.geometry)
    (sym (alone-reaches part image stands.last geometry area reaches))
    ∙ ap (λ (g : Geometry). head_block g area) is

some-shape : (x y : Shape) → Some x ≡ Some y → x ≡ y
some-shape x y same = cc

module _ (geometry : Geometry) (allowed : IsAllowed geometry) (area : ℕ) (entry : CatEntry)
    (there : area < area_count geometry) where
  begins-made : MayBeNumbered geometry entry → (image : Image)
      → BeginsEmpty (cluster_numbered geometry area entry) image
      → IsMade geometry (NumberedShape (cluster_numbered geometry area entry)) image
  begins-made may image new =
      let part : Numbered = cluster_numbered geometry area entry in
      let numbered : IsNumbered part =
      record { allowed = allowed; first = there; some = may.some; fits = may.most } in
      record {
        inside = (numbered, refl);
        stands = none-stands part image new numbered;
        alone = λ at reached. ap (head_block geometry)
            (sym (reaches part image new (area_count geometry) at reached));
      }

  new-by : (kind : Kind) → IsClusterOf geometry entry kind → (image : Image)
      → IsNewOf geometry area entry image kind → (shape : Shape)
      → shape_by_kind geometry entry.part.0 area (definition_in entry) kind ≡ Some shape
      → IsMade geometry shape image
  new-by kinds.Keyed may image new shape is =
      subst (λ (s : Shape). IsMade geometry s image)
      (some-shape (KeyedShape (cluster_keyed geometry area entry)) shape is) (record {
        inside = (record { allowed = allowed; first = there; fits = may.most }, refl);
        stands = new.stands;
        alone = one-alone geometry (cluster_keyed geometry area entry) image [] refl new;
      })
  new-by kinds.Entry may image new shape is =
      subst (λ (s : Shape). IsMade geometry s image)
      (some-shape (NumberedShape (cluster_numbered geometry area entry)) shape is)
      (begins-made may image new)
  new-by kinds.Relative may image new shape is =
      subst (λ (s : Shape). IsMade geometry s image)
      (some-shape (NumberedShape (cluster_numbered geometry area entry)) shape is)
      (begins-made may image new)

  pub new-made : IsCluster geometry entry → (image : Image) → IsNew geometry area entry image
      → (shape : Shape) → cluster_shape geometry area entry ≡ Some shape
      → IsMade geometry shape image
  new-made may image new shape is =
      new-by (definition_in entry).kind may.organised image new shape is

first-numbered : (geometry : Geometry) (area n : ℕ) (entry : CatEntry) (shape : Shape)
    → Some (NumberedShape (cluster_numbered geometry area entry)) ≡ Some shape
    → InFirstArea shape n → InAreaAt geometry area n
first-numbered geometry area n entry shape is inside =
    let first : InFirstArea (NumberedShape (cluster_numbered geometry area entry)) n =
    subst (λ (s : Shape). InFirstArea s n)
    (sym (some-shape (NumberedShape (cluster_numbered geometry area entry)) shape is)) inside in
    (first.from, first.to)

-- the first area of a cluster is the one that it is laid in
first-by : (geometry : Geometry) (area n : ℕ) (entry : CatEntry) (kind : Kind) (shape : Shape)
    → shape_by_kind geometry entry.part.0 area (definition_in entry) kind ≡ Some shape
    → InFirstArea shape n → InAreaAt geometry area n
first-by geometry area n entry kinds.Keyed shape is inside =
    subst (λ (s : Shape). InFirstArea s n)
    (sym (some-shape (KeyedShape (cluster_keyed geometry area entry)) shape is)) inside
first-by geometry area n entry kinds.Entry shape is inside =
    first-numbered geometry area n entry shape is inside
first-by geometry area n entry kinds.Relative shape is inside =
    first-numbered geometry area n entry shape is inside

pub in-its-area : (geometry : Geometry) (area n : ℕ) (entry : CatEntry) (shape : Shape)
    → cluster_shape geometry area entry ≡ Some shape → InFirstArea shape n
    → InAreaAt geometry area n
in-its-area geometry area n entry shape is inside =
    first-by geometry area n entry (definition_in entry).kind shape is inside
