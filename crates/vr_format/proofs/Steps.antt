-- What the steps of formatting come to.
use Rattle.std.proofs.Common.{◌≡◌, ◌<◌, ◌≤◌, ◌+◌, ℕ, Bool, true, false, List, [], ◌∷◌, length}
use Rattle.std.proofs.Common.{refl, sym, ap, subst, ◌∙◌, arith, Some, inl, inr, ⊎_elim}
use Rattle.std.proofs.Common.{replicate, IsTrue, zero, suc}
use Rattle.std.specs.Prelude.{cond, nat_eq, slice_get, Result, Ok, Err, OnOk}
use Rattle.std.proofs.Common.{true≢false}
use Rattle.std.specs.Option.{option_and_then}
use Rattle.std.proofs.lemmas.Bool.{cases_lt, eq-eqb}
use Rattle.std.proofs.lemmas.Option.{get_or_from_slice_get}
use Rattle.vr_types.specs.Content.{Content}
use Rattle.vr_types.specs.Geometry.{IsAllowed, head_block}
use Rattle.vr_types.specs.Blocks.{Puts}
use Rattle.vr_types.specs.Image.{Block, Image, block_at}
use Rattle.vr_types.specs.Regions.{Touches}
use Rattle.vr_types.specs.Seen.{Seen}
use Rattle.vr_types.specs.declared.geometry.Geometry.{Geometry}
use Rattle.vr_types.specs.declared.unit.Kind.{Kind}
use Rattle.vr_types.specs.declared.unit.Kind.TheVariants as kinds
use Rattle.vr_types.proofs.CallerLemmas.{block_size_least, during-weaken, puts-touches}
use Rattle.vr_catalog.specs.declared.entry.CatEntry.{CatEntry}
use Rattle.vr_space.specs.Areas.{IsKeyedChain, KeyedChain}
use Rattle.vr_space.specs.Keyed.{InArea}
use Rattle.vr_space.specs.Part.{Shape, StandsFor}
use Rattle.vr_space.specs.Rosters.{Numbered, roster_block}
use Rattle.vr_seqset.specs.Roster.{IsRoster}
use Rattle.vr_volume.specs.Header.{header_block}
use Rattle.vr_catalog.specs.Catalog.{definition_in, entries_in, entry_with_part}
use Rattle.vr_volume.specs.Laid.{catalog_shape, shape_by, shape_of}
use Rattle.vr_volume.specs.Volume.{IsInside}
use Rattle.vr_mount.specs.Touched.{Anything}
use Rattle.vr_mount.proofs.CallerLemmas.{area-before, two-areas}
use Rattle.vr_format.specs.Formatted.{HasOneArea, IsFormatted, IsWritten, catalog_of}
use Rattle.vr_format.specs.Planned.{AreNew, ArePlanned, BeginsEmpty, InAreaAt, InClusters}
use Rattle.vr_format.specs.Planned.{IsCluster, IsNew, IsNewOf, IsOneOf, StandsInFirst}
use Rattle.vr_format.specs.Planned.{catalog_area, catalog_keyed, cluster_keyed, cluster_numbered}
use Rattle.vr_format.specs.Planned.{content_of, first_area, first_roster}
use Rattle.vr_format.proofs.NewParts.{IsMade, new-made, one-alone}
use Rattle.vr_format.proofs.OneArea.{alone-stays}

-- what puts into some blocks puts into more
pub touches-more : (less more : ℕ → Type 0) (old new : Seen) → ((n : ℕ) → less n → more n)
    → Touches less Anything old new → Touches more Anything old new
touches-more less more old new inside call = record {
  count_same = call.count_same;
  size_same = call.size_same;
  content = λ n out. call.content n (λ here. out (inside n here));
  adds_none = λ n block below out may. call.adds_none n block below (λ here. out (inside n here))
      may;
  moments = during-weaken old new _ _ call.moments (λ image has. (
    record { each = λ n below out. has.0.each n below (λ here. out (inside n here)) },
    tt,
  ));
  rest = λ image left. tt;
}

-- what comes of an Ok
pub on-ok : {T E : Type 0} (result : Result T E) (A B : Type 0) → (A → B) → OnOk result A
    → OnOk result B
on-ok (Ok x) A B more holds = more holds
on-ok (Err e) A B more holds = tt

pub on-both : {T E : Type 0} (result : Result T E) (A B C : Type 0) → (A → B → C)
    → OnOk result A → OnOk result B → OnOk result C
on-both (Ok x) A B C more first second = more first second
on-both (Err e) A B C more first second = tt

-- a write
pub touches-put : (tells : Bool) (region : ℕ → Type 0) (n : ℕ) (bytes : Block) (a b : Seen)
    → IsTrue tells → region n → Puts tells n bytes a b → Touches region Anything a b
touches-put tells region n bytes a b told inside call =
    puts-touches tells region Anything n bytes a b told inside call (λ image left. tt)

-- a keyed part of one area stays where that isn't written
pub part-stays : (part : KeyedChain) (region : ℕ → Type 0) (old new : Seen) (content : Content)
    → ((n : ℕ) → InArea (first_area part) n → region n → ⊥) → Touches region Anything old new
    → StandsInFirst part old.cur content → StandsInFirst part new.cur content
part-stays part region old new content apart call =
    alone-stays part old.cur new.cur content (λ n here. call.content n (apart n here))

-- ---- clusters

-- the area of a cluster is one of those of the clusters
pub cluster-inside : (geometry : Geometry) (clusters at n : ℕ) → at < clusters
    → InAreaAt geometry (at + 1) n → InClusters geometry clusters n
cluster-inside geometry clusters at n below here =
    let last = area-before geometry (at + 1) (clusters + 1) (omega (arith, below)) in
    ⊎_elim
    (λ (later : 0 < at). let first = area-before geometry 1 (at + 1) (omega (arith, later)) in
    (omega (arith, here.0, first), omega (arith, here.1, last)))
    (λ (least : at ≤ 0). let same : at ≡ 0 = omega (arith, least) in
    (subst (λ (k : ℕ). head_block geometry (k + 1) ≤ n) same here.0, omega (arith, here.1, last)))
    (cases_lt 0 at)

-- two areas have no common block
areas-apart : (geometry : Geometry) (one other n : ℕ) → one < other
    → InAreaAt geometry one n → InAreaAt geometry other n → ⊥
areas-apart geometry one other n less inside also =
    let before = area-before geometry one other less in
    absurd (omega (arith, before, inside.1, also.0))

-- the roster of a part that isn't written stays
begins-stays : (part : Numbered) (old new : Image)
    → block_at new (roster_block part part.first) ≡ block_at old (roster_block part part.first)
    → BeginsEmpty part old → BeginsEmpty part new
begins-stays part old new top is = record {
  roster = subst (λ (block : Block). IsRoster part.geometry.area block (first_roster part))
      (sym top) is.roster;
  size = ap (λ (block : Block). length block) top ∙ is.size;
}

-- a cluster that isn't written stays new
new-stays : (geometry : Geometry) (area : ℕ) (entry : CatEntry) (kind : Kind) (old new : Image)
    → ((n : ℕ) → InAreaAt geometry area n → block_at new n ≡ block_at old n)
    → IsNewOf geometry area entry old kind → IsNewOf geometry area entry new kind
new-stays geometry area entry kinds.Keyed old new same is =
    alone-stays (cluster_keyed geometry area entry) old new [] same is
new-stays geometry area entry kinds.Entry old new same is =
    begins-stays (cluster_numbered geometry area entry) old new
    (same (head_block geometry area) (omega arith, omega arith)) is
new-stays geometry area entry kinds.Relative old new same is =
    begins-stays (cluster_numbered geometry area entry) old new
    (same (head_block geometry area) (omega arith, omega arith)) is

-- one cluster more
pub new-more : (geometry : Geometry) (clusters : List CatEntry) (n : ℕ) (entry : CatEntry)
    (old new : Seen) → slice_get clusters n ≡ Some entry → AreNew geometry clusters n old.cur
    → Touches (InAreaAt geometry (n + 1)) Anything old new
    → IsNew geometry (n + 1) entry new.cur → AreNew geometry clusters (n + 1) new.cur
new-more geometry clusters n entry old new is so_far call made at other below there =
    ⊎_elim
    (λ (before : at < n). new-stays geometry (at + 1) other (definition_in other).kind old.cur
    new.cur (λ m here. call.content m (λ also. areas-apart geometry (at + 1) (n + 1) m
    (omega (arith, before)) here also)) (so_far at other before there))
    (λ (last : n ≤ at). let same : at ≡ n = omega (arith, last, below) in
    let entries : other ≡ entry = some-same other entry (sym there
    ∙ ap (λ (k : ℕ). slice_get clusters k) same ∙ is) in
    subst (λ (e : CatEntry). IsNew geometry (at + 1) e new.cur) (sym entries)
    (subst (λ (k : ℕ). IsNew geometry (k + 1) entry new.cur) (sym same) made))
    (cases_lt at n)
  where
    some-same : (x y : CatEntry) → Some x ≡ Some y → x ≡ y
    some-same x y same = cc

-- ---- the whole

pub in-start : (geometry : Geometry) (clusters n : ℕ) → n ≤ 1 → IsWritten geometry clusters n
in-start geometry clusters n here = inl here

pub in-catalog : (geometry : Geometry) (clusters n : ℕ)
    → InArea (catalog_area geometry) n → IsWritten geometry clusters n
in-catalog geometry clusters n here =
    let before = area-before geometry 0 (clusters + 1) (omega arith) in
    inr (here.0, omega (arith, before, here.1))

pub in-clusters : (geometry : Geometry) (clusters n : ℕ)
    → InClusters geometry clusters n → IsWritten geometry clusters n
in-clusters geometry clusters n here =
    let before = area-before geometry 0 1 (omega arith) in
    inr (omega (arith, before, here.0), here.1)

-- the steps, each Ok
pub record Steps (geometry : Geometry) (number : ℕ) (entries clusters : List CatEntry)
    (first second third last : Seen) : Type 0 where
  pub header : block_at second.cur 0 ≡ header_block geometry number
  pub log : block_at second.cur 1 ≡ replicate geometry.size 0
  pub catalog : StandsInFirst (catalog_keyed geometry) third.cur
      (content_of (catalog_area geometry) entries)
  pub to_third : Touches (InArea (catalog_area geometry)) Anything second third
  pub new : AreNew geometry clusters (length clusters) last.cur
  pub to_last : Touches (InClusters geometry (length clusters)) Anything third last

module _ (geometry : Geometry) (number : ℕ) (entries clusters : List CatEntry)
    (first second third last : Seen) (planned : ArePlanned geometry entries clusters)
    (allowed : IsAllowed geometry)
    (steps : Steps geometry number entries clusters first second third last) where
  start-stays : (n : ℕ) → n ≤ 1 → block_at last.cur n ≡ block_at second.cur n
  start-stays n small =
      let before = area-before geometry 0 1 (omega arith) in
      steps.to_last.content n
      (λ inside. absurd (omega (arith, inside.0, before, small, allowed.some_log)))
      ∙ steps.to_third.content n
      (λ inside. absurd (omega (arith, inside.0, small, allowed.some_log)))

  catalog-stays : StandsInFirst (catalog_keyed geometry) last.cur
      (content_of (catalog_area geometry) entries)
  catalog-stays =
      part-stays (catalog_keyed geometry) (InClusters geometry (length clusters))
      third last (content_of (catalog_area geometry) entries)
      (λ n here also. let before = area-before geometry 0 1 (omega arith) in
      absurd (omega (arith, here.1, also.0, before))) steps.to_last steps.catalog

  catalog-stands : StandsFor (catalog_shape geometry) last.cur (catalog_of entries)
  catalog-stands = subst (StandsFor (catalog_shape geometry) last.cur) (sym planned.content)
      catalog-stays.stands

  -- the catalog's part is there, and its records have room
  catalog-chain : IsKeyedChain (catalog_keyed geometry)
  catalog-chain = record {
    allowed = allowed;
    first = omega (arith, two-areas geometry allowed);
    fits = omega (arith, block_size_least geometry.size allowed.size);
  }

  below-of : (xs : List CatEntry) (at : ℕ) (entry : CatEntry)
      → slice_get xs at ≡ Some entry → at < length xs
  below-of [] at entry is = absurd cc
  below-of (x ∷ xs) zero entry is = omega arith
  below-of (x ∷ xs) (suc at) entry is = omega (arith, below-of xs at entry is)

  cluster-made : (shape : Shape) → IsOneOf geometry clusters shape
      → IsMade geometry shape last.cur
  cluster-made shape one =
      let below : one.at < length clusters = below-of clusters one.at one.entry one.there in
      new-made geometry allowed (one.at + 1) one.entry (omega (arith, below, planned.areas))
      (served-at one.at one.entry one.there) last.cur
      (steps.new one.at one.entry below one.there) shape one.shape_is
    where
      served-at : (at : ℕ) (entry : CatEntry) → slice_get clusters at ≡ Some entry
          → IsCluster geometry entry
      served-at at entry there = subst (IsCluster geometry)
          (get_or_from_slice_get clusters at entry entry there)
          (planned.served at entry (below-of clusters at entry there))

  shapes-same : (x y : Shape) → Some x ≡ Some y → x ≡ y
  shapes-same x y same = cc

  -- the shape of part 0
  catalog-is : (part : ℕ) (shape : Shape) → nat_eq part 0 ≡ true
      → shape_by geometry (catalog_of entries) part ≡ Some shape → catalog_shape geometry ≡ shape
  catalog-is part shape is there = shapes-same (catalog_shape geometry) shape
      (sym (ap (λ (b : Bool). cond b (Some (catalog_shape geometry))
      (option_and_then (shape_of geometry)
      (entry_with_part (entries_in (catalog_of entries)) part))) is) ∙ there)

  -- and each other part
  one-of : (part : ℕ) (shape : Shape) → nat_eq part 0 ≡ false
      → shape_by geometry (catalog_of entries) part ≡ Some shape → IsOneOf geometry clusters shape
  one-of part shape is there = planned.laid part shape
      (λ zero-part. true≢false (sym (eq-eqb part 0 zero-part) ∙ is)) there

  laid-by : (part : ℕ) (shape : Shape) (is : Bool) → nat_eq part 0 ≡ is
      → shape_by geometry (catalog_of entries) part ≡ Some shape
      → StandsFor shape last.cur (cond is (catalog_of entries) [])
  laid-by part shape true is there = subst
      (λ (s : Shape). StandsFor s last.cur (catalog_of entries))
      (catalog-is part shape is there) catalog-stands
  laid-by part shape false is there = (cluster-made shape (one-of part shape is there)).stands

  inside-by : (part : ℕ) (shape : Shape) (is : Bool) → nat_eq part 0 ≡ is
      → shape_by geometry (catalog_of entries) part ≡ Some shape → IsInside geometry shape
  inside-by part shape true is there = subst (IsInside geometry) (catalog-is part shape is there)
      (catalog-chain, refl)
  inside-by part shape false is there = (cluster-made shape (one-of part shape is there)).inside

  alone-by : (part : ℕ) (shape : Shape) (is : Bool) → nat_eq part 0 ≡ is
      → shape_by geometry (catalog_of entries) part ≡ Some shape
      → HasOneArea geometry shape last.cur
  alone-by part shape true is there = subst (λ (s : Shape). HasOneArea geometry s last.cur)
      (catalog-is part shape is there)
      (one-alone geometry (catalog_keyed geometry) last.cur
      (content_of (catalog_area geometry) entries) refl catalog-stays)
  alone-by part shape false is there = (cluster-made shape (one-of part shape is there)).alone

  pub all-made : length last.cur ≡ geometry.blocks → IsFormatted geometry number entries last.cur
  all-made long = record {
    blocks = long;
    header = start-stays 0 (omega arith) ∙ steps.header;
    log = start-stays 1 (omega arith) ∙ steps.log;
    catalog = planned.catalog;
    apart = planned.apart;
    inside = λ part shape there. inside-by part shape (nat_eq part 0) refl there;
    laid = λ part shape there. laid-by part shape (nat_eq part 0) refl there;
    alone = λ part shape there. alone-by part shape (nat_eq part 0) refl there;
  }
