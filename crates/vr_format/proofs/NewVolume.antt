-- The catalog of a new volume, and that it may be formatted so.
use Rattle.std.proofs.Common.{◌≡◌, ◌≢◌, ◌⊎◌, ◌<◌, ◌≤◌, ◌+◌, ◌*◌, ◌-◌, ◌/◌, ◌^◌, ℕ, zero, suc, Bool}
use Rattle.std.proofs.Common.{true, false, List, [], ◌∷◌, length, refl, sym, ap, subst, ◌∙◌, arith}
use Rattle.std.proofs.Common.{Option, Some, None, All, true≢false, inl, inr, ⊎_elim}
use Rattle.std.proofs.Math.Nat.{mul-le-mul_right}
use Rattle.std.specs.Prelude.{cond, nat_eq, nat_lt, IsTrue, replicate, not, ◌&&◌, is_some}
use Rattle.std.specs.Prelude.{slice_get}
use Rattle.std.specs.List.{cons_option, IsDistinct}
use Rattle.std.specs.List.Sorted.{IsStrictlySortedBy}
use Rattle.std.specs.Option.{option_and_then}
use Rattle.std.specs.Ordering.{is_le}
use Rattle.std.proofs.lemmas.Bool.{cases_lt, eq-eqb, eqb-true, le-ltb}
use Rattle.std.proofs.lemmas.List.Elements.{All-cons, All-nil}
use Rattle.std.proofs.lemmas.Nat.{div-add-mod'}
use Rattle.vr_types.specs.BlockSize.{IsBlockSize}
use Rattle.vr_types.specs.Content.{place_cmp}
use Rattle.vr_types.specs.Fields.{two, four}
use Rattle.vr_types.specs.Geometry.{IsAllowed}
use Rattle.vr_types.specs.declared.geometry.Geometry.{Geometry}
use Rattle.vr_types.proofs.CallerLemmas.{block_size_least}
use Rattle.vr_catalog.specs.Catalog.{entries_in, parts_in}
use Rattle.vr_catalog.specs.Entry.{is_entry, is_name}
use Rattle.vr_catalog.specs.Limits.{intervals_used as intervals_in, plain_limit}
use Rattle.vr_catalog.specs.Record.{entry_of, spelling, padded}
use Rattle.vr_catalog.specs.declared.entry.CatEntry.{CatEntry}
use Rattle.vr_catalog.proofs.CallerLemmas.{spells}
use Rattle.vr_seqset.specs.Numbers.{intervals_used}
use Rattle.vr_space.specs.Keyed.{IsValid, Keyed, key_of}
use Rattle.vr_space.specs.Part.{InFirstArea, KeyedShape, Shape}
use Rattle.vr_volume.specs.CatalogRules.{IsCatalog, IsEntryOf}
use Rattle.vr_volume.specs.Laid.{catalog_shape, shape_by, shape_in, shape_of}
use Rattle.vr_attach.specs.Laid.{AreApart}
use Rattle.vr_mount.proofs.CallerLemmas.{area-before, two-areas}
use Rattle.vr_format.specs.Formatted.{catalog_of, first_entries, first_entry}
use Rattle.vr_format.specs.Planned.{ArePlanned, HasHead, IsCluster, IsOneOf, MayStand}
use Rattle.vr_format.specs.Planned.{catalog_area, cluster_keyed, cluster_shape, first_area}

-- ---- the entry

is_allowed : IsTrue (is_entry first_entry)
unfolding is_entry is_name
is_allowed = refl

pub first-spelled : entry_of (spelling first_entry) ≡ Some first_entry
first-spelled = spells (spelling first_entry) first_entry (record {
  entry_is = is_allowed;
  spelled = refl;
})

entries_are : entries_in (catalog_of (first_entry ∷ [])) ≡ first_entry ∷ []
entries_are = ap (λ (entry : Option CatEntry). cons_option entry []) first-spelled

-- ---- sizes

-- how many intervals an area uses for places of this length
used-of : (geometry : Geometry) (key : ℕ) → IsAllowed geometry → 32 + key + 2 * (4 + key) ≤ 512
    → 2 ≤ intervals_used geometry.area geometry.size key
used-of geometry key allowed short =
    let least = block_size_least geometry.size allowed.size in
    let enough : 2 ≤ (geometry.size - 32 - key) / (4 + key) = ⊎_elim
    (λ few. let most : (geometry.size - 32 - key) / (4 + key) * (4 + key) ≤ 1 * (4 + key) =
    mul-le-mul_right (4 + key) (omega (arith, few)) in
    absurd (omega (
      arith,
      most,
      least,
      short,
      div-add-mod' (geometry.size - 32 - key) (4 + key),
    )))
    (λ more. more)
    (cases_lt ((geometry.size - 32 - key) / (4 + key)) 2) in
    omega (arith, enough, allowed.some_intervals)

has-sizes : (past few : Bool) → past ≡ false → few ≡ false
    → not past && not few ≡ true
has-sizes false false past few = refl
has-sizes false true past few = absurd (true≢false few)
has-sizes true few past is = absurd (true≢false past)

distinct-one : (n : ℕ) → IsDistinct nat_eq (n ∷ [])
unfolding IsDistinct
distinct-one n = (tt, tt)

sorted-none : IsStrictlySortedBy place_cmp []
unfolding IsStrictlySortedBy
sorted-none = tt

pub none-stand : (part : Keyed) → MayStand part []
none-stand part = record {
  valid = All-nil (λ (entry : CatEntry). IsValid part (spelling entry));
  ascends = sorted-none;
  within = All-nil (λ (entry : CatEntry).
      IsTrue (is_le (place_cmp (key_of part (spelling entry)) (replicate part.key 255))));
  room = omega arith;
}

-- ---- the catalog with it

module _ (geometry : Geometry) (allowed : IsAllowed geometry) where
  first-rules : IsEntryOf geometry (first_entry ∷ []) first_entry
  first-rules = record {
    over = refl;
    area = refl;
    sizes = has-sizes (nat_lt (plain_limit geometry) 80)
        (nat_lt (intervals_in geometry 8) 2)
        (le-ltb (plain_limit geometry) 80
        (omega (arith, block_size_least geometry.size allowed.size)))
        (le-ltb (intervals_in geometry 8) 2 (used-of geometry 8 allowed (omega arith)));
  }

  distinct-parts : IsDistinct nat_eq (0 ∷ 1 ∷ [])
  unfolding IsDistinct
  distinct-parts = ((refl, tt), (tt, tt))

  first-catalog : IsCatalog geometry (catalog_of (first_entry ∷ []))
  first-catalog = record {
    spelled = All-cons (λ (placed : List ℕ × List ℕ). IsTrue (is_some (entry_of placed.1)))
        (key_of (catalog_area geometry) (spelling first_entry), spelling first_entry) []
        (ap is_some first-spelled)
        (All-nil (λ (placed : List ℕ × List ℕ). IsTrue (is_some (entry_of placed.1))));
    parts = subst (λ (entries : List CatEntry). IsDistinct nat_eq (0 ∷ parts_in entries))
        (sym entries_are) distinct-parts;
    entries = subst (λ (entries : List CatEntry). All (IsEntryOf geometry entries) entries)
        (sym entries_are)
        (All-cons (IsEntryOf geometry (first_entry ∷ [])) first_entry [] first-rules
        (All-nil (IsEntryOf geometry (first_entry ∷ []))));
  }

  empty-catalog : IsCatalog geometry (catalog_of [])
  empty-catalog = record {
    spelled = All-nil (λ (placed : List ℕ × List ℕ). IsTrue (is_some (entry_of placed.1)));
    parts = distinct-one 0;
    entries = All-nil (IsEntryOf geometry []);
  }

  -- ---- which parts are laid

  -- the catalog, or a cluster of a list
  abbrev IsLaidPart : List CatEntry → ℕ → Shape → Type 0
  IsLaidPart clusters part shape = ((part ≡ 0) × (shape ≡ catalog_shape geometry))
      ⊎ ((part ≢ 0) × IsOneOf geometry clusters shape)

  shapes-same : (x y : Shape) → Some x ≡ Some y → x ≡ y
  shapes-same x y same = cc

  none-some : (x : Shape) → None ≡ Some x → ⊥
  none-some x same = cc

  laid-in-none : (part : ℕ) (shape : Shape) → shape_in geometry [] part ≡ Some shape
      → IsLaidPart [] part shape
  laid-in-none part shape is = by (nat_eq part 0) refl is
    where
      by : (b : Bool) → nat_eq part 0 ≡ b
          → cond b (Some (catalog_shape geometry)) None ≡ Some shape → IsLaidPart [] part shape
      by true zero-part there = inl (
        eqb-true part 0 zero-part,
        sym (shapes-same (catalog_shape geometry) shape there),
      )
      by false other there = absurd (none-some shape there)

  abbrev first-shape : Shape
  first-shape = KeyedShape (cluster_keyed geometry 1 first_entry)

  laid-in-first : (part : ℕ) (shape : Shape) → shape_in geometry (first_entry ∷ []) part
      ≡ Some shape → IsLaidPart (first_entry ∷ []) part shape
  laid-in-first part shape is = by (nat_eq part 0) refl (nat_eq 1 part) refl is
    where
      by : (b : Bool) → nat_eq part 0 ≡ b → (c : Bool) → nat_eq 1 part ≡ c
          → cond b (Some (catalog_shape geometry))
          (option_and_then (shape_of geometry) (cond c (Some first_entry) None)) ≡ Some shape
          → IsLaidPart (first_entry ∷ []) part shape
      by true zero-part c other there = inl (
        eqb-true part 0 zero-part,
        sym (shapes-same (catalog_shape geometry) shape there),
      )
      by false zero-part false other there = absurd (none-some shape there)
      by false zero-part true one there = inr (
        λ is-zero. true≢false (sym (eq-eqb part 0 is-zero) ∙ zero-part),
        record {
          at = 0;
          entry = first_entry;
          there = refl;
          shape_is = there;
        },
      )

  laid-by-first : (part : ℕ) (shape : Shape)
      → shape_by geometry (catalog_of (first_entry ∷ [])) part ≡ Some shape
      → IsLaidPart (first_entry ∷ []) part shape
  laid-by-first part shape is = laid-in-first part shape
      (ap (λ (entries : List CatEntry). shape_in geometry entries part) (sym entries_are) ∙ is)

  -- ---- no block is in two of them

  only-one : (shape : Shape) → IsOneOf geometry (first_entry ∷ []) shape → shape ≡ first-shape
  only-one shape one = by one.at one.there one.shape_is
    where
      by : (at : ℕ) → slice_get (first_entry ∷ []) at ≡ Some one.entry
          → cluster_shape geometry (at + 1) one.entry ≡ Some shape → shape ≡ first-shape
      by zero there is = sym (shapes-same first-shape shape
          (ap (cluster_shape geometry 1) (entry-same first_entry one.entry there) ∙ is))
        where
          entry-same : (x y : CatEntry) → Some x ≡ Some y → x ≡ y
          entry-same x y same = cc
      by (suc at) there is = absurd (no-entry one.entry there)
        where
          no-entry : (x : CatEntry) → None ≡ Some x → ⊥
          no-entry x same = cc

  catalog-before : (n : ℕ) → InFirstArea (catalog_shape geometry) n → InFirstArea first-shape n → ⊥
  catalog-before n here there =
      let before = area-before geometry 0 1 (omega arith) in
      absurd (omega (arith, before, here.1, there.0))

  first-apart : AreApart (shape_by geometry (catalog_of (first_entry ∷ [])))
  first-apart one other here there is also differ n inside within =
      by (laid-by-first one here is) (laid-by-first other there also)
    where
      part-one : (part : ℕ) (shape : Shape)
          → shape_by geometry (catalog_of (first_entry ∷ [])) part ≡ Some shape → part ≢ 0
          → part ≡ 1
      part-one part shape laid some = number (nat_eq part 0) refl (nat_eq 1 part) refl
          (ap (λ (entries : List CatEntry). shape_in geometry entries part) (sym entries_are) ∙ laid)
        where
          number : (b : Bool) → nat_eq part 0 ≡ b → (c : Bool) → nat_eq 1 part ≡ c
              → cond b (Some (catalog_shape geometry))
              (option_and_then (shape_of geometry) (cond c (Some first_entry) None)) ≡ Some shape
              → part ≡ 1
          number true zero-part c other found = absurd (some (eqb-true part 0 zero-part))
          number false zero-part true one-part found = sym (eqb-true 1 part one-part)
          number false zero-part false one-part found = absurd (none-some shape found)

      by : IsLaidPart (first_entry ∷ []) one here → IsLaidPart (first_entry ∷ []) other there → ⊥
      by (inl mine) (inl yours) = differ (mine.0 ∙ sym yours.0)
      by (inl mine) (inr yours) = catalog-before n
          (subst (λ (s : Shape). InFirstArea s n) mine.1 inside)
          (subst (λ (s : Shape). InFirstArea s n) (only-one there yours.1) within)
      by (inr mine) (inl yours) = catalog-before n
          (subst (λ (s : Shape). InFirstArea s n) yours.1 within)
          (subst (λ (s : Shape). InFirstArea s n) (only-one here mine.1) inside)
      by (inr mine) (inr yours) = differ (part-one one here is mine.0 ∙ sym (part-one other there also yours.0))

  empty-apart : AreApart (shape_by geometry (catalog_of []))
  empty-apart one other here there is also differ n inside within =
      by (laid-in-none one here is) (laid-in-none other there also)
    where
      none-of : (shape : Shape) → IsOneOf geometry [] shape → ⊥
      none-of shape one-of = no-entry one-of.entry one-of.there
        where
          no-entry : (x : CatEntry) → None ≡ Some x → ⊥
          no-entry x same = cc

      by : IsLaidPart [] one here → IsLaidPart [] other there → ⊥
      by (inl mine) (inl yours) = differ (mine.0 ∙ sym yours.0)
      by (inl mine) (inr yours) = none-of there yours.1
      by (inr mine) yours = none-of here mine.1

  -- ---- records

  has-head : (part key : ℕ) → part < 2 ^ 32 → 0 < key → 32 + key + 2 * (4 + key) ≤ 512
      → (keyed : Keyed) → keyed.part ≡ part → keyed.key ≡ key → keyed.area ≡ geometry.area
      → keyed.size ≡ geometry.size → HasHead keyed
  has-head part key small some short keyed part-is key-is area-is size-is = record {
    size = subst IsBlockSize (sym size-is) allowed.size;
    key = omega (arith, some, key-is);
    used = let used : 2 ≤ intervals_used geometry.area geometry.size key =
        used-of geometry key allowed short in
        let same : intervals_used keyed.area keyed.size keyed.key
        ≡ intervals_used geometry.area geometry.size key =
        ap (λ (a : ℕ). intervals_used a keyed.size keyed.key) area-is
        ∙ ap (λ (s : ℕ). intervals_used geometry.area s keyed.key) size-is
        ∙ ap (λ (k : ℕ). intervals_used geometry.area geometry.size k) key-is in
        omega (arith, used, same);
    number = omega (arith, small, part-is);
  }

  pub catalog-head : HasHead (catalog_area geometry)
  catalog-head = has-head 0 44 (omega arith) (omega arith) (omega arith) (catalog_area geometry)
      refl refl refl refl

  first-cluster : IsCluster geometry first_entry
  first-cluster = record {
    kind = refl;
    organised = record {
      head = has-head 1 8 (omega arith) (omega arith) (omega arith)
          (first_area (cluster_keyed geometry 0 first_entry)) refl refl refl refl;
      most = omega (arith, block_size_least geometry.size allowed.size);
    };
  }

  sorted-one : (place : List ℕ) → IsStrictlySortedBy place_cmp (place ∷ [])
  unfolding IsStrictlySortedBy
  sorted-one place = (tt, tt)

  first-length : length (spelling first_entry) ≡ 204
  unfolding spelling padded two four
  first-length = refl

  first-within : IsTrue (is_le (place_cmp
      (key_of (catalog_area geometry) (spelling first_entry)) (replicate 44 255)))
  unfolding spelling padded two four
  first-within = refl

  first-stands : MayStand (catalog_area geometry) (first_entry ∷ [])
  first-stands = record {
    valid = All-cons (λ (entry : CatEntry). IsValid (catalog_area geometry) (spelling entry))
        first_entry [] (record {
          least = omega (arith, first-length);
          most = omega (arith, first-length);
        }) (All-nil (λ (entry : CatEntry). IsValid (catalog_area geometry) (spelling entry)));
    ascends = sorted-one (key_of (catalog_area geometry) (spelling first_entry));
    within = All-cons (λ (entry : CatEntry). IsTrue (is_le (place_cmp
        (key_of (catalog_area geometry) (spelling entry)) (replicate 44 255))))
        first_entry [] first-within (All-nil (λ (entry : CatEntry). IsTrue (is_le (place_cmp
        (key_of (catalog_area geometry) (spelling entry)) (replicate 44 255)))));
    room = omega (arith, block_size_least geometry.size allowed.size);
  }

  -- ---- a new volume may be formatted so

  planned-first : ArePlanned geometry (first_entry ∷ []) (first_entry ∷ [])
  planned-first = record {
    catalog = first-catalog;
    apart = first-apart;
    content = refl;
    records = first-stands;
    served = All-cons (IsCluster geometry) first_entry [] first-cluster
        (All-nil (IsCluster geometry));
    areas = omega (arith, two-areas geometry allowed);
    laid = λ part shape some is. other part shape some (laid-by-first part shape is);
  }
    where
      other : (part : ℕ) (shape : Shape) → part ≢ 0 → IsLaidPart (first_entry ∷ []) part shape
          → IsOneOf geometry (first_entry ∷ []) shape
      other part shape some (inl catalog) = absurd (some catalog.0)
      other part shape some (inr one) = one.1

  planned-none : ArePlanned geometry [] []
  planned-none = record {
    catalog = empty-catalog;
    apart = empty-apart;
    content = refl;
    records = none-stand (catalog_area geometry);
    served = All-nil (IsCluster geometry);
    areas = omega (arith, two-areas geometry allowed);
    laid = λ part shape some is. other part shape some (laid-in-none part shape is);
  }
    where
      other : (part : ℕ) (shape : Shape) → part ≢ 0 → IsLaidPart [] part shape
          → IsOneOf geometry [] shape
      other part shape some (inl catalog) = absurd (some catalog.0)
      other part shape some (inr one) = one.1

  pub new-planned : (number : ℕ) → ArePlanned geometry (first_entries number) (first_entries number)
  new-planned number = by (nat_eq number 0)
    where
      by : (b : Bool) → ArePlanned geometry (cond b (first_entry ∷ []) [])
          (cond b (first_entry ∷ []) [])
      by true = planned-first
      by false = planned-none
