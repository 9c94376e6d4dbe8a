-- The clusters that entries are taken as may be formatted, with any order of them in the catalog.
use Rattle.std.proofs.Common.{◌≡◌, ◌≢◌, ◌⊎◌, ◌<◌, ◌≤◌, ◌+◌, ◌*◌, ◌-◌, ℕ, zero, suc, Bool, true}
use Rattle.std.proofs.Common.{false}
use Rattle.std.proofs.Common.{List, [], ◌∷◌, length, refl, sym, Some, None, Option, All, ap, subst}
use Rattle.std.proofs.Common.{◌∙◌, arith, get_or, take, map, inl, inr, ⊎_elim}
use Rattle.std.specs.Prelude.{slice_get, IsTrue, cond, nat_eq, is_some, replicate}
use Rattle.std.specs.List.{IsDistinct, cons_option}
use Rattle.std.specs.List.Sorted.{IsStrictlySortedBy}
use Rattle.std.specs.Option.{option_and_then}
use Rattle.std.specs.Ordering.{is_le}
use Rattle.std.specs.declared.cmp.Ordering.{Ordering}
use Rattle.std.proofs.lemmas.Bool.{cases_lt, eq-eqb, eqb-true, eqb-false, ne_eqb}
use Rattle.std.proofs.lemmas.List.{get_or-map, length-map, length-take}
use Rattle.std.proofs.lemmas.List.Elements.{All-cons, All-head, All-nil, All-tail, All-weaker}
use Rattle.std.proofs.lemmas.List.Sorted.{All-permutation, IsPermutation-cons, IsPermutation-map}
use Rattle.std.proofs.lemmas.List.Sorted.{length_permutation}
use Rattle.std.proofs.lemmas.Map.Keys.{IsDistinct-from_apart, IsDistinct-IsPermutation}
use Rattle.std.proofs.lemmas.Option.{slice_get-get_or}
use Rattle.vr_types.specs.Content.{Ascends, Content, Placed, Standing, place_cmp, places_of, put_by}
use Rattle.vr_types.specs.Content.{records_of, with_item}
use Rattle.vr_types.specs.Geometry.{IsAllowed, area_count}
use Rattle.vr_types.specs.Image.{Image}
use Rattle.vr_types.specs.declared.geometry.Geometry.{Geometry}
use Rattle.vr_altkey.proofs.Items.{put_ascends}
use Rattle.vr_catalog.specs.Catalog.{entries_in, entry_with_part, parts_in}
use Rattle.vr_catalog.specs.Record.{entry_of, spelling}
use Rattle.vr_catalog.specs.declared.entry.CatEntry.{CatEntry}
use Rattle.vr_catalog.proofs.RecordLemmas.{length-spelling}
use Rattle.vr_space.specs.Keyed.{key_of}
use Rattle.vr_space.specs.Part.{InFirstArea, Shape, StandsFor}
use Rattle.vr_space.proofs.CallerLemmas.{AllAbove, Rising, lt_from_test, rising-sorted}
use Rattle.vr_volume.specs.CatalogRules.{IsCatalog, IsEntryOf}
use Rattle.vr_volume.specs.Laid.{catalog_shape, shape_by, shape_in, shape_of}
use Rattle.vr_attach.specs.Laid.{AreApart}
use Rattle.vr_mount.proofs.CallerLemmas.{area-before, none-ascend, two-areas}
use Rattle.vr_format.specs.Fit.{AreTaken, IsFormattedWith}
use Rattle.vr_format.specs.Formatted.{IsFormatted, catalog_of, first_entry, place_of}
use Rattle.vr_format.specs.InOrder.{AreInOrder, placed_entry}
use Rattle.vr_format.specs.Planned.{ArePlanned, ArePlannedFor, InAreaAt, IsCluster, IsOneOf}
use Rattle.vr_format.specs.Planned.{MayStand, catalog_area}
use Rattle.vr_format.proofs.NewParts.{in-its-area}
use Rattle.vr_format.proofs.Members.{IsMember, is-cluster, member-all, member-shape, next-at}
use Rattle.vr_format.proofs.Members.{number-is, place-within, rules-any}

-- ---- the content of a catalog in order

ascends-catalog : (entries : List CatEntry) → Ascends (catalog_of entries)
ascends-catalog [] = none-ascend
ascends-catalog (entry ∷ entries) = put_ascends (place_of entry) (Standing (spelling entry))
    (catalog_of entries) (ascends-catalog entries)

-- what is below all comes first
front : (content : Content) (placed : Placed) → AllAbove (Some placed.0) content
    → with_item content placed.0 placed.1 ≡ placed ∷ content
front [] placed above = refl
front (first ∷ content) placed above =
    ap (λ (order : Ordering). put_by order placed first content
    (with_item content placed.0 placed.1))
    (lt_from_test (place_cmp placed.0 first.0) above.0)

rising-catalog : (entries : List CatEntry) → Rising (map placed_entry entries)
    → catalog_of entries ≡ map placed_entry entries
rising-catalog [] rising = refl
rising-catalog (entry ∷ entries) rising =
    ap (λ (c : Content). with_item c (place_of entry) (Standing (spelling entry)))
    (rising-catalog entries rising.1)
    ∙ front (map placed_entry entries) (placed_entry entry) rising.0

abbrev Spells : CatEntry → Type 0
Spells entry = entry_of (spelling entry) ≡ Some entry

entries-back : (entries : List CatEntry) → All Spells entries
    → entries_in (map placed_entry entries) ≡ entries
entries-back [] all = refl
entries-back (entry ∷ entries) all =
    ap (λ (o : Option CatEntry). cons_option o (entries_in (map placed_entry entries)))
    (All-head Spells entry entries all)
    ∙ ap (λ (es : List CatEntry). entry ∷ es)
    (entries-back entries (All-tail Spells entry entries all))

abbrev IsSpelled : List ℕ × List ℕ → Type 0
IsSpelled placed = IsTrue (is_some (entry_of placed.1))

spelled-back : (entries : List CatEntry) → All Spells entries
    → All IsSpelled (records_of (map placed_entry entries))
spelled-back [] all = All-nil IsSpelled
spelled-back (entry ∷ entries) all =
    All-cons IsSpelled (place_of entry, spelling entry) (records_of (map placed_entry entries))
    (ap is_some (All-head Spells entry entries all))
    (spelled-back entries (All-tail Spells entry entries all))

places-same : (entries : List CatEntry)
    → places_of (map placed_entry entries) ≡ map place_of entries
places-same [] = refl
places-same (entry ∷ entries) =
    ap (λ (ps : List (List ℕ)). place_of entry ∷ ps) (places-same entries)

-- ---- numbers

flips : (x y : ℕ) → nat_eq x y ≡ nat_eq y x
flips x y = by (nat_eq x y) refl
  where
    by : (b : Bool) → nat_eq x y ≡ b → nat_eq x y ≡ nat_eq y x
    by true same = same ∙ sym (eq-eqb y x (sym (eqb-true x y same)))
    by false differ = differ ∙ sym (ne_eqb y x (λ is. eqb-false x y differ (sym is)))

abbrev number_of : CatEntry → ℕ
number_of entry = entry.part.0

none-some : (x : Shape) → None ≡ Some x → ⊥
none-some x same = cc

shapes-same : (x y : Shape) → Some x ≡ Some y → x ≡ y
shapes-same x y same = cc

-- what is found is one of them, and is what was sought
record IsFound (P : CatEntry → Type 0) (part : ℕ) (entry : CatEntry) : Type 0 where
  holds : P entry
  part_is : entry.part.0 ≡ part

entries-same : (x y : CatEntry) → Some x ≡ Some y → x ≡ y
entries-same x y same = cc

none-entry : (x : CatEntry) → None ≡ Some x → ⊥
none-entry x same = cc

found : (P : CatEntry → Type 0) (entries : List CatEntry) (part : ℕ) (entry : CatEntry)
    → All P entries → entry_with_part entries part ≡ Some entry → IsFound P part entry
found P [] part entry all is = absurd (none-entry entry is)
found P (first ∷ entries) part entry all is = by (nat_eq first.part.0 part) refl is
    (λ there. found P entries part entry (All-tail P first entries all) there)
  where
    by : (b : Bool) → nat_eq first.part.0 part ≡ b
        → cond b (Some first) (entry_with_part entries part) ≡ Some entry
        → (entry_with_part entries part ≡ Some entry → IsFound P part entry)
        → IsFound P part entry
    by true same there rest = subst (IsFound P part) (entries-same first entry there) (record {
      holds = All-head P first entries all;
      part_is = eqb-true first.part.0 part same;
    })
    by false differ there rest = rest there

module _ (geometry : Geometry) (allowed : IsAllowed geometry)
    (entries clusters ordered : List CatEntry) (taken : AreTaken geometry entries clusters)
    (sorted : AreInOrder clusters ordered) where
  abbrev Member : CatEntry → Type 0
  Member = IsMember geometry clusters

  all-ordered : All Member ordered
  all-ordered = All-permutation Member clusters ordered sorted.same
      (member-all geometry entries clusters taken)

  all-spell : All Spells ordered
  all-spell = All-weaker Member Spells (λ entry member. member.spelled) ordered all-ordered

  rising : Rising (map placed_entry ordered)
  rising = rising-sorted (map placed_entry ordered)
      (subst Ascends (sym sorted.records) (ascends-catalog clusters))

  content-is : catalog_of ordered ≡ map placed_entry ordered
  content-is = rising-catalog ordered rising

  entries-are : entries_in (catalog_of ordered) ≡ ordered
  entries-are = ap entries_in content-is ∙ entries-back ordered all-spell

  -- ---- its rules

  number-at : (i d : ℕ) → i < length (0 ∷ map number_of clusters)
      → get_or (0 ∷ map number_of clusters) i d ≡ i
  number-at zero d within = refl
  number-at (suc i) d within =
      let inside : i < length clusters = omega (arith, within, length-map clusters number_of) in
      let here : slice_get clusters i ≡ Some (get_or clusters i first_entry) =
      slice_get-get_or clusters i first_entry inside in
      let next = next-at geometry entries clusters taken i (get_or clusters i first_entry) here in
      get_or-map number_of clusters i first_entry d inside
      ∙ omega (arith, next.number, length-take i clusters, inside)

  distinct : IsDistinct nat_eq (0 ∷ map number_of clusters)
  distinct = IsDistinct-from_apart nat_eq (0 ∷ map number_of clusters)
      (λ i j d less within. ne_eqb (get_or (0 ∷ map number_of clusters) i d)
      (get_or (0 ∷ map number_of clusters) j d)
      (λ same. absurd (omega (
        arith,
        same,
        less,
        number-at i d (omega (arith, less, within)),
        number-at j d within,
      ))))

  distinct-ordered : IsDistinct nat_eq (0 ∷ map number_of ordered)
  distinct-ordered = IsDistinct-IsPermutation nat_eq flips (0 ∷ map number_of clusters)
      (0 ∷ map number_of ordered)
      (IsPermutation-cons 0 (map number_of clusters) (map number_of ordered)
      (IsPermutation-map number_of clusters ordered sorted.same)) distinct

  catalog-is : IsCatalog geometry (catalog_of ordered)
  catalog-is = record {
    spelled = subst (λ (c : Content). All IsSpelled (records_of c)) (sym content-is)
        (spelled-back ordered all-spell);
    parts = subst (λ (es : List CatEntry). IsDistinct nat_eq (0 ∷ parts_in es)) (sym entries-are)
        distinct-ordered;
    entries = subst (λ (es : List CatEntry). All (IsEntryOf geometry es) es) (sym entries-are)
        (All-weaker Member (IsEntryOf geometry ordered)
        (λ entry member. rules-any geometry (take member.at clusters) ordered entry
        member.next.kind member.next.rules)
        ordered all-ordered);
  }

  -- ---- its parts

  -- A part is a cluster, in the area of its number.
  record IsLaid (part : ℕ) (shape : Shape) : Type 0 where
    one : IsOneOf geometry clusters shape
    number : part ≡ one.at + 1

  abbrev IsLaidPart : ℕ → Shape → Type 0
  IsLaidPart part shape =
      ((part ≡ 0) × (shape ≡ catalog_shape geometry)) ⊎ IsLaid part shape

  laid-member : (part : ℕ) (shape : Shape) (entry : CatEntry) → IsFound Member part entry
      → shape_of geometry entry ≡ Some shape → IsLaid part shape
  laid-member part shape entry this is =
      let member = this.holds in
      record {
        one = record {
          at = member.at;
          entry = entry;
          there = member.there;
          shape_is = sym (member-shape geometry allowed clusters entry member) ∙ is;
        };
        number = omega (
          arith,
          this.part_is,
          number-is geometry allowed clusters entry member,
        );
      }

  laid-in : (part : ℕ) (shape : Shape) → shape_in geometry ordered part ≡ Some shape
      → IsLaidPart part shape
  laid-in part shape is = by (nat_eq part 0) refl is
    where
      some-found : (o : Option CatEntry) → entry_with_part ordered part ≡ o
          → option_and_then (shape_of geometry) o ≡ Some shape → IsLaidPart part shape
      some-found None there laid = absurd (none-some shape laid)
      some-found (Some entry) there laid = inr (laid-member part shape entry
          (found Member ordered part entry all-ordered there) laid)

      by : (b : Bool) → nat_eq part 0 ≡ b
          → cond b (Some (catalog_shape geometry))
          (option_and_then (shape_of geometry) (entry_with_part ordered part)) ≡ Some shape
          → IsLaidPart part shape
      by true none there = inl (
        eqb-true part 0 none,
        sym (shapes-same (catalog_shape geometry) shape there),
      )
      by false other there = some-found (entry_with_part ordered part) refl there

  laid-by : (part : ℕ) (shape : Shape) → shape_by geometry (catalog_of ordered) part ≡ Some shape
      → IsLaidPart part shape
  laid-by part shape is = laid-in part shape
      (ap (λ (es : List CatEntry). shape_in geometry es part) (sym entries-are) ∙ is)

  -- a part is in the area of its number
  in-number : (part n : ℕ) (shape : Shape) → IsLaidPart part shape → InFirstArea shape n
      → InAreaAt geometry part n
  in-number part n shape (inl catalog) inside =
      subst (λ (p : ℕ). InAreaAt geometry p n) (sym catalog.0)
      (subst (λ (s : Shape). InFirstArea s n) catalog.1 inside)
  in-number part n shape (inr laid) inside =
      subst (λ (p : ℕ). InAreaAt geometry p n) (sym laid.number)
      (in-its-area geometry (laid.one.at + 1) n laid.one.entry shape laid.one.shape_is inside)

  apart-is : AreApart (shape_by geometry (catalog_of ordered))
  apart-is one other here there is also differ n inside within =
      let mine = in-number one n here (laid-by one here is) inside in
      let yours = in-number other n there (laid-by other there also) within in
      ⊎_elim
      (λ less. let before = area-before geometry one other less in
      absurd (omega (arith, before, mine.1, yours.0)))
      (λ more. ⊎_elim
      (λ less. let before = area-before geometry other one less in
      absurd (omega (arith, before, yours.1, mine.0)))
      (λ most. differ (omega (arith, more, most)))
      (cases_lt other one))
      (cases_lt one other)

  -- ---- its records

  count-same : length ordered ≡ length clusters
  count-same = length_permutation clusters ordered sorted.same

  -- what the last one says of all
  bounds : (207 * length clusters + 4 ≤ geometry.size) × (length clusters < area_count geometry)
  bounds = ⊎_elim some none (cases_lt 0 (length clusters))
    where
      some : 0 < length clusters
          → (207 * length clusters + 4 ≤ geometry.size) × (length clusters < area_count geometry)
      some positive =
          let last : ℕ = length clusters - 1 in
          let next = next-at geometry entries clusters taken last
          (get_or clusters last first_entry)
          (slice_get-get_or clusters last first_entry (omega (arith, positive))) in
          let before = length-take last clusters in
          (omega (arith, positive, next.room, before), omega (arith, positive, next.area, before))

      none : length clusters ≤ 0
          → (207 * length clusters + 4 ≤ geometry.size) × (length clusters < area_count geometry)
      none few = (
        omega (arith, few, allowed.size.some, allowed.size.small),
        omega (arith, few, two-areas geometry allowed),
      )

  stand-is : MayStand (catalog_area geometry) ordered
  stand-is = record {
    valid = λ k d within. record {
      least = omega (arith, length-spelling (get_or ordered k d));
      most = omega (arith, length-spelling (get_or ordered k d));
    };
    ascends = subst (IsStrictlySortedBy place_cmp) (places-same ordered)
        (subst Ascends (sym sorted.records) (ascends-catalog clusters));
    within = All-weaker Member
        (λ (entry : CatEntry). IsTrue (is_le
        (place_cmp (key_of (catalog_area geometry) (spelling entry)) (replicate 44 255))))
        (λ entry member. place-within geometry entry member.entry_is) ordered all-ordered;
    room = omega (arith, bounds.0, count-same);
  }

  planned : ArePlanned geometry ordered clusters
  planned = record {
    catalog = catalog-is;
    apart = apart-is;
    content = content-is;
    records = stand-is;
    served = All-weaker Member (IsCluster geometry)
        (λ entry member. is-cluster geometry allowed clusters entry member) clusters
        (member-all geometry entries clusters taken);
    areas = bounds.1;
    laid = λ part shape some is. other part shape some (laid-by part shape is);
  }
    where
      other : (part : ℕ) (shape : Shape) → part ≢ 0 → IsLaidPart part shape
          → IsOneOf geometry clusters shape
      other part shape some (inl catalog) = absurd (some catalog.0)
      other part shape some (inr laid) = laid.one

  pub planned-for : ArePlannedFor geometry entries clusters ordered
  planned-for = record {
    taken = taken;
    same = content-is ∙ sorted.records;
    planned = planned;
  }

-- ---- what is formatted so

pub formatted-with : (geometry : Geometry) (number : ℕ) (entries clusters ordered : List CatEntry)
    (image : Image) → ArePlannedFor geometry entries clusters ordered
    → IsFormatted geometry number ordered image → IsFormattedWith geometry number entries image
formatted-with geometry number entries clusters ordered image plan formatted = record {
  clusters = clusters;
  taken = plan.taken;
  formatted = record {
    blocks = formatted.blocks;
    header = formatted.header;
    log = formatted.log;
    catalog = subst (IsCatalog geometry) plan.same formatted.catalog;
    apart = subst (λ (c : Content). AreApart (shape_by geometry c)) plan.same formatted.apart;
    inside = λ part shape is. formatted.inside part shape
        (ap (λ (c : Content). shape_by geometry c part) plan.same ∙ is);
    laid = λ part shape is. subst
        (λ (c : Content). StandsFor shape image (cond (nat_eq part 0) c [])) plan.same
        (formatted.laid part shape
        (ap (λ (c : Content). shape_by geometry c part) plan.same ∙ is));
    alone = λ part shape is. formatted.alone part shape
        (ap (λ (c : Content). shape_by geometry c part) plan.same ∙ is);
  };
}
