-- Entries in the order of their part numbers: what those before one lay.
use Rattle.std.proofs.Common.{◌≡◌, ◌≢◌, ⊎_elim, ℕ, zero, suc, ◌<◌, ◌≤◌, Bool, true, false}
use Rattle.std.proofs.Common.{cond, List, [], ◌∷◌, Option, Some, None, length, refl, sym, ap, subst}
use Rattle.std.proofs.Common.{◌∙◌, arith, get_or, take, ◌==◌}
use Rattle.std.specs.Borrow.{Bor}
use Rattle.std.specs.Prelude.{nat_eq, slice_get}
use Rattle.std.specs.List.{AllByRecursion, IsDistinct, filter_map, find}
use Rattle.std.specs.List.Sorted.{IsNonDecreasingBy, IsPermutation}
use Rattle.std.specs.Option.{option_and_then}
use Rattle.std.proofs.lemmas.Bool.{cases_lt, eq-eqb, eqb-false, eqb-true, ne_eqb}
use Rattle.std.proofs.lemmas.List.{get_or-map, length-map}
use Rattle.std.proofs.lemmas.List.Sorted.{All-permutation, Contains-permutation, IsPermutation-cons}
use Rattle.std.proofs.lemmas.List.Sorted.{IsPermutation-map, IsPermutation-sym}
use Rattle.std.proofs.lemmas.Map.Keys.{IsDistinct-IsPermutation}
use Rattle.std.proofs.lemmas.Option.{get_or_from_slice_get, slice_get-get_or, slice_get_within}
use Rattle.vr_types.specs.declared.geometry.Geometry.{Geometry}
use Rattle.vr_catalog.specs.Catalog.{entry_with_part, parts_in}
use Rattle.vr_catalog.specs.declared.entry.CatEntry.{CatEntry}
use Rattle.vr_attach.specs.Laid.{catalog_shape, shape_in, shape_of}
use Rattle.vr_mount.proofs.Laying.{part_is}
use Rattle.vr_mount.proofs.Telling.{each_distinct, found_at, found_place, map_some, none_has_new}
use Rattle.vr_mount.proofs.Telling.{others_distinct, zero_is_new}
use Rattle.vr_space.specs.Part.{Shape, part_no}
use Rattle.vr_recover.specs.Found.{HasLength, MayAdd, held_entries}
use Rattle.vr_recover.specs.Opening.{AreByNumber, AreLaid, AreShapesOf, number_of, shapes_laid}
use Rattle.vr_recover.specs.Undone.{HaveOwnNumbers}
use Rattle.vr_recover.specs.Unserved.{IsPlain}
use Rattle.vr_recover.proofs.Shapes.{are-laid, entry-laid, laid-cases, shapes-differ}

some-is : {X : Type 0} {x y : X} → Some x ≡ Some y → x ≡ y
some-is same = cc

some-none : {X : Type 0} {x : X} → Some x ≡ None → ⊥
some-none same = cc

flips : (x y : ℕ) → nat_eq x y ≡ nat_eq y x
flips x y = by (nat_eq x y) refl
  where
    by : (b : Bool) → nat_eq x y ≡ b → nat_eq x y ≡ nat_eq y x
    by true same = same ∙ sym (eq-eqb y x (sym (eqb-true x y same)))
    by false differ = differ ∙ sym (ne_eqb y x (λ is. eqb-false x y differ (sym is)))

-- ---- entries before one

all-before : (P : ℕ → Type 0) (entries : List CatEntry) (n : ℕ)
    → AllByRecursion P (parts_in entries) → AllByRecursion P (parts_in (take n entries))
all-before P [] zero all = tt
all-before P [] (suc n) all = tt
all-before P (entry ∷ entries) zero all = tt
all-before P (entry ∷ entries) (suc n) all = (all.0, all-before P entries n all.1)

distinct-before : (entries : List CatEntry) (n : ℕ) → IsDistinct nat_eq (parts_in entries)
    → IsDistinct nat_eq (parts_in (take n entries))
unfolding IsDistinct
distinct-before [] zero all = tt
distinct-before [] (suc n) all = tt
distinct-before (entry ∷ entries) zero all = tt
distinct-before (entry ∷ entries) (suc n) all =
    (all-before _ entries n all.0, distinct-before entries n all.1)

-- those before one are told apart as all are
pub told-before : (entries : List CatEntry) (n : ℕ) → IsDistinct nat_eq (0 ∷ parts_in entries)
    → IsDistinct nat_eq (0 ∷ parts_in (take n entries))
unfolding IsDistinct
told-before entries n all = (all-before _ entries n all.0, distinct-before entries n all.1)

before-there : {X : Type 0} (xs : List X) (n k : ℕ) (x : X) → k < n → slice_get xs k ≡ Some x
    → slice_get (take n xs) k ≡ Some x
before-there [] n k x below there = absurd cc
before-there (y ∷ xs) zero k x below there = absurd (omega (arith, below))
before-there (y ∷ xs) (suc n) zero x below there = there
before-there (y ∷ xs) (suc n) (suc k) x below there =
    before-there xs n k x (omega (arith, below)) there

there-before : {X : Type 0} (xs : List X) (n k : ℕ) (x : X) → slice_get (take n xs) k ≡ Some x
    → slice_get xs k ≡ Some x
there-before [] zero k x there = absurd cc
there-before [] (suc n) k x there = absurd cc
there-before (y ∷ xs) zero k x there = absurd cc
there-before (y ∷ xs) (suc n) zero x there = there
there-before (y ∷ xs) (suc n) (suc k) x there = there-before xs n k x there

below-take : {X : Type 0} (xs : List X) (n k : ℕ) (x : X) → slice_get (take n xs) k ≡ Some x
    → k < n
below-take [] zero k x there = absurd cc
below-take [] (suc n) k x there = absurd cc
below-take (y ∷ xs) zero k x there = absurd cc
below-take (y ∷ xs) (suc n) zero x there = omega arith
below-take (y ∷ xs) (suc n) (suc k) x there =
    omega (arith, below-take xs n k x there)

-- ---- what some of the entries lay, all of them lay

find-some : {X : Type 0} (test : X → Bool) (xs : List X) (n : ℕ) (x : X)
    → find test (take n xs) ≡ Some x → find test xs ≡ Some x
find-some test [] zero x found = absurd cc
find-some test [] (suc n) x found = absurd cc
find-some test (y ∷ xs) zero x found = absurd cc
find-some test (y ∷ xs) (suc n) x found = by (test y) found (find-some test xs n x)
  where
    by : (b : Bool) → cond b (Some y) (find test (take n xs)) ≡ Some x
        → (find test (take n xs) ≡ Some x → find test xs ≡ Some x)
        → cond b (Some y) (find test xs) ≡ Some x
    by true is further = is
    by false is further = further is

pub some-laid : (geometry : Geometry) (entries : List CatEntry) (n part : ℕ) (shape : Shape)
    → shape_in geometry (take n entries) part ≡ Some shape
    → shape_in geometry entries part ≡ Some shape
some-laid geometry entries n part shape is = by (part == 0) is
  where
    of : (o : Option CatEntry) → entry_with_part (take n entries) part ≡ o
        → option_and_then (shape_of geometry) o ≡ Some shape
        → option_and_then (shape_of geometry) (entry_with_part entries part) ≡ Some shape
    of None there is = absurd cc
    of (Some entry) there is = ap (option_and_then (shape_of geometry))
        (find-some (λ (one : CatEntry). one.part.0 == part) entries n entry there) ∙ is

    by : (b : Bool) → cond b (Some (catalog_shape geometry))
        (option_and_then (shape_of geometry) (entry_with_part (take n entries) part)) ≡ Some shape
        → cond b (Some (catalog_shape geometry))
        (option_and_then (shape_of geometry) (entry_with_part entries part)) ≡ Some shape
    by true is = is
    by false is = of (entry_with_part (take n entries) part) refl is

-- the entry of a part, and where it is
pub entry-place : (entries : List CatEntry) (part : ℕ) (entry : CatEntry)
    → entry_with_part entries part ≡ Some entry
    → (k : ℕ) × (slice_get entries k ≡ Some entry) × (entry.part.0 ≡ part)
entry-place entries part entry found =
    let place = found_place (λ (one : CatEntry). one.part.0 == part) entries entry found in (
      place.0,
      slice_get-get_or entries place.0 entry place.1 ∙ ap Some place.2,
      part_is entries part entry found,
    )

-- ---- their order

module _ (entries : List CatEntry) (distinct : IsDistinct nat_eq (0 ∷ parts_in entries)) where
  told : IsDistinct nat_eq (0 ∷ filter_map (λ (entry : CatEntry). Some (number_of entry)) entries)
  told = subst (λ (numbers : List ℕ). IsDistinct nat_eq (0 ∷ numbers))
      (sym (map_some number_of entries)) distinct

  -- no entry has the catalog's own number
  pub above-none : (at : ℕ) (entry : CatEntry) → slice_get entries at ≡ Some entry
      → 0 < entry.part.0
  above-none at entry there = ⊎_elim
      (λ none. absurd (none_has_new (λ (e : CatEntry). Some (number_of e)) 0 entries at entry
      (slice_get_within entries at entry there)
      (ap (λ (e : CatEntry). Some (number_of e))
      (get_or_from_slice_get entries at entry entry there)
      ∙ ap Some (none-is none))
      (zero_is_new (filter_map (λ (e : CatEntry). Some (number_of e)) entries) told)))
      (λ more. omega (arith, more))
      (cases_lt entry.part.0 1)
    where
      none-is : entry.part.0 < 1 → entry.part.0 ≡ 0
      none-is none = omega (arith, none)

  -- two entries have different numbers
  differ : (i j : ℕ) (one other : CatEntry) → slice_get entries i ≡ Some one
      → slice_get entries j ≡ Some other → i < j → one.part.0 ≢ other.part.0
  differ i j one other here there before same =
      each_distinct (λ (e : CatEntry). Some (number_of e)) entries i j one other.part.0
      (others_distinct (filter_map (λ (e : CatEntry). Some (number_of e)) entries) told) before
      (slice_get_within entries j other there)
      (ap (λ (e : CatEntry). Some (number_of e)) (get_or_from_slice_get entries i one one here)
      ∙ ap Some same)
      (ap (λ (e : CatEntry). Some (number_of e)) (get_or_from_slice_get entries j other one there))

  module _ (ascend : IsNonDecreasingBy number_of entries) where
    -- the earlier of two has the lesser number
    earlier-less : (i j : ℕ) (one other : CatEntry) → slice_get entries i ≡ Some one
        → slice_get entries j ≡ Some other → i < j → one.part.0 < other.part.0
    earlier-less i j one other here there before =
        let least : one.part.0 ≤ other.part.0 =
        subst (λ (e : CatEntry). one.part.0 ≤ e.part.0)
        (get_or_from_slice_get entries j other one there)
        (subst (λ (e : CatEntry). e.part.0 ≤ (get_or entries j one).part.0)
        (get_or_from_slice_get entries i one one here)
        (ascend i j one (omega (arith, before)) (slice_get_within entries j other there))) in
        let apart : one.part.0 ≢ other.part.0 = differ i j one other here there before in
        ⊎_elim (λ less. less)
        (λ more. absurd (apart (omega (arith, least, more))))
        (cases_lt one.part.0 other.part.0)

    -- and of two with the lesser number it is the earlier
    less-earlier : (i j : ℕ) (one other : CatEntry) → slice_get entries i ≡ Some one
        → slice_get entries j ≡ Some other → one.part.0 < other.part.0 → i < j
    less-earlier i j one other here there less = ⊎_elim (λ before. before)
        (λ after. ⊎_elim
        (λ later. absurd (omega (arith, less, earlier-less j i other one there here later)))
        (λ same. absurd (omega (arith, less, equal (omega (arith, after, same)))))
        (cases_lt j i))
        (cases_lt i j)
      where
        equal : i ≡ j → one.part.0 ≡ other.part.0
        equal is = ap (λ (e : CatEntry). e.part.0)
            (some-is (sym here ∙ ap (slice_get entries) is ∙ there))

    module _ (geometry : Geometry) (at : ℕ) (entry : CatEntry)
        (there : slice_get entries at ≡ Some entry) where
      -- a part of a lesser number than an entry's is laid by those before it
      pub before-laid : (other : ℕ) (shape : Shape) → other < entry.part.0
          → shape_in geometry entries other ≡ Some shape
          → shape_in geometry (take at entries) other ≡ Some shape
      before-laid other shape less laid = ⊎_elim
          (λ own. subst (λ (n : ℕ). shape_in geometry (take at entries) n ≡ Some shape) (sym own.0)
          (ap Some own.1))
          (λ found. let place = entry-place entries other found.0 found.1 in
          let earlier : place.0 < at = less-earlier place.0 at found.0 entry place.1 there
          (omega (arith, less, place.2)) in
          subst (λ (n : ℕ). shape_in geometry (take at entries) n ≡ Some shape) place.2
          (entry-laid geometry (take at entries) (told-before entries at distinct) place.0 found.0
          shape (before-there entries at place.0 found.0 earlier place.1) found.2))
          (laid-cases geometry entries distinct other shape laid)

      -- and a part that those lay has a lesser number
      pub laid-before : (other : ℕ) (shape : Shape)
          → shape_in geometry (take at entries) other ≡ Some shape → other < entry.part.0
      laid-before other shape laid = ⊎_elim
          (λ own. omega (arith, own.0, above-none at entry there))
          (λ found. let place = entry-place (take at entries) other found.0 found.1 in
          let earlier : place.0 < at = below-take entries at place.0 found.0 place.1 in
          let less = earlier-less place.0 at found.0 entry
          (there-before entries at place.0 found.0 place.1) there earlier in
          omega (arith, less, place.2))
          (laid-cases geometry (take at entries) (told-before entries at distinct) other shape laid)

-- entries that are lent ascend as they do
pub held-ascend : (lent : List (Bor CatEntry))
    → IsNonDecreasingBy (λ (e : Bor CatEntry). number_of e.now) lent
    → IsNonDecreasingBy number_of (held_entries lent)
held-ascend [] ascend i j d before within = absurd (omega (arith, within))
held-ascend (one ∷ lent) ascend i j d before within =
    let all : List (Bor CatEntry) = one ∷ lent in
    let inside : j < length all =
    omega (arith, within, length-map all (λ (e : Bor CatEntry). e.now)) in
    rw (
      get_or-map (λ (e : Bor CatEntry). e.now) all i one d (omega (arith, before, inside)),
      get_or-map (λ (e : Bor CatEntry). e.now) all j one d inside,
    ) (ascend i j one before inside)

-- ---- the same entries in another order

module _ (one other : List CatEntry) (same : IsPermutation one other)
    (distinct : IsDistinct nat_eq (0 ∷ parts_in one)) where
  pub still-distinct : IsDistinct nat_eq (0 ∷ parts_in other)
  still-distinct = IsDistinct-IsPermutation nat_eq flips (0 ∷ parts_in one) (0 ∷ parts_in other)
      (IsPermutation-cons 0 (parts_in one) (parts_in other)
      (IsPermutation-map number_of one other same)) distinct

  -- an entry that one of the lists finds, the other does
  found-there : (part : ℕ) (entry : CatEntry) → entry_with_part one part ≡ Some entry
      → entry_with_part other part ≡ Some entry
  found-there part entry found =
      let there = Contains-permutation one other entry same
      (found_place (λ (e : CatEntry). e.part.0 == part) one entry found) in
      let numbers : List ℕ = filter_map (λ (e : CatEntry). Some (number_of e)) other in
      let apart : IsDistinct nat_eq numbers = others_distinct numbers
      (subst (λ (ns : List ℕ). IsDistinct nat_eq (0 ∷ ns)) (sym (map_some number_of other))
      still-distinct) in
      let at : entry_with_part other (number_of entry) ≡ Some entry =
      subst (λ (e : CatEntry). entry_with_part other (number_of e) ≡ Some e) there.2
      (found_at number_of other there.0 entry apart there.1) in
      subst (λ (n : ℕ). entry_with_part other n ≡ Some entry) (part_is one part entry found) at

module _ (entries ordered : List CatEntry) (by : AreByNumber entries ordered)
    (distinct : IsDistinct nat_eq (0 ∷ parts_in entries)) where
  pub ordered-distinct : IsDistinct nat_eq (0 ∷ parts_in ordered)
  ordered-distinct = still-distinct entries ordered by.same distinct

  found-alike : (part : ℕ) → entry_with_part ordered part ≡ entry_with_part entries part
  found-alike part =
      cases (entry_with_part entries part) refl (entry_with_part ordered part) refl
    where
      cases : (o : Option CatEntry) → entry_with_part entries part ≡ o → (p : Option CatEntry)
          → entry_with_part ordered part ≡ p → p ≡ o
      cases None none None lacks = refl
      cases None none (Some entry) has = absurd (some-none (sym (found-there ordered entries
          (IsPermutation-sym entries ordered by.same) ordered-distinct part entry has) ∙ none))
      cases (Some entry) is p has =
          sym has ∙ found-there entries ordered by.same distinct part entry is

  module _ (geometry : Geometry) where
    pub alike : (part : ℕ) → shape_in geometry ordered part ≡ shape_in geometry entries part
    alike part = ap (λ (o : Option CatEntry). cond (part == 0) (Some (catalog_shape geometry))
        (option_and_then (shape_of geometry) o)) (found-alike part)

    pub may-alike : MayAdd geometry entries → MayAdd geometry ordered
    may-alike may = record {
      distinct = ordered-distinct;
      on = λ part shape laid. may.on part shape (sym (alike part) ∙ laid);
      plain = All-permutation (IsPlain geometry) entries ordered by.same may.plain;
      lengths = All-permutation HasLength entries ordered by.same may.lengths;
    }

    ordered-laid : AreLaid geometry entries (shapes_laid geometry ordered)
    ordered-laid =
        let of = are-laid geometry ordered ordered-distinct in
        record {
          each = λ k d below. let shape = get_or (shapes_laid geometry ordered) k d in
              sym (alike (part_no shape).0) ∙ of.each k d below;
          all = λ part shape laid. of.all part shape (alike part ∙ laid);
          there = λ part shape laid. of.there part shape (alike part ∙ laid);
        }

module _ (geometry : Geometry) (entries : List CatEntry) (shapes : List Shape)
    (distinct : IsDistinct nat_eq (0 ∷ parts_in entries))
    (of : AreShapesOf geometry entries shapes) where
  -- the shapes are those of the parts that the entries lay
  pub shapes-lay : AreLaid geometry entries shapes
  shapes-lay = subst (AreLaid geometry entries) (sym of.are)
      (ordered-laid entries of.ordered of.by_number distinct geometry)

  -- each has a number of its own
  pub own-numbers : HaveOwnNumbers shapes
  own-numbers = subst HaveOwnNumbers (sym of.are) (shapes-differ geometry of.ordered
      (ordered-distinct entries of.ordered of.by_number distinct))
