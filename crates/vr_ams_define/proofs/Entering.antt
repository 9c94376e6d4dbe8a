-- A catalog with one entry more, at its place.
use Rattle.std.proofs.Common.{◌≡◌, ⊎_elim, ℕ, ◌+◌, ◌≤◌, Bool, true, false, cond, List, [], ◌∷◌}
use Rattle.std.proofs.Common.{All, Some, None, refl, ap, arith}
use Rattle.std.specs.Prelude.{max, nat_eq}
use Rattle.std.specs.List.{AllByRecursion, IsDistinct, find, fold}
use Rattle.std.specs.Ordering.{is_lt}
use Rattle.std.proofs.lemmas.Bool.Decides.{eqb_tells, nat_tests}
use Rattle.std.proofs.lemmas.List.Elements.{All-cons, All-head, All-tail}
use Rattle.vr_types.specs.Content.{place_cmp}
use Rattle.vr_catalog.specs.Catalog.{entry_with_part, parts_in}
use Rattle.vr_catalog.specs.declared.entry.CatEntry.{CatEntry}
use Rattle.vr_ams_define.specs.NewCluster.{entry_place, with_cluster}

-- an entry comes before another one
abbrev comes_before : CatEntry → CatEntry → Bool
comes_before entry other = is_lt (place_cmp (entry_place entry) (entry_place other))

-- what holds of the new entry and of the others holds of all
pub with_cluster-all : (P : CatEntry → Type 0) (new : CatEntry) (entries : List CatEntry) → P new
    → All P entries → All P (with_cluster new entries)
with_cluster-all P new [] this all = All-cons P new [] this all
with_cluster-all P new (other ∷ others) this all =
    by (comes_before new other) (with_cluster-all P new others this (All-tail P other others all))
  where
    by : (before : Bool) → All P (with_cluster new others)
        → All P (cond before (new ∷ other ∷ others) (other ∷ with_cluster new others))
    by true rest = All-cons P new (other ∷ others) this all
    by false rest = All-cons P other (with_cluster new others) (All-head P other others all) rest

-- a look-up that the new entry fails finds what it found
pub with_cluster-find : (p : CatEntry → Bool) (new : CatEntry) (entries : List CatEntry)
    → p new ≡ false → find p (with_cluster new entries) ≡ find p entries
with_cluster-find p new [] fails = rw fails refl
with_cluster-find p new (other ∷ others) fails =
    by (comes_before new other) (with_cluster-find p new others fails)
  where
    by : (before : Bool) → find p (with_cluster new others) ≡ find p others
        → find p (cond before (new ∷ other ∷ others) (other ∷ with_cluster new others))
        ≡ find p (other ∷ others)
    by true rest = rw fails refl
    by false rest = ap (cond (p other) (Some other)) rest

-- the parts of the entries are other than this one
abbrev pub ArePartsApart : ℕ → List CatEntry → Type 0
ArePartsApart part entries = AllByRecursion (λ other. nat_eq part other ≡ false) (parts_in entries)

pub with_cluster-apart : (part : ℕ) (new : CatEntry) (entries : List CatEntry)
    → nat_eq part new.part.0 ≡ false → ArePartsApart part entries
    → ArePartsApart part (with_cluster new entries)
with_cluster-apart part new [] this apart = (this, apart)
with_cluster-apart part new (other ∷ others) this apart =
    by (comes_before new other) (with_cluster-apart part new others this apart.1)
  where
    by : (before : Bool) → ArePartsApart part (with_cluster new others)
        → ArePartsApart part (cond before (new ∷ other ∷ others) (other ∷ with_cluster new others))
    by true rest = (this, apart)
    by false rest = (apart.0, rest)

nat_eq-flips : (a b : ℕ) → nat_eq a b ≡ false → nat_eq b a ≡ false
nat_eq-flips a b other = grind (arith, nat_tests)

-- no part comes twice where the new one is another than each
pub with_cluster-distinct : (new : CatEntry) (entries : List CatEntry)
    → ArePartsApart new.part.0 entries → IsDistinct nat_eq (parts_in entries)
    → IsDistinct nat_eq (parts_in (with_cluster new entries))
unfolding IsDistinct
with_cluster-distinct new [] apart distinct = (apart, distinct)
with_cluster-distinct new (other ∷ others) apart distinct =
    by (comes_before new other) (with_cluster-distinct new others apart.1 distinct.1)
  where
    by : (before : Bool) → IsDistinct nat_eq (parts_in (with_cluster new others))
        → IsDistinct nat_eq
        (parts_in (cond before (new ∷ other ∷ others) (other ∷ with_cluster new others)))
    by true rest = (apart, distinct)
    by false rest = (
      with_cluster-apart other.part.0 new others (nat_eq-flips new.part.0 other.part.0 apart.0)
          distinct.0,
      rest,
    )

-- a part that no entry has isn't found
pub none-with_part : (part : ℕ) (entries : List CatEntry) → ArePartsApart part entries
    → entry_with_part entries part ≡ None
none-with_part part [] apart = refl
none-with_part part (other ∷ others) apart =
    rw (nat_eq-flips part other.part.0 apart.0) (none-with_part part others apart.1)

-- ---- the greatest part

-- a greatest number is at least each of which it is the greatest
fold-from : (least : ℕ) (numbers : List ℕ) → least ≤ fold max least numbers
fold-from least [] = omega arith
fold-from least (number ∷ numbers) =
    omega (arith, fold-from (max least number) numbers)

all-below : (least : ℕ) (numbers : List ℕ)
    → AllByRecursion (λ number. number ≤ fold max least numbers) numbers
all-below least [] = tt
all-below least (number ∷ numbers) =
    (omega (arith, fold-from (max least number) numbers), all-below (max least number) numbers)

apart-above : (most : ℕ) (numbers : List ℕ) → AllByRecursion (λ number. number ≤ most) numbers
    → AllByRecursion (λ number. nat_eq (most + 1) number ≡ false) numbers
apart-above most [] below = tt
apart-above most (number ∷ numbers) below = (
  ⊎_elim (λ same. absurd (omega (arith, below.0, same.1))) (λ other. other.0)
      (eqb_tells (most + 1) number),
  apart-above most numbers below.1,
)

-- the number after the greatest is none of them
pub next-apart : (entries : List CatEntry)
    → ArePartsApart (fold max 0 (parts_in entries) + 1) entries
next-apart entries = apart-above _ (parts_in entries) (all-below 0 (parts_in entries))
