-- The entry of a part in a catalog with an edit, and part numbers, of which none comes twice.
use Rattle.std.proofs.Common.{◌≡◌, ◌≢◌, ◌∙◌, ◌==◌, ℕ, Bool, true, false, not, cond, List, []}
use Rattle.std.proofs.Common.{◌∷◌, ◌||◌, Option, Some, None, refl, sym, ap, subst, arith}
use Rattle.std.proofs.Common.{if◌then◌else◌, nat_eq, ne_eqb}
use Rattle.std.specs.Prelude.{option_map}
use Rattle.std.specs.List.{AllByRecursion, IsDistinct, list_any}
use Rattle.std.specs.Ordering.{is_lt}
use Rattle.std.proofs.lemmas.Bool.Decides.{nat_tests}
use Rattle.std.proofs.lemmas.Option.{none-some}
use Rattle.vr_types.specs.Content.{place_cmp}
use Rattle.vr_catalog.specs.Catalog.{entry_with_part, parts_in}
use Rattle.vr_catalog.specs.declared.entry.CatEntry.{CatEntry}
use Rattle.vr_edits.specs.Edits.{altered_by, entry_place, is_of_part, with_altered, with_entry}
use Rattle.vr_edits.specs.Edits.{without_entries, without_entry}

-- numbers that the test finds the same are,
pub same-number : (m n : ℕ) → (m == n) ≡ true → m ≡ n
same-number m n is = grind (arith, nat_tests, is)

-- and it finds those that are
pub tests-same : (m n : ℕ) → m ≡ n → (m == n) ≡ true
tests-same m n is = grind (arith, nat_tests, is)

-- ---- what holds of each entry

-- of each, and of the new one, is of all
pub all-with : (P : CatEntry → Type 0) (new : CatEntry) (entries : List CatEntry) → P new
    → AllByRecursion P entries → AllByRecursion P (with_entry new entries)
all-with P new [] one all = (one, tt)
all-with P new (entry ∷ entries) one all =
    by-test (is_lt (place_cmp (entry_place new) (entry_place entry)))
    (all-with P new entries one all.1)
  where
    by-test : (b : Bool) → AllByRecursion P (with_entry new entries)
        → AllByRecursion P (if b then new ∷ entry ∷ entries
        else entry ∷ with_entry new entries)
    by-test true rest = (one, all)
    by-test false rest = (all.0, rest)

pub all-without : (P : CatEntry → Type 0) (entry : CatEntry) (entries : List CatEntry)
    → AllByRecursion P entries → AllByRecursion P (without_entry entry entries)
all-without P entry [] all = tt
all-without P entry (other ∷ entries) all =
    by-test (is_of_part entry other) (all-without P entry entries all.1)
  where
    by-test : (b : Bool) → AllByRecursion P (without_entry entry entries)
        → AllByRecursion P (cond (not b) (other ∷ without_entry entry entries)
        (without_entry entry entries))
    by-test true rest = rest
    by-test false rest = (all.0, rest)

pub all-without-some : (P : CatEntry → Type 0) (gone entries : List CatEntry)
    → AllByRecursion P entries → AllByRecursion P (without_entries gone entries)
all-without-some P [] entries all = all
all-without-some P (entry ∷ gone) entries all =
    all-without-some P gone (without_entry entry entries) (all-without P entry entries all)

pub all-altered : (P : CatEntry → Type 0) (new : CatEntry)
    → ((other : CatEntry) → P other → P (altered_by new other)) → (entries : List CatEntry)
    → AllByRecursion P entries → AllByRecursion P (with_altered new entries)
all-altered P new keeps [] all = tt
all-altered P new keeps (other ∷ entries) all =
    (keeps other all.0, all-altered P new keeps entries all.1)

-- of the entry of a part, too, where there is one
pub all-found : (P : CatEntry → Type 0) (entries : List CatEntry) (part : ℕ) (entry : CatEntry)
    → AllByRecursion P entries → entry_with_part entries part ≡ Some entry → P entry
all-found P [] part entry all found = absurd (none-some entry found)
all-found P (other ∷ entries) part entry all found =
    by-test (other.part.0 == part) found (all-found P entries part entry all.1)
  where
    by-test : (b : Bool) → cond b (Some other) (entry_with_part entries part) ≡ Some entry
        → (entry_with_part entries part ≡ Some entry → P entry) → P entry
    by-test true same rest = let is : other ≡ entry = cc in subst P is all.0
    by-test false same rest = rest same

-- ---- the entry of a part

-- what none of the entries has
abbrev pub IsApart : ℕ → CatEntry → Type 0
IsApart part entry = nat_eq part entry.part.0 ≡ false

eq-flips : (m n : ℕ) → nat_eq m n ≡ false → nat_eq n m ≡ false
eq-flips m n apart = grind (arith, nat_tests, apart)

-- a part that no entry has differs from that of each
pub other-parts : (part : ℕ) (entries : List CatEntry) → entry_with_part entries part ≡ None
    → AllByRecursion (IsApart part) entries
other-parts part [] none = tt
other-parts part (entry ∷ entries) none =
    by-test (entry.part.0 == part) refl none (other-parts part entries)
  where
    by-test : (b : Bool) → (entry.part.0 == part) ≡ b
        → cond b (Some entry) (entry_with_part entries part) ≡ None
        → (entry_with_part entries part ≡ None → AllByRecursion (IsApart part) entries)
        → AllByRecursion (IsApart part) (entry ∷ entries)
    by-test true is found rest = absurd (none-some entry (sym found))
    by-test false is found rest = (eq-flips entry.part.0 part is, rest found)

-- with one entry more, of a part of its own
pub part-with : (new : CatEntry) (entries : List CatEntry) (part : ℕ)
    → AllByRecursion (IsApart new.part.0) entries
    → entry_with_part (with_entry new entries) part
    ≡ cond (new.part.0 == part) (Some new) (entry_with_part entries part)
part-with new [] part apart = refl
part-with new (entry ∷ entries) part apart =
    by-test (is_lt (place_cmp (entry_place new) (entry_place entry)))
    (part-with new entries part apart.1)
  where
    by-parts : (b other : Bool) → (entry.part.0 == part) ≡ b → (new.part.0 == part) ≡ other
        → cond b (Some entry) (cond other (Some new) (entry_with_part entries part))
        ≡ cond other (Some new) (cond b (Some entry) (entry_with_part entries part))
    by-parts true true here there = absurd (grind (arith, nat_tests, apart.0, here, there))
    by-parts true false here there = refl
    by-parts false true here there = refl
    by-parts false false here there = refl

    by-test : (b : Bool) → entry_with_part (with_entry new entries) part
        ≡ cond (new.part.0 == part) (Some new) (entry_with_part entries part)
        → entry_with_part (if b then new ∷ entry ∷ entries
        else entry ∷ with_entry new entries) part
        ≡ cond (new.part.0 == part) (Some new) (entry_with_part (entry ∷ entries) part)
    by-test true rest = refl
    by-test false rest = ap (cond (entry.part.0 == part) (Some entry)) rest
        ∙ by-parts (entry.part.0 == part) (new.part.0 == part) refl refl

-- without one
pub part-without : (entry : CatEntry) (entries : List CatEntry) (part : ℕ)
    → entry_with_part (without_entry entry entries) part
    ≡ cond (entry.part.0 == part) None (entry_with_part entries part)
part-without entry [] part = by-test (entry.part.0 == part)
  where
    none : Option CatEntry
    none = None

    by-test : (b : Bool) → none ≡ cond b none none
    by-test true = refl
    by-test false = refl
part-without entry (other ∷ entries) part =
    by-tests (other.part.0 == entry.part.0) (entry.part.0 == part) (other.part.0 == part) refl refl
    refl (part-without entry entries part)
  where
    here-is : (b : Bool) → (entry.part.0 == part) ≡ b
        → entry_with_part (without_entry entry entries) part
        ≡ cond (entry.part.0 == part) None (entry_with_part entries part)
        → entry_with_part (without_entry entry entries) part
        ≡ cond b None (entry_with_part entries part)
    here-is b is rest =
        rest ∙ ap (λ (test : Bool). cond test None (entry_with_part entries part)) is

    by-tests : (own here there : Bool) → (other.part.0 == entry.part.0) ≡ own
        → (entry.part.0 == part) ≡ here → (other.part.0 == part) ≡ there
        → entry_with_part (without_entry entry entries) part
        ≡ cond (entry.part.0 == part) None (entry_with_part entries part)
        → entry_with_part (cond (not own) (other ∷ without_entry entry entries)
        (without_entry entry entries)) part
        ≡ cond here None (cond there (Some other) (entry_with_part entries part))
    by-tests true true there own here is rest = here-is true here rest
    by-tests true false true own here is rest = absurd (grind (arith, nat_tests, own, here, is))
    by-tests true false false own here is rest = here-is false here rest
    by-tests false true true own here is rest = absurd (grind (arith, nat_tests, own, here, is))
    by-tests false here false own is-here is rest =
        ap (λ (b : Bool). cond b (Some other) (entry_with_part (without_entry entry entries) part))
        is ∙ here-is here is-here rest
    by-tests false false true own here is rest =
        ap (λ (b : Bool). cond b (Some other) (entry_with_part (without_entry entry entries) part))
        is

-- without several
abbrev pub has_part : ℕ → CatEntry → Bool
has_part part entry = entry.part.0 == part

pub part-without-some : (gone entries : List CatEntry) (part : ℕ)
    → entry_with_part (without_entries gone entries) part
    ≡ cond (list_any (has_part part) gone) None (entry_with_part entries part)
part-without-some [] entries part = refl
part-without-some (entry ∷ gone) entries part =
    part-without-some gone (without_entry entry entries) part
    ∙ ap (cond (list_any (has_part part) gone) None) (part-without entry entries part)
    ∙ by-tests (entry.part.0 == part) (list_any (has_part part) gone)
  where
    by-tests : (here rest : Bool)
        → cond rest None (cond here None (entry_with_part entries part))
        ≡ cond (here || rest) None (entry_with_part entries part)
    by-tests true true = refl
    by-tests true false = refl
    by-tests false true = refl
    by-tests false false = refl

-- and with one altered, which keeps its part
altered-part : (new other : CatEntry) → (altered_by new other).part.0 ≡ other.part.0
altered-part new other = by-test (is_of_part new other)
  where
    by-test : (b : Bool) → (cond b (record other {
      free_space = new.free_space;
      share_options = new.share_options;
    }) other).part.0 ≡ other.part.0
    by-test true = refl
    by-test false = refl

pub part-altered : (new : CatEntry) (entries : List CatEntry) (part : ℕ)
    → entry_with_part (with_altered new entries) part
    ≡ option_map (altered_by new) (entry_with_part entries part)
part-altered new [] part = refl
part-altered new (other ∷ entries) part =
    ap (λ (n : ℕ). cond (n == part) (Some (altered_by new other))
    (entry_with_part (with_altered new entries) part)) (altered-part new other)
    ∙ by-test (other.part.0 == part) (part-altered new entries part)
  where
    by-test : (b : Bool) → entry_with_part (with_altered new entries) part
        ≡ option_map (altered_by new) (entry_with_part entries part)
        → cond b (Some (altered_by new other)) (entry_with_part (with_altered new entries) part)
        ≡ option_map (altered_by new) (cond b (Some other) (entry_with_part entries part))
    by-test true rest = refl
    by-test false rest = rest

-- ---- part numbers

parts-apart : (part : ℕ) (entries : List CatEntry) → AllByRecursion (IsApart part) entries
    → AllByRecursion (λ (other : ℕ). nat_eq part other ≡ false) (parts_in entries)
parts-apart part [] all = tt
parts-apart part (entry ∷ entries) all = (all.0, parts-apart part entries all.1)

apart-parts : (part : ℕ) (entries : List CatEntry)
    → AllByRecursion (λ (other : ℕ). nat_eq part other ≡ false) (parts_in entries)
    → AllByRecursion (IsApart part) entries
apart-parts part [] all = tt
apart-parts part (entry ∷ entries) all = (all.0, apart-parts part entries all.1)

distinct-those : (new : CatEntry) (entries : List CatEntry)
    → AllByRecursion (IsApart new.part.0) entries → IsDistinct nat_eq (parts_in entries)
    → IsDistinct nat_eq (parts_in (with_entry new entries))
unfolding IsDistinct
distinct-those new [] apart distinct = (tt, tt)
distinct-those new (entry ∷ entries) apart distinct =
    by-test (is_lt (place_cmp (entry_place new) (entry_place entry)))
    (distinct-those new entries apart.1 distinct.1)
  where
    by-test : (b : Bool) → IsDistinct nat_eq (parts_in (with_entry new entries))
        → IsDistinct nat_eq (parts_in (if b then new ∷ entry ∷ entries
        else entry ∷ with_entry new entries))
    by-test true rest = (parts-apart new.part.0 (entry ∷ entries) apart, distinct)
    by-test false rest = (
      parts-apart entry.part.0 (with_entry new entries)
          (all-with (IsApart entry.part.0) new entries (eq-flips new.part.0 entry.part.0 apart.0)
          (apart-parts entry.part.0 entries distinct.0)),
      rest,
    )

-- none comes twice, nor is one the catalog's: with an entry of a part of its own,
pub distinct-with : (new : CatEntry) (entries : List CatEntry) → new.part.0 ≢ 0
    → AllByRecursion (IsApart new.part.0) entries → IsDistinct nat_eq (0 ∷ parts_in entries)
    → IsDistinct nat_eq (0 ∷ parts_in (with_entry new entries))
unfolding IsDistinct
distinct-with new entries some apart distinct = (
  parts-apart 0 (with_entry new entries)
      (all-with (IsApart 0) new entries (ne_eqb 0 new.part.0 (λ zero. some (sym zero)))
      (apart-parts 0 entries distinct.0)),
  distinct-those new entries apart distinct.1,
)

distinct-rest : (entry : CatEntry) (entries : List CatEntry)
    → IsDistinct nat_eq (parts_in entries)
    → IsDistinct nat_eq (parts_in (without_entry entry entries))
unfolding IsDistinct
distinct-rest entry [] distinct = distinct
distinct-rest entry (other ∷ entries) distinct =
    by-test (is_of_part entry other) (distinct-rest entry entries distinct.1)
  where
    by-test : (b : Bool) → IsDistinct nat_eq (parts_in (without_entry entry entries))
        → IsDistinct nat_eq (parts_in (cond (not b) (other ∷ without_entry entry entries)
        (without_entry entry entries)))
    by-test true rest = rest
    by-test false rest = (
      parts-apart other.part.0 (without_entry entry entries)
          (all-without (IsApart other.part.0) entry entries
          (apart-parts other.part.0 entries distinct.0)),
      rest,
    )

-- without entries,
pub distinct-without : (entry : CatEntry) (entries : List CatEntry)
    → IsDistinct nat_eq (0 ∷ parts_in entries)
    → IsDistinct nat_eq (0 ∷ parts_in (without_entry entry entries))
unfolding IsDistinct
distinct-without entry entries distinct = (
  parts-apart 0 (without_entry entry entries)
      (all-without (IsApart 0) entry entries (apart-parts 0 entries distinct.0)),
  distinct-rest entry entries distinct.1,
)

pub distinct-without-some : (gone entries : List CatEntry)
    → IsDistinct nat_eq (0 ∷ parts_in entries)
    → IsDistinct nat_eq (0 ∷ parts_in (without_entries gone entries))
distinct-without-some [] entries distinct = distinct
distinct-without-some (entry ∷ gone) entries distinct =
    distinct-without-some gone (without_entry entry entries)
    (distinct-without entry entries distinct)

-- and with one altered
pub parts-altered : (new : CatEntry) (entries : List CatEntry)
    → parts_in (with_altered new entries) ≡ parts_in entries
parts-altered new [] = refl
parts-altered new (other ∷ entries) =
    ap (λ (n : ℕ). n ∷ parts_in (with_altered new entries)) (altered-part new other)
    ∙ ap (λ (parts : List ℕ). other.part.0 ∷ parts) (parts-altered new entries)
