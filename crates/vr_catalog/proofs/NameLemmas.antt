-- The test of a name says what the rule of names says.
use Rattle.std.proofs.Common.{◌≡◌, ◌<◌, ◌≤◌, ◌+◌, ◌&&◌, ltb, leb, ℕ, Bool, true, false, not, take}
use Rattle.std.proofs.Common.{List, [], ◌∷◌, length, get_or, ⊎_elim, sym, ◌∙◌, refl, ap, subst}
use Rattle.std.proofs.Common.{arith}
use Rattle.std.specs.List.{list_all, list_any, range_with_len}
use Rattle.std.specs.Str.{IsUtf8, IsAscii, bytes_eq}
use Rattle.std.proofs.lemmas.Bool.{cases_lt, cases_Bool, both_ways, and_parts, ltb-true, leb-true}
use Rattle.std.proofs.lemmas.Bool.{lt-ltb, le-leb}
use Rattle.std.proofs.lemmas.Bool.Decides.{nat_tests}
use Rattle.std.specs.Prelude.{slice_index, ◌==◌}
use Rattle.std.proofs.lemmas.List.{get_or_past, length-take, get_or-take}
use Rattle.std.proofs.lemmas.List.Folds.{list_any_at}
use Rattle.std.proofs.lemmas.List.FromFn.{length-range_with_len, get_or-range_with_len}
use Rattle.std.proofs.lemmas.List.Sums.{suffix_len_is, AllPass-from_list_all, list_all-from_AllPass}
use Rattle.std.proofs.lemmas.Slice.Eq.{bytes_eq-Decides}
use Rattle.std.proofs.lemmas.Str.{IsUtf8-from_ascii}
use Rattle.vr_types.specs.Name.{IsDatasetName, is_right_at, in_capitals, fits_column, column_at}
use Rattle.vr_catalog.specs.Entry.{is_name}

-- a test of every number below n, and the fact of each
each_passes : (test : ℕ → Bool) (n : ℕ) → list_all test (range_with_len 0 n) ≡ true → (i : ℕ)
    → i < n → test i ≡ true
each_passes test n all i within =
    let passes = AllPass-from_list_all test (range_with_len 0 n) all in
    let same : get_or (range_with_len 0 n) i 0 ≡ i =
    omega (arith, get_or-range_with_len 0 n i 0 within) in
    subst (λ j. test j ≡ true) same (passes i 0 (omega (arith, length-range_with_len 0 n)))

all_pass : (test : ℕ → Bool) (n : ℕ) → ((i : ℕ) → i < n → test i ≡ true)
    → list_all test (range_with_len 0 n) ≡ true
all_pass test n each = list_all-from_AllPass test (range_with_len 0 n) (λ i d within.
    let below : i < n = omega (arith, length-range_with_len 0 n) in
    let same : i ≡ get_or (range_with_len 0 n) i d =
    omega (arith, get_or-range_with_len 0 n i d below) in
    subst (λ j. test j ≡ true) same (each i below))

not_empty : (text : List ℕ) → (text ≡ [] → ⊥) → 0 < length text
not_empty [] some = absurd (some refl)
not_empty (byte ∷ text) some = omega arith

-- The parts of the test.
record NameParts (text : List ℕ) : Type 0 where
  some : 0 < length text
  short : length text ≤ 44
  right : (i : ℕ) → i ≤ length text → is_right_at text i ≡ true
  capitals : in_capitals text ≡ text

all_four : (a b c d : Bool) → (((a && b) && c) && d) ≡ true
    → (a ≡ true) × (b ≡ true) × (c ≡ true) × (d ≡ true)
all_four a b c d is =
    let last = and_parts ((a && b) && c) d is in
    let third = and_parts (a && b) c last.0 in
    let second = and_parts a b third.0 in
    (second.0, second.1, third.1, last.1)

name_parts : (text : List ℕ) → is_name text ≡ true → NameParts text
unfolding is_name
name_parts text is =
    let four = all_four (ltb 0 (length text)) (leb (length text) 44)
    (list_all (is_right_at text) (range_with_len 0 (length text + 1)))
    (bytes_eq (in_capitals text) text) is in
    record {
      some = ltb-true 0 (length text) four.0;
      short = leb-true (length text) 44 four.1;
      right = λ i within. each_passes (is_right_at text) (length text + 1) four.2 i (omega arith);
      capitals = (bytes_eq-Decides (in_capitals text) text).0 four.3;
    }

-- a text that passes is the name of a data set, in capitals
pub name_is_dataset : (text : List ℕ) → is_name text ≡ true → IsDatasetName text
name_is_dataset text is =
    let parts = name_parts text is in
    record {
      some = λ none. absurd (omega (arith, parts.some, ap length none));
      short =
          parts.short;
      right = parts.right;
    }

pub name_is_capitals : (text : List ℕ) → is_name text ≡ true → in_capitals text ≡ text
name_is_capitals text is = (name_parts text is).capitals

-- and the other way round
pub is_name-of_dataset : (text : List ℕ) → IsDatasetName text → in_capitals text ≡ text
    → is_name text ≡ true
unfolding is_name
is_name-of_dataset text name capitals =
    let some : 0 < length text = not_empty text name.some in
    let right : list_all (is_right_at text) (range_with_len 0 (length text + 1)) ≡ true =
    all_pass (is_right_at text) (length text + 1) (λ i within. name.right i (omega arith)) in
    let same : bytes_eq (in_capitals text) text ≡ true =
    (bytes_eq-Decides (in_capitals text) text).1 capitals in
    rw (lt-ltb 0 (length text) some, le-leb (length text) 44 name.short, right, same)

-- a byte that may stand in a name is ASCII
fits_ascii : (column byte : ℕ) → fits_column column byte ≡ true → byte < 128
fits_ascii column byte fits = grind (arith, nat_tests)

fits_at : (text : List ℕ) (i : ℕ) → i < length text → is_right_at text i ≡ true
    → fits_column (column_at text i) (slice_index text i) ≡ true
fits_at text i within right = rw (lt-ltb i (length text) within) at right

name_ascii : (text : List ℕ) → is_name text ≡ true → IsAscii text
name_ascii text is i =
    let parts = name_parts text is in
    ⊎_elim
    (λ within. fits_ascii (column_at text i) (slice_index text i)
    (fits_at text i within (parts.right i (omega arith))))
    (λ past. let none : slice_index text i ≡ 0 = get_or_past text i 0 past in omega (arith, none))
    (cases_lt i (length text))

-- a name is text
pub name_is_utf8 : (text : List ℕ) → is_name text ≡ true → IsUtf8 text
name_is_utf8 text is = IsUtf8-from_ascii text (name_ascii text is)

-- a text that spells a name is one exactly where the name is the text
pub is_name-as_spelled : (spelled text name shown : List ℕ) → spelled ≡ text
    → IsDatasetName spelled → name ≡ in_capitals spelled → shown ≡ name
    → is_name text ≡ bytes_eq shown text
is_name-as_spelled spelled text name shown same is capitals shows =
    let shown_as : shown ≡ in_capitals text = shows ∙ capitals ∙ ap in_capitals same in
    let named : IsDatasetName text = subst IsDatasetName same is in
    ⊎_elim
    (λ (equal : bytes_eq shown text ≡ true). is_name-of_dataset text named
    (sym shown_as ∙ (bytes_eq-Decides shown text).0 equal) ∙ sym equal)
    (λ (other : bytes_eq shown text ≡ false). ⊎_elim
    (λ (passes : is_name text ≡ true). absurd
    (both_ways (bytes_eq shown text) other
    ((bytes_eq-Decides shown text).1 (shown_as ∙ name_is_capitals text passes))))
    (λ (fails : is_name text ≡ false). fails ∙ sym other)
    (cases_Bool (is_name text)))
    (cases_Bool (bytes_eq shown text))

-- a name has at most 44 bytes, at least one, and no blank
pub name_short : (text : List ℕ) → is_name text ≡ true → length text ≤ 44
name_short text is = (name_parts text is).short

pub name_some : (text : List ℕ) → is_name text ≡ true → 0 < length text
name_some text is = (name_parts text is).some

fits_plain : (column byte : ℕ) → fits_column column byte ≡ true → (byte == 32) ≡ false
fits_plain column byte fits = grind (arith, nat_tests)

pub name_plain : (text : List ℕ) → is_name text ≡ true → (i : ℕ) → i < length text
    → (slice_index text i == 32) ≡ false
name_plain text is i within = fits_plain (column_at text i) (slice_index text i)
    (fits_at text i within ((name_parts text is).right i (omega (arith, within))))

-- a name of one qualifier has at most 8 bytes
no_dot : (text : List ℕ) → list_any (λ byte. byte == 46) text ≡ false → (i : ℕ) → i < length text
    → (slice_index text i == 46) ≡ false
no_dot text none i within = ⊎_elim
    (λ (dot : (slice_index text i == 46) ≡ true). absurd
    (both_ways (list_any (λ byte. byte == 46) text) none
    (list_any_at (λ byte. byte == 46) text i 0 within dot)))
    (λ (other : (slice_index text i == 46) ≡ false). other)
    (cases_Bool (slice_index text i == 46))

column_without_dot : (text : List ℕ) → 8 < length text → list_any (λ byte. byte == 46) text ≡ false
    → column_at text 8 ≡ 8
column_without_dot text long none =
    let eight : length (take 8 text) ≡ 8 = omega (arith, length-take 8 text, long) in
    let passes : (k : ℕ) → 0 ≤ k → k < length (take 8 text)
    → not (get_or (take 8 text) k 0 == 46) ≡ true
    = λ k from below. let short : k < 8 = omega (arith, below, eight) in
    rw (get_or-take 8 text k 0 short, no_dot text none k (omega (arith, short, long))) refl in
    omega (
      arith,
      suffix_len_is (λ byte. not (byte == 46)) (take 8 text) 0 0 (omega arith) passes
          (λ more. absurd (omega (arith, more))),
      eight,
    )

past_qualifier : (byte : ℕ) → (byte == 46) ≡ false → fits_column 8 byte ≡ true → ⊥
past_qualifier byte other fits = grind (arith, nat_tests)

pub class_short : (text : List ℕ) → is_name text ≡ true
    → list_any (λ byte. byte == 46) text ≡ false → length text ≤ 8
class_short text is none = ⊎_elim
    (λ (long : 8 < length text). absurd (past_qualifier (slice_index text 8)
    (no_dot text none 8 long)
    (subst (λ column. fits_column column (slice_index text 8) ≡ true)
    (column_without_dot text long none) (fits_at text 8 long
    ((name_parts text is).right 8 (omega (arith, long)))))))
    (λ (short : length text ≤ 8). short)
    (cases_lt 8 (length text))

pub ruleset names = (name_is_dataset, name_is_capitals, is_name-of_dataset, name_is_utf8)
