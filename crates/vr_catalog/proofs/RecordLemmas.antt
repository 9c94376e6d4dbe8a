-- How long a catalog record and its fields are.
use Rattle.std.proofs.Common.{◌≡◌, ◌≢◌, ◌&&◌, ⊎_elim, ◌∙◌, ℕ, Bool, true, false, List, length, refl}
use Rattle.std.proofs.Common.{sym, ap, arith, length-append}
use Rattle.std.specs.Prelude.{Some, None, if◌then◌else◌, bytes_eq}
use Rattle.std.proofs.lemmas.Grind.{common_steps}
use Rattle.std.proofs.lemmas.Slice.Eq.{bytes_eq-Decides}
use Rattle.std.proofs.lemmas.Bool.{cases_Bool, and_left, and_right}
use Rattle.vr_types.specs.Fields.{two, four}
use Rattle.vr_catalog.specs.declared.entry.CatEntry.{CatEntry}
use Rattle.vr_catalog.specs.Entry.{are_names, is_allowed, is_entry}
use Rattle.vr_catalog.specs.Record.{spelling, entry_of, entry_in, padded}

pub length-two : (n : ℕ) → length (two n) ≡ 2
unfolding two
length-two n = refl

pub length-four : (n : ℕ) → length (four n) ≡ 4
unfolding four
length-four n = refl

pub length-padded : (size : ℕ) (text : List ℕ) → length (padded size text) ≡ size
unfolding padded
length-padded size text = grind (arith, common_steps)

-- a record has 204 bytes
pub length-spelling : (entry : CatEntry) → length (spelling entry) ≡ 204
unfolding spelling
length-spelling entry = simp (length-append, length-two, length-four, length-padded) (refl)

none_unless : (names values spelled : Bool) (entry : CatEntry)
    → (names && (values && spelled)) ≡ false
    → (if (names && values) && spelled then Some entry else None) ≡ None
none_unless true true spelled entry fails = rw fails
none_unless true false spelled entry fails = refl
none_unless false values spelled entry fails = refl

-- the three tests that make bytes the record of an entry
tests : List ℕ → Bool
tests bytes = are_names (entry_in bytes)
    && (is_allowed (entry_in bytes) && bytes_eq (spelling (entry_in bytes)) bytes)

none_spelled : (bytes : List ℕ) → tests bytes ≡ false → entry_of bytes ≡ None
unfolding entry_of is_entry tests
none_spelled bytes fails = none_unless (are_names (entry_in bytes)) (is_allowed (entry_in bytes))
    (bytes_eq (spelling (entry_in bytes)) bytes) (entry_in bytes) fails

-- where one of them fails, the bytes spell no entry
pub misnamed : (bytes : List ℕ) → are_names (entry_in bytes) ≡ false → entry_of bytes ≡ None
unfolding tests
misnamed bytes fails = none_spelled bytes
    (and_left (are_names (entry_in bytes))
    (is_allowed (entry_in bytes) && bytes_eq (spelling (entry_in bytes)) bytes) fails)

pub disallowed : (bytes : List ℕ) → is_allowed (entry_in bytes) ≡ false → entry_of bytes ≡ None
unfolding tests
disallowed bytes fails = none_spelled bytes
    (and_right (are_names (entry_in bytes))
    (is_allowed (entry_in bytes) && bytes_eq (spelling (entry_in bytes)) bytes)
    (and_left (is_allowed (entry_in bytes)) (bytes_eq (spelling (entry_in bytes)) bytes) fails))

pub misspelled : (bytes : List ℕ) → bytes_eq (spelling (entry_in bytes)) bytes ≡ false
    → entry_of bytes ≡ None
unfolding tests
misspelled bytes fails = none_spelled bytes
    (and_right (are_names (entry_in bytes))
    (is_allowed (entry_in bytes) && bytes_eq (spelling (entry_in bytes)) bytes)
    (and_right (is_allowed (entry_in bytes)) (bytes_eq (spelling (entry_in bytes)) bytes) fails))

-- and where all hold, they spell this one
pub spelled : (bytes : List ℕ) → are_names (entry_in bytes) ≡ true
    → is_allowed (entry_in bytes) ≡ true → bytes_eq (spelling (entry_in bytes)) bytes ≡ true
    → entry_of bytes ≡ Some (entry_in bytes)
unfolding entry_of is_entry
spelled bytes named allowed same = rw (named, allowed, same) refl

-- bytes of another length spell no entry
pub entry_of-length : (bytes : List ℕ) → length bytes ≢ 204 → entry_of bytes ≡ None
entry_of-length bytes other = misspelled bytes (⊎_elim
    (λ (equal : bytes_eq (spelling (entry_in bytes)) bytes ≡ true). absurd
    (other (sym (ap length ((bytes_eq-Decides (spelling (entry_in bytes)) bytes).0 equal))
    ∙ length-spelling (entry_in bytes))))
    (λ (fails : bytes_eq (spelling (entry_in bytes)) bytes ≡ false). fails)
    (cases_Bool (bytes_eq (spelling (entry_in bytes)) bytes)))

pub ruleset lengths = (length-two, length-four, length-padded, length-spelling)

pub ruleset spellings = (entry_of-length, misnamed, disallowed, misspelled, spelled)
