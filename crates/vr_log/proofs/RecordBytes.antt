-- One record, off the bytes that begin with it.
use Rattle.std.proofs.Common.{◌≡◌, ⊎_elim, ℕ, zero, suc, ◌+◌, ◌<◌, ◌≤◌, List, [], ◌∷◌, ◌++◌, length}
use Rattle.std.proofs.Common.{take, drop, Option, Some, None, get_or, replicate, refl, sym, ap}
use Rattle.std.proofs.Common.{subst, ◌∙◌, arith}
use Rattle.std.proofs.lemmas.List.{append-nil, append_assoc, length-append, length-take}
use Rattle.std.proofs.lemmas.List.{length-drop, take-append-drop, drop-drop, get_or_append_left}
use Rattle.std.proofs.lemmas.List.{get_or-take}
use Rattle.vr_types.specs.Fields.{IsBytes, AreZeros, four, four_at}
use Rattle.vr_types.proofs.CallerLemmas.{cut_four, four_below, length-four, zeros_are}
use Rattle.vr_log.specs.declared.record.EndKind.{EndKind}
use Rattle.vr_log.specs.declared.record.EndKind.TheVariants.{Committed, BackedOut}
use Rattle.vr_log.specs.declared.record.LogRecord.{LogRecord}
use Rattle.vr_log.specs.declared.record.LogRecord.TheVariants.{Before, End}
use Rattle.vr_log.specs.Damage.{IsMisspelled}
use Rattle.vr_log.specs.Decoding.{IsOldWrong, IsOld, IsWhole}
use Rattle.vr_log.specs.Records.{record_bytes, unit_bytes, old_bytes, end_number, HasFields}
use Rattle.vr_log.specs.Records.{IsShort}
use Rattle.vr_log.proofs.Lives.{length-ended}

-- ---- bytes

pub IsBytes-append : (a b : List ℕ) → IsBytes a → IsBytes b → IsBytes (a ++ b)
IsBytes-append [] b fits under i = under i
IsBytes-append (x ∷ a) b fits under zero = fits 0
IsBytes-append (x ∷ a) b fits under (suc i) =
    IsBytes-append a b (λ (k : ℕ). fits (suc k)) under i

pub first-more : (a b : List ℕ) → 0 < length a → get_or (a ++ b) 0 0 ≡ get_or a 0 0
first-more a b some = get_or_append_left a b 0 0 some

-- the first byte, and those after it
pub begins : (bytes : List ℕ) (x : ℕ) → 0 < length bytes → get_or bytes 0 0 ≡ x
    → bytes ≡ x ∷ drop 1 bytes
begins [] x some first = absurd (omega (arith, some))
begins (b ∷ bytes) x some first = ap (λ (n : ℕ). n ∷ bytes) first

-- ---- misspelled

pub misspelled-by : (bytes : List ℕ) → ((rec : LogRecord) (x y : List ℕ) → HasFields rec
    → bytes ++ x ≡ record_bytes rec ++ y → ⊥) → 9 ≤ length bytes → (IsShort bytes → ⊥)
    → IsMisspelled bytes
misspelled-by bytes none some long = record {
  no_record = λ rec rest fields same. none rec [] rest fields (append-nil bytes ∙ same);
  no_cut = λ cut. ⊎_elim (λ (few : length bytes < 9). omega (arith, few, some)) long cut;
}

abbrev IsKind : ℕ → Type 0
IsKind n = (1 ≤ n) × (n ≤ 3)

kind-of : (rec : LogRecord) (y : List ℕ) → IsKind (get_or (record_bytes rec ++ y) 0 0)
unfolding record_bytes
kind-of (Before u n p o) y = (omega arith, omega arith)
kind-of (End u Committed) y = (omega arith, omega arith)
kind-of (End u BackedOut) y = (omega arith, omega arith)

-- a first byte that no record has
pub no-kind : (bytes : List ℕ) → 9 ≤ length bytes → (IsKind (get_or bytes 0 0) → ⊥)
    → IsMisspelled bytes
no-kind bytes some none =
    misspelled-by bytes (λ rec x y fields same. none (subst IsKind
    (sym (ap (λ (l : List ℕ). get_or l 0 0) same) ∙ first-more bytes x (omega (arith, some)))
    (kind-of rec y))) some
    (λ short. none (omega (arith, short.kind), omega (arith, short.kind)))

-- ---- ends of units

end-is : (k : EndKind) (bytes : List ℕ) → IsBytes bytes → 9 ≤ length bytes
    → get_or bytes 0 0 ≡ end_number k
    → bytes ≡ record_bytes (End (record { deck = four_at 1 bytes; number = four_at 5 bytes }) k)
    ++ drop 9 bytes
unfolding record_bytes unit_bytes
end-is k bytes fits long first =
    begins bytes (end_number k) (omega (arith, long)) first
    ∙ ap (λ (l : List ℕ). end_number k ∷ l) (cut_four 1 bytes fits (omega (arith, long))
    ∙ ap (λ (l : List ℕ). four (four_at 1 bytes) ++ l) (cut_four 5 bytes fits (omega (arith, long)))
    ∙ sym (append_assoc (four (four_at 1 bytes)) (four (four_at 5 bytes)) (drop 9 bytes)))

pub end-whole : (k : EndKind) (bytes : List ℕ) → IsBytes bytes → 9 ≤ length bytes
    → get_or bytes 0 0 ≡ end_number k
    → IsWhole bytes (End (record { deck = four_at 1 bytes; number = four_at 5 bytes }) k) 9
end-whole k bytes fits long first = record {
  fields = record { deck = four_below 1 bytes fits; number = four_below 5 bytes fits };
  is = end-is k bytes fits long first;
  long = length-ended (record { deck = four_at 1 bytes; number = four_at 5 bytes }) k;
  some = omega arith;
  within = long;
}

-- ---- old records

abbrev IsFlag : ℕ → Type 0
IsFlag n = n ≤ 1

flag-of : (old : Option (List ℕ)) (y : List ℕ) → IsFlag (get_or (old_bytes old ++ y) 0 0)
unfolding old_bytes
flag-of None y = omega arith
flag-of (Some b) y = omega arith

pub no-flag : (bytes : List ℕ) → 5 + four_at 1 bytes ≤ length bytes
    → (IsFlag (get_or bytes 0 0) → ⊥)
    → IsOldWrong bytes
no-flag bytes long none = record {
  long = long;
  none = λ old x y same. none (subst IsFlag (sym (ap (λ (l : List ℕ). get_or l 0 0) same)
      ∙ first-more bytes x (omega (arith, long))) (flag-of old y));
}

zero-four : (i d : ℕ) → i < 4 → get_or (four 0) i d ≡ 0
unfolding four
zero-four zero d below = refl
zero-four (suc zero) d below = refl
zero-four (suc (suc zero)) d below = refl
zero-four (suc (suc (suc zero))) d below = refl
zero-four (suc (suc (suc (suc i)))) d below = absurd (omega (arith, below))

-- where no record was, zeros follow
zeros-after : (n : ℕ) (tail x y : List ℕ) → n ≤ 4 → tail ++ x ≡ four 0 ++ y
    → AreZeros (take n tail)
zeros-after n tail x y most same i d below =
    let short : i < n = omega (arith, below, length-take n tail) in
    let within : i < length tail = omega (arith, below, length-take n tail) in
    get_or-take n tail i d short ∙ sym (get_or_append_left tail x d i within)
    ∙ ap (λ (l : List ℕ). get_or l i d) same
    ∙ get_or_append_left (four 0) y d i (omega (arith, short, most, length-four 0))
    ∙ zero-four i d (omega (arith, short, most))

absent-none : (n : ℕ) (bytes : List ℕ) → n ≤ 4 → 0 < length bytes → get_or bytes 0 0 ≡ 0
    → (AreZeros (take n (drop 1 bytes)) → ⊥) → (old : Option (List ℕ)) (x y : List ℕ)
    → bytes ++ x ≡ old_bytes old ++ y → ⊥
unfolding old_bytes
absent-none n bytes most some first bad None x y same =
    let is : 0 ∷ (drop 1 bytes ++ x) ≡ 0 ∷ (four 0 ++ y) =
    ap (λ (l : List ℕ). l ++ x) (sym (begins bytes 0 some first)) ∙ same in
    bad (zeros-after n (drop 1 bytes) x y most (ap (λ (l : List ℕ). drop 1 l) is))
absent-none n bytes most some first bad (Some b) x y same =
    omega (
      arith,
      first,
      first-more bytes x some,
      ap (λ (l : List ℕ). get_or l 0 0) same,
    )

pub absent-wrong : (bytes : List ℕ) → 5 + four_at 1 bytes ≤ length bytes → get_or bytes 0 0 ≡ 0
    → (AreZeros (take 4 (drop 1 bytes)) → ⊥) → IsOldWrong bytes
absent-wrong bytes long first bad =
    record {
      long = long;
      none = absent-none 4 bytes (omega arith) (omega (arith, long)) first bad;
    }

five-zeros : (bytes : List ℕ) → length bytes ≡ 5 → get_or bytes 0 0 ≡ 0
    → AreZeros (drop 1 bytes) → bytes ≡ old_bytes None
unfolding old_bytes four
five-zeros bytes long first zeros =
    begins bytes 0 (omega (arith, long)) first
    ∙ ap (λ (l : List ℕ). 0 ∷ l) (zeros_are (drop 1 bytes) zeros
    ∙ ap (λ (n : ℕ). replicate {A = ℕ} n 0)
    (let four : length (drop 1 bytes) ≡ 4 = omega (arith, length-drop 1 bytes, long) in four))

pub length-none : length (old_bytes None) ≡ 5
unfolding old_bytes four
length-none = refl

pub absent-whole : (bytes : List ℕ) → 5 ≤ length bytes → get_or bytes 0 0 ≡ 0
    → AreZeros (take 4 (drop 1 bytes)) → IsOld bytes None 5
absent-whole bytes long first zeros =
    let five = take 5 bytes in
    let size : length five ≡ 5 = omega (arith, length-take 5 bytes, long) in
    let is : five ≡ old_bytes None =
    five-zeros five size (get_or-take 5 bytes 0 0 (omega arith) ∙ first)
    (subst AreZeros (take-tail bytes) zeros) in
    record {
      was = tt;
      is = sym (take-append-drop 5 bytes) ∙ ap (λ (l : List ℕ). l ++ drop 5 bytes) is;
      long = length-none;
      within = long;
    }
  where
    take-tail : (bytes : List ℕ) → take 4 (drop 1 bytes) ≡ drop 1 (take 5 bytes)
    take-tail [] = refl
    take-tail (b ∷ bytes) = refl

-- a record, after its length
present-is : (bytes : List ℕ) → IsBytes bytes → 5 ≤ length bytes → get_or bytes 0 0 ≡ 1
    → bytes ≡ 1 ∷ (four (four_at 1 bytes) ++ drop 5 bytes)
present-is bytes fits long first =
    begins bytes 1 (omega (arith, long)) first
    ∙ ap (λ (l : List ℕ). 1 ∷ l) (cut_four 1 bytes fits (omega (arith, long)))

old-some : (b more : List ℕ) → old_bytes (Some b) ++ more ≡ 1 ∷ (four (length b) ++ (b ++ more))
unfolding old_bytes
old-some b more = ap (λ (l : List ℕ). 1 ∷ l) (append_assoc (four (length b)) b more)

pub present-whole : (bytes : List ℕ) → IsBytes bytes → 5 ≤ length bytes
    → 5 + four_at 1 bytes ≤ length bytes → get_or bytes 0 0 ≡ 1
    → IsOld bytes (Some (take (four_at 1 bytes) (drop 5 bytes))) (5 + four_at 1 bytes)
present-whole bytes fits long within first =
    let n = four_at 1 bytes in
    let b = take n (drop 5 bytes) in
    let size : length b ≡ n =
    omega (arith, length-take n (drop 5 bytes), length-drop 5 bytes, within) in
    let rest = drop (5 + n) bytes in
    let split : drop 5 bytes ≡ b ++ rest = sym (take-append-drop n (drop 5 bytes))
    ∙ ap (λ (l : List ℕ). b ++ l) (drop-drop n 5 bytes) in
    let is : bytes ≡ old_bytes (Some b) ++ rest = present-is bytes fits long first
    ∙ ap (λ (l : List ℕ). 1 ∷ (four n ++ l)) split
    ∙ ap (λ (m : ℕ). 1 ∷ (four m ++ (b ++ rest))) (sym size) ∙ sym (old-some b rest) in
    record {
      was = omega (arith, size, four_below 1 bytes fits);
      is = is;
      long = omega (
        arith,
        ap length is,
        length-append (old_bytes (Some b)) rest,
        length-drop (5 + n) bytes,
        within,
      );
      within = within;
    }
