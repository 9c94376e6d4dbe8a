-- What the crates above cite of runs of calls of blocks, of sizes of blocks, of fields, and of the
-- order of places and names.
use Rattle.std.proofs.Common.{◌≡◌, ◌⊎◌, ℕ, ◌+◌, ◌%◌, ◌^◌, ◌<◌, ◌≤◌, List, [], ◌∷◌, ◌++◌, length}
use Rattle.std.proofs.Common.{get_or, take, drop, refl, sym, ap, ◌∙◌, arith, inl, inr, replicate}
use Rattle.std.proofs.Common.{Option, Some, None, add-one, zero, suc, subst, ◌-◌}
use Rattle.std.proofs.lemmas.Bool.{cases_lt}
use Rattle.std.proofs.lemmas.List.{take-append-drop, drop-drop, length-drop, length-take}
use Rattle.std.proofs.lemmas.List.{length-append, get_or-drop, get_or-take, get_or_past, drop_more}
use Rattle.std.proofs.lemmas.List.{length-replicate, drop_at}
use Rattle.std.proofs.lemmas.List.Elements.{All-tail, All-head, All-replicate}
use Rattle.std.proofs.lemmas.Nat.{be_bytes_2, be_bytes_4, be_bytes_8, from_be_bytes-to_be_bytes_2}
use Rattle.std.proofs.lemmas.Nat.{from_be_bytes-to_be_bytes_4, from_be_bytes-to_be_bytes_8}
use Rattle.std.proofs.lemmas.Map.Text.{is_eq-slice_cmp}
use Rattle.std.proofs.lemmas.Slice.Eq.{bytes_eq-Decides}
use Rattle.std.proofs.lemmas.Cmp.{ranked}
use Rattle.std.specs.Ordering.{nat_cmp, ordering_then, is_eq}
use Rattle.std.specs.declared.cmp.Ordering.{Ordering}
use Rattle.std.specs.declared.cmp.Ordering.TheVariants.{Less, Equal, Greater}
use Rattle.vr_types.specs.BlockSize.{IsBlockSize}
use Rattle.vr_types.specs.Fields.{IsBytes, two, four, eight, two_at, four_at, eight_at, with_bytes}
use Rattle.vr_types.specs.Fields.{area_field, area_of, AreZeros, IsArea, padded}
use Rattle.vr_types.specs.Content.{place_cmp}
use Rattle.vr_types.specs.declared.lock_name.LockName.{LockName}
use Rattle.vr_types.specs.declared.lock_name.LockName.TheVariants.{Record, Unique}
use Rattle.vr_types.specs.LockName.{lock_name_cmp}
use Rattle.vr_types.specs.declared.unit.PartNo.{PartNo}
-- ---- runs of calls of blocks
pub use Rattle.vr_types.proofs.Runs.{during-weaken, during-none, during-then, each_since-then}
pub use Rattle.vr_types.proofs.Runs.{each_since-start, each_since-weaken}
pub use Rattle.vr_types.proofs.Runs.{guards-start, guards-keeps, guards-puts, guards-then}
pub use Rattle.vr_types.proofs.Runs.{guards-weaken}
pub use Rattle.vr_types.proofs.Runs.{only-keeps, only-elsewhere, only-here, only-forced}
pub use Rattle.vr_types.proofs.Runs.{only-weaken, only-image, also-here, also-elsewhere, cur-put}
pub use Rattle.vr_types.proofs.Runs.{cur-elsewhere, all-one, just-one}
pub use Rattle.vr_types.proofs.Runs.{keeps-none, keeps-then, keeps-puts, keeps-then-puts}
pub use Rattle.vr_types.proofs.Runs.{puts-then-keeps}
pub use Rattle.vr_types.proofs.Runs.{on-mine, both-hold, mine-stays, touches-then, touches-weaken}
pub use Rattle.vr_types.proofs.Runs.{touches-guards, puts-touches, keeps-touches}
pub use Rattle.vr_types.proofs.Runs.{cause-then, write_cause-then, cause-ok}

-- ---- sizes of blocks

-- no block is smaller than 512 bytes
pub block_size_least : (size : ℕ) → IsBlockSize size → 512 ≤ size
block_size_least size allowed = omega (arith, allowed.some, allowed.small)

-- an allowed size, as a multiple of one of the two steps
pub block_size_steps : (size : ℕ) → IsBlockSize size → ((size ≤ 8192) × (size % 512 ≡ 0))
    ⊎ ((size ≤ 32768) × (size % 2048 ≡ 0))
block_size_steps size allowed =
    elim (cases_lt 8192 size) [
      | inl above ↦ inr (allowed.most, allowed.large above)
      | inr below ↦ inl (below, allowed.small)
    ]

-- a multiple of one of the two steps is an allowed size
pub block_size_of_steps : (size : ℕ) → 0 < size → ((size ≤ 8192) × (size % 512 ≡ 0))
    ⊎ ((size ≤ 32768) × (size % 2048 ≡ 0)) → IsBlockSize size
block_size_of_steps size some steps =
    elim steps [
      | inl small ↦ record {
        some = some;
        most = omega (arith, small.0);
        small = small.1;
        large =
            λ above. absurd (omega (arith, small.0));
      }
      | inr large ↦ record {
        some = some;
        most = large.0;
        small = omega (arith, large.1);
        large =
            λ above. large.1;
      }
    ]

-- ---- bytes

-- bytes without the first ones are bytes
pub IsBytes-drop : (n : ℕ) (bytes : List ℕ) → IsBytes bytes → IsBytes (drop n bytes)
IsBytes-drop n bytes fits i = rw get_or-drop (fits (n + i))

-- the first ones of bytes are bytes
pub IsBytes-take : (n : ℕ) (bytes : List ℕ) → IsBytes bytes → IsBytes (take n bytes)
IsBytes-take n bytes fits i =
    elim (cases_lt i n) [
      | inl within ↦ rw (get_or-take n bytes i 0 within) (fits i)
      | inr past ↦ rw (get_or_past (take n bytes) i 0 (omega (arith, length-take n bytes)))
          (omega arith)
    ]

-- ---- fields, cut off a list of bytes

-- the bytes from a byte on are it and those after it
pub cut_one : (at : ℕ) (bytes : List ℕ) → at + 1 ≤ length bytes
    → drop at bytes ≡ get_or bytes at 0 ∷ drop (at + 1) bytes
cut_one at bytes within = drop_more bytes at 0 (omega arith)

-- the bytes from a byte on are a number of two bytes and those after it
pub cut_two : (at : ℕ) (bytes : List ℕ) → IsBytes bytes → at + 2 ≤ length bytes
    → drop at bytes ≡ two (two_at at bytes) ++ drop (at + 2) bytes
unfolding two two_at
cut_two at bytes fits within =
    let long : length (take 2 (drop at bytes)) ≡ 2 =
    omega (arith, length-take 2 (drop at bytes), length-drop at bytes) in
    let field : two (two_at at bytes) ≡ take 2 (drop at bytes) =
    be_bytes_2 (take 2 (drop at bytes)) (two_at at bytes) long
    (IsBytes-take 2 (drop at bytes) (IsBytes-drop at bytes fits)) refl in
    sym (take-append-drop 2 (drop at bytes))
    ∙ ap (λ (x : List ℕ). x ++ drop 2 (drop at bytes)) (sym field)
    ∙ ap (λ (x : List ℕ). two (two_at at bytes) ++ x) (drop-drop 2 at bytes)

-- or a number of four bytes and those after it
pub cut_four : (at : ℕ) (bytes : List ℕ) → IsBytes bytes → at + 4 ≤ length bytes
    → drop at bytes ≡ four (four_at at bytes) ++ drop (at + 4) bytes
unfolding four four_at
cut_four at bytes fits within =
    let long : length (take 4 (drop at bytes)) ≡ 4 =
    omega (arith, length-take 4 (drop at bytes), length-drop at bytes) in
    let field : four (four_at at bytes) ≡ take 4 (drop at bytes) =
    be_bytes_4 (take 4 (drop at bytes)) (four_at at bytes) long
    (IsBytes-take 4 (drop at bytes) (IsBytes-drop at bytes fits)) refl in
    sym (take-append-drop 4 (drop at bytes))
    ∙ ap (λ (x : List ℕ). x ++ drop 4 (drop at bytes)) (sym field)
    ∙ ap (λ (x : List ℕ). four (four_at at bytes) ++ x) (drop-drop 4 at bytes)

-- or a number of eight bytes and those after it
pub cut_eight : (at : ℕ) (bytes : List ℕ) → IsBytes bytes → at + 8 ≤ length bytes
    → drop at bytes ≡ eight (eight_at at bytes) ++ drop (at + 8) bytes
unfolding eight eight_at
cut_eight at bytes fits within =
    let long : length (take 8 (drop at bytes)) ≡ 8 =
    omega (arith, length-take 8 (drop at bytes), length-drop at bytes) in
    let field : eight (eight_at at bytes) ≡ take 8 (drop at bytes) =
    be_bytes_8 (take 8 (drop at bytes)) (eight_at at bytes) long
    (IsBytes-take 8 (drop at bytes) (IsBytes-drop at bytes fits)) refl in
    sym (take-append-drop 8 (drop at bytes))
    ∙ ap (λ (x : List ℕ). x ++ drop 8 (drop at bytes)) (sym field)
    ∙ ap (λ (x : List ℕ). eight (eight_at at bytes) ++ x) (drop-drop 8 at bytes)

-- fields have their lengths
pub length-two : (n : ℕ) → length (two n) ≡ 2
unfolding two
length-two n = refl

pub length-four : (n : ℕ) → length (four n) ≡ 4
unfolding four
length-four n = refl

pub length-eight : (n : ℕ) → length (eight n) ≡ 8
unfolding eight
length-eight n = refl

-- a number that begins the bytes is read there
pub two_at-two : (n : ℕ) (rest : List ℕ) → n < 2 ^ 16 → two_at 0 (two n ++ rest) ≡ n
unfolding two two_at
two_at-two n rest below = from_be_bytes-to_be_bytes_2 n below

pub four_at-four : (n : ℕ) (rest : List ℕ) → n < 2 ^ 32 → four_at 0 (four n ++ rest) ≡ n
unfolding four four_at
four_at-four n rest below = from_be_bytes-to_be_bytes_4 n below

pub eight_at-eight : (n : ℕ) (rest : List ℕ) → n < 2 ^ 64 → eight_at 0 (eight n ++ rest) ≡ n
unfolding eight eight_at
eight_at-eight n rest below = from_be_bytes-to_be_bytes_8 n below

-- what comes after a number that begins the bytes
pub drop-two : (n : ℕ) (rest : List ℕ) → drop 2 (two n ++ rest) ≡ rest
unfolding two
drop-two n rest = refl

pub drop-four : (n : ℕ) (rest : List ℕ) → drop 4 (four n ++ rest) ≡ rest
unfolding four
drop-four n rest = refl

pub drop-eight : (n : ℕ) (rest : List ℕ) → drop 8 (eight n ++ rest) ≡ rest
unfolding eight
drop-eight n rest = refl

-- a number that is read has room in its field
pub two_below : (at : ℕ) (bytes : List ℕ) → IsBytes bytes → two_at at bytes < 2 ^ 16
unfolding two_at
two_below at bytes fits =
    let field = IsBytes-take 2 (drop at bytes) (IsBytes-drop at bytes fits) in
    omega (arith, field 0, field 1)

pub four_below : (at : ℕ) (bytes : List ℕ) → IsBytes bytes → four_at at bytes < 2 ^ 32
unfolding four_at
four_below at bytes fits =
    let field = IsBytes-take 4 (drop at bytes) (IsBytes-drop at bytes fits) in
    omega (arith, field 0, field 1, field 2, field 3)

pub eight_below : (at : ℕ) (bytes : List ℕ) → IsBytes bytes → eight_at at bytes < 2 ^ 64
unfolding eight_at
eight_below at bytes fits =
    let field = IsBytes-take 8 (drop at bytes) (IsBytes-drop at bytes fits) in
    omega (arith, field 0, field 1, field 2, field 3, field 4, field 5, field 6, field 7)

-- a block keeps its length where bytes of it are replaced
pub length-with_bytes : (block : List ℕ) (at : ℕ) (bytes : List ℕ)
    → at + length bytes ≤ length block → length (with_bytes block at bytes) ≡ length block
length-with_bytes block at bytes within =
    omega (
      arith,
      length-append (take at block
          ++ bytes) (drop (at + length bytes) block),
      length-append (take at block) bytes,
      length-take at
          block,
      length-drop (at + length bytes) block,
    )

-- ---- fields that name an area

-- the area is read again
pub area_of-area_field : (area : Option ℕ) → area_of (area_field area) ≡ area
area_of-area_field None = refl
area_of-area_field (Some n) = rw add-one refl

-- and so is the field
pub area_field-area_of : (field : ℕ) → area_field (area_of field) ≡ field
area_field-area_of zero = refl
area_field-area_of (suc n) = rw add-one refl

-- a field names an area that has a field
pub IsArea-area_of : (field : ℕ) → field < 2 ^ 32 → IsArea (area_of field)
IsArea-area_of zero below = tt
IsArea-area_of (suc n) below = omega arith

-- the field of an area has room
pub area_field-below : (area : Option ℕ) → IsArea area → area_field area < 2 ^ 32
area_field-below None named = omega arith
area_field-below (Some n) named = named

-- ---- zeros

-- bytes that are zeros are known by their length
pub zeros_are : (bytes : List ℕ) → AreZeros bytes → bytes ≡ replicate (length bytes) 0
zeros_are [] zeros = refl
zeros_are (b ∷ bytes) zeros =
    let first : b ≡ 0 = All-head (λ (x : ℕ). x ≡ 0) b bytes zeros in
    let others : bytes ≡ replicate (length bytes) 0 =
    zeros_are bytes (All-tail (λ (x : ℕ). x ≡ 0) b bytes zeros) in
    ap (λ (x : ℕ). x ∷ bytes) first ∙ ap (λ (x : List ℕ). 0 ∷ x) others

-- the bytes from a byte on are zeros and those after them
pub cut_zeros : (n at : ℕ) (block : List ℕ) → at + n ≤ length block
    → AreZeros (take n (drop at block)) → drop at block ≡ replicate n 0 ++ drop (at + n) block
cut_zeros n at block within zeros =
    let long : length (take n (drop at block)) ≡ n =
    omega (arith, length-take n (drop at block), length-drop at block) in
    sym (take-append-drop n (drop at block))
    ∙ ap (λ (x : List ℕ). x ++ drop n (drop at block)) (zeros_are (take n (drop at block)) zeros
    ∙ ap (λ (m : ℕ). replicate m 0) long)
    ∙ ap (λ (x : List ℕ). replicate n 0 ++ x) (drop-drop n at block)

-- bytes with zeros up to a size have that size
pub length-padded : (size : ℕ) (bytes : List ℕ) → length bytes ≤ size
    → length (padded size bytes) ≡ size
length-padded size bytes within =
    let zeros : length (replicate {A = ℕ} (size - length bytes) 0) ≡ size - length bytes =
    length-replicate (size - length bytes) 0 in
    omega (arith, length-append bytes (replicate (size - length bytes) 0), zeros)

-- what comes after the bytes is zeros
pub zeros_after : (size : ℕ) (bytes : List ℕ) → AreZeros (drop (length bytes) (padded size bytes))
zeros_after size bytes =
    subst AreZeros (sym (drop_at bytes (replicate (size - length bytes) 0) (length bytes) refl))
    (All-replicate (λ (b : ℕ). b ≡ 0) (size - length bytes) 0 refl)

-- ---- order

-- places that compare as equal are the same
pub same_place : (one other : List ℕ) → place_cmp one other ≡ Equal → one ≡ other
same_place one other equal =
    (bytes_eq-Decides one other).0 (sym (is_eq-slice_cmp one other) ∙ ap is_eq equal)

both_equal : (first second : Ordering) → ordering_then first second ≡ Equal → (first ≡ Equal)
    × (second ≡ Equal)
both_equal Less second equal = absurd cc
both_equal Equal second equal = (refl, equal)
both_equal Greater second equal = absurd cc

same_number : (one other : ℕ) → nat_cmp one other ≡ Equal → one ≡ other
same_number one other equal = ranked one other Equal (sym equal)

same_part : (one other : PartNo) → one.0 ≡ other.0 → one ≡ other
same_part one other equal = ap (λ (n : ℕ). let part : PartNo = record { 0 = n } in part) equal

-- names of locks that compare as equal are the same
pub same_lock_name : (one other : LockName) → lock_name_cmp one other ≡ Equal → one ≡ other
same_lock_name (Record part place) (Record other to) equal =
    let parts = both_equal (nat_cmp part.0 other.0) (place_cmp place to) equal in
    let same : part ≡ other = same_part part other (same_number part.0 other.0 parts.0) in
    let places : place ≡ to = same_place place to parts.1 in
    cc
same_lock_name (Unique part place) (Unique other to) equal =
    let parts = both_equal (nat_cmp part.0 other.0) (place_cmp place to) equal in
    let same : part ≡ other = same_part part other (same_number part.0 other.0 parts.0) in
    let places : place ≡ to = same_place place to parts.1 in
    cc
same_lock_name (Record part place) (Unique other to) equal = absurd cc
same_lock_name (Unique part place) (Record other to) equal = absurd cc
