-- The bytes of a header, as they are put and as they are read.
use Rattle.std.proofs.Common.{◌≡◌, ℕ, ◌+◌, ◌-◌, ◌*◌, ◌/◌, ◌%◌, ◌^◌, ◌<◌, ◌≤◌, List, [], ◌∷◌, ◌++◌}
use Rattle.std.proofs.Common.{get_or, length, take, drop, refl, sym, ap, subst, ◌∙◌, arith}
use Rattle.std.proofs.Common.{replicate}
use Rattle.std.proofs.Common.{true, Some, lit<}
use Rattle.std.specs.Int.{w32, to_be_bytes}
use Rattle.std.proofs.lemmas.List.{take-append-drop, take_at, length-append, length-drop}
use Rattle.std.specs.Prelude.{nat_le, bytes_eq}
use Rattle.std.proofs.lemmas.Bool.{le-leb}
use Rattle.std.proofs.lemmas.Slice.Eq.{bytes_eq-Decides}
use Rattle.std.proofs.lemmas.Nat.{from_be_bytes-to_be_bytes_4}
use Rattle.vr_types.specs.Fields.{four, four_at, AreZeros, padded}
use Rattle.vr_types.specs.Geometry.{IsAllowed}
use Rattle.vr_types.specs.declared.geometry.Geometry.{Geometry}
use Rattle.vr_types.proofs.CallerLemmas.{block_size_least, zeros_are, zeros_after}
use Rattle.vr_attach.specs.Header.{header_block, header_bytes, mark}
use Rattle.vr_mount.specs.Header.{IsHeaderOf, stated, version_in}

pub header_cells : (g : Geometry) (number tens ones : ℕ) (s b l a : List ℕ)
    → s ≡ to_be_bytes w32 g.size → b ≡ to_be_bytes w32 g.blocks → l ≡ to_be_bytes w32 g.log
    → a ≡ to_be_bytes w32 g.area → tens ≡ 48 + number / 10 % 10 → ones ≡ 48 + number % 10
    → 86 ∷ 82 ∷ 77 ∷ 86 ∷ 0 ∷ 0 ∷ 0 ∷ 1 ∷ get_or s 0 0 ∷ get_or s 1 0 ∷ get_or s 2 0 ∷ get_or s 3
    0 ∷ get_or b 0 0 ∷ get_or b 1 0 ∷ get_or b 2 0 ∷ get_or b 3 0 ∷ get_or l 0 0 ∷ get_or l 1
    0 ∷ get_or l 2 0 ∷ get_or l 3 0 ∷ get_or a 0 0 ∷ get_or a 1 0 ∷ get_or a 2 0 ∷ get_or a 3
    0 ∷ 86 ∷ 79 ∷ 76 ∷ tens ∷ ones ∷ 32 ∷ [] ≡ header_bytes g number
unfolding four
header_cells g number tens ones s b l a s-is b-is l-is a-is tens-is ones-is =
    rw (s-is, b-is, l-is, a-is, tens-is, ones-is) refl

header_length : (g : Geometry) (number : ℕ) → length (header_bytes g number) ≡ 30
unfolding four
header_length g number = refl

-- a block is a header exactly where its first bytes are the header's, and the others zeros
pub header_made : (g : Geometry) (number : ℕ) (block : List ℕ) → length block ≡ g.size
    → take 30 block ≡ header_bytes g number → AreZeros (drop 30 block)
    → block ≡ header_block g number
unfolding header_block four
header_made g number block size used zeros =
    let free : drop 30 block ≡ replicate (g.size - 30) 0 =
    zeros_are (drop 30 block) zeros
    ∙ ap (λ (m : ℕ). replicate m 0) (length-drop 30 block ∙ ap (λ (m : ℕ). m - 30) size) in
    sym (take-append-drop 30 block) ∙ ap (λ (x : List ℕ). x ++ drop 30 block) used
    ∙ ap (λ (x : List ℕ). header_bytes g number ++ x) free

pub header_used : (g : Geometry) (number : ℕ) (block : List ℕ) → block ≡ header_block g number
    → take 30 block ≡ header_bytes g number
unfolding header_block
header_used g number block same =
    ap (λ (x : List ℕ). take 30 x) same
    ∙ take_at (header_bytes g number) (replicate (g.size - length (header_bytes g number)) 0) 30
    (header_length g number)

pub header_free : (g : Geometry) (number : ℕ) (block : List ℕ) → block ≡ header_block g number
    → AreZeros (drop 30 block)
unfolding header_block
header_free g number block same =
    subst (λ (x : List ℕ). AreZeros (drop 30 x)) (sym same)
    (subst (λ (m : ℕ). AreZeros (drop m (padded g.size (header_bytes g number))))
    (header_length g number) (zeros_after g.size (header_bytes g number)))

-- ---- what a header says

pub size_read : (g : Geometry) (number : ℕ) → g.size < 2 ^ 32
    → four_at 8 (header_block g number) ≡ g.size
unfolding header_block four four_at
size_read g number below = from_be_bytes-to_be_bytes_4 g.size below

pub blocks_read : (g : Geometry) (number : ℕ) → g.blocks < 2 ^ 32
    → four_at 12 (header_block g number) ≡ g.blocks
unfolding header_block four four_at
blocks_read g number below = from_be_bytes-to_be_bytes_4 g.blocks below

pub log_read : (g : Geometry) (number : ℕ) → g.log < 2 ^ 32
    → four_at 16 (header_block g number) ≡ g.log
unfolding header_block four four_at
log_read g number below = from_be_bytes-to_be_bytes_4 g.log below

pub area_read : (g : Geometry) (number : ℕ) → g.area < 2 ^ 32
    → four_at 20 (header_block g number) ≡ g.area
unfolding header_block four four_at
area_read g number below = from_be_bytes-to_be_bytes_4 g.area below

shape_with : ℕ → ℕ → ℕ → ℕ → Geometry
shape_with size blocks log area =
    record { size = size; blocks = blocks; log = log; area = area }

-- shapes of the same numbers are the same
pub same_shape : (one other : Geometry) → one.size ≡ other.size → one.blocks ≡ other.blocks
    → one.log ≡ other.log → one.area ≡ other.area → one ≡ other
unfolding shape_with
same_shape one other size blocks log area =
    ap (λ (n : ℕ). shape_with n one.blocks one.log one.area) size
    ∙ ap (λ (n : ℕ). shape_with other.size n one.log one.area) blocks
    ∙ ap (λ (n : ℕ). shape_with other.size other.blocks n one.area) log
    ∙ ap (λ (n : ℕ). shape_with other.size other.blocks other.log n) area

-- a block is the header of the shape that it states alone
pub header_states : (count number : ℕ) (block : List ℕ) (g : Geometry)
    → IsHeaderOf count (length block) number block g → g ≡ stated count block
header_states count number block g is =
    same_shape g (stated count block) is.size_is is.blocks_are
    (sym (log_read g number (omega (arith, is.allowed.most_log)))
    ∙ ap (λ (x : List ℕ). four_at 16 x) (sym is.bytes))
    (sym (area_read g number (omega (arith, is.allowed.most_intervals)))
    ∙ ap (λ (x : List ℕ). four_at 20 x) (sym is.bytes))

size_below : (g : Geometry) → IsAllowed g → g.size < 2 ^ 32
size_below g allowed = omega (arith, allowed.size.most)

blocks_below : (size blocks : ℕ) → 1 ≤ size → size * blocks ≤ 2 ^ 31 → blocks < 2 ^ 32
blocks_below size blocks some most = grind arith

-- a header is that of one shape alone
pub one_shape : (one other : Geometry) (number to : ℕ) → IsAllowed one → IsAllowed other
    → header_block one number ≡ header_block other to → one ≡ other
one_shape one other number to allowed may same =
    let first : 512 ≤ one.size = block_size_least one.size allowed.size in
    let second : 512 ≤ other.size = block_size_least other.size may.size in
    same_shape one other
    (sym (size_read one number (size_below one allowed))
    ∙ ap (λ (x : List ℕ). four_at 8 x) same ∙ size_read other to (size_below other may))
    (sym (blocks_read one number (blocks_below one.size one.blocks (omega arith) allowed.bytes))
    ∙ ap (λ (x : List ℕ). four_at 12 x) same
    ∙ blocks_read other to (blocks_below other.size other.blocks (omega arith) may.bytes))
    (sym (log_read one number (omega (arith, allowed.most_log)))
    ∙ ap (λ (x : List ℕ). four_at 16 x) same
    ∙ log_read other to (omega (arith, may.most_log)))
    (sym (area_read one number (omega (arith, allowed.most_intervals)))
    ∙ ap (λ (x : List ℕ). four_at 20 x) same
    ∙ area_read other to (omega (arith, may.most_intervals)))

tens_read : (g : Geometry) (number : ℕ)
    → get_or (header_block g number) 27 0 ≡ 48 + number / 10 % 10
unfolding header_block four
tens_read g number = refl

ones_read : (g : Geometry) (number : ℕ) → get_or (header_block g number) 28 0 ≡ 48 + number % 10
unfolding header_block four
ones_read g number = refl

-- and of one number
pub one_number : (one other : Geometry) (number to : ℕ) → number ≤ 99 → to ≤ 99
    → header_block one number ≡ header_block other to → number ≡ to
one_number one other number to least most same =
    let tens : 48 + number / 10 % 10 ≡ 48 + to / 10 % 10 =
    sym (tens_read one number) ∙ ap (λ (x : List ℕ). get_or x 27 0) same ∙ tens_read other to in
    let ones : 48 + number % 10 ≡ 48 + to % 10 =
    sym (ones_read one number) ∙ ap (λ (x : List ℕ). get_or x 28 0) same ∙ ones_read other to in
    omega arith

version_by : (block : List ℕ) → nat_le 8 (length block) ≡ true → bytes_eq (take 4 block) mark ≡ true
    → four_at 4 block ≡ 1 → version_in block ≡ Some 1
version_by block long marked version = rw (long, marked, version) refl

long_header : (g : Geometry) (number : ℕ) → 8 ≤ length (header_block g number)
unfolding header_block
long_header g number =
    omega (
      arith,
      header_length g number,
      length-append (header_bytes g number)
          (replicate (g.size - length (header_bytes g number)) 0),
    )

-- a header states version 1
pub version_stated : (g : Geometry) (number : ℕ) → version_in (header_block g number) ≡ Some 1
unfolding header_block four four_at
version_stated g number =
    version_by (header_block g number) (le-leb 8 (length (header_block g number)) (long_header g number))
    ((bytes_eq-Decides (take 4 (header_block g number)) mark).1 refl)
    (from_be_bytes-to_be_bytes_4 1 (lit< tt))
