-- Numbers as they stand in the bytes of a block, high byte first. The fields are this project's
-- own.
use Rattle.std.specs.Prelude.{◌≡◌, ℕ, zero, suc, ◌+◌, ◌-◌, ◌^◌, ◌<◌, List, ◌++◌, length, take, drop}
use Rattle.std.specs.Prelude.{replicate, All, Option, Some, None, IfSome, slice_index}
use Rattle.std.specs.Int.{w16, w32, w64, to_be_bytes, from_be_bytes}

-- each element is a byte
abbrev pub IsBytes : List ℕ → Type 0
IsBytes bytes = (i : ℕ) → slice_index bytes i < 256

-- a number in two bytes, in four and in eight
unfoldable pub two : ℕ → List ℕ
two n = to_be_bytes w16 n

unfoldable pub four : ℕ → List ℕ
four n = to_be_bytes w32 n

unfoldable pub eight : ℕ → List ℕ
eight n = to_be_bytes w64 n

-- the number at a byte
unfoldable pub two_at : ℕ → List ℕ → ℕ
two_at at bytes = from_be_bytes w16 (take 2 (drop at bytes))

unfoldable pub four_at : ℕ → List ℕ → ℕ
four_at at bytes = from_be_bytes w32 (take 4 (drop at bytes))

unfoldable pub eight_at : ℕ → List ℕ → ℕ
eight_at at bytes = from_be_bytes w64 (take 8 (drop at bytes))

-- the block with these bytes from a byte on
abbrev pub with_bytes : List ℕ → ℕ → List ℕ → List ℕ
with_bytes block at bytes = take at block ++ bytes ++ drop (at + length bytes) block

-- a field that names an area has its number and 1, or 0 for none
abbrev pub area_field : Option ℕ → ℕ
area_field None = 0
area_field (Some area) = area + 1

abbrev pub area_of : ℕ → Option ℕ
area_of zero = None
area_of (suc area) = Some area

-- there is a field for it
abbrev pub IsArea : Option ℕ → Type 0
IsArea area = IfSome area (λ n. n + 1 < 2 ^ 32)

abbrev pub AreZeros : List ℕ → Type 0
AreZeros bytes = All (λ b. b ≡ 0) bytes

-- zeros up to the end of the block
abbrev pub padded : ℕ → List ℕ → List ℕ
padded size bytes = bytes ++ replicate (size - length bytes) 0
