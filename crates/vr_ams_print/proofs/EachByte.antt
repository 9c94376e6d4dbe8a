-- The chunks of a record have each of its bytes once.
use Rattle.std.proofs.Common.{◌≡◌, ℕ, zero, suc, ◌+◌, ◌*◌, ◌<◌, List, [], map, take, length}
use Rattle.std.proofs.Common.{sym, ap, ◌∙◌, subst, arith}
use Rattle.std.specs.Int.{div_ceil}
use Rattle.std.specs.List.{range_with_len}
use Rattle.std.proofs.Math.Seq.{take-add}
use Rattle.std.proofs.lemmas.Grind.{div_ceil_times}
use Rattle.std.proofs.lemmas.List.{take_all}
use Rattle.vr_amsparse.specs.declared.command.PrintForm.{PrintForm}
use Rattle.vr_amsparse.specs.declared.command.PrintForm.TheVariants.{Character, Hex, Dump}
use Rattle.vr_ams_print.specs.Lines.{Chunk, chunk_at, chunks_of, joined, line_size}
use Rattle.vr_ams_print.proofs.Numbered.{joined_more}

-- those of the first n chunks
abbrev first : ℕ → List ℕ → ℕ → List ℕ
first size bytes n = joined (map (chunk_at size bytes) (range_with_len 0 n))

-- one chunk more takes a size more
one_more : (size : ℕ) (bytes : List ℕ) (n : ℕ) → first size bytes n ≡ take (n * size) bytes
    → first size bytes (n + 1) ≡ take ((n + 1) * size) bytes
one_more size bytes n is = sym
    (joined_more (λ (chunk : Chunk). chunk.bytes) (chunk_at size bytes) n []
    (take (n * size) bytes) (take ((n + 1) * size) bytes) (sym is)
    (ap (λ k. take k bytes) wider ∙ take-add (n * size) size bytes))
  where
    wider : (n + 1) * size ≡ n * size + size
    wider = omega arith

first_is : (size : ℕ) (bytes : List ℕ) (n : ℕ) → first size bytes n ≡ take (n * size) bytes
first_is size bytes zero =
    let none : 0 ≡ 0 * size = omega arith in ap (λ k. take k bytes) none
first_is size bytes (suc n) =
    let next : n + 1 ≡ suc n = omega arith in
    subst (λ k. first size bytes k ≡ take (k * size) bytes) next
    (one_more size bytes n (first_is size bytes n))

each_byte : (size : ℕ) (bytes : List ℕ) → 0 < size → joined (chunks_of size bytes) ≡ bytes
each_byte size bytes some =
    first_is size bytes (div_ceil (length bytes) size)
    ∙ take_all (div_ceil (length bytes) size * size) bytes
    (div_ceil_times (length bytes) size some).0

pub each_byte_in : (form : PrintForm) (bytes : List ℕ)
    → joined (chunks_of (line_size form) bytes) ≡ bytes
each_byte_in Character bytes = each_byte 120 bytes (omega arith)
each_byte_in Hex bytes = each_byte 60 bytes (omega arith)
each_byte_in Dump bytes = each_byte 16 bytes (omega arith)
