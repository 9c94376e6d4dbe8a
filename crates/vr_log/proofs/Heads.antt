-- The head of a block of the log, written and read again.
use Rattle.std.proofs.Common.{◌≡◌, ℕ, ◌+◌, ◌^◌, ◌<◌, List, ◌++◌, length, drop, refl, ap, ◌∙◌, arith}
use Rattle.std.proofs.Common.{◌-◌, ◌≤◌, replicate, sym, take}
use Rattle.std.proofs.lemmas.List.{append_assoc, drop-append-le, drop-drop, drop-take, length-drop}
use Rattle.std.proofs.lemmas.List.{length-take}
use Rattle.std.proofs.lemmas.Nat.{from_be_bytes-to_be_bytes_4, from_be_bytes-to_be_bytes_8}
use Rattle.vr_types.specs.Fields.{padded, four, eight, four_at, eight_at, with_bytes}
use Rattle.vr_log.specs.LogBlock.{generation_in, index_in, used_in, head_of}

pub headed : (block : List ℕ) (generation index used : ℕ)
    → with_bytes (with_bytes (with_bytes block 0 (eight generation)) 8 (four index)) 12 (four used)
    ≡ head_of generation index used ++ drop 16 block
unfolding four eight head_of
headed block generation index used =
    ap (λ (x : List ℕ). (eight generation ++ four index ++ four used)
    ++ x) (ap (λ (x : List ℕ). drop 4 x) (drop-drop 4 8 block) ∙ drop-drop 4 12 block)

pub generation-headed : (generation index used : ℕ) (rest : List ℕ) → generation < 2 ^ 64
    → generation_in (head_of generation index used ++ rest) ≡ generation
unfolding four eight eight_at head_of
generation-headed generation index used rest below = from_be_bytes-to_be_bytes_8 generation below

pub index-headed : (generation index used : ℕ) (rest : List ℕ) → index < 2 ^ 32
    → index_in (head_of generation index used ++ rest) ≡ index
unfolding four eight four_at head_of
index-headed generation index used rest below = from_be_bytes-to_be_bytes_4 index below

pub used-headed : (generation index used : ℕ) (rest : List ℕ) → used < 2 ^ 32
    → used_in (head_of generation index used ++ rest) ≡ used
unfolding four eight four_at head_of
used-headed generation index used rest below = from_be_bytes-to_be_bytes_4 used below

pub rest-headed : (generation index used : ℕ) (rest : List ℕ)
    → drop 16 (head_of generation index used ++ rest) ≡ rest
unfolding four eight head_of
rest-headed generation index used rest = refl

pub length-headed : (generation index used : ℕ) (rest : List ℕ)
    → length (head_of generation index used ++ rest) ≡ 16 + length rest
unfolding four eight head_of
length-headed generation index used rest = omega arith

-- bytes that are used, with a head before them and zeros after them
pub block-headed : (old : List ℕ) (generation index used : ℕ) → 16 + used ≤ length old
    → head_of generation index used
    ++ drop 16 (take (16 + used) old ++ replicate (length old - (16 + used)) 0)
    ≡ padded (length old) (head_of generation index used ++ take used (drop 16 old))
block-headed old generation index used within =
    let zeros : List ℕ = replicate (length old - (16 + used)) 0 in
    let bytes = take used (drop 16 old) in
    let long : length (head_of generation index used ++ bytes) ≡ 16 + used =
    omega (
      arith,
      length-headed generation index used bytes,
      length-take used (drop 16 old),
      length-drop 16 old,
      within,
    ) in
    ap (λ (x : List ℕ). head_of generation index used ++ x)
    (drop-append-le 16 (take (16 + used) old) zeros
    (omega (arith, length-take (16 + used) old, within))
    ∙ ap (λ (x : List ℕ). x ++ zeros) (drop-take 16 used old))
    ∙ sym (append_assoc (head_of generation index used) bytes zeros)
    ∙ ap (λ (n : ℕ). (head_of generation index used ++ bytes) ++ replicate (length old - n) 0)
    (sym long)

-- the same as a head, and what follows it
pub padded-headed : (size generation index used : ℕ) (bytes : List ℕ)
    → padded size (head_of generation index used ++ bytes)
    ≡ head_of generation index used
    ++ (bytes ++ replicate (size - length (head_of generation index used ++ bytes)) 0)
padded-headed size generation index used bytes =
    append_assoc (head_of generation index used) bytes
    (replicate (size - length (head_of generation index used ++ bytes)) 0)
