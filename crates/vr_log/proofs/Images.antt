-- What an image spells of a log, from what each block of it may be.
use Rattle.std.proofs.Common.{◌≡◌, ◌⊎◌, inl, inr, ⊎_elim, ℕ, zero, suc, ◌+◌, ◌-◌, ◌*◌, ◌<◌, ◌≤◌}
use Rattle.std.proofs.Common.{Bool, true, false, List, [], ◌∷◌, ◌++◌, length, take, drop, nat_eq}
use Rattle.std.proofs.Common.{nat_le, refl, sym, ap, subst, ◌∙◌, arith, eqb-true, eq-eqb}
use Rattle.std.proofs.Common.{true≢false}
use Rattle.std.proofs.lemmas.Bool.{cases_lt, le-leb}
use Rattle.std.proofs.lemmas.List.{append-nil, append_assoc, take-append-drop, drop-drop}
use Rattle.std.proofs.lemmas.List.{length-append, length-take, length-drop, take-take}
use Rattle.std.proofs.lemmas.List.{take-append-le, drop-append-le}
use Rattle.vr_types.specs.Image.{Block, Image, block_at}
use Rattle.vr_log.specs.LogBlock.{used_in, payload_in, is_next}
use Rattle.vr_log.specs.Spells.{joined, bytes_from, Fits}
use Rattle.vr_log.specs.Standing.{place_of, IsWithin, Reaches, IsExact}
use Rattle.vr_log.specs.Writing.{IsPrefix}

abbrev Payload : Bool → List ℕ → List ℕ → ℕ → Type 0
Payload next payload place used = next ≡ true → (used ≤ length place) × (payload ≡ take used place)

prefix-step : (payload rest d : List ℕ) (room used : ℕ) (next fits full : Bool)
    → Payload next payload (take room d) used → (full ≡ true → used ≡ room)
    → IsPrefix rest (drop room d) → IsPrefix (joined next fits full payload rest) d
prefix-step payload rest d room used false fits full has is_full tail = (d, refl)
prefix-step payload rest d room used true false full has is_full tail = (d, refl)
prefix-step payload rest d room used true true false has is_full tail =
    let h = has refl in
    let within : used ≤ room = omega (arith, h.0, length-take room d) in
    let is : payload ≡ take used d = h.1 ∙ take-take used room d within in (
      drop used d,
      ap (λ (x : List ℕ). x ++ drop used d) (append-nil payload ∙ is)
          ∙ take-append-drop used d,
    )
prefix-step payload rest d room used true true true has is_full tail =
    let h = has refl in
    let within : used ≤ room = omega (arith, h.0, length-take room d) in
    let is : payload ≡ take room d = h.1 ∙ take-take used room d within
    ∙ ap (λ (n : ℕ). take n d) (is_full refl) in (
      tail.0,
      append_assoc payload rest tail.0 ∙ ap (λ (x : List ℕ). payload ++ x) tail.1
          ∙ ap (λ (x : List ℕ). x ++ drop room d) is ∙ take-append-drop room d,
    )

-- an image's bytes are a prefix of the log's
pub prefix-of : (room generation index left : ℕ) (image : Image) (total : List ℕ)
    → ((i : ℕ) → index ≤ i → i < index + left
    → IsWithin room generation total i (block_at image (1 + i)))
    → IsPrefix (bytes_from room generation index left image) (drop (index * room) total)
prefix-of room generation index zero image total each = (drop (index * room) total, refl)
prefix-of room generation index (suc left) image total each =
    let block = block_at image (1 + index) in
    let here = each index (omega arith) (omega arith) in
    let tail : IsPrefix (bytes_from room generation (index + 1) left image)
    (drop ((index + 1) * room) total) =
    prefix-of room generation (index + 1) left image total
    (λ i from to. each i (omega (arith, from)) (omega (arith, to))) in
    let further : drop ((index + 1) * room) total ≡ drop room (drop (index * room) total) =
    ap (λ (n : ℕ). drop n total) (omega arith) ∙ sym (drop-drop room (index * room) total) in
    prefix-step (payload_in block) (bytes_from room generation (index + 1) left image)
    (drop (index * room) total) room (used_in block) (is_next generation index block)
    (nat_le (used_in block) room) (nat_eq (used_in block) room)
    (λ next. (here.used next, here.payload next)) (λ full. eqb-true (used_in block) room full)
    (subst (λ (x : List ℕ). IsPrefix (bytes_from room generation (index + 1) left image) x)
    further tail)

-- each block that goes on has room for what it uses, and zeros past that
pub fits-of : (room generation index left : ℕ) (image : Image) (total : List ℕ)
    → ((i : ℕ) → index ≤ i → i < index + left
    → IsWithin room generation total i (block_at image (1 + i)))
    → Fits room generation index left image
fits-of room generation index zero image total each = tt
fits-of room generation index (suc left) image total each =
    let here = each index (omega arith) (omega arith) in
    λ next. (
      omega (arith, here.used next, length-take room (drop (index * room) total)),
      here.zeros next,
      λ full.
          fits-of room generation (index + 1) left image total
          (λ i from to. each i (omega (arith, from)) (omega (arith, to))),
    )

least-step : (count before room used : ℕ) (payload rest : List ℕ) (next fits full : Bool)
    → next ≡ true → fits ≡ true → (used ≡ room → full ≡ true) → length payload ≡ used
    → (count ≤ before + used) ⊎ (used ≡ room) → count ≤ before + room + length rest
    → count ≤ before + length (joined next fits full payload rest)
least-step count before room used payload rest false fits full next is fulls long some tail =
    absurd (true≢false (sym next))
least-step count before room used payload rest true false full next is fulls long some tail =
    absurd (true≢false (sym is))
least-step count before room used payload rest true true true next is fulls long some tail =
    ⊎_elim (λ enough. omega (arith, enough, long, length-append payload rest))
    (λ whole. omega (arith, whole, long, tail, length-append payload rest)) some
least-step count before room used payload rest true true false next is fulls long some tail =
    ⊎_elim (λ enough. omega (arith, enough, long, length-append payload []))
    (λ whole. absurd (true≢false (sym (fulls whole)))) some

-- an image has at least the bytes that each block has
pub least-of : (room generation index left count : ℕ) (image : Image) (total : List ℕ)
    → ((i : ℕ) → index ≤ i → i < index + left
    → IsWithin room generation total i (block_at image (1 + i)))
    → ((i : ℕ) → index ≤ i → i < index + left → i * room < count
    → Reaches room generation count i (block_at image (1 + i))) → count ≤ (index + left) * room
    → count ≤ index * room + length (bytes_from room generation index left image)
least-of room generation index zero count image total each reaches most = omega (arith, most)
least-of room generation index (suc left) count image total each reaches most =
    let block = block_at image (1 + index) in
    let here = each index (omega arith) (omega arith) in
    let rest = bytes_from room generation (index + 1) left image in
    elim (cases_lt (index * room) count) [
      | inl some ↦
          let has = reaches index (omega arith) (omega arith) some in
          let below : used_in block ≤ room =
          omega (arith, here.used has.next, length-take room (drop (index * room) total)) in
          let long : length (payload_in block) ≡ used_in block = ap length (here.payload has.next)
          ∙ length-take (used_in block) (place_of room total index)
          ∙ omega (arith, here.used has.next) in
          let tail : count ≤ (index + 1) * room + length rest =
          least-of room generation (index + 1) left count image total
          (λ i from to. each i (omega (arith, from)) (omega (arith, to)))
          (λ i from to. reaches i (omega (arith, from)) (omega (arith, to)))
          (omega (arith, most)) in
          least-step count (index * room) room (used_in block) (payload_in block) rest
          (is_next generation index block) (nat_le (used_in block) room)
          (nat_eq (used_in block) room) has.next (le-leb (used_in block) room below)
          (λ whole. eq-eqb (used_in block) room whole) long has.used (omega (arith, tail))
      | inr none ↦ omega (arith, none)
    ]

-- a place has no fewer bytes where more bytes follow
pub place-more : (room index : ℕ) (bytes more : List ℕ)
    → length (place_of room bytes index) ≤ length (place_of room (bytes ++ more) index)
place-more room index bytes more =
    omega (
      arith,
      length-take room (drop (index * room) bytes),
      length-take room
          (drop (index * room) (bytes
          ++ more)),
      length-drop (index * room) bytes,
      length-drop (index * room) (bytes
          ++ more),
      length-append bytes more,
    )

pub place-same : (room index used : ℕ) (bytes more : List ℕ)
    → used ≤ length (place_of room bytes index)
    → take used (place_of room bytes index) ≡ take used (place_of room (bytes ++ more) index)
place-same room index used bytes more below =
    let n = index * room in
    let long : length (place_of room bytes index) ≤ length bytes - n =
    omega (arith, length-take room (drop n bytes), length-drop n bytes) in
    let small : used ≤ room = omega (arith, below, length-take room (drop n bytes)) in
    elim (cases_lt (length bytes) n) [
      | inl past ↦ let none : used ≡ 0 = omega (arith, below, long, past) in
          ap (λ (u : ℕ). take u (place_of room bytes index)) none
          ∙ ap (λ (u : ℕ). take u (place_of room (bytes ++ more) index)) (sym none)
      | inr within ↦
          take-take used room (drop n bytes) small
          ∙ sym (take-append-le used (drop n bytes) more
          (omega (arith, below, long, length-drop n bytes)))
          ∙ ap (λ (x : List ℕ). take used x) (sym (drop-append-le n bytes more within))
          ∙ sym (take-take used room (drop n (bytes ++ more)) small)
    ]

pub within-more : (room generation index : ℕ) (bytes total : List ℕ) (block : Block)
    → IsPrefix bytes total → IsWithin room generation bytes index block
    → IsWithin room generation total index block
within-more room generation index bytes total block prefix within =
    subst (λ (x : List ℕ). IsWithin room generation x index block) prefix.1 (record {
      used = λ next. omega (arith, within.used next, place-more room index bytes prefix.0);
      payload = λ next. within.payload next
          ∙ place-same room index (used_in block) bytes prefix.0 (within.used next);
      zeros = within.zeros;
    })

pub take-whole : (xs : List ℕ) → take (length xs) xs ≡ xs
take-whole [] = refl
take-whole (x ∷ xs) = ap (λ (ys : List ℕ). x ∷ ys) (take-whole xs)

-- a block that has all bytes of its place has a prefix of it
pub exact-within : (room generation index : ℕ) (bytes : List ℕ) (block : Block)
    → IsExact room generation bytes index block → IsWithin room generation bytes index block
exact-within room generation index bytes block exact = record {
  used = λ next. omega (arith, exact.used);
  payload = λ next. exact.payload
      ∙ sym (ap (λ (u : ℕ). take u (place_of room bytes index)) exact.used
      ∙ take-whole (place_of room bytes index));
  zeros = λ next. exact.zeros;
}

-- and reaches as far as they go
pub exact-reaches : (room generation index count : ℕ) (bytes : List ℕ) (block : Block)
    → count ≤ length bytes → index * room < count → IsExact room generation bytes index block
    → Reaches room generation count index block
exact-reaches room generation index count bytes block most some exact =
    let long = length-take room (drop (index * room) bytes) in
    let rest = length-drop (index * room) bytes in
    record {
      next = exact.next;
      used = ⊎_elim
          (λ (short : length bytes - index * room < room). inl
          (omega (arith, exact.used, long, rest, short, most, some)))
          (λ (whole : room ≤ length bytes - index * room). inr
          (omega (arith, exact.used, long, rest, whole)))
          (cases_lt (length bytes - index * room) room);
    }
