-- Bytes that stand on the blocks, passed over.
use Rattle.std.proofs.Common.{◌≡◌, ℕ, ◌+◌, ◌*◌, ◌<◌, ◌≤◌, List, [], ◌++◌, length, take, drop}
use Rattle.std.proofs.Common.{vec_len, sym, ap, subst, ◌∙◌, arith}
use Rattle.std.proofs.lemmas.List.{append-nil, append_assoc, take-append-drop, drop-append-le}
use Rattle.std.proofs.lemmas.List.{drop_all, length-append, length-take}
use Rattle.vr_types.specs.declared.geometry.Geometry.{Geometry}
use Rattle.vr_log.specs.declared.tail.Tail.{Tail}
use Rattle.vr_log.specs.LogBlock.{room_of}
use Rattle.vr_log.specs.Memory.{IsTail}
use Rattle.vr_log.proofs.Filling.{filled}

-- after bytes were copied into the block
pub tail_filled : (geometry : Geometry) (written bytes : List ℕ) (count : ℕ) (tail next : Tail)
    → IsTail geometry written tail → count ≤ length bytes → tail.used + count ≤ room_of geometry
    → next.blocks ≡ tail.blocks → next.index ≡ tail.index → next.used ≡ tail.used + count
    → vec_len next.block ≡ vec_len tail.block
    → next.block.items ≡ take (16 + tail.used) tail.block.items ++ take count bytes
    ++ drop (16 + tail.used + count) tail.block.items → 16 + tail.used ≤ length tail.block.items
    → IsTail geometry (written ++ take count bytes) next
tail_filled geometry written bytes count tail next t below fits same_blocks same_index more
    same_size block within =
    let room = room_of geometry in
    let x = take count bytes in
    let long : length x ≡ count = omega (arith, length-take count bytes, below) in
    let used_is : next.used ≡ tail.used + length x = omega (arith, more, long) in
    let payload : take (tail.used + length x) (drop 16 next.block.items) ≡ take tail.used
    (drop 16 tail.block.items) ++ x =
    ap (λ (y : List ℕ). take (tail.used + length x) (drop 16 y)) block
    ∙ filled tail.used tail.block.items x (drop (16 + tail.used + count) tail.block.items)
    within in
    record {
      size = same_size ∙ t.size;
      blocks = same_blocks ∙ t.blocks;
      index = omega (arith, same_index, t.index);
      used = ap (λ (n : ℕ). n * room + next.used) same_index
          ∙ omega (arith, used_is, t.used, length-append written x);
      fits = omega (arith, more, fits);
      payload = ap (λ (n : ℕ). take n (drop 16 next.block.items)) used_is ∙ payload
          ∙ ap (λ (y : List ℕ). y ++ x) t.payload
          ∙ sym (drop-append-le (tail.index * room) written x (omega (arith, t.used)))
          ∙ ap (λ (n : ℕ). drop (n * room) (written ++ x)) (sym same_index);
    }

-- after the next block was begun
pub tail_turned : (geometry : Geometry) (written : List ℕ) (tail next : Tail)
    → IsTail geometry written tail → tail.used ≡ room_of geometry → tail.index + 1 < geometry.log
    → next.blocks ≡ tail.blocks → vec_len next.block ≡ vec_len tail.block
    → next.index ≡ tail.index + 1 → next.used ≡ 0 → IsTail geometry written next
tail_turned geometry written tail next t full below same_blocks same_size at empty =
    let room = room_of geometry in
    let whole : (tail.index + 1) * room ≡ length written = omega (arith, t.used, full) in
    record {
      size = same_size ∙ t.size;
      blocks = same_blocks ∙ t.blocks;
      index = omega (arith, at, below);
      used = omega (arith, whole, ap (λ (n : ℕ). n * room) at, empty);
      fits = omega (arith, empty);
      payload = ap (λ (n : ℕ). take n (drop 16 next.block.items)) empty
          ∙ sym (drop_all (next.index * room) written
          (omega (arith, whole, ap (λ (n : ℕ). n * room) at)));
    }

-- what the bytes passed so far make of the buffer
abbrev pub Passes : List ℕ → List ℕ → Tail → Tail → Type 0
Passes bytes rest start tail = (geometry : Geometry) (written : List ℕ)
    → IsTail geometry written start → (done : List ℕ) × (done ++ rest ≡ bytes)
    × IsTail geometry (written ++ done) tail

pub passes-more : (bytes rest : List ℕ) (start tail next : Tail) (count : ℕ)
    → Passes bytes rest start tail
    → ((geometry : Geometry) (written : List ℕ) → IsTail geometry written tail
    → IsTail geometry (written ++ take count rest) next) → Passes bytes (drop count rest) start next
passes-more bytes rest start tail next count passes step geometry written t =
    let so_far = passes geometry written t in (
      so_far.0 ++ take count rest,
      append_assoc so_far.0 (take count rest) (drop count rest)
          ∙ ap (λ (x : List ℕ). so_far.0 ++ x) (take-append-drop count rest) ∙ so_far.1,
      subst (λ (x : List ℕ). IsTail geometry x next)
          (append_assoc written so_far.0 (take count rest)) (step geometry (written
          ++ so_far.0) so_far.2),
    )

pub passes-all : (bytes rest : List ℕ) (start tail : Tail) → Passes bytes rest start tail
    → rest ≡ [] → (geometry : Geometry) (written : List ℕ) → IsTail geometry written start
    → IsTail geometry (written ++ bytes) tail
passes-all bytes rest start tail passes none geometry written t =
    let so_far = passes geometry written t in
    let whole : so_far.0 ≡ bytes = sym (append-nil so_far.0)
    ∙ ap (λ (x : List ℕ). so_far.0 ++ x) (sym none) ∙ so_far.1 in
    subst (λ (x : List ℕ). IsTail geometry (written ++ x) tail) whole so_far.2
