-- Bytes that are copied into the last block of a log.
use Rattle.std.proofs.Common.{◌≡◌, ℕ, ◌+◌, ◌*◌, ◌≤◌, Bool, List, ◌++◌, length, take, drop, vec_len}
use Rattle.std.proofs.Common.{sym, ap, subst, ◌∙◌, arith}
use Rattle.std.proofs.lemmas.List.{append_assoc, take-append-drop, take_at, drop-append-le}
use Rattle.std.proofs.lemmas.List.{length-append, length-take, length-drop, drop-take}
use Rattle.vr_types.specs.Seen.{Seen}
use Rattle.vr_log.specs.declared.tail.Tail.{Tail}
use Rattle.vr_log.specs.LogBlock.{room_of}
use Rattle.vr_log.specs.LogNow.{LogNow}
use Rattle.vr_log.specs.Standing.{Leaves}
use Rattle.vr_log.specs.Writing.{IsPrefix, IsWriting, log_during}

-- the bytes of records in a block to which bytes were copied
pub filled : (used : ℕ) (block x : List ℕ) (after : List ℕ) → 16 + used ≤ length block
    → take (used + length x) (drop 16 (take (16 + used) block ++ x
    ++ after)) ≡ take used (drop 16 block) ++ x
filled used block x after within =
    let front : length (take (16 + used) block) ≡ 16 + used =
    omega (arith, length-take (16 + used) block, within) in
    let head : drop 16 (take (16 + used) block) ≡ take used (drop 16 block) =
    drop-take 16 used block in
    let one : drop 16 (take (16 + used) block ++ x ++ after) ≡ (take used (drop 16 block) ++ x)
    ++ after =
    drop-append-le 16 (take (16 + used) block
    ++ x) after (omega (arith, front, length-append (take (16 + used) block) x))
    ∙ ap (λ (y : List ℕ). y
    ++ after) (drop-append-le 16 (take (16 + used) block) x (omega (arith, front))
    ∙ ap (λ (y : List ℕ). y ++ x) head) in
    let long : length (take used (drop 16 block) ++ x) ≡ used + length x =
    omega (
      arith,
      length-append (take used (drop 16 block)) x,
      length-take used (drop 16 block),
      length-drop 16 block,
      within,
    ) in
    ap (λ (y : List ℕ). take (used + length x) y) one
    ∙ take_at (take used (drop 16 block) ++ x) after (used + length x) long

-- a part of the bytes is a prefix too
pub part-prefix : (written bytes total : List ℕ) (count : ℕ) → IsPrefix (written ++ bytes) total
    → IsPrefix (written ++ take count bytes) total
part-prefix written bytes total count (rest, is) = (
  drop count bytes ++ rest,
  sym (append_assoc (written ++ take count bytes) (drop count bytes) rest)
      ∙ ap (λ (x : List ℕ). x ++ rest) (append_assoc written (take count bytes) (drop count bytes)
      ∙ ap (λ (x : List ℕ). written ++ x) (take-append-drop count bytes)) ∙ is,
)

pub fill_kept : (told : Bool) (log : LogNow) (total written bytes : List ℕ) (count : ℕ)
    (tail next : Tail) (a : Seen) → IsWriting log total written tail told a → count ≤ length bytes
    → tail.used + count ≤ room_of log.geometry
    → next.generation ≡ tail.generation → next.blocks ≡ tail.blocks → next.index ≡ tail.index
    → next.used ≡ tail.used + count → next.begun ≡ tail.begun
    → vec_len next.block ≡ vec_len tail.block
    → next.block.items ≡ take (16 + tail.used) tail.block.items ++ take count bytes
    ++ drop (16 + tail.used + count) tail.block.items → 16 + tail.used ≤ length tail.block.items
    → IsWriting log total (written ++ take count bytes) next told a
fill_kept told log total written bytes count tail next a w below fits same_generation same_blocks
    same_index more same_begun same_size block within =
    let room = room_of log.geometry in
    let x = take count bytes in
    let long : length x ≡ count = omega (arith, length-take count bytes, below) in
    let used_is : next.used ≡ tail.used + length x = omega (arith, more, long) in
    let payload : take (tail.used + length x) (drop 16 next.block.items) ≡ take tail.used
    (drop 16 tail.block.items) ++ x =
    ap (λ (y : List ℕ). take (tail.used + length x) (drop 16 y)) block
    ∙ filled tail.used tail.block.items x (drop (16 + tail.used + count) tail.block.items)
    within in
    record {
      allowed = w.allowed;
      shape = w.shape;
      generation = same_generation ∙ w.generation;
      young = w.young;
      buffer = record {
        size = same_size ∙ w.buffer.size;
        blocks = same_blocks ∙ w.buffer.blocks;
        index = omega (arith, same_index, w.buffer.index);
        used = ap (λ (n : ℕ). n * room + next.used) same_index
            ∙ omega (arith, used_is, w.buffer.used, length-append written x);
        fits = omega (arith, more, fits);
        payload = ap (λ (n : ℕ). take n (drop 16 next.block.items)) used_is ∙ payload
            ∙ ap (λ (y : List ℕ). y ++ x) w.buffer.payload
            ∙ sym (drop-append-le (tail.index * room) written x (omega (arith, w.buffer.used)))
            ∙ ap (λ (n : ℕ). drop (n * room) (written ++ x)) (sym same_index);
      };
      opened = λ not. same_index ∙ w.opened (sym same_begun ∙ not);
      behind = λ not. w.behind (sym same_begun ∙ not);
      stable = omega (arith, w.stable, length-append written x);
      some = w.some;
      most = w.most;
      begun = w.begun;
      leaves = λ t. subst (λ (flag : Bool). Leaves (log_during log flag) total a.count a.may)
          (sym same_begun) (w.leaves t);
      current = λ t index under from. w.current t index (omega (arith, under, same_index)) from;
    }
