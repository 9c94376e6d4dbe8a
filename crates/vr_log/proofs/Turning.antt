-- A block of a log that is full, and the one after it; and the last block of a record.
use Rattle.std.proofs.Common.{◌≡◌, ⊎_elim, ℕ, ◌+◌, ◌*◌, ◌<◌, ◌≤◌, Bool, IsTrue, true, false, List}
use Rattle.std.proofs.Common.{◌++◌, length, take, drop, slice_set, Some, vec_len, refl, sym, ap}
use Rattle.std.proofs.Common.{subst, ◌∙◌, arith, true≢false, ◌-◌, replicate}
use Rattle.std.proofs.Math.Nat.{mul-le-mul_right}
use Rattle.std.proofs.lemmas.Bool.{cases_lt, cases_eq}
use Rattle.std.proofs.lemmas.List.{drop_all, length-drop, take_at}
use Rattle.vr_types.specs.Image.{Block, Image, block_at}
use Rattle.vr_types.specs.Seen.{Seen, Only}
use Rattle.vr_types.specs.Blocks.{Keeps, Puts}
use Rattle.vr_types.proofs.CallerLemmas.{cur-put, cur-elsewhere}
use Rattle.vr_log.specs.declared.tail.Tail.{Tail}
use Rattle.vr_log.specs.Content.{Content}
use Rattle.vr_log.specs.LogBlock.{is_next, head_of, room_of}
use Rattle.vr_log.specs.LogNow.{LogNow}
use Rattle.vr_log.specs.Standing.{IsExact, IsLeft, open_index, Leaves, forced_length}
use Rattle.vr_log.specs.Writing.{IsPrefix, IsWriting, IsCurrent, block_of, log_during}
use Rattle.vr_log.proofs.Heads.{padded-headed, rest-headed}
use Rattle.vr_log.proofs.Leaving.{exact-left, leaves-fewer, positive}
use Rattle.vr_log.proofs.Putting.{exact-more, log-room, log-inside, exact, left-now}

-- the multiples of a number are in order
between : (i n room : ℕ) → n ≤ i → i * room < (n + 1) * room → i ≡ n
between i n room above under =
    ⊎_elim (λ (more : n < i). absurd (omega (
      arith,
      under,
      mul-le-mul_right {m = n + 1} {n =
          i} room (omega (arith, more)),
    ))) (λ (most : i ≤ n). omega (arith, above, most)) (cases_lt n i)

-- where the last block has no bytes, those before it have all
pub current-none : (told : Bool) (log : LogNow) (total : List ℕ) (tail : Tail) (a : Seen)
    → IsWriting log total total tail told a → tail.used ≡ 0 → IsTrue told → IsCurrent log total a
current-none told log total tail a w empty is_told index some from =
    let room = room_of log.geometry in
    w.current is_told index
    (⊎_elim (λ (below : index < tail.index). below)
    (λ (above : tail.index ≤ index). absurd
    (omega (
      arith,
      some,
      w.buffer.used,
      empty,
      mul-le-mul_right {m = tail.index} {n =
          index} room above,
    ))) (cases_lt index tail.index)) from

left-during : (log : LogNow) (total : List ℕ) (index : ℕ) (block : Block)
    → IsLeft log total index block → IsLeft (log_during log true) total index block
left-during log total index block left = record { within = left.within; reaches = left.reaches }

-- the block in which the log was begun is forced
pub leaves-settled : (log : LogNow) (total : List ℕ) (count index : ℕ) (may now : ℕ → Block
    → Type 0) (new : Block) (begun : Bool) → log.geometry.log < count → 1 ≤ log.geometry.log
    → ((n : ℕ) (block : Block) → n < count → now n block → may n block)
    → IsLeft log total index new → is_next log.generation index new ≡ true
    → (begun ≡ false → index ≡ open_index log)
    → (begun ≡ false → (block : Block) → now (1 + index) block → block ≡ new)
    → 0 < room_of log.geometry
    → (begun ≡ false → open_index log * room_of log.geometry ≤ forced_length log)
    → (begun ≡ false → (older : Content) × (log.behind ≡ Some older))
    → Leaves (log_during log begun) total count may → Leaves (log_during log true) total count now
leaves-settled log total count index may now new true within some fewer left next opened only roomy
    least behind leaves =
    leaves-fewer (log_during log true) total count may now within fewer some leaves
leaves-settled log total count index may now new false within some fewer left next opened only roomy
    least behind leaves =
    let q = open_index log in
    let here : index ≡ q = opened refl in
    let closed : (at : ℕ) (block : Block) → at < log.geometry.log → (at ≡ q → ⊥)
    → now (1 + at) block → IsLeft log total at block =
    λ at block below other is. leaves.each at block below (λ unforced. other unforced.2)
    (fewer (1 + at) block (omega (arith, below, within)) is) in
    record {
      young = λ at block below is. leaves.young at block below
          (fewer (1 + at) block (omega (arith, below, within)) is);
      each = λ at block below unforced is. left-during log total at block (⊎_elim
          (λ (same : at ≡ q). let at_is : at ≡ index = same ∙ sym here in
          let block_is : block ≡ new =
          only refl block (subst (λ (n : ℕ). now (1 + n) block) at_is is) in
          subst (λ (n : ℕ). IsLeft log total n block) (sym at_is)
          (subst (λ (b : Block). IsLeft log total index b) (sym block_is) left))
          (λ (other : at ≡ q → ⊥). closed at block below other is) (cases_eq at q));
      first = λ none block is. ⊎_elim
          (λ (same : 0 ≡ q). let at_is : 0 ≡ index = same ∙ sym here in
          let block_is : block ≡ new =
          only refl block (subst (λ (n : ℕ). now (1 + n) block) at_is is) in
          subst (λ (n : ℕ). is_next log.generation n block ≡ true) (sym at_is)
          (subst (λ (b : Block). is_next log.generation index b ≡ true) (sym block_is) next))
          (λ (other : 0 ≡ q
          → ⊥). ((closed 0 block some other is).reaches
          (positive q (room_of log.geometry) (forced_length log) other roomy
          (least refl))).next) (cases_eq 0 q);
      older = λ older is. absurd cc;
    }

module _ (told : Bool) (log : LogNow) (total written : List ℕ) (tail : Tail) (a : Seen)
    (w : IsWriting log total written tail told a) (prefix : IsPrefix written total)
    (block : Block) (b : Seen) (is : block ≡ block_of tail)
    (put : Puts told (1 + tail.index) block a b)
    (long : IsTrue told → length a.cur ≡ a.count) (put_ok : IsTrue told
    → b.cur ≡ slice_set a.cur (1 + tail.index) block) where
  here : 1 + tail.index < a.count
  here = omega (arith, log-inside log w.allowed, w.shape.count, w.buffer.index)

  pub cur-here : IsTrue told → block_at b.cur (1 + tail.index) ≡ block
  cur-here is_told = cur-put a (1 + tail.index) block here (long is_told) b.cur (put_ok is_told)

  pub cur-other : IsTrue told → (index : ℕ) → index < tail.index
      → block_at b.cur (1 + index) ≡ block_at a.cur (1 + index)
  cur-other is_told index below =
      cur-elsewhere told a b (1 + index) (1 + tail.index) block is_told
      (λ same. absurd (omega (arith, same, below))) put

  exact-of : IsTrue told → (index : ℕ) → index < tail.index
      → forced_length log < (index + 1) * room_of log.geometry
      → IsExact (room_of log.geometry) log.generation total index (block_at b.cur (1 + index))
  exact-of is_told index below some =
      subst (λ (x : Block). IsExact (room_of log.geometry) log.generation total index x)
      (sym (cur-other is_told index below)) (w.current is_told index below some)

  -- after a put of the last block of all bytes
  pub current-put : IsTrue told → written ≡ total → IsCurrent log total b
  current-put is_told whole index some from = ⊎_elim
      (λ (below : index < tail.index). exact-of is_told index below from)
      (λ (above : tail.index ≤ index).
      let room = room_of log.geometry in
      let under : index * room < (tail.index + 1) * room =
      omega (arith, some, ap length whole, w.buffer.used, w.buffer.fits) in
      let same : index ≡ tail.index = between index tail.index room above under in
      subst (λ (n : ℕ). IsExact room log.generation total n (block_at b.cur (1 + n))) (sym same)
      (subst (λ (x : Block). IsExact room log.generation total tail.index x)
      (sym (cur-here is_told))
      (subst (λ (bytes : List ℕ). IsExact room log.generation bytes tail.index block) whole
      (exact told is_told log total written tail a w prefix block b is put))))
      (cases_lt index tail.index)

  -- after the block was forced, where it was that in which the log was begun, and the next one was
  -- begun
  pub turned : (c : Seen) (next : Tail) → Keeps told b c
      → (IsTrue told → tail.begun ≡ false
      → Only c (1 + tail.index) (λ x. x ≡ block_at b.cur (1 + tail.index)))
      → tail.used ≡ room_of log.geometry → tail.index + 1 < log.geometry.log
      → next.generation ≡ tail.generation → next.blocks ≡ tail.blocks
      → vec_len next.block ≡ vec_len tail.block → next.index ≡ tail.index + 1 → next.used ≡ 0
      → next.begun ≡ true
      → IsWriting log total written next told c
  turned c next kept only full below same_generation same_blocks same_size at empty begun =
      let room = room_of log.geometry in
      let whole : (tail.index + 1) * room ≡ length written = omega (arith, w.buffer.used, full) in
      let x = λ (is_told : IsTrue told). exact told is_told log total written tail a w prefix block
      b is put in
      let within : log.geometry.log < b.count =
      omega (arith, log-inside log w.allowed, w.shape.count, put.count_same) in
      record {
        allowed = w.allowed;
        shape = record {
          count = kept.count_same ∙ put.count_same ∙ w.shape.count;
          size =
              kept.size_same ∙ put.size_same ∙ w.shape.size;
        };
        generation = same_generation ∙ w.generation;
        young = w.young;
        buffer = record {
          size = same_size ∙ w.buffer.size;
          blocks = same_blocks ∙ w.buffer.blocks;
          index = omega (arith, at, below);
          used = omega (arith, whole, ap (λ (n : ℕ). n * room) at, empty);
          fits = omega (arith, empty);
          payload = ap (λ (n : ℕ). take n (drop 16 next.block.items)) empty
              ∙ sym (drop_all (next.index * room) written
              (omega (arith, whole, ap (λ (n : ℕ). n * room) at)));
        };
        opened = λ not. absurd (true≢false (sym begun ∙ not));
        behind = λ not. absurd (true≢false (sym begun ∙ not));
        stable = w.stable;
        some = w.some;
        most = w.most;
        begun = w.begun;
        leaves = λ is_told. subst
            (λ (flag : Bool). Leaves (log_during log flag) total c.count c.may) (sym begun)
            (subst (λ (n : ℕ). Leaves (log_during log true) total n c.may) (sym kept.count_same)
            (leaves-settled log total b.count tail.index b.may c.may block tail.begun within
            w.allowed.some_log (λ n y inside may. kept.adds_none is_told n y inside may)
            (exact-left log written total tail.index block prefix w.stable (x is_told))
            (x is_told).next w.opened (λ not y may. only is_told not y may
            ∙ cur-here is_told) (omega (arith, log-room log w.allowed))
            (λ not. w.begun is_told (w.behind not).0 (w.behind not).1) w.behind
            (left-now told is_told log total written tail a w prefix block b is put)));
        current = λ is_told index under from. subst
            (λ (image : Image). IsExact room log.generation total index
            (block_at image (1 + index))) (sym (kept.content is_told)) (⊎_elim
            (λ (less : index < tail.index). exact-of is_told index less from)
            (λ (above : tail.index ≤ index).
            let same : index ≡ tail.index = omega (arith, above, under, at) in
            subst (λ (n : ℕ). IsExact room log.generation total n (block_at b.cur (1 + n)))
            (sym same)
            (subst (λ (y : Block). IsExact room log.generation total tail.index y)
            (sym (cur-here is_told))
            (exact-more room log.generation tail.index written total block prefix
            (omega (arith, whole)) (x is_told))))
            (cases_lt index tail.index));
      }

  -- the bytes used stay in the buffer
  used-kept : take tail.used (drop 16 (block_of tail)) ≡ take tail.used (drop 16 tail.block.items)
  used-kept =
      let bytes = take tail.used (drop 16 tail.block.items) in
      let zeros : List ℕ = replicate (vec_len tail.block
      - length (head_of tail.generation tail.index tail.used ++ bytes)) 0 in
      let long : length bytes ≡ tail.used =
      omega (
        arith,
        ap length w.buffer.payload,
        length-drop (tail.index * room_of log.geometry) written,
        w.buffer.used,
      ) in
      ap (λ (x : List ℕ). take tail.used (drop 16 x))
      (padded-headed (vec_len tail.block) tail.generation tail.index tail.used bytes)
      ∙ ap (λ (x : List ℕ). take tail.used x)
      (rest-headed tail.generation tail.index tail.used (bytes ++ zeros))
      ∙ take_at bytes zeros tail.used long

  -- after a put alone
  pub put-kept : (next : Tail) → next.generation ≡ tail.generation → next.blocks ≡ tail.blocks
      → next.index ≡ tail.index → next.used ≡ tail.used → next.begun ≡ tail.begun
      → next.block.items ≡ block → vec_len next.block ≡ vec_len tail.block
      → IsWriting log total written next told b
  put-kept next same_generation same_blocks same_index same_used same_begun same_block same_size =
      let room = room_of log.geometry in
      record {
        allowed = w.allowed;
        shape = record {
          count = put.count_same ∙ w.shape.count;
          size = put.size_same
              ∙ w.shape.size;
        };
        generation = same_generation ∙ w.generation;
        young = w.young;
        buffer = record {
          size = same_size ∙ w.buffer.size;
          blocks = same_blocks ∙ w.buffer.blocks;
          index = omega (arith, same_index, w.buffer.index);
          used = ap (λ (n : ℕ). n * room + next.used) same_index
              ∙ ap (λ (n : ℕ). tail.index * room + n) same_used ∙ w.buffer.used;
          fits = omega (arith, same_used, w.buffer.fits);
          payload = ap (λ (n : ℕ). take n (drop 16 next.block.items)) same_used
              ∙ ap (λ (x : List ℕ). take tail.used (drop 16 x)) (same_block ∙ is)
              ∙ used-kept ∙ w.buffer.payload
              ∙ ap (λ (n : ℕ). drop (n * room) written) (sym same_index);
        };
        opened = λ not. same_index ∙ w.opened (sym same_begun ∙ not);
        behind = λ not. w.behind (sym same_begun ∙ not);
        stable = w.stable;
        some = w.some;
        most = w.most;
        begun = w.begun;
        leaves = λ is_told. subst
            (λ (flag : Bool). Leaves (log_during log flag) total b.count b.may) (sym same_begun)
            (left-now told is_told log total written tail a w prefix block b is put);
        current = λ is_told index under from. exact-of is_told index
            (omega (arith, under, same_index)) from;
      }
