-- A block of a log that is put, and what its images then have.
use Rattle.std.proofs.Common.{◌≡◌, inl, inr, ℕ, ◌+◌, ◌*◌, ◌^◌, ◌<◌, ◌≤◌, Bool, IsTrue, true, false}
use Rattle.std.proofs.Common.{List, ◌++◌, length, take, drop, Some, refl, sym, ap, subst, ◌∙◌}
use Rattle.std.proofs.Common.{arith, ◌-◌, replicate, vec_len}
use Rattle.std.proofs.lemmas.List.{take_all, length-drop, take-append-le, drop-append-le}
use Rattle.std.proofs.lemmas.List.{length-append, take_at}
use Rattle.vr_types.specs.Geometry.{IsAllowed}
use Rattle.vr_types.specs.Image.{Block, Image, MayAlso}
use Rattle.vr_types.specs.Seen.{Seen}
use Rattle.vr_types.specs.Blocks.{Keeps, Puts}
use Rattle.vr_types.specs.Regions.{IsImageOn, Touches}
use Rattle.vr_types.specs.Fields.{AreZeros, padded}
use Rattle.vr_types.proofs.CallerLemmas.{puts-touches, keeps-touches, block_size_least, zeros_after}
use Rattle.vr_log.specs.declared.tail.Tail.{Tail}
use Rattle.vr_log.specs.Content.{Content}
use Rattle.vr_log.specs.LogBlock.{generation_in, index_in, used_in, payload_in, head_of, room_of}
use Rattle.vr_log.specs.LogNow.{LogNow}
use Rattle.vr_log.specs.Standing.{InLog, place_of, IsExact, open_index, Leaves, forced_length}
use Rattle.vr_log.specs.Writing.{IsPrefix, IsWriting, IsFound, block_of, log_during}
use Rattle.vr_log.proofs.Heads.{generation-headed, index-headed, used-headed, rest-headed}
use Rattle.vr_log.proofs.Heads.{length-headed, padded-headed}
use Rattle.vr_log.proofs.Leaving.{next-of, exact-left, leaves-put, leaves-fewer, found_of}

-- the block of a log that is written has all bytes of its place, and zeros
pub exact-block : (generation index used room size : ℕ) (written bytes block : List ℕ)
    → generation < 2 ^ 64 → index < 2 ^ 32 → used < 2 ^ 32
    → block ≡ padded size (head_of generation index used ++ bytes)
    → bytes ≡ drop (index * room) written → index * room + used ≡ length written
    → used ≤ room → IsExact room generation written index block
unfolding payload_in
exact-block generation index used room size written bytes block young low few made payload sum
    fits =
    let whole = head_of generation index used ++ bytes in
    let rest = bytes ++ replicate (size - length whole) 0 in
    let is : block ≡ head_of generation index used ++ rest =
    made ∙ padded-headed size generation index used bytes in
    let in_generation : generation_in block ≡ generation = ap generation_in is
    ∙ generation-headed generation index used rest young in
    let in_index : index_in block ≡ index = ap index_in is
    ∙ index-headed generation index used rest low in
    let in_used : used_in block ≡ used = ap used_in is
    ∙ used-headed generation index used rest few in
    let after : drop 16 block ≡ rest = ap (λ (x : List ℕ). drop 16 x) is
    ∙ rest-headed generation index used rest in
    let short : length (drop (index * room) written) ≤ room =
    omega (arith, length-drop (index * room) written, sum, fits) in
    let long : length bytes ≡ used =
    omega (arith, ap length payload, length-drop (index * room) written, sum) in
    let head_long : 16 + used ≡ length whole =
    omega (arith, length-headed generation index used bytes, long) in
    let place : place_of room written index ≡ drop (index * room) written =
    take_all room (drop (index * room) written) short in
    record {
      next = next-of generation index block in_generation in_index;
      used = omega (arith, in_used, ap length place, length-drop (index * room) written, sum);
      payload = ap (λ (n : ℕ). take n (drop 16 block)) in_used
          ∙ ap (λ (x : List ℕ). take used x) after
          ∙ take_at bytes (replicate (size - length whole) 0) used long ∙ payload ∙ sym place;
      zeros = subst AreZeros
          (sym (ap (λ (n : ℕ). drop (16 + n) block) in_used
          ∙ ap (λ (n : ℕ). drop n block) head_long
          ∙ ap (λ (x : List ℕ). drop (length whole) x) made))
          (zeros_after size whole);
    }

-- a place that is full has the same bytes where more follow
place-full : (room index : ℕ) (written more : List ℕ) → (index + 1) * room ≤ length written
    → place_of room written index ≡ place_of room (written ++ more) index
place-full room index written more full =
    let n = index * room in
    let within : n ≤ length written = omega (arith, full) in
    let enough : room ≤ length (drop n written) = omega (arith, full, length-drop n written) in
    sym (ap (λ (x : List ℕ). take room x) (drop-append-le n written more within)
    ∙ take-append-le room (drop n written) more enough)

pub exact-more : (room generation index : ℕ) (written total : List ℕ) (block : Block)
    → IsPrefix written total → (index + 1) * room ≤ length written
    → IsExact room generation written index block → IsExact room generation total index block
exact-more room generation index written total block prefix full exact =
    let same : place_of room written index ≡ place_of room total index =
    place-full room index written prefix.0 full
    ∙ ap (λ (x : List ℕ). place_of room x index) prefix.1 in
    record {
      next = exact.next;
      used = exact.used ∙ ap length same;
      payload = exact.payload ∙ same;
      zeros = exact.zeros;
    }

-- an image of the log once its first block was forced is one of the log
during-found : (log : LogNow) (total : List ℕ) (image : Image) (begun : Bool)
    → IsFound (log_during log begun) total image → IsFound log total image
during-found log total image false found = found
during-found log total image true (inl (older, is, spelled)) = absurd cc
during-found log total image true (inr has) =
    inr (record {
      generation = has.generation;
      first = has.first;
      fits = has.fits;
      prefix =
          has.prefix;
      least = has.least;
    })

during-begun : (log : LogNow) (begun : Bool)
    → ((older : Content) → log.behind ≡ Some older
    → open_index log * room_of log.geometry ≤ forced_length log)
    → (older : Content) → (log_during log begun).behind ≡ Some older
    → open_index log * room_of log.geometry ≤ forced_length log
during-begun log false begun older is = begun older is
during-begun log true begun older is = absurd cc

pub during-open : (log : LogNow) (begun : Bool) (index : ℕ)
    → (begun ≡ false → index ≡ open_index log) → (older : Content)
    → (log_during log begun).behind ≡ Some older → index ≡ open_index log
during-open log false index opened older is = opened refl
during-open log true index opened older is = absurd cc

-- sizes of a log that is written
pub log-room : (log : LogNow) → IsAllowed log.geometry → 496 ≤ room_of log.geometry
log-room log allowed = omega (arith, block_size_least log.geometry.size allowed.size)

pub log-inside : (log : LogNow) → IsAllowed log.geometry → log.geometry.log < log.geometry.blocks
log-inside log allowed = omega (arith, allowed.two_areas)

module _ (told : Bool) (is_told : IsTrue told) (log : LogNow) (total written : List ℕ) (tail : Tail)
    (a : Seen) (w : IsWriting log total written tail told a) (prefix : IsPrefix written total) where
  abbrev During : LogNow
  During = log_during log tail.begun

  total-long : length written ≤ length total
  total-long = omega (arith, ap length prefix.1, length-append written prefix.0)

  -- each image of what may be left has what the log needs
  pub found-left : (may : ℕ → Block → Type 0) (image : Image)
      → Leaves (log_during log tail.begun) total a.count may
      → IsImageOn (InLog log.geometry) a.count may image → IsFound log total image
  found-left may image leaves on =
      let inside : log.geometry.log < a.count =
      omega (arith, log-inside log w.allowed, w.shape.count) in
      let least : forced_length log ≤ log.geometry.log * room_of log.geometry =
      omega (arith, w.stable, total-long, w.most) in
      during-found log total image tail.begun
      (found_of During total a.count may image leaves w.allowed.some_log inside least on
      (during-begun log tail.begun (w.begun is_told)) (omega (arith, log-room log w.allowed)))

  -- the block is put
  module _ (block : Block) (b : Seen) (is : block ≡ block_of tail)
      (put : Puts told (1 + tail.index) block a b) where
    pub exact : IsExact (room_of log.geometry) log.generation written tail.index block
    exact =
        let small : tail.index < 2 ^ 32 = omega (arith, w.buffer.index, w.allowed.most_log) in
        let few : tail.used < 2 ^ 32 = omega (arith, w.buffer.fits, w.allowed.size.most) in
        subst (λ (g : ℕ). IsExact (room_of log.geometry) g written tail.index block) w.generation
        (exact-block tail.generation tail.index tail.used (room_of log.geometry)
        (vec_len tail.block) written (take tail.used (drop 16 tail.block.items)) block
        (omega (arith, w.generation, w.young)) small few is
        w.buffer.payload w.buffer.used w.buffer.fits)

    inside : log.geometry.log < a.count
    inside = omega (arith, log-inside log w.allowed, w.shape.count)

    pub left-put : Leaves (log_during log tail.begun) total a.count
        (MayAlso a.may (1 + tail.index) block)
    left-put =
        leaves-put During total a.count tail.index a.may block w.buffer.index inside exact.next
        (exact-left During written total tail.index block prefix w.stable exact) w.some
        (during-open log tail.begun tail.index w.opened) (w.leaves is_told)

    pub touches-put : Touches (InLog log.geometry) (IsFound log total) a b
    touches-put =
        let in_log : InLog log.geometry (1 + tail.index) =
        (omega arith, omega (arith, w.buffer.index)) in
        puts-touches told (InLog log.geometry) (IsFound log total) (1 + tail.index) block a b
        is_told in_log put
        (λ image on. found-left (MayAlso a.may (1 + tail.index) block) image left-put on)

    pub left-now : Leaves (log_during log tail.begun) total b.count b.may
    left-now =
        subst (λ (n : ℕ). Leaves (log_during log tail.begun) total n b.may) (sym put.count_same)
        (leaves-fewer During total a.count (MayAlso a.may (1 + tail.index) block) b.may inside
        (λ n x below may. put.adds is_told n x below may) w.allowed.some_log left-put)

  -- nothing is put
  pub touches-kept : (b : Seen) → Keeps told a b
      → Touches (InLog log.geometry) (IsFound log total) a b
  touches-kept b kept =
      keeps-touches told (InLog log.geometry) (IsFound log total) a b is_told kept
      (λ image on. found-left a.may image (w.leaves is_told) on)
