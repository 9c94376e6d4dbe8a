-- A log that is made of what its blocks spell stands on them.
use Rattle.std.proofs.Common.{◌≡◌, inl, inr, ⊎_elim, ℕ, zero, suc, ◌+◌, ◌-◌, ◌*◌, ◌/◌, ◌^◌, ◌<◌, ◌≤◌}
use Rattle.std.proofs.Common.{Bool, true, false, List, [], ◌++◌, length, take, drop, Some, None}
use Rattle.std.proofs.Common.{min, max, nat_eq, nat_le, refl, sym, ap, subst, ◌∙◌, arith, All}
use Rattle.std.proofs.Common.{eqb-true}
use Rattle.std.proofs.Math.Nat.{mul-le-mul_right}
use Rattle.std.proofs.lemmas.Bool.{cases_lt, leb-true, eqb-false}
use Rattle.std.proofs.lemmas.List.{append-nil, length-append, length-take, length-drop, take_all}
use Rattle.std.proofs.lemmas.List.{drop_all, take_at, drop_at, drop-drop, take-append-le}
use Rattle.std.proofs.lemmas.List.{drop-append-le}
use Rattle.vr_types.specs.Fields.{AreZeros}
use Rattle.vr_types.specs.Geometry.{IsAllowed}
use Rattle.vr_types.specs.Image.{Block, Image, block_at}
use Rattle.vr_types.specs.LogSpace.{log_size}
use Rattle.vr_types.specs.Seen.{Seen}
use Rattle.vr_types.specs.declared.geometry.Geometry.{Geometry}
use Rattle.vr_log.specs.Content.{Content}
use Rattle.vr_log.specs.Damage.{IsFull}
use Rattle.vr_log.specs.Live.{live_in, used_by}
use Rattle.vr_log.specs.LogBlock.{generation_in, index_in, used_in, payload_in, rest_in, is_next}
use Rattle.vr_log.specs.LogBlock.{room_of}
use Rattle.vr_log.specs.LogNow.{LogNow, IsOf, made, IsBehind}
use Rattle.vr_log.specs.Records.{bytes_of, HasFields, SpellsRecords}
use Rattle.vr_log.specs.Spells.{joined, bytes_from, log_bytes, Fits, Spells, SpellsNone}
use Rattle.vr_log.specs.Standing.{InLog, place_of, IsExact, IsLeft, LogStands, open_index}
use Rattle.vr_log.specs.Standing.{forced_length, IsSettled, EndsThere}
use Rattle.vr_log.specs.declared.record.LogRecord.{LogRecord}
use Rattle.vr_log.proofs.Codec.{All-none}
use Rattle.vr_log.proofs.Gathered.{full-bytes}
use Rattle.vr_log.proofs.Leaving.{exact-left, next-has}
use Rattle.vr_log.proofs.Putting.{log-room, log-inside}
use Rattle.vr_log.proofs.Unique.{zeros-generation}

-- ---- the same blocks spell the same

bytes-same : (room generation index left : ℕ) (image other : Image)
    → ((i : ℕ) → index ≤ i → i < index + left → block_at other (1 + i) ≡ block_at image (1 + i))
    → bytes_from room generation index left other ≡ bytes_from room generation index left image
bytes-same room generation index zero image other same = refl
bytes-same room generation index (suc left) image other same =
    let here = same index (omega arith) (omega arith) in
    let rest = bytes-same room generation (index + 1) left image other
    (λ i from to. same i (omega (arith, from)) (omega (arith, to))) in
    let join = λ (b : Block) (r : List ℕ). joined (is_next generation index b)
    (nat_le (used_in b) room) (nat_eq (used_in b) room) (payload_in b) r in
    ap (λ (b : Block). join b (bytes_from room generation (index + 1) left other)) here
    ∙ ap (λ (r : List ℕ). join (block_at image (1 + index)) r) rest

fits-same : (room generation index left : ℕ) (image other : Image)
    → ((i : ℕ) → index ≤ i → i < index + left → block_at other (1 + i) ≡ block_at image (1 + i))
    → Fits room generation index left image → Fits room generation index left other
fits-same room generation index zero image other same fits = tt
fits-same room generation index (suc left) image other same fits =
    let here = same index (omega arith) (omega arith) in
    λ next.
    let has = fits (subst (λ (b : Block). is_next generation index b ≡ true) here next) in (
      subst (λ (b : Block). used_in b ≤ room) (sym here) has.0,
      subst (λ (b : Block). AreZeros (rest_in b)) (sym here) has.1,
      λ full. fits-same room generation (index + 1) left image other
          (λ i from to. same i (omega (arith, from)) (omega (arith, to)))
          (has.2 (subst (λ (b : Block). used_in b ≡ room) here full)),
    )

pub spells-same : (geometry : Geometry) (image other : Image) (content : Content)
    → 1 ≤ geometry.log
    → ((i : ℕ) → i < geometry.log → block_at other (1 + i) ≡ block_at image (1 + i))
    → Spells geometry image content → Spells geometry other content
spells-same geometry image other content some same (inl none) =
    inl (record { zeros = subst AreZeros (sym (same 0 some)) none.zeros; none = none.none })
spells-same geometry image other content some same (inr log) =
    let each = λ (i : ℕ) (from : 0 ≤ i) (to : i < 0 + geometry.log). same i (omega (arith, to)) in
    inr (record {
      generation = ap generation_in (same 0 some) ∙ log.generation;
      some = log.some;
      below = log.below;
      first = ap index_in (same 0 some) ∙ log.first;
      fits = fits-same (room_of geometry) content.generation 0 geometry.log image other each
          log.fits;
      records = subst (λ (l : List ℕ). SpellsRecords l content.records)
          (sym (bytes-same (room_of geometry) content.generation 0 geometry.log image other each))
          log.records;
      room = log.room;
    })

-- ---- the payload of a block

payload-short : (block : Block) → length (payload_in block) ≤ used_in block
unfolding payload_in
payload-short block = omega (arith, length-take (used_in block) (drop 16 block))

payload-long : (room : ℕ) (block : Block) → used_in block ≡ room → 16 + room ≤ length block
    → length (payload_in block) ≡ room
unfolding payload_in
payload-long room block used long =
    omega (arith, length-take (used_in block) (drop 16 block), length-drop 16 block, used, long)

join-full : (next fits full : Bool) (used room : ℕ) (payload rest : List ℕ) → 0 < room
    → (fits ≡ true → used ≤ room) → (full ≡ false → used ≡ room → ⊥) → length payload ≤ used
    → room ≤ length (joined next fits full payload rest) → (next ≡ true) × (full ≡ true)
join-full false fits full used room payload rest some roomy part short long =
    absurd (omega (arith, some, long))
join-full true false full used room payload rest some roomy part short long =
    absurd (omega (arith, some, long))
join-full true true true used room payload rest some roomy part short long = (refl, refl)
join-full true true false used room payload rest some roomy part short long =
    absurd (part refl (omega (arith, roomy refl, short, long, length-append payload [])))

-- a full block has nothing past its bytes
full-rest : (room : ℕ) (block : Block) → length block ≡ 16 + room → used_in block ≡ room
    → AreZeros (rest_in block)
full-rest room block size full =
    subst AreZeros (sym (drop_all (16 + used_in block) block (omega (arith, size, full))))
    (All-none (λ (n : ℕ). n ≡ 0))

-- The block of each place that the bytes fill is full, and has them.
pub deep : (room generation : ℕ) (image : Image) (index from left : ℕ) → 0 < room
    → ((i : ℕ) → from ≤ i → i < from + left → length (block_at image (1 + i)) ≡ 16 + room)
    → from ≤ index → index < from + left
    → (index + 1) * room ≤ from * room + length (bytes_from room generation from left image)
    → IsFull room generation index (block_at image (1 + index))
    × (payload_in (block_at image (1 + index))
    ≡ take room (drop ((index - from) * room) (bytes_from room generation from left image)))
deep room generation image index from zero some sizes low high long =
    absurd (omega (arith, low, high))
deep room generation image index from (suc left) some sizes low high long =
    let block = block_at image (1 + from) in
    let rest = bytes_from room generation (from + 1) left image in
    let all = bytes_from room generation from (suc left) image in
    let past : (from + 1) * room ≤ (index + 1) * room =
    mul-le-mul_right {m = from + 1} {n = index + 1} room (omega (arith, low)) in
    let enough : room ≤ length all = omega (arith, past, long) in
    let tests = join-full (is_next generation from block) (nat_le (used_in block) room)
    (nat_eq (used_in block) room) (used_in block) room (payload_in block) rest some
    (λ fits. leb-true (used_in block) room fits)
    (λ part. eqb-false (used_in block) room part) (payload-short block) enough in
    let full : IsFull room generation from block =
    let whole = eqb-true (used_in block) room tests.1 in
    let size_is : length block ≡ 16 + room = sizes from (omega arith) (omega arith) in
    record { next = tests.0; used = whole; zeros = full-rest room block size_is whole } in
    let is : all ≡ payload_in block ++ rest = full-bytes room generation from left image full in
    let size : length (payload_in block) ≡ room =
    payload-long room block full.used (omega (arith, sizes from (omega arith) (omega arith))) in
    elim (cases_lt from index) [
      | inl less ↦
          let d = index - (from + 1) in
          let more = deep room generation image index (from + 1) left some
          (λ i under over. sizes i (omega (arith, under)) (omega (arith, over)))
          (omega (arith, less)) (omega (arith, high))
          (omega (arith, long, ap length is, length-append (payload_in block) rest, size)) in
          let tail : drop room all ≡ rest = ap (λ (l : List ℕ). drop room l) is
          ∙ drop_at (payload_in block) rest room size in
          let one : index - from ≡ d + 1 = omega (arith, less) in
          let at : room + d * room ≡ (index - from) * room =
          omega (arith, ap (λ (n : ℕ). n * room) one) in (
            more.0,
            more.1
                ∙ ap (λ (l : List ℕ). take room (drop (d * room) l)) (sym tail)
                ∙ ap (λ (l : List ℕ). take room l) (drop-drop (d * room) room all
                ∙ ap (λ (n : ℕ). drop n all) at),
          )
      | inr most ↦
          let same : from ≡ index = omega (arith, low, most) in
          let none : (index - from) * room ≡ 0 =
          ap (λ (n : ℕ). n * room) (let z : index - from ≡ 0 = omega (arith, same) in z)
          ∙ omega arith in (
            subst (λ (n : ℕ). IsFull room generation n (block_at image (1 + n))) same full,
            ap (λ (n : ℕ). payload_in (block_at image (1 + n))) (sym same)
                ∙ sym (ap (λ (l : List ℕ). take room l) (ap (λ (n : ℕ). drop n all) none ∙ is)
                ∙ take_at (payload_in block) rest room size),
          )
    ]

-- ---- the block to which the next bytes go

pub last-low : (n room most : ℕ) → 0 < room → min (n / room) most * room ≤ n
last-low n room most some =
    let less : min (n / room) most * room ≤ (n / room) * room =
    mul-le-mul_right {m = min (n / room) most} {n = n / room} room (omega arith) in
    omega (arith, less, some)

last-high : (n room most index : ℕ) → 0 < room → min (n / room) most < index → index ≤ most
    → n ≤ index * room
last-high n room most index some past within =
    let more : (n / room + 1) * room ≤ index * room =
    mul-le-mul_right {m = n / room + 1} {n = index} room (omega (arith, past, within)) in
    omega (arith, more, some)

-- ---- the log

module _ (geometry : Geometry) (content : Content) (seen : Seen) (allowed : IsAllowed geometry)
    (shape : IsOf geometry seen) (spells : Spells geometry seen.cur content)
    (settled : IsSettled geometry seen) (ends : EndsThere (made geometry content) seen.cur)
    (sizes : (n : ℕ) → InLog geometry n → length (block_at seen.cur n) ≡ geometry.size) where
  abbrev log : LogNow
  log = made geometry content

  abbrev bytes : List ℕ
  bytes = bytes_of content.records

  abbrev room : ℕ
  room = room_of geometry

  abbrev At : ℕ → Block
  At index = block_at seen.cur (1 + index)

  roomy : 0 < room
  roomy = omega (arith, log-room log allowed)

  in_log : (index : ℕ) → index < geometry.log → InLog geometry (1 + index)
  in_log index below = (omega arith, omega (arith, below))

  no-bytes : SpellsNone seen.cur content → length bytes ≡ 0
  no-bytes none = ap (λ (c : Content). length (bytes_of c.records)) none.none

  fits : Spells geometry seen.cur content → used_by content.records ≤ log_size geometry
  fits (inl none) =
      let unused : used_by content.records ≡ 0 =
      ap (λ (c : Content). used_by c.records) none.none in
      omega (arith, unused)
  fits (inr has) = has.room

  young : Spells geometry seen.cur content → max 1 content.generation < 2 ^ 63
  young (inl none) = omega (arith, ap (λ (c : Content). c.generation) none.none)
  young (inr has) = omega (arith, has.below)

  all-fields : Spells geometry seen.cur content → All HasFields content.records
  all-fields (inl none) =
      subst (λ (c : Content). All HasFields c.records) (sym none.none) (All-none HasFields)
  all-fields (inr has) = has.records.fields

  forced-same : forced_length log ≡ length bytes
  forced-same =
      ap (λ (rs : List LogRecord). length (bytes_of rs))
      (take_all (length content.records) content.records (omega arith))

  is-behind : Spells geometry seen.cur content → IsBehind log content
  is-behind (inl none) = inr (
    ap (λ (c : Content). length c.records) none.none,
    ap (λ (c : Content). live_in c.records) none.none,
  )
  is-behind (inr has) =
      let same : content.generation ≡ max 1 content.generation = omega (arith, has.some) in
      inl (ap (λ (n : ℕ). let c : Content =
      record { generation = n; records = content.records } in c) same
      ∙ ap (λ (rs : List LogRecord). let c : Content =
      record { generation = max 1 content.generation; records = rs } in c)
      (sym (take_all (length content.records) content.records (omega arith))))

  exact : Spells geometry seen.cur content → (index : ℕ) → index < geometry.log
      → (index + 1) * room ≤ length bytes → IsExact room log.generation bytes index (At index)
  exact (inl none) index below long = absurd (omega (arith, long, no-bytes none, roomy))
  exact (inr has) index below long =
      let g = content.generation in
      let all = log_bytes geometry g seen.cur in
      let cut = has.records.cut in
      let same : g ≡ max 1 g = omega (arith, has.some) in
      let whole : (index + 1) * room ≤ 0 * room + length all =
      omega (arith, long, ap length has.records.spelled, length-append bytes cut) in
      let found = deep room g seen.cur index 0 geometry.log roomy
      (λ i from to. omega
      (arith, sizes (1 + i) (in_log i (omega (arith, to))), log-room log allowed))
      (omega arith) (omega (arith, below)) whole in
      let start : (index - 0) * room ≡ index * room =
      ap (λ (n : ℕ). n * room) (let z : index - 0 ≡ index = omega arith in z) in
      let enough : room ≤ length (drop (index * room) bytes) =
      omega (arith, long, length-drop (index * room) bytes) in
      let place : take room (drop ((index - 0) * room) all) ≡ place_of room bytes index =
      ap (λ (n : ℕ). take room (drop n all)) start
      ∙ ap (λ (l : List ℕ). take room (drop (index * room) l)) has.records.spelled
      ∙ ap (λ (l : List ℕ). take room l) (drop-append-le (index * room) bytes cut
      (omega (arith, long)))
      ∙ take-append-le room (drop (index * room) bytes) cut enough in
      record {
        next = subst (λ (n : ℕ). is_next n index (At index) ≡ true) same found.0.next;
        used = found.0.used
            ∙ (let z : room ≡ length (place_of room bytes index) =
            omega (arith, length-take room (drop (index * room) bytes), enough) in z);
        payload = found.1 ∙ place;
        zeros = found.0.zeros;
      }

  each : (index : ℕ) → index < geometry.log → (index ≡ open_index log → ⊥)
      → IsLeft log bytes index (At index)
  each index below closed =
      ⊎_elim
      (λ (less : index < open_index log).
      let long : (index + 1) * room ≤ open_index log * room =
      mul-le-mul_right {m = index + 1} {n = open_index log} room (omega (arith, less)) in
      exact-left log bytes bytes index (At index) ([], append-nil bytes)
      (omega (arith, forced-same)) (exact spells index below
      (omega (arith, long, last-low (length bytes) room (geometry.log - 1) roomy))))
      (λ (most : open_index log ≤ index).
      let past : open_index log < index = above index (open_index log) most closed in
      let high : length bytes ≤ index * room =
      last-high (length bytes) room (geometry.log - 1) index roomy past (omega (arith, below)) in
      record {
        within = record {
          used = λ next. absurd (ends.none_on index below past next);
          payload = λ next. absurd (ends.none_on index below past next);
          zeros = λ next. absurd (ends.none_on index below past next);
        };
        reaches = λ some. absurd (omega (arith, some, high, forced-same));
      })
      (cases_lt index (open_index log))
    where
      above : (i q : ℕ) → q ≤ i → (i ≡ q → ⊥) → q < i
      above i q low other = ⊎_elim (λ (less : q < i). less)
          (λ (under : i ≤ q). absurd (other (omega (arith, low, under)))) (cases_lt q i)

  is-here : (index : ℕ) (block : Block) → index < geometry.log → seen.may (1 + index) block
      → block ≡ At index
  is-here index block below may = settled (1 + index) (in_log index below) block may

  pub made_stands : LogStands log seen
  made_stands = record {
    allowed = allowed;
    shape = shape;
    some = omega arith;
    below = young spells;
    fields = all-fields spells;
    fits = fits spells;
    forced = omega arith;
    behind = λ older is. subst (λ (c : Content). IsBehind log c)
        (let same : content ≡ older = cc in same) (is-behind spells);
    begun = λ older is. omega
        (arith, last-low (length bytes) room (geometry.log - 1) roomy, forced-same);
    leaves = record {
      young = λ index block below may. omega (
        arith,
        ap generation_in (is-here index block below may),
        ends.none_later index below,
      );
      each = λ index block below closed may. subst (λ (b : Block). IsLeft log bytes index b)
          (sym (is-here index block below may))
          (each index below (λ same. closed (content, refl, same)));
      first = λ none. absurd (some-none none);
      older = λ older is image on. inl (subst (λ (c : Content). Spells geometry image c)
          (let same : content ≡ older = cc in same)
          (spells-same geometry seen.cur image content allowed.some_log
          (λ i below. is-here i (block_at image (1 + i)) below
          (on.each (1 + i)
          (omega (arith, below, log-inside log allowed, shape.count)) (in_log i below))) spells));
    };
    current = λ more. absurd (more refl);
  }
    where
      some-none : Some content ≡ None → ⊥
      some-none is = absurd cc

-- zeros spell an empty log, which stands on them
pub fresh_stands : (geometry : Geometry) (seen : Seen) → IsAllowed geometry → IsOf geometry seen
    → IsSettled geometry seen
    → ((n : ℕ) → InLog geometry n → AreZeros (block_at seen.cur n))
    → ((n : ℕ) → InLog geometry n → length (block_at seen.cur n) ≡ geometry.size)
    → LogStands (made geometry (record { generation = 0; records = [] })) seen
fresh_stands geometry seen allowed shape settled zeros sizes =
    let none : Content = record { generation = 0; records = [] } in
    let old : (index : ℕ) → index < geometry.log
    → generation_in (block_at seen.cur (1 + index)) ≡ 0 = λ index below.
    zeros-generation (block_at seen.cur (1 + index))
    (omega (
      arith,
      sizes (1 + index) (omega arith, omega (arith, below)),
      log-room (made geometry none) allowed,
    )) (zeros (1 + index) (omega arith, omega (arith, below))) in
    made_stands geometry none seen allowed shape
    (inl (record { zeros = zeros 1 (omega arith, allowed.some_log); none = refl })) settled
    (record {
      none_on = λ index below past next. omega (
        arith,
        old index below,
        (next-has 1 index (block_at seen.cur (1 + index)) next).0,
      );
      none_later = λ index below. omega (arith, old index below);
    }) sizes
