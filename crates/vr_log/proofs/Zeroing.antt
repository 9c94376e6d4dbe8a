-- A block past the last of a log's may become zeros, and one that has a later generation: the blocks
-- spell the same log.
use Rattle.std.proofs.Common.{◌≡◌, ◌≢◌, ◌<◌, ◌≤◌, ◌+◌, ◌-◌, ◌*◌, ◌/◌, ℕ, zero, suc, Bool, true}
use Rattle.std.proofs.Common.{false, List, [], ◌++◌, length, take, drop, refl, sym, ap, subst}
use Rattle.std.proofs.Common.{◌∙◌, arith, inl, inr, get_or-set_other, get_or-set_same}
use Rattle.std.proofs.Common.{true≢false}
use Rattle.std.specs.Prelude.{min, max, nat_eq, nat_le, slice_set}
use Rattle.std.proofs.Math.Nat.{mul-le-mul_right}
use Rattle.std.proofs.Math.Seq.{take-append-add, take-nil}
use Rattle.std.proofs.lemmas.Bool.{cases_lt, eqb-true, leb-true}
use Rattle.std.proofs.lemmas.List.{length-append, length-drop, length-take}
use Rattle.std.proofs.lemmas.List.{take_all}
use Rattle.std.proofs.lemmas.Nat.{div-add-mod'}
use Rattle.vr_types.specs.Fields.{AreZeros}
use Rattle.vr_types.specs.Geometry.{IsAllowed}
use Rattle.vr_types.specs.Image.{Block, Image, block_at}
use Rattle.vr_types.specs.declared.geometry.Geometry.{Geometry}
use Rattle.vr_types.proofs.CallerLemmas.{block_size_least}
use Rattle.vr_log.specs.Clearing.{IsStale}
use Rattle.vr_log.specs.Content.{Content}
use Rattle.vr_log.specs.LogBlock.{generation_in, index_in, is_next, payload_in, rest_in, room_of}
use Rattle.vr_log.specs.LogBlock.{used_in}
use Rattle.vr_log.specs.LogNow.{last_index}
use Rattle.vr_log.specs.Records.{SpellsRecords, bytes_of}
use Rattle.vr_log.specs.Spells.{Fits, Spells, bytes_from, joined, log_bytes}
use Rattle.vr_log.specs.Standing.{InLog}
use Rattle.vr_log.specs.declared.record.LogRecord.{LogRecord}
use Rattle.vr_log.proofs.Cuts.{cut-more}
use Rattle.vr_log.proofs.Leaving.{next-has}
use Rattle.vr_log.proofs.Settled.{deep, last-low}
use Rattle.vr_log.proofs.Unique.{zeros-generation}

length-payload : (block : Block) → length (payload_in block)
    ≡ min (used_in block) (length block - 16)
unfolding payload_in
length-payload block =
    omega (arith, length-take (used_in block) (drop 16 block), length-drop 16 block)

module _ (room generation last : ℕ) (old new : Image)
    (same : (index : ℕ) → index ≢ last → block_at new (1 + index) ≡ block_at old (1 + index))
    (gone : is_next generation last (block_at new (1 + last)) ≡ true → ⊥) where
  -- it goes on as it did
  fits-on : (left index : ℕ) → Fits room generation index left old
      → Fits room generation index left new
  fits-on zero index fits = tt
  fits-on (suc left) index fits = by (nat_eq index last) refl
      (λ next full. fits-on left (index + 1) ((fits next).2 full))
    where
      by : (b : Bool) → nat_eq index last ≡ b
          → ((next : is_next generation index (block_at old (1 + index)) ≡ true)
          → used_in (block_at old (1 + index)) ≡ room → Fits room generation (index + 1) left new)
          → is_next generation index (block_at new (1 + index)) ≡ true
          → (used_in (block_at new (1 + index)) ≤ room)
          × AreZeros (rest_in (block_at new (1 + index)))
          × (used_in (block_at new (1 + index)) ≡ room → Fits room generation (index + 1) left new)
      by true here more next = absurd (gone (subst
          (λ (i : ℕ). is_next generation i (block_at new (1 + i)) ≡ true)
          (eqb-true index last here) next))
      by false other more next =
          let kept : block_at new (1 + index) ≡ block_at old (1 + index) =
          same index (λ is. true≢false (sym (Rattle.std.proofs.lemmas.Bool.eq-eqb index last is)
          ∙ other)) in
          let was : is_next generation index (block_at old (1 + index)) ≡ true =
          subst (λ (b : Block). is_next generation index b ≡ true) kept next in (
            subst (λ (b : Block). used_in b ≤ room) (sym kept) (fits was).0,
            subst (λ (b : Block). AreZeros (rest_in b)) (sym kept) (fits was).1,
            λ full. more was (ap used_in (sym kept) ∙ full),
          )

  joined-cut : (k : ℕ) (payload more rest : List ℕ) (next fits full : Bool)
      → (next ≡ true → fits ≡ true → full ≡ true → length payload ≡ room)
      → (next ≡ true → fits ≡ true → length payload ≤ room)
      → rest ≡ take (k * room) more
      → joined next fits full payload rest ≡ take (suc k * room)
      (joined next fits full payload more)
  joined-cut k payload more rest true true true exact most is =
      ap (λ (x : List ℕ). payload ++ x) is
      ∙ sym (take-append-add payload more (k * room))
      ∙ ap (λ (n : ℕ). take n (payload ++ more)) (omega (arith, exact refl refl refl))
  joined-cut k payload more rest true true false exact most is =
      sym (take_all (suc k * room) (payload ++ [])
      (omega (arith, length-append payload [], most refl refl)))
  joined-cut k payload more rest true false full exact most is = sym (take-nil (suc k * room))
  joined-cut k payload more rest false fits full exact most is = sym (take-nil (suc k * room))

  -- its bytes are those before the block
  bytes-cut : (log : ℕ) → ((i : ℕ) → i < log → used_in (block_at old (1 + i)) ≡ room
      → length (payload_in (block_at old (1 + i))) ≡ room)
      → (left index k : ℕ) → index + left ≤ log → last ≡ index + k
      → bytes_from room generation index left new
      ≡ take (k * room) (bytes_from room generation index left old)
  bytes-cut log whole zero index k within is = sym (take-nil (k * room))
  bytes-cut log whole (suc left) index zero within is = by (is_next generation index (block_at new (1 + index))) refl
    where
      by : (next : Bool) → is_next generation index (block_at new (1 + index)) ≡ next
          → joined next (nat_le (used_in (block_at new (1 + index))) room)
          (nat_eq (used_in (block_at new (1 + index))) room)
          (payload_in (block_at new (1 + index)))
          (bytes_from room generation (index + 1) left new)
          ≡ take (0 * room) (bytes_from room generation index (suc left) old)
      by true next = absurd (gone (subst
          (λ (i : ℕ). is_next generation i (block_at new (1 + i)) ≡ true)
          (let here : index ≡ last = omega (arith, is) in here) next))
      by false next = ap (λ (n : ℕ). take n (bytes_from room generation index (suc left) old))
          (let none : 0 ≡ 0 * room = omega arith in none)
  bytes-cut log whole (suc left) index (suc k) within is =
      let kept : block_at new (1 + index) ≡ block_at old (1 + index) =
      same index (λ here. omega (arith, here, is)) in
      ap (λ (b : Block). joined (is_next generation index b) (nat_le (used_in b) room)
      (nat_eq (used_in b) room) (payload_in b) (bytes_from room generation (index + 1) left new))
      kept
      ∙ joined-cut k (payload_in (block_at old (1 + index)))
      (bytes_from room generation (index + 1) left old)
      (bytes_from room generation (index + 1) left new)
      (is_next generation index (block_at old (1 + index)))
      (nat_le (used_in (block_at old (1 + index))) room)
      (nat_eq (used_in (block_at old (1 + index))) room)
      (λ next fits full. whole index (omega (arith, within)) (eqb-true (used_in (block_at old (1 + index))) room full))
      (λ next fits. omega (
        arith,
        length-payload (block_at old (1 + index)),
        leb-true (used_in (block_at old (1 + index))) room fits,
      ))
      (bytes-cut log whole left (index + 1) k (omega (arith, within)) (omega (arith, is)))

-- the bytes of records that end before the cut
records-cut : (n : ℕ) (bytes : List ℕ) (records : List LogRecord)
    → length (bytes_of records) ≤ n → SpellsRecords bytes records
    → SpellsRecords (take n bytes) records
records-cut n bytes records within spells = record {
  fields = spells.fields;
  cut = take (n - length (bytes_of records)) spells.cut;
  is_cut = cut-more (n - length (bytes_of records)) spells.cut spells.is_cut;
  spelled = ap (take n) spells.spelled
      ∙ ap (λ (k : ℕ). take k (bytes_of records ++ spells.cut))
      (let split : n ≡ length (bytes_of records) + (n - length (bytes_of records)) =
      omega (arith, within) in split)
      ∙ take-append-add (bytes_of records) spells.cut (n - length (bytes_of records));
}

-- records end before the blocks past their last one
past-last : (length room log index : ℕ) → 0 < room → min (length / room) (log - 1) < index
    → index < log → length ≤ index * room
past-last length room log index some past below =
    let more : (length / room + 1) * room ≤ index * room =
    mul-le-mul_right room (omega (arith, past, below)) in
    omega (arith, more, div-add-mod' length room, some)

size-room : (geometry : Geometry) → IsAllowed geometry → 0 < room_of geometry
size-room geometry allowed = omega (arith, block_size_least geometry.size allowed.size)

-- a full block has the bytes that it has room for
whole-payload : (geometry : Geometry) (image : Image) → IsAllowed geometry
    → ((n : ℕ) → InLog geometry n → length (block_at image n) ≡ geometry.size)
    → (i : ℕ) → i < geometry.log → used_in (block_at image (1 + i)) ≡ room_of geometry
    → length (payload_in (block_at image (1 + i))) ≡ room_of geometry
whole-payload geometry image allowed sized i inside full =
    omega (
      arith,
      length-payload (block_at image (1 + i)),
      full,
      sized (1 + i) (omega arith, omega (arith, inside)),
    )

module _ (geometry : Geometry) (image : Image) (content : Content) (index : ℕ) (zeros : Block)
    (allowed : IsAllowed geometry)
    (sized : (n : ℕ) → InLog geometry n → length (block_at image n) ≡ geometry.size)
    (later : 0 < index) (below : index < geometry.log)
    (are : AreZeros zeros) (long : 8 ≤ length zeros) (there : 1 + index < length image) where
  abbrev new : Image
  new = slice_set image (1 + index) zeros

  other : (n : ℕ) → n ≢ 1 + index → block_at new n ≡ block_at image n
  other n differ = get_or-set_other image (1 + index) n zeros [] (λ is. differ is)

  here : block_at new (1 + index) ≡ zeros
  here = get_or-set_same image (1 + index) zeros [] there

  other-index : (i : ℕ) → i ≢ index → block_at new (1 + i) ≡ block_at image (1 + i)
  other-index i differ = other (1 + i) (λ is. differ (omega (arith, is)))

  gone : (generation : ℕ) → 1 ≤ generation
      → is_next generation index (block_at new (1 + index)) ≡ true → ⊥
  gone generation some next =
      let is : generation_in (block_at new (1 + index)) ≡ generation =
      (next-has generation index (block_at new (1 + index)) next).0 in
      let none : generation_in zeros ≡ 0 = zeros-generation zeros long are in
      let both : generation ≡ 0 = sym is ∙ ap generation_in here ∙ none in
      absurd (omega (arith, both, some))

  -- where the records end before it
  cleared-at : length (bytes_of content.records) ≤ index * room_of geometry
      → Spells geometry image content → Spells geometry new content
  cleared-at short (inl none) = inl (record {
    zeros = subst AreZeros (sym (other 1 (λ is. omega (arith, is, later)))) none.zeros;
    none = none.none;
  })
  cleared-at short (inr spells) =
      let first : block_at new 1 ≡ block_at image 1 = other 1 (λ is. omega (arith, is, later)) in
      inr (record {
        generation = ap generation_in first ∙ spells.generation;
        some = spells.some;
        below = spells.below;
        first = ap index_in first ∙ spells.first;
        fits = fits-on (room_of geometry) content.generation index image new other-index
            (gone content.generation spells.some) geometry.log 0 spells.fits;
        records = subst (λ (bytes : List ℕ). SpellsRecords bytes content.records)
            (sym (bytes-cut (room_of geometry) content.generation index image new other-index
            (gone content.generation spells.some) geometry.log
            (whole-payload geometry image allowed sized) geometry.log 0 index
            (omega arith) (let at : index ≡ 0 + index = omega arith in at)))
            (records-cut (index * room_of geometry)
            (log_bytes geometry content.generation image) content.records short spells.records);
        room = spells.room;
      })

-- a block past the last one
pub cleared : (geometry : Geometry) (image : Image) (content : Content) (index : ℕ) (zeros : Block)
    → IsAllowed geometry
    → ((n : ℕ) → InLog geometry n → length (block_at image n) ≡ geometry.size)
    → last_index geometry (bytes_of content.records) < index → index < geometry.log
    → AreZeros zeros → 8 ≤ length zeros → 1 + index < length image → Spells geometry image content
    → Spells geometry (slice_set image (1 + index) zeros) content
cleared geometry image content index zeros allowed sized past below are long there spells =
    cleared-at geometry image content index zeros allowed sized (omega (arith, past)) below are long
    there
    (past-last (length (bytes_of content.records)) (room_of geometry) geometry.log index
    (size-room geometry allowed) past below) spells

-- the bytes end before a block that doesn't go on with them
bytes-before : (geometry : Geometry) (image : Image) (generation index : ℕ) → IsAllowed geometry
    → ((n : ℕ) → InLog geometry n → length (block_at image n) ≡ geometry.size)
    → index < geometry.log
    → (is_next generation index (block_at image (1 + index)) ≡ true → ⊥)
    → length (log_bytes geometry generation image) ≤ index * room_of geometry
bytes-before geometry image generation index allowed sized below none =
    let cut : log_bytes geometry generation image
    ≡ take (index * room_of geometry) (log_bytes geometry generation image) =
    bytes-cut (room_of geometry) generation index image image (λ i differ. refl) none geometry.log
    (whole-payload geometry image allowed sized) geometry.log 0 index (omega arith)
    (let at : index ≡ 0 + index = omega arith in at) in
    omega (
      arith,
      ap length cut,
      length-take (index * room_of geometry) (log_bytes geometry generation image),
    )

-- block 1 has no later generation
not-first : (image : Image) (generation index : ℕ)
    → generation < generation_in (block_at image (1 + index))
    → generation_in (block_at image 1) ≤ generation → 0 < index
not-first image generation zero later young = absurd (omega (arith, later, young))
not-first image generation (suc index) later young = omega arith

-- a block past the last one that goes on, and one that has a later generation
pub stale_cleared : (geometry : Geometry) (image : Image) (content : Content) (index : ℕ)
    (zeros : Block) → IsAllowed geometry
    → ((n : ℕ) → InLog geometry n → length (block_at image n) ≡ geometry.size)
    → IsStale (max 1 content.generation) (last_index geometry (bytes_of content.records)) index
    (block_at image (1 + index)) → index < geometry.log
    → AreZeros zeros → 8 ≤ length zeros → 1 + index < length image → Spells geometry image content
    → Spells geometry (slice_set image (1 + index) zeros) content
stale_cleared geometry image content index zeros allowed sized (inl past) below are long there
    spells =
    cleared geometry image content index zeros allowed sized past.0 below are long there spells
stale_cleared geometry image content index zeros allowed sized (inr later) below are long there
    (inl none) =
    let old : generation_in (block_at image 1) ≡ 0 =
    zeros-generation (block_at image 1)
    (omega (
      arith,
      sized 1 (omega arith, allowed.some_log),
      block_size_least geometry.size allowed.size,
    )) none.zeros in
    let empty : length (bytes_of content.records) ≡ 0 =
    ap (λ (c : Content). length (bytes_of c.records)) none.none in
    cleared-at geometry image content index zeros allowed sized
    (not-first image (max 1 content.generation) index later (omega (arith, old))) below are long
    there (omega (arith, empty)) (inl none)
stale_cleared geometry image content index zeros allowed sized (inr later) below are long there
    (inr log) =
    let ended = bytes-before geometry image content.generation index allowed sized below
    (λ next. omega
    (arith, (next-has content.generation index (block_at image (1 + index)) next).0, later)) in
    cleared-at geometry image content index zeros allowed sized
    (not-first image (max 1 content.generation) index later (omega (arith, log.generation))) below
    are long there
    (omega (
      arith,
      ended,
      ap length log.records.spelled,
      length-append (bytes_of content.records) log.records.cut,
    )) (inr log)

-- no block before the last one has a later generation
pub before_last : (geometry : Geometry) (image : Image) (content : Content) (index : ℕ)
    → IsAllowed geometry
    → ((n : ℕ) → InLog geometry n → length (block_at image n) ≡ geometry.size)
    → index < last_index geometry (bytes_of content.records) → Spells geometry image content
    → generation_in (block_at image (1 + index)) ≤ max 1 content.generation
before_last geometry image content index allowed sized before spells =
    let bytes = bytes_of content.records in
    let room = room_of geometry in
    let some = size-room geometry allowed in
    let low : last_index geometry bytes * room ≤ length bytes =
    last-low (length bytes) room (geometry.log - 1) some in
    let more : (index + 1) * room ≤ last_index geometry bytes * room =
    mul-le-mul_right room (omega (arith, before)) in
    young spells (omega (arith, more, low))
  where
    young : Spells geometry image content
        → (index + 1) * room_of geometry ≤ length (bytes_of content.records)
        → generation_in (block_at image (1 + index)) ≤ max 1 content.generation
    young (inl none) full =
        absurd (omega (
          arith,
          full,
          ap (λ (c : Content). length (bytes_of c.records)) none.none,
          size-room geometry allowed,
        ))
    young (inr log) full =
        let found = deep (room_of geometry) content.generation image index 0 geometry.log
        (size-room geometry allowed)
        (λ i from to. omega (
          arith,
          sized (1 + i) (omega arith, omega (arith, to)),
          block_size_least geometry.size allowed.size,
        )) (omega arith) (omega (arith, before))
        (omega (
          arith,
          full,
          ap length log.records.spelled,
          length-append (bytes_of content.records) log.records.cut,
        )) in
        omega
        (arith, (next-has content.generation index (block_at image (1 + index)) found.0.next).0)
