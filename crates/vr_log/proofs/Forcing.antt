-- A log whose records are forced.
use Rattle.std.proofs.Common.{◌≡◌, ◌⊎◌, inl, inr, ⊎_elim, ℕ, zero, suc, ◌+◌, ◌*◌, ◌<◌, ◌≤◌, Bool}
use Rattle.std.proofs.Common.{IsTrue, true, List, [], ◌∷◌, length, take, drop, None, refl, sym, ap}
use Rattle.std.proofs.Common.{subst, ◌∙◌, arith}
use Rattle.std.proofs.lemmas.Bool.{cases_lt}
use Rattle.std.proofs.lemmas.List.{append-nil, length-append, length-take, take_all}
use Rattle.std.proofs.Math.Nat.{mul-le-mul_right}
use Rattle.vr_types.specs.Image.{Block, block_at}
use Rattle.vr_types.specs.Seen.{Seen}
use Rattle.vr_types.specs.Blocks.{Keeps}
use Rattle.vr_types.specs.Geometry.{IsAllowed}
use Rattle.vr_log.specs.declared.record.LogRecord.{LogRecord}
use Rattle.vr_log.specs.declared.record.LogRecord.TheVariants.{Before, End}
use Rattle.vr_log.specs.declared.tail.Tail.{Tail}
use Rattle.vr_log.specs.LogBlock.{is_next, used_in, room_of}
use Rattle.vr_log.specs.LogNow.{LogNow, IsForced}
use Rattle.vr_log.specs.Memory.{IsTail, IsTurned}
use Rattle.vr_log.specs.Records.{record_bytes, bytes_of}
use Rattle.vr_log.specs.Standing.{IsExact, IsLeft, IsOpen, open_index, LogStands, forced_length}
use Rattle.vr_log.proofs.Entering.{last-is}
use Rattle.vr_log.proofs.Leaving.{exact-left}
use Rattle.vr_log.proofs.Lives.{length-before, length-ended}
use Rattle.vr_log.proofs.Putting.{log-room, log-inside}

record-some : (rec : LogRecord) → 9 ≤ length (record_bytes rec)
record-some (Before unit part place old) = omega (arith, length-before unit part place old)
record-some (End unit kind) = omega (arith, length-ended unit kind)

-- fewer records have fewer bytes
pub bytes-fewer : (n : ℕ) (records : List LogRecord) → n < length records
    → length (bytes_of (take n records)) < length (bytes_of records)
bytes-fewer n [] below = absurd (omega (arith, below))
bytes-fewer zero (r ∷ records) below =
    omega (arith, record-some r, length-append (record_bytes r) (bytes_of records))
bytes-fewer (suc n) (r ∷ records) below =
    omega (
      arith,
      bytes-fewer n records (omega (arith, below)),
      length-append (record_bytes r)
          (bytes_of records),
      length-append (record_bytes r) (bytes_of (take n records)),
    )

abbrev pub All_forced : LogNow → LogNow
All_forced log = record log { forced = length log.records; behind = None }

module _ (told : Bool) (is_told : IsTrue told) (log : LogNow) (tail : Tail) (a b : Seen)
    (stands : LogStands log a) (allowed : IsAllowed log.geometry)
    (buffer : IsTail log.geometry (bytes_of log.records) tail) (turned : IsTurned log.geometry tail)
    (more : IsForced log → ⊥) (kept : Keeps told a b)
    (forced : (i : ℕ) (block : Block) → forced_length log < (i + 1) * room_of log.geometry
    → i ≤ tail.index → b.may (1 + i) block → block ≡ block_at a.cur (1 + i)) where
  bytes : List ℕ
  bytes = bytes_of log.records

  abbrev Room : ℕ
  Room = room_of log.geometry

  here : tail.index ≡ open_index log
  here = last-is log.geometry (bytes_of log.records) tail (omega (arith, log-room log allowed))
      buffer turned

  short : forced_length log < length (bytes_of log.records)
  short = ⊎_elim
      (λ (less : log.forced < length log.records). bytes-fewer log.forced log.records less)
      (λ (all : length log.records ≤ log.forced). absurd (more (omega (arith, all, stands.forced))))
      (cases_lt log.forced (length log.records))

  whole : forced_length (All_forced log) ≡ length (bytes_of log.records)
  whole = ap (λ (rs : List LogRecord). length (bytes_of rs))
      (take_all (length log.records) log.records (omega arith))

  fewer : (i : ℕ) (block : Block) → i < log.geometry.log → b.may (1 + i) block → a.may (1 + i) block
  fewer i block below is =
      kept.adds_none is_told (1 + i) block
      (omega (arith, below, log-inside log allowed, stands.shape.count)) is

  -- a block that holds what was not forced yet
  exact : (i : ℕ) (block : Block) → i * Room < length (bytes_of log.records)
      → forced_length log < (i + 1) * Room → b.may (1 + i) block
      → IsExact Room log.generation (bytes_of log.records) i block
  exact i block some from is =
      let inside : i ≤ tail.index =
      ⊎_elim (λ (past : tail.index < i). absurd
      (omega (
        arith,
        some,
        buffer.used,
        buffer.fits,
        mul-le-mul_right {m = tail.index + 1} {n =
            i} Room (omega (arith, past)),
      ))) (λ (inside : i ≤ tail.index). inside)
      (cases_lt tail.index i) in
      subst (λ (x : Block). IsExact Room log.generation (bytes_of log.records) i x)
      (sym (forced i block from inside is)) (stands.current more i some from)

  -- a block that was forced whole, or has no bytes, isn't the one in which the log was begun
  closed : (i : ℕ) → ((i + 1) * Room ≤ forced_length log)
      ⊎ (length (bytes_of log.records) ≤ i * Room) → ¬ (IsOpen log i)
  closed i (inl full) unforced = let at : i ≡ tail.index = unforced.2 ∙ sym here in
      omega (arith, short, full, ap (λ (n : ℕ). n * Room) at, buffer.used, buffer.fits)
  closed i (inr past) unforced =
      omega (
        arith,
        short,
        past,
        ap (λ (n : ℕ). n * Room) unforced.2,
        stands.begun unforced.0
            unforced.1,
      )

  old-left : (i : ℕ) (block : Block) → i < log.geometry.log → ((i + 1) * Room ≤ forced_length log)
      ⊎ (length (bytes_of log.records) ≤ i * Room) → b.may (1 + i) block
      → IsLeft log (bytes_of log.records) i block
  old-left i block below which is =
      stands.leaves.each i block below (closed i which) (fewer i block below is)

  left-full : (i : ℕ) (block : Block) → (i + 1) * Room ≤ forced_length log
      → IsLeft log (bytes_of log.records) i block
      → IsLeft (All_forced log) (bytes_of log.records) i block
  left-full i block full left =
      let some : i * Room < forced_length log = omega (arith, full, log-room log allowed) in
      let has = left.reaches some in
      let most : used_in block ≤ Room =
      omega (
        arith,
        left.within.used has.next,
        length-take Room
            (drop (i * Room) (bytes_of log.records)),
      ) in
      record {
        within = left.within;
        reaches = λ _. record {
          next = has.next;
          used =
              inr (⊎_elim (λ (enough : forced_length log ≤ i * Room + used_in block). omega
              (arith, enough, full, most)) (λ (is : used_in block ≡ Room). is) has.used);
        };
      }

  left-none : (i : ℕ) (block : Block) → length (bytes_of log.records) ≤ i * Room
      → IsLeft log (bytes_of log.records) i block
      → IsLeft (All_forced log) (bytes_of log.records) i block
  left-none i block past left =
      record { within = left.within; reaches = λ some. absurd (omega (arith, some, past, whole)) }

  each : (i : ℕ) (block : Block) → i < log.geometry.log → b.may (1 + i) block
      → IsLeft (All_forced log) (bytes_of log.records) i block
  each i block below is =
      elim (cases_lt (i * Room) (length (bytes_of log.records))) [
        | inl some ↦ elim (cases_lt (forced_length log) ((i + 1) * Room)) [
          | inl from ↦ exact-left (All_forced log) (bytes_of log.records) (bytes_of log.records) i
              block ([], append-nil (bytes_of log.records)) (omega (arith, whole))
              (exact i block some from is)
          | inr full ↦ left-full i block full (old-left i block below (inl full) is)
        ]
        | inr past ↦ left-none i block past (old-left i block below (inr past) is)
      ]

  first : (block : Block) → b.may 1 block → is_next log.generation 0 block ≡ true
  first block is = ((each 0 block allowed.some_log is).reaches (omega (arith, short, whole))).next

  pub stands_forced : LogStands (All_forced log) b
  stands_forced = record {
    shape = record {
      count = kept.count_same ∙ stands.shape.count;
      size = kept.size_same
          ∙ stands.shape.size;
    };
    allowed = allowed;
    some = stands.some;
    below = stands.below;
    fields = stands.fields;
    fits = stands.fits;
    forced = omega arith;
    behind = λ older is. absurd cc;
    begun = λ older is. absurd cc;
    leaves = record {
      young = λ i block below is. stands.leaves.young i block below (fewer i block below is);
      each = λ i block below _ is. each i block below is;
      first = λ _ block is. first block is;
      older = λ older is. absurd cc;
    };
    current = λ not. absurd (not refl);
  }

-- whether everything is forced is seen by the bytes
pub is_forced : (some records : List LogRecord) → some ≡ take (length some) records
    → length some ≤ length records → length (bytes_of some) ≡ length (bytes_of records)
    → length some ≡ length records
is_forced some records part below same = ⊎_elim
    (λ (less : length some < length records). absurd
    (omega (
      arith,
      bytes-fewer (length some) records less,
      ap
          (λ (rs : List LogRecord). length (bytes_of rs)) part,
      same,
    )))
    (λ (all : length records ≤ length some). omega (arith, all, below))
    (cases_lt (length some) (length records))

pub not_forced : (some records : List LogRecord) → some ≡ take (length some) records
    → (length (bytes_of some) ≡ length (bytes_of records) → ⊥) → length some ≡ length records → ⊥
not_forced some records part other same =
    other (ap (λ (rs : List LogRecord). length (bytes_of rs)) (part
    ∙ take_all (length some) records (omega (arith, same))))

pub forced_short : (room index used forced bytes : ℕ) → index * room + used ≡ bytes → used ≤ room
    → forced ≤ bytes → (forced ≡ bytes → ⊥) → forced < (index + 1) * room
forced_short room index used forced bytes is fits most other =
    ⊎_elim (λ (less : forced < bytes). omega (arith, less, is, fits))
    (λ (all : bytes ≤ forced). absurd (other (omega (arith, all, most)))) (cases_lt forced bytes)
