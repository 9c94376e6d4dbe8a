-- A record that is appended: from the log in memory to what stands on the blocks, and back.
use Rattle.std.proofs.Common.{◌≡◌, inl, inr, ⊎_elim, ℕ, ◌+◌, ◌*◌, ◌/◌, ◌^◌, ◌<◌, ◌≤◌, Bool, IsTrue}
use Rattle.std.proofs.Common.{true, false, List, [], ◌∷◌, ◌++◌, length, take, drop, Option, Some}
use Rattle.std.proofs.Common.{None, if◌then◌else◌, refl, sym, ap, subst, ◌∙◌, arith, true≢false}
use Rattle.std.proofs.lemmas.Bool.{cases_lt}
use Rattle.std.proofs.Math.Nat.{mul-le-mul_right}
use Rattle.std.proofs.lemmas.Nat.{div-mul-add}
use Rattle.std.proofs.lemmas.List.{append-nil, append_assoc, take_all, take-append-le}
use Rattle.std.proofs.lemmas.List.{take-append-drop, length-append, length_push}
use Rattle.std.proofs.lemmas.List.Elements.{All-push}
use Rattle.vr_types.specs.Geometry.{IsAllowed}
use Rattle.vr_types.specs.Image.{Block, block_at}
use Rattle.vr_types.specs.LogSpace.{log_size}
use Rattle.vr_types.specs.Seen.{Seen}
use Rattle.vr_types.specs.declared.geometry.Geometry.{Geometry}
use Rattle.vr_log.specs.declared.kept.Older.{Older}
use Rattle.vr_log.specs.declared.record.LogRecord.{LogRecord}
use Rattle.vr_log.specs.declared.record.LogRecord.TheVariants.{Before, End}
use Rattle.vr_log.specs.declared.tail.Tail.{Tail}
use Rattle.vr_log.specs.Content.{Content}
use Rattle.vr_log.specs.Live.{used_by}
use Rattle.vr_log.specs.LogBlock.{room_of}
use Rattle.vr_log.specs.LogNow.{LogNow, IsOf, IsForced, first_of, last_index}
use Rattle.vr_log.specs.Memory.{IsTail, IsTurned, behind_in, older_in}
use Rattle.vr_log.specs.Records.{record_bytes, bytes_of, HasFields}
use Rattle.vr_log.specs.Standing.{Reaches, IsLeft, IsOurs, open_index, Leaves, LogStands}
use Rattle.vr_log.specs.Standing.{forced_length}
use Rattle.vr_log.specs.Writing.{IsPrefix, IsWriting, IsCurrent, log_during}
use Rattle.vr_log.proofs.Leaving.{leaves-more}
use Rattle.vr_log.proofs.Putting.{exact-more, log-room}

-- the buffer's block is that to which the next bytes go
pub last-is : (geometry : Geometry) (bytes : List ℕ) (tail : Tail) → 0 < room_of geometry
    → IsTail geometry bytes tail → IsTurned geometry tail → tail.index ≡ last_index geometry bytes
last-is geometry bytes tail some buffer turned =
    let room = room_of geometry in
    elim (cases_lt tail.used room) [
      | inl below ↦ let q : length bytes / room ≡ tail.index =
          ap (λ (n : ℕ). n / room) (sym buffer.used)
          ∙ div-mul-add tail.index room tail.used below in omega (arith, q, buffer.index)
      | inr above ↦
          let full : tail.used ≡ room = omega (arith, above, buffer.fits) in
          let whole : (tail.index + 1) * room + 0 ≡ length bytes =
          omega (arith, buffer.used, full) in
          let q : length bytes / room ≡ tail.index + 1 = ap (λ (n : ℕ). n / room) (sym whole)
          ∙ div-mul-add (tail.index + 1) room 0 some in
          omega (arith, q, turned full)
    ]

bytes-append : (one other : List LogRecord) → bytes_of (one ++ other) ≡ bytes_of one
    ++ bytes_of other
bytes-append [] other = refl
bytes-append (r ∷ one) other = ap (λ (x : List ℕ). record_bytes r ++ x) (bytes-append one other)
    ∙ sym (append_assoc (record_bytes r) (bytes_of one) (bytes_of other))

pub bytes-push : (records : List LogRecord) (rec : LogRecord)
    → bytes_of (records ++ rec ∷ []) ≡ bytes_of records ++ record_bytes rec
bytes-push records rec = bytes-append records (rec ∷ [])
    ∙ ap (λ (x : List ℕ). bytes_of records ++ x) (append-nil (record_bytes rec))

pub bytes-take : (n : ℕ) (records : List LogRecord)
    → length (bytes_of (take n records)) ≤ length (bytes_of records)
bytes-take n records =
    omega (
      arith,
      ap length (sym (bytes-append (take n records) (drop n records))
          ∙ ap bytes_of (take-append-drop n records)),
      length-append (bytes_of (take n records))
          (bytes_of (drop n records)),
    )

during-same : (log : LogNow) (begun : Bool) (bytes : List ℕ) (count : ℕ) (may : ℕ → Block → Type 0)
    → (begun ≡ true → log.behind ≡ None) → Leaves log bytes count may
    → Leaves (log_during log begun) bytes count may
during-same log false bytes count may none leaves = leaves
during-same log true bytes count may none leaves =
    subst (λ (behind : Option Content). Leaves (record log {
      behind =
          behind;
    }) bytes count may) (none refl) leaves

behind-some : (begun : Bool) (older : Older) → begun ≡ false → (x : Content)
    × (behind_in begun older ≡ Some x)
behind-some false older not = (older_in older, refl)
behind-some true older not = absurd (true≢false not)

behind-none : (begun : Bool) (older : Older) → begun ≡ true → behind_in begun older ≡ None
behind-none true older is = refl
behind-none false older is = absurd (true≢false (sym is))

-- a log that is kept in memory, and what it is seen as
pub record IsSeenAs (log : LogNow) (tail : Tail) (older : Older) : Type 0 where
  pub generation : log.generation ≡ tail.generation
  pub behind : log.behind ≡ behind_in tail.begun older

-- before the first of the bytes is put
pub start_writing : (told : Bool) (log : LogNow) (total : List ℕ) (tail : Tail) (older : Older)
    (seen : Seen) → IsSeenAs log tail older → IsAllowed log.geometry → IsOf log.geometry seen
    → tail.generation < 2 ^ 64 → IsTail log.geometry (bytes_of log.records) tail
    → IsTurned log.geometry tail
    → IsPrefix (bytes_of log.records) total → 0 < length total
    → length total ≤ log_size log.geometry
    → (IsTrue told → LogStands log seen) → IsWriting log total (bytes_of log.records) tail told seen
start_writing told log total tail older seen known allowed shape young buffer turned prefix some
    most stands =
    let room = room_of log.geometry in
    let bytes = bytes_of log.records in
    record {
      allowed = allowed;
      shape = shape;
      generation = sym known.generation;
      young = omega (arith, young, known.generation);
      buffer = buffer;
      opened = λ _. last-is log.geometry bytes tail (omega (arith, log-room log allowed)) buffer
          turned;
      behind = λ not. let some = behind-some tail.begun older not in
          (some.0, known.behind ∙ some.1);
      stable = bytes-take log.forced log.records;
      some = some;
      most = most;
      begun = λ t. (stands t).begun;
      leaves = λ t. during-same log tail.begun total seen.count seen.may (λ is. known.behind
          ∙ behind-none tail.begun older is)
          (leaves-more log bytes total seen.count seen.may prefix (stands t).leaves);
      current = λ t index below from.
          let inside : (index + 1) * room ≤ length bytes =
          omega (
            arith,
            buffer.used,
            mul-le-mul_right {m = index + 1} {n =
                tail.index} room (omega (arith, below)),
          ) in
          let more : IsForced log → ⊥ =
          λ forced. absurd
          (omega (
            arith,
            from,
            inside,
            ap length
                (ap bytes_of (take_all log.forced log.records (omega (arith, forced)))),
          )) in
          exact-more room log.generation index bytes total (block_at seen.cur (1 + index)) prefix
          inside ((stands t).current more index (omega (arith, inside, log-room log allowed))
          from);
    }

-- a record has some bytes
record-some : (rec : LogRecord) → 0 < length (record_bytes rec)
unfolding record_bytes
record-some (Before unit part place old) = omega arith
record-some (End unit kind) = omega arith

pub total-some : (records : List LogRecord) (rec : LogRecord)
    → 0 < length (bytes_of (records ++ rec ∷ []))
total-some records rec =
    omega (
      arith,
      record-some rec,
      ap length (bytes-push records rec),
      length-append (bytes_of records) (record_bytes rec),
    )

-- the log with one record more
abbrev pub Grown : LogNow → LogRecord → Option Content → LogNow
Grown log rec behind = record log { records = log.records ++ rec ∷ []; behind = behind }

grown-forced : (log : LogNow) (rec : LogRecord) (behind : Option Content)
    → log.forced ≤ length log.records → forced_length (Grown log rec behind) ≡ forced_length log
grown-forced log rec behind below =
    ap (λ (rs : List LogRecord). length (bytes_of rs))
    (take-append-le log.forced log.records (rec ∷ []) below)

left-grown : (log : LogNow) (rec : LogRecord) (behind other : Option Content) (bytes : List ℕ)
    (index : ℕ) (block : Block) → log.forced ≤ length log.records
    → IsLeft (record log { behind = other }) bytes index block
    → IsLeft (Grown log rec behind) bytes index block
left-grown log rec behind other bytes index block below left = record {
  within = left.within;
  reaches = λ some. subst (λ (n : ℕ). Reaches (room_of log.geometry) log.generation n index block)
      (sym (grown-forced log rec behind below))
      (left.reaches (omega (arith, some, grown-forced log rec behind below)));
}

leaves-grown : (log : LogNow) (rec : LogRecord) (behind : Option Content) (bytes : List ℕ)
    (count : ℕ) (may : ℕ → Block → Type 0) → log.forced ≤ length log.records
    → ((older : Content) → behind ≡ Some older → open_index (Grown log rec behind) ≡ open_index log)
    → Leaves (record log { behind = behind }) bytes count may
    → Leaves (Grown log rec behind) bytes count may
leaves-grown log rec behind bytes count may below opened leaves = record {
  young = leaves.young;
  each = λ index block inside closed is. left-grown log rec behind behind bytes index block below
      (leaves.each index block inside (λ unforced. closed (
        unforced.0,
        unforced.1,
        unforced.2
            ∙ sym (opened unforced.0 unforced.1),
      )) is);
  first = leaves.first;
  older = λ older is image on. ⊎_elim inl
      (λ (ours : IsOurs (record log {
        behind =
            behind;
      }) bytes (open_index log) (block_at image (1 + open_index log))).
      inr (subst (λ (q : ℕ). IsOurs (Grown log rec behind) bytes q (block_at image (1 + q)))
      (sym (opened older is)) (
        ours.0,
        left-grown log rec behind behind bytes (open_index log)
            (block_at image (1 + open_index log)) below ours.1,
        ours.2,
      )))
      (leaves.older older is image on);
}

during-behind : (log : LogNow) (begun : Bool)
    → (log_during log begun).behind ≡ (if begun then None else log.behind)
during-behind log begun = refl

was-behind : (log : LogNow) (begun : Bool) (older : Content)
    → (if begun then None else log.behind) ≡ Some older → (begun ≡ false)
    × (log.behind ≡ Some older)
was-behind log false older is = (refl, is)
was-behind log true older is = absurd cc

-- after the last of the bytes was put, the log stands with the record
pub stands_grown : (told : Bool) (is_told : IsTrue told) (log : LogNow) (rec : LogRecord)
    (tail : Tail) (before seen : Seen) → LogStands log before → HasFields rec
    → IsTurned log.geometry tail
    → IsWriting log (bytes_of (log.records ++ rec ∷ [])) (bytes_of (log.records
    ++ rec ∷ [])) tail told seen → IsCurrent log (bytes_of (log.records ++ rec ∷ [])) seen
    → used_by (log.records ++ rec ∷ []) ≤ log_size log.geometry
    → LogStands (Grown log rec (if tail.begun then None else log.behind)) seen
stands_grown told is_told log rec tail before seen stood fields turned w current room =
    let behind : Option Content = if tail.begun then None else log.behind in
    let total = bytes_of (log.records ++ rec ∷ []) in
    let same = grown-forced log rec behind stood.forced in
    let opened : (older : Content) → behind ≡ Some older
    → open_index (Grown log rec behind) ≡ open_index log = λ older is.
    sym (last-is log.geometry total tail (omega (arith, log-room log w.allowed)) w.buffer turned)
    ∙ w.opened (was-behind log tail.begun older is).0 in
    record {
      allowed = w.allowed;
      shape = w.shape;
      fits = room;
      some = stood.some;
      below = stood.below;
      fields = All-push HasFields log.records rec stood.fields fields;
      forced = omega (arith, stood.forced, length_push log.records rec);
      behind = λ older is. ⊎_elim
          (λ (mine : older ≡ first_of log log.forced). inl (mine
          ∙ ap (λ (rs : List LogRecord). let c : Content =
          record { generation = log.generation; records = rs } in
          c) (sym (take-append-le log.forced log.records (rec ∷ []) stood.forced))))
          inr (stood.behind older (was-behind log tail.begun older is).1);
      begun = λ older is. omega (
        arith,
        same,
        ap (λ (q : ℕ). q * room_of log.geometry) (opened older is),
        stood.begun
            older (was-behind log tail.begun older is).1,
      );
      leaves = leaves-grown log rec behind total seen.count seen.may stood.forced opened
          (w.leaves is_told);
      current = λ more index some from. current index some (omega (arith, from, same));
    }
