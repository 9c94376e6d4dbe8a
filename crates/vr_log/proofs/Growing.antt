-- A log in memory with one record more.
use Rattle.std.proofs.Common.{◌≡◌, ◌⊎◌, inl, inr, ℕ, ◌+◌, ◌-◌, ◌*◌, ◌<◌, ◌≤◌, Bool, IsTrue, true}
use Rattle.std.proofs.Common.{false, List, [], ◌∷◌, ◌++◌, length, Option, Some, None, if◌then◌else◌}
use Rattle.std.proofs.Common.{◌||◌, refl, sym, ap, subst, ◌∙◌, arith, true≢false}
use Rattle.std.proofs.lemmas.List.{take-append-le, length-append, length_push}
use Rattle.std.proofs.lemmas.List.Elements.{All-push}
use Rattle.vr_types.specs.Geometry.{IsAllowed}
use Rattle.vr_types.specs.Image.{Image}
use Rattle.vr_types.specs.Locks.{same_unit}
use Rattle.std.proofs.Math.Nat.{mul-le-mul}
use Rattle.vr_types.specs.LogSpace.{log_size, end_length}
use Rattle.vr_types.specs.Regions.{IsImageOn}
use Rattle.vr_types.specs.declared.unit.PartNo.{PartNo}
use Rattle.vr_log.specs.declared.record.EndKind.{EndKind}
use Rattle.vr_types.specs.Regions.{Touches}
use Rattle.vr_types.specs.Seen.{Seen}
use Rattle.vr_types.specs.declared.geometry.Geometry.{Geometry}
use Rattle.vr_types.specs.declared.unit.Unit.{Unit as UnitOfRecovery}
use Rattle.vr_types.proofs.CallerLemmas.{touches-weaken}
use Rattle.vr_log.specs.declared.kept.Older.{Older}
use Rattle.vr_log.specs.declared.record.LogRecord.{LogRecord}
use Rattle.vr_log.specs.declared.record.LogRecord.TheVariants.{Before, End}
use Rattle.vr_log.specs.declared.tail.Tail.{Tail}
use Rattle.vr_log.specs.Content.{Content}
use Rattle.vr_log.specs.Live.{live_in, live_from, live_after, without, is_in, used_by, need_of}
use Rattle.vr_log.specs.Live.{EndsLive}
use Rattle.vr_log.specs.LogBlock.{room_of}
use Rattle.vr_log.specs.LogNow.{LogNow, HasLog, with_record}
use Rattle.vr_log.specs.Memory.{IsTail, IsTurned, behind_in}
use Rattle.vr_log.specs.Records.{record_bytes, bytes_of, old_bytes, HasFields}
use Rattle.vr_log.specs.Standing.{InLog, LogStands, forced_length}
use Rattle.vr_log.specs.Writing.{IsFound, IsReady}
use Rattle.vr_log.proofs.Codec.{found_log}
use Rattle.vr_log.proofs.Entering.{Grown, bytes-push, bytes-take}
use Rattle.vr_log.proofs.Leaving.{found_of}
use Rattle.vr_log.proofs.Putting.{log-room, log-inside}
use Rattle.vr_log.proofs.Lives.{length-before, length-ended, length-old}

live-push : (live : List UnitOfRecovery) (records : List LogRecord) (rec : LogRecord)
    → live_from live (records ++ rec ∷ []) ≡ live_after (live_from live records) rec
live-push live [] rec = refl
live-push live (r ∷ records) rec = live-push (live_after live r) records rec

without-by : (other : UnitOfRecovery) (units less : List UnitOfRecovery) (same : Bool)
    → length less ≤ length units
    → length (if same then units else other ∷ less) ≤ length (other ∷ units)
without-by other units less true below = omega arith
without-by other units less false below = omega (arith, below)

without-long : (unit : UnitOfRecovery) (units : List UnitOfRecovery)
    → length (without unit units) ≤ length units
without-long unit [] = omega arith
without-long unit (other ∷ units) =
    without-by other units (without unit units) (same_unit unit other) (without-long unit units)

without-step : (unit other : UnitOfRecovery) (units : List UnitOfRecovery) (same : Bool)
    → (IsTrue (is_in unit units) → length (without unit units) + 1 ≡ length units)
    → IsTrue (same || is_in unit units)
    → length (if same then units else other ∷ without unit units) + 1 ≡ length (other ∷ units)
without-step unit other units true further found = omega arith
without-step unit other units false further found = omega (arith, further found)

without-one : (unit : UnitOfRecovery) (units : List UnitOfRecovery) → IsTrue (is_in unit units)
    → length (without unit units) + 1 ≡ length units
without-one unit [] there = absurd (true≢false (sym there))
without-one unit (other ∷ units) there =
    without-step unit other units (same_unit unit other) (without-one unit units) there

-- a live unit has a before-image
live-one : (live : List UnitOfRecovery) (rec : LogRecord)
    → 20 * length (live_after live rec) ≤ 20 * length live + length (record_bytes rec)
unfolding live_after
live-one live (Before unit part place old) = by (is_in unit live)
  where
    long : 20 ≤ length (record_bytes (Before unit part place old))
    long = omega (
      arith,
      length-before unit part place old,
      length-old old (length (old_bytes old))
          refl,
    )

    by : (there : Bool)
        → 20 * length (if there then live else live
        ++ unit ∷ []) ≤ 20 * length live + length (record_bytes (Before unit part place old))
    by true = omega arith
    by false = omega (arith, long, length_push live unit)
live-one live (End unit kind) = omega (arith, without-long unit live)

pub live-bytes : (live : List UnitOfRecovery) (records : List LogRecord)
    → 20 * length (live_from live records) ≤ 20 * length live + length (bytes_of records)
live-bytes live [] = omega arith
live-bytes live (r ∷ records) =
    omega (
      arith,
      live-one live r,
      live-bytes (live_after live r) records,
      length-append
          (record_bytes r) (bytes_of records),
    )

-- there is room for one more live unit
pub live_below : (records : List LogRecord) (size room : ℕ) → used_by records ≤ size
    → size < 20 * room → length (live_in records) < room
live_below records size room fits most = omega (arith, live-bytes [] records, fits, most)

some-live : (unit : UnitOfRecovery) (units : List UnitOfRecovery) → IsTrue (is_in unit units)
    → 1 ≤ length units
some-live unit [] there = absurd (true≢false (sym there))
some-live unit (other ∷ units) there = omega arith

-- the bytes of the record have room
pub record_fits : (records : List LogRecord) (rec : LogRecord) (size : ℕ)
    → EndsLive (live_in records) rec → used_by records + need_of (live_in records) rec ≤ size
    → length (bytes_of records) + length (record_bytes rec) ≤ size
unfolding need_of
record_fits records (Before unit part place old) size live fits = omega (arith, fits)
record_fits records (End unit kind) size live fits =
    omega (arith, fits, length-ended unit kind, some-live unit (live_in records) live)

more-used : (records : List LogRecord) (unit : UnitOfRecovery) (bytes size : ℕ) (there : Bool)
    → used_by records + (bytes + (if there then 0 else end_length)) ≤ size
    → length (bytes_of records) + bytes + 9 * length
    (if there then live_in records else live_in records ++ unit ∷ []) ≤ size
more-used records unit bytes size true fits = omega (arith, fits)
more-used records unit bytes size false fits =
    omega (arith, fits, length_push (live_in records) unit)

used-grown : (records : List LogRecord) (rec : LogRecord) (size : ℕ)
    → EndsLive (live_in records) rec → used_by records + need_of (live_in records) rec ≤ size
    → length (bytes_of records) + length (record_bytes rec) + 9 * length
    (live_after (live_in records) rec) ≤ size
unfolding need_of live_after
used-grown records (Before unit part place old) size live fits =
    more-used records unit (length (record_bytes (Before unit part place old))) size
    (is_in unit (live_in records)) fits
used-grown records (End unit kind) size live fits =
    omega (arith, fits, length-ended unit kind, without-one unit (live_in records) live)

-- and so has what is in use with it
pub fits_grown : (records : List LogRecord) (rec : LogRecord) (size : ℕ)
    → EndsLive (live_in records) rec → used_by records + need_of (live_in records) rec ≤ size
    → used_by (records ++ rec ∷ []) ≤ size
fits_grown records rec size live fits =
    omega (
      arith,
      ap length (live-push [] records rec),
      ap length (bytes-push records rec),
      length-append (bytes_of records) (record_bytes rec),
      used-grown records rec size live fits,
    )

pub live_grown : (records : List LogRecord) (rec : LogRecord)
    → live_after (live_in records) rec ≡ live_in (records ++ rec ∷ [])
live_grown records rec = sym (live-push [] records rec)

-- what each image has while a record is appended
pub moments_grown : (log : LogNow) (rec : LogRecord) (total : List ℕ) (a b : Seen)
    → LogStands log a → HasFields rec → used_by (log.records ++ rec ∷ []) ≤ log_size log.geometry
    → total ≡ bytes_of (log.records ++ rec ∷ [])
    → Touches (InLog log.geometry) (IsFound log total) a b
    → Touches (InLog log.geometry) (HasLog (with_record log rec)) a b
moments_grown log rec total a b stands fields room is call =
    touches-weaken (InLog log.geometry) (IsFound log total) (HasLog (with_record log rec)) a b call
    (λ image found.
    found_log log (log.records
    ++ rec ∷ []) image stands.some stands.below
    (All-push HasFields log.records rec stands.fields fields) room
    (omega (arith, stands.forced, length_push log.records rec))
    (ap (λ (rs : List LogRecord). length (bytes_of rs))
    (sym (take-append-le log.forced log.records (rec ∷ []) stands.forced)))
    (subst (λ (bytes : List ℕ). IsFound log bytes image) is found))

pub turned_of : (geometry : Geometry) (bytes : List ℕ) (tail : Tail) → 16 ≤ geometry.size
    → IsTail geometry bytes tail → IsReady tail → IsTurned geometry tail
turned_of geometry bytes tail some buffer ready =
    λ full. omega (arith, ready (omega (arith, full, some, buffer.size)), buffer.blocks)

-- a log that stands, by the fields of what is kept
pub seen_grown : (log : LogNow) (rec : LogRecord) (behind other : Option Content) (generation : ℕ)
    (records : List LogRecord) (broken : Bool) (seen : Seen) → generation ≡ log.generation
    → records ≡ log.records ++ rec ∷ [] → other ≡ behind → broken ≡ log.broken
    → LogStands (Grown log rec behind) seen
    → LogStands (record {
      geometry = log.geometry;
      generation = generation;
      records =
          records;
      forced = log.forced;
      behind = other;
      broken = broken;
    }) seen
seen_grown log rec behind other generation records broken seen same more now flag stands =
    subst (λ (g : ℕ). LogStands (record {
      geometry = log.geometry;
      generation = g;
      records =
          records;
      forced = log.forced;
      behind = other;
      broken = broken;
    }) seen) (sym same)
    (subst (λ (rs : List LogRecord). LogStands (record {
      geometry = log.geometry;
      generation =
          log.generation;
      records = rs;
      forced = log.forced;
      behind = other;
      broken =
          broken;
    }) seen) (sym more)
    (subst (λ (b : Option Content). LogStands (record {
      geometry = log.geometry;
      generation =
          log.generation;
      records = log.records ++ rec ∷ [];
      forced = log.forced;
      behind = b;
      broken =
          broken;
    }) seen) (sym now)
    (subst (λ (f : Bool). LogStands (record {
      geometry = log.geometry;
      generation =
          log.generation;
      records = log.records ++ rec ∷ [];
      forced = log.forced;
      behind =
          behind;
      broken = f;
    }) seen) (sym flag) stands)))

pub behind_now : (was now : Bool) (older : Older)
    → (now ≡ false → (x : Content) × (behind_in was older ≡ Some x))
    → behind_in now older ≡ (if now then None else behind_in was older)
behind_now was true older some = refl
behind_now false false older some = refl
behind_now true false older some = let is = (some refl).1 in absurd cc

pub behind_kept : (was now : Bool) (older : Older)
    → (now ≡ false → (x : Content) × (behind_in was older ≡ Some x))
    → (behind_in now older ≡ behind_in was older) ⊎ (behind_in now older ≡ None)
behind_kept was true older some = inr refl
behind_kept false false older some = inl refl
behind_kept true false older some = let is = (some refl).1 in absurd cc

-- the bytes that a log has are fewer than a number of four bytes counts
pub size_small : (geometry : Geometry) → IsAllowed geometry → log_size geometry < 4294967296
size_small geometry allowed =
    omega (
      arith,
      mul-le-mul {n₁ = geometry.log} {m₁ = geometry.size - 16} {n₂ = 65535} {m₂ =
          32768} allowed.most_log (omega (arith, allowed.size.most)),
    )

pub need_before : (live : List UnitOfRecovery) (rec : LogRecord) (unit : UnitOfRecovery)
    (part : PartNo) (place : List ℕ) (old : Option (List ℕ)) (there : Bool)
    → rec ≡ Before unit part place old → there ≡ is_in unit live
    → length (record_bytes rec) + (if there then 0 else end_length) ≡ need_of live rec
unfolding need_of
need_before live rec unit part place old there is has =
    ap (λ (r : LogRecord). length (record_bytes r) + (if there then 0 else end_length)) is
    ∙ ap (λ (b : Bool). length (record_bytes (Before unit part place old)) +
    (if b then 0 else end_length)) has ∙ sym (ap (need_of live) is)

pub need_end : (live : List UnitOfRecovery) (rec : LogRecord) (unit : UnitOfRecovery)
    (kind : EndKind) → rec ≡ End unit kind → need_of live rec ≡ 0
unfolding need_of
need_end live rec unit kind is = ap (need_of live) is

-- each image of a log that stands has a log of it
pub stands_has : (log : LogNow) (seen : Seen) (image : Image) → IsAllowed log.geometry
    → used_by log.records ≤ log_size log.geometry → LogStands log seen
    → IsImageOn (InLog log.geometry) seen.count seen.may image → HasLog log image
stands_has log seen image allowed most stands on =
    let least : forced_length log ≤ log.geometry.log * room_of log.geometry =
    omega (arith, bytes-take log.forced log.records, most) in
    found_log log log.records image stands.some stands.below stands.fields most stands.forced refl
    (found_of log (bytes_of log.records) seen.count seen.may image stands.leaves allowed.some_log
    (omega (arith, log-inside log allowed, stands.shape.count)) least on stands.begun
    (omega (arith, log-room log allowed)))

-- and so it may have one of it with a record more
pub has_more : (log : LogNow) (rec : LogRecord) (image : Image) → HasLog log image
    → HasLog (with_record log rec) image
has_more log rec image (content, spelled, inr behind) = (content, spelled, inr behind)
has_more log rec image (content, spelled, inl prefix) = (
  content,
  spelled,
  inl (record {
    count = prefix.count;
    forced = prefix.forced;
    all = omega (arith, prefix.all, length_push log.records rec);
    is = prefix.is
        ∙ ap (λ (rs : List LogRecord). let c : Content =
        record { generation = log.generation; records = rs } in
        c) (sym (take-append-le prefix.count log.records (rec ∷ []) prefix.all));
  }),
)
