-- The bytes in use after the first of some records: no more than after all of them.
use Rattle.std.proofs.Common.{ℕ, zero, suc, ◌+◌, ◌*◌, ◌≤◌, Bool, true, false, List, [], ◌∷◌, ◌++◌}
use Rattle.std.proofs.Common.{length, take, if◌then◌else◌, arith}
use Rattle.std.proofs.lemmas.List.{length-append, length_push}
use Rattle.vr_types.specs.Locks.{same_unit}
use Rattle.vr_types.specs.declared.unit.Unit.{Unit as UnitOfRecovery}
use Rattle.vr_log.specs.declared.record.LogRecord.{LogRecord}
use Rattle.vr_log.specs.declared.record.LogRecord.TheVariants.{Before, End}
use Rattle.vr_log.specs.Live.{live_from, live_after, without, is_in, used_by}
use Rattle.vr_log.specs.Records.{record_bytes, bytes_of}
use Rattle.vr_log.proofs.Lives.{length-ended}

without-kept : (other : UnitOfRecovery) (units less : List UnitOfRecovery) (same : Bool)
    → length units ≤ length less + 1
    → length (other ∷ units) ≤ length (if same then units else other ∷ less) + 1
without-kept other units less true below = omega arith
without-kept other units less false below = omega (arith, below)

-- at most one unit is removed
without-most : (unit : UnitOfRecovery) (units : List UnitOfRecovery)
    → length units ≤ length (without unit units) + 1
without-most unit [] = omega arith
without-most unit (other ∷ units) =
    without-kept other units (without unit units) (same_unit unit other) (without-most unit units)

-- a record has at least the bytes that the end of a unit had kept
record-least : (live : List UnitOfRecovery) (rec : LogRecord)
    → 9 * length live ≤ length (record_bytes rec) + 9 * length (live_after live rec)
unfolding live_after
record-least live (Before unit part place old) = by (is_in unit live)
  where
    by : (there : Bool) → 9 * length live
        ≤ length (record_bytes (Before unit part place old))
        + 9 * length (if there then live else live ++ unit ∷ [])
    by true = omega arith
    by false = omega (arith, length_push live unit)
record-least live (End unit kind) =
    omega (arith, length-ended unit kind, without-most unit live)

live-least : (live : List UnitOfRecovery) (records : List LogRecord)
    → 9 * length live ≤ length (bytes_of records) + 9 * length (live_from live records)
live-least live [] = omega arith
live-least live (r ∷ records) =
    omega (
      arith,
      record-least live r,
      live-least (live_after live r) records,
      length-append (record_bytes r) (bytes_of records),
    )

take-least : (n : ℕ) (live : List UnitOfRecovery) (records : List LogRecord)
    → length (bytes_of (take n records)) + 9 * length (live_from live (take n records))
    ≤ length (bytes_of records) + 9 * length (live_from live records)
take-least zero live records = omega (arith, live-least live records)
take-least (suc n) live [] = omega arith
take-least (suc n) live (r ∷ records) =
    omega (
      arith,
      take-least n (live_after live r) records,
      length-append (record_bytes r) (bytes_of records),
      length-append (record_bytes r) (bytes_of (take n records)),
    )

pub used_take : (n : ℕ) (records : List LogRecord) → used_by (take n records) ≤ used_by records
used_take n records = omega (arith, take-least n [] records)
