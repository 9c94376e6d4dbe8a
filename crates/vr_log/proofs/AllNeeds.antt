-- What several before-images of one unit need of a log.
use Rattle.std.proofs.Common.{◌≡◌, ℕ, zero, suc, ◌+◌, ◌<◌, ◌≤◌, Bool, true, false, List, [], ◌∷◌, ◌++◌}
use Rattle.std.proofs.Common.{length, take, refl, sym, ap, subst, ◌∙◌, arith, ◌||◌, ◌&&◌}
use Rattle.std.specs.Prelude.{All, cond, if◌then◌else◌}
use Rattle.std.proofs.Common.{◌==◌, eq-eqb}
use Rattle.std.proofs.lemmas.List.{take_more}
use Rattle.std.proofs.lemmas.List.Elements.{All-get_or}
use Rattle.vr_types.specs.Locks.{same_unit}
use Rattle.vr_types.specs.LogSpace.{end_length}
use Rattle.vr_types.specs.declared.unit.Unit.{Unit as UnitOfRecovery}
use Rattle.vr_log.specs.declared.record.LogRecord.{LogRecord}
use Rattle.vr_log.specs.declared.record.LogRecord.TheVariants.{Before, End}
use Rattle.vr_log.specs.Live.{EndsLive, IsBeforeOf, is_in, live_after, live_from, live_in, need_of}
use Rattle.vr_log.specs.Live.{need_of_all, used_by}
use Rattle.vr_log.specs.Records.{record_bytes}
use Rattle.vr_log.proofs.Growing.{fits_grown}

-- ---- the units that are live after them

pub live-append : (live : List UnitOfRecovery) (records more : List LogRecord)
    → live_from live (records ++ more) ≡ live_from (live_from live records) more
live-append live [] more = refl
live-append live (r ∷ records) more = live-append (live_after live r) records more

same-self : (unit : UnitOfRecovery) → same_unit unit unit ≡ true
same-self unit =
    ap (λ (same : Bool). same && unit.number == unit.number) (eq-eqb unit.deck unit.deck refl)
    ∙ eq-eqb unit.number unit.number refl

in-last : (unit : UnitOfRecovery) (live : List UnitOfRecovery)
    → is_in unit (live ++ unit ∷ []) ≡ true
in-last unit [] = ap (λ (b : Bool). b || false) (same-self unit)
in-last unit (first ∷ live) = by (same_unit unit first) (in-last unit live)
  where
    by : (b : Bool) → is_in unit (live ++ unit ∷ []) ≡ true
        → (b || is_in unit (live ++ unit ∷ [])) ≡ true
    by true is = refl
    by false is = is

-- the unit of a before-image is live after it
pub there-after : (live : List UnitOfRecovery) (unit : UnitOfRecovery) (rec : LogRecord)
    → IsBeforeOf unit rec → is_in unit (live_after live rec) ≡ true
unfolding live_after
there-after live unit (Before other part place old) same =
    subst (λ (u : UnitOfRecovery).
    is_in u (cond (is_in other live) live (live ++ other ∷ [])) ≡ true) same
    (by (is_in other live) refl)
  where
    by : (there : Bool) → is_in other live ≡ there
        → is_in other (cond there live (live ++ other ∷ [])) ≡ true
    by true is = is
    by false is = in-last other live
there-after live unit (End other kind) same = absurd same

-- it ends no unit
pub ends-none : (live : List UnitOfRecovery) (unit : UnitOfRecovery) (rec : LogRecord)
    → IsBeforeOf unit rec → EndsLive live rec
ends-none live unit (Before other part place old) same = tt
ends-none live unit (End other kind) same = absurd same

-- ---- what they need

need-push : (live : List UnitOfRecovery) (records : List LogRecord) (rec : LogRecord)
    → need_of_all live (records ++ rec ∷ [])
    ≡ need_of_all live records + need_of (live_from live records) rec
need-push live [] rec = omega arith
need-push live (r ∷ records) rec = omega (arith, need-push (live_after live r) records rec)

need-take : (live : List UnitOfRecovery) (n : ℕ) (records : List LogRecord)
    → need_of_all live (take n records) ≤ need_of_all live records
need-take live zero records = omega arith
need-take live (suc n) [] = omega arith
need-take live (suc n) (r ∷ records) = omega (arith, need-take (live_after live r) n records)

-- its bytes, and the room of its unit's end where that isn't live yet
need-own : (live : List UnitOfRecovery) (unit : UnitOfRecovery) (rec : LogRecord)
    → IsBeforeOf unit rec → need_of live rec
    ≡ length (record_bytes rec) + (if is_in unit live then 0 else end_length)
unfolding need_of
need-own live unit (Before other part place old) same =
    ap (λ (u : UnitOfRecovery). length (record_bytes (Before other part place old))
    + (if is_in u live then 0 else end_length)) same
need-own live unit (End other kind) same = absurd same

-- ---- one by one

module _ (live : List UnitOfRecovery) (unit : UnitOfRecovery) (records : List LogRecord)
    (of : All (IsBeforeOf unit) records) (i : ℕ) (rec : LogRecord) (below : i < length records)
    (more : take (i + 1) records ≡ take i records ++ rec ∷ []) (is : IsBeforeOf unit rec) where
  -- what is needed with one more
  pub need-more : (bytes there : ℕ) → bytes ≡ length (record_bytes rec)
      → there ≡ (if is_in unit (live_from live (take i records)) then 0 else end_length)
      → need_of_all live (take i records) + (bytes + there)
      ≡ need_of_all live (take (i + 1) records)
  need-more bytes there long room = omega (
    arith,
    ap (need_of_all live) more,
    need-push live (take i records) rec,
    need-own (live_from live (take i records)) unit rec is,
    long,
    room,
  )

  -- the unit is live with it
  pub there-more : is_in unit (live_from live (take (i + 1) records)) ≡ true
  there-more = ap (λ (rs : List LogRecord). is_in unit (live_from live rs)) more
      ∙ ap (is_in unit) (live-append live (take i records) (rec ∷ []))
      ∙ there-after (live_from live (take i records)) unit rec is

-- The records that were there, and some of these: the next has room where all have, and what is in
-- use is at most what was, and what they need.
module _ (old now : List LogRecord) (records : List LogRecord) (i : ℕ) (rec : LogRecord)
    (size : ℕ) (room : used_by old + need_of_all (live_in old) records ≤ size)
    (now-is : now ≡ old ++ take i records)
    (used : used_by now ≤ used_by old + need_of_all (live_in old) (take i records))
    (more : take (i + 1) records ≡ take i records ++ rec ∷ []) (unit : UnitOfRecovery)
    (is : IsBeforeOf unit rec) where
  live-now : live_in now ≡ live_from (live_in old) (take i records)
  live-now = ap live_in now-is ∙ live-append [] old (take i records)

  pub next-room : used_by now + need_of (live_in now) rec ≤ size
  next-room = omega (
    arith,
    used,
    ap (λ (live : List UnitOfRecovery). need_of live rec) live-now,
    ap (need_of_all (live_in old)) more,
    need-push (live_in old) (take i records) rec,
    need-take (live_in old) (i + 1) records,
    room,
  )

  pub next-used : used_by (now ++ rec ∷ [])
      ≤ used_by old + need_of_all (live_in old) (take (i + 1) records)
  next-used = omega (
    arith,
    fits_grown now rec (used_by now + need_of (live_in now) rec)
        (ends-none (live_in now) unit rec is) (omega arith),
    used,
    ap (λ (live : List UnitOfRecovery). need_of live rec) live-now,
    ap (need_of_all (live_in old)) more,
    need-push (live_in old) (take i records) rec,
  )
