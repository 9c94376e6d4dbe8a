-- Devices that are formatted one after another.
use Rattle.std.proofs.Common.{◌≡◌, ◌≢◌, ◌<◌, ◌≤◌, ◌+◌, ◌∙◌, ⊎_elim, ℕ, Bool, List}
use Rattle.std.proofs.Common.{Some, refl, sym, ap, subst, arith, length, set, get_or}
use Rattle.std.proofs.Common.{get_or-set_other, get_or-set_same, length-set}
use Rattle.std.specs.Prelude.{slice_get, unwrap_or}
use Rattle.std.proofs.Math.Nat.{eq-or-lt_of_le}
use Rattle.std.proofs.lemmas.Option.{slice_get-get_or, slice_get_cases}
use Rattle.std.proofs.lemmas.Option.{slice_get_past, slice_get_read}
use Rattle.vr_types.specs.Geometry.{IsAllowed}
use Rattle.vr_types.specs.Seen.{Seen}
use Rattle.vr_format.specs.Formatted.{geometry_of}
use Rattle.vr_job.specs.Formats.{AreFormattedTo, IsFresh}

-- an element that was set, and another one
pub get-set-same : {X : Type 0} (xs : List X) (at : ℕ) (x : X) → at < length xs
    → slice_get (set xs at x) at ≡ Some x
get-set-same xs at x below =
    slice_get-get_or (set xs at x) at x (subst (λ n. at < n) (sym (length-set xs at x)) below)
    ∙ ap Some (get_or-set_same xs at x x below)

pub get-set-other : {X : Type 0} (xs : List X) (at other : ℕ) (x : X) → other ≢ at
    → slice_get (set xs at x) other ≡ slice_get xs other
get-set-other xs at other x apart =
    ⊎_elim (λ (found : (y : _) × (other < length xs) × (slice_get xs other ≡ Some y)
    × (get_or xs other y ≡ y)).
    slice_get-get_or (set xs at x) other found.0
    (subst (λ n. other < n) (sym (length-set xs at x)) found.1)
    ∙ ap Some (get_or-set_other xs at other x found.0 apart ∙ found.3)
    ∙ sym found.2)
    (λ past. slice_get_past (set xs at x) other
    (subst (λ n. n ≤ other) (sym (length-set xs at x)) past.0) ∙ sym past.1)
    (slice_get_cases xs other).1

pub same-some : {X : Type 0} (x y : X) → Some x ≡ Some y → x ≡ y
same-some x y same = ap (λ found. unwrap_or found x) same

module _ {D : Type 0} (tells : Bool) (seen : D → Seen) (log area : ℕ) where
  pub none-formatted : (devices : List D) → AreFormattedTo tells seen log area 0 devices devices
  none-formatted devices = record {
    count = refl;
    before = λ at device below there. absurd (omega (arith, below));
    after = λ at past. refl;
  }

  -- a device that isn't formatted yet is as it was
  pub still-there : (number : ℕ) (old new : List D) (device : D)
      → AreFormattedTo tells seen log area number old new → number < length new
      → device ≡ get_or new number device → slice_get old number ≡ Some device
  still-there number old new device so below is =
      sym (so.after number (omega arith))
      ∙ slice_get_read new (length new) number device refl below is

  -- one more is formatted
  pub one-more-formatted : (number : ℕ) (old new : List D) (device : D)
      → AreFormattedTo tells seen log area number old new → number < length new
      → (first : D) → first ≡ get_or new number first
      → IsFresh tells seen log area number first device
      → AreFormattedTo tells seen log area (number + 1) old (set new number device)
  one-more-formatted number old new device so below first is fresh = record {
    count = length-set new number device ∙ so.count;
    before = λ at other less there.
        ⊎_elim (λ (same : at ≡ number).
        subst (λ (at : ℕ). (was : D) × (slice_get old at ≡ Some was)
        × IsFresh tells seen log area at was other) (sym same) (
          first,
          still-there number old new first so below is,
          subst (λ (one : D). IsFresh tells seen log area number first one)
              (same-some device other (sym (get-set-same new number device below)
              ∙ subst (λ n. slice_get (set new number device) n ≡ Some other) same there)) fresh,
        ))
        (λ (lower : at < number). so.before at other lower
        (sym (get-set-other new number at device (λ same. omega (arith, same, lower))) ∙ there))
        (eq-or-lt_of_le (omega (arith, less)));
    after = λ at past. get-set-other new number at device (λ same. omega (arith, same, past))
        ∙ so.after at (omega (arith, past));
  }

  -- devices that are allowed up to one, which is
  pub one-more-allowed : (number : ℕ) (devices : List D) (device : D) → number < length devices
      → device ≡ get_or devices number device → IsAllowed (geometry_of (seen device) log area)
      → ((at : ℕ) (other : D) → at < number → slice_get devices at ≡ Some other
      → IsAllowed (geometry_of (seen other) log area)) → (at : ℕ) (other : D) → at < number + 1
      → slice_get devices at ≡ Some other → IsAllowed (geometry_of (seen other) log area)
  one-more-allowed number devices device below is allowed before at other less there =
      ⊎_elim (λ (same : at ≡ number).
      subst (λ (one : D). IsAllowed (geometry_of (seen one) log area))
      (same-some device other (sym (slice_get_read devices (length devices) number device refl
      below is) ∙ subst (λ n. slice_get devices n ≡ Some other) same there)) allowed)
      (λ (lower : at < number). before at other lower there)
      (eq-or-lt_of_le (omega (arith, less)))
