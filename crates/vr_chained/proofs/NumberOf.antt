-- The number of a place, by its interval.
use Rattle.std.proofs.Common.{◌≡◌, ◌+◌, ◌-◌, ◌*◌, ◌/◌, ◌%◌, ◌^◌, ◌<◌, ◌≤◌, ℕ, ap, ◌∙◌, arith}
use Rattle.std.proofs.lemmas.Nat.{div-mul-add, div-add-mod'}
use Rattle.vr_types.specs.Fields.{four}
use Rattle.vr_space.specs.Rosters.{Numbered}
use Rattle.vr_space.specs.Numbered.{IsNumberPlace, at_in, interval_of, number_of, span_of, start_of}
use Rattle.vr_space.proofs.CallerLemmas.{number-four, number-place}

-- The number is that of this place of this interval.
pub record IsNumberOf (part : Numbered) (interval at number : ℕ) : Type 0 where
  pub place : IsNumberPlace part (four number)
  pub interval_is : interval_of part (four number) ≡ interval
  pub at_is : at_in part (four number) ≡ at

pub number-at : (part : Numbered) (interval at number : ℕ) → at < span_of part
    → number ≡ start_of part + interval * span_of part + at → number < 2 ^ 32
    → IsNumberOf part interval at number
number-at part interval at number within is below =
    let start : ℕ = start_of part in
    let span : ℕ = span_of part in
    let spelled : number_of (four number) - start ≡ interval * span + at =
    omega (arith, number-four number below, is) in
    let quotient : (number_of (four number) - start) / span ≡ interval =
    ap (λ (n : ℕ). n / span) spelled ∙ div-mul-add interval span at within in
    record {
      place = number-place part number (omega (arith, is)) below;
      interval_is = quotient;
      at_is = omega (
        arith,
        spelled,
        div-add-mod' (number_of (four number) - start) span,
        ap (λ (n : ℕ). n * span) quotient,
      );
    }

-- the interval of a number and where in it the number is lead back to it
pub number-parts : (start number span interval at : ℕ) → start ≤ number
    → interval ≡ (number - start) / span → at ≡ (number - start) % span
    → start + interval * span + at ≡ number
number-parts start number span interval at some quotient remainder =
    omega (
      arith,
      some,
      div-add-mod' (number - start) span,
      remainder,
      ap (λ (n : ℕ). n * span) quotient,
    )
