-- What a definition on one volume makes of all of them.
use Rattle.std.proofs.Common.{◌≡◌, ◌≢◌, ℕ, zero, suc, ◌<◌, List, [], ◌∷◌, length, map, Option}
use Rattle.std.proofs.Common.{Some, refl, sym, ap, subst, ◌∙◌, get_or, inl, inr, Result, Ok, Err}
use Rattle.std.proofs.Common.{IfOk, IfErr, IsErr, slice_get}
use Rattle.std.specs.Prelude.{slice_set}
use Rattle.std.specs.Option.{option_map}
use Rattle.std.proofs.lemmas.List.{set-get_or}
use Rattle.std.proofs.lemmas.Option.{slice_get-get_or, slice_get-map}
use Rattle.std.proofs.Math.Seq.{map-set_same}
use Rattle.vr_types.specs.declared.geometry.Geometry.{Geometry}
use Rattle.vr_catalog.specs.declared.order.Define.{Define}
use Rattle.vr_trace.specs.Shown.{Shown}
use Rattle.vr_trace.specs.declared.command.Failure.{Failure}
use Rattle.vr_trace.specs.declared.command.Outcome.{Outcome}
use Rattle.vr_trace.specs.declared.no.RunNo.{RunNo}
use Rattle.vr_ams_define.specs.declared.answer.Defined.{Defined}
use Rattle.vr_ams_define.specs.declared.refusal.DefineNo.{DefineNo}
use Rattle.vr_ams_define.specs.declared.refusal.DefineNo.TheVariants.{Refused, Ended}
use Rattle.vr_ams_define.specs.Answers.{Answering}
use Rattle.vr_ams_define.specs.Failures.{entry_failure, failure_on}
use Rattle.vr_ams_define.specs.Outcomes.{IsDefinedBy, IsLeft}
use Rattle.vr_ams_define.specs.Steps.{IsEnd, IsEntered, IsUndone}

-- what one of the volumes shows
pub shown-at : {V T : Type 0} (shown : V → T) (volumes : List V) (number : ℕ) (spare : V)
    → number < length volumes
    → slice_get (map shown volumes) number ≡ Some (shown (get_or volumes number spare))
shown-at shown volumes number spare within =
    slice_get-map shown volumes number
    ∙ ap (option_map shown) (slice_get-get_or volumes number spare within)

-- as it is read
pub shown-on : {V T : Type 0} (shown : V → T) (volumes : List V) (number : ℕ) (one : V)
    → number < length volumes → one ≡ get_or volumes number one
    → slice_get (map shown volumes) number ≡ Some (shown one)
shown-on {V} shown volumes number one within is =
    shown-at shown volumes number one within ∙ ap (λ (it : V). Some (shown it)) (sym is)

failure-at : {V : Type 0} (shown : V → Shown) (geometry : V → Geometry) (volumes : List V)
    (number : ℕ) (spare : V) (order : Define) → number < length volumes
    → failure_on (slice_get (map shown volumes) number) (slice_get (map geometry volumes) number)
    order
    ≡ entry_failure (geometry (get_or volumes number spare))
    (shown (get_or volumes number spare)).catalog order
failure-at shown geometry volumes number spare order within = rw (
  shown-at shown volumes number spare within,
  shown-at geometry volumes number spare within,
) refl

-- the outcome by what the definition on the volume came to
pub defined-at : {V : Type 0} (shown : V → Shown) (geometry : V → Geometry)
    (answers : Answering V) (volumes : List V) (number : ℕ) (spare new : V) (line : ℕ)
    (order : Define) (end : Result Defined DefineNo) (result : Result Outcome RunNo)
    → number < length volumes
    → IfOk end (IsEntered shown geometry answers line order (get_or volumes number spare) new)
    → IfErr end (IsUndone shown (entry_failure (geometry (get_or volumes number spare))
    (shown (get_or volumes number spare)).catalog order) (get_or volumes number spare) new)
    → IfOk result (IsEnd end)
    → IfOk result (IsDefinedBy shown answers volumes
    (failure_on (slice_get (map shown volumes) number) (slice_get (map geometry volumes) number)
    order) (Some number) line order (slice_set volumes number new))
defined-at shown geometry answers volumes number spare new line order end (Err error) within
    entered undone ends = tt
defined-at shown geometry answers volumes number spare new line order (Ok answer) (Ok outcome)
    within entered undone ends = inr (record {
      first_is = failure-at shown geometry volumes number spare order within ∙ entered.allowed;
      place = number;
      place_is = refl;
      old = get_or volumes number spare;
      old_is = slice_get-get_or volumes number spare within;
      new = new;
      answer = answer;
      answered = entered.answered;
      outcome_is = ends;
      others = refl;
    })
defined-at shown geometry answers volumes number spare new line order (Err (Refused failure))
    (Ok outcome) within entered undone ends = inl (record {
      failure = failure;
      first_is = failure-at shown geometry volumes number spare order within ∙ undone.0;
      outcome_is = ends;
      same = ap (slice_set volumes number) undone.1 ∙ set-get_or volumes number spare;
    })
defined-at shown geometry answers volumes number spare new line order (Err (Ended error))
    (Ok outcome) within entered undone ends = absurd ends

set-other : {V : Type 0} (volumes : List V) (number place : ℕ) (new : V) → place ≢ number
    → slice_get (slice_set volumes number new) place ≡ slice_get volumes place
set-other [] number place new other = refl
set-other (volume ∷ volumes) zero zero new other = absurd (other refl)
set-other (volume ∷ volumes) zero (suc place) new other = refl
set-other (volume ∷ volumes) (suc number) zero new other = refl
set-other (volume ∷ volumes) (suc number) (suc place) new other =
    set-other volumes number place new (λ same. other (ap suc same))

-- where stamps or memory ran out
pub left-at : {V : Type 0} (shown : V → Shown) (first : Option Failure) (volumes : List V)
    (number : ℕ) (spare new : V) (end : Result Defined DefineNo) (result : Result Outcome RunNo)
    → IfErr end (IsUndone shown first (get_or volumes number spare) new)
    → IfErr result (λ no. end ≡ Err (Ended no)) → IsErr result
    → IsLeft shown volumes (Some number) (slice_set volumes number new)
left-at shown first volumes number spare new end (Ok outcome) undone ended none = absurd (cc)
left-at shown first volumes number spare new end (Err error) undone ended none = record {
  same = map-set_same shown volumes number new spare
      (subst (λ (end : Result Defined DefineNo).
      IfErr end (IsUndone shown first (get_or volumes number spare) new)) ended undone);
  others = λ place other. set-other volumes number place new
      (λ same. other (ap Some (sym same)));
}
