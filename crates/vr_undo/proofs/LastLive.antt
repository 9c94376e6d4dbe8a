-- The last before-image that a unit may put back is the last of those in the list of these.
use Rattle.std.proofs.Common.{◌≡◌, ℕ, ◌+◌, ◌-◌, ◌<◌, ◌≤◌, Bool, true, false}
use Rattle.std.proofs.Common.{List, length, get_or, drop}
use Rattle.std.proofs.Common.{sym, ap, ◌∙◌, ◌⊎◌, inl, inr, arith}
use Rattle.std.specs.Prelude.{is_some, ltb}
use Rattle.std.specs.List.{Contains, list_any}
use Rattle.std.proofs.lemmas.Bool.{cases_lt, ltb-false}
use Rattle.std.proofs.lemmas.List.{get_or-drop, get_or_default}
use Rattle.std.proofs.lemmas.List.{length-drop}
use Rattle.std.proofs.lemmas.List.Folds.{Any-from_list_any, list_any_at}
use Rattle.std.proofs.lemmas.List.Sorted.{IsStrictWeakOrder-by_number, sorted_far}
use Rattle.vr_types.specs.Locks.{same_unit}
use Rattle.vr_types.specs.declared.unit.Unit.{Unit as UnitOfRecovery}
use Rattle.vr_undo.specs.Found.{no_record}
use Rattle.vr_undo.specs.Order.{IsLive}
use Rattle.vr_undo.specs.Records.{keeps_for}
use Rattle.vr_undo.specs.Searched.{IsLastLive}
use Rattle.vr_undo.specs.Searched.{record_at}
use Rattle.vr_undo.specs.declared.record.KeptRecord.{KeptRecord}
use Rattle.vr_undo.proofs.Finding.{and-both, any-numbers, clash}
use Rattle.vr_undo.proofs.Finding.{not-true}

keeps-some : (unit : UnitOfRecovery) (kept : KeptRecord) → keeps_for unit kept ≡ true
    → is_some kept.kept ≡ true
keeps-some unit kept is = (and-both (is_some kept.kept) (same_unit unit kept.unit) is).0

module _ (unit : UnitOfRecovery) (records : List KeptRecord) (live : List ℕ)
    (living : IsLive records live) where
  keeps_at : ℕ → Bool
  keeps_at number = keeps_for unit (record_at records number)

  pub none-live : list_any (λ number. keeps_for unit (record_at records number)) live ≡ false
      → list_any (keeps_for unit) records ≡ false
  none-live none =
      any-numbers (keeps_for unit) records live living.numbers
      (λ number inside is.
      living.all number inside (keeps-some unit (record_at records number) is)) ∙ none

  pub last-live : (at : ℕ) → at < length live
      → keeps_for unit (record_at records (get_or live at 0)) ≡ true
      → list_any (λ number. keeps_for unit (record_at records number)) (drop (at + 1) live) ≡ false
      → IsLastLive unit records live at
  last-live at inside passes none = record {
    in_range = inside;
    last = record {
      in_range = living.numbers at 0 inside;
      passes = passes;
      none_after = not-true (list_any (keeps_for unit) (drop (number + 1) records)) never;
    };
  }
    where
      number : ℕ
      number = get_or live at 0

      never : list_any (keeps_for unit) (drop (number + 1) records) ≡ true → ⊥
      never any =
          let found = Any-from_list_any (keeps_for unit) (drop (number + 1) records) any in
          let long = length-drop (number + 1) records in
          let later : ℕ = (number + 1) + found.0 in
          let within : later < length records = omega (arith, long, found.2) in
          let keeps : keeps_for unit (record_at records later) ≡ true =
          ap (keeps_for unit) (get_or_default records later no_record found.1 within
          ∙ sym (get_or-drop (number + 1) records found.0 found.1) ∙ found.3) ∙ found.4 in
          let there = living.all later within
          (keeps-some unit (record_at records later) keeps) in
          by_index later (omega arith) keeps there (cases_lt at there.0)
        where
          by_index : (later : ℕ) → number < later → keeps_for unit (record_at records later) ≡ true
              → (there : Contains live later) → ((at < there.0) ⊎ (there.0 ≤ at)) → ⊥
          by_index later past keeps there (inl after) =
              let back : (at + 1) + (there.0 - (at + 1)) ≡ there.0 = omega (arith, after) in
              clash (list_any (λ n. keeps_for unit (record_at records n)) (drop (at + 1) live))
              (list_any_at (λ n. keeps_for unit (record_at records n)) (drop (at + 1) live)
              (there.0 - (at + 1)) later
              (omega (arith, length-drop (at + 1) live, there.1, after))
              (ap (λ n. keeps_for unit (record_at records n))
              (get_or-drop (at + 1) live (there.0 - (at + 1)) later
              ∙ ap (λ n. get_or live n later) back ∙ there.2) ∙ keeps)) none
          by_index later past keeps there (inr before) =
              let far = sorted_far (λ one two. ltb one two) (IsStrictWeakOrder-by_number (λ n. n))
              live living.sorted there.0 at later before inside in
              let first : get_or live there.0 later ≡ later = there.2 in
              let last : get_or live at later ≡ number =
              get_or_default live at later 0 inside in
              omega (
                arith,
                ltb-false (get_or live at later) (get_or live there.0 later) far,
                first,
                last,
                past,
              )
