-- Three decks are new on volumes with no entry.
use Rattle.std.proofs.Common.{◌≡◌, ◌==◌, ◌≤◌, ℕ, zero, suc, List, [], ◌∷◌, false, ap, arith, refl}
use Rattle.std.proofs.Common.{get_or, subst, sym}
use Rattle.std.specs.Prelude.{All, count_by}
use Rattle.std.proofs.lemmas.Bool.Decides.{nat_tests}
use Rattle.std.proofs.lemmas.List.Elements.{All-cons, All-nil, All-weaker}
use Rattle.vr_trace.specs.Laws.{deck_entries}
use Rattle.vr_worker.specs.Decks.{AreNew, numbers_of}
use Rattle.vr_worker.specs.declared.deck.DeckRun.{DeckRun}
use Rattle.vr_worker.proofs.CallerLemmas.{all-unmapped}
use Rattle.vr_worker_cases.specs.Start.{AreFirst, first_numbers}
use Rattle.vr_worker_cases.specs.declared.volume.PlainVolume.{PlainVolume}

abbrev IsOwn : ℕ → Type 0
IsOwn number = (number == 0) ≡ false

abbrev number-of : DeckRun → ℕ
number-of deck = deck.number

once-of : (number : ℕ) → count_by (λ (other : ℕ). other == number) first_numbers ≤ 1
once-of zero = omega arith
once-of (suc zero) = omega arith
once-of (suc (suc zero)) = omega arith
once-of (suc (suc (suc zero))) = omega arith
once-of (suc (suc (suc (suc number)))) = grind (arith, nat_tests)

own-of : All IsOwn first_numbers
own-of = All-cons IsOwn 1 (2 ∷ 3 ∷ []) refl
    (All-cons IsOwn 2 (3 ∷ []) refl (All-cons IsOwn 3 [] refl (All-nil IsOwn)))

pub are-new : (decks : List DeckRun) (volumes : List PlainVolume)
    → numbers_of decks ≡ first_numbers → AreFirst volumes
    → AreNew (λ (volume : PlainVolume). volume.history.entries) decks volumes
are-new decks volumes named first = record {
  once = subst (λ (numbers : List ℕ). (number : ℕ)
      → count_by (λ (other : ℕ). other == number) numbers ≤ 1) (sym named) once-of;
  own = all-unmapped number-of IsOwn decks (subst (All IsOwn) (sym named) own-of);
  fresh = λ k deck near. All-weaker (λ (volume : PlainVolume). volume.history.entries ≡ [])
      (λ (volume : PlainVolume). deck_entries (get_or decks k deck).number volume.history.entries
      ≡ []) (λ volume empty. ap (deck_entries (get_or decks k deck).number) empty) volumes
      first.empty;
}
