-- The greatest of some numbers is one of them.
use Rattle.std.proofs.Common.{◌≡◌, ℕ, zero, suc, ◌<◌, ◌≤◌, ◌==◌, max, cond, Bool, true, false, List}
use Rattle.std.proofs.Common.{[], ◌∷◌, ◌⊎◌, inl, inr, length, get_or, refl, sym, ap, ◌∙◌, arith}
use Rattle.std.specs.List.{Contains}
use Rattle.std.proofs.lemmas.Bool.{cases_order}
use Rattle.std.proofs.lemmas.Bool.Decides.{nat_tests}
use Rattle.vr_history.specs.declared.entry.Entry.{Entry}
use Rattle.vr_trace.specs.declared.kept.KeptDeck.{KeptDeck}
use Rattle.vr_trace.specs.Code.{greatest, severity, entry_code, history_code, numbers_code}
use Rattle.vr_trace.specs.Code.{deck_code, step_code}
use Rattle.vr_trace.specs.Laws.{IsEntryOf, IsWorst}

module _ {X : Type 0} (f : X → ℕ) where
  at_most : (xs : List X) (k : ℕ) (d : X) → k < length xs → f (get_or xs k d) ≤ greatest f xs
  at_most [] k d inside = absurd (omega arith)
  at_most (x ∷ xs) zero d inside = omega arith
  at_most (x ∷ xs) (suc k) d inside =
      let rest = at_most xs k d (omega arith) in omega arith

  pub none_above : (xs : List X) (x : X) → Contains xs x → f x ≤ greatest f xs
  none_above xs x there =
      let most = at_most xs there.0 x there.1 in
      let same = ap f there.2 in omega arith

  pub record IsMet (xs : List X) : Type 0 where
    pub one : X
    pub is_there : Contains xs one
    pub is : f one ≡ greatest f xs

  later : (x : X) (xs : List X) → greatest f xs ≡ max (f x) (greatest f xs) → IsMet xs
      → IsMet (x ∷ xs)
  later x xs same met = record {
    one = met.one;
    is_there = (suc met.is_there.0, omega (arith, met.is_there.1), met.is_there.2);
    is = met.is ∙ same;
  }

  pub one_is : (xs : List X) → 0 < greatest f xs → IsMet xs
  one_is [] above = absurd (omega arith)
  one_is (x ∷ xs) above = by_order (cases_order (greatest f xs) (f x)) (one_is xs)
    where
      first : greatest f xs ≤ f x → IsMet (x ∷ xs)
      first below =
          record { one = x; is_there = (0, omega arith, refl); is = omega (arith, below) }

      by_order : (greatest f xs ≡ f x) ⊎ ((greatest f xs < f x) ⊎ (f x < greatest f xs))
          → (0 < greatest f xs → IsMet xs) → IsMet (x ∷ xs)
      by_order (inl same) rest = first (omega (arith, same))
      by_order (inr (inl below)) rest = first (omega (arith, below))
      by_order (inr (inr after)) rest =
          later x xs (omega (arith, after)) (rest (omega (arith, after)))

asked_code : (deck : ℕ) (entry : Entry) → (entry.unit.deck == deck) ≡ true
    → entry_code deck entry ≡ severity entry.what
asked_code deck entry is = ap (λ b. cond b (severity entry.what) 0) is

same_deck : (m n : ℕ) → m ≡ n → (m == n) ≡ true
same_deck m n same = grind (arith, nat_tests, same)

-- an entry that makes something is the deck's
of_the_deck : (deck : ℕ) (entry : Entry) → 0 < entry_code deck entry
    → (entry.unit.deck ≡ deck) × (severity entry.what ≡ entry_code deck entry)
of_the_deck deck entry above = by_test (entry.unit.deck == deck) refl
  where
    by_test : (b : Bool) → (entry.unit.deck == deck) ≡ b
        → (entry.unit.deck ≡ deck) × (severity entry.what ≡ entry_code deck entry)
    by_test true is =
        (grind (arith, nat_tests, is), sym (ap (λ t. cond t (severity entry.what) 0) is))
    by_test false is =
        let none : entry_code deck entry ≡ 0 = ap (λ t. cond t (severity entry.what) 0) is in
        absurd (omega (arith, above, none))

entry_below : (decks : List KeptDeck) (histories : List (List Entry)) (entry : Entry)
    → IsEntryOf decks histories entry → severity entry.what ≤ step_code histories decks
entry_below decks histories entry there =
    let deck = there.deck in
    let code = asked_code deck.number entry (same_deck entry.unit.deck deck.number there.is_its) in
    let one = none_above (entry_code deck.number) there.history entry there.is_entered in
    let two = none_above (history_code deck.number) histories there.history there.is_history in
    let three = none_above (deck_code histories) decks deck there.is_there in omega arith

worst_met : (decks : List KeptDeck) (histories : List (List Entry)) → 0 < step_code histories decks
    → (entry : Entry) × IsEntryOf decks histories entry
    × (severity entry.what ≡ step_code histories decks)
worst_met decks histories above =
    let deck = one_is (deck_code histories) decks above in
    let number = deck.one.number in
    let of_decks : numbers_code histories number ≡ step_code histories decks = deck.is in
    let history = one_is (history_code number) histories (omega arith) in
    let of_histories : history_code number history.one ≡ numbers_code histories number =
    history.is in
    let entry = one_is (entry_code number) history.one (omega arith) in
    let of_entries : entry_code number entry.one ≡ history_code number history.one = entry.is in
    let its = of_the_deck number entry.one (omega arith) in (
      entry.one,
      record {
        deck = deck.one;
        is_there = deck.is_there;
        is_its = its.0;
        history = history.one;
        is_history = history.is_there;
        is_entered = entry.is_there;
      },
      its.1 ∙ of_entries ∙ of_histories ∙ of_decks,
    )

pub worst : (decks : List KeptDeck) (histories : List (List Entry))
    → IsWorst decks histories (step_code histories decks)
worst decks histories =
    record { most = entry_below decks histories; met = worst_met decks histories }
