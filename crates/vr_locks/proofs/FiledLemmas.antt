-- What the numbers that are filed under a key say of the list of locks.
use Rattle.std.proofs.Common.{◌≡◌, ℕ, ◌<◌, ◌≤◌, Bool, true, false, nat_eq, List, length, get_or}
use Rattle.std.proofs.Common.{Option, Some, refl, sym, ap, ◌∙◌, arith, ◌⊎◌, ⊎_elim, inl, inr}
use Rattle.std.proofs.lemmas.Bool.{cases_lt, eqb-true, eq-eqb, true≢false, false_from_ne_true}
use Rattle.std.proofs.lemmas.List.Folds.{Any-from_list_any, list_any_at}
use Rattle.std.proofs.lemmas.Grind.{get_or_default_zero}
use Rattle.vr_types.specs.Locks.{Lock}
use Rattle.vr_locks.specs.Listed.{IsFiled}

equal_or_below : (i m : ℕ) → i ≤ m → (i ≡ m) ⊎ (i < m)
equal_or_below i m above = ⊎_elim (λ less. inr less) (λ not_less. inl (omega arith)) (cases_lt i m)

module _ {K : Type 0} {same : K → K → Bool} {key : Lock → K} {at : ℕ
    → Option Lock} {bound : ℕ} {filed : K → List ℕ} (is : IsFiled same key at bound filed)
    (q : K) where
  -- the lock of a number under a key has that key
  pub key-filed : (i : ℕ) (lock : Lock) → i < length (filed q)
      → at (get_or (filed q) i 0) ≡ Some lock → same q (key lock) ≡ true
  key-filed i lock within there =
      sym (is.found q (get_or (filed q) i 0) lock there)
      ∙ list_any_at (nat_eq (get_or (filed q) i 0)) (filed q) i 0 within
      (eq-eqb (get_or (filed q) i 0) (get_or (filed q) i 0) refl)

  -- the numbers under a key are below the bound
  pub below-filed : (i : ℕ) → i < length (filed q) → get_or (filed q) i 0 < bound
  below-filed i within =
      let n = get_or (filed q) i 0 in
      ⊎_elim (λ less. less)
      (λ above. absurd
      (true≢false (sym (list_any_at (nat_eq n) (filed q) i 0 within (eq-eqb n n refl))
      ∙ is.below q n above)))
      (cases_lt n bound)

  -- the number of a lock with the key is one of those under it
  pub place-filed : (n : ℕ) (lock : Lock) → at n ≡ Some lock → same q (key lock) ≡ true
      → (i : ℕ) × (i < length (filed q)) × (get_or (filed q) i 0 ≡ n)
  place-filed n lock there has =
      let any = Any-from_list_any (nat_eq n) (filed q) (is.found q n lock there ∙ has) in (
        any.0,
        any.2,
        sym (get_or_default_zero (filed q) any.0 any.1 any.2) ∙ any.3
            ∙ sym (eqb-true n any.1 any.4),
      )

  before_place : (i m n : ℕ) → i < length (filed q) → m < length (filed q)
      → get_or (filed q) m 0 ≡ n → n < get_or (filed q) i 0 → m < i
  before_place i m n within here is_n less =
      ⊎_elim (λ below. below)
      (λ above. ⊎_elim
      (λ (one : i ≡ m). absurd (let read : get_or (filed q) i 0 ≡ get_or (filed q) m 0 = ap
      (λ k. get_or (filed q) k 0) one in omega arith))
      (λ (later : i < m). absurd (let rise : get_or (filed q) i 0 < get_or
      (filed q) m 0 = is.rising q i m 0 later here in omega arith))
      (equal_or_below i m above))
      (cases_lt m i)

  module _ (test : Lock → Bool) (of_key : (lock : Lock) → test lock ≡ true
      → same q (key lock) ≡ true) where
    -- where no lock under the key passes, none does
    pub none-filed : ((i : ℕ) (lock : Lock) → i < length (filed q)
        → at (get_or (filed q) i 0) ≡ Some lock → test lock ≡ false)
        → (n : ℕ) (lock : Lock) → at n ≡ Some lock → test lock ≡ false
    none-filed none n lock there =
        false_from_ne_true (test lock)
        (λ passes.
        let place = place-filed n lock there (of_key lock passes) in
        true≢false (sym passes ∙ none place.0 lock place.1 (ap at place.2 ∙ there)))

    -- where none of those before a place passes, no lock with a lower number does
    pub none-before : (i : ℕ) → i < length (filed q)
        → ((m : ℕ) (lock : Lock) → m < i → at (get_or (filed q) m 0) ≡ Some lock
        → test lock ≡ false)
        → (n : ℕ) (lock : Lock) → n < get_or (filed q) i 0 → at n ≡ Some lock → test lock ≡ false
    none-before i within none n lock less there =
        false_from_ne_true (test lock)
        (λ passes.
        let place = place-filed n lock there (of_key lock passes) in
        let earlier : place.0 < i = before_place i place.0 n within place.1 place.2 less in
        true≢false (sym passes ∙ none place.0 lock earlier (ap at place.2 ∙ there)))
