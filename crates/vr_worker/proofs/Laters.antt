-- The stamps of volumes, and the greatest of their last ones.
use Rattle.std.proofs.Common.{◌≡◌, ◌∙◌, ◌<◌, ◌≤◌, ◌==◌, ℕ, zero, suc, Bool, true, List, [], ◌∷◌}
use Rattle.std.proofs.Common.{◌++◌}
use Rattle.std.proofs.Common.{All, ap, arith, cond, drop, get_or, inl, inr, length, max, refl}
use Rattle.std.proofs.Common.{subst, sym}
use Rattle.std.specs.List.{filter}
use Rattle.std.specs.Prelude.{Contains}
use Rattle.std.proofs.Math.Seq.{drop-append_seam}
use Rattle.std.proofs.lemmas.Bool.{cases_Bool}
use Rattle.std.proofs.lemmas.Bool.Decides.{Decides-eqb}
use Rattle.std.proofs.lemmas.List.{append-nil}
use Rattle.std.proofs.lemmas.List.Elements.{All-cons, All-head, All-nil, All-tail}
use Rattle.std.proofs.lemmas.List.Elements.{All-same, All-weaker}
use Rattle.vr_history.specs.Merged.{IsStamped, last_stamp}
use Rattle.vr_history.specs.declared.entry.Entry.{Entry}
use Rattle.vr_trace.specs.Code.{greatest}
use Rattle.vr_trace.specs.Laws.{deck_entries}
use Rattle.vr_trace.specs.Growing.{AreAbove, AreUpTo, ComeLater, gained, greatest_last}
use Rattle.vr_worker.specs.Latched.{IsOfOne}
use Rattle.vr_worker.proofs.Taken.{last-above}

-- ---- the entries of one volume

up-to-last : (before : ℕ) (entries : List Entry) → IsStamped before entries
    → AreUpTo (last_stamp before entries) entries
up-to-last before [] is = All-nil (λ (entry : Entry). entry.stamp ≤ before)
up-to-last before (entry ∷ entries) is = All-cons
    (λ (one : Entry). one.stamp ≤ last_stamp entry.stamp entries) entry entries
    (last-above entry.stamp entries is.1) (up-to-last entry.stamp entries is.1)

-- stamps that rise from one on are above it
pub above-stamped : (before : ℕ) (entries : List Entry) → IsStamped before entries
    → AreAbove before entries
above-stamped before [] is = All-nil (λ (entry : Entry). before < entry.stamp)
above-stamped before (entry ∷ entries) is = All-cons
    (λ (one : Entry). before < one.stamp) entry entries is.0
    (All-weaker (λ (one : Entry). entry.stamp < one.stamp) (λ (one : Entry). before < one.stamp)
    (λ one above. omega (arith, is.0, above)) entries (above-stamped entry.stamp entries is.1))

pub gained-is : (old new more : List Entry) → new ≡ old ++ more → gained old new ≡ more
gained-is old new more grew = ap (drop (length old)) grew ∙ drop-append_seam old more

-- ---- the greatest of some numbers

greatest-push : {X : Type 0} (f : X → ℕ) (xs : List X) (x : X)
    → greatest f (xs ++ x ∷ []) ≡ max (f x) (greatest f xs)
greatest-push f [] x = refl
greatest-push f (y ∷ xs) x = omega (arith, greatest-push f xs x)

at-most-greatest : {X : Type 0} (f : X → ℕ) (xs : List X) (k : ℕ) (x : X) → k < length xs
    → f (get_or xs k x) ≤ greatest f xs
at-most-greatest f [] k x near = absurd (omega (arith, near))
at-most-greatest f (y ∷ xs) zero x near = omega arith
at-most-greatest f (y ∷ xs) (suc k) x near =
    omega (arith, at-most-greatest f xs k x (omega (arith, near)))

module _ {V : Type 0} (entries : V → List Entry) where
  abbrev last_in : V → ℕ
  last_in volume = last_stamp 0 (entries volume)

  pub greatest-more : (volumes : List V) (volume : V) (last now : ℕ)
      → last ≡ greatest_last entries volumes → now ≡ max (last_stamp 0 (entries volume)) last
      → now ≡ greatest_last entries (volumes ++ volume ∷ [])
  greatest-more volumes volume last now was is =
      omega (arith, was, is, greatest-push last_in volumes volume)

  -- no stamp of the volumes is above it
  pub none-above : (volumes : List V)
      → All (λ (volume : V). IsStamped 0 (entries volume)) volumes
      → All (λ (volume : V). AreUpTo (greatest_last entries volumes) (entries volume)) volumes
  none-above volumes stamped k volume near =
      let it : List Entry = entries (get_or volumes k volume) in
      All-weaker (λ (entry : Entry). entry.stamp ≤ last_stamp 0 it)
      (λ (entry : Entry). entry.stamp ≤ greatest_last entries volumes)
      (λ entry below. omega (arith, below, at-most-greatest last_in volumes k volume near)) it
      (up-to-last 0 it (stamped k volume near))

  -- where they stay, none gained any
  pub none-later : (volumes : List V)
      → All (λ (volume : V). AreUpTo (greatest_last entries volumes) (entries volume)) volumes
      → ComeLater entries volumes volumes
  none-later volumes had = record {
    had = had;
    gains = λ place volume near.
        let it : List Entry = entries (get_or volumes place volume) in
        All-same (λ (entry : Entry). greatest_last entries volumes < entry.stamp) (gained it it) []
        (gained-is it it [] (sym (append-nil it)))
        (All-nil (λ (entry : Entry). greatest_last entries volumes < entry.stamp));
  }

-- ---- the entries of decks

-- what is so of all that a test keeps is so of one that it keeps
pub one-kept : {X : Type 0} (p : X → Bool) (P : X → Type 0) (xs : List X) → All P (filter p xs)
    → (k : ℕ) (x : X) → k < length xs → p (get_or xs k x) ≡ true → P (get_or xs k x)
one-kept p P [] all k x near is = absurd (omega (arith, near))
one-kept p P (y ∷ xs) all zero x near is = All-head P y (filter p xs)
    (subst (All P) (ap (λ (b : Bool). cond b (y ∷ filter p xs) (filter p xs)) is) all)
one-kept p P (y ∷ xs) all (suc k) x near is = elim (cases_Bool (p y)) [
  | inl kept ↦ one-kept p P xs (All-tail P y (filter p xs)
      (subst (All P) (ap (λ (b : Bool). cond b (y ∷ filter p xs) (filter p xs)) kept) all)) k x
      (omega (arith, near)) is
  | inr left ↦ one-kept p P xs
      (subst (All P) (ap (λ (b : Bool). cond b (y ∷ filter p xs) (filter p xs)) left) all) k x
      (omega (arith, near)) is
]

-- what is so of the entries of each of some decks is so of all entries of these decks
pub all-of-decks : (P : Entry → Type 0) (decks : List ℕ) (entries : List Entry)
    → All (IsOfOne decks) entries
    → All (λ (deck : ℕ). All P (deck_entries deck entries)) decks → All P entries
all-of-decks P decks entries own each k entry near =
    let it : Entry = get_or entries k entry in
    let deck : ℕ = it.unit.deck in
    let named : Contains decks deck = own k entry near in
    one-kept (λ (one : Entry). one.unit.deck == deck) P entries
    (subst (λ (d : ℕ). All P (deck_entries d entries)) named.2 (each named.0 deck named.1)) k entry
    near ((Decides-eqb deck deck).1 refl)
