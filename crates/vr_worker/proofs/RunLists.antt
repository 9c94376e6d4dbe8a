-- The decks of a step as they run, by the decks of the step.
use Rattle.std.proofs.Common.{◌≡◌, ◌∙◌, ◌+◌, ◌<◌, ◌==◌, ℕ, List, [], ◌∷◌, ◌++◌, All, ap, arith}
use Rattle.std.proofs.Common.{cond, false, get_or, length, map, refl, subst, sym, take}
use Rattle.std.specs.Prelude.{count_by}
use Rattle.std.proofs.lemmas.List.{get_or-map, length-map, map-append, take_more}
use Rattle.std.proofs.lemmas.List.Elements.{All-map}
use Rattle.std.proofs.lemmas.List.Sums.{sum_by-cons}
use Rattle.std.proofs.lemmas.Simd.{map-map}
use Rattle.vr_catalog.specs.declared.entry.CatEntry.{CatEntry}
use Rattle.vr_history.specs.declared.entry.Entry.{Entry}
use Rattle.vr_job_text.specs.declared.text.Deck.{Deck}
use Rattle.vr_trace.specs.Laws.{deck_entries}
use Rattle.vr_worker.specs.Decks.{AreNew, numbers_of}
use Rattle.vr_worker.specs.declared.deck.DeckRun.{DeckRun}
use Rattle.vr_worker.proofs.CallerLemmas.{all-unmapped}
use Rattle.vr_worker.specs.Runs.{AreFresh, AreRuns, DeckAsks, asks_in, asks_of, count_of}
use Rattle.vr_worker.specs.Runs.{deck_numbers}

-- one more
pub run-more : (catalogs : List (List CatEntry)) (decks : List Deck) (runs : List DeckRun) (i : ℕ)
    (deck : Deck) (run : DeckRun) → i < length decks → deck ≡ get_or decks i deck
    → AreRuns catalogs (take i decks) runs → asks_in run ≡ asks_of catalogs deck
    → AreRuns catalogs (take (i + 1) decks) (runs ++ run ∷ [])
run-more catalogs decks runs i deck run near at so_far own =
    map-append asks_in runs (run ∷ [])
    ∙ ap (λ (them : List DeckAsks). them ++ asks_in run ∷ []) so_far
    ∙ ap (λ (it : DeckAsks). map (asks_of catalogs) (take i decks) ++ it ∷ []) own
    ∙ sym (ap (map (asks_of catalogs)) (take_more decks i deck near
    ∙ ap (λ (it : Deck). take i decks ++ it ∷ []) (sym at))
    ∙ map-append (asks_of catalogs) (take i decks) (deck ∷ []))

-- a number is counted alike among the numbers of decks
count-numbers : (decks : List Deck) (number : ℕ)
    → count_by (λ (other : ℕ). other == number) (deck_numbers decks) ≡ count_of decks number
count-numbers [] number = refl
count-numbers (deck ∷ decks) number =
    sum_by-cons (λ (other : ℕ). cond (other == number) 1 0) deck.number (deck_numbers decks)
    ∙ ap (λ (n : ℕ). cond (deck.number == number) 1 0 + n) (count-numbers decks number)
    ∙ sym (sum_by-cons (λ (one : Deck). cond (one.number == number) 1 0) deck decks)

module _ (catalogs : List (List CatEntry)) (decks : List Deck) (runs : List DeckRun)
    (are : AreRuns catalogs decks runs) where
  pub runs-many : length runs ≡ length decks
  runs-many = sym (length-map runs asks_in) ∙ ap (λ (them : List DeckAsks). length them) are
      ∙ length-map decks (asks_of catalogs)

  -- they have the numbers of the decks
  pub run-numbers : numbers_of runs ≡ deck_numbers decks
  run-numbers = sym (map-map (λ (it : DeckAsks). it.number) asks_in runs)
      ∙ ap (map (λ (it : DeckAsks). it.number)) are
      ∙ map-map (λ (it : DeckAsks). it.number) (asks_of catalogs) decks

  -- and each has the requests of its deck
  pub run-at : (place : ℕ) (run : DeckRun) (deck : Deck) → place < length decks
      → asks_in (get_or runs place run) ≡ asks_of catalogs (get_or decks place deck)
  run-at place run deck near =
      sym (get_or-map asks_in runs place run (asks_of catalogs deck)
      (omega (arith, runs-many, near)))
      ∙ ap (λ (them : List DeckAsks). get_or them place (asks_of catalogs deck)) are
      ∙ get_or-map (asks_of catalogs) decks place deck (asks_of catalogs deck) near

  -- what holds of the number of each deck does of each as it runs
  pub runs-each : (P : ℕ → Type 0) → All (λ (deck : Deck). P deck.number) decks
      → All (λ (run : DeckRun). P run.number) runs
  runs-each P each = all-unmapped (λ (run : DeckRun). run.number) P runs
      (subst (All P) (sym run-numbers) (All-map P (λ (deck : Deck). deck.number) decks each))

  -- where the decks are new, so are they
  pub runs-new : {V : Type 0} (entries : V → List Entry) (volumes : List V)
      → AreFresh entries decks volumes → AreNew entries runs volumes
  runs-new {V} entries volumes fresh = record {
    once = λ number. omega (
      arith,
      ap (count_by (λ (other : ℕ). other == number)) run-numbers,
      count-numbers decks number,
      fresh.once number,
    );
    own = runs-each (λ (number : ℕ). (number == 0) ≡ false) fresh.own;
    fresh = runs-each (λ (number : ℕ). All (λ (volume : V).
        deck_entries number (entries volume) ≡ []) volumes) fresh.fresh;
  }
