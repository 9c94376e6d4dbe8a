-- The decks of a step as they run, and what they asked. The rules are this project's own.
use Rattle.std.specs.Prelude.{◌≡◌, ◌==◌, ◌≤◌, ℕ, List, [], ◌++◌, All, Result, OnOk, count_by}
use Rattle.std.specs.Prelude.{false, map}
use Rattle.vr_types.specs.declared.bound.Bound.{Bound}
use Rattle.vr_catalog.specs.declared.entry.CatEntry.{CatEntry}
use Rattle.vr_bind.specs.Bound.{bound_requests}
use Rattle.vr_history.specs.Merged.{merged, part_of_deck}
use Rattle.vr_history.specs.declared.entry.Entry.{Entry}
use Rattle.vr_job_text.specs.declared.text.Deck.{Deck}
use Rattle.vr_trace.specs.Laws.{AreRising, deck_entries, of_deck}
use Rattle.vr_worker.specs.declared.deck.DeckRun.{DeckRun}
use Rattle.vr_worker.specs.Asks.{IsPrefixOf, all_ask, requests_of}

-- a deck's number and its requests
pub record DeckAsks : Type 0 where
  pub number : ℕ
  pub requests : List Bound

-- those of a deck by these catalogs
abbrev pub asks_of : List (List CatEntry) → Deck → DeckAsks
asks_of catalogs deck = record {
  number = deck.number;
  requests = bound_requests deck.text catalogs;
}

-- and those of one as it runs
abbrev pub asks_in : DeckRun → DeckAsks
asks_in run = record { number = run.number; requests = run.requests.items }

-- the decks as they run, each with its requests
abbrev pub AreRuns : List (List CatEntry) → List Deck → List DeckRun → Type 0
AreRuns catalogs decks runs = map asks_in runs ≡ map (asks_of catalogs) decks

-- the numbers of decks
abbrev pub deck_numbers : List Deck → List ℕ
deck_numbers decks = map (λ (deck : Deck). deck.number) decks

-- how many of the decks have a number
abbrev pub count_of : List Deck → ℕ → ℕ
count_of decks number = count_by (λ (deck : Deck). deck.number == number) decks

-- The decks have numbers of their own, from 1 on, and entered nothing on these volumes yet.
pub record AreFresh {V : Type 0} (entries : V → List Entry) (decks : List Deck) (volumes : List V)
    : Type 0 where
  pub once : (number : ℕ) → count_of decks number ≤ 1
  pub own : All (λ (deck : Deck). (deck.number == 0) ≡ false) decks
  pub fresh : All (λ (deck : Deck). All (λ (volume : V).
      deck_entries deck.number (entries volume) ≡ []) volumes) decks

-- A deck number asked the first of these requests after what it had asked: all, where the step is
-- done.
pub record HasAskedMore {E : Type 0} (result : Result (Unit {0}) E) (requests old new : List Bound)
    : Type 0 where
  pub first : List Bound
  pub asked : new ≡ old ++ first
  pub prefix : IsPrefixOf first requests
  pub whole : OnOk result (first ≡ requests)

-- and so did each, by the histories of the volumes before the step and after it
abbrev pub HaveAsked : {E : Type 0} → List (List CatEntry) → List Deck → Result (Unit {0}) E
    → List (List Entry) → List (List Entry) → Type 0
HaveAsked catalogs decks result old new = (number : ℕ)
    → HasAskedMore result (all_ask (requests_of catalogs) decks number)
    (part_of_deck number (merged old)) (part_of_deck number (merged new))

-- Where the stamps of a number's entries rose over all volumes before the step, they rise after it.
abbrev pub StayRising : List (List Entry) → List (List Entry) → Type 0
StayRising old new = (number : ℕ) → AreRising (of_deck number (merged old))
    → AreRising (of_deck number (merged new))
