-- The decks of a step, and what they leave of the volumes. The rules are this project's own.
use Rattle.std.specs.Prelude.{◌≡◌, ◌⊎◌, ◌<◌, ◌≤◌, ◌-◌, ◌^◌, ◌==◌, ℕ, List, [], false, All, Contains}
use Rattle.std.specs.Prelude.{Result}
use Rattle.std.specs.Prelude.{OnOk, get_or, length, map, take, count_by}
use Rattle.vr_history.specs.Merged.{last_stamp, merged, part_of_deck}
use Rattle.vr_history.specs.declared.entry.Entry.{Entry}
use Rattle.vr_trace.specs.Laws.{AreRising, deck_entries, of_deck}
use Rattle.vr_worker.specs.Latched.{IsSince}
use Rattle.vr_worker.specs.declared.deck.DeckRun.{DeckRun}
use Rattle.vr_trace.specs.declared.no.RunNo.{RunNo}

-- the volume at each place has the number of the place
abbrev pub ArePlaced : {V : Type 0} → (V → ℕ) → List V → Type 0
ArePlaced {V} number volumes = (place : ℕ) (volume : V) → place < length volumes
    → number (get_or volumes place volume) ≡ place

-- the numbers of decks
abbrev pub numbers_of : List DeckRun → List ℕ
numbers_of decks = map (λ (deck : DeckRun). deck.number) decks

-- each has a number of its own
abbrev pub IsOnce : List DeckRun → Type 0
IsOnce decks = (number : ℕ) → count_by (λ (other : ℕ). other == number) (numbers_of decks) ≤ 1

-- The decks have numbers of their own, from 1 on, and entered nothing on these volumes yet.
pub record AreNew {V : Type 0} (entries : V → List Entry) (decks : List DeckRun) (volumes : List V)
    : Type 0 where
  pub once : IsOnce decks
  pub own : All (λ (deck : DeckRun). (deck.number == 0) ≡ false) decks
  pub fresh : All (λ (deck : DeckRun). All (λ (volume : V).
      deck_entries deck.number (entries volume) ≡ []) volumes) decks

-- Each volume that comes back is since the one at its place: a later state of it, whose history grew
-- by entries of these decks alone.
pub record AreSince {V : Type 0} (entries : V → List Entry) (follows : V → V → Type 0)
    (decks : List ℕ) (old new : List V) : Type 0 where
  pub count : length new ≡ length old
  pub each : (place : ℕ) (volume : V) → place < length old
      → IsSince entries follows decks (get_or old place volume) (get_or new place volume)

-- A deck's part of the merged history of the volumes is the first of its requests, each once and in
-- order: all of them, where the step is done. Over all volumes, the stamps of its entries rise.
pub record HasAsked (result : Result (Unit {0}) RunNo) (histories : List (List Entry))
    (deck : DeckRun) : Type 0 where
  pub count : ℕ
  pub asked : part_of_deck deck.number (merged histories) ≡ take count deck.requests.items
  pub whole : OnOk result (take count deck.requests.items ≡ deck.requests.items)
  pub rising : AreRising (of_deck deck.number (merged histories))

-- an entry is of the last unit of recovery that a deck may have on a volume
abbrev pub HasLastUnit : List Entry → Type 0
HasLastUnit entries = (entry : Entry) × Contains entries entry × (2 ^ 32 - 2 ≤ entry.unit.number)

-- the last stamp of a history is 2^62 or more, or one of its decks came to its last unit of recovery
abbrev pub IsUsedUp : List Entry → Type 0
IsUsedUp entries = (2 ^ 62 ≤ last_stamp 0 entries) ⊎ HasLastUnit entries

-- so it is with the history of one of the volumes
pub record HasUsedUp {V : Type 0} (entries : V → List Entry) (volumes : List V) : Type 0 where
  pub volume : V
  pub one : Contains volumes volume
  pub used : IsUsedUp (entries volume)
