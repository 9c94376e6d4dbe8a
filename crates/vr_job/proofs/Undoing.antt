-- That a unit which has begun to undo shows it in its deck's own entries, after an event too.
use Rattle.std.proofs.Common.{◌≡◌, ◌≢◌, ◌∙◌, inl, inr, ⊎_elim, ℕ, ◌==◌, ◌&&◌, ◌||◌, Bool, true}
use Rattle.std.proofs.Common.{false, cond, List, [], ◌∷◌, ◌++◌, not, ap, eq-eqb, ne_eqb, refl, subst, sym}
use Rattle.std.specs.Prelude.{◌⊎◌, All, IsTrue}
use Rattle.std.proofs.lemmas.Bool.{and_from, and_parts, both_ways, eqb-true, not-true, or_cases}
use Rattle.std.proofs.lemmas.List.{append-nil}
use Rattle.vr_types.specs.Locks.{same_unit}
use Rattle.vr_types.specs.Seen.{Seen}
use Rattle.vr_types.specs.declared.fault.DeviceFault.{DeviceFault}
use Rattle.vr_types.specs.declared.request.Request.{Request}
use Rattle.vr_types.specs.declared.unit.Unit.{Unit as UnitOfRecovery}
use Rattle.vr_history.specs.Legal.{is_backout}
use Rattle.vr_history.specs.State.{State}
use Rattle.vr_history.specs.declared.entry.Entry.{Entry}
use Rattle.vr_history.specs.declared.entry.What.{What}
use Rattle.vr_history.specs.declared.entry.What.TheVariants.{Faulted}
use Rattle.vr_ledger.proofs.CallerLemmas.{entries_of-append, entries_of-kept, entries_of-more}
use Rattle.vr_ledger.specs.Entries.{IsOf}
use Rattle.vr_record_file.specs.Now.{FileNow, is_undoing, is_undoing_from, number_of, undoing_after}
use Rattle.vr_record_file.specs.declared.numbers.DeckNumber.{DeckNumber}
use Rattle.vr_event.specs.Acting.{MayAct}
use Rattle.vr_event.specs.Made.{HasAsked, HasMade, IsStepFor}
use Rattle.vr_event.specs.Volume.{IsHeld, VolumeNow}
use Rattle.vr_event.specs.declared.act.Act.{Act}
use Rattle.vr_event.specs.declared.act.Act.TheVariants.{Again, Done}
use Rattle.vr_trace.specs.Laws.{deck_entries}
use Rattle.vr_worker.specs.Asked as asked
use Rattle.vr_worker.specs.Asked.{MayAsk, undoes, undoes_from}
use Rattle.vr_job.specs.Serving.{ShowUndoing, unit_of}
use Rattle.vr_job.proofs.Entering.{made-own, undoes-append}

-- ---- one unit and another

same-unit : (unit other : UnitOfRecovery) → unit ≡ other → same_unit unit other ≡ true
same-unit unit other same = and_from (unit.deck == other.deck) (unit.number == other.number)
    (eq-eqb unit.deck other.deck (ap (λ (u : UnitOfRecovery). u.deck) same))
    (eq-eqb unit.number other.number (ap (λ (u : UnitOfRecovery). u.number) same))

one-unit : (unit other : UnitOfRecovery) → same_unit unit other ≡ true → unit ≡ other
one-unit unit other same =
    let parts = and_parts (unit.deck == other.deck) (unit.number == other.number) same in
    let First : ℕ → UnitOfRecovery = λ deck. record { deck = deck; number = unit.number } in
    let Second : ℕ → UnitOfRecovery = λ number. record { deck = other.deck; number = number } in
    ap First (eqb-true unit.deck other.deck parts.0)
    ∙ ap Second (eqb-true unit.number other.number parts.1)

-- entry by entry
undoing-append : (unit : UnitOfRecovery) (before : Bool) (entries more : List Entry)
    → is_undoing_from unit before (entries ++ more)
    ≡ is_undoing_from unit (is_undoing_from unit before entries) more
undoing-append unit before [] more = refl
undoing-append unit before (entry ∷ entries) more =
    undoing-append unit (undoing_after unit before entry entry.what) entries more

-- ---- where nothing is entered

-- it shows as before where the numbers of units and the history stay
pub shows-same : (old new : FileNow) → new.entries ≡ old.entries
    → ((deck : ℕ) → number_of new.numbers deck ≡ number_of old.numbers deck) → ShowUndoing old
    → ShowUndoing new
shows-same old new entries numbers shows unit undoing =
    let had = shows unit
    (subst (λ (es : List Entry). is_undoing unit es ≡ true) entries undoing) in (
      had.0 ∙ ap (λ (n : ℕ). record { deck = unit.deck; number = n }) (sym (numbers unit.deck)),
      ap (λ (es : List Entry). undoes (deck_entries unit.deck es)) entries ∙ had.1,
    )

-- ---- where an entry more leaves a unit that has begun to undo so

module _ (old new : FileNow) (entry : Entry)
    (entries : new.entries ≡ old.entries ++ entry ∷ []) (numbers : new.numbers ≡ old.numbers)
    (shows : ShowUndoing old) where
  abbrev Shown : UnitOfRecovery → Type 0
  Shown unit = (unit ≡ unit_of unit.deck new)
      × (undoes (deck_entries unit.deck new.entries) ≡ true)

  still : (unit : UnitOfRecovery) → unit ≡ unit_of unit.deck old → unit ≡ unit_of unit.deck new
  still unit is = is ∙ ap (λ (them : List DeckNumber). record {
    deck = unit.deck;
    number = number_of them unit.deck;
  }) (sym numbers)

  -- a unit that had begun before
  before-shown : asked.undoing_after true entry.what ≡ true → (unit : UnitOfRecovery)
      → is_undoing unit old.entries ≡ true → Shown unit
  before-shown keeps unit undoing = (
    still unit (shows unit undoing).0,
    ap (λ (es : List Entry). undoes (deck_entries unit.deck es)) entries
        ∙ ap undoes (entries_of-append unit.deck old.entries (entry ∷ []))
        ∙ undoes-append false (deck_entries unit.deck old.entries)
        (deck_entries unit.deck (entry ∷ []))
        ∙ ap (λ (b : Bool). undoes_from b (deck_entries unit.deck (entry ∷ [])))
        (shows unit undoing).1
        ∙ by_test (entry.unit.deck == unit.deck),
  )
    where
      by_test : (b : Bool) → undoes_from true (cond b (entry ∷ []) []) ≡ true
      by_test true = keeps
      by_test false = refl

  -- whether a unit has begun by then
  undoing-then : (unit : UnitOfRecovery) → is_undoing unit new.entries
      ≡ undoing_after unit (is_undoing unit old.entries) entry entry.what
  undoing-then unit =
      ap (is_undoing unit) entries ∙ undoing-append unit false old.entries (entry ∷ [])

  -- a fault of the device does
  pub fault-shows : (fault : DeviceFault) → entry.what ≡ Faulted fault → ShowUndoing new
  fault-shows fault is unit undoing = before-shown (ap (asked.undoing_after true) is) unit
      (sym (undoing-then unit
      ∙ ap (undoing_after unit (is_undoing unit old.entries) entry) is) ∙ undoing)

  -- ---- where a step is entered

  module _ (asking : UnitOfRecovery) (line : ℕ) (request : Request)
      (step : IsStepFor asking line request entry) (current : asking ≡ unit_of asking.deck old)
    where
      -- the entry leaves a deck as one that undoes
      keeps : asked.undoing_after true entry.what ≡ true
      keeps = ⊎_elim (λ split. ap (asked.undoing_after true) split.1)
          (λ later. ⊎_elim (λ claim. ap (asked.undoing_after true) claim.2)
          (λ back. ap (asked.undoing_after true) back.3) later) step.2

      -- the one that asks, which puts a before-image back
      asking-shown : ((before : Bool) → asked.undoing_after before entry.what ≡ true)
          → All (IsOf asking.deck) (entry ∷ []) → Shown asking
      asking-shown undone own = (
        still asking current,
        ap (λ (es : List Entry). undoes (deck_entries asking.deck es)) entries
            ∙ ap undoes (entries_of-more asking.deck old.entries (entry ∷ []) own)
            ∙ undoes-append false (deck_entries asking.deck old.entries) (entry ∷ [])
            ∙ undone (undoes (deck_entries asking.deck old.entries)),
      )

      pub step-shows : All (IsOf asking.deck) (entry ∷ []) → ShowUndoing new
      step-shows own unit undoing = ⊎_elim
          (λ split. before-shown keeps unit
          (sym (whole ∙ ap (undoing_after unit was entry) split.1) ∙ undoing))
          (λ later. ⊎_elim
          (λ claim. before-shown keeps unit
          (sym (whole ∙ ap (undoing_after unit was entry) claim.2) ∙ undoing))
          (λ back. ⊎_elim (before-shown keeps unit)
          (λ same. subst Shown (sym (one-unit unit asking same))
          (asking-shown (λ before. ap (asked.undoing_after before) back.3) own))
          (or_cases was (same_unit unit asking) (sym (whole
          ∙ ap (undoing_after unit was entry) back.3
          ∙ ap (λ (u : UnitOfRecovery). was || same_unit unit u) step.0) ∙ undoing)))
          later) step.2
        where
          was : Bool
          was = is_undoing unit old.entries

          whole : is_undoing unit new.entries ≡ undoing_after unit was entry entry.what
          whole = undoing-then unit

-- ---- where the request is entered

module _ (asking : UnitOfRecovery) (line : ℕ) (request : Request) (old new : FileNow)
    (made : List Entry) (entries : new.entries ≡ old.entries ++ made)
    (is : HasAsked asking line request made) (own : All (IsOf asking.deck) made)
    (others : (other : ℕ) → (other == asking.deck) ≡ false
    → number_of new.numbers other ≡ number_of old.numbers other)
    (current : asking ≡ unit_of asking.deck old) (shows : ShowUndoing old) where
  -- the asking unit has ended what it undid, and another goes on
  asked-undoing : (unit : UnitOfRecovery) → is_undoing unit new.entries
      ≡ (is_undoing unit old.entries && not (same_unit unit asking))
  asked-undoing unit = ap (is_undoing unit) entries
      ∙ ap (λ (m : List Entry). is_undoing unit (old.entries ++ m)) is.is
      ∙ undoing-append unit false old.entries (is.entry ∷ is.rest)
      ∙ ap (λ (w : What). is_undoing_from unit (undoing_after unit was is.entry w) is.rest)
      is.what_is
      ∙ ap (λ (u : UnitOfRecovery). is_undoing_from unit (was && not (same_unit unit u)) is.rest)
      is.unit_is
      ∙ rest-stays (was && not (same_unit unit asking))
    where
      was : Bool
      was = is_undoing unit old.entries

      rest-stays : (b : Bool) → is_undoing_from unit b is.rest ≡ b
      rest-stays b = ⊎_elim (λ none. ap (is_undoing_from unit b) none)
          (λ fault. ap (is_undoing_from unit b) fault.is
          ∙ ap (undoing_after unit b fault.fault) fault.what_is) is.follows

  -- a unit that is its deck's current one, and not the one that asks, is of another deck
  apart : (unit : UnitOfRecovery) → unit ≡ unit_of unit.deck old
      → same_unit unit asking ≡ false → unit.deck ≢ asking.deck
  apart unit its differs same = both_ways (same_unit unit asking) differs
      (same-unit unit asking
      (its ∙ ap (λ (deck : ℕ). unit_of deck old) same ∙ sym current))

  pub asked-shows : ShowUndoing new
  asked-shows unit undoing = (
    had.0 ∙ ap (λ (n : ℕ). record { deck = unit.deck; number = n })
        (sym (others unit.deck (ne_eqb unit.deck asking.deck differs))),
    ap (λ (es : List Entry). undoes (deck_entries unit.deck es)) entries
        ∙ ap undoes (entries_of-kept unit.deck asking.deck old.entries made
        (λ same. differs (sym same)) own)
        ∙ had.1,
  )
    where
      parts : (is_undoing unit old.entries ≡ true) × (not (same_unit unit asking) ≡ true)
      parts = and_parts (is_undoing unit old.entries) (not (same_unit unit asking))
          (sym (asked-undoing unit) ∙ undoing)

      had : (unit ≡ unit_of unit.deck old)
          × (undoes (deck_entries unit.deck old.entries) ≡ true)
      had = shows unit parts.0

      differs : unit.deck ≢ asking.deck
      differs = apart unit had.0 (not-true (same_unit unit asking) parts.1)

-- ---- an event

-- What has begun to undo shows it after an event too: where the request is entered, only units of
-- other decks go on undoing; and a step leaves it or begins it.
pub event-shows : (act : Act) (after : ℕ) (asking : UnitOfRecovery) (line : ℕ) (request : Request)
    (old new : FileNow) → HasMade act after asking line request old new
    → asking ≡ unit_of asking.deck old → ShowUndoing old → ShowUndoing new
event-shows Done after asking line request old new is current shows =
    asked-shows asking line request old new is.made is.entries is.by
    (made-own Done asking line request is.made is.by) is.others current shows
event-shows (Again given) after asking line request old new is current shows = ⊎_elim
    (λ none. shows-same old new
    (is.entries ∙ ap (λ (m : List Entry). old.entries ++ m) none ∙ append-nil old.entries)
    (λ deck. ap (λ (them : List DeckNumber). number_of them deck) is.numbers) shows)
    (λ one. step-shows old new one.0
    (is.entries ∙ ap (λ (m : List Entry). old.entries ++ m) one.1) is.numbers shows asking line
    request one.2 current
    (subst (All (IsOf asking.deck)) one.1
    (made-own (Again given) asking line request is.made is.by)))
    is.by

-- ---- what may be asked

-- A unit that may ask by its deck's own entries may act: where it has begun to undo, they show it.
pub may-act : {B : Type 0} (seen : B → Seen) (opening : State) (volume : VolumeNow B)
    (unit : UnitOfRecovery) (request : Request) → unit ≡ unit_of unit.deck volume.file
    → (unit.deck == 0) ≡ false → ShowUndoing volume.file
    → MayAsk request (deck_entries unit.deck volume.file.entries) → IsHeld seen opening volume
    → MayAct opening volume.file unit request
may-act seen opening volume unit request current own shows may held = record {
  current = ap (λ (u : UnitOfRecovery). u.number) current ∙ held.file.now.numbers unit.deck;
  of_deck = own;
  goes_on = by_test (is_undoing unit volume.file.entries) refl;
}
  where
    by_test : (b : Bool) → is_undoing unit volume.file.entries ≡ b
        → (is_undoing unit volume.file.entries ≡ false) ⊎ IsTrue (is_backout request)
    by_test false is = inl is
    by_test true is = ⊎_elim
        (λ none. absurd (both_ways (undoes (deck_entries unit.deck volume.file.entries)) none
        (shows unit is).1))
        (λ back. inr back) may
