-- What the decks of a step asked, by the volumes that come back.
use Rattle.std.proofs.Common.{◌≡◌, ◌∙◌, ◌<◌, ◌==◌, ℕ, List, [], ◌∷◌, ◌++◌, All, Result, Ok, Err}
use Rattle.std.proofs.Common.{◌+◌, ◌⊎◌, ap, arith, eq-eqb, false, inl, inr, get_or, length, map}
use Rattle.std.proofs.Common.{refl, subst, sym, take, true}
use Rattle.std.specs.List.{filter}
use Rattle.std.specs.Prelude.{Contains, OnOk}
use Rattle.std.proofs.lemmas.Bool.{cases_lt}
use Rattle.std.proofs.lemmas.List.{get_or-map, get_or_past, length-map}
use Rattle.std.proofs.lemmas.Bool.Decides.{Decides-eqb}
use Rattle.std.proofs.lemmas.List.Elements.{All-contains, All-filter, All-map, Contains-get_or}
use Rattle.std.proofs.lemmas.List.Elements.{filter-append, filter_passes}
use Rattle.vr_history.specs.Merged.{IsStamped, Numbered, merged, part_of_deck}
use Rattle.vr_history.specs.declared.entry.Entry.{Entry}
use Rattle.vr_ledger.specs.Entries.{HasGrown}
use Rattle.vr_ledger.specs.Ledger.{LedgerNow}
use Rattle.vr_ledger.specs.Turn.{TurnNow}
use Rattle.vr_trace.proofs.CallerLemmas.{deck_asked}
use Rattle.vr_trace.proofs.CallerLemmas.{requests_of_deck}
use Rattle.vr_trace.specs.Laws.{AreRising, deck_entries, entries_on, entry_of, history_at, is_on}
use Rattle.vr_trace.specs.Laws.{of_deck}
use Rattle.vr_trace.specs.Numbering.{with_volume}
use Rattle.vr_worker.specs.Asked.{undoes}
use Rattle.vr_trace.specs.Growing.{FollowsOne, IsNext}
use Rattle.vr_worker.specs.Deck.{IsNextOn, IsRunSeat}
use Rattle.vr_worker.specs.Decks.{AreNew, AreSince, HasAsked}
use Rattle.vr_trace.specs.Growing.{AreAbove, ComeNext, FollowsOneOf}
use Rattle.vr_worker.specs.Decks.{numbers_of}
use Rattle.vr_trace.specs.Growing.{IsEntered, gained, greatest_last}
use Rattle.vr_worker.specs.Latched.{ComesNext, IsSince}
use Rattle.vr_worker.specs.Latched.ComesNext.{AfterLast, AfterOwn, AfterVolume}
use Rattle.vr_worker.specs.Ready.{AreTold, IsBegun, IsDone, IsReady, IsToldAt, deck_of, decks_of}
use Rattle.vr_worker.specs.Ready.{HaveRun, history_of, table_at, turn_at}
use Rattle.vr_worker.specs.declared.deck.DeckRun.{DeckRun}
use Rattle.vr_worker.specs.declared.deck.Seat.{Seat}
use Rattle.vr_trace.specs.declared.no.RunNo.{RunNo}
use Rattle.vr_trace.specs.declared.no.RunNo.TheVariants.{Memory}
use Rattle.vr_worker.proofs.Laters.{above-stamped, all-of-decks, gained-is}
use Rattle.vr_worker.proofs.Kept.{contains-kept, contains-map, kept-contains, map-contains}
use Rattle.vr_worker.proofs.Nexts.{next-more, not-grown}
use Rattle.vr_worker.proofs.Places.{all-unmapped}
use Rattle.vr_worker.proofs.Taken.{stamped-above}
use Rattle.vr_worker.proofs.Volumes.{as-many, history-there, table-there}

-- where the whole was done, each part of it was
pub ok-through : (result end : Result (Unit {0}) RunNo) (P : Type 0) → OnOk result (end ≡ Ok tt)
    → OnOk end P → OnOk result P
ok-through (Ok value) end P done has =
    subst (λ (it : Result (Unit {0}) RunNo). OnOk it P) done has
ok-through (Err fault) end P done has = tt

ok-map : (result : Result (Unit {0}) RunNo) (P Q : Type 0) → (P → Q) → OnOk result P → OnOk result Q
ok-map (Ok value) P Q step has = step has
ok-map (Err fault) P Q step has = tt

-- a deck entered nothing on volumes, nor where there is none
fresh-at : {V : Type 0} (entries : V → List Entry) (volumes : List V) (deck : ℕ)
    → All (λ (volume : V). deck_entries deck (entries volume) ≡ []) volumes → (volume : ℕ)
    → deck_entries deck (history_at (map entries volumes) volume) ≡ []
fresh-at entries volumes deck fresh volume = elim (cases_lt volume (length (map entries volumes))) [
  | inl near ↦ All-map (λ (history : List Entry). deck_entries deck history ≡ []) entries volumes
      fresh volume [] near
  | inr far ↦ ap (deck_entries deck) (get_or_past (map entries volumes) volume [] far)
]

-- a deck's part of the merged history is what it entered, whose stamps rise, and which is all that
-- each volume has of it
module _ (deck : ℕ) (histories : List (List Entry)) (made : List Numbered)
    (rising : AreRising made)
    (each : (volume : ℕ)
    → entries_on volume made ≡ deck_entries deck (history_at histories volume)) where
  asked-by : part_of_deck deck (merged histories) ≡ part_of_deck deck made
  asked-by = requests_of_deck deck (merged histories)
      ∙ ap (part_of_deck deck) (deck_asked deck histories made rising each)

  -- so the stamps of that part rise
  rising-by : AreRising (of_deck deck (merged histories))
  rising-by = subst AreRising (sym (deck_asked deck histories made rising each)) rising

-- nothing, where it entered nothing
pub none-asked : {V : Type 0} (entries : V → List Entry) (volumes : List V) (deck : DeckRun)
    → All (λ (volume : V). deck_entries deck.number (entries volume) ≡ []) volumes
    → HasAsked (Err Memory) (map entries volumes) deck
none-asked entries volumes deck fresh = record {
  count = 0;
  asked = asked-by deck.number (map entries volumes) [] tt none-on;
  whole = tt;
  rising = rising-by deck.number (map entries volumes) [] tt none-on;
}
  where
    none-on : (volume : ℕ) → entries_on volume []
        ≡ deck_entries deck.number (history_at (map entries volumes) volume)
    none-on volume = sym (fresh-at entries volumes deck.number fresh volume)

told-at : {V : Type 0} (entries : V → List Entry) (volumes : List V) (seat : Seat)
    → AreTold entries volumes seat → (place : ℕ) → place < length volumes
    → IsToldAt place (history_at (map entries volumes) place) seat
told-at entries [] seat told place near = absurd (omega (arith, near))
told-at entries (volume ∷ volumes) seat told place near =
    subst (λ (history : List Entry). IsToldAt place history seat)
    (sym (get_or-map entries (volume ∷ volumes) place volume [] near)) (told place volume near)

-- some turn, and some ledger
no-turn : TurnNow
no-turn = record { deck = 0; ledger = table_at [] 0; entries = []; history = [] }

no-ledger : LedgerNow
no-ledger = record { table = table_at [] 0; history = []; out = [] }

module _ {V : Type 0} (entries : V → List Entry) (volumes : List V) (ledgers : List LedgerNow)
    (same : map history_of ledgers ≡ map entries volumes) (start : ℕ) where
  -- ---- as a deck begins

  module _ (seat : Seat) (begun : IsBegun ledgers start seat) where
    pub turns-many : length seat.turns.items ≡ length volumes
    turns-many = ap (λ (turns : List TurnNow). length turns) begun.turns
        ∙ length-map ledgers (turn_at seat.deck) ∙ as-many entries volumes ledgers same

    turn-there : (place : ℕ) (turn : TurnNow) (ledger : LedgerNow) → place < length volumes
        → get_or seat.turns.items place turn ≡ turn_at seat.deck (get_or ledgers place ledger)
    turn-there place turn ledger near =
        ap (λ (turns : List TurnNow). get_or turns place turn) begun.turns
        ∙ get_or-map (turn_at seat.deck) ledgers place ledger turn
        (omega (arith, as-many entries volumes ledgers same, near))

    -- what it knows of each volume is all that the history has of it
    pub first-told : AreTold entries volumes seat
    first-told place volume near = record {
      entries = λ turn.
          ap (λ (it : TurnNow). it.entries) (turn-there place turn no-ledger near)
          ∙ ap (deck_entries seat.deck)
          (history-there entries volumes ledgers same place no-ledger volume near);
      grown = λ turn. subst (HasGrown (get_or seat.turns.items place turn).history)
          (ap (λ (it : TurnNow). it.history) (turn-there place turn no-ledger near)
          ∙ history-there entries volumes ledgers same place no-ledger volume near)
          (not-grown (get_or seat.turns.items place turn).history);
    }

    -- which is nothing, where it is new
    pub first-none : All (λ (volume : V). deck_entries seat.deck (entries volume) ≡ []) volumes
        → (place : ℕ) (turn : TurnNow) → place < length volumes
        → (get_or seat.turns.items place turn).entries ≡ []
    first-none fresh place turn near =
        (told-at entries volumes seat first-told place near).entries turn
        ∙ fresh-at entries volumes seat.deck fresh place

    -- so it may run
    pub first-ready : (decks : List ℕ)
        → All (λ (volume : V). deck_entries seat.deck (entries volume) ≡ []) volumes
        → (seat.deck == 0) ≡ false → Contains decks seat.deck
        → IsReady (table_at ledgers) decks (length volumes) seat
    first-ready decks fresh own named = record {
      turns = record {
        turns = λ place turn near.
            let within : place < length volumes = omega (arith, turns-many, near) in
            let it = turn-there place turn no-ledger within in (
              ap (λ (it : TurnNow). it.ledger) it
                  ∙ table-there ledgers place no-ledger
                  (omega (arith, as-many entries volumes ledgers same, within)),
              ap (λ (it : TurnNow). it.deck) it,
            );
        many = turns-many;
      };
      calm = λ place turn near.
          ap undoes (first-none fresh place turn (omega (arith, turns-many, near)));
      own = own;
      named = named;
    }

  -- ---- as it ends

  module _ (old new : Seat) (begun : IsBegun ledgers start old) (run : IsRunSeat old new)
      (fresh : All (λ (volume : V). deck_entries old.deck (entries volume) ≡ []) volumes)
      (result : List V) (count : length result ≡ length volumes)
      (told : AreTold entries result new) where
    made-on : (volume : ℕ)
        → entries_on volume run.ran.made
        ≡ deck_entries old.deck (history_at (map entries result) volume)
    made-on volume = elim (cases_lt volume (length volumes)) [
      | inl near ↦
          let within : volume < length old.turns.items =
          omega (arith, turns-many old begun, near) in
          sym (ap (λ (it : TurnNow). it.entries) (run.ran.turns.each volume no-turn within).turn
          ∙ ap (λ (them : List Entry). them ++ entries_on volume run.ran.made)
          (first-none old begun fresh volume no-turn near))
          ∙ (told-at entries result new told volume (omega (arith, count, near))).entries no-turn
          ∙ ap (λ (deck : ℕ). deck_entries deck (history_at (map entries result) volume)) run.deck
      | inr far ↦ run.ran.turns.within volume (omega (arith, turns-many old begun, far))
          ∙ sym (ap (deck_entries old.deck) (get_or_past (map entries result) volume []
          (omega (arith, length-map result entries, count, far))))
    ]

    made-stamped : IsStamped start (map entry_of run.ran.made)
    made-stamped = subst (λ (last : ℕ). IsStamped last (map entry_of run.ran.made)) begun.last
        run.ran.stamped

    -- at stamps that rise
    made-rising : AreRising run.ran.made
    made-rising = stamped-above 0 start (map entry_of run.ran.made) (omega arith) made-stamped

    -- from the one on at which the step began
    pub made-above : (volume : ℕ) → AreAbove start
        (deck_entries old.deck (history_at (map entries result) volume))
    made-above volume = subst (AreAbove start) (made-on volume)
        (All-map (λ (entry : Entry). start < entry.stamp) entry_of
        (filter (is_on volume) run.ran.made)
        (All-filter (is_on volume) (λ (this : Numbered). start < this.entry.stamp) run.ran.made
        (all-unmapped entry_of (λ (entry : Entry). start < entry.stamp) run.ran.made
        (above-stamped start (map entry_of run.ran.made) made-stamped))))

    -- what it entered is on its volumes, and its own
    module _ (this : Numbered) (there : Contains run.ran.made this) where
      on-own : Contains (deck_entries old.deck (history_at (map entries result) this.volume))
          this.entry
      on-own = subst (λ (them : List Entry). Contains them this.entry) (made-on this.volume)
          (contains-map entry_of (filter (is_on this.volume) run.ran.made) this
          (contains-kept (is_on this.volume) run.ran.made this there
          (eq-eqb this.volume this.volume refl)))

      made-entered : IsEntered (map entries result) this
      made-entered = kept-contains (λ (entry : Entry). entry.unit.deck == old.deck)
          (history_at (map entries result) this.volume) this.entry on-own

      made-own : this.entry.unit.deck ≡ old.deck
      made-own = (Decides-eqb this.entry.unit.deck old.deck).0
          (All-contains (λ (entry : Entry). (entry.unit.deck == old.deck) ≡ true)
          (deck_entries old.deck (history_at (map entries result) this.volume)) this.entry
          (filter_passes (λ (entry : Entry). entry.unit.deck == old.deck)
          (history_at (map entries result) this.volume)) on-own)

    -- and has the stamp that comes next
    module _ (volume : ℕ) (near : volume < length volumes) where
      known-here : HasGrown (get_or new.turns.items volume no-turn).history
          (history_at (map entries result) volume)
      known-here = (told-at entries result new told volume (omega (arith, count, near))).grown
          no-turn

      abbrev IsNextHere : Entry → Type 0
      IsNextHere entry = ComesNext start (map entry_of run.ran.made)
          (history_at (map entries result) volume) entry

      next-here : (this : Numbered) → is_on volume this ≡ true
          → IsNextOn old.last run.ran.made new.turns.items this → IsNextHere this.entry
      next-here this on next =
          let here : this.volume ≡ volume = (Decides-eqb this.volume volume).0 on in
          let within : this.volume < length new.turns.items = omega (
            arith,
            run.ran.turns.count,
            turns-many old begun,
            near,
            here,
          ) in
          subst (λ (last : ℕ). ComesNext last (map entry_of run.ran.made)
          (history_at (map entries result) volume) this.entry) begun.last
          (next-more old.last (map entry_of run.ran.made) (map entry_of run.ran.made)
          (get_or new.turns.items volume no-turn).history (history_at (map entries result) volume)
          this.entry (λ other has. has) known-here
          (subst (λ (place : ℕ). ComesNext old.last (map entry_of run.ran.made)
          (get_or new.turns.items place no-turn).history this.entry) here (next no-turn within)))

      made-next : All IsNextHere (deck_entries old.deck (history_at (map entries result) volume))
      made-next = subst (All IsNextHere) (made-on volume)
          (All-map IsNextHere entry_of (filter (is_on volume) run.ran.made)
          (λ k this inside.
          let it : Numbered = get_or (filter (is_on volume) run.ran.made) k this in
          next-here it (filter_passes (is_on volume) run.ran.made k this inside)
          (All-filter (is_on volume) (IsNextOn old.last run.ran.made new.turns.items)
          run.ran.made run.ran.next k this inside)))

      -- so no stamp is left out before it
      follows-own : (entry : Entry) → entry.unit.deck ≡ old.deck
          → FollowsOne (map entry_of run.ran.made) entry
          → FollowsOneOf (map entries result) (with_volume volume entry)
      follows-own entry own (other, has, next) =
          let from = map-contains entry_of run.ran.made other has in
          let this : Numbered = from.0 in record {
            other = this;
            entered = made-entered this from.1;
            next = next ∙ ap (λ (one : Entry). one.stamp + 1) (sym from.2);
            shares = inr (made-own this from.1 ∙ sym own);
          }

      follows-volume : (entry : Entry) → FollowsOne (history_at (map entries result) volume) entry
          → FollowsOneOf (map entries result) (with_volume volume entry)
      follows-volume entry (other, has, next) = record {
        other = with_volume volume other;
        entered = has;
        next = next;
        shares = inl refl;
      }

      pub next-or-start : (entry : Entry) → entry.unit.deck ≡ old.deck → IsNextHere entry
          → IsNext start entry ⊎ FollowsOneOf (map entries result) (with_volume volume entry)
      next-or-start entry own (AfterLast is) = inl is
      next-or-start entry own (AfterOwn follows) = inr (follows-own entry own follows)
      next-or-start entry own (AfterVolume follows) = inr (follows-volume entry follows)

      pub all-next-here : All (λ (entry : Entry). IsNext start entry
          ⊎ FollowsOneOf (map entries result) (with_volume volume entry))
          (deck_entries old.deck (history_at (map entries result) volume))
      all-next-here k entry inside =
          let history : List Entry = history_at (map entries result) volume in
          let it : Entry = get_or (deck_entries old.deck history) k entry in
          next-or-start it ((Decides-eqb it.unit.deck old.deck).0
          (filter_passes (λ (one : Entry). one.unit.deck == old.deck) history k entry inside))
          (made-next k entry inside)

    pub has-asked : (end : Result (Unit {0}) RunNo) → OnOk end (IsDone new)
        → HasAsked end (map entries result) (deck_of old)
    has-asked end done = record {
      count = run.ran.count;
      asked = asked-by old.deck (map entries result) run.ran.made made-rising made-on
          ∙ run.ran.answers;
      whole = ok-through end new.end (take run.ran.count old.requests.items ≡ old.requests.items)
          done run.ran.whole;
      rising = rising-by old.deck (map entries result) run.ran.made made-rising made-on;
    }

-- ---- all decks

module _ {V : Type 0} (entries : V → List Entry) (volumes : List V) (ledgers : List LedgerNow)
    (same : map history_of ledgers ≡ map entries volumes) (start : ℕ) (seats : List Seat)
    (begun : All (IsBegun ledgers start) seats) (are-new : AreNew entries (decks_of seats) volumes) where
  fresh-seat : All (λ (seat : Seat). All (λ (volume : V).
      deck_entries seat.deck (entries volume) ≡ []) volumes) seats
  fresh-seat = all-unmapped deck_of (λ (deck : DeckRun). All (λ (volume : V).
      deck_entries deck.number (entries volume) ≡ []) volumes) seats are-new.fresh

  named-seat : (k : ℕ) (seat : Seat) → k < length seats
      → Contains (numbers_of (decks_of seats)) (get_or seats k seat).deck
  named-seat k seat near = subst (Contains (numbers_of (decks_of seats)))
      (get_or-map (λ (deck : DeckRun). deck.number) (decks_of seats) k (deck_of seat) 0 within
      ∙ ap (λ (deck : DeckRun). deck.number) (get_or-map deck_of seats k seat (deck_of seat) near))
      (Contains-get_or (numbers_of (decks_of seats)) k 0
      (omega (arith, length-map (decks_of seats) (λ (deck : DeckRun). deck.number), within)))
    where
      within : k < length (decks_of seats)
      within = omega (arith, length-map seats deck_of, near)

  pub all-ready : All (IsReady (table_at ledgers) (numbers_of (decks_of seats)) (length volumes))
      seats
  all-ready k seat near = first-ready entries volumes ledgers same start (get_or seats k seat)
      (begun k seat near) (numbers_of (decks_of seats)) (fresh-seat k seat near)
      (all-unmapped deck_of (λ (deck : DeckRun). (deck.number == 0) ≡ false) seats are-new.own k
      seat near) (named-seat k seat near)

  pub all-told : All (AreTold entries volumes) seats
  all-told k seat near = first-told entries volumes ledgers same start (get_or seats k seat)
      (begun k seat near)

  pub all-asked : (new : List Seat) (result : List V) (end given : Result (Unit {0}) RunNo)
      → HaveRun seats new → length result ≡ length volumes → All (AreTold entries result) new
      → OnOk end (given ≡ Ok tt) → OnOk given (All IsDone new)
      → All (HasAsked end (map entries result)) (decks_of seats)
  all-asked new result end given ran count told done ends = All-map
      (HasAsked end (map entries result)) deck_of seats (λ k seat near.
      let inside : k < length new = omega (arith, ran.count, near) in
      has-asked entries volumes ledgers same start (get_or seats k seat) (get_or new k seat)
      (begun k seat near) (ran.each k seat near) (fresh-seat k seat near) result count
      (told k seat inside) end (ok-map end (All IsDone new) (IsDone (get_or new k seat))
      (λ all. all k seat inside) (ok-through end given (All IsDone new) done ends)))

  -- what a volume gained came after the stamp at which the step began
  module _ (follows : V → V → Type 0) (new : List Seat) (result : List V)
      (ran : HaveRun seats new)
      (since : AreSince entries follows (numbers_of (decks_of seats)) volumes result)
      (told : All (AreTold entries result) new) where
    module _ (place : ℕ) (volume : V) (near : place < length volumes) where
      abbrev was : List Entry
      was = entries (get_or volumes place volume)

      abbrev now : List Entry
      now = entries (get_or result place volume)

      it : IsSince entries follows (numbers_of (decks_of seats)) (get_or volumes place volume)
          (get_or result place volume)
      it = since.each place volume near

      here : history_at (map entries result) place ≡ now
      here = get_or-map entries result place volume [] (omega (arith, since.count, near))

      -- what a deck entered there is all that the volume gained of the deck
      entered-there : (k : ℕ) (seat : Seat) → k < length seats
          → deck_entries (get_or seats k seat).deck now
          ≡ deck_entries (get_or seats k seat).deck it.more
      entered-there k seat inside =
          let deck : ℕ = (get_or seats k seat).deck in
          ap (deck_entries deck) it.grew
          ∙ filter-append (λ (entry : Entry). entry.unit.deck == deck) was it.more
          ∙ ap (λ (them : List Entry). them ++ deck_entries deck it.more)
          (fresh-seat k seat inside place volume near)

      each-above : All (λ (seat : Seat). AreAbove start (deck_entries seat.deck it.more)) seats
      each-above k seat inside = subst (AreAbove start)
          (ap (deck_entries (get_or seats k seat).deck) here ∙ entered-there k seat inside)
          (made-above entries volumes ledgers same start (get_or seats k seat) (get_or new k seat)
          (begun k seat inside) (ran.each k seat inside) (fresh-seat k seat inside) result
          since.count (told k seat (omega (arith, ran.count, inside))) place)

      -- and none of its stamps is left out
      abbrev IsNextThere : Entry → Type 0
      IsNextThere entry = IsNext start entry
          ⊎ FollowsOneOf (map entries result) (with_volume place entry)

      each-next : All (λ (seat : Seat). All IsNextThere (deck_entries seat.deck it.more)) seats
      each-next k seat inside = subst (All IsNextThere)
          (ap (deck_entries (get_or seats k seat).deck) here ∙ entered-there k seat inside)
          (all-next-here entries volumes ledgers same start (get_or seats k seat)
          (get_or new k seat) (begun k seat inside) (ran.each k seat inside)
          (fresh-seat k seat inside) result since.count
          (told k seat (omega (arith, ran.count, inside))) place near)

      gain-next : All IsNextThere (gained was now)
      gain-next = subst (All IsNextThere) (sym (gained-is was now it.more it.grew))
          (all-of-decks IsNextThere (numbers_of (decks_of seats)) it.more it.own
          (All-map (λ (deck : ℕ). All IsNextThere (deck_entries deck it.more))
          (λ (deck : DeckRun). deck.number) (decks_of seats)
          (All-map (λ (deck : DeckRun). All IsNextThere (deck_entries deck.number it.more)) deck_of
          seats each-next)))

      pub gain-above : AreAbove start (gained was now)
      gain-above = subst (AreAbove start) (sym (gained-is was now it.more it.grew))
          (all-of-decks (λ (entry : Entry). start < entry.stamp) (numbers_of (decks_of seats))
          it.more it.own (All-map (λ (deck : ℕ). AreAbove start (deck_entries deck it.more))
          (λ (deck : DeckRun). deck.number) (decks_of seats)
          (All-map (λ (deck : DeckRun). AreAbove start (deck_entries deck.number it.more)) deck_of
          seats each-above)))

    pub come-next : start ≡ greatest_last entries volumes → ComeNext entries volumes result
    come-next is place volume entry near has = subst (λ (stamp : ℕ). IsNext stamp entry
        ⊎ FollowsOneOf (map entries result) (with_volume place entry)) is
        (All-contains (IsNextThere place volume near)
        (gained (was place volume near) (now place volume near)) entry
        (gain-next place volume near) has)
