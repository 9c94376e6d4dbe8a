-- What decks have once their threads have ended, and what they learn of the volumes then.
use Rattle.std.proofs.Common.{◌≡◌, ◌∙◌, ◌<◌, ◌++◌, ◌∷◌, ℕ, List, [], All, ap, arith, get_or, length}
use Rattle.std.proofs.Common.{refl, subst, sym}
use Rattle.std.specs.Prelude.{OnOk, Result, set}
use Rattle.std.proofs.lemmas.Grind.{get_or-set_at}
use Rattle.std.proofs.lemmas.List.{get_or_default, get_or-set_other, length-set}
use mathlib.Core.Logic.{dite}
use native.Mathlib.Decide.{ℕ_discrete}
use Rattle.atomic_table.specs.Seated.{TableId}
use Rattle.vr_history.specs.declared.entry.Entry.{Entry}
use Rattle.vr_ledger.specs.Entries.{HasGrown}
use Rattle.vr_ledger.specs.Turn.{TurnNow}
use Rattle.vr_trace.specs.Laws.{deck_entries}
use Rattle.vr_worker.specs.Deck.{AreTurns, HasRun}
use Rattle.vr_worker.specs.Ready.{AreSameSeats, AreTold, HasTurnAt, HasTurns, HaveRun}
use Rattle.vr_worker.specs.Ready.{IsReady, IsSameSeat, IsToldAt, IsUnrun}
use Rattle.vr_worker.specs.declared.deck.Seat.{Seat}
use Rattle.vr_trace.specs.declared.no.RunNo.{RunNo}
use Rattle.vr_worker.proofs.Places.{at-push}
use Rattle.vr_worker.proofs.Runs.{run-none}
use Rattle.vr_worker.proofs.Turns.{turns-grown}

-- what decks have stays, and stays
same-then : {a b c : Seat} → IsSameSeat a b → IsSameSeat b c → IsSameSeat a c
same-then first second = record {
  deck = second.deck ∙ first.deck;
  requests = second.requests ∙ first.requests;
  turns = second.turns ∙ first.turns;
  last = second.last ∙ first.last;
  end = second.end ∙ first.end;
}

pub all-same-then : {a b c : List Seat} → AreSameSeats a b → AreSameSeats b c → AreSameSeats a c
all-same-then first second = record {
  count = second.count ∙ first.count;
  each = λ place seat near. same-then (first.each place seat near)
      (second.each place seat (omega (arith, first.count)));
}

-- the one at a place has what it had
pub same-set : (old now : List Seat) (k : ℕ) (d next : Seat) → k < length now
    → AreSameSeats old now → IsSameSeat (get_or now k d) next → AreSameSeats old (set now k next)
same-set old now k d next near same one = record {
  count = length-set now k next ∙ same.count;
  each = λ place seat within. dite (ℕ_discrete place k)
      (λ here. same-then (same.each place seat within)
      (subst (IsSameSeat (get_or now place seat))
      (sym (get_or-set_at now k place next seat here near))
      (subst (λ (it : Seat). IsSameSeat it next)
      (get_or_default now k d seat near ∙ ap (λ n. get_or now n seat) (sym here)) one)))
      (λ apart. subst (IsSameSeat (get_or old place seat))
      (sym (get_or-set_other now k place next seat apart)) (same.each place seat within));
}

told-stays : (place : ℕ) (entries : List Entry) {old new : Seat} → IsSameSeat old new
    → IsToldAt place entries old → IsToldAt place entries new
told-stays place entries {old = old} {new = new} same told = record {
  entries = λ turn.
      ap (λ (turns : List TurnNow). (get_or turns place turn).entries) same.turns
      ∙ told.entries turn ∙ ap (λ (deck : ℕ). deck_entries deck entries) (sym same.deck);
  grown = λ turn. subst
      (λ (turns : List TurnNow). HasGrown (get_or turns place turn).history entries)
      (sym same.turns) (told.grown turn);
}

-- a deck has the same turn
turn-stays : (tables : ℕ → TableId) (place : ℕ) {old new : Seat} → IsSameSeat old new
    → HasTurnAt tables place old → HasTurnAt tables place new
turn-stays tables place {old = old} {new = new} same has = record {
  turn = λ turn. (
    ap (λ (turns : List TurnNow). (get_or turns place turn).ledger) same.turns
        ∙ (has.turn turn).0,
    ap (λ (turns : List TurnNow). (get_or turns place turn).deck) same.turns ∙ (has.turn turn).1
        ∙ sym same.deck,
  );
  within = omega (arith, ap (λ (turns : List TurnNow). length turns) same.turns, has.within);
}

-- and each has one at each place
pub turns-at : (tables : ℕ → TableId) (count place : ℕ) {first now : List Seat} → place < count
    → AreSameSeats first now → All (HasTurns tables count) first
    → All (HasTurnAt tables place) now
turns-at tables count place {first = first} {now = now} inside same has = λ k seat near.
    let within : k < length first = omega (arith, same.count, near) in
    let had = has k seat within in
    turn-stays tables place (same.each k seat within) (record {
      turn = λ turn. had.turns place turn (omega (arith, had.many, inside));
      within = omega (arith, had.many, inside);
    })

-- and so each has after its thread ran
pub turns-ran : (tables : ℕ → TableId) (decks : List ℕ) (count : ℕ) {first now : List Seat}
    → All (IsReady tables decks count) first → HaveRun first now → All (HasTurns tables count) now
turns-ran tables decks count {first = first} {now = now} ready ran = λ k seat near.
    let within : k < length first = omega (arith, ran.count, near) in
    let had = (ready k seat within).turns in
    let old = get_or first k seat in
    let new = get_or now k seat in
    let run = ran.each k seat within in
    record {
      turns = subst (λ (deck : ℕ). AreTurns tables deck new.turns.items) (sym run.deck)
          (turns-grown tables old.deck old.turns.items new.turns.items run.ran.made run.ran.turns
          had.turns);
      many = run.ran.turns.count ∙ had.many;
    }

-- what decks have after their threads ran is left as it is
pub ran-then : {first now after : List Seat} → HaveRun first now → AreSameSeats now after
    → HaveRun first after
ran-then {first = first} {now = now} {after = after} ran same = record {
  count = same.count ∙ ran.count;
  each = λ place seat near.
      let run = ran.each place seat near in
      let one = same.each place seat (omega (arith, ran.count, near)) in
      let old = get_or first place seat in
      let new = get_or now place seat in
      let left = get_or after place seat in
      record {
        deck = one.deck ∙ run.deck;
        requests = one.requests ∙ run.requests;
        ran = subst (λ (end : Result (Unit {0}) RunNo). HasRun old.deck old.requests.items end
            old.last left.last old.turns.items left.turns.items) (sym one.end)
            (subst (λ (last : ℕ). HasRun old.deck old.requests.items new.end old.last last
            old.turns.items left.turns.items) (sym one.last)
            (subst (HasRun old.deck old.requests.items new.end old.last new.last old.turns.items)
            (sym one.turns) run.ran));
      };
}

-- where no thread ran, each deck ran as far as that
pub none-ran : (seats : List Seat) → All IsUnrun seats → HaveRun seats seats
none-ran seats unrun = record {
  count = refl;
  each = λ place seat near.
      let it = get_or seats place seat in record {
        deck = refl;
        requests = refl;
        ran = run-none it.deck it.last it.turns.items it.requests.items it.end
            (subst (λ (end : Result (Unit {0}) RunNo).
            OnOk end ([] ≡ it.requests.items)) (sym (unrun place seat near)) tt);
      };
}

-- each deck knows one more volume
pub told-more : {V : Type 0} (entries : V → List Entry) (volumes : List V) (volume : V)
    {old new : List Seat} → AreSameSeats old new → All (AreTold entries volumes) old
    → All (IsToldAt (length volumes) (entries volume)) new
    → All (AreTold entries (volumes ++ volume ∷ [])) new
told-more entries volumes volume {old = old} {new = new} same told more = λ k seat near.
    let inside : k < length old = omega (arith, same.count, near) in
    at-push (λ place it. IsToldAt place (entries it) (get_or new k seat)) volumes volume
    (λ place it within. told-stays place (entries (get_or volumes place it))
    (same.each k seat inside) (told k seat inside place it within))
    (more k seat near)
