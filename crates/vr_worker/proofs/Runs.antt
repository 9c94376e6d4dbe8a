-- A deck's requests, one after another.
use Rattle.std.proofs.Common.{◌≡◌, ◌∙◌, ◌<◌, ◌+◌, ℕ, zero, suc, List, [], ◌∷◌, ◌++◌}
use Rattle.std.proofs.Common.{Result, Ok, Err, map, ap, refl, subst, sym, arith, get_or, length}
use Rattle.std.proofs.Common.{min, take}
use Rattle.std.specs.Prelude.{Contains, OnOk, set}
use Rattle.std.specs.Result.{IsErrAnd}
use Rattle.std.proofs.lemmas.Grind.{get_or-set_at}
use Rattle.std.proofs.lemmas.List.{map-append, take_more}
use Rattle.std.proofs.lemmas.List.Elements.{All-append, All-map, All-nil, All-weaker}
use Rattle.std.proofs.lemmas.List.Elements.{Contains-append_left}
use Rattle.vr_types.specs.declared.bound.Bound.{Bound}
use Rattle.vr_history.specs.Merged.{IsStamped, Numbered, last_stamp, part_of_deck}
use Rattle.vr_history.specs.declared.entry.Entry.{Entry}
use Rattle.vr_ledger.specs.Turn.{TurnNow}
use Rattle.vr_trace.specs.Laws.{entry_of}
use Rattle.vr_trace.specs.Numbering.{with_volume}
use Rattle.vr_trace.proofs.CallerLemmas.{entries_again}
use Rattle.vr_worker.specs.Asked.{if_done, is_ok}
use Rattle.vr_worker.specs.Deck.{AreCalm, HasRun, IsNextOn}
use Rattle.vr_worker.specs.Latched.{ComesNext, HasTaken}
use Rattle.vr_trace.specs.declared.no.RunNo.{RunNo}
use Rattle.vr_worker.proofs.Nexts.{next-after, next-more}
use Rattle.vr_worker.proofs.Parts.{part-both}
use Rattle.vr_worker.proofs.Stamps.{last_stamp-both, stamped-both}
use Rattle.vr_worker.proofs.Turns.{grown-none, grown-one, grown-then}

-- the first of both, where the first list is among them
take-both : {X : Type 0} (n : ℕ) (xs ys : List X)
    → take (length xs + n) (xs ++ ys) ≡ xs ++ take n ys
take-both n [] ys = ap (λ m. take m ys) (omega arith)
take-both n (x ∷ xs) ys =
    let next : length (x ∷ xs) + n ≡ suc (length xs + n) = omega arith in
    ap (λ m. take m (x ∷ xs ++ ys)) next ∙ ap (λ l. x ∷ l) (take-both n xs ys)

-- the first of the first
take-within : {X : Type 0} (m n : ℕ) (xs : List X) → take m (take n xs) ≡ take (min m n) xs
take-within zero n xs =
    let none : min zero n ≡ zero = omega arith in sym (ap (λ k. take k xs) none)
take-within (suc m) zero xs =
    let none : min (suc m) zero ≡ zero = omega arith in sym (ap (λ k. take k xs) none)
take-within {X} (suc m) (suc n) [] =
    let next : min (suc m) (suc n) ≡ suc (min m n) = omega arith in
    sym (ap (λ k. take {A = X} k []) next)
take-within (suc m) (suc n) (x ∷ xs) =
    let next : min (suc m) (suc n) ≡ suc (min m n) = omega arith in
    ap (λ l. x ∷ l) (take-within m n xs) ∙ sym (ap (λ k. take k (x ∷ xs)) next)

-- these requests were answered, and no unit of the deck has begun to undo
pub record RunsThrough (deck : ℕ) (requests : List Bound) (last last' : ℕ)
    (old new : List TurnNow) : Type 0 where
  pub ran : HasRun deck requests (Ok tt) last last' old new
  pub calm : AreCalm new

-- no request was asked
pub run-none : (deck last : ℕ) (turns : List TurnNow) (requests : List Bound)
    (result : Result (Unit {0}) RunNo) → OnOk result ([] ≡ requests)
    → HasRun deck requests result last last turns turns
run-none deck last turns requests result whole = record {
  made = [];
  turns = grown-none turns;
  stamped = tt;
  next = All-nil (IsNextOn last [] turns);
  last_is = refl;
  count = 0;
  answers = refl;
  whole = whole;
}

-- one request is answered where its call is done
abbrev answered : Result (Unit {0}) RunNo → ℕ
answered (Ok value) = 1
answered (Err fault) = 0

-- one request, on the volume at whose place the turn is
pub run-one : (deck last last' : ℕ) (bound : Bound) (result : Result (Unit {0}) RunNo)
    (turns : List TurnNow) (old new : TurnNow) → bound.volume < length turns
    → (get_or turns bound.volume old).deck ≡ deck
    → HasTaken bound.volume bound.line bound.request (is_ok result) last last'
    (get_or turns bound.volume old) new
    → HasRun deck (bound ∷ []) result last last' turns (set turns bound.volume new)
run-one deck last last' bound result turns old new at own taken = record {
  made = map (with_volume bound.volume) taken.made;
  turns = grown-one turns bound.volume old new taken.made at taken.turn;
  stamped = subst (IsStamped last) (sym again) taken.stamped;
  next = All-map (IsNextOn last (map (with_volume bound.volume) taken.made)
      (set turns bound.volume new)) (with_volume bound.volume) taken.made
      (All-weaker (ComesNext last taken.made new.history)
      (λ (entry : Entry). IsNextOn last (map (with_volume bound.volume) taken.made)
      (set turns bound.volume new) (with_volume bound.volume entry))
      (λ entry next turn near. subst
      (λ (own : List Entry). ComesNext last own
      (get_or (set turns bound.volume new) bound.volume turn).history entry) (sym again)
      (subst (λ (it : TurnNow). ComesNext last taken.made it.history entry)
      (sym (get_or-set_at turns bound.volume bound.volume new turn refl at)) next))
      taken.made taken.next);
  last_is = taken.last_is ∙ sym (ap (last_stamp last) again);
  count = answered result;
  answers = ap (λ own. part_of_deck own (map (with_volume bound.volume) taken.made)) (sym own)
      ∙ taken.answers ∙ by_result result;
  whole = all result;
}
  where
    again : map entry_of (map (with_volume bound.volume) taken.made) ≡ taken.made
    again = entries_again bound.volume taken.made

    by_result : (result : Result (Unit {0}) RunNo)
        → if_done (is_ok result) bound ≡ take (answered result) (bound ∷ [])
    by_result (Ok value) = refl
    by_result (Err fault) = refl

    all : (result : Result (Unit {0}) RunNo)
        → OnOk result (take (answered result) (bound ∷ []) ≡ bound ∷ [])
    all (Ok value) = refl
    all (Err fault) = tt

-- requests, and then others
pub run-then : (deck last mid last' : ℕ) (one more : List Bound)
    (result : Result (Unit {0}) RunNo) (a b c : List TurnNow)
    → HasRun deck one (Ok tt) last mid a b → HasRun deck more result mid last' b c
    → HasRun deck (one ++ more) result last last' a c
run-then deck last mid last' one more result a b c first second = record {
  made = first.made ++ second.made;
  turns = grown-then a b c first.made second.made first.turns second.turns;
  stamped = subst (IsStamped last) (sym entries)
      (stamped-both last (map entry_of first.made) (map entry_of second.made) first.stamped
      (subst (λ n. IsStamped n (map entry_of second.made)) first.last_is second.stamped));
  next = All-append (IsNextOn last (first.made ++ second.made) c) first.made second.made
      (All-weaker (IsNextOn last first.made b) (IsNextOn last (first.made ++ second.made) c)
      first-next first.made first.next)
      (All-weaker (IsNextOn mid second.made c) (IsNextOn last (first.made ++ second.made) c)
      second-next second.made second.next);
  last_is = second.last_is ∙ ap (λ n. last_stamp n (map entry_of second.made)) first.last_is
      ∙ sym (ap (last_stamp last) entries
      ∙ last_stamp-both last (map entry_of first.made) (map entry_of second.made));
  count = length one + second.count;
  answers = part-both deck first.made second.made
      ∙ ap (λ asked. asked ++ part_of_deck deck second.made) (first.answers ∙ first.whole)
      ∙ ap (λ asked. one ++ asked) second.answers
      ∙ sym (take-both second.count one more);
  whole = by_result result second.whole;
}
  where
    entries : map entry_of (first.made ++ second.made)
        ≡ map entry_of first.made ++ map entry_of second.made
    entries = map-append entry_of first.made second.made

    first-next : (this : Numbered) → IsNextOn last first.made b this
        → IsNextOn last (first.made ++ second.made) c this
    first-next this next turn near =
        let inside : this.volume < length b = omega (arith, second.turns.count, near) in
        next-more last (map entry_of first.made) (map entry_of (first.made ++ second.made))
        (get_or b this.volume turn).history (get_or c this.volume turn).history this.entry
        (λ other has. subst (λ (them : List Entry). Contains them other) (sym entries)
        (Contains-append_left (map entry_of first.made) (map entry_of second.made) other has))
        (second.turns.each this.volume turn inside).history (next turn inside)

    second-next : (this : Numbered) → IsNextOn mid second.made c this
        → IsNextOn last (first.made ++ second.made) c this
    second-next this next turn near = subst (λ (own : List Entry). ComesNext last own
        (get_or c this.volume turn).history this.entry) (sym entries)
        (next-after last mid (map entry_of first.made) (map entry_of second.made)
        (get_or c this.volume turn).history this.entry first.last_is (next turn near))

    by_result : (result : Result (Unit {0}) RunNo)
        → OnOk result (take second.count more ≡ more)
        → OnOk result (take (length one + second.count) (one ++ more) ≡ one ++ more)
    by_result (Ok value) all = take-both second.count one more ∙ ap (λ l. one ++ l) all
    by_result (Err fault) all = tt

-- what is owed where a call is done, isn't owed where it fails
err-vacuous : (result : Result (Unit {0}) RunNo) (fault : RunNo) (P : Type 0)
    → IsErrAnd result (λ (given : RunNo). given ≡ fault) → OnOk result P
err-vacuous (Ok value) fault P is = absurd is
err-vacuous (Err given) fault P is = tt

-- a run that failed at the first n requests is one of all of them that failed
pub run-failed : (deck last last' n : ℕ) (requests : List Bound) (fault : RunNo)
    (result : Result (Unit {0}) RunNo) (old new : List TurnNow)
    → IsErrAnd result (λ (given : RunNo). given ≡ fault)
    → HasRun deck (take n requests) (Err fault) last last' old new
    → HasRun deck requests result last last' old new
run-failed deck last last' n requests fault result old new is run = record {
  made = run.made;
  turns = run.turns;
  stamped = run.stamped;
  next = run.next;
  last_is = run.last_is;
  count = min run.count n;
  answers = run.answers ∙ take-within run.count n requests;
  whole = err-vacuous result fault (take (min run.count n) requests ≡ requests) is;
}

-- one request more
pub one-more : (requests : List Bound) (i : ℕ) (bound : Bound) → i < length requests
    → bound ≡ get_or requests i bound → take i requests ++ bound ∷ [] ≡ take (i + 1) requests
one-more requests i bound inside at = ap (λ b. take i requests ++ b ∷ []) at
    ∙ sym (take_more requests i bound inside)
