-- What an event adds to a deck's part of the history of a volume.
use Rattle.std.proofs.Common.{◌≡◌, ◌∙◌, inl, inr, ⊎_elim, ℕ, ◌==◌, Bool, true, false, List, []}
use Rattle.std.proofs.Common.{◌∷◌, ◌++◌, Result, Ok, Err, ap, arith, eq-eqb, map, max, refl, subst}
use Rattle.std.proofs.Common.{sym}
use Rattle.std.specs.Prelude.{◌⊎◌, All, IsTrue, if◌then◌else◌}
use Rattle.std.specs.Result.{IsErrAnd}
use Rattle.std.proofs.lemmas.List.{append-nil}
use Rattle.std.proofs.lemmas.List.Elements.{All-cons, All-nil, All-weaker, Contains-append_right}
use Rattle.vr_types.specs.declared.bound.Bound.{Bound}
use Rattle.vr_types.specs.declared.request.Request.{Request}
use Rattle.vr_types.specs.declared.unit.Unit.{Unit as UnitOfRecovery}
use Rattle.vr_history.specs.Legal.{is_backout}
use Rattle.vr_history.specs.Merged.{asked_by, last_stamp, part_of_deck, request_in}
use Rattle.vr_history.specs.declared.entry.Entry.{Entry}
use Rattle.vr_history.specs.declared.entry.What.{What}
use Rattle.vr_ledger.proofs.CallerLemmas.{entries_of-more}
use Rattle.vr_ledger.specs.Entries.{IsOf}
use Rattle.vr_record_file.specs.Now.{FileNow}
use Rattle.vr_event.specs.Made.{AreNext, HasMade, IsStepFor, MadeBy}
use Rattle.vr_event.specs.declared.act.Act.{Act}
use Rattle.vr_event.specs.declared.act.Act.TheVariants.{Again, Done}
use Rattle.vr_trace.specs.Laws.{deck_entries}
use Rattle.vr_trace.specs.Numbering.{with_volume}
use Rattle.vr_worker.specs.Asked as asked
use Rattle.vr_worker.specs.Asked.{HasEntered, MayAsk, MayGoOn, bound_to}
use Rattle.vr_trace.specs.Growing.{FollowsOne, IsNext}
use Rattle.vr_worker.specs.Asked.{if_done, undoes, undoes_from}
use Rattle.vr_trace.specs.declared.no.RunNo.{RunNo}
use Rattle.vr_job.specs.Serving.{is_done}

-- ---- whose they are, and what they answer

-- an event's entries are the asking deck's
pub made-own : (act : Act) (asking : UnitOfRecovery) (line : ℕ) (request : Request)
    (made : List Entry) → MadeBy act asking line request made → All (IsOf asking.deck) made
made-own Done asking line request made is =
    subst (All (IsOf asking.deck)) (sym is.is)
    (All-cons (IsOf asking.deck) is.entry is.rest (of-unit is.entry is.unit_is) rest-own)
  where
    of-unit : (entry : Entry) → entry.unit ≡ asking → IsOf asking.deck entry
    of-unit entry same = ap (λ (u : UnitOfRecovery). u.deck) same

    rest-own : All (IsOf asking.deck) is.rest
    rest-own = ⊎_elim
        (λ none. subst (All (IsOf asking.deck)) (sym none) (All-nil (IsOf asking.deck)))
        (λ fault. subst (All (IsOf asking.deck)) (sym fault.is)
        (All-cons (IsOf asking.deck) fault.fault [] (of-unit fault.fault fault.unit_is)
        (All-nil (IsOf asking.deck)))) is.follows
made-own (Again given) asking line request made is = ⊎_elim
    (λ none. subst (All (IsOf asking.deck)) (sym none) (All-nil (IsOf asking.deck)))
    (λ one. subst (All (IsOf asking.deck)) (sym one.1)
    (All-cons (IsOf asking.deck) one.0 [] (ap (λ (u : UnitOfRecovery). u.deck) one.2.0)
    (All-nil (IsOf asking.deck)))) is

-- the entry of a step answers no request
pub step-none : (volume : ℕ) (asking : UnitOfRecovery) (line : ℕ) (request : Request)
    (entry : Entry) → IsStepFor asking line request entry → request_in volume entry.line entry.what ≡ []
step-none volume asking line request entry is = ⊎_elim
    (λ split. ap (request_in volume entry.line) split.1)
    (λ later. ⊎_elim (λ claim. ap (request_in volume entry.line) claim.2)
    (λ back. ap (request_in volume entry.line) back.3) later) is.2

module _ (number deck : ℕ) where
  abbrev part-of : List Entry → List Bound
  part-of entries = part_of_deck deck (map (with_volume number) entries)

  -- nor does a deck's part have one for an entry that is of no request
  none-asked : (entry : Entry) → request_in number entry.line entry.what ≡ []
      → part-of (entry ∷ []) ≡ []
  none-asked entry none = by_test (entry.unit.deck == deck)
    where
      by_test : (b : Bool)
          → (if b then request_in number entry.line entry.what else []) ++ [] ≡ []
      by_test true = ap (λ (them : List Bound). them ++ []) none
      by_test false = refl

  -- while it has that of an entry of the deck
  one-asked : (entry : Entry) → entry.unit.deck ≡ deck
      → part-of (entry ∷ []) ≡ request_in number entry.line entry.what
  one-asked entry own = append-nil (asked_by deck (with_volume number entry))
      ∙ ap (λ (b : Bool). if b then request_in number entry.line entry.what else [])
      (eq-eqb entry.unit.deck deck own)

-- the entries answer the request where it is done, and none where it isn't
made-answers : (act : Act) (number : ℕ) (asking : UnitOfRecovery) (line : ℕ) (request : Request)
    (made : List Entry) → MadeBy act asking line request made
    → part_of_deck asking.deck (map (with_volume number) made)
    ≡ if_done (is_done act) (bound_to number line request)
made-answers Done number asking line request made is =
    ap (part-of number asking.deck) is.is
    ∙ ap (λ (them : List Bound). asked_by asking.deck (with_volume number is.entry) ++ them)
    rest-none
    ∙ one-asked number asking.deck is.entry (ap (λ (u : UnitOfRecovery). u.deck) is.unit_is)
    ∙ ap (λ (n : ℕ). request_in number n is.entry.what) is.line_is
    ∙ ap (request_in number line) is.what_is
  where
    rest-none : part-of number asking.deck is.rest ≡ []
    rest-none = ⊎_elim (λ none. ap (part-of number asking.deck) none)
        (λ fault. ap (part-of number asking.deck) fault.is
        ∙ none-asked number asking.deck fault.fault
        (ap (request_in number fault.fault.line) fault.what_is)) is.follows
made-answers (Again given) number asking line request made is = ⊎_elim
    (λ none. ap (part-of number asking.deck) none)
    (λ one. ap (part-of number asking.deck) one.1
    ∙ none-asked number asking.deck one.0 (step-none number asking line request one.0 one.2)) is

-- ---- whether a deck's unit has begun to undo

-- entry by entry
pub undoes-append : (before : Bool) (own more : List Entry)
    → undoes_from before (own ++ more) ≡ undoes_from (undoes_from before own) more
undoes-append before [] more = refl
undoes-append before (entry ∷ own) more =
    undoes-append (asked.undoing_after before entry.what) own more

-- once a request is answered it hasn't; and until then the deck asks the same
made-goes : (act : Act) (asking : UnitOfRecovery) (line : ℕ) (request : Request)
    (made own : List Entry) → MadeBy act asking line request made → MayAsk request own
    → MayGoOn (is_done act) request (own ++ made)
made-goes Done asking line request made own is may =
    ap (λ (m : List Entry). undoes (own ++ m)) is.is
    ∙ undoes-append false own (is.entry ∷ is.rest)
    ∙ ap (λ (w : What). undoes_from (asked.undoing_after (undoes own) w) is.rest) is.what_is
    ∙ ⊎_elim (λ none. ap (undoes_from false) none)
    (λ fault. ap (undoes_from false) fault.is ∙ ap (asked.undoing_after false) fault.what_is) is.follows
made-goes (Again given) asking line request made own is may = ⊎_elim
    (λ none. subst (MayAsk request)
    (sym (ap (λ (m : List Entry). own ++ m) none ∙ append-nil own)) may)
    (λ one. ⊎_elim
    (λ split. subst (λ (b : Bool). (b ≡ false) ⊎ IsTrue (is_backout request))
    (sym (ap (λ (m : List Entry). undoes (own ++ m)) one.1
    ∙ undoes-append false own (one.0 ∷ [])
    ∙ ap (asked.undoing_after (undoes own)) split.1)) may)
    (λ later. ⊎_elim
    (λ claim. subst (λ (b : Bool). (b ≡ false) ⊎ IsTrue (is_backout request))
    (sym (ap (λ (m : List Entry). undoes (own ++ m)) one.1
    ∙ undoes-append false own (one.0 ∷ [])
    ∙ ap (asked.undoing_after (undoes own)) claim.2)) may)
    (λ back. inr back.0) later) one.2.2) is

-- ---- what is entered

-- each of its stamps comes next
pub next-each : (before : ℕ) (made : List Entry) → AreNext before made
    → All (λ (entry : Entry). IsNext before entry ⊎ FollowsOne made entry) made
next-each before [] next = All-nil (λ (entry : Entry). IsNext before entry ⊎ FollowsOne [] entry)
next-each before (first ∷ made) next = All-cons
    (λ (entry : Entry). IsNext before entry ⊎ FollowsOne (first ∷ made) entry) first made
    (inl next.0)
    (All-weaker (λ (entry : Entry). IsNext first.stamp entry ⊎ FollowsOne made entry)
    (λ (entry : Entry). IsNext before entry ⊎ FollowsOne (first ∷ made) entry)
    (λ entry is. inr (⊎_elim (λ after. (first, (0, omega arith, refl), after))
    (λ follows. (
      follows.0,
      Contains-append_right (first ∷ []) made follows.0 follows.1,
      follows.2,
    )) is)) made (next-each first.stamp made next.1))

-- an event enters what it made
pub event-entered : (act : Act) (number after : ℕ) (asking : UnitOfRecovery) (line : ℕ)
    (request : Request) (old new : FileNow) → HasMade act after asking line request old new
    → MayAsk request (deck_entries asking.deck old.entries)
    → HasEntered number asking.deck line request after (is_done act) old.entries new.entries
event-entered act number after asking line request old new is may = record {
  made = is.made;
  entries = is.entries;
  own = own;
  stamped = is.stamped;
  next = next-each (max (last_stamp 0 old.entries) after) is.made is.next;
  answers = made-answers act number asking line request is.made is.by;
  goes_on = subst (MayGoOn (is_done act) request)
      (sym (ap (deck_entries asking.deck) is.entries
      ∙ entries_of-more asking.deck old.entries is.made own))
      (made-goes act asking line request is.made (deck_entries asking.deck old.entries) is.by may);
}
  where
    own : All (IsOf asking.deck) is.made
    own = made-own act asking line request is.made is.by

-- where none begins, nothing is entered
pub none-entered : (number deck line : ℕ) (request : Request) (after : ℕ) (old new : List Entry)
    → new ≡ old → MayAsk request (deck_entries deck old)
    → HasEntered number deck line request after false old new
none-entered number deck line request after old new same may = record {
  made = [];
  entries = same ∙ sym (append-nil old);
  own = All-nil (IsOf deck);
  stamped = tt;
  next = All-nil (λ (entry : Entry). IsNext (max (last_stamp 0 old) after) entry
      ⊎ FollowsOne [] entry);
  answers = refl;
  goes_on = subst (MayAsk request) (ap (deck_entries deck) (sym same)) may;
}

-- a call that fails is not done
pub err-undone : (result : Result Bool RunNo) (Q : RunNo → Type 0) → IsErrAnd result Q
    → asked.is_done result ≡ false
err-undone (Ok done) Q is = absurd is
err-undone (Err fault) Q is = refl
