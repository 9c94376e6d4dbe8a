-- What an event of a plain volume adds to its history.
use Rattle.std.proofs.Common.{◌≡◌, ◌∙◌, ◌+◌, ℕ, Bool, true, false, List, [], ◌∷◌, ◌++◌}
use Rattle.std.proofs.Common.{Err, Ok, Result, ap, append-nil, arith, eq-eqb, inl, map, max, refl}
use Rattle.std.proofs.Common.{subst, sym}
use Rattle.std.specs.Prelude.{◌⊎◌, All, IsTrue, if◌then◌else◌}
use Rattle.std.specs.Result.{IsErrAnd}
use Rattle.std.proofs.lemmas.List.Elements.{All-cons, All-nil}
use Rattle.vr_types.specs.declared.request.Request.{Request}
use Rattle.vr_history.specs.Legal.{is_backout}
use Rattle.vr_history.specs.Merged.{last_stamp, part_of_deck, request_in}
use Rattle.vr_history.specs.declared.entry.Entry.{Entry}
use Rattle.vr_ledger.proofs.CallerLemmas.{entries_of-more}
use Rattle.vr_ledger.specs.Entries.{IsOf}
use Rattle.vr_trace.specs.Laws.{deck_entries}
use Rattle.vr_trace.specs.Numbering.{with_volume}
use Rattle.vr_worker.specs.Asked.{HasEntered, MayAsk, MayGoOn, bound_to}
use Rattle.vr_trace.specs.Growing.{FollowsOne, IsNext}
use Rattle.vr_worker.specs.Asked.{if_done, undoes}
use Rattle.vr_worker.specs.Asked.{is_done, undoes_from, undoing_after}
use Rattle.vr_trace.specs.declared.no.RunNo.{RunNo}
use Rattle.vr_worker_cases.specs.Event.{event_of, what_of}

undoes-append : (before : Bool) (own : List Entry) (entry : Entry)
    → undoes_from before (own ++ entry ∷ []) ≡ undoing_after (undoes_from before own) entry.what
undoes-append before [] entry = refl
undoes-append before (first ∷ own) entry =
    undoes-append (undoing_after before first.what) own entry

module _ (number deck line stamp : ℕ) (request : Request) where
  abbrev pub made : Bool → List Entry
  made done = event_of deck line stamp done request ∷ []

  all-own : (done : Bool) → All (IsOf deck) (made done)
  all-own done = All-cons (IsOf deck) (event_of deck line stamp done request) [] refl
      (All-nil (IsOf deck))

  answers-one : (done : Bool) → part_of_deck deck (map (with_volume number) (made done))
      ≡ if_done done (bound_to number line request)
  answers-one true = ap (λ (own : Bool). (if own then
      request_in number line (what_of true request) else []) ++ []) (eq-eqb deck deck refl)
  answers-one false = ap (λ (own : Bool). (if own then
      request_in number line (what_of false request) else []) ++ []) (eq-eqb deck deck refl)

  undoes-then : (done : Bool) (old new : List Entry) → new ≡ old ++ made done
      → undoes (deck_entries deck new)
      ≡ undoing_after (undoes (deck_entries deck old)) (what_of done request)
  undoes-then done old new grew = ap undoes (ap (deck_entries deck) grew
      ∙ entries_of-more deck old (made done) (all-own done))
      ∙ undoes-append false (deck_entries deck old) (event_of deck line stamp done request)

  goes-on : (done : Bool) (old new : List Entry) → new ≡ old ++ made done
      → MayAsk request (deck_entries deck old) → MayGoOn done request (deck_entries deck new)
  goes-on true old new grew may = undoes-then true old new grew
  goes-on false old new grew may = subst
      (λ (undone : Bool). (undone ≡ false) ⊎ IsTrue (is_backout request))
      (sym (undoes-then false old new grew)) may

  -- one entry of the deck, at the stamp that comes next after both last ones
  pub entered-one : (after : ℕ) (done : Bool) (old new : List Entry)
      → stamp ≡ max (last_stamp 0 old) after + 1 → new ≡ old ++ made done
      → MayAsk request (deck_entries deck old)
      → HasEntered number deck line request after done old new
  entered-one after done old new next grew may = record {
    made = made done;
    entries = grew;
    own = all-own done;
    stamped = (omega (arith, next), tt);
    next = All-cons (λ (entry : Entry). IsNext (max (last_stamp 0 old) after) entry
        ⊎ FollowsOne (made done) entry) (event_of deck line stamp done request) [] (inl next)
        (All-nil (λ (entry : Entry). IsNext (max (last_stamp 0 old) after) entry
        ⊎ FollowsOne (made done) entry));
    answers = answers-one done;
    goes_on = goes-on done old new grew may;
  }

-- where memory is refused, nothing is entered
pub entered-none : (number deck line : ℕ) (request : Request) (after : ℕ) (old new : List Entry)
    → new ≡ old → MayAsk request (deck_entries deck old)
    → HasEntered number deck line request after false old new
entered-none number deck line request after old new same may = record {
  made = [];
  entries = same ∙ sym (append-nil old);
  own = All-nil (IsOf deck);
  stamped = tt;
  next = All-nil (λ (entry : Entry). IsNext (max (last_stamp 0 old) after) entry
      ⊎ FollowsOne [] entry);
  answers = refl;
  goes_on = subst (MayAsk request) (ap (deck_entries deck) (sym same)) may;
}

-- and the request isn't answered
pub err-undone : (result : Result Bool RunNo) (Q : RunNo → Type 0) → IsErrAnd result Q
    → is_done result ≡ false
err-undone (Ok done) Q is = absurd is
err-undone (Err fault) Q is = refl
