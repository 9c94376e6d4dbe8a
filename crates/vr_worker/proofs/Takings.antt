-- The events of one request, one after another.
use Rattle.std.proofs.Common.{◌≡◌, ◌∙◌, ℕ, Bool, false, [], ◌++◌, map, ap, refl, subst}
use Rattle.std.proofs.Common.{Result, Ok, Err, sym}
use Rattle.std.specs.Result.{IsErrAnd}
use Rattle.std.proofs.lemmas.List.Elements.{All-append, All-nil, All-weaker}
use Rattle.std.proofs.lemmas.List.Elements.{Contains-append_left}
use Rattle.vr_types.specs.declared.request.Request.{Request}
use Rattle.vr_history.specs.Merged.{IsStamped, last_stamp, part_of_deck}
use Rattle.vr_ledger.specs.Turn.{TurnNow}
use Rattle.vr_trace.specs.Numbering.{with_volume}
use Rattle.vr_worker.specs.Asked.{MayAsk, is_ok}
use Rattle.vr_worker.specs.Latched.{ComesNext, HasTaken}
use Rattle.vr_trace.specs.declared.no.RunNo.{RunNo}
use Rattle.vr_worker.proofs.Nexts.{learned-none, learned-then, next-after, next-more}
use Rattle.vr_worker.proofs.Parts.{part-then}
use Rattle.vr_worker.proofs.Stamps.{last_stamp-both, stamped-both}

-- no event yet
pub taken-none : (volume line : ℕ) (request : Request) (last : ℕ) (turn : TurnNow)
    → MayAsk request turn.entries → HasTaken volume line request false last last turn turn
taken-none volume line request last turn may_ask = record {
  made = [];
  turn = learned-none turn;
  stamped = tt;
  next = All-nil (ComesNext last [] turn.history);
  last_is = refl;
  answers = refl;
  goes_on = may_ask;
}

-- events that didn't answer the request, and then others
pub taken-then : (volume line : ℕ) (request : Request) (done : Bool) (last mid last' : ℕ)
    (a b c : TurnNow) → HasTaken volume line request false last mid a b
    → HasTaken volume line request done mid last' b c
    → HasTaken volume line request done last last' a c
taken-then volume line request done last mid last' a b c first second = record {
  made = first.made ++ second.made;
  turn = learned-then first.made second.made a b c first.turn second.turn;
  stamped = stamped-both last first.made second.made first.stamped
      (subst (λ n. IsStamped n second.made) first.last_is second.stamped);
  next = All-append (ComesNext last (first.made ++ second.made) c.history) first.made second.made
      (All-weaker (ComesNext last first.made b.history)
      (ComesNext last (first.made ++ second.made) c.history)
      (λ entry next. next-more last first.made (first.made ++ second.made) b.history c.history
      entry (λ other has. Contains-append_left first.made second.made other has)
      second.turn.history next) first.made first.next)
      (All-weaker (ComesNext mid second.made c.history)
      (ComesNext last (first.made ++ second.made) c.history)
      (λ entry next. next-after last mid first.made second.made c.history entry first.last_is next)
      second.made second.next);
  last_is = second.last_is ∙ ap (λ n. last_stamp n second.made) first.last_is
      ∙ sym (last_stamp-both last first.made second.made);
  answers = part-then a.deck volume first.made second.made
      ∙ ap (λ asked. asked ++ part_of_deck a.deck (map (with_volume volume) second.made))
      first.answers
      ∙ ap (λ deck. part_of_deck deck (map (with_volume volume) second.made))
      (sym (ap (λ (turn : TurnNow). turn.deck) first.turn.turn))
      ∙ second.answers;
  goes_on = second.goes_on;
}

-- a request isn't answered where the call fails
pub err-ok : (result : Result (Unit {0}) RunNo) (fault : RunNo)
    → IsErrAnd result (λ (given : RunNo). given ≡ fault) → is_ok result ≡ false
err-ok (Ok value) fault is = absurd is
err-ok (Err given) fault is = refl
