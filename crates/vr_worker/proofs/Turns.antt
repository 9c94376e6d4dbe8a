-- The turns of a deck, which learn of what the deck entered.
use Rattle.std.proofs.Common.{◌≡◌, ◌≢◌, ◌∙◌, ◌<◌, ◌==◌, ℕ, Bool, true, false, List, [], ◌++◌}
use Rattle.std.proofs.Common.{Result, Ok, Err, map, ap, refl, subst, sym, arith}
use Rattle.std.proofs.Common.{get_or, length}
use Rattle.std.specs.Prelude.{OnOk, set}
use Rattle.std.proofs.lemmas.Bool.Decides.{nat_tests}
use Rattle.std.proofs.lemmas.Grind.{get_or-set_at}
use Rattle.std.proofs.lemmas.List.{get_or_default, get_or-set_other, length-set}
use Rattle.atomic_table.specs.Seated.{TableId}
use Rattle.vr_types.specs.declared.request.Request.{Request}
use Rattle.vr_history.specs.declared.entry.Entry.{Entry}
use Rattle.vr_history.specs.Merged.{Numbered}
use Rattle.vr_ledger.specs.Turn.{TurnNow}
use Rattle.vr_trace.specs.Laws.{entries_on}
use Rattle.vr_trace.specs.Numbering.{with_volume}
use Rattle.vr_worker.specs.Asked.{is_ok, undoes}
use Rattle.vr_worker.specs.Deck.{AreCalm, AreTurns, HaveGrown}
use Rattle.vr_worker.specs.Latched.{HasLearned, HasTaken}
use Rattle.vr_trace.specs.declared.no.RunNo.{RunNo}
use Rattle.vr_worker.proofs.Nexts.{learned-none, learned-then}
use Rattle.vr_worker.proofs.Parts.{on-both, on-other, on-same}

-- nothing yet
pub grown-none : (turns : List TurnNow) → HaveGrown turns turns []
grown-none turns = record {
  count = refl;
  each = λ volume turn inside. learned-none (get_or turns volume turn);
  within = λ volume outside. refl;
}

-- of entries, and then of others
pub grown-then : (a b c : List TurnNow) (one more : List Numbered) → HaveGrown a b one
    → HaveGrown b c more → HaveGrown a c (one ++ more)
grown-then a b c one more first second = record {
  count = second.count ∙ first.count;
  each = λ volume turn inside.
      subst (λ (them : List Entry). HasLearned them (get_or a volume turn) (get_or c volume turn))
      (sym (on-both volume one more))
      (learned-then (entries_on volume one) (entries_on volume more) (get_or a volume turn)
      (get_or b volume turn) (get_or c volume turn) (first.each volume turn inside)
      (second.each volume turn (omega (arith, first.count, inside))));
  within = λ volume outside.
      on-both volume one more
      ∙ ap (λ entries. entries ++ entries_on volume more) (first.within volume outside)
      ∙ second.within volume (omega (arith, first.count, outside));
}

-- they are still the deck's, at the same ledgers
pub turns-grown : (ledgers : ℕ → TableId) (deck : ℕ) (old new : List TurnNow)
    (made : List Numbered) → HaveGrown old new made → AreTurns ledgers deck old
    → AreTurns ledgers deck new
turns-grown ledgers deck old new made grown turns volume turn inside =
    let in_old : volume < length old = omega (arith, grown.count, inside) in
    let same = (grown.each volume turn in_old).turn in
    let was = turns volume turn in_old in (
      ap (λ (now : TurnNow). now.ledger) same ∙ was.0,
      ap (λ (now : TurnNow). now.deck) same ∙ was.1,
    )

-- ---- one of them

equal : (v w : ℕ) → (v == w) ≡ true → w ≡ v
equal v w same = grind (arith, nat_tests, same)

unequal : (v w : ℕ) → (v == w) ≡ false → w ≢ v
unequal v w differ = grind (arith, nat_tests, differ)

differ_below : (v w : ℕ) → v < w → (v == w) ≡ false
differ_below v w below = grind (arith, nat_tests, below)

-- the turn on one volume learned of entries there
pub grown-one : (turns : List TurnNow) (place : ℕ) (old new : TurnNow) (made : List Entry)
    → place < length turns → HasLearned made (get_or turns place old) new
    → HaveGrown turns (set turns place new) (map (with_volume place) made)
grown-one turns place old new made at is = record {
  count = length-set turns place new;
  each = λ volume turn inside. by_test volume turn (place == volume) refl;
  within = λ volume outside.
      on-other place volume made (differ_below place volume (omega (arith, at, outside)));
}
  where
    by_test : (volume : ℕ) (turn : TurnNow) (b : Bool) → (place == volume) ≡ b
        → HasLearned (entries_on volume (map (with_volume place) made)) (get_or turns volume turn)
        (get_or (set turns place new) volume turn)
    by_test volume turn true same =
        let there = equal place volume same in
        let was : TurnNow = get_or turns volume turn in
        subst (HasLearned (entries_on volume (map (with_volume place) made)) was)
        (sym (get_or-set_at turns place volume new turn there at))
        (subst (λ (them : List Entry). HasLearned them was new)
        (sym (on-same place volume made same))
        (subst (λ (it : TurnNow). HasLearned made it new)
        (get_or_default turns place old turn at ∙ ap (λ n. get_or turns n turn) (sym there)) is))
    by_test volume turn false differ =
        let was : TurnNow = get_or turns volume turn in
        subst (HasLearned (entries_on volume (map (with_volume place) made)) was)
        (sym (get_or-set_other turns place volume new turn (unequal place volume differ)))
        (subst (λ (them : List Entry). HasLearned them was was)
        (sym (on-other place volume made differ)) (learned-none was))

-- where its unit hasn't begun to undo, none of the deck has
calm-set : (turns : List TurnNow) (place : ℕ) (new : TurnNow) → place < length turns
    → undoes new.entries ≡ false → AreCalm turns → AreCalm (set turns place new)
calm-set turns place new at now calm volume turn inside =
    by_test (place == volume) refl
  where
    by_test : (b : Bool) → (place == volume) ≡ b
        → undoes (get_or (set turns place new) volume turn).entries ≡ false
    by_test true same = ap (λ (turn : TurnNow). undoes turn.entries)
        (get_or-set_at turns place volume new turn (equal place volume same) at) ∙ now
    by_test false differ = ap (λ (turn : TurnNow). undoes turn.entries)
        (get_or-set_other turns place volume new turn (unequal place volume differ))
        ∙ calm volume turn (omega (arith, inside, length-set turns place new))

-- so it is where a request was answered there
pub calm-one : (turns : List TurnNow) (place line : ℕ) (request : Request)
    (result : Result (Unit {0}) RunNo) (last last' : ℕ) (old new : TurnNow) → place < length turns
    → HasTaken place line request (is_ok result) last last' (get_or turns place old) new
    → AreCalm turns → OnOk result (AreCalm (set turns place new))
calm-one turns place line request (Ok value) last last' old new at taken calm =
    calm-set turns place new at taken.goes_on calm
calm-one turns place line request (Err fault) last last' old new at taken calm = tt
