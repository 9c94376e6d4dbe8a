use Rattle.std.proofs.Common.{◌≡◌, ◌∙◌, ◌∷◌, ◌++◌, ◌<◌, [], List, ap, arith, get_or, length}
use Rattle.std.proofs.Common.{map, sym, take}
use Rattle.std.proofs.Math.ListN.{set}
use Rattle.std.proofs.lemmas.List.{map_more}
use Rattle.std.proofs.lemmas.List.Edits.{map_over_more}
use Rattle.vr_ledger.specs.Turn.{TurnNow}
use Rattle.vr_worker.specs.Ready.{turn_at, with_out}
use Rattle.vr_worker.proofs.Places.{not-yet}
use Rattle.vr_worker.proofs.readying.enter_all.Goals as goal

pub loop-place-preserved : goal.loop-place-preserved
loop-place-preserved c =
    let first = c.args.ledgers.now in
    let place = c.loop-place.place in
    let ledger = c.index-ledgers-place.result in
    let entered = with_out (c.args.deck ∷ []) in
    let near : place < length first = omega arith in
    let here : ledger ≡ get_or first place ledger =
    not-yet entered first c.loop-place.ledgers place ledger near c.loop-place.invariant.entered
    c.index-ledgers-place.is in
    let was : get_or c.loop-place.ledgers place ledger ≡ get_or first place ledger =
    sym c.index-ledgers-place.is ∙ here in
    let turn : c.enter.result ≡ turn_at c.args.deck (get_or first place ledger) =
    c.enter.ensures.turn ∙ ap (turn_at c.args.deck) was in
    record {
      turns = c.in_ok-push.ensures.items
          ∙ ap (λ (turns : List TurnNow). turns ++ c.enter.result ∷ [])
          c.loop-place.invariant.turns
          ∙ ap (λ (turn : TurnNow). map (turn_at c.args.deck) (take place first) ++ turn ∷ []) turn
          ∙ sym (map_more (turn_at c.args.deck) first place ledger near);
      entered = ap (set c.loop-place.ledgers place)
          (c.enter.ensures.ledger ∙ ap entered (sym c.index-ledgers-place.is))
          ∙ map_over_more entered first c.loop-place.ledgers place ledger near
          c.loop-place.invariant.entered c.index-ledgers-place.is;
    }
