use Rattle.std.proofs.Common.{◌≡◌, [], ◌∷◌, arith, ◌∙◌, subst}
use Rattle.vr_ledger.specs.declared.view.View.{View}
use Rattle.vr_ledger.specs.declared.view.View.TheVariants.{OfTurn}
use Rattle.vr_ledger.specs.Views.{part_in, IsOfTurn}
use Rattle.vr_ledger.proofs.Steps.{joins}
use Rattle.vr_ledger.proofs.seat.LedgerSeat.take_in.Goals as goal

pub join_seat-requires : goal.join_seat-requires
join_seat-requires c =
    let it = c.args.self.now in let came = c.into_seat.ensures in
    let turn : View = c.into_seat.result.me.0 in
    let alone : IsOfTurn (turn ∷ []) = subst IsOfTurn came.2 c.requires.turn in
    let of_turn : turn ≡ OfTurn (part_in turn) = cc in (
      it.of_table,
      came.0 ∙ (c.requires.own ∙ it.of_table),
      came.3,
      omega (arith, it.one_word),
      joins it.seat.id c.into_seat.result.id it.seat.me.0 turn it.knows_whole of_turn,
    )
