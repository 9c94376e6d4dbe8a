use Rattle.vr_ams_repro.proofs.Chosen.{cards-more}
use Rattle.vr_ams_repro.proofs.piece.choose_cards.Goals as goal

pub loop-card-preserved : goal.loop-card-preserved
loop-card-preserved c = cards-more c.args.cards.now c.loop-card.card-index c.card-item.result
    c.args.piece.now c.loop-card.piece c.choose_card.new.piece c.loop-card-test.true
    c.card-item.is c.loop-card.invariant c.in_ok-choose_card.ensures
