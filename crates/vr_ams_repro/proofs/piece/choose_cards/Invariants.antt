use Rattle.std.proofs.Common.{◌≡◌, map, take}
use Rattle.vr_trace.specs.Visitors.{visited_by}
use Rattle.vr_ams_repro.specs.Pieces.{of_card}
use Rattle.vr_ams_repro.specs.Steps.{after_record, is_done}
use Rattle.vr_ams_repro.proofs.piece.choose_cards.Given as goal

-- the cards so far were handed over
abbrev pub invariant-loop-card : goal.invariant-loop-card
invariant-loop-card l = l.piece
    ≡ visited_by after_record is_done (map of_card (take l.card-index l.cards)) l.fn.piece
