use Rattle.std.proofs.Common.{◌∙◌, ap, rules, arith}
use Rattle.std.proofs.lemmas.List.{take_all}
use Rattle.std.proofs.lemmas.List.Sorted.{answers_always}
use Rattle.vr_trace.specs.Listing.{by_number}
use Rattle.vr_trace.proofs.DeckOrders.{number_of, sorted_decks}
use Rattle.vr_trace.proofs.job_listing.by_number.Goals as goal

pub returns : goal.returns
returns c =
    sorted_decks c.loop-deck.ordered.items c.sort_by_key.new.self.items
    (c.in_ok-sort_by_key.ensures.sorted number_of
    (answers_always _ _ _ (λ f a r g h. search rules)))
    (c.in_ok-sort_by_key.ensures.stable number_of
    (answers_always _ _ _ (λ f a r g h. search rules)))
    ∙ ap by_number (c.loop-deck.invariant
    ∙ take_all c.loop-deck.deck-index c.args.decks.now (omega arith))
