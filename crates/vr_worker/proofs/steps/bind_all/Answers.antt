use Rattle.std.proofs.Common.{◌≡◌, ◌∙◌, ◌+◌, List, [], ◌∷◌, ◌++◌, ap, map, subst, sym, take}
use Rattle.vr_types.specs.declared.bound.Bound.{Bound}
use Rattle.vr_catalog.specs.declared.entry.CatEntry.{CatEntry}
use Rattle.vr_worker.specs.declared.deck.DeckRun.{DeckRun}
use Rattle.vr_worker.specs.Runs.{AreRuns, DeckAsks}
use Rattle.vr_worker.proofs.RunLists.{run-more}
use Rattle.vr_worker.proofs.steps.bind_all.Goals as goal

pub loop-deck-preserved : goal.loop-deck-preserved
loop-deck-preserved c =
    let catalogs : List (List CatEntry) = map (λ one. one.now) c.args.catalogs.now in
    let i = c.loop-deck.deck-index in
    let deck = c.deck-item.result in
    let asks : List Bound → DeckAsks = λ them. record { number = deck.number; requests = them } in
    let run : DeckRun = record { number = deck.number; requests = c.into_vec.result } in
    let pushed : c.push.new.self.items ≡ c.loop-deck.runs.items ++ run ∷ [] =
    c.in_ok-push.ensures.items in
    subst (AreRuns catalogs (take (i + 1) c.args.decks.now))
    (sym {A = List DeckRun} pushed)
    (run-more catalogs c.args.decks.now c.loop-deck.runs.items i deck run
    c.loop-deck-test.true
    c.deck-item.is c.loop-deck.invariant
    (ap asks (c.into_vec.ensures ∙ c.in_ok-requests.ensures.value)))
