use Rattle.std.proofs.Common.{◌≡◌, ◌∙◌, ℕ, List, ap, arith, false, subst, sym}
use Rattle.std.specs.Prelude.{IfSome}
use Rattle.std.proofs.lemmas.Result.{IfOk-weaker}
use Rattle.vr_history.specs.Merged.{last_stamp}
use Rattle.vr_history.specs.declared.entry.Entry.{Entry}
use Rattle.vr_ledger.specs.Entries.{HasGrown}
use Rattle.vr_trace.specs.Laws.{deck_entries}
use Rattle.vr_worker.specs.Asked.{is_done}
use Rattle.vr_worker.specs.Latched.{HasTaken, IsSince, LatchedNow}
use Rattle.vr_worker.proofs.Taken.{last-else, last-then, since-more, taken-by}
use Rattle.vr_worker.proofs.latched.Latched.event.Goals as goal
use Rattle.vr_worker.proofs.latched.Latched.event.Goals.{then-now-before, else-now-before}

pub invariant_of-self : goal.invariant_of-self
invariant_of-self g c =
    let V = g.V.Served in
    let old = c.self.inside.volume in
    let new = c.answer-answer.new.self in
    let event = c.answer-answer.ensures in
    let same : V.number new ≡ V.number old = event.number in
    record {
      within = omega (arith, same, c.self.invariant.within);
      table = c.record.ensures.table ∙ c.self.invariant.table
          ∙ ap g.N.Names.ledgers (sym same);
      history = c.record.ensures.history ∙ c.history-3.ensures;
      since = since-more V.entries V.follows g.N.Names.decks c.deck.result
          (g.N.Names.start (V.number new)) old new event.entered.made
          (λ first later. g.V.Served.goes_on first old new later event.follows)
          event.entered.entries
          (subst (Rattle.std.specs.Prelude.Contains g.N.Names.decks) (sym c.deck.ensures)
          c.requires.named)
          event.entered.own
          (subst (λ (n : ℕ). IfSome (g.N.Names.start n) (λ (first : g.row.V.Denot).
          IsSince V.entries V.follows g.N.Names.decks first old)) (sym same)
          c.self.invariant.since);
    }

pub returns-clause-taken : goal.returns-clause-taken
returns-clause-taken g c =
    let V = g.V.Served in
    let old = c.self.inside.volume in
    let new = c.answer-answer.new.self in
    let deck = c.deck.result in
    let done = is_done c.answer-answer.result in
    let entered = c.answer-answer.ensures.entered in
    let seen : c.args.self.now.volume ≡ old =
    sym (ap (λ (latched : LatchedNow g.row.V.Denot). latched.volume) c.self.view_is) in
    let before : c.last-before.result ≡ last_stamp 0 (V.entries old) =
    c.last-before.ensures ∙ ap (last_stamp 0) c.history.ensures in
    let now : c.last-now.result ≡ last_stamp 0 (V.entries new) =
    c.last-now.ensures ∙ ap (last_stamp 0) c.history-2.ensures in
    let last : c.if-now-before.last ≡ last_stamp c.args.last.now entered.made =
    elim c.if-now-before.branch [
      | then-now-before w ↦ w.last-is ∙ last-then (V.number old) deck c.args.line c.args.request.now
          c.args.last.now done (V.entries old) (V.entries new) entered c.last-before.result
          c.last-now.result before now (omega (arith, w.if-now-before.true))
      | else-now-before w ↦ w.last-is ∙ last-else (V.number old) deck c.args.line
          c.args.request.now c.args.last.now done (V.entries old) (V.entries new) entered
          c.last-before.result c.last-now.result before now (omega (arith, w.if-now-before.false))
    ] in
    subst (λ (n : ℕ). HasTaken n c.args.line c.args.request.now done c.args.last.now
    c.if-now-before.last c.args.turn.now c.record.new.turn)
    (ap V.number (sym seen))
    (taken-by (V.number old) deck c.args.line c.args.request.now c.args.last.now done
    (V.entries old) (V.entries new) entered c.if-now-before.last c.args.turn.now
    c.record.new.turn c.deck.ensures
    (c.requires.told ∙ ap (λ (v : g.row.V.Denot). deck_entries c.args.turn.now.deck (V.entries v))
    seen)
    (subst (HasGrown c.args.turn.now.history) c.self.invariant.history c.record.ensures.grown)
    (c.record.ensures.turn ∙ ap (λ (them : List Entry). record c.args.turn.now {
      entries = deck_entries c.args.turn.now.deck them;
      history = them;
    }) c.history-3.ensures)
    last)

pub returns-clause-nearer : goal.returns-clause-nearer
returns-clause-nearer g c =
    let V = g.V.Served in
    let old = c.self.inside.volume in
    let new = c.answer-answer.new.self in
    let seen : c.args.self.now.volume ≡ old =
    sym (ap (λ (latched : LatchedNow g.row.V.Denot). latched.volume) c.self.view_is) in
    IfOk-weaker c.answer-answer.result
    (λ done. done ≡ false → V.nears old new c.deck.result)
    (λ done. done ≡ false → V.nears c.args.self.now.volume new c.args.turn.now.deck)
    (λ done nearer not. subst (λ (v : g.row.V.Denot). V.nears v new c.args.turn.now.deck) (sym seen)
    (subst (V.nears old new) c.deck.ensures (nearer not)))
    c.answer-answer.ensures.nearer
