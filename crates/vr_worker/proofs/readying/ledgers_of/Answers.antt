use Rattle.std.proofs.Common.{◌∙◌, ◌∷◌, ◌++◌, [], List, All, ap, map, subst, sym, take}
use Rattle.std.proofs.lemmas.List.{map_more, map_push}
use Rattle.std.proofs.lemmas.List.Elements.{All-push}
use Rattle.vr_history.specs.declared.entry.Entry.{Entry}
use Rattle.vr_worker.specs.Ready.{IsUnused, history_of}
use Rattle.vr_worker.proofs.readying.ledgers_of.Goals as goal

pub loop-volume-preserved : goal.loop-volume-preserved
loop-volume-preserved g c =
    let entries = g.V.Served.entries in
    let volumes = c.args.volumes.now in
    let index = c.loop-volume.volume-index in
    let ledgers = c.loop-volume.ledgers.items in
    let ledger = c.in_ok-new.field-0 in
    let pushed = c.in_ok-push.ensures.items in
    let of_ledgers : List (List Entry) = map history_of ledgers in
    record {
      histories = ap (map history_of) pushed ∙ map_push history_of ledgers ledger
          ∙ ap (λ (entry : List Entry). of_ledgers ++ entry ∷ [])
          (c.in_ok-new.ensures.history ∙ c.history.ensures)
          ∙ ap (λ (them : List (List Entry)). them ++ entries c.volume-item.result ∷ [])
          c.loop-volume.invariant.histories
          ∙ ap (λ (volume : g.row.V.Denot). map entries (take index volumes) ++ entries volume ∷ [])
          c.volume-item.is
          ∙ sym (map_more entries volumes index c.volume-item.result c.loop-volume-test.true);
      unused = subst (All IsUnused) (sym pushed)
          (All-push IsUnused ledgers ledger c.loop-volume.invariant.unused
          c.in_ok-new.ensures.none);
    }
