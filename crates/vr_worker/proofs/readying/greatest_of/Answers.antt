use Rattle.std.proofs.Common.{◌∙◌, ◌∷◌, ◌++◌, [], ℕ, All, ap, max, subst, sym, take}
use Rattle.std.proofs.lemmas.List.{take_all, take_more}
use Rattle.std.proofs.lemmas.List.Elements.{All-more}
use Rattle.vr_history.specs.Merged.{IsStamped, last_stamp}
use Rattle.vr_trace.specs.Growing.{greatest_last}
use Rattle.vr_worker.proofs.Laters.{greatest-more, none-above}
use Rattle.vr_worker.proofs.readying.greatest_of.Goals as goal

pub loop-volume-preserved : goal.loop-volume-preserved
loop-volume-preserved g c =
    let entries = g.V.Served.entries in
    let volumes = c.args.volumes.now in
    let index = c.loop-volume.volume-index in
    let volume = c.volume-item.result in
    record {
      last = greatest-more entries (take index volumes) volume c.loop-volume.last
          c.max-last.result c.loop-volume.invariant.last
          (c.max-last.ensures ∙ ap (λ (last : ℕ). max last c.loop-volume.last)
          (c.last_of.ensures.last ∙ ap (last_stamp 0) c.history.ensures))
          ∙ ap (greatest_last entries) (sym (take_more volumes index volume c.loop-volume-test.true
          ∙ ap (λ (one : g.row.V.Denot). take index volumes ++ one ∷ [])
          (sym c.volume-item.is)));
      stamped = All-more (λ (one : g.row.V.Denot). IsStamped 0 (entries one)) volumes index volume
          c.loop-volume-test.true c.loop-volume.invariant.stamped
          (subst (λ (one : g.row.V.Denot). IsStamped 0 (entries one)) c.volume-item.is
          (subst (IsStamped 0) c.history.ensures c.last_of.ensures.stamped));
    }

pub returns-clause-stamped : goal.returns-clause-stamped
returns-clause-stamped g c = subst
    (All (λ (one : g.row.V.Denot). IsStamped 0 (g.V.Served.entries one)))
    (take_all c.loop-volume.volume-index c.args.volumes.now c.loop-volume-test.false)
    c.loop-volume.invariant.stamped

pub returns-clause-had : goal.returns-clause-had
returns-clause-had g c =
    none-above g.V.Served.entries c.args.volumes.now (returns-clause-stamped g c)
