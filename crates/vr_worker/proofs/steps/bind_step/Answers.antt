use Rattle.std.proofs.Common.{◌∙◌, List, IfOk, ap, map, subst}
use Rattle.vr_catalog.specs.declared.entry.CatEntry.{CatEntry}
use Rattle.vr_job_text.specs.declared.text.Deck.{Deck}
use Rattle.vr_worker.specs.Runs.{AreRuns}
use Rattle.vr_worker.proofs.steps.bind_step.Goals as goal

pub returns : goal.returns
returns g c =
    subst (λ (catalogs : List (List CatEntry)). IfOk c.bind_all.result
    (λ runs. AreRuns catalogs c.args.step.now.decks runs.items))
    (ap (λ them. map (λ one. one.now) them) c.as_slice-2.ensures.value ∙ c.in_ok-catalogs.ensures)
    (subst (λ (decks : List Deck). IfOk c.bind_all.result
    (λ runs. AreRuns (map (λ one. one.now) c.as_slice-2.result.now) decks runs.items))
    c.as_slice.ensures c.bind_all.ensures)
