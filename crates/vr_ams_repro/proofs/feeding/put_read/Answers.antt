use Rattle.std.proofs.Common.{◌∙◌, IfOk, List, Option, subst, ℕ}
use Rattle.vr_ams_repro.specs.Fed.{IsPutTwice}
use Rattle.vr_ams_repro.proofs.feeding.put_read.Goals as goal

pub returns-clause-put : goal.returns-clause-put
returns-clause-put g c = subst (λ (at : Option (List ℕ)). IfOk c.put_twice.result (λ next.
    IsPutTwice g.V.OwnedVolume.answers g.V.FilledVolume.replies c.args.load.now at
    c.args.record.now c.args.progress c.args.volume.now next c.put_twice.new.volume))
    (c.as_ref.ensures.value ∙ c.in_ok-place.ensures) c.put_twice.ensures.put
