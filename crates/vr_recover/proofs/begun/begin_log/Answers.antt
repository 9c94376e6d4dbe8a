use Rattle.std.proofs.Common.{◌≡◌, subst, sym}
use Rattle.std.proofs.lemmas.Result.{IfErr-weaker}
use Rattle.vr_recover.specs.Found.{ShowsOnly}
use Rattle.vr_recover.specs.Opening.{IsLogShown}
use Rattle.vr_recover.specs.declared.open_no.OpenNo.TheVariants.{Memory}
use Rattle.vr_recover.proofs.begun.begin_log.Goals as goal

pub returns-clause-damaged : goal.returns-clause-damaged
returns-clause-damaged g c told =
    let geometry = c.args.geometry.now in
    let a = g.B.Blocks.seen c.args.blocks.now in
    IfErr-weaker c.begin.result (λ no. no ≡ Memory) (ShowsOnly (IsLogShown geometry a))
    (λ answer is. subst (ShowsOnly (IsLogShown geometry a)) (sym is) tt) c.begin.ensures.memory
