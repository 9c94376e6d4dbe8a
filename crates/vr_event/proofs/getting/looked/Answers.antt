use Rattle.std.proofs.Common.{ℕ, List, Option, refl, subst}
use Rattle.vr_types.proofs.CallerLemmas.{keeps-none}
use Rattle.vr_answer.specs.InHand.{whole}
use Rattle.vr_event.specs.Searching.{IsSought}
use Rattle.vr_store.specs.declared.no.LookNo.TheVariants.{Memory}
use Rattle.vr_event.proofs.Causes.{may-unless}
use Rattle.vr_event.proofs.Ended.{may-fail}
use Rattle.vr_event.proofs.getting.looked.Goals as goal

pub returns-in-None-clause-ends : goal.returns-in-None-clause-ends
returns-in-None-clause-ends g c told volume state is stored read none sought =
    let w = whole c.args.case.now state in
    may-unless w read none c.answered.result c.unless_fault.result c.unless_fault.ensures.is
    (c.answered.ensures state is
    (subst (λ (o : Option (List ℕ)). IsSought w o) c.in-None.is sought) refl none read)

pub returns-in-None-clause-keeps : goal.returns-in-None-clause-keeps
returns-in-None-clause-keeps g c =
    keeps-none g.B.Blocks.tells (g.B.Blocks.seen c.args.blocks.now)
    (λ told image is. g.met.B.Blocks.images_may c.args.blocks.now image told is)

pub returns-then-fits-clause-ends : goal.returns-then-fits-clause-ends
returns-then-fits-clause-ends g c told volume state is stored read none sought =
    c.looked_at.ensures.ends told volume state is stored read none
    (subst (λ (o : Option (List ℕ)). IsSought (whole c.args.case.now state) o) c.in-Some.is sought)

pub returns-else-fits-clause-ends : goal.returns-else-fits-clause-ends
returns-else-fits-clause-ends g c told volume state is stored read none sought =
    may-fail (whole c.args.case.now state) read none Memory

pub returns-else-fits-clause-keeps : goal.returns-else-fits-clause-keeps
returns-else-fits-clause-keeps g c =
    keeps-none g.B.Blocks.tells (g.B.Blocks.seen c.args.blocks.now)
    (λ told image is. g.met.B.Blocks.images_may c.args.blocks.now image told is)
