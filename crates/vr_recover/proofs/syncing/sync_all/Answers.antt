use Rattle.std.proofs.Common.{List, ℕ, subst}
use Rattle.vr_types.specs.Blocks.{Forced}
use Rattle.vr_types.proofs.CallerLemmas.{keeps-none}
use Rattle.vr_recover.proofs.Opening.{all-forced}
use Rattle.vr_recover.proofs.syncing.sync_all.Goals as goal

pub returns-in_err-numbers-clause-keeps : goal.returns-in_err-numbers-clause-keeps
returns-in_err-numbers-clause-keeps g c =
    keeps-none g.B.Blocks.tells (g.B.Blocks.seen c.args.blocks.now)
    (λ told image now. g.met.B.Blocks.images_may c.args.blocks.now image told now)

pub returns-clause-forced : goal.returns-clause-forced
returns-clause-forced g c told = all-forced g.B.Blocks.tells (g.B.Blocks.seen c.args.blocks.now)
    (g.B.Blocks.seen c.force.new.self) c.args.count c.in_ok-numbers.numbers.items told c.requires
    c.in_ok-numbers.ensures.all c.force.ensures.after
    (subst (λ (ns : List ℕ). Forced ns (g.B.Blocks.seen c.args.blocks.now).cur
    (g.B.Blocks.seen c.force.new.self).may) c.deref.ensures.value
    (c.in_ok-force.ensures.forced told))
