use Rattle.std.proofs.Common.{◌≡◌, arith, subst, sym}
use Rattle.std.proofs.lemmas.Result.{err_from_is_err_and}
use Rattle.vr_types.proofs.CallerLemmas.{keeps-none}
use Rattle.vr_space.specs.Areas.{KeyedChain, intervals_in}
use Rattle.vr_mount.proofs.CallerLemmas.{two-areas}
use Rattle.vr_recover.proofs.OwnArea.{own-answer}
use Rattle.vr_recover.proofs.mounted.attach_own.Goals as goal

pub returns-in_err-space-clause-keeps : goal.returns-in_err-space-clause-keeps
returns-in_err-space-clause-keeps g c =
    keeps-none g.B.Blocks.tells (g.B.Blocks.seen c.args.blocks.now)
    (λ told image now. g.met.B.Blocks.images_may c.args.blocks.now image told now)

pub returns-in_err-own-clause-damaged : goal.returns-in_err-own-clause-damaged
returns-in_err-own-clause-damaged g c told =
    let geometry = c.args.geometry.now in
    let cur = (g.B.Blocks.seen c.args.blocks.now).cur in
    let p = err_from_is_err_and c.from_residual-in_err-own.result
    c.from_residual-in_err-own.ensures.1 in
    rw (p.1, p.2) (own-answer geometry cur c.in_ok-space.space
    (omega (arith, two-areas geometry c.requires.allowed)) c.in_ok-space.ensures.others
    c.catalog_layout.result c.catalog_layout.ensures c.in_err-own.field-0.0
    (c.in_err-own.ensures.damaged told))

pub returns-clause-counted : goal.returns-clause-counted
returns-clause-counted g c told =
    let own = c.in_ok-own.own in
    let cur = (g.B.Blocks.seen c.args.blocks.now).cur in
    subst (λ (part : KeyedChain). own.intervals ≡ intervals_in part cur)
    (sym c.in_ok-own.ensures.attached.part_is) (c.in_ok-own.ensures.counted told)
