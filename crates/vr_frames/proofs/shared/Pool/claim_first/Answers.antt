use Rattle.std.proofs.Common.{◌<◌, sym, subst, arith}
use Rattle.std.proofs.lemmas.Option.{IfSome_then}
use Rattle.vr_frames.specs.Search.{Tried}
use Rattle.vr_frames.proofs.Claims.{tried_round, missed_some, won_round, then_none}
use Rattle.vr_frames.proofs.shared.Pool.claim_first.Goals as goal

pub returns-in-Some-clause-some : goal.returns-in-Some-clause-some
returns-in-Some-clause-some c = let found =
    c.in-Some.ensures.some in (
      found.0,
      missed_some _ _ _ _ found.1,
      omega (arith, c.in-Some.ensures, c.args.self.now.counts.0),
    )

pub returns-in-None-clause-none : goal.returns-in-None-clause-none
returns-in-None-clause-none c = then_none c.claim_within-in-None.result _ _
    (λ tried. tried_round _ _ _ _ _ c.requires.start
    (subst (Tried _ _ c.args.start) (sym c.args.self.now.counts.0) c.in-None.ensures.none) tried)
    c.claim_within-in-None.ensures.none

pub returns-in-None-clause-some : goal.returns-in-None-clause-some
returns-in-None-clause-some c =
    IfSome_then c.claim_within-in-None.result c.claim_within-in-None.ensures.some
    (λ number found. let before : number < c.args.start = found.3 in
    let round = won_round _ _ _ _ _ _ before
    (subst (Tried _ _ c.args.start) (sym c.args.self.now.counts.0) c.in-None.ensures.none)
    (found.0, found.1) in (round.0, round.1, omega (arith, c.requires.start)))
