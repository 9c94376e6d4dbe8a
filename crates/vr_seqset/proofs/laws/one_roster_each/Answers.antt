use Rattle.std.proofs.Common.{ℕ, ap, sym, ◌∙◌}
use Rattle.vr_seqset.specs.Roster.{block_of_roster}
use Rattle.vr_seqset.proofs.RosterLemmas.{roster_is, length-block_of_roster, block_of_roster_is}
use Rattle.vr_seqset.proofs.laws.one_roster_each.Goals as goal

pub returns-clause-there : goal.returns-clause-there
returns-clause-there c = λ cis size r rules.
    (length-block_of_roster cis size r rules, block_of_roster_is cis size r rules)

pub returns-clause-one : goal.returns-clause-one
returns-clause-one c = λ cis a b r len first second. first.spelled
    ∙ ap (λ (n : ℕ). block_of_roster n r) len ∙ sym second.spelled

pub returns-clause-same : goal.returns-clause-same
returns-clause-same c = λ cis others block r q first second. sym (roster_is cis block r first)
    ∙ roster_is others block q second
