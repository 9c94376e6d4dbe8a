use Rattle.std.proofs.Common.{ℕ, ◌+◌, ◌-◌, ◌*◌, ◌/◌, ◌≤◌, ap, sym, subst, length, take, drop, arith}
use Rattle.std.proofs.Common.{refl, List, ◌++◌, Option, Some, None}
use Rattle.std.specs.Prelude.{MatchOption}
use Rattle.vr_ci_match.specs.declared.rdf.Rdf.{Rdf}
use Rattle.vr_ci_match.specs.Rdf.{control}
use Rattle.vr_ci_match.specs.Compare.{Compares}
use Rattle.vr_ci_match.specs.Fault.{free_end, HasRightLengths, HasWrongLengths}
use Rattle.vr_ci_match.specs.Tally.{judged}
use Rattle.vr_ci_match.proofs.ComparedLemmas.{empties}
use Rattle.vr_ci_match.proofs.EndLemmas.{lengths_data, lengths_control, lengths_end, ends_are}
use Rattle.vr_ci_match.proofs.EndLemmas.{compared_is, place_empty, cidf_here}
use Rattle.vr_ci_match.proofs.matching.lengths_fault.Goals as goal

pub returns-in-Some : goal.returns-in-Some
returns-in-Some c = λ rdfs w t.
    let block = c.args.bytes.now in
    let limit : ℕ = c.data_end-limit.result in
    let here = c.data_end-limit.ensures c.args.form (free_end block) c.requires.layout in
    let ends = ends_are c.args.form block rdfs c.args.tally limit _ c.requires.least w t here refl in
    let k = compared_is c.args.form block rdfs c.args.tally limit w t here in
    lengths_data c.args.form block rdfs limit _ c.in-Some.at
    (omega (arith, c.requires.least)) ends
    (c.in-Some.ensures.data_wrong _ k)

pub returns-in-Some-control_difference : goal.returns-in-Some-control_difference
returns-in-Some-control_difference c = λ rdfs w t.
    let block = c.args.bytes.now in
    let limit : ℕ = c.data_end-limit.result in
    let empty : ℕ = c.saturating_sub-empty.result / 3 in
    let ms : List Rdf = judged c.args.form (length block) rdfs in
    let here = c.data_end-limit.ensures c.args.form (free_end block) c.requires.layout in
    let ends = ends_are c.args.form block rdfs c.args.tally limit empty c.requires.least w t here
    (ap (λ (k : ℕ). k / 3) c.saturating_sub-empty.ensures) in
    let k = compared_is c.args.form block rdfs c.args.tally limit w t here in
    lengths_control c.args.form block rdfs limit empty c.in-Some-control_difference.at
    (omega (arith, c.requires.least)) ends
    (c.in_default.ensures.data_wrong ms k)
    (subst (λ (j : ℕ). Compares limit (drop limit (take (length block - 4) block))
    (control (ms ++ empties empty j)) (Some c.in-Some-control_difference.at))
    c.slot_length-slot_length.ensures.length
    (c.in-Some-control_difference.ensures ms k
    (place_empty c.args.form block rdfs limit empty ends)))

pub returns : goal.returns
returns c = λ rdfs w t.
    let block = c.args.bytes.now in
    let limit : ℕ = c.data_end-limit.result in
    let empty : ℕ = c.saturating_sub-empty.result / 3 in
    let ms : List Rdf = judged c.args.form (length block) rdfs in
    let here = c.data_end-limit.ensures c.args.form (free_end block) c.requires.layout in
    let ends = ends_are c.args.form block rdfs c.args.tally limit empty c.requires.least w t here
    (ap (λ (k : ℕ). k / 3) c.saturating_sub-empty.ensures) in
    let k = compared_is c.args.form block rdfs c.args.tally limit w t here in
    let least : 4 ≤ length block = omega (arith, c.requires.least) in
    let wide : ℕ = c.args.tally.compared.span + empty * c.slot_length-slot_length.result in
    let r : Option ℕ = c.difference.result in
    subst (λ (o : Option ℕ). MatchOption o (HasRightLengths c.args.form block rdfs)
    (HasWrongLengths c.args.form block rdfs)) (sym c.or.ensures)
    (lengths_end c.args.form block rdfs limit empty wide c.saturating_sub.result c.args.tally r
    least ends t (c.in_default.ensures.data_wrong ms k)
    (subst (λ (j : ℕ). Compares limit (drop limit (take (length block - 4) block))
    (control (ms ++ empties empty j)) None) c.slot_length-slot_length.ensures.length
    (c.in_default-control_difference.ensures ms k
    (place_empty c.args.form block rdfs limit empty ends)))
    (ap (λ (j : ℕ). c.args.tally.compared.span + empty * j)
    c.slot_length-slot_length.ensures.length) c.saturating_sub.ensures
    (cidf_here block c.args.field.displacement c.args.field.free wide c.saturating_sub.result
    c.args.field.busy r least (λ i. omega (arith, c.type_inv.bytes i))
    c.requires.displacement c.requires.free c.requires.busy c.difference.ensures))
