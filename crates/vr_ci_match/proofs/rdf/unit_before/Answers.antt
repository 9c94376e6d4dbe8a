use Rattle.std.proofs.Common.{ℕ, ◌≡◌, ◌≢◌, ◌-◌, List, sym, subst, arith}
use Rattle.std.specs.Prelude.{IfSome, IfNone}
use Rattle.vr_ci_match.specs.declared.rdf.Rdf.{Rdf}
use Rattle.vr_ci_match.specs.Rdf.{rdf_bytes, IsRdf}
use Rattle.vr_ci_match.proofs.CompareLemmas.{half_at, pair_at}
use Rattle.vr_ci_match.proofs.rdf.unit_before.Goals as goal

pub returns-then-flags-ne0-clause-found : goal.returns-then-flags-ne0-clause-found
returns-then-flags-ne0-clause-found c =
    let block = c.args.bytes.now in
    let end : ℕ = c.args.end in
    let same = pair_at block (end - 6) end c.from_be_bytes-number.result
    c.from_be_bytes-length.result (omega (arith, c.if-end-low-ge6.true)) c.requires.within
    (λ i. omega (arith, c.type_inv.bytes i))
    (omega (arith, c.from_be_bytes-number.ensures)) (omega (arith, c.from_be_bytes-length.ensures))
    in
    subst (λ (x : List ℕ). IfSome c.pair_of.result (λ r. IsRdf r × (x ≡ rdf_bytes r))) (sym same)
    c.pair_of.ensures.found

pub returns-then-flags-ne0-clause-none : goal.returns-then-flags-ne0-clause-none
returns-then-flags-ne0-clause-none c =
    let block = c.args.bytes.now in
    let end : ℕ = c.args.end in
    let same = pair_at block (end - 6) end c.from_be_bytes-number.result
    c.from_be_bytes-length.result (omega (arith, c.if-end-low-ge6.true)) c.requires.within
    (λ i. omega (arith, c.type_inv.bytes i))
    (omega (arith, c.from_be_bytes-number.ensures)) (omega (arith, c.from_be_bytes-length.ensures))
    in
    subst (λ (x : List ℕ). IfNone c.pair_of.result ((r : Rdf) → IsRdf r → x ≢ rdf_bytes r))
    (sym same) c.pair_of.ensures.none

pub returns-clause-found : goal.returns-clause-found
returns-clause-found c =
    let block = c.args.bytes.now in
    let end : ℕ = c.args.end in
    let same = half_at block (end - 3) end c.from_be_bytes-length.result
    (omega (arith, c.requires.place)) c.requires.within (λ i. omega (arith, c.type_inv.bytes i))
    (omega (arith, c.from_be_bytes-length.ensures)) in
    subst (λ (x : List ℕ). IfSome c.single_of.result (λ r. IsRdf r × (x ≡ rdf_bytes r))) (sym same)
    c.single_of.ensures.found

pub returns-clause-none : goal.returns-clause-none
returns-clause-none c =
    let block = c.args.bytes.now in
    let end : ℕ = c.args.end in
    let same = half_at block (end - 3) end c.from_be_bytes-length.result
    (omega (arith, c.requires.place)) c.requires.within (λ i. omega (arith, c.type_inv.bytes i))
    (omega (arith, c.from_be_bytes-length.ensures)) in
    subst (λ (x : List ℕ). IfNone c.single_of.result ((r : Rdf) → IsRdf r → x ≢ rdf_bytes r))
    (sym same) c.single_of.ensures.none
