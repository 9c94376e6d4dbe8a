use Rattle.std.proofs.Common.{ℕ, ◌-◌, take, drop, refl, subst, arith}
use Rattle.vr_ci_match.specs.Fault.{IsUnit}
use Rattle.vr_ci_match.proofs.WalkLemmas.{walk_begins, walk_more, walk_breaks, walk_ends}
use Rattle.vr_ci_match.proofs.WalkLemmas.{walk_bounds, some_read, none_follows}
use Rattle.vr_ci_match.proofs.matching.chain_of.Goals as goal

pub rdfs-init : goal.rdfs-init
rdfs-init c =
    let block = c.args.bytes.now in
    let zero = c.new-tally.ensures.zero in
    walk_begins c.args.form block c.new-tally.result c.requires.most c.requires.fits
    (c.new-tally.ensures.tally c.args.form block refl) zero.0 zero.1 zero.2

pub returns-in_default-clause-fault : goal.returns-in_default-clause-fault
returns-in_default-clause-fault c =
    let block = c.args.bytes.now in
    let at = c.unit_before-at.result.0 in (
      at,
      refl,
      walk_breaks c.args.form block c.rdfs.end at c.rdfs.tally c.rdfs.invariant
          (subst (λ (k : ℕ). IsUnit k block c.rdfs.end at) c.requires.layout.low
          c.unit_before-at.ensures.place)
          (none_follows c.args.form c.rdfs.tally.last (take (c.rdfs.end - at) (drop at block))
          c.unit_before-at.result.1 c.unit_before-at.ensures.found c.unit_before-at.ensures.none
          c.in_default.ensures.none),
    )

pub rdfs-preserved : goal.rdfs-preserved
rdfs-preserved c =
    let block = c.args.bytes.now in
    let at = c.unit_before-at.result.0 in
    let found = c.in-Some.ensures.found in
    let read = some_read (take (c.rdfs.end - at) (drop at block)) c.unit_before-at.result.1
    c.in-Some.rdf c.unit_before-at.ensures.found found.0 in
    walk_more c.args.form block c.rdfs.end at c.rdfs.tally c.with-tally.result c.in-Some.rdf
    c.rdfs.invariant
    (subst (λ (k : ℕ). IsUnit k block c.rdfs.end at) c.requires.layout.low
    c.unit_before-at.ensures.place) read.0 found.1 read.1
    c.with-tally.ensures.tally c.with-tally.ensures.count c.with-tally.ensures.span
    c.with-tally.ensures.room

pub returns-clause-tally : goal.returns-clause-tally
returns-clause-tally c =
    walk_ends c.args.form c.args.bytes.now c.rdfs.end c.rdfs.tally c.requires.least c.rdfs.invariant
    (omega (arith, c.rdfs-test.false, c.requires.layout.low))

pub returns-clause-bounds : goal.returns-clause-bounds
returns-clause-bounds c = walk_bounds c.args.form c.args.bytes.now c.rdfs.end c.rdfs.tally
    c.rdfs.invariant
