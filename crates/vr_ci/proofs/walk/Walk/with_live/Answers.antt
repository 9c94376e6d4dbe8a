use Rattle.std.proofs.Common.{ℕ, ◌+◌, ◌-◌, ap, arith}
use Rattle.vr_ci.specs.declared.walk.Walk.{Walk}
use Rattle.vr_ci.proofs.RecordsLemmas.{walk_live}
use Rattle.vr_ci.proofs.walk.Walk.with_live.Goals as goal

pub returns-clause-walked : goal.returns-clause-walked
returns-clause-walked c = λ block walked place rdf.
    let old : Walk = c.args.self in
    walk_live c.args.form block old _ c.args.width walked c.requires.some
    (omega (arith, c.ranges.width)) place rdf (c.may_stand.ensures.0 c.if-not-may_stand.false)
    (ap (λ (k : ℕ). let new : Walk = record {
      end = old.end - 3;
      span = old.span + k;
      count = old.count + 1;
      run = c.args.width;
    } in new) c.from.ensures)
