use Rattle.std.proofs.Common.{◌<◌, ◌+◌, length, arith}
use Rattle.vr_split.specs.Entries.{lengths_seen}
use Rattle.vr_split.proofs.Totals.{weight_more, none_more, weight_least, length_seen}
use Rattle.vr_split.proofs.weights.middle_of.Goals as goal

pub overflow_sub-whole : goal.overflow_sub-whole
overflow_sub-whole c =
    let within : c.loop-i.i < length c.args.entries.now = omega (arith, c.loop-i-test.true) in
    let more = weight_more c.args.entries.now c.loop-i.i c.index-entries-i.result within
    c.index-entries-i.is in
    omega (
      arith,
      more,
      c.loop-i.invariant.sum,
      c.weighs-sum.ensures.weight,
      c.weight_of-whole.ensures,
      weight_least (lengths_seen c.args.entries.now) (c.loop-i.i + 1),
    )

pub returns-then-whole-sum : goal.returns-then-whole-sum
returns-then-whole-sum c =
    let count = length_seen c.args.entries.now in
    let within : c.loop-i.i < length c.args.entries.now = omega (arith, c.loop-i-test.true) in
    let more = weight_more c.args.entries.now c.loop-i.i c.index-entries-i.result within
    c.index-entries-i.is in
    record {
      some = omega arith;
      before_last = omega (arith, count, c.loop-i-test.true);
      least = λ n some before half. c.loop-i.invariant.none n some (omega (arith, before)) half;
      half = λ further. omega (
        arith,
        more,
        c.loop-i.invariant.sum,
        c.weighs-sum.ensures.weight,
        c.weight_of-whole.ensures,
        c.if-whole-sum.true,
      );
    }

pub loop-i-preserved : goal.loop-i-preserved
loop-i-preserved c =
    let within : c.loop-i.i < length c.args.entries.now = omega (arith, c.loop-i-test.true) in
    let more = weight_more c.args.entries.now c.loop-i.i c.index-entries-i.result within
    c.index-entries-i.is in
    record {
      sum = omega (arith, more, c.loop-i.invariant.sum, c.weighs-sum.ensures.weight);
      none = none_more (lengths_seen c.args.entries.now) c.loop-i.i c.loop-i.invariant.none
          (omega (
            arith,
            more,
            c.loop-i.invariant.sum,
            c.weighs-sum.ensures.weight,
            c.weight_of-whole.ensures,
            c.if-whole-sum.false,
          ));
    }
