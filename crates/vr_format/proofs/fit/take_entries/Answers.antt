use Rattle.std.proofs.Common.{arith, subst, sym, true}
use Rattle.vr_format.specs.Fit.{AreTaken, IsFirstUnfit, TakesNext}
use Rattle.vr_format.proofs.Taken.{count-is, first-unfit, taken-all, taken-more, taken-none}
use Rattle.vr_format.proofs.fit.take_entries.Goals as goal

pub loop-entry-init : goal.loop-entry-init
loop-entry-init c = record {
  number = omega arith;
  room = omega arith;
  taken = subst (AreTaken c.args.geometry.now _) (sym c.requires.none)
      (taken-none c.args.geometry.now c.args.entries.now);
}

pub take_entry-requires : goal.take_entry-requires
take_entry-requires c =
    omega (
      arith,
      c.loop-entry.invariant.number,
      count-is c.args.geometry.now c.args.entries.now c.loop-entry.clusters c.loop-entry.entry-index
          c.loop-entry-test.true c.loop-entry.invariant.taken,
    )

pub overflow_add-number : goal.overflow_add-number
overflow_add-number c =
    omega (arith, c.loop-entry.invariant.room, c.requires.allowed.size.most)

pub overflow_add-number-in-loop-entry : goal.overflow_add-number-in-loop-entry
overflow_add-number-in-loop-entry c =
    omega (arith, c.loop-entry.invariant.room, c.requires.allowed.size.most)

pub returns-then-not-branch-clause-unfit : goal.returns-then-not-branch-clause-unfit
returns-then-not-branch-clause-unfit c =
    subst (IsFirstUnfit c.args.geometry.now c.args.entries.now)
    (sym c.loop-entry.invariant.number)
    (first-unfit c.args.geometry.now c.args.entries.now c.loop-entry.clusters
    c.loop-entry.entry-index c.loop-entry-test.true c.loop-entry.invariant.taken
    c.entry-item.result c.entry-item.is
    (subst (TakesNext c.args.geometry.now c.loop-entry.clusters c.entry-item.result
    c.take_entry.new.clusters) c.if-not-branch.true c.in_ok-take_entry.ensures))

pub loop-entry-preserved : goal.loop-entry-preserved
loop-entry-preserved c =
    let took : TakesNext c.args.geometry.now c.loop-entry.clusters c.entry-item.result
    c.take_entry.new.clusters true =
    subst (TakesNext c.args.geometry.now c.loop-entry.clusters c.entry-item.result
    c.take_entry.new.clusters) c.if-not-branch.false c.in_ok-take_entry.ensures in
    record {
      number = omega (arith, c.loop-entry.invariant.number);
      room = omega (
        arith,
        took.1.next.room,
        c.loop-entry.invariant.number,
        count-is c.args.geometry.now c.args.entries.now c.loop-entry.clusters
            c.loop-entry.entry-index c.loop-entry-test.true c.loop-entry.invariant.taken,
      );
      taken = taken-more c.args.geometry.now c.args.entries.now c.loop-entry.clusters
          c.loop-entry.entry-index c.loop-entry-test.true c.loop-entry.invariant.taken
          c.entry-item.result c.entry-item.is c.take_entry.new.clusters took;
    }

pub returns-clause-taken : goal.returns-clause-taken
returns-clause-taken c same =
    taken-all c.args.geometry.now c.args.entries.now c.loop-entry.clusters c.loop-entry.entry-index
    (omega (arith, c.loop-entry-test.false)) c.loop-entry.invariant.taken
