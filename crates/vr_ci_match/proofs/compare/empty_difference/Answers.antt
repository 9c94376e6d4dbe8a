use Rattle.vr_ci_match.proofs.ComparedLemmas.{empty_more, empty_found}
use Rattle.vr_ci_match.proofs.compare.empty_difference.Goals as goal

pub loop-slot-preserved : goal.loop-slot-preserved
loop-slot-preserved c = empty_more c.args.bytes.now c.args.from c.loop-slot.slot c.args.slot_length
    c.loop-slot.invariant c.in_default.ensures

pub returns-in-Some : goal.returns-in-Some
returns-in-Some c =
    empty_found c.args.bytes.now c.args.from c.args.count c.loop-slot.slot c.args.slot_length
    c.in-Some.at c.loop-slot-test.true c.requires c.loop-slot.invariant c.in-Some.ensures
