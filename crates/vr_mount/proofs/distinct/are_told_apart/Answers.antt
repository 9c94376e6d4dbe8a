use Rattle.vr_mount.specs.Numbers.{numbers_by}
use Rattle.vr_mount.proofs.Telling.{distinct_from_zero, others_distinct, zero_is_new}
use Rattle.vr_mount.proofs.distinct.are_told_apart.Goals as goal

pub returns-then-none_has : goal.returns-then-none_has
returns-then-none_has c =
    let numbers = numbers_by c.args.which c.args.entries.now in (
      λ yes. distinct_from_zero numbers (c.none_has.ensures.0 c.if-none_has.true)
          (c.no_two.ensures.0 yes),
      λ apart. c.no_two.ensures.1 (others_distinct numbers apart),
    )

pub returns-else-none_has : goal.returns-else-none_has
returns-else-none_has c = (
  λ yes. absurd (cc (yes, c.if-none_has.false)),
  λ apart. c.none_has.ensures.1
      (zero_is_new (numbers_by c.args.which c.args.entries.now) apart),
)
