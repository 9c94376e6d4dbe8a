use Rattle.std.proofs.Common.{subst, sym}
use Rattle.vr_mount.specs.Numbers.{AreToldApart}
use Rattle.vr_mount.specs.declared.distinct.Which.TheVariants.{Part}
use Rattle.vr_mount.proofs.Parts.{parts_told, parts_distinct}
use Rattle.vr_mount.proofs.rules.are_rules.Goals as goal

pub returns-then-are_told_apart : goal.returns-then-are_told_apart
returns-then-are_told_apart c = (
  λ yes. record {
    parts = parts_distinct c.args.catalog.now (subst (AreToldApart Part) c.as_slice.ensures
        (c.are_told_apart.ensures.0 c.if-are_told_apart.true));
    entries_keep = c.are_entries.ensures.0 yes;
  },
  λ rules. c.are_entries.ensures.1 rules.entries_keep,
)

pub returns-else-are_told_apart : goal.returns-else-are_told_apart
returns-else-are_told_apart c = (
  λ yes. absurd (cc (yes, c.if-are_told_apart.false)),
  λ rules. c.are_told_apart.ensures.1 (subst (AreToldApart Part) (sym c.as_slice.ensures)
      (parts_told c.args.catalog.now rules.parts)),
)
