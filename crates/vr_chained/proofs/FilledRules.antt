-- What breaks no rule of a used interval, of either kind.
use Rattle.std.proofs.Common.{Bool, true, false}
use Rattle.vr_types.specs.Image.{Block}
use Rattle.vr_space.specs.Numbered.{IsFilled, IsFilledBy}
use Rattle.vr_space.specs.Rosters.{Numbered}
use Rattle.vr_attach.specs.Chain.{FilledBreaks, FilledBreaksBy}
use Rattle.vr_attach.specs.declared.rule.Rule.{Rule}
use Rattle.vr_chained.proofs.EntryRules.{entries-sound}
use Rattle.vr_chained.proofs.SlotRules.{slots-sound}

pub filled-sound : (part : Numbered) (block : Block) → IsFilled part block → (rule : Rule)
    → FilledBreaks part block rule → ⊥
filled-sound part block = by_kind part.relative
  where
    by_kind : (relative : Bool) → IsFilledBy relative part block → (rule : Rule)
        → FilledBreaksBy relative part block rule → ⊥
    by_kind true filled rule broken = slots-sound part block filled rule broken
    by_kind false filled rule broken = entries-sound part block filled rule broken
