use Rattle.std.proofs.Common.{◌≡◌, take}
use Rattle.vr_device.specs.Past.{after_all, fresh}
use Rattle.vr_device.specs.PastEvent.{blocks_of, events_of}
use Rattle.vr_device.proofs.choice.replay.Given as goal

abbrev pub invariant-loop-entry : goal.invariant-loop-entry
invariant-loop-entry l = blocks_of l.blocks ≡
    (after_all (events_of (take l.entry-index l.entries)) (fresh (blocks_of l.initial.blocks))).seen
