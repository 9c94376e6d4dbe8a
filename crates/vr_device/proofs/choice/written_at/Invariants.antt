use Rattle.std.proofs.Common.{◌≡◌, slice_get, drop}
use Rattle.vr_device.specs.Disk.{contents_of}
use Rattle.vr_device.specs.Past.{writes_in}
use Rattle.vr_device.specs.PastEvent.{events_of}
use Rattle.vr_device.proofs.choice.written_at.Given as goal

-- what is sought among all is what is left to seek in the rest
abbrev pub invariant-loop-entry : goal.invariant-loop-entry
invariant-loop-entry l =
    slice_get (contents_of (writes_in (events_of l.entries)) l.n) l.count ≡ slice_get
    (contents_of (writes_in (events_of (drop l.entry-index l.entries))) l.n) l.left
