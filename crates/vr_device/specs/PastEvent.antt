-- How the past of a device in memory is kept.
use Rattle.std.specs.Prelude.{ℕ, List, map, Vec}
use Rattle.std.specs.declared.alloc.Global.{Global}
use Rattle.vr_types.specs.Image.{Image}
use Rattle.vr_device.specs.Past.{Event, wrote, failed, forced}
use Rattle.vr_device.specs.declared.past.PastEvent.{PastEvent}
use Rattle.vr_device.specs.declared.past.PastEvent.TheVariants.{Wrote, Failed, Forced}

abbrev pub blocks_of : List (Vec ℕ Global) → Image
blocks_of blocks = map (λ block. block.items) blocks

abbrev pub event_of : PastEvent → Event
event_of (Wrote n bytes) = wrote n bytes.items
event_of (Failed n bytes) = failed n bytes.items
event_of Forced = forced

abbrev pub events_of : List PastEvent → List Event
events_of entries = map event_of entries
