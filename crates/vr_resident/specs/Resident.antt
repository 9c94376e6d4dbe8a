-- What a clause sees of resident blocks. It is this project's own.
use Rattle.std.specs.Prelude.{◌≡◌, ◌<◌, List, Option, None, Some}
use Rattle.vr_types.specs.Seen.{Seen}
use Rattle.vr_types.specs.Faults.{Faults}
use Rattle.vr_types.specs.declared.fault.DeviceFault.{DeviceFault}
use Rattle.vr_types.specs.declared.fault.DeviceFault.TheVariants.{Write}
use Rattle.vr_resident.specs.Held.{Held, over}
use Rattle.vr_resident.specs.Places.{held_of}
use Rattle.vr_resident.specs.Cache.{entries_of}
use Rattle.vr_resident.specs.declared.frames.Frames.{Frames}

-- the device, and the frames over it
pub record Resident (D : Type 0) : Type 0 where
  pub device : D
  pub frames : Frames

-- what is seen of the device's blocks through the frames
abbrev pub seen_through : Seen → Frames → Seen
seen_through device frames = over device (held_of device.size (entries_of frames))

-- the blocks that are held over the device
abbrev pub held_in : Seen → Frames → List Held
held_in device frames = held_of device.size (entries_of frames)

-- a fault that a call reports is a write's or a sync's, for which the count rose; where there is
-- none, neither count rose
abbrev pub HasFaultCause : Faults → Faults → Option DeviceFault → Type 0
HasFaultCause before now None = now ≡ before
HasFaultCause before now (Some fault) =
    (fault ≡ Write) × (before.writes < now.writes) × (now.reads ≡ before.reads)
