-- What a clause says of a device in memory: its past, and its calls.
use Rattle.std.specs.Prelude.{◌≡◌, ℕ}
use Rattle.vr_types.specs.Image.{Block}
use Rattle.vr_device.specs.Past.{Past, with_event, failed}
use Rattle.vr_device.specs.DeviceCalls.{DeviceCalls, IsToFail, counted, write_failed, write_refused}
use Rattle.vr_device.specs.declared.memory.MemoryDevice.{MemoryDevice}

abbrev pub past_in : MemoryDevice → Past
past_in device = device.held.value.past

abbrev pub calls_in : MemoryDevice → DeviceCalls
calls_in device = device.held.value.calls

-- A write was set to fail. A crash may leave its bytes.
pub record IsFailedWrite (old new : MemoryDevice) (n : ℕ) (bytes : Block) : Type 0 where
  pub was_to_fail : IsToFail (calls_in old)
  pub past : past_in new ≡ with_event (past_in old) (failed n bytes)
  pub calls : calls_in new ≡ write_failed (counted (calls_in old))

-- A sync was set to fail.
pub record IsFailedSync (old new : MemoryDevice) : Type 0 where
  pub was_to_fail : IsToFail (calls_in old)
  pub past : past_in new ≡ past_in old
  pub calls : calls_in new ≡ write_failed (counted (calls_in old))

-- There was no memory to keep the call, which then did nothing.
pub record IsRefused (old new : MemoryDevice) : Type 0 where
  pub past : past_in new ≡ past_in old
  pub calls : calls_in new ≡ write_refused (counted (calls_in old))
