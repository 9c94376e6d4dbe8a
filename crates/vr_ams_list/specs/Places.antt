-- Where the entries are that are listed. That a command needs their volumes is this project's own.
use Rattle.std.specs.Prelude.{◌≡◌, false, List, Contains, Some, slice_get}
use Rattle.vr_trace.specs.Shown.{Shown}
use Rattle.vr_ams_list.specs.Listing.{Listed}

-- The catalog of the volume of its number has the entry.
pub record IsThere (volumes : List Shown) (listed : Listed) : Type 0 where
  pub volume : Shown
  pub volume_is : slice_get volumes listed.volume ≡ Some volume
  pub has : Contains volume.catalog listed.entry

-- The volume of its number hasn't stopped.
abbrev pub IsGoing : List Shown → Listed → Type 0
IsGoing volumes listed =
    (volume : Shown) → slice_get volumes listed.volume ≡ Some volume → volume.stopped ≡ false
