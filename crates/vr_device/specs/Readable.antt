-- Lemmas on what a device in memory reads and may leave at its moments. They stand here, since its
-- laws rest on them and can cite no proofs.
use Rattle.std.proofs.Common.{ℕ, List, [], ◌∷◌, length, refl, subst, arith, take, take_all}
use Rattle.vr_types.specs.Image.{Image, IsImage}
use Rattle.vr_device.specs.Disk.{Disk, MayHold}
use Rattle.vr_device.specs.Past.{Event, wrote, failed, forced, after, after_all, fresh, Past}
use Rattle.vr_device.specs.Past.{disk_of, ImageAt}
use Rattle.vr_device.specs.Choices.{IsReadable, IsReadable-written, IsReadable-tried}
use Rattle.vr_device.specs.Choices.{IsReadable-synced, MayHold-stable}

IsReadable-after : (count : ℕ) (event : Event) (disk : Disk) → IsReadable count disk
    → IsReadable count (after event disk)
IsReadable-after count (wrote n bytes) disk readable =
    IsReadable-written count disk n bytes readable
IsReadable-after count (failed n bytes) disk readable = IsReadable-tried count disk n bytes readable
IsReadable-after count forced disk readable = IsReadable-synced count disk readable

IsReadable-after_all : (count : ℕ) (events : List Event) (disk : Disk) → IsReadable count disk
    → IsReadable count (after_all events disk)
IsReadable-after_all count [] disk readable = readable
IsReadable-after_all count (event ∷ events) disk readable =
    IsReadable-after_all count events (after event disk)
    (IsReadable-after count event disk readable)

-- what the device reads is an image that it may leave
pub readable-of : (past : Past) → IsReadable (length past.start) (disk_of past)
readable-of past = IsReadable-after_all (length past.start) past.events (fresh past.start)
    (record { length_is = refl; each = λ n below. MayHold-stable (fresh past.start) n })

-- the present moment's images are those of what the device holds
pub images-now : (past : Past) (image : Image) → ImageAt past (length past.events) image
    → IsImage (length past.start) (MayHold (disk_of past)) image
images-now past image left =
    subst (λ es. IsImage (length past.start) (MayHold (after_all es (fresh past.start))) image)
    (take_all (length past.events) past.events (omega arith)) left

-- at each moment the device may leave what it read then
pub read-image : (past : Past) (t : ℕ)
    → ImageAt past t (after_all (take t past.events) (fresh past.start)).seen
read-image past t =
    IsReadable-after_all (length past.start) (take t past.events) (fresh past.start)
    (record { length_is = refl; each = λ n below. MayHold-stable (fresh past.start) n })
