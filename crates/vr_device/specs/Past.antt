-- The past of a device in memory, which gives the images of every moment.
use Rattle.std.specs.Prelude.{◌<◌, ◌≡◌, ℕ, List, [], ◌∷◌, ◌++◌, ◌==◌, length, take, slice_get}
use Rattle.std.specs.Prelude.{slice_index, Option, Some, None, if◌then◌else◌}
use Rattle.vr_types.specs.Image.{Block, Image, IsImage, block_at}
use Rattle.vr_types.specs.Seen.{Seen}
use Rattle.vr_device.specs.Disk.{Disk, written, tried, synced, MayHold, contents_of}

-- a write of a block that succeeded, one that failed, a sync that succeeded
pub data Event : Type 0 where
  wrote : ℕ → Block → Event
  failed : ℕ → Block → Event
  forced : Event

-- what an event makes of a disk
abbrev pub after : Event → Disk → Disk
after (wrote n bytes) disk = written disk n bytes
after (failed n bytes) disk = tried disk n bytes
after forced disk = synced disk

-- what these events make of it, the first of them first
abbrev pub after_all : List Event → Disk → Disk
after_all [] disk = disk
after_all (event ∷ events) disk = after_all events (after event disk)

-- a disk on which these blocks are stable, and nothing was written
abbrev pub fresh : Image → Disk
fresh blocks = record { seen = blocks; stable = blocks; writes = [] }

-- the bytes of a block, the blocks as the device was made, and each event since
pub record Past : Type 0 where
  pub size : ℕ
  pub start : Image
  pub events : List Event

-- what the device holds
abbrev pub disk_of : Past → Disk
disk_of past = after_all past.events (fresh past.start)

-- one more event
abbrev pub with_event : Past → Event → Past
with_event past event = record {
  size = past.size;
  start = past.start;
  events =
      past.events ++ event ∷ [];
}

-- a write of a block that there is, by as many bytes as a block has
abbrev pub EventFits : ℕ → ℕ → Event → Type 0
EventFits count size (wrote n bytes) = (n < count) × (length bytes ≡ size)
EventFits count size (failed n bytes) = (n < count) × (length bytes ≡ size)
EventFits count size forced = Unit {0}

-- what a crash may leave once the first t events have come
abbrev pub ImageAt : Past → ℕ → Image → Type 0
ImageAt past t = IsImage (length past.start)
    (MayHold (after_all (take t past.events) (fresh past.start)))

-- what is seen of the blocks of a past: its moments are the numbers of events
abbrev pub seen_of : Past → Seen
seen_of past = record {
  count = length past.start;
  size = past.size;
  cur = (disk_of past).seen;
  may = MayHold (disk_of past);
  moment = length past.events;
  images = ImageAt past;
}

-- the writes among these events, the oldest first
abbrev pub writes_in : List Event → List (ℕ × Block)
writes_in [] = []
writes_in (wrote n bytes ∷ events) = (n, bytes) ∷ writes_in events
writes_in (failed n bytes ∷ events) = (n, bytes) ∷ writes_in events
writes_in (forced ∷ events) = writes_in events

-- a write of a block below this count
abbrev pub IsWithin : ℕ → Event → Type 0
IsWithin count (wrote n bytes) = n < count
IsWithin count (failed n bytes) = n < count
IsWithin count forced = Unit {0}

-- what an event wrote to block n, if it is a write of it
abbrev pub content_of : Event → ℕ → Option Block
content_of (wrote m bytes) n = if m == n then Some bytes else None
content_of (failed m bytes) n = if m == n then Some bytes else None
content_of forced n = None

-- a device with these blocks on which nothing was written
abbrev pub unwritten : ℕ → Image → Past
unwritten size blocks = record { size = size; start = blocks; events = [] }

-- what a block may hold that held its content of `stable` before these events
abbrev pub contents_from : Image → List Event → ℕ → List Block
contents_from stable since n = block_at stable n ∷ contents_of (writes_in since) n

-- blocks that hold, each, the content that the choice names
pub record ArePicked (stable : Image) (since : List Event) (choice : List ℕ)
    (blocks : Image) : Type 0 where
  pub length_is : length blocks ≡ length stable
  pub each : (n : ℕ) → n < length stable
      → slice_get (contents_from stable since n) (slice_index choice n) ≡ Some (block_at blocks n)
