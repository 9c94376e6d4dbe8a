-- What a history keeps: its blocks as they are read, and where its last sync stands, are those that
-- its events tell.
use Rattle.std.specs.Prelude.{◌≡◌, ◌<◌, ◌≤◌, ◌^◌, length, take, drop, All}
use Rattle.std.specs.List.{AllByRecursion}
use Rattle.vr_device.specs.Past.{Past, EventFits, writes_in, after_all, fresh, disk_of}
use Rattle.vr_device.specs.PastEvent.{blocks_of, events_of}
use Rattle.vr_device.specs.declared.past.Past.TheInside.{Inside}

abbrev pub past_of : Inside → Past
past_of h = record {
  size = h.size;
  start = blocks_of h.start.items;
  events =
      events_of h.entries.items;
}

pub record IsKept (h : Inside) : Type 0 where
  pub count : length h.start.items < 2 ^ 32
  pub sizes : All (λ block. length block ≡ h.size) (blocks_of h.start.items)
  pub fits : AllByRecursion (EventFits (length h.start.items) h.size) (events_of h.entries.items)
  pub seen : blocks_of h.seen.items ≡ (disk_of (past_of h)).seen
  -- the blocks are stable as the events up to the last sync that succeeded left them
  pub stable_at : h.stable_at ≤ length h.entries.items
  pub stable : (disk_of (past_of h)).stable ≡
      (after_all (take h.stable_at (events_of h.entries.items))
      (fresh (blocks_of h.start.items))).seen
  pub writes : (disk_of (past_of h)).writes ≡ writes_in
      (drop h.stable_at (events_of h.entries.items))
