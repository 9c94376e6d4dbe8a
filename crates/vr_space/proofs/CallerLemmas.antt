-- What the crates above cite: ways and chains, what is sound and at rest, what calls of a part add,
-- what has to be forced, what leaves a split under way, and what follows of a keyed part from what
-- is true of one of its areas.
pub use Rattle.vr_space.proofs.Ways.{found-may, find-more, within-less, found-same, find-less}
pub use Rattle.vr_space.proofs.Ways.{within-more}
pub use Rattle.vr_space.proofs.Chains.{area-below, area-nth, interval-inside, roster-inside}
pub use Rattle.vr_space.proofs.Chains.{used-most, areas-same, chain-both, chain-here, chain-less}
pub use Rattle.vr_space.proofs.Chains.{chain-within, used-same}
pub use Rattle.vr_space.proofs.PartBlocks.{IsPartBlock, StaysPart, area-owned, first-owned}
pub use Rattle.vr_space.proofs.PartBlocks.{holds-less, rest-grows, rest-of-quiet, rest-sound}
pub use Rattle.vr_space.proofs.PartBlocks.{rest-stays, sound-grows, sound-less, stays-keeps}
pub use Rattle.vr_space.proofs.PartBlocks.{chain-on-less, keyed-owned, keyed-rest, stays-puts}
pub use Rattle.vr_space.proofs.PartBlocks.{way-within}
pub use Rattle.vr_space.proofs.Due.{due-at-more, due-at-then, due-fewer, due-firm, due-none}
pub use Rattle.vr_space.proofs.Due.{due-stays, due-then, firm-due, on-way-due, same-stays}
pub use Rattle.vr_space.proofs.Due.{way-due}
pub use Rattle.vr_space.proofs.Places.{NoneAt, AllAbove, none-record, record-left, record-right}
pub use Rattle.vr_space.proofs.Places.{record-filter, none-filter, above-filter, none-above}
pub use Rattle.vr_space.proofs.Places.{in-above, in-most, in-both, in-past, is_past, not_past}
pub use Rattle.vr_space.proofs.Places.{same_is_equal, lt_from_test, above-more, by_other}
pub use Rattle.vr_space.proofs.Places.{above-append, above-weaken, not_above}
pub use Rattle.vr_space.proofs.KeyedContent.{AscendFrom, area-content, content-above, way-content}
pub use Rattle.vr_space.proofs.KeyedContent.{IsFoundAbove, found-above, leads-above}
pub use Rattle.vr_space.proofs.KeyedSound.{head-ascends, AreIn, head-in, entry-in, IsBlock}
pub use Rattle.vr_space.proofs.KeyedSound.{entry-in-above, head-block, ranges-held}
pub use Rattle.vr_space.proofs.KeyedSound.{keyed-within, keyed-image, each-less, keyed-less}
pub use Rattle.vr_space.proofs.Ends.{ends-after, ends-less, ends-low, ends-then, same-ends}
pub use Rattle.vr_space.proofs.AreaEnds.{above-end, above-past, end-above, found-between, has-end}
pub use Rattle.vr_space.proofs.AreaEnds.{head-found, none-past, past-above, past-low, past-none}
pub use Rattle.vr_space.proofs.AreaEnds.{reach-found, reached-below}
pub use Rattle.vr_space.proofs.Links.{area-each, area-here, area-there, areas-apart, areas-each}
pub use Rattle.vr_space.proofs.Links.{each-here, each-next}
pub use Rattle.vr_space.proofs.Links.{each-after-both, each-after-image, each-after-less}
pub use Rattle.vr_space.proofs.Links.{followed-more, links-area, links-both, links-each, links-here}
pub use Rattle.vr_space.proofs.Links.{links-image, links-less, links-stay, links-within}
pub use Rattle.vr_space.proofs.LinkedContent.{IsAreaFor, IsLinkedArea, area-found, area-reached}
pub use Rattle.vr_space.proofs.LinkedContent.{chain-item, contains-cases, content-each, found-area}
pub use Rattle.vr_space.proofs.LinkedContent.{item_by, linked-above, linked-content, linked-low}
pub use Rattle.vr_space.proofs.LinkedContent.{linked-content-above, linked-here, links-in-area}
pub use Rattle.vr_space.proofs.LinkedContent.{links-in-each}
pub use Rattle.vr_space.proofs.SameEnds.{HasSameEnds, IsAlike, KeepsHead, MayHoldBy, area-kept}
pub use Rattle.vr_space.proofs.SameEnds.{areas-kept, each-after-kept, ends-followed, ends-reach}
pub use Rattle.vr_space.proofs.SameEnds.{keeps-head, knows-kept, links-in-kept, links-kept}
pub use Rattle.vr_space.proofs.SameEnds.{ways-down, ways-up}
pub use Rattle.vr_space.proofs.EntryCounts.{entries-below, head-entries}
pub use Rattle.vr_space.proofs.IntervalCounts.{AreOnce, OthersCount, areas-once, chain-once}
pub use Rattle.vr_space.proofs.IntervalCounts.{head-intervals, interval_count, intervals-changed}
pub use Rattle.vr_space.proofs.IntervalCounts.{intervals-grown, intervals-kept, intervals-most}
pub use Rattle.vr_space.proofs.IntervalCounts.{intervals-parted, intervals-same, used-within}
pub use Rattle.vr_space.proofs.UnderWay.{AreaStays, IsSplitBlock, StaysAt, AllStay, found-in}
pub use Rattle.vr_space.proofs.UnderWay.{free-in}
pub use Rattle.vr_space.proofs.UnderWay.{begun-stays, way-stays, way-puts, met-stays}
pub use Rattle.vr_space.proofs.MovesUnderWay.{aside-of, move-keeps, moving-stays}
pub use Rattle.vr_space.proofs.MovesUnderWay.{waits-elsewhere}
pub use Rattle.vr_space.proofs.Holding.{AreOwn, held-own, own-after, owns-after}
pub use Rattle.vr_space.proofs.Holding.{held-same, owns-grows, owns-held, owns-none, owns-same}
pub use Rattle.vr_space.proofs.Rising.{stands_content, one_content, Rising, rising-sorted}
pub use Rattle.vr_space.proofs.Rising.{rising-filtered, places-placed, sorted-rising, rising-append}
pub use Rattle.vr_space.proofs.Searching.{low_at, found-entry, found-none, got-whole, items-read}
pub use Rattle.vr_space.proofs.Searching.{holds-nth}
pub use Rattle.vr_space.proofs.Adding.{only-weaken, adds-weaken, adds-then, nothing-then}
pub use Rattle.vr_space.proofs.Adding.{then-nothing, sound-image, rest-stands, content_item}
pub use Rattle.vr_space.proofs.Adding.{sound-keeps, rest-keeps, keeps-adds, same-keeps, due-keeps}
pub use Rattle.vr_space.proofs.Adding.{forced-firm, can-set, can-erase, can-set-kept, room-no-stage}
pub use Rattle.vr_space.proofs.Adding.{ready-can, records-then, sets-after, on-still, record-length}
pub use Rattle.vr_space.proofs.Adding.{area-item}
pub use Rattle.vr_space.proofs.Rooms.{keeps-rooms, room-image, room-keeps, room-less}
pub use Rattle.vr_space.proofs.Rooms.{IsRoomyArea, area-room-image, area-room-less, roomy-each}
pub use Rattle.vr_space.proofs.Keeping.{keep-here, keep-room}
pub use Rattle.vr_space.proofs.Counting.{area-fits-once, kept_fits, kept_room}
pub use Rattle.vr_space.proofs.Framing.{room-stays, knows-stays, can-stays, way-keeps, knows-keeps}
pub use Rattle.vr_space.proofs.Framing.{knows-puts, one-owner}
pub use Rattle.vr_space.proofs.Fewer.{AreAmong, MayKeepLess, Rise, Under, fewer-room, rise-with}
pub use Rattle.vr_space.proofs.Fewer.{area-fewer, under-both, under-more, under-self}
pub use Rattle.vr_space.proofs.Intervals.{IsChainStage, interval-owners, room-stage, stage-lacks}
pub use Rattle.vr_space.proofs.Intervals.{area-owners, stage-owners}
pub use Rattle.vr_space.proofs.Standing.{item-read, left-is, left-none, left-standing}
pub use Rattle.vr_space.proofs.PlacesHeld.{read-place}
pub use Rattle.vr_space.proofs.NumberedRooms.{GrowsFrom, GrowsTo, grows-same, interval-grows}
pub use Rattle.vr_space.proofs.NumberedRooms.{interval-less, interval-used, set-fits}
pub use Rattle.vr_space.proofs.NumberedRooms.{numbered-put, used-interval, finds-interval}
pub use Rattle.vr_space.proofs.NumberedRooms.{finds-place, numbered-grow, numbered-less, place-kept}
pub use Rattle.vr_space.proofs.NumberedRooms.{kept-place-fits, any-length, HasKeptLength}
pub use Rattle.vr_space.proofs.NumberedRooms.{IsKeptItem, KeepsLengths, KeepsUsed, PutKeepsLengths}
pub use Rattle.vr_space.proofs.NumberedRooms.{PutsLong, StaysLong, slot-length, slots-keep}
pub use Rattle.vr_space.proofs.NumberedRooms.{slots-put-keep, used-keep}
pub use Rattle.vr_space.proofs.RecordsHeld.{record-read}
pub use Rattle.vr_space.proofs.Taking.{IsFoundIn, interval-found, set-takes}
pub use Rattle.vr_space.proofs.Numbers.{four-rises, number-below, number-four}
pub use Rattle.vr_space.proofs.Numbers.{number-order, numbers-below, span-some, span_up}
pub use Rattle.vr_space.proofs.ChainWays.{Reaches, chain-ends, chain-has, chain-reaches, found-used}
pub use Rattle.vr_space.proofs.ChainWays.{AreChained, UsedBetween, are-chained, chained-here}
pub use Rattle.vr_space.proofs.ChainWays.{count-from}
pub use Rattle.vr_space.proofs.NumberedReads.{IsPlaceThere, found-place, number-place, place-is}
pub use Rattle.vr_space.proofs.NumberedReads.{place-past, place-tested, place-there, place_block}
pub use Rattle.vr_space.proofs.NumberedReads.{read-used, way-there}
pub use Rattle.vr_space.proofs.NumberOrder.{four_of, four_of-is, higher-after, lower-before}
pub use Rattle.vr_space.proofs.AreaCalls.{adds-here-weaken, due-at-here-more, due-at-here-then}
pub use Rattle.vr_space.proofs.AreaCalls.{due-here-keeps, due-here-less, due-here-then}
pub use Rattle.vr_space.proofs.AreaCalls.{ends-here-keeps, here-since, here-then, here-weaken}
pub use Rattle.vr_space.proofs.AreaCalls.{keeps-here, less-here, nothing-then-here}
pub use Rattle.vr_space.proofs.AreaCalls.{rest-here-keeps, room-here-keeps, rooms-here-keep}
pub use Rattle.vr_space.proofs.AreaCalls.{same-here-keeps, same-here-then, sets-here-after}
pub use Rattle.vr_space.proofs.AreaCalls.{then-nothing-here}
pub use Rattle.vr_space.proofs.AreaPlaces.{ChangesArea, ComesTo, area-of-place, by-area, comes-to}
pub use Rattle.vr_space.proofs.AreaPlaces.{each-all, here-same, here-stands, item-of-area}
pub use Rattle.vr_space.proofs.AreaPlaces.{item-of-none, lift-item, lift-same, lift-sets}
pub use Rattle.vr_space.proofs.AreaPlaces.{most-place, other-blocks, same-area, same-each}
pub use Rattle.vr_space.proofs.Lifting.{HasOthers, PutsInto, adds-puts, changes-area, heads-kept}
pub use Rattle.vr_space.proofs.Lifting.{lift-adds}
pub use Rattle.vr_space.proofs.Lifting.{lift-due, lift-due-at, lift-due-place, lift-holds}
pub use Rattle.vr_space.proofs.Lifting.{lift-image-room, lift-rest, lift-room, lift-rooms}
pub use Rattle.vr_space.proofs.Lifting.{lift-sound, touches-both, touches-part}
pub use Rattle.vr_space.proofs.Resting.{IsResting, IsRestingRoom, area-on, due-here, hold-up}
pub use Rattle.vr_space.proofs.Resting.{record-of-area, rest-here, resting-area, resting-each}
pub use Rattle.vr_space.proofs.Resting.{resting-for, resting-links, resting-rooms}
pub use Rattle.vr_space.proofs.Resting.{resting-stands, room-here}
pub use Rattle.vr_space.proofs.AreaSearch.{HasNoneHere, area-reaching, chain-next}
pub use Rattle.vr_space.proofs.AreaSearch.{chain-none, knows-area, none-past-here, reaching}
pub use Rattle.vr_space.proofs.AreaSearch.{some-between}
pub use Rattle.vr_space.proofs.AreaPlaces.{fits-of-area, room-of-area, same-areas, same-known}
pub use Rattle.vr_space.proofs.AreaPlaces.{no-stage-of-area, stage-of-area}
pub use Rattle.vr_space.proofs.LiftingKnown.{lift-met, lift-move, lift-under, split-here}
pub use Rattle.vr_space.proofs.LiftingKnown.{under-here}
