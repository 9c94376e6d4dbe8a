-- What the crates above cite: how the entries of a head lead, what a put into an interval leaves of
-- an area of a keyed part, and lengths with a place more.
pub use Rattle.vr_split.proofs.Puts.{also, KeepsOthers, of-found, of-found-in, set-adds, head-still}
pub use Rattle.vr_split.proofs.Puts.{current-held, led-is, after-put, equal_or}
pub use Rattle.vr_split.proofs.Puts.{interval-sound, sound-put}
pub use Rattle.vr_split.proofs.After.{current-after, rest-after, room-after, rooms-after, sets-one}
pub use Rattle.vr_split.proofs.After.{due-put}
pub use Rattle.vr_split.proofs.Leading.{AreApart, head-apart, of-same, found-range, in-leads}
pub use Rattle.vr_split.proofs.Leading.{in-range}
pub use Rattle.vr_split.proofs.LengthLemmas.{with_length-after, ascend-with, weight-with}
pub use Rattle.vr_split.proofs.LengthLemmas.{weight_places, past-trans, ArePast}
