-- What the crates above cite of lists of before-images, and of the records of a content.

-- one image more: the oldest of a place, and the lengths that are kept
pub use Rattle.vr_undo.proofs.Images.{kept-append, kept_more, oldest-append}
-- what is logged at a place, by images and by places
pub use Rattle.vr_undo.proofs.Recording.{logged-at}
-- what other units may bring back at a place, by a test of the list
pub use Rattle.vr_undo.proofs.NextOther.{any-stands, stands-any}
-- the records of a content: what stands at a place, their order, the records with their places, and
-- the entries that they spell
pub use Rattle.vr_undo.proofs.Standing.{stands-ascends, stands-entries, stands-item, stands-records}
-- a content that has records alone is the records of itself
pub use Rattle.vr_undo.proofs.Standing.{stands-all, stands-same, stands-twice}
-- the records once a place has an item, or none
pub use Rattle.vr_undo.proofs.Standing.{stands-placed, stands-with, stands-without}
-- the record that stands at a place: by an item, and of one that is a record
pub use Rattle.vr_undo.proofs.Standing.{record-stands, stands-once, stands-read, stands-record}
