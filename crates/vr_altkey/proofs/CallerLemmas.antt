-- Contents once a place has an item, or none, for those who state what stands there then.

-- the place has what was put there, the others have what they had, and the places ascend as before
pub use Rattle.vr_altkey.proofs.Items.{placed_here, placed_elsewhere, placed_ascends}
-- contents that ascend and have the same item at each place are the same
pub use Rattle.vr_altkey.proofs.Items.{same_items}
-- an item by the first of a content, and places that compare as equal
pub use Rattle.vr_altkey.proofs.Items.{item_first, equal_places}
-- a place below all others has no item, and one below another is below those after it
pub use Rattle.vr_altkey.proofs.Items.{none_below, all_below}
