-- What the crates above cite.

-- what holds of each entry of a catalog holds of each with one more, without some, and with one
-- altered; and of the entry of a part
pub use Rattle.vr_edits.proofs.Parts.{all-altered, all-found, all-with, all-without}
pub use Rattle.vr_edits.proofs.Parts.{all-without-some}
-- no part number comes twice with one more, or without some
pub use Rattle.vr_edits.proofs.Parts.{distinct-with, distinct-without, distinct-without-some}
-- the entry of a part in a catalog with an edit
pub use Rattle.vr_edits.proofs.Parts.{IsApart, has_part, other-parts, part-altered, part-with}
pub use Rattle.vr_edits.proofs.Parts.{part-without, part-without-some}
pub use Rattle.vr_edits.proofs.Rules.{part-renamed, renamed-found}
-- a part number that isn't the catalog's
pub use Rattle.vr_edits.proofs.Rules.{numbered}
-- the rules of a catalog with an edit, and with one entry more, of a cluster, too
pub use Rattle.vr_edits.proofs.Rules.{added-order, by-recursion, order-kept}
-- entries that are served are so with an edit
pub use Rattle.vr_edits.proofs.Rules.{served-kept}
-- the parts that a catalog lays with an edit, and with one entry more, of a cluster, too
pub use Rattle.vr_edits.proofs.Shapes.{shapes-kept, with-shapes}
