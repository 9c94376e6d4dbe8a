-- What the crates above cite: what an event adds to the history, and the room that it takes.
pub use Rattle.vr_event.proofs.Acted.{acted_made, raised-decks, raised-others}
pub use Rattle.vr_event.proofs.Acts.{acted_room}
-- states with the same records recover alike, where their before-images count alike
pub use Rattle.vr_event.proofs.DefinedStates.{counted-recovers}
-- each item of the catalog at rest is the record of an entry, which is at its place alone
pub use Rattle.vr_event.proofs.ClusterRecords.{IsNamed, record-spells}
pub use Rattle.vr_event.proofs.ClusterItems.{items-named}
pub use Rattle.vr_event.proofs.ClusterCatalogs.{none-at}
-- a part that no entry of the catalog has isn't laid
pub use Rattle.vr_event.proofs.UnitEnded.{unlaid}
-- the areas that an opened volume owns are its own, each of one part
pub use Rattle.vr_event.proofs.OpenedAreas.{opened-owned}
-- a cluster that is to be defined, with an area of the volume, is one that a catalog may have
-- and of which a part may be written
pub use Rattle.vr_event.proofs.NewClusters.{area-entry, area-small, area-startable}
-- an edit changes at most 65,535 records
pub use Rattle.vr_event.proofs.EditRecords.{few-changes}
-- what reading a cluster through handed over is what it has, whichever the state it is held from
pub use Rattle.vr_event.proofs.HandedOver.{has-read}
