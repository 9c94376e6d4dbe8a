-- What the crates above cite: a part can be made of a cluster that keeps the rules of a catalog.
pub use Rattle.vr_start.proofs.Sizes.{cluster-can-start}
