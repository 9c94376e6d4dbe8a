-- What the crates above cite: damaged chains, and by which areas that are taken they are.
pub use Rattle.vr_chained.proofs.Damaged.{damaged-nowhere, damaged-taken}
