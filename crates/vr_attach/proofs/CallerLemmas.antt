-- What the crates above cite: where a part is laid, which areas it reaches, owners of its blocks,
-- how many areas are free, and areas that a walk over a chain takes.
pub use Rattle.vr_attach.proofs.Owning.{IsLaidAs, IsOnAreas, laid-as, owner-past-log, area-owned}
pub use Rattle.vr_attach.proofs.Owning.{area-owner, owned-apart, stays-owned}
pub use Rattle.vr_attach.proofs.Reaching.{ReachesOwn, reached-stays, stays-reached}
pub use Rattle.vr_attach.proofs.Claiming.{inside-on, claimed-grows, claimed-owners}
pub use Rattle.vr_attach.proofs.Claiming.{HoldsAll, claimed-fewer, holds-all}
pub use Rattle.vr_attach.proofs.Taking.{free-below, free-fewer, free-new, marks-first}
pub use Rattle.vr_attach.proofs.Taking.{marks-more, taken-before}
pub use Rattle.vr_attach.proofs.LinkDamage.{damaged-alone}
