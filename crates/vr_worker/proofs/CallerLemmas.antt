-- What those cite who run decks over volumes of their own.

-- what is so of each of f's values is so of each element's
pub use Rattle.vr_worker.proofs.Places.{all-unmapped}
-- volumes on which nothing was entered leave no stamp out
pub use Rattle.vr_worker.proofs.Gapless.{gapless-none}
-- stamps above one are above a lesser one
pub use Rattle.vr_worker.proofs.Taken.{stamped-above}
