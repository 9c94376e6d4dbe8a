-- Where there is no memory for the record of the log nothing is touched.
use Rattle.std.proofs.Common.{[], inl}
use Rattle.vr_types.proofs.CallerLemmas.{guards-weaken}
use Rattle.vr_volume.specs.Crashes.{RecoversTo}
use Rattle.vr_store.proofs.Definitions.{Either, if-err-any}
use Rattle.vr_store.proofs.Idle.{idle-guards}
use Rattle.vr_store.proofs.store.Store.define.Goals as goal

pub returns-in_err-rec-clause-moments : goal.returns-in_err-rec-clause-moments
returns-in_err-rec-clause-moments g c told volume old new is =
    let store = c.args.self.now in
    let now = g.B.Blocks.seen c.args.blocks.now in
    guards-weaken now now (RecoversTo store.log.geometry volume old []) (Either store volume old new)
    (idle-guards volume store old now is.stored
    (λ image there. g.met.B.Blocks.images_may c.args.blocks.now image told there))
    (λ image recovers. inl recovers)

pub returns-in_err-rec-clause-begun : goal.returns-in_err-rec-clause-begun
returns-in_err-rec-clause-begun g c told = if-err-any c.from_residual.result _
    (λ fault same volume state stored. idle-guards volume c.args.self.now state
    (g.B.Blocks.seen c.args.blocks.now) stored
    (λ image there. g.met.B.Blocks.images_may c.args.blocks.now image told there))
