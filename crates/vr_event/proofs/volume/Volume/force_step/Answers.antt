use Rattle.std.proofs.Common.{subst, sym}
use Rattle.vr_types.specs.declared.reply.Refusal.TheVariants.{WriteFault}
use Rattle.vr_types.specs.declared.reply.Reply.TheVariants.{Refused}
use Rattle.vr_record_file.specs.Now.{FileNow, MayBeAsked}
use Rattle.vr_event.proofs.Asking.{write-asked}
use Rattle.vr_event.proofs.Entries.{file-held}
use Rattle.std.proofs.Common.{ap}
use Rattle.vr_store.specs.Store.{StoreNow}
use Rattle.vr_event.proofs.CountedSplits.{keeps-same, splits-none}
use Rattle.vr_event.specs.Nearer.{splits_of}
use Rattle.vr_event.proofs.volume.Volume.force_step.Goals as goal

pub returns-in-Err-clause-held : goal.returns-in-Err-clause-held
returns-in-Err-clause-held g c told opening held ending =
    let mid = c.force_changed.new.self in
    c.stop.ensures.held told opening
    (file-held g.B.Blocks.seen opening mid (c.force_changed.ensures.held told opening held))
    (subst (λ (f : FileNow). MayBeAsked opening f c.args.unit c.args.request (Refused WriteFault))
    (sym c.force_changed.ensures.file)
    (write-asked opening c.args.self.now.file c.args.unit c.args.request ending))

pub returns-in-Ok-clause-splits : goal.returns-in-Ok-clause-splits
returns-in-Ok-clause-splits g c =
    let new = c.force_changed.new.self in
    splits-none c.args.self.now new
    (λ going. keeps-same c.args.self.now.store new.store
    (ap (λ (s : StoreNow). s.parts) c.force_changed.ensures.rest))
    (λ n. ap (λ (f : FileNow). splits_of n f.entries) c.force_changed.ensures.file)

pub returns-in-Ok-clause-nearer : goal.returns-in-Ok-clause-nearer
returns-in-Ok-clause-nearer g c = c.in-Ok.ensures.nearer c.requires.left

pub returns-in-Err-clause-splits : goal.returns-in-Err-clause-splits
returns-in-Err-clause-splits g c going = absurd (c.stop.ensures.stops going)
