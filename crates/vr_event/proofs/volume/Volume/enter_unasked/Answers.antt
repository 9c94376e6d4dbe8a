use Rattle.std.proofs.Common.{◌≡◌, ◌≢◌, ◌∙◌, ap, inl, inr, sym, refl}
use Rattle.std.proofs.lemmas.Option.{none-some}
use Rattle.vr_record_file.specs.Now.{FileNow}
use Rattle.vr_event.proofs.AskedClusters.{file-held}
use Rattle.vr_event.proofs.volume.Volume.enter_unasked.Goals as goal

pub returns-in-Write-clause-entered : goal.returns-in-Write-clause-entered
returns-in-Write-clause-entered g c entry edit = inl c.enter_fault.ensures.leaves

pub returns-in-Write-clause-held : goal.returns-in-Write-clause-held
returns-in-Write-clause-held g c told opening held = c.enter_fault.ensures.held told opening
    (file-held g.B.Blocks.seen opening c.args.self.now held)

pub returns-in-Write-clause-stopped : goal.returns-in-Write-clause-stopped
returns-in-Write-clause-stopped g c = inr (λ going. none-some _ (sym going
    ∙ ap (λ (f : FileNow). f.stopped) c.enter_fault.ensures.leaves))
