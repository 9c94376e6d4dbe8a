-- What is a fault of a part is one of the whole.
use Rattle.std.proofs.Common.{◌≡◌, inl, inr, ℕ, List, Some}
use Rattle.vr_text.specs.Lines.{Line}
use Rattle.vr_scan.specs.Token.{Token}
use Rattle.vr_scan.specs.Scan.{IsTokens}
use Rattle.vr_amsparse.specs.Commands.{IsCommands}
use Rattle.vr_amsparse.specs.declared.command.Node.{Node}
use Rattle.vr_job_text.specs.declared.fault.JobFault.{JobFault}
use Rattle.vr_job_text.specs.declared.fault.JobFault.TheVariants.{Text, Memory}
use Rattle.vr_job_text.specs.declared.job.Job.{Job}
use Rattle.vr_job_text.specs.declared.fault.TextFault.{TextFault}
use Rattle.vr_job_text.specs.Job.{IsJob, CauseOf, RefusedBy, unrun}
use Rattle.vr_job_text.specs.Utilities.{AreCommands, ScanFaultBy, TokenFaultBy, UtilityFaultBy}

pub commands_are : (lines : List Line) (names : List (List ℕ)) (tokens : List Token)
    (commands : List Node) → IsTokens lines tokens → IsCommands tokens names commands
    → AreCommands lines names commands
commands_are lines names tokens commands spelled are =
    record { tokens = tokens; spelled = spelled; are = are }

pub tokens_refuse : (lines : List Line) (names : List (List ℕ)) (fault : JobFault)
    → ScanFaultBy lines fault → UtilityFaultBy lines names fault
tokens_refuse lines names (Text fault) h = inl h
tokens_refuse lines names Memory h = tt

pub commands_refuse : (lines : List Line) (names : List (List ℕ)) (tokens : List Token)
    (fault : JobFault) → IsTokens lines tokens → TokenFaultBy tokens names fault
    → UtilityFaultBy lines names fault
commands_refuse lines names tokens (Text fault) spelled h =
    inr (record { tokens = tokens; spelled = spelled; first = h })
commands_refuse lines names tokens Memory spelled h = tt

pub fault_refuses : (text : List ℕ) (fault : JobFault) → CauseOf text fault → RefusedBy text fault
fault_refuses text (Text fault) h = inl h
fault_refuses text Memory h = tt

pub unrun_refuses : (text : List ℕ) (job : Job) (fault : TextFault) → IsJob text job
    → unrun job.steps ≡ Some fault → RefusedBy text (Text fault)
unrun_refuses text job fault is h = inr (record { whole = job; is = is; first = h })
