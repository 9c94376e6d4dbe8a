-- The source and the target are there.
use Rattle.std.proofs.Common.{◌≡◌, Bool, Err, IfOk, List, None, Ok, Option, Result, Some}
use Rattle.vr_amsparse.specs.declared.command.Source.{Source}
use Rattle.vr_amsparse.specs.declared.command.Source.TheVariants.{Data, DataSet}
use Rattle.vr_trace.specs.Shown.{Shown}
use Rattle.vr_ams_print.specs.declared.source.FoundCluster.{FoundCluster}
use Rattle.vr_ams_print.proofs.Sources.{there-of}
use Rattle.vr_ams_repro.specs.Outcomes.{IsSourceOf}
use Rattle.vr_ams_repro.specs.Steps.{IsSourceThere}

pub source-there : (keyed : Bool) (volumes : List Shown) (from : Source)
    (source : Option FoundCluster) → IsSourceOf keyed volumes from source
    → IsSourceThere volumes source
source-there keyed volumes (DataSet name) (Some source) is = there-of keyed volumes name source is
source-there keyed volumes (DataSet name) None is = absurd is
source-there keyed volumes (Data cards) (Some source) is = absurd is
source-there keyed volumes (Data cards) None is = tt

-- what follows where a call succeeds
pub if-ok : {A E : Type 0} {P Q : A → Type 0} (result : Result A E)
    → ((value : A) → P value → Q value) → IfOk result P → IfOk result Q
if-ok (Ok value) then is = then value is
if-ok (Err why) then is = tt
