-- Worked lines of LISTCAT ALL, and of LISTCAT with NAME: what the definitions make of two volumes
-- that have two entries between them.
use Rattle.std.proofs.Common.{◌≡◌, false, List, [], ◌∷◌, ◌++◌, codes, None, refl}
use Rattle.std.specs.Fmt.{digits}
use Rattle.vr_catalog.specs.declared.entry.CatEntry.{CatEntry}
use Rattle.vr_trace.specs.Shown.{Shown}
use Rattle.vr_trace.specs.declared.statistics.Statistics.{Statistics}
use Rattle.vr_ams_list.specs.Listing.{all_lines, detail_lines}
use Rattle.vr_ams_list.proofs.WorkedDetails.{counted, master}

ledger : CatEntry
ledger = record master { name = codes "PAY.LEDGER"; data_class = None; index_name = None }

on-volumes : List Shown
on-volumes = record { catalog = master ∷ []; stopped = false }
    ∷ record { catalog = ledger ∷ []; stopped = false } ∷ []

empty : Statistics
empty = record { records = 0; areas = 1; interval_splits = 0; area_splits = 0 }

-- by name, though the first of them is on the second volume
lines-all : all_lines on-volumes [] (empty ∷ counted ∷ [])
    ≡ codes "CLUSTER PAY.LEDGER" ++ 10 ∷ []
    ++ codes "  KIND KSDS KEYS 8 0 RECORDSIZE 80 120 LOG UNDO" ++ 10 ∷ []
    ++ codes "  FREESPACE 20 10 SHAREOPTIONS 1 3 CISIZE 4096" ++ 10 ∷ []
    ++ codes "  SPACE CYLINDERS 1 2" ++ 10 ∷ []
    ++ codes "  DATA PAY.MASTER.DATA" ++ 10 ∷ []
    ++ codes "  CLASSES - - -" ++ 10 ∷ []
    ++ codes "  RECORDS 0 AREAS 1 SPLITS CI 0 CA 0" ++ 10 ∷ []
    ++ codes "CLUSTER PAY.MASTER" ++ 10 ∷ []
    ++ codes "  KIND KSDS KEYS 8 0 RECORDSIZE 80 120 LOG UNDO" ++ 10 ∷ []
    ++ codes "  FREESPACE 20 10 SHAREOPTIONS 1 3 CISIZE 4096" ++ 10 ∷ []
    ++ codes "  SPACE CYLINDERS 1 2" ++ 10 ∷ []
    ++ codes "  DATA PAY.MASTER.DATA" ++ 10 ∷ []
    ++ codes "  INDEX PAY.MASTER.INDEX" ++ 10 ∷ []
    ++ codes "  CLASSES - STANDARD -" ++ 10 ∷ []
    ++ codes "  RECORDS 1000 AREAS 3 SPLITS CI 12 CA 2" ++ 10 ∷ []
    ++ codes "ENTRIES 2" ++ 10 ∷ []
unfolding on-volumes ledger empty master counted digits
lines-all = refl

-- of one of them
lines-one : all_lines on-volumes (codes "PAY.MASTER" ∷ []) (counted ∷ [])
    ≡ codes "CLUSTER PAY.MASTER" ++ 10 ∷ []
    ++ codes "  KIND KSDS KEYS 8 0 RECORDSIZE 80 120 LOG UNDO" ++ 10 ∷ []
    ++ codes "  FREESPACE 20 10 SHAREOPTIONS 1 3 CISIZE 4096" ++ 10 ∷ []
    ++ codes "  SPACE CYLINDERS 1 2" ++ 10 ∷ []
    ++ codes "  DATA PAY.MASTER.DATA" ++ 10 ∷ []
    ++ codes "  INDEX PAY.MASTER.INDEX" ++ 10 ∷ []
    ++ codes "  CLASSES - STANDARD -" ++ 10 ∷ []
    ++ codes "  RECORDS 1000 AREAS 3 SPLITS CI 12 CA 2" ++ 10 ∷ []
    ++ codes "ENTRIES 1" ++ 10 ∷ []
unfolding on-volumes ledger empty master counted digits
lines-one = refl

-- with NAME
lines-named : detail_lines on-volumes []
    ≡ codes "CLUSTER PAY.LEDGER" ++ 10 ∷ []
    ++ codes "CLUSTER PAY.MASTER" ++ 10 ∷ []
    ++ codes "ENTRIES 2" ++ 10 ∷ []
unfolding on-volumes ledger empty master counted digits
lines-named = refl
