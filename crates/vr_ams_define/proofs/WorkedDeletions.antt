-- Worked outcomes of DELETE: the lines of the names that are deleted, the greatest code, and the
-- fault of the first name that gave it.
use Rattle.std.proofs.Common.{◌≡◌, ℕ, List, [], ◌∷◌, ◌++◌, codes, Option, Some, None, refl}
use Rattle.vr_trace.specs.declared.command.Failure.{Failure}
use Rattle.vr_ams_define.specs.Asked.{outcome_by}
use Rattle.vr_ams_define.specs.Deleted.{deleted_outcome, lines_by}

abbrev old : List ℕ
old = codes "DELETED CLUSTER PAY.OLD" ++ 10 ∷ []

abbrev two : List ℕ
two = codes "DELETED AIX PAY.BYNAME" ++ 10 ∷ codes "DELETED PATH PAY.NAMES" ++ 10 ∷ []

abbrev not_found : Option Failure
not_found = Some (record { fault = 2; code = 12 })

abbrev held : Option Failure
held = Some (record { fault = 901; code = 12 })

abbrev warned : Option Failure
warned = Some (record { fault = 3; code = 8 })

-- no name
nothing : deleted_outcome [] [] ≡ record { lines = []; code = 0; fault = None }
nothing = refl

-- each is deleted, one with a path over it
all-deleted : deleted_outcome (lines_by None old ++ lines_by None two) (None ∷ None ∷ [])
    ≡ record {
      lines = codes "DELETED CLUSTER PAY.OLD" ++ 10 ∷ codes "DELETED AIX PAY.BYNAME" ++ 10
          ∷ codes "DELETED PATH PAY.NAMES" ++ 10 ∷ [];
      code = 0;
      fault = None;
    }
all-deleted = refl

-- a name that isn't there has no line, and the others are deleted
one-missing : deleted_outcome (lines_by None old ++ lines_by not_found two)
    (None ∷ not_found ∷ []) ≡ record { lines = old; code = 12; fault = Some 2 }
one-missing = refl

-- of two that gave the greatest code, the fault is that of the first
first-of-two : deleted_outcome old (None ∷ held ∷ not_found ∷ [])
    ≡ record { lines = old; code = 12; fault = Some 901 }
first-of-two = refl

-- a lesser code before the greatest doesn't count
greatest-last : deleted_outcome old (warned ∷ None ∷ not_found ∷ [])
    ≡ record { lines = old; code = 12; fault = Some 2 }
greatest-last = refl

-- an ALTER has no detail line
altered-so : outcome_by None ≡ record { lines = []; code = 0; fault = None }
altered-so = refl

refused-so : outcome_by held ≡ record { lines = []; code = 12; fault = Some 901 }
refused-so = refl
