-- The number that a report shows for each fault, and the condition code of the command, in the
-- severities of Access Method
-- Services. The numbers are this project's own.
use Rattle.std.specs.Prelude.{◌≡◌, ◌⊎◌, ℕ, List, Option, Some, None}
use Rattle.std.specs.List.{fold}
use Rattle.std.specs.Option.{option_or}
use Rattle.vr_catalog.specs.declared.fault.CatFault.{CatFault}
use Rattle.vr_catalog.specs.declared.fault.CatFault.TheVariants.{NameTaken, NotFound, WrongKind}
use Rattle.vr_catalog.specs.declared.fault.CatFault.TheVariants.{NoVolume, KeyPastRecord}
use Rattle.vr_catalog.specs.declared.fault.CatFault.TheVariants.{RecordSize, FewIntervals, NoArea}
use Rattle.vr_catalog.specs.declared.fault.CatFault.TheVariants.{WrongBase, TooManyAlternates}
use Rattle.vr_catalog.specs.declared.fault.CatFault.TheVariants.{AlreadyBuilt, NotTogether}
use Rattle.vr_catalog.specs.declared.fault.CatFault.TheVariants.{DuplicateKey, CatalogFull, Memory}

abbrev pub fault_number : CatFault → ℕ
fault_number NameTaken = 1
fault_number NotFound = 2
fault_number WrongKind = 3
fault_number NoVolume = 4
fault_number KeyPastRecord = 5
fault_number RecordSize = 6
fault_number FewIntervals = 7
fault_number NoArea = 8
fault_number WrongBase = 9
fault_number TooManyAlternates = 10
fault_number AlreadyBuilt = 11
fault_number NotTogether = 12
fault_number DuplicateKey = 13
fault_number CatalogFull = 14
fault_number Memory = 0

abbrev pub fault_code : CatFault → ℕ
fault_code NameTaken = 12
fault_code NotFound = 8
fault_code WrongKind = 8
fault_code NoVolume = 12
fault_code KeyPastRecord = 12
fault_code RecordSize = 12
fault_code FewIntervals = 12
fault_code NoArea = 12
fault_code WrongBase = 12
fault_code TooManyAlternates = 12
fault_code AlreadyBuilt = 12
fault_code NotTogether = 12
fault_code DuplicateKey = 8
fault_code CatalogFull = 12
fault_code Memory = 0

-- the first of some faults that has its cause
abbrev pub first_of : List (Option CatFault) → Option CatFault
first_of faults = fold option_or None faults

-- a command that is refused shows the first fault, or that memory ran out
abbrev pub IsCause : Option CatFault → CatFault → Type 0
IsCause first fault = (fault ≡ Memory) ⊎ (first ≡ Some fault)
