-- The records of the undo log as bytes: before-images, and the ends of units of recovery. The bytes
-- are this project's own.
use Rattle.std.specs.Prelude.{◌≡◌, ◌⊎◌, ℕ, ◌^◌, ◌+◌, ◌<◌, List, ◌∷◌, ◌++◌, length, All, Option}
use Rattle.std.specs.Prelude.{Some, None, IfSome, slice_index}
use Rattle.std.specs.List.{flat_map}
use Rattle.vr_types.specs.Fields.{two, four, two_at, four_at}
use Rattle.vr_types.specs.declared.unit.Unit.{Unit as UnitOfRecovery}
use Rattle.vr_types.specs.declared.unit.PartNo.{PartNo}
use Rattle.vr_log.specs.declared.record.EndKind.{EndKind}
use Rattle.vr_log.specs.declared.record.EndKind.TheVariants.{Committed, BackedOut}
use Rattle.vr_log.specs.declared.record.LogRecord.{LogRecord}
use Rattle.vr_log.specs.declared.record.LogRecord.TheVariants.{Before, End}

-- which record it is: 1 a before-image, 2 and 3 the end of a unit that committed or was backed out
abbrev pub end_number : EndKind → ℕ
end_number Committed = 2
end_number BackedOut = 3

-- the deck and the number of a unit
unfoldable pub unit_bytes : UnitOfRecovery → List ℕ
unit_bytes unit = four unit.deck ++ four unit.number

-- whether there was a record at the place, its length, and the record
unfoldable pub old_bytes : Option (List ℕ) → List ℕ
old_bytes None = 0 ∷ four 0
old_bytes (Some bytes) = 1 ∷ four (length bytes) ++ bytes

unfoldable pub record_bytes : LogRecord → List ℕ
record_bytes (Before unit part place old) = 1 ∷ unit_bytes unit ++ four part.0
    ++ two (length place) ++ place ++ old_bytes old
record_bytes (End unit kind) = end_number kind ∷ unit_bytes unit

-- one record after another
abbrev pub bytes_of : List LogRecord → List ℕ
bytes_of records = flat_map record_bytes records

-- a unit whose two numbers have room in their fields
pub record IsUnit (unit : UnitOfRecovery) : Type 0 where
  pub deck : unit.deck < 2 ^ 32
  pub number : unit.number < 2 ^ 32

-- a before-image whose fields have room for their numbers
pub record IsBefore (unit : UnitOfRecovery) (part : PartNo) (place : List ℕ) (old : Option (List ℕ))
    : Type 0 where
  pub of_unit : IsUnit unit
  pub of_part : part.0 < 2 ^ 32
  pub at_place : length place < 2 ^ 16
  pub was : IfSome old (λ bytes. length bytes < 2 ^ 32)

-- Each field has room for its number.
abbrev pub HasFields : LogRecord → Type 0
HasFields (Before unit part place old) = IsBefore unit part place old
HasFields (End unit kind) = IsUnit unit

-- The lengths of a before-image have room in their fields.
abbrev pub HasLengths : LogRecord → Type 0
HasLengths (Before unit part place old) = (length place < 2 ^ 16)
    × IfSome old (λ bytes. length bytes < 2 ^ 32)
HasLengths (End unit kind) = Unit {0}

-- A before-image of which bytes are missing, by those of its fields that are there: the length of
-- its place, the flag and the length of its old record, or bytes of that. No other byte of it
-- counts.
pub record IsShort (bytes : List ℕ) : Type 0 where
  pub kind : slice_index bytes 0 ≡ 1
  pub short : (length bytes < 15) ⊎ (length bytes < 20 + two_at 13 bytes)
      ⊎ (length bytes < 20 + two_at 13 bytes + four_at (16 + two_at 13 bytes) bytes)

-- What is left of a record that isn't whole, whatever its bytes are. Each record has 9 bytes or
-- more: its kind and its unit.
abbrev pub IsCut : List ℕ → Type 0
IsCut bytes = (length bytes < 9) ⊎ IsShort bytes

-- The bytes are those of the records. A last record that isn't whole doesn't count.
pub record SpellsRecords (bytes : List ℕ) (records : List LogRecord) : Type 0 where
  pub fields : All HasFields records
  pub cut : List ℕ
  pub is_cut : IsCut cut
  pub spelled : bytes ≡ bytes_of records ++ cut
