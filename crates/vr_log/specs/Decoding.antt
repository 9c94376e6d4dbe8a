-- What bytes begin with, while the records of a log are read.
use Rattle.std.specs.Prelude.{◌≡◌, ℕ, ◌+◌, ◌^◌, ◌<◌, ◌≤◌, List, [], ◌∷◌, ◌++◌, length, take, drop}
use Rattle.std.specs.Prelude.{All, Option, Some, None, IfSome}
use Rattle.vr_types.specs.Fields.{four_at}
use Rattle.vr_log.specs.declared.record.LogRecord.{LogRecord}
use Rattle.vr_log.specs.declared.decoding.Found.{Found}
use Rattle.vr_log.specs.declared.decoding.Found.TheVariants.{Whole, Cut, Misspelled}
use Rattle.vr_log.specs.declared.decoding.OldFound.{OldFound}
use Rattle.vr_log.specs.declared.decoding.OldFound.TheVariants.{Absent, Present, Broken, Wrong}
use Rattle.vr_log.specs.declared.records.Step.{Step}
use Rattle.vr_log.specs.declared.records.Step.TheVariants.{Added, Ended, Stopped}
use Rattle.vr_log.specs.Content.{Content}
use Rattle.vr_log.specs.Damage.{IsMisspelled}
use Rattle.vr_log.specs.Records.{HasFields, old_bytes, record_bytes, bytes_of, IsCut, SpellsRecords}

-- fewer bytes than the length of the old record says, whatever they are
abbrev pub IsOldCut : List ℕ → Type 0
IsOldCut bytes = length bytes < 5 + four_at 1 bytes

-- They are as many as its length says, and whatever follows them, no old record begins with them or
-- they with it.
pub record IsOldWrong (bytes : List ℕ) : Type 0 where
  pub long : 5 + four_at 1 bytes ≤ length bytes
  pub none : (old : Option (List ℕ)) (x y : List ℕ) → bytes ++ x ≡ old_bytes old ++ y → ⊥

-- the bytes begin with those of the old record
pub record IsOld (bytes : List ℕ) (old : Option (List ℕ)) (count : ℕ) : Type 0 where
  pub was : IfSome old (λ b. length b < 2 ^ 32)
  pub is : bytes ≡ old_bytes old ++ drop count bytes
  pub long : length (old_bytes old) ≡ count
  pub within : count ≤ length bytes

abbrev pub IsOldFound : List ℕ → OldFound → Type 0
IsOldFound bytes Absent = IsOld bytes None 5
IsOldFound bytes (Present n) = IsOld bytes (Some (take n (drop 5 bytes))) (5 + n)
IsOldFound bytes Broken = IsOldCut bytes
IsOldFound bytes Wrong = IsOldWrong bytes

-- the bytes begin with those of the record
pub record IsWhole (bytes : List ℕ) (rec : LogRecord) (count : ℕ) : Type 0 where
  pub fields : HasFields rec
  pub is : bytes ≡ record_bytes rec ++ drop count bytes
  pub long : length (record_bytes rec) ≡ count
  pub some : 0 < count
  pub within : count ≤ length bytes

abbrev pub IsFound : List ℕ → Found → Type 0
IsFound bytes (Whole rec count) = IsWhole bytes rec count
IsFound bytes Cut = IsCut bytes
IsFound bytes Misspelled = IsMisspelled bytes

-- a record was read off the bytes, and added to the content
pub record IsAdded (bytes : List ℕ) (old new : Content) (count : ℕ) : Type 0 where
  pub rec : LogRecord
  pub whole : IsWhole bytes rec count
  pub records : new.records ≡ old.records ++ rec ∷ []

abbrev pub IsStep : List ℕ → Content → Content → Step → Type 0
IsStep bytes old new (Added count) = IsAdded bytes old new count
IsStep bytes old new Ended = IsCut bytes × (new.records ≡ old.records)
IsStep bytes old new Stopped = IsMisspelled bytes × (new.records ≡ old.records)

-- these are the records that the bytes begin with, up to this one
pub record IsUpTo (bytes : List ℕ) (records : List LogRecord) (at : ℕ) : Type 0 where
  pub fields : All HasFields records
  pub is : bytes ≡ bytes_of records ++ drop at bytes
  pub long : length (bytes_of records) ≡ at
  pub within : at ≤ length bytes

-- All bytes are those of the records, or from a byte on they are misspelled.
abbrev pub AreRead : List ℕ → List LogRecord → Option ℕ → Type 0
AreRead bytes records None = SpellsRecords bytes records
AreRead bytes records (Some at) = IsUpTo bytes records at × IsMisspelled (drop at bytes)
