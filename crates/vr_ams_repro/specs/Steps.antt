-- What the private functions of REPRO say to one another. The rules are this project's own.
use Rattle.std.specs.Prelude.{◌≡◌, ℕ, ◌-◌, Bool, true, false, if◌then◌else◌, ◌||◌, ◌==◌, nat_lt}
use Rattle.std.specs.Prelude.{List, [], ◌∷◌, ◌++◌, Contains, Option, Some, None, Result, Ok, Err}
use Rattle.std.specs.Global.{Global}
use Rattle.vr_types.specs.declared.geometry.Geometry.{Geometry}
use Rattle.vr_catalog.specs.declared.entry.EntryKind.TheVariants.{Cluster}
use Rattle.vr_history.specs.declared.entry.Entry.{Entry}
use Rattle.vr_amsparse.specs.declared.command.ReproCommand.{ReproCommand}
use Rattle.vr_amsparse.specs.declared.command.Source.{Source}
use Rattle.vr_trace.specs.Shown.{Shown}
use Rattle.vr_trace.specs.declared.command.Failure.{Failure}
use Rattle.vr_ams_define.specs.Answers.{IsShownRead}
use Rattle.vr_ams_define.specs.Steps.{IsLater}
use Rattle.vr_ams_define.specs.declared.answer.ReadBack.TheVariants as reads
use Rattle.vr_ams_print.specs.Printed.{has_keys}
use Rattle.vr_ams_print.specs.Steps.{IsThere, is_within}
use Rattle.vr_ams_print.specs.declared.source.FoundCluster.{FoundCluster}
use Rattle.vr_ams_repro.specs.Outcomes.{AreEnds, IsCause, IsSourceOf, IsSourceRefused, is_same}
use Rattle.vr_ams_repro.specs.Replies.{IsShownReplied}
use Rattle.vr_ams_repro.specs.declared.ends.Ends.{Ends}
use Rattle.vr_ams_repro.specs.declared.piece.Piece.{Piece}
use Rattle.vr_ams_repro.specs.declared.tried.Look.{Look}
use Rattle.vr_ams_repro.specs.declared.tried.Look.TheVariants as looks
use Rattle.vr_ams_repro.specs.declared.tried.Tried.{Tried}
use Rattle.vr_ams_repro.specs.declared.tried.Tried.TheVariants.{Replied, Unread}

-- ---- source and target

abbrev pub IsSourceFound : Bool → List Shown → Source → Result (Option FoundCluster) Failure → Type 0
IsSourceFound keyed volumes from (Ok source) = IsSourceOf keyed volumes from source
IsSourceFound keyed volumes from (Err failure) = IsSourceRefused keyed volumes from failure

pub record AreApart (volumes : List Shown) (command : ReproCommand) (ends : Ends) : Type 0 where
  pub are : AreEnds volumes command ends
  pub apart : is_same ends.source ends.target ≡ false

abbrev pub AreFound : List Shown → ReproCommand → Result Ends Failure → Type 0
AreFound volumes command (Ok ends) = AreApart volumes command ends
AreFound volumes command (Err failure) = IsCause volumes command failure

-- The volume of the source hasn't stopped, and has its entry; data cards have none.
abbrev pub IsSourceThere : List Shown → Option FoundCluster → Type 0
IsSourceThere volumes None = Unit {0}
IsSourceThere volumes (Some source) = IsThere volumes source

-- ---- a piece of the records that are handed over

-- one more record is copied
abbrev pub with_record : Piece → List ℕ → List ℕ → Piece
with_record piece place bytes = record piece {
  left = piece.left - 1;
  records = piece.records ++ (place, bytes) ∷ [];
}

-- a record is passed over, copied, or past the last
abbrev pub after_record : Piece → List ℕ → List ℕ → Piece
after_record piece place bytes =
    if nat_lt 0 piece.skip then record piece { skip = piece.skip - 1 }
    else if is_within piece.last (place, bytes) then with_record piece place bytes
    else record piece { over = true }

abbrev pub is_done : Piece → Bool
is_done piece = piece.over || piece.left == 0

abbrev pub with_card : Piece → List ℕ → Piece
with_card piece card = if is_done piece then piece else after_record piece [] card

-- before the first record
abbrev pub started : Global → ℕ → ℕ → Option (List ℕ) → Piece
started alloc skip left last = record {
  skip = skip;
  left = left;
  last = last;
  over = false;
  records = [];
  alloc = alloc;
}

-- ---- the volume of the target

-- It hasn't stopped, and has the entry, which is a cluster's.
pub record IsServed (volume : Shown) (target : FoundCluster) : Type 0 where
  pub going : volume.stopped ≡ false
  pub has : Contains volume.catalog target.entry
  pub cluster : target.entry.entry_kind ≡ Cluster

-- What it entered comes after a stamp, and it has its shape.
pub record WentOn {V : Type 0} (geometry : V → Geometry) (history : V → List Entry)
    (goes : V → V → Type 0) (line after : ℕ) (old new : V) : Type 0 where
  pub later : IsLater history goes line after old new
  pub shape : geometry new ≡ geometry old

abbrev pub IsShownLooked : Look → Shown → Shown → Type 0
IsShownLooked looks.Free old new = new ≡ old
IsShownLooked looks.Taken old new = new ≡ old
IsShownLooked (looks.Unread fault) old new = IsShownRead (reads.Fault fault) old new

abbrev pub IsShownTried : Tried → Shown → Shown → Type 0
IsShownTried (Replied way reply) old new = IsShownReplied reply old new
IsShownTried (Unread fault) old new = IsShownRead (reads.Fault fault) old new

-- Unless the command has ended, volumes show what they showed.
abbrev pub IsStill : {S : Type 0} → Option ℕ → S → S → Type 0
IsStill fault old new = fault ≡ None → new ≡ old
