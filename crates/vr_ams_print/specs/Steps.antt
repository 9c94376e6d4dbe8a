-- What the private functions of PRINT and VERIFY say to one another. The rules are this project's
-- own.
use Rattle.std.specs.Prelude.{◌≡◌, ℕ, ◌-◌, ◌^◌, Bool, true, false, if◌then◌else◌, ◌||◌, ◌==◌}
use Rattle.std.specs.Prelude.{nat_lt, List, [], ◌++◌, Contains, Option, Some, None, Result, Ok, Err}
use Rattle.std.specs.Prelude.{slice_get, slice_set}
use Rattle.std.specs.Global.{Global}
use Rattle.vr_types.specs.declared.unit.Kind.{Kind}
use Rattle.vr_catalog.specs.Catalog.{entry_named}
use Rattle.vr_catalog.specs.declared.entry.EntryKind.TheVariants.{Cluster}
use Rattle.vr_amsparse.specs.declared.command.PrintCommand.{PrintCommand}
use Rattle.vr_amsparse.specs.declared.command.To.{To}
use Rattle.vr_amsparse.specs.declared.command.To.TheVariants as last
use Rattle.vr_trace.specs.Shown.{Shown}
use Rattle.vr_trace.specs.Visitors.{Visited, visited_by}
use Rattle.vr_trace.specs.declared.command.Failure.{Failure}
use Rattle.vr_trace.specs.declared.no.RunNo.{RunNo}
use Rattle.vr_ams_define.specs.Altered.{entry_at, place_of}
use Rattle.vr_ams_define.specs.Answers.{Answering, Exchange}
use Rattle.vr_ams_define.specs.Answers.Exchange.{Reading}
use Rattle.vr_ams_define.specs.declared.answer.Counted.{Counted}
use Rattle.vr_ams_define.specs.declared.answer.Counted.TheVariants as counts
use Rattle.vr_ams_define.specs.declared.answer.ReadBack.{ReadBack}
use Rattle.vr_ams_define.specs.declared.answer.ReadBack.TheVariants as reads
use Rattle.vr_ams_print.specs.Printed.{is_up_to, skipped, text_of}
use Rattle.vr_ams_print.specs.Sources.{kind_of_found, source_kind}
use Rattle.vr_ams_print.specs.declared.printing.Printing.{Printing}
use Rattle.vr_ams_print.specs.declared.source.FoundCluster.{FoundCluster}

-- ---- the data set

-- The volume has the entry under the name, and it may be read.
pub record IsSourceOn (keyed : Bool) (volume : Shown) (place : ℕ) (name : List ℕ) (source : FoundCluster)
    : Type 0 where
  pub place_is : source.place ≡ place
  pub entry_is : entry_named volume.catalog name ≡ Some source.entry
  pub kind_is : kind_of_found keyed (Some volume) (Some source.entry) ≡ Ok source.kind

abbrev pub IsFoundOn : Bool → Shown → ℕ → List ℕ → Result FoundCluster Failure → Type 0
IsFoundOn keyed volume place name (Ok source) = IsSourceOn keyed volume place name source
IsFoundOn keyed volume place name (Err failure) =
    kind_of_found keyed (Some volume) (entry_named volume.catalog name) ≡ Err failure

-- The entry is that of the name, on the lowest volume that has it, and may be read.
pub record IsSource (keyed : Bool) (volumes : List Shown) (name : List ℕ) (source : FoundCluster) : Type 0
  where
    pub place_is : place_of volumes name ≡ Some source.place
    pub entry_is : entry_at volumes source.place name ≡ Some source.entry
    pub kind_is : source_kind keyed volumes name ≡ Ok source.kind

abbrev pub IsFound : Bool → List Shown → List ℕ → Result FoundCluster Failure → Type 0
IsFound keyed volumes name (Ok source) = IsSource keyed volumes name source
IsFound keyed volumes name (Err failure) = source_kind keyed volumes name ≡ Err failure

-- The volume of the number hasn't stopped, and has the entry, which is a cluster's.
pub record IsThere (volumes : List Shown) (source : FoundCluster) : Type 0 where
  pub volume : Shown
  pub volume_is : slice_get volumes source.place ≡ Some volume
  pub going : volume.stopped ≡ false
  pub has : Contains volume.catalog source.entry
  pub cluster : source.entry.entry_kind ≡ Cluster

-- The volume of the data set was asked about it, and the others are as they were.
pub record IsAskedAt {V : Type 0} (answers : Answering V) (line : ℕ) (source : FoundCluster)
    (exchange : Exchange) (old new : List V) : Type 0 where
  pub before : V
  pub before_is : slice_get old source.place ≡ Some before
  pub after : V
  pub answered : answers before line exchange after
  pub others : new ≡ slice_set old source.place after

-- ---- the records that are handed over

-- COUNT, or as many as a number of 64 bits says
abbrev pub most_of : To → ℕ
most_of last.End = 2 ^ 64 - 1
most_of (last.Key key) = 2 ^ 64 - 1
most_of (last.Count count) = count

-- the key of TOKEY
abbrev pub last_key : To → Option (List ℕ)
last_key last.End = None
last_key (last.Key key) = Some key
last_key (last.Count count) = None

abbrev pub is_within : Option (List ℕ) → Visited → Bool
is_within None one = true
is_within (Some key) one = is_up_to key one

-- one more record is printed
abbrev pub printed_more : Printing → Visited → Printing
printed_more printing one = record printing {
  left = printing.left - 1;
  lines = printing.lines ++ text_of printing.kind printing.form one;
}

-- a record is passed over, printed, or past the last
abbrev pub after_record : Printing → List ℕ → List ℕ → Printing
after_record printing place bytes =
    if nat_lt 0 printing.skip then record printing { skip = printing.skip - 1 }
    else if is_within printing.last (place, bytes) then printed_more printing (place, bytes)
    else record printing { over = true }

abbrev pub is_done : Printing → Bool
is_done printing = printing.over || printing.left == 0

-- before the first record
abbrev pub started : Global → Kind → PrintCommand → Printing
started alloc kind command = record {
  kind = kind;
  form = command.form;
  skip = skipped command.from;
  left = most_of command.to;
  last = last_key command.to;
  over = false;
  lines = [];
  alloc = alloc;
}

-- The volume of the data set was asked for its records, and handed them over.
pub record HasHandedOver {V R : Type 0} (answers : Answering V) (next : R → List ℕ → List ℕ → R)
    (done : R → Bool) (line : ℕ) (source : FoundCluster) (from : Option (List ℕ)) (before left : R)
    (old new : List V) (answer : ReadBack) : Type 0 where
  pub records : List Visited
  pub asked : IsAskedAt answers line source (Reading source.entry from records answer) old new
  pub visited : left ≡ visited_by next done records before

-- Only a fault of the device changes what the volumes show.
abbrev pub IsShownStill : Result ReadBack RunNo → List Shown → List Shown → Type 0
IsShownStill (Ok reads.Done) old new = new ≡ old
IsShownStill (Ok (reads.Fault fault)) old new = Unit {0}
IsShownStill (Err why) old new = new ≡ old

abbrev pub IsCountedStill : Result Counted RunNo → List Shown → List Shown → Type 0
IsCountedStill (Ok (counts.Done numbers)) old new = new ≡ old
IsCountedStill (Ok (counts.Fault fault)) old new = Unit {0}
IsCountedStill (Err why) old new = new ≡ old
