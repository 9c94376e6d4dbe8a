-- Which data set PRINT and VERIFY of Access Method Services Commands read, and when they are
-- refused instead. Alternate indexes and paths aren't read yet. Which faults there are, and their
-- order, is this project's own.
use Rattle.std.specs.Prelude.{ℕ, Bool, true, if◌then◌else◌, not, List, slice_get, Option, Some}
use Rattle.std.specs.Prelude.{None, Result, Ok, Err}
use Rattle.vr_types.specs.declared.unit.Kind.{Kind}
use Rattle.vr_types.specs.declared.unit.Kind.TheVariants.{Keyed, Entry, Relative}
use Rattle.vr_catalog.specs.declared.entry.CatEntry.{CatEntry}
use Rattle.vr_catalog.specs.declared.entry.EntryKind.{EntryKind}
use Rattle.vr_catalog.specs.declared.entry.EntryKind.TheVariants.{Cluster, Alternate, Path}
use Rattle.vr_catalog.specs.declared.fault.CatFault.TheVariants.{NotFound, WrongKind}
use Rattle.vr_trace.specs.Shown.{Shown}
use Rattle.vr_trace.specs.declared.command.Failure.{Failure}
use Rattle.vr_ams_define.specs.Altered.{entry_at, place_of}
use Rattle.vr_ams_define.specs.Failures.{catalog_failure, stopped_failure}

-- the kind of an entry that is a cluster's
abbrev pub kind_of : EntryKind → Option Kind → Option Kind
kind_of Cluster kind = kind
kind_of Alternate kind = None
kind_of Path kind = None

abbrev pub cluster_kind : CatEntry → Option Kind
cluster_kind entry = kind_of entry.entry_kind entry.kind

-- FROMKEY and TOKEY are of key-sequenced data sets alone
abbrev pub is_readable : Bool → Kind → Bool
is_readable keyed Keyed = true
is_readable keyed Entry = not keyed
is_readable keyed Relative = not keyed

-- 3: it is no cluster, or has no keys by which it could be read
abbrev pub kind_read : Bool → Option Kind → Result Kind Failure
kind_read keyed (Some kind) = if is_readable keyed kind then Ok kind
    else Err (catalog_failure WrongKind)
kind_read keyed None = Err (catalog_failure WrongKind)

abbrev pub unless : Option Failure → Result Kind Failure → Result Kind Failure
unless (Some failure) kind = Err failure
unless None kind = kind

-- 903 goes before it
abbrev pub kind_on : Bool → Shown → CatEntry → Result Kind Failure
kind_on keyed volume entry =
    unless (stopped_failure volume) (kind_read keyed (cluster_kind entry))

-- 2: the name is on no volume
abbrev pub kind_of_found : Bool → Option Shown → Option CatEntry → Result Kind Failure
kind_of_found keyed (Some volume) (Some entry) = kind_on keyed volume entry
kind_of_found keyed volume entry = Err (catalog_failure NotFound)

abbrev pub kind_at : Bool → List Shown → Option ℕ → List ℕ → Result Kind Failure
kind_at keyed volumes (Some place) name =
    kind_of_found keyed (slice_get volumes place) (entry_at volumes place name)
kind_at keyed volumes None name = Err (catalog_failure NotFound)

-- The kind of the cluster of a name, on the lowest volume that has the name; or why it isn't read,
-- by keys or not: 2, 903 and 3, in this order.
abbrev pub source_kind : Bool → List Shown → List ℕ → Result Kind Failure
source_kind keyed volumes name = kind_at keyed volumes (place_of volumes name) name
