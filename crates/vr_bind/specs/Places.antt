-- The places that operands name. KEY goes with a key-sequenced file and with a path, RBA with an
-- entry-sequenced file, and RRN with a relative one (DFSMS Using Data Sets). An operand that doesn't
-- go with its file names the empty place, which no data set has, and so the request is refused for
-- it. An empty key is 256 zero bytes, which is longer than every key. Both are this project's own.
use Rattle.std.specs.Prelude.{ℕ, ◌==◌, List, [], length, replicate, Option, Some, None, if◌then◌else◌}
use Rattle.std.specs.Option.{option_map}
use Rattle.std.specs.Int.{to_be_bytes, w32}
use Rattle.vr_types.specs.declared.request.FileRef.{FileRef}
use Rattle.vr_types.specs.declared.request.Find.{Find}
use Rattle.vr_types.specs.declared.request.Find.TheVariants as finds
use Rattle.vr_types.specs.declared.unit.Kind.{Kind}
use Rattle.vr_types.specs.declared.unit.Kind.TheVariants.{Keyed, Entry, Relative}
use Rattle.vr_types.specs.declared.unit.PartNo.{PartNo}
use Rattle.vr_deck_text.specs.declared.text.At.{At}
use Rattle.vr_deck_text.specs.declared.text.At.TheVariants.{Key, Rba, Rrn}
use Rattle.vr_deck_text.specs.declared.text.Seek.{Seek}
use Rattle.vr_deck_text.specs.declared.text.Seek.TheVariants as seeks

abbrev pub key_asked : List ℕ → List ℕ
key_asked key = if length key == 0 then replicate 256 0 else key

-- the records of a file are in the order of keys, where it is a path or keyed
abbrev pub order_by : Option PartNo → Kind → Kind
order_by (Some path) kind = Keyed
order_by None kind = kind

-- the place that an operand names in a file whose records are in this order
abbrev pub place_by : Kind → At → List ℕ
place_by Keyed (Key key) = key_asked key
place_by Keyed (Rba n) = []
place_by Keyed (Rrn n) = []
place_by Entry (Key key) = []
place_by Entry (Rba n) = to_be_bytes w32 n
place_by Entry (Rrn n) = []
place_by Relative (Key key) = []
place_by Relative (Rba n) = []
place_by Relative (Rrn n) = to_be_bytes w32 n

abbrev pub place_in : FileRef → At → List ℕ
place_in file at = place_by (order_by file.path file.kind) at

-- which record is asked for
abbrev pub find_in : FileRef → Seek → Find
find_in file seeks.Next = finds.Next
find_in file (seeks.Equal at) = finds.Equal (place_in file at)
find_in file (seeks.AtLeast at) = finds.AtLeast (place_in file at)

-- where a record is to be added, if that is given
abbrev pub slot_in : FileRef → Option At → Option (List ℕ)
slot_in file at = option_map (place_in file) at
