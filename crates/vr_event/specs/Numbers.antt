-- What a volume hands in of a data set whose places are numbers: the address that an added record
-- gets in an entry-sequenced part (DFSMS Using Data Sets, relative byte addresses).
use Rattle.std.specs.Prelude.{ℕ, List, Option, None, option_and_then, option_map}
use Rattle.std.specs.Int.{w32, to_be_bytes}
use Rattle.vr_types.specs.declared.request.Request.{Request}
use Rattle.vr_types.specs.declared.request.Request.TheVariants.{Get, Point, Add, Update, Erase}
use Rattle.vr_types.specs.declared.request.Request.TheVariants.{EndReq, Commit, Backout}
use Rattle.vr_space.specs.Part.{address_of}
use Rattle.vr_history.specs.RefusedFile.{shown_length}
use Rattle.vr_store.specs.Store.{PartNow, part_among}

-- The address of the next record of this length in the part of this number, as a place. A length
-- that a word can't hold has the address of each for which no interval has room beside an item.
abbrev pub address_at : List PartNow → ℕ → List ℕ → Option (List ℕ)
address_at parts part bytes = option_map (to_be_bytes w32)
    (option_and_then (λ (one : PartNow). address_of one.shape one.known (shown_length bytes))
    (part_among parts part))

-- that of the record that a request adds
abbrev pub address_for : List PartNow → ℕ → Request → Option (List ℕ)
address_for parts part (Add file place bytes) = address_at parts part bytes
address_for parts part (Get file find update integrity) = None
address_for parts part (Point file find) = None
address_for parts part (Update file bytes) = None
address_for parts part (Erase file) = None
address_for parts part (EndReq file) = None
address_for parts part Commit = None
address_for parts part Backout = None
