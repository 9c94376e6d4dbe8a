-- What the lines of requests and of the merged history are made of. They are this project's own.
use Rattle.std.specs.Prelude.{ℕ, ◌==◌, if◌then◌else◌, List, [], ◌++◌, codes, length}
use Rattle.std.specs.Prelude.{Option, Some, None}
use Rattle.std.specs.Fmt.{decimal}
use Rattle.vr_types.specs.declared.reply.Refusal.{Refusal}
use Rattle.vr_types.specs.declared.reply.Refusal.TheVariants.{EndOfData, Duplicate, NotFound}
use Rattle.vr_types.specs.declared.reply.Refusal.TheVariants.{NoAddress, NoSpace, NoPosition, NoGet}
use Rattle.vr_types.specs.declared.reply.Refusal.TheVariants.{KeyChanged, LengthChanged, BadLength}
use Rattle.vr_types.specs.declared.reply.Refusal.TheVariants.{BadSlot, Held, LogFull, Stopped}
use Rattle.vr_types.specs.declared.reply.Refusal.TheVariants.{ReadFault, WriteFault, Memory}
use Rattle.vr_types.specs.declared.reply.Refusal.TheVariants.{NotAllowed, NoFile}
use Rattle.vr_types.specs.declared.reply.Reply.{Reply}
use Rattle.vr_types.specs.declared.reply.Reply.TheVariants.{Done, Refused}
use Rattle.vr_types.specs.declared.request.Request.{Request}
use Rattle.vr_types.specs.declared.request.Request.TheVariants.{Get, Point, Add, Update, Erase}
use Rattle.vr_types.specs.declared.request.Request.TheVariants.{EndReq, Commit, Backout}
use Rattle.vr_types.specs.declared.unit.Kind.{Kind}
use Rattle.vr_types.specs.declared.unit.Kind.TheVariants.{Keyed, Entry, Relative}
use Rattle.vr_types.specs.declared.unit.Unit.{Unit as UnitOfRecovery}
use Rattle.vr_types.specs.Fields.{four_at}
use Rattle.vr_text.specs.Literal.{literal_of}
use Rattle.vr_trace.specs.Code.{return_code, feedback_of}
use Rattle.vr_trace.specs.Names.{name_at}

-- a keyword and a number
abbrev pub field : List ℕ → ℕ → List ℕ
field keyword number = keyword ++ decimal number

-- a unit of recovery: its deck, and its number in that deck
abbrev pub unit_text : UnitOfRecovery → List ℕ
unit_text unit = decimal unit.deck ++ field (codes ".") unit.number

-- the verb of a request, as a deck has it
abbrev pub verb_of : Request → List ℕ
verb_of (Get file find update integrity) = codes "GET"
verb_of (Point file find) = codes "POINT"
verb_of (Add file place bytes) = codes "PUT"
verb_of (Update file bytes) = codes "PUT"
verb_of (Erase file) = codes "ERASE"
verb_of (EndReq file) = codes "ENDREQ"
verb_of Commit = codes "COMMIT"
verb_of Backout = codes "BACKOUT"

-- the deck's name of the file, where the request is on one
abbrev pub file_of : List (List ℕ) → Request → List ℕ
file_of names Commit = []
file_of names Backout = []
file_of names (Get file find update integrity) = codes " " ++ name_at names file.slot
file_of names (Point file find) = codes " " ++ name_at names file.slot
file_of names (Add file place bytes) = codes " " ++ name_at names file.slot
file_of names (Update file bytes) = codes " " ++ name_at names file.slot
file_of names (Erase file) = codes " " ++ name_at names file.slot
file_of names (EndReq file) = codes " " ++ name_at names file.slot

-- the return code and the feedback number of a reply
abbrev pub result_of : Reply → List ℕ
result_of reply = field (codes " RC=") (return_code reply) ++ field (codes " FB=") (feedback_of reply)

-- a keyword and a literal, where there is a value
abbrev pub shown : List ℕ → Option (List ℕ) → List ℕ
shown keyword None = []
shown keyword (Some bytes) = keyword ++ literal_of bytes

-- the numbers of a refusal: the free areas, the unit that holds the lock, the room of the log
abbrev pub numbers_of : Refusal → List ℕ
numbers_of EndOfData = []
numbers_of (Duplicate part) = []
numbers_of NotFound = []
numbers_of NoAddress = []
numbers_of (NoSpace need free) = field (codes " FREE=") free
numbers_of NoPosition = []
numbers_of NoGet = []
numbers_of KeyChanged = []
numbers_of LengthChanged = []
numbers_of (BadLength length) = []
numbers_of BadSlot = []
numbers_of (Held holder name mode) = codes " HOLDER=" ++ unit_text holder
numbers_of (LogFull used need size) =
    field (codes " USED=") used ++ field (codes " NEED=") need ++ field (codes " SIZE=") size
numbers_of (Stopped stamp) = []
numbers_of ReadFault = []
numbers_of WriteFault = []
numbers_of Memory = []
numbers_of NotAllowed = []
numbers_of NoFile = []

-- the kind of the data set that a request is on; of those that are on none no reply has a place
abbrev pub kind_of : Request → Kind
kind_of Commit = Keyed
kind_of Backout = Keyed
kind_of (Get file find update integrity) = file.kind
kind_of (Point file find) = file.kind
kind_of (Add file place bytes) = file.kind
kind_of (Update file bytes) = file.kind
kind_of (Erase file) = file.kind
kind_of (EndReq file) = file.kind

-- the number in the four bytes of an address or of a slot; other bytes are no such place
abbrev pub number_text : List ℕ → List ℕ
number_text place = if length place == 4 then decimal (four_at 0 place) else literal_of place

-- a key as a literal, an address or a slot as a number
abbrev pub place_named : Kind → List ℕ → List ℕ
place_named Keyed place = literal_of place
place_named Entry place = number_text place
place_named Relative place = number_text place

-- the place of a record, where there is one
abbrev pub place_shown : Kind → Option (List ℕ) → List ℕ
place_shown kind None = []
place_shown kind (Some place) = codes " AT=" ++ place_named kind place

-- the place and the record of a reply, or the numbers of its refusal
abbrev pub values_of : Request → Reply → List ℕ
values_of request (Done feedback place bytes) =
    place_shown (kind_of request) place ++ shown (codes " DATA=") bytes
values_of request (Refused refusal) = numbers_of refusal
