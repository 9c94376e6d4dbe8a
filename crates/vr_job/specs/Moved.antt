-- Which file of a deck an entry is a request on, and what ends the unit of a deck: the words of the
-- law that no file is moved by another's request. DFSMS Using Data Sets, positioning.
use Rattle.std.specs.Prelude.{◌≡◌, ℕ, Bool, false, ◌||◌, List, [], ◌∷◌, Option, Some, None, IsTrue}
use Rattle.vr_types.specs.declared.reply.Reply.{Reply}
use Rattle.vr_types.specs.declared.reply.Reply.TheVariants.{Done, Refused}
use Rattle.vr_types.specs.declared.request.FileRef.{FileRef}
use Rattle.vr_types.specs.declared.request.Request.{Request}
use Rattle.vr_history.specs.declared.entry.Entry.{Entry}
use Rattle.vr_history.specs.declared.entry.What.{What}
use Rattle.vr_history.specs.declared.entry.What.TheVariants.{Asked, Undone, Claimed, Split, Faulted}
use Rattle.vr_history.specs.Case.{file_of}
use Rattle.vr_history.specs.Committed.{is_commit}
use Rattle.vr_history.specs.Legal.{is_backout}

-- the file that an entry is a request on, whatever its reply
abbrev pub file_asked : What → Option FileRef
file_asked (Asked request reply) = file_of request
file_asked (Undone part place) = None
file_asked (Claimed part area) = None
file_asked (Split part) = None
file_asked (Faulted fault) = None

abbrev pub HasSlot : ℕ → Option FileRef → Type 0
HasSlot slot None = ⊥
HasSlot slot (Some file) = slot ≡ file.slot

-- a request on this file of this deck
abbrev pub IsOn : ℕ → ℕ → Entry → Type 0
IsOn deck slot entry = (deck ≡ entry.unit.deck) × HasSlot slot (file_asked entry.what)

-- none of the entries is one
abbrev pub AreElsewhere : ℕ → ℕ → List Entry → Type 0
AreElsewhere deck slot [] = Unit {0}
AreElsewhere deck slot (entry ∷ entries) =
    (IsOn deck slot entry → ⊥) × AreElsewhere deck slot entries

-- a COMMIT or a BACKOUT that was done
abbrev pub is_done_end : Request → Reply → Bool
is_done_end request (Done feedback place bytes) = is_commit request || is_backout request
is_done_end request (Refused refusal) = false

abbrev pub is_end : What → Bool
is_end (Asked request reply) = is_done_end request reply
is_end (Undone part place) = false
is_end (Claimed part area) = false
is_end (Split part) = false
is_end (Faulted fault) = false

-- the end of a unit of this deck
abbrev pub Ends : ℕ → Entry → Type 0
Ends deck entry = (deck ≡ entry.unit.deck) × IsTrue (is_end entry.what)
