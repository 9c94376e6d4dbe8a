-- What one event of a deck's request adds to the history of a volume. The rules are this project's own.
use Rattle.std.specs.Prelude.{◌≡◌, ◌⊎◌, ℕ, Bool, true, false, cond, IsTrue, List, [], ◌∷◌}
use Rattle.std.specs.Prelude.{◌++◌, All, Result, Ok, Err, map, max}
use Rattle.vr_types.specs.declared.bound.Bound.{Bound}
use Rattle.vr_types.specs.declared.request.Request.{Request}
use Rattle.vr_history.specs.Legal.{is_backout}
use Rattle.vr_history.specs.Merged.{IsStamped, last_stamp, part_of_deck}
use Rattle.vr_history.specs.declared.entry.Entry.{Entry}
use Rattle.vr_history.specs.declared.entry.What.{What}
use Rattle.vr_history.specs.declared.entry.What.TheVariants.{Asked, Undone, Claimed, Split, Faulted}
use Rattle.vr_ledger.specs.Entries.{IsOf}
use Rattle.vr_trace.specs.Growing.{FollowsOne, IsNext}
use Rattle.vr_trace.specs.Laws.{deck_entries}
use Rattle.vr_trace.specs.Numbering.{with_volume}
use Rattle.vr_trace.specs.declared.no.RunNo.{RunNo}

-- Of a deck's own entries, the last that is a request or a before-image put back is the latter: its
-- unit has begun to undo, and hasn't ended that.
abbrev pub undoing_after : Bool → What → Bool
undoing_after before (Asked request reply) = false
undoing_after before (Undone part place) = true
undoing_after before (Claimed part area) = before
undoing_after before (Split part) = before
undoing_after before (Faulted fault) = before

abbrev pub undoes_from : Bool → List Entry → Bool
undoes_from before [] = before
undoes_from before (entry ∷ entries) = undoes_from (undoing_after before entry.what) entries

abbrev pub undoes : List Entry → Bool
undoes own = undoes_from false own

-- A deck whose unit has begun to undo asks for BACKOUT.
abbrev pub MayAsk : Request → List Entry → Type 0
MayAsk request own = (undoes own ≡ false) ⊎ IsTrue (is_backout request)

-- Once its request is answered, none has begun; until then it asks the same.
abbrev pub MayGoOn : Bool → Request → List Entry → Type 0
MayGoOn true request own = undoes own ≡ false
MayGoOn false request own = MayAsk request own

-- whether the request was answered
abbrev pub is_done : Result Bool RunNo → Bool
is_done (Ok done) = done
is_done (Err fault) = false

abbrev pub is_ok : Result (Unit {0}) RunNo → Bool
is_ok (Ok value) = true
is_ok (Err fault) = false

-- a request, with its volume and line
abbrev pub bound_to : ℕ → ℕ → Request → Bound
bound_to volume line request = record { volume = volume; line = line; request = request }

abbrev pub if_done : Bool → Bound → List Bound
if_done done bound = cond done (bound ∷ []) []

-- The entries of the event are the deck's, at the stamps that come next after the greater of its
-- own last one and the volume's, and answer the request where it is done, and none where it isn't.
pub record HasEntered (number deck line : ℕ) (request : Request) (after : ℕ) (done : Bool)
    (old new : List Entry) : Type 0 where
  pub made : List Entry
  pub entries : new ≡ old ++ made
  pub own : All (IsOf deck) made
  pub stamped : IsStamped (max (last_stamp 0 old) after) made
  pub next : All (λ (entry : Entry). IsNext (max (last_stamp 0 old) after) entry
      ⊎ FollowsOne made entry) made
  pub answers : part_of_deck deck (map (with_volume number) made)
      ≡ if_done done (bound_to number line request)
  pub goes_on : MayGoOn done request (deck_entries deck new)
