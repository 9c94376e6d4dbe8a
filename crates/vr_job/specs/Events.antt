-- The events of a run on a volume, one after another: what a crash leaves while each goes on, and once
-- it is over. The rules are this project's own.
use Rattle.std.specs.Prelude.{◌≡◌, ◌⊎◌, ◌<◌, ◌≤◌, ◌+◌, ℕ, List, [], ◌∷◌, ◌++◌, None, Option, flat_map}
use Rattle.std.specs.Prelude.{All, Contains, length}
use Rattle.vr_types.specs.Faults.{Faults}
use Rattle.vr_types.specs.Image.{Image}
use Rattle.vr_types.specs.Moments.{Guards}
use Rattle.vr_types.specs.Seen.{Left, Seen}
use Rattle.vr_types.specs.declared.bound.Bound.{Bound}
use Rattle.vr_types.specs.declared.fault.DeviceFault.TheVariants.{Write}
use Rattle.vr_types.specs.declared.geometry.Geometry.{Geometry}
use Rattle.vr_types.specs.declared.reply.Refusal.TheVariants.{NoSpace, WriteFault}
use Rattle.vr_types.specs.declared.reply.Reply.TheVariants.{Refused}
use Rattle.vr_types.specs.declared.request.Request.{Request}
use Rattle.vr_types.specs.declared.unit.AreaNo.{AreaNo}
use Rattle.vr_types.specs.declared.unit.PartNo.{PartNo}
use Rattle.vr_edits.specs.declared.edit.CatalogEdit.{CatalogEdit}
use Rattle.vr_history.specs.Legal.{state_of}
use Rattle.vr_history.specs.Merged.{request_in}
use Rattle.vr_history.specs.State.{State}
use Rattle.vr_history.specs.declared.entry.Entry.{Entry}
use Rattle.vr_history.specs.declared.entry.What.TheVariants.{Asked, Faulted}
use Rattle.vr_volume.specs.Crashes.{RecoversTo}
use Rattle.vr_job.specs.Crash.{HaveDoneCommit, IsLeftAt}
use Rattle.vr_job.specs.Definitions.{AreBegun, IsCatalogStage, IsDefinition, IsEdit}
use Rattle.vr_job.specs.Faultless.{AreFaultless}
use Rattle.vr_job.specs.Kept.{KeepsItems}
use Rattle.vr_job.specs.Lacking.{LacksArea}
use Rattle.vr_job.specs.Owning.{HasOwners}
use Rattle.vr_job.specs.ReadFaults.{read_faults}
use Rattle.vr_job.specs.Splits.{AddsAsSplit}

-- An event: the deck that asked for it, 0 for the utilities, the blocks and the history as it
-- began, and the entries that it made.
pub record Event (B : Type 0) : Type 0 where
  pub deck : ℕ
  pub blocks : B
  pub entries : List Entry
  pub made : List Entry

-- the requests that entries answer
abbrev pub requests_in : List Entry → List Bound
requests_in entries = flat_map (λ (entry : Entry). request_in 0 entry.line entry.what) entries

-- While an event goes on, an image recovers to what is committed by the history before it, perhaps
-- with the unit whose COMMIT it enters; of a definition, or an edit of the catalog, after what it
-- enters before.
pub record IsLeftWhile (geometry : Geometry) (number : ℕ) (opening : State)
    (entries made : List Entry) (image : Image) : Type 0 where
  pub first : List Entry
  pub rest : List Entry
  pub made_are : made ≡ first ++ rest
  pub begun : AreBegun first
  pub left : IsLeftAt geometry number opening (entries ++ first) rest image

-- As long as the volume hasn't stopped, each image that a crash may leave recovers to what is committed
-- by its history.
abbrev pub LeavesAtRest : {B : Type 0} → (B → Seen) → Geometry → ℕ → State → B → List Entry → Type 0
LeavesAtRest seen geometry number opening now entries =
    (state_of geometry opening entries).stopped ≡ None → (image : Image) → Left (seen now) image
    → RecoversTo geometry number (state_of geometry opening entries) [] image

-- And each has, off the places that live units changed, the items of the parts of the state.
abbrev pub KeepsAtRest : {B : Type 0} → (B → Seen) → Geometry → ℕ → State → B → List Entry → Type 0
KeepsAtRest seen geometry number opening now entries =
    (state_of geometry opening entries).stopped ≡ None → (image : Image) → Left (seen now) image
    → KeepsItems geometry number (state_of geometry opening entries) image

-- And its blocks lead each part to the areas that the history gives it, and no other, but that a split
-- under way may have claimed one that they don't lead to yet.
abbrev pub OwnsAtRest : {B : Type 0} → (B → Seen) → Geometry → State → B → List Entry → Type 0
OwnsAtRest seen geometry opening now entries = (state_of geometry opening entries).stopped ≡ None
    → HasOwners geometry (state_of geometry opening entries) (seen now).cur

-- And an interval was split for each entry of a split that the event made, and for nothing else.
abbrev pub SplitsAtRest : {B : Type 0} → (B → Seen) → Geometry → State → Event B → B → List Entry
    → Type 0
SplitsAtRest seen geometry opening event now entries =
    (state_of geometry opening entries).stopped ≡ None
    → AddsAsSplit geometry (state_of geometry opening event.entries)
    (state_of geometry opening entries) (seen event.blocks).cur (seen now).cur event.made

-- Where an entry answers a request that there is no space, the part of its file lacks room in the
-- state and the blocks that the event found.
abbrev pub LackAreas : Geometry → State → Seen → List Entry → Type 0
LackAreas geometry state now made = (entry : Entry) → Contains made entry
    → (request : Request) (need free : ℕ)
    → entry.what ≡ Asked request (Refused (NoSpace need free))
    → LacksArea geometry state entry.unit now request need free

-- A request is refused since a write failed, and the fault, of its unit and line, stops the volume;
-- of a definition, and of an edit of the catalog, the request is the COMMIT of its unit.
pub record IsStopAfter (made : List Entry) : Type 0 where
  pub before : List Entry
  pub begun : AreBegun before
  pub request : Request
  pub failing : Entry
  pub fault : Entry
  pub made_are : made ≡ before ++ failing ∷ fault ∷ []
  pub failing_is : failing.what ≡ Asked request (Refused WriteFault)
  pub fault_is : fault.what ≡ Faulted Write
  pub unit_is : fault.unit ≡ failing.unit
  pub line_is : fault.line ≡ failing.line

-- A fault of a write met the utilities while they entered nothing, and stops the volume.
pub record IsStopAlone (made : List Entry) : Type 0 where
  pub fault : Entry
  pub made_are : made ≡ fault ∷ []
  pub fault_is : fault.what ≡ Faulted Write
  pub of_utilities : fault.unit.deck ≡ 0

abbrev pub IsStop : List Entry → Type 0
IsStop made = IsStopAfter made ⊎ IsStopAlone made

-- The volume stopped in an event of its history, and what a crash may leave of it is left while that
-- event goes on: an image recovers to what is committed by the history before it, perhaps with the unit
-- whose COMMIT was answered 905 in it.
pub record HasStopped (geometry : Geometry) (number : ℕ) (opening : State) (entries : List Entry)
    (now : Seen) : Type 0 where
  pub before : List Entry
  pub made : List Entry
  pub later : List Entry
  pub entries_are : entries ≡ before ++ (made ++ later)
  pub stop : IsStop made
  pub left : (image : Image) → Left now image
      → IsLeftWhile geometry number opening before made image

-- a fault that stops the volume comes right after a request that is refused for it, or alone, of
-- the utilities
abbrev pub FaultsFollow : List Entry → Type 0
FaultsFollow made = IsStop made ⊎ AreFaultless made

-- What the utilities enter in an event: a definition, or an edit of the catalog, or either of them in
-- which a write failed, or stages of the catalog, or nothing.
abbrev pub ChangesCatalogAtMost : List Entry → Type 0
ChangesCatalogAtMost made = ((part : PartNo) × (area : AreaNo) × (bytes : List ℕ)
    × IsDefinition part area bytes made)
    ⊎ (((edit : CatalogEdit) × IsEdit edit made) ⊎ (IsStop made ⊎ All IsCatalogStage made))

-- It answered one request at most, beside those with which a definition or an edit begins.
pub record AnswersOnce (made : List Entry) : Type 0 where
  pub first : List Entry
  pub rest : List Entry
  pub made_are : made ≡ first ++ rest
  pub begun : AreBegun first
  pub once : length (requests_in rest) ≤ 1

-- An event, with the blocks and the history as it left them: all that it entered is of the deck
-- that asked for it, and the utilities do nothing but change the catalog; it answered one request at
-- most, or defined a cluster, or edited the catalog; it touched no block, or each image at each moment
-- of it is as above; and it
-- leaves the volume at rest, with the items of the state wherever no live unit changed them, and
-- each part as the owner of the areas that the history gives it, and with an interval more for each
-- split of one that it entered. A fault is entered after a request
-- alone that was answered 905. Where a COMMIT was answered 0, its unit is in every image that a
-- crash may leave from then on. A request is answered 904 only where a read failed in its event,
-- and 905, so that the volume stops, only where a write or a sync failed in it; and 28 only where
-- its part lacks room. No failure is hidden: an event in which the volume didn't stop is one in
-- which no write or sync failed, and where besides no request was answered 904 no read did, unless
-- the utilities asked and entered nothing: the line of their command has the fault.
pub record IsEvent {B : Type 0} (seen : B → Seen) (counts : B → Faults) (geometry : Geometry)
    (number : ℕ) (opening : State) (event : Event B) (now : B) (entries : List Entry) : Type 0 where
  pub entries_are : entries ≡ event.entries ++ event.made
  pub own : All (λ (entry : Entry). entry.unit.deck ≡ event.deck) event.made
  pub utilities : event.deck ≡ 0 → ChangesCatalogAtMost event.made
  pub once : AnswersOnce event.made
  pub during : (now ≡ event.blocks) ⊎ Guards (seen event.blocks) (seen now)
      (IsLeftWhile geometry number opening event.entries event.made)
  pub after : LeavesAtRest seen geometry number opening now entries
  pub items : KeepsAtRest seen geometry number opening now entries
  pub owners : OwnsAtRest seen geometry opening now entries
  pub splits : SplitsAtRest seen geometry opening event now entries
  pub faults : FaultsFollow event.made
  pub lasting : HaveDoneCommit event.made → (image : Image) → Left (seen now) image
      → RecoversTo geometry number (state_of geometry opening entries) [] image
  pub refused_read : (counts event.blocks).reads + read_faults event.made ≤ (counts now).reads
  pub failed_write : IsStop event.made → (counts event.blocks).writes < (counts now).writes
  pub unfailed : AreFaultless event.made → (counts now).writes ≡ (counts event.blocks).writes
  pub unread : AreFaultless event.made → read_faults event.made ≡ 0
      → ((counts now).reads ≡ (counts event.blocks).reads)
      ⊎ ((event.deck ≡ 0) × (event.made ≡ []))
  pub lacks : LackAreas geometry (state_of geometry opening event.entries) (seen event.blocks)
      event.made

-- These are the events, the last one first, from these blocks and no history on.
abbrev pub AreEvents : {B : Type 0} → (B → Seen) → (B → Faults) → Geometry → ℕ → State → B → B
    → List Entry → List (Event B) → Type 0
AreEvents seen counts geometry number opening first now entries [] =
    (now ≡ first) × (entries ≡ [])
AreEvents seen counts geometry number opening first now entries (event ∷ earlier) =
    IsEvent seen counts geometry number opening event now entries
    × AreEvents seen counts geometry number opening first event.blocks event.entries earlier

-- The run from these blocks on is such events.
pub record IsOfEvents {B : Type 0} (seen : B → Seen) (counts : B → Faults) (geometry : Geometry)
    (number : ℕ) (opening : State) (first now : B) (entries : List Entry) : Type 0 where
  pub events : List (Event B)
  pub are : AreEvents seen counts geometry number opening first now entries events
