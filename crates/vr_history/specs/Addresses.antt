-- What holds of the addresses of an entry-sequenced data set over a history (DFSMS Using Data Sets,
-- relative byte addresses): a record keeps its address, also once it is withdrawn. That no address
-- is given again is this project's own rule.
use Rattle.std.specs.Prelude.{◌≡◌, ◌⊎◌, ◌<◌, ◌*◌, ℕ, List, [], ◌∷◌, ◌++◌, Option, Some, None, ◌==◌}
use Rattle.std.specs.Prelude.{All, map, flat_map, nat_eq, option_map, option_to_list, if◌then◌else◌}
use Rattle.std.specs.Int.{w32, to_be_bytes}
use Rattle.std.specs.List.{IsDistinct}
use Rattle.vr_catalog.specs.Catalog.{definition_of}
use Rattle.vr_types.specs.Content.{Content, Placed}
use Rattle.vr_types.specs.Geometry.{IsAllowed, area_count}
use Rattle.vr_types.specs.declared.geometry.Geometry.{Geometry}
use Rattle.vr_types.specs.declared.reply.Reply.{Reply}
use Rattle.vr_types.specs.declared.reply.Reply.TheVariants.{Done, Refused}
use Rattle.vr_types.specs.declared.request.Request.{Request}
use Rattle.vr_types.specs.declared.request.Request.TheVariants.{Get, Point, Add, Update, Erase}
use Rattle.vr_types.specs.declared.request.Request.TheVariants.{EndReq, Commit, Backout}
use Rattle.vr_types.specs.declared.unit.Kind.TheVariants.{Entry as EntrySequenced}
use Rattle.vr_history.specs.declared.entry.Entry.{Entry}
use Rattle.vr_history.specs.declared.entry.What.{What}
use Rattle.vr_history.specs.declared.entry.What.TheVariants.{Asked, Undone, Claimed, Split, Faulted}
use Rattle.vr_history.specs.Address.{last_interval, last_item, length_of, next_address}
use Rattle.vr_history.specs.Address.{number_of}
use Rattle.vr_history.specs.Legal.{AreSteps}
use Rattle.vr_history.specs.Opened.{catalog_of}
use Rattle.vr_history.specs.State.{Owned, State, opening_state}
use Rattle.vr_history.specs.Step.{state_after}

-- the address that a request on the part is answered with, where it is an add that is done
abbrev pub address_by : ℕ → Request → Option (List ℕ) → List (List ℕ)
address_by part (Add file named bytes) place =
    if file.base.0 == part then option_to_list place else []
address_by part (Get file find update integrity) place = []
address_by part (Point file find) place = []
address_by part (Update file bytes) place = []
address_by part (Erase file) place = []
address_by part (EndReq file) place = []
address_by part Commit place = []
address_by part Backout place = []

abbrev pub address_answered : ℕ → Request → Reply → List (List ℕ)
address_answered part request (Done feedback place bytes) = address_by part request place
address_answered part request (Refused refusal) = []

abbrev pub address_in : ℕ → What → List (List ℕ)
address_in part (Asked request reply) = address_answered part request reply
address_in part (Undone of_part place) = []
address_in part (Claimed of_part area) = []
address_in part (Split of_part) = []
address_in part (Faulted fault) = []

-- the addresses that entries give to records of the part, in order, whatever becomes of the records
abbrev pub addresses_given : ℕ → List Entry → List (List ℕ)
addresses_given part entries = flat_map (λ entry. address_in part entry.what) entries

-- the interval comes after the one in which the last item ends, if there is one
abbrev pub IsLater : ℕ → Option Placed → ℕ → Type 0
IsLater size None interval = Unit {0}
IsLater size (Some last) interval =
    last_interval size (number_of last.0) (length_of last.1) < interval

-- an interval of the volume's areas begins at the place, later than those of the items before it
pub record BeginsLater (geometry : Geometry) (before : Content) (place : List ℕ) : Type 0 where
  pub interval : ℕ
  pub within : interval < area_count geometry * geometry.area
  pub later : IsLater geometry.size (last_item before) interval
  pub at : place ≡ to_be_bytes w32 (interval * geometry.size)

-- An item stands where the next record went after those before it, or where a later interval
-- begins, and ends within the areas. Intervals are missing where a crash lost the block of records
-- whose unit had not ended, and kept a later one. A block is written whole: within an interval the
-- items follow one another from its start.
pub record Follows (geometry : Geometry) (before : Content) (placed : Placed) : Type 0 where
  pub at : (placed.0 ≡ to_be_bytes w32 (next_address geometry.size before (length_of placed.1)))
      ⊎ BeginsLater geometry before placed.0
  pub ends : last_interval geometry.size (number_of placed.0) (length_of placed.1) < area_count
      geometry * geometry.area
  pub some : 0 < length_of placed.1

abbrev pub AllFollow : Geometry → Content → Content → Type 0
AllFollow geometry before [] = Unit {0}
AllFollow geometry before (placed ∷ rest) = Follows geometry before placed
    × AllFollow geometry (before ++ placed ∷ []) rest

-- the items of an entry-sequenced data set, in the order in which they were added
abbrev pub AreAddressed : Geometry → Content → Type 0
AreAddressed geometry content = AllFollow geometry [] content

-- each owned area is one of the volume's, and has one part
pub record AreOwned (geometry : Geometry) (owned : List Owned) : Type 0 where
  pub within : All (λ this. this.area < area_count geometry) owned
  pub once : IsDistinct nat_eq (map (λ this. this.area) owned)

-- what an opening has to meet: an empty data set in a volume that owns no area does
pub record IsInOrder (geometry : Geometry) (content : Content) (owned : List Owned) : Type 0 where
  pub addressed : AreAddressed geometry content
  pub areas : AreOwned geometry owned

-- the catalog has the part as an entry-sequenced data set, in each state that an entry meets
abbrev pub IsEntrySequenced : ℕ → State → Type 0
IsEntrySequenced part state =
    option_map (λ definition. definition.kind) (definition_of (catalog_of state) part) ≡ Some
    EntrySequenced

abbrev pub IsEntrySequencedThroughout : Geometry → ℕ → State → List Entry → Type 0
IsEntrySequencedThroughout geometry part state [] = Unit {0}
IsEntrySequencedThroughout geometry part state (entry ∷ entries) = IsEntrySequenced part state
    × IsEntrySequencedThroughout geometry part (state_after geometry state entry) entries

-- a history of a volume with an entry-sequenced data set, from an opening that is in order
pub record RunsOver (geometry : Geometry) (part : ℕ) (contents : ℕ → Content) (owned : List Owned)
    (entries : List Entry) : Type 0 where
  pub allowed : IsAllowed geometry
  pub opens : IsInOrder geometry (contents part) owned
  pub steps : AreSteps geometry (opening_state contents owned) entries
  pub throughout : IsEntrySequencedThroughout geometry part (opening_state contents owned) entries
