-- A volume between two events: its blocks are safe by its log, and the log, the before-images and
-- the parts are those of the state of its record file. The rules are this project's own.
use Rattle.std.specs.Prelude.{◌≡◌, ◌≢◌, ℕ, false, List, Option, Some, None}
use Rattle.vr_types.specs.Content.{Item, item_at}
use Rattle.vr_types.specs.Seen.{Seen}
use Rattle.vr_types.specs.declared.geometry.Geometry.{Geometry}
use Rattle.vr_space.specs.Known.{Known}
use Rattle.vr_space.specs.Owners.{Owners}
use Rattle.vr_space.specs.Part.{HasKeptRoom, IsAtRest, IsOn, Knows, MayHold, OwnsClaimed, Shape}
use Rattle.vr_space.specs.Part.{item_of, left_by, part_no}
use Rattle.vr_attach.specs.Owning.{IsPastLog}
use Rattle.vr_log.specs.LogNow.{IsForced, LogNow}
use Rattle.vr_log.specs.Standing.{LogStands}
use Rattle.vr_history.specs.State.{BeforeImage, State}
use Rattle.vr_volume.specs.Committed.{HasLogged, IsLaidState, committed_by}
use Rattle.vr_volume.specs.Laid.{shape_by}
use Rattle.vr_volume.specs.PutBack.{images_of, lengths_kept, oldest}
use Rattle.vr_volume.specs.Safe.{IsSafe}
use Rattle.vr_volume.specs.Steps.{Changing}

-- The volume, its log and what is kept of units. Every record of the log is forced.
pub record IsVolumeAtRest (geometry : Geometry) (number : ℕ) (owners : Owners) (log : LogNow)
    (images : List BeforeImage) (state : State) (now : Seen) : Type 0 where
  pub safe : IsSafe geometry number owners log (committed_by state) now
  pub stands : LogStands log now
  pub sound : log.broken ≡ false
  pub forced : IsForced log
  pub laid : IsLaidState geometry state
  pub logged : HasLogged log state
  pub kept : images ≡ images_of log.records

-- One part of it: it is laid so, reads as the state has it, and has room for what is kept. The area
-- that its split under way claimed is its own. Off the places of before-images a crash leaves what
-- the state has, what was withdrawn too.
pub record IsPartAtRest (geometry : Geometry) (owners : Owners) (images : List BeforeImage)
    (state : State) (shape : Shape) (known : Known) (now : Seen) : Type 0 where
  pub laid : shape_by geometry (state.contents 0) (part_no shape).0 ≡ Some shape
  pub on : IsOn shape now
  pub rests : IsAtRest shape owners now
  pub claimed : OwnsClaimed shape owners known
  pub room : HasKeptRoom shape (lengths_kept images (part_no shape).0) now
  pub knows : Knows shape known now
  pub reads : (place : List ℕ) → item_of shape now.cur place
      ≡ item_at (state.contents (part_no shape).0) place
  pub firm : (place : List ℕ) (found : Option Item)
      → oldest images (part_no shape).0 place ≡ None → MayHold shape now.may place found
      → found ≡ item_at (state.contents (part_no shape).0) place

-- Off this place, places of the part may hold no more than before.
abbrev pub HoldsNoMore : Shape → List ℕ → Seen → Seen → Type 0
HoldsNoMore shape at old new = (place : List ℕ) (found : Option Item) → place ≢ at
    → MayHold shape new.may place found → MayHold shape old.may place found

-- The part is at rest, whichever blocks are its own, as long as they are past the log and the area
-- that its split under way claimed is among them.
abbrev pub RestsPastLog : Geometry → Shape → Known → Seen → Type 0
RestsPastLog geometry shape known now = (owners : Owners) × IsPastLog geometry owners
    × IsAtRest shape owners now × OwnsClaimed shape owners known

-- What a call that changes a place of the state is given is what the change makes of it: a record
-- that stands there, or what such a part leaves of the item that is there where it is taken away.
pub record IsGivenFor (state : State) (change : Changing) (shape : Shape) (place : List ℕ)
    (found : Option (List ℕ)) : Type 0 where
  pub part : part_no shape ≡ change.part
  pub place_is : place ≡ change.place
  pub item : change.new ≡ left_by shape (item_at (state.contents change.part.0) place) found
