-- What an event of a request leaves of the record file: the entry of the request, or that of a step
-- of it. The rules are this project's own.
use Rattle.std.specs.Prelude.{◌≡◌, ◌⊎◌, ◌<◌, ◌≤◌, ◌==◌, ℕ, IsTrue, false, List, [], ◌∷◌}
use Rattle.vr_types.specs.Faults.{Faults}
use Rattle.vr_types.specs.Image.{Image}
use Rattle.vr_types.specs.declared.geometry.Geometry.{Geometry}
use Rattle.vr_types.specs.declared.request.Request.{Request}
use Rattle.vr_types.specs.declared.request.Request.TheVariants.{Commit}
use Rattle.vr_types.specs.declared.unit.AreaNo.{AreaNo}
use Rattle.vr_types.specs.declared.unit.PartNo.{PartNo}
use Rattle.vr_types.specs.declared.unit.Unit.{Unit as UnitOfRecovery}
use Rattle.vr_history.specs.Legal.{is_backout}
use Rattle.vr_history.specs.State.{State}
use Rattle.vr_history.specs.Step.{IsOfUnit}
use Rattle.vr_history.specs.declared.entry.What.TheVariants.{Claimed, Split, Undone}
use Rattle.vr_record_file.specs.Now.{EndsUnit, FileNow, failed, is_undoing, state_now, with_event}
use Rattle.vr_volume.specs.Crashes.{RecoversTo}
use Rattle.vr_event.specs.Cause.{IsEnteredFor}
use Rattle.vr_event.specs.EndedFile.{HasEnded, IsEnded}
use Rattle.vr_event.specs.declared.act.Act.{Act}
use Rattle.vr_event.specs.declared.act.Act.TheVariants.{Again, Done}

-- A step was done, and the request wasn't entered: nothing was, or that an interval was split, or
-- that an area was given to a part, or that a before-image was put back for a BACKOUT.
abbrev pub HasStepped : ℕ → UnitOfRecovery → ℕ → Request → FileNow → FileNow → Type 0
HasStepped after unit line request old new = (new ≡ old)
    ⊎ ((part : PartNo) × (new ≡ with_event after unit line (Split part) old))
    ⊎ ((part : PartNo) × (area : AreaNo) × (new ≡ with_event after unit line (Claimed part area) old))
    ⊎ (IsTrue (is_backout request) × (part : PartNo) × (place : List ℕ)
    × (new ≡ with_event after unit line (Undone part place) old))

-- The request was entered: with a reply, beside which only locks and positions changed; as the end
-- of its unit, and no fault was counted; or a write failed, which stops the volume, once the locks of
-- the request were taken or before. A reply is a fault of the device only where the count of that
-- fault rose.
abbrev pub IsAnsweredFor : Faults → Faults → ℕ → UnitOfRecovery → ℕ → Request → FileNow → FileNow
    → Type 0
IsAnsweredFor before now after unit line request old new =
    IsEnteredFor before now after unit line request old new
    ⊎ (EndsUnit request × IsEnded after unit line request old new × (now ≡ before))
    ⊎ ((new ≡ failed after unit line request (record old { locks = new.locks }))
    × (before.writes < now.writes))

abbrev pub ByAct : Act → Faults → Faults → ℕ → UnitOfRecovery → ℕ → Request → FileNow → FileNow
    → Type 0
ByAct Done before now after unit line request old new =
    IsAnsweredFor before now after unit line request old new
ByAct (Again given) before now after unit line request old new =
    (given ≡ request) × HasStepped after unit line request old new × (now ≡ before)

-- An event of a request: what was entered is by what it came to, and no count of faults fell. No
-- fault is hidden: where the volume didn't stop in it no write or sync failed; and where besides
-- its reply isn't that a read failed, no read did, by what it came to.
pub record IsActed (before now : Faults) (act : Act) (after : ℕ) (unit : UnitOfRecovery) (line : ℕ)
    (request : Request) (old new : FileNow) : Type 0 where
  pub reads : before.reads ≤ now.reads
  pub writes : before.writes ≤ now.writes
  pub by : ByAct act before now after unit line request old new
  pub quiet : new.stopped ≡ old.stopped → now.writes ≡ before.writes

-- A request of a deck may be asked: it is of the deck's current unit, and where that has begun to
-- undo it is a BACKOUT.
pub record MayAct (opening : State) (file : FileNow) (unit : UnitOfRecovery) (request : Request)
    : Type 0 where
  pub current : IsOfUnit (state_now opening file) unit
  pub of_deck : (unit.deck == 0) ≡ false
  pub goes_on : (is_undoing unit file.entries ≡ false) ⊎ IsTrue (is_backout request)

-- What an image recovers to while an event goes on: what is committed in the state before it; or, as
-- a COMMIT ends its unit, or fails to, what is committed where the unit counts.
abbrev pub IsLeftIn : Geometry → ℕ → State → ℕ → UnitOfRecovery → ℕ → Request → FileNow → FileNow
    → Image → Type 0
IsLeftIn geometry number state after unit line request old new image =
    RecoversTo geometry number state [] image
    ⊎ ((request ≡ Commit) × HasEnded after unit line request old new
    × RecoversTo geometry number state (unit ∷ []) image)
