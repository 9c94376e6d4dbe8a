-- What an event of a request adds to the history of its volume, and what it leaves of the rest that
-- the record file has in memory. The rules are this project's own.
use Rattle.std.specs.Prelude.{◌≡◌, ◌⊎◌, ◌+◌, ◌≤◌, ◌==◌, ℕ, IsTrue, false, List, [], ◌∷◌, ◌++◌, max}
use Rattle.std.specs.Prelude.{Some}
use Rattle.vr_types.specs.declared.fault.DeviceFault.TheVariants.{Write}
use Rattle.vr_types.specs.declared.reply.Refusal.TheVariants.{WriteFault}
use Rattle.vr_types.specs.declared.reply.Reply.{Reply}
use Rattle.vr_types.specs.declared.reply.Reply.TheVariants.{Refused}
use Rattle.vr_types.specs.declared.request.Request.{Request}
use Rattle.vr_types.specs.declared.unit.AreaNo.{AreaNo}
use Rattle.vr_types.specs.declared.unit.PartNo.{PartNo}
use Rattle.vr_types.specs.declared.unit.Unit.{Unit as UnitOfRecovery}
use Rattle.vr_history.specs.Legal.{is_backout}
use Rattle.vr_history.specs.Merged.{IsStamped, last_stamp}
use Rattle.vr_history.specs.declared.entry.Entry.{Entry}
use Rattle.vr_history.specs.declared.entry.What.TheVariants.{Asked, Claimed, Faulted, Split}
use Rattle.vr_history.specs.declared.entry.What.TheVariants.{Undone}
use Rattle.vr_record_file.specs.Now.{FileNow, has_deck, number_of}
use Rattle.vr_event.specs.declared.act.Act.{Act}
use Rattle.vr_event.specs.declared.act.Act.TheVariants.{Again, Done}

-- each stamp is one above the one before, and the first one above this one: none is left out
abbrev pub AreNext : ℕ → List Entry → Type 0
AreNext before [] = Unit {0}
AreNext before (entry ∷ entries) = (entry.stamp ≡ before + 1) × AreNext entry.stamp entries

-- A write failed for a request, which is refused for it: the fault, which stops the volume, is the
-- one entry more, of the same unit and line.
pub record IsFaulted (unit : UnitOfRecovery) (line : ℕ) (reply : Reply) (rest : List Entry) : Type 0
  where
    pub refused : reply ≡ Refused WriteFault
    pub fault : Entry
    pub is : rest ≡ fault ∷ []
    pub unit_is : fault.unit ≡ unit
    pub line_is : fault.line ≡ line
    pub what_is : fault.what ≡ Faulted Write

-- After the entry of a request there is none; or, where it is refused for a write that failed, the
-- fault. So no fault follows a request that is done.
abbrev pub MayFollow : UnitOfRecovery → ℕ → Reply → List Entry → Type 0
MayFollow unit line reply rest = (rest ≡ []) ⊎ IsFaulted unit line reply rest

-- The request was entered, with some reply.
pub record HasAsked (unit : UnitOfRecovery) (line : ℕ) (request : Request) (made : List Entry)
    : Type 0 where
  pub reply : Reply
  pub entry : Entry
  pub rest : List Entry
  pub is : made ≡ entry ∷ rest
  pub unit_is : entry.unit ≡ unit
  pub line_is : entry.line ≡ line
  pub what_is : entry.what ≡ Asked request reply
  pub follows : MayFollow unit line reply rest

-- an entry of a step, of the request on this line: that an interval was split, that an area was given to a part, or that a BACKOUT
-- put a before-image back
abbrev pub IsStepFor : UnitOfRecovery → ℕ → Request → Entry → Type 0
IsStepFor unit line request entry = (entry.unit ≡ unit) × (entry.line ≡ line)
    × (((part : PartNo) × (entry.what ≡ Split part))
    ⊎ ((part : PartNo) × (area : AreaNo) × (entry.what ≡ Claimed part area))
    ⊎ (IsTrue (is_backout request) × (part : PartNo) × (place : List ℕ)
    × (entry.what ≡ Undone part place)))

-- A step was done, and the request wasn't entered.
abbrev pub HasStep : UnitOfRecovery → ℕ → Request → List Entry → Type 0
HasStep unit line request made = (made ≡ [])
    ⊎ ((entry : Entry) × (made ≡ entry ∷ []) × IsStepFor unit line request entry)

abbrev pub MadeBy : Act → UnitOfRecovery → ℕ → Request → List Entry → Type 0
MadeBy Done unit line request made = HasAsked unit line request made
MadeBy (Again given) unit line request made = HasStep unit line request made

-- until the request is entered, the numbers of units stay
abbrev pub NumbersStay : Act → FileNow → FileNow → Type 0
NumbersStay Done old new = Unit {0}
NumbersStay (Again given) old new = new.numbers ≡ old.numbers

-- The fault of a write is the last of two entries, and stops the volume.
pub record HasStopped (made : List Entry) (new : FileNow) : Type 0 where
  pub entry : Entry
  pub fault : Entry
  pub is : made ≡ entry ∷ fault ∷ []
  pub what_is : fault.what ≡ Faulted Write
  pub stopped : new.stopped ≡ Some fault.stamp

-- The entries that an event added, by how it ended. Their stamps are those that come next, above
-- those of the history and above the one that was handed in; the numbers of other decks' units
-- stay; and the volume stops where a fault is entered, and only there.
pub record HasMade (act : Act) (after : ℕ) (unit : UnitOfRecovery) (line : ℕ) (request : Request)
    (old new : FileNow) : Type 0 where
  pub made : List Entry
  pub entries : new.entries ≡ old.entries ++ made
  pub by : MadeBy act unit line request made
  pub next : AreNext (max (last_stamp 0 old.entries) after) made
  pub stamped : IsStamped (max (last_stamp 0 old.entries) after) made
  pub last : last_stamp 0 new.entries ≤ max (last_stamp 0 old.entries) after + 2
  pub stops : (new.stopped ≡ old.stopped) ⊎ HasStopped made new
  pub geometry : new.geometry ≡ old.geometry
  pub catalog : new.catalog ≡ old.catalog
  pub decks : (deck : ℕ) → has_deck deck new.numbers ≡ has_deck deck old.numbers
  pub numbers : NumbersStay act old new
  pub others : (other : ℕ) → (other == unit.deck) ≡ false
      → number_of new.numbers other ≡ number_of old.numbers other
