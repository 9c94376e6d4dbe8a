-- What readers of the record file expect of it, stated of its words.
use Rattle.std.specs.Prelude.{◌≡◌, ℕ, Bool, true, false, cond, List, [], ◌∷◌, Option, Some, None}
use Rattle.std.specs.Prelude.{All}
use Rattle.vr_types.specs.Locks.{Conflict, Lock, same_unit}
use Rattle.vr_catalog.specs.Catalog.{entries_in, parts_in}
use Rattle.vr_types.specs.Content.{Content, item_at}
use Rattle.vr_types.specs.declared.geometry.Geometry.{Geometry}
use Rattle.vr_types.specs.declared.position.Position.{Position}
use Rattle.vr_types.specs.declared.position.Stand.{Stand}
use Rattle.vr_types.specs.declared.reply.Refusal.{Refusal}
use Rattle.vr_types.specs.declared.request.FileRef.{FileRef}
use Rattle.vr_types.specs.declared.request.Request.{Request}
use Rattle.vr_types.specs.declared.unit.Unit.{Unit as UnitOfRecovery}
pub use Rattle.vr_altkey.specs.Placing.{record_in}
use Rattle.vr_history.specs.declared.entry.Entry.{Entry}
use Rattle.vr_history.specs.Case.{Case, file_of}
use Rattle.vr_history.specs.Committed.{counted_entry, settled_item}
use Rattle.vr_history.specs.Effects.{has_part}
use Rattle.vr_history.specs.Merged.{Numbered, comes_before}
use Rattle.vr_history.specs.Opened.{catalog_of}
use Rattle.vr_history.specs.State.{State}
use Rattle.vr_history.specs.Step.{stand_refused, state_after}

-- all of a state but where files stand and what they hold
pub record SameButPositions (old new : State) : Type 0 where
  pub contents : new.contents ≡ old.contents
  pub locks : new.locks ≡ old.locks
  pub befores : new.befores ≡ old.befores
  pub logged : new.logged ≡ old.logged
  pub used : new.used ≡ old.used
  pub numbers : new.numbers ≡ old.numbers
  pub owned : new.owned ≡ old.owned
  pub stopped : new.stopped ≡ old.stopped

-- where a file stands stays, where nothing else is said
abbrev pub stand_or : Option Stand → Stand → Stand
stand_or None stand = stand
stand_or (Some to) stand = to

-- a refused request on a file: the file holds nothing, and stands where the refusal says
abbrev pub position_refused : Request → Refusal → Position → Position
position_refused request refusal position =
    record { stand = stand_or (stand_refused request refusal) position.stand; held = None }

pub record OnlyRefused (case : Case) (refusal : Refusal) (new : State) : Type 0 where
  pub rest : SameButPositions case.state new
  pub file : (this : FileRef) → file_of case.request ≡ Some this
      → new.positions case.unit.deck this.slot ≡ position_refused case.request refusal
      (case.state.positions case.unit.deck this.slot)
  pub other_files : (this : FileRef) (deck slot : ℕ) → file_of case.request ≡ Some this
      → (deck ≡ case.unit.deck → slot ≡ this.slot → ⊥)
      → new.positions deck slot ≡ case.state.positions deck slot
  pub no_file : file_of case.request ≡ None → new.positions ≡ case.state.positions

-- no lock of the unit
abbrev pub HasNoLock : UnitOfRecovery → List Lock → Type 0
HasNoLock unit locks = All (λ lock. same_unit unit lock.unit ≡ false) locks

-- the lock conflicts with none of the others
abbrev pub ConflictsWithNone : Lock → List Lock → Type 0
ConflictsWithNone lock [] = Unit {0}
ConflictsWithNone lock (other ∷ others) = (Conflict lock other → ⊥) × ConflictsWithNone lock others

abbrev pub NoTwoConflict : List Lock → Type 0
NoTwoConflict [] = Unit {0}
NoTwoConflict (lock ∷ locks) = ConflictsWithNone lock locks × NoTwoConflict locks

-- each comes before the next, or in its place
abbrev pub AreMerged : List Numbered → Type 0
AreMerged [] = Unit {0}
AreMerged (this ∷ []) = Unit {0}
AreMerged (this ∷ next ∷ rest) = (comes_before this next ≡ true) × AreMerged (next ∷ rest)

-- The part is in the catalog throughout a history: in that of each state, and in that of the
-- contents that count.
abbrev pub HasPart : ℕ → State → (ℕ → Content) → Type 0
HasPart part state contents = (has_part (parts_in (catalog_of state)) part ≡ true)
    × (has_part (parts_in (entries_in (contents 0))) part ≡ true)

abbrev pub HasPartThroughout : Geometry → ℕ → (UnitOfRecovery → Bool) → State → (ℕ → Content)
    → List Entry → Type 0
HasPartThroughout geometry part counts state contents [] = Unit {0}
HasPartThroughout geometry part counts state contents (entry ∷ entries) =
    HasPart part state contents
    × HasPartThroughout geometry part counts (state_after geometry state entry)
    (cond (counts entry.unit) (counted_entry geometry state entry contents) contents) entries

-- the record of some contents at a place, and the record that a state settles on there: its own, or
-- the one that a unit which doesn't count keeps
abbrev pub record_now : (ℕ → Content) → ℕ → List ℕ → Option (List ℕ)
record_now contents part place = record_in (item_at (contents part) place)

abbrev pub settled_record : (UnitOfRecovery → Bool) → State → ℕ → List ℕ → Option (List ℕ)
settled_record counts state part place = record_in (settled_item counts state part place)
