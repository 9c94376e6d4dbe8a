-- What a crash leaves of a volume while a job runs on it: an image recovers to what is committed by
-- some first entries of the volume's history, of which the entry after them may be a commit that
-- counts already. The rules are this project's own.
use Rattle.std.specs.Prelude.{◌≡◌, ◌⊎◌, ℕ, List, [], ◌∷◌, ◌++◌, None}
use Rattle.vr_types.specs.Image.{Image}
use Rattle.vr_types.specs.declared.geometry.Geometry.{Geometry}
use Rattle.vr_types.specs.declared.reply.Refusal.TheVariants.{WriteFault}
use Rattle.vr_types.specs.declared.reply.Reply.TheVariants.{Done, Refused}
use Rattle.vr_types.specs.declared.request.Request.TheVariants.{Commit}
use Rattle.vr_types.specs.declared.unit.Unit.{Unit as UnitOfRecovery}
use Rattle.vr_history.specs.Legal.{state_of}
use Rattle.vr_history.specs.State.{State}
use Rattle.vr_history.specs.declared.entry.Entry.{Entry}
use Rattle.vr_history.specs.declared.entry.What.{What}
use Rattle.vr_history.specs.declared.entry.What.TheVariants.{Asked}
use Rattle.vr_volume.specs.Crashes.{RecoversTo}

-- a COMMIT that was answered 0
abbrev pub IsDoneCommit : What → Type 0
IsDoneCommit what = what ≡ Asked Commit (Done 0 None None)

-- a COMMIT that was done, or that a fault of a write refused
abbrev pub IsCommit : What → Type 0
IsCommit what = IsDoneCommit what ⊎ (what ≡ Asked Commit (Refused WriteFault))

-- one of these entries is a COMMIT that was answered 0
abbrev pub HaveDoneCommit : List Entry → Type 0
HaveDoneCommit [] = ⊥
HaveDoneCommit (entry ∷ entries) = IsDoneCommit entry.what ⊎ HaveDoneCommit entries

-- The units that are in their commit before these entries: none, or that of the first of them.
abbrev pub AreInCommit : List UnitOfRecovery → List Entry → Type 0
AreInCommit counted entries = (counted ≡ [])
    ⊎ ((entry : Entry) × (rest : List Entry) × (entries ≡ entry ∷ rest) × IsCommit entry.what
    × (counted ≡ entry.unit ∷ []))

-- the COMMIT as it is once it is done
abbrev pub as_done : Entry → Entry
as_done entry = record entry { what = Asked Commit (Done 0 None None) }

-- The image recovers to what is committed by some first entries of a history, before these ones:
-- perhaps with the unit that is in its commit then. Or, where that is a unit of the utilities, to what
-- is committed once its COMMIT is done, whatever it is answered: what a part had that goes with its
-- entry goes with that COMMIT.
pub data IsLeftAt (geometry : Geometry) (number : ℕ) (opening : State) (before after : List Entry)
    (image : Image) : Type 0 where
  Counted : (counted : List UnitOfRecovery) → AreInCommit counted after
      → RecoversTo geometry number (state_of geometry opening before) counted image
      → IsLeftAt geometry number opening before after image
  Ended : (entry : Entry) (rest : List Entry) → after ≡ entry ∷ rest → entry.unit.deck ≡ 0
      → IsCommit entry.what
      → RecoversTo geometry number (state_of geometry opening (before ++ as_done entry ∷ [])) []
      image
      → IsLeftAt geometry number opening before after image

-- So it is for some first entries of the history.
pub record IsLeftBy (geometry : Geometry) (number : ℕ) (opening : State) (entries : List Entry)
    (image : Image) : Type 0 where
  pub before : List Entry
  pub after : List Entry
  pub is : entries ≡ before ++ after
  pub left : IsLeftAt geometry number opening before after image
