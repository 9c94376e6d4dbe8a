-- What a command of IDCAMS enters in the histories of volumes: entries of deck 0, which are those
-- of the utilities, on the line of the command. The rules are this project's own.
use Rattle.std.specs.Prelude.{◌≡◌, ◌⊎◌, ◌<◌, ℕ, List, ◌++◌, All, Contains, get_or, length, map, max}
use Rattle.vr_history.specs.Merged.{IsStamped, last_stamp, merged}
use Rattle.vr_history.specs.declared.entry.Entry.{Entry}
use Rattle.vr_trace.specs.Growing.{ComeNext, FollowsOne, GainAbove, IsNext}
use Rattle.vr_trace.specs.Laws.{AreRising, of_deck}

-- an entry of the utilities on one of these lines
abbrev pub IsOfUtilities : List ℕ → Entry → Type 0
IsOfUtilities lines entry = (entry.unit.deck ≡ 0) × Contains lines entry.line

-- an entry of the command on this line
abbrev pub IsOfCommand : ℕ → Entry → Type 0
IsOfCommand line entry = (entry.unit.deck ≡ 0) × (entry.line ≡ line)

-- The entries of an event of the command on this line, at the stamps that come next after the
-- greater of the volume's last one and this one.
pub record HasEntered (line after : ℕ) (old new : List Entry) : Type 0 where
  pub made : List Entry
  pub entries : new ≡ old ++ made
  pub own : All (IsOfCommand line) made
  pub stamped : IsStamped (max (last_stamp 0 old) after) made
  pub next : All (λ (entry : Entry). IsNext (max (last_stamp 0 old) after) entry
      ⊎ FollowsOne made entry) made

-- The volume is a later state, and its history grew by entries of the utilities on these lines.
pub record IsRunOn {V : Type 0} (history : V → List Entry) (goes : V → V → Type 0)
    (lines : List ℕ) (old new : V) : Type 0 where
  pub is_later : goes old new
  pub made : List Entry
  pub grew : history new ≡ history old ++ made
  pub own : All (IsOfUtilities lines) made

-- The stamps of each history rise, and so do, over all volumes, those of the utilities' entries.
pub record AreRisen {V : Type 0} (history : V → List Entry) (volumes : List V) : Type 0 where
  pub each : All (λ (volume : V). IsStamped 0 (history volume)) volumes
  pub utilities : AreRising (of_deck 0 (merged (map history volumes)))

-- So it is of each volume; what they gained comes after all that any of them had, and no stamp is
-- left out; and where the stamps of the utilities rose over all volumes, they do.
pub record AreRunOn {V : Type 0} (history : V → List Entry) (goes : V → V → Type 0)
    (lines : List ℕ) (old new : List V) : Type 0 where
  pub count : length new ≡ length old
  pub each : (place : ℕ) (volume : V) → place < length old
      → IsRunOn history goes lines (get_or old place volume) (get_or new place volume)
  pub above : GainAbove history old new
  pub next : ComeNext history old new
  pub rising : AreRisen history old → AreRisen history new
