-- Histories of volumes that grow: which stamps come next. The rules are this project's own.
use Rattle.std.specs.Prelude.{◌≡◌, ◌⊎◌, ◌<◌, ◌≤◌, ◌+◌, ℕ, List, All, Contains, drop, get_or, length}
use Rattle.std.specs.Prelude.{map}
use Rattle.vr_history.specs.Merged.{Numbered, last_stamp}
use Rattle.vr_history.specs.declared.entry.Entry.{Entry}
use Rattle.vr_trace.specs.Code.{greatest}
use Rattle.vr_trace.specs.Laws.{history_at}
use Rattle.vr_trace.specs.Numbering.{with_volume}

-- the stamp of an entry comes next after this one
abbrev pub IsNext : ℕ → Entry → Type 0
IsNext stamp entry = entry.stamp ≡ stamp + 1

-- or next after that of one of these entries
abbrev pub FollowsOne : List Entry → Entry → Type 0
FollowsOne entries entry = (other : Entry) × Contains entries other × IsNext other.stamp entry

-- the greatest of the last stamps of volumes, 0 where nothing was entered
abbrev pub greatest_last : {V : Type 0} → (V → List Entry) → List V → ℕ
greatest_last {V} entries volumes = greatest (λ (volume : V). last_stamp 0 (entries volume)) volumes

-- the stamps of entries are at most this one
abbrev pub AreUpTo : ℕ → List Entry → Type 0
AreUpTo stamp entries = All (λ (entry : Entry). entry.stamp ≤ stamp) entries

-- or all above it
abbrev pub AreAbove : ℕ → List Entry → Type 0
AreAbove stamp entries = All (λ (entry : Entry). stamp < entry.stamp) entries

-- what a history that grew has more than it had
abbrev pub gained : List Entry → List Entry → List Entry
gained old new = drop (length old) new

-- the greatest of the last stamps is less than that of each entry that a volume gained
abbrev pub GainAbove : {V : Type 0} → (V → List Entry) → List V → List V → Type 0
GainAbove {V} entries old new = (place : ℕ) (volume : V) → place < length old
    → AreAbove (greatest_last entries old)
    (gained (entries (get_or old place volume)) (entries (get_or new place volume)))

-- It is no less than any stamp of the volumes as they were, too.
pub record ComeLater {V : Type 0} (entries : V → List Entry) (old new : List V) : Type 0 where
  pub had : All (λ (volume : V). AreUpTo (greatest_last entries old) (entries volume)) old
  pub gains : GainAbove entries old new

-- one of the entries of the volumes' histories, with its volume
abbrev pub IsEntered : List (List Entry) → Numbered → Type 0
IsEntered histories this = Contains (history_at histories this.volume) this.entry

-- An entry has the stamp that comes next after that of another one, of its volume or of its deck.
pub record FollowsOneOf (histories : List (List Entry)) (this : Numbered) : Type 0 where
  pub other : Numbered
  pub entered : IsEntered histories other
  pub next : IsNext other.entry.stamp this.entry
  pub shares : (other.volume ≡ this.volume) ⊎ (other.entry.unit.deck ≡ this.entry.unit.deck)

-- No stamp is left out: each entry that a volume gained has the one that comes next after the
-- greatest of the last stamps of the volumes as they were, or after that of an entry of its volume
-- or its deck.
abbrev pub ComeNext : {V : Type 0} → (V → List Entry) → List V → List V → Type 0
ComeNext {V} entries old new = (place : ℕ) (volume : V) (entry : Entry) → place < length old
    → Contains (gained (entries (get_or old place volume)) (entries (get_or new place volume)))
    entry
    → IsNext (greatest_last entries old) entry
    ⊎ FollowsOneOf (map entries new) (with_volume place entry)
