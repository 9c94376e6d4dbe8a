-- Histories that grow at their end, for those who add entries to one; and what the order of
-- addresses rests on.
use Rattle.std.proofs.Common.{◌≡◌, ℕ, ◌<◌, List, [], ◌∷◌, ◌++◌, ◌-◌, suc, length, Some, slice_get}
use Rattle.std.proofs.Common.{refl, ap, ◌∙◌, arith}
use Rattle.vr_types.specs.declared.geometry.Geometry.{Geometry}
use Rattle.vr_history.specs.declared.entry.Entry.{Entry}
use Rattle.vr_history.specs.Legal.{AreSteps, state_of}
use Rattle.vr_history.specs.Merged.{IsStamped, last_stamp}
use Rattle.vr_history.specs.State.{State}
use Rattle.vr_history.specs.Step.{Step, state_after}
-- a unit is itself
pub use Rattle.vr_history.proofs.Same.{unit_self}
-- the intervals of a volume, and their bytes
pub use Rattle.vr_history.proofs.Laying.{intervals_of, volume_fits}
-- a place of four bytes is read as the number that it was made of
pub use Rattle.vr_history.proofs.AddressNumbers.{number_back}
-- a content with one item more at the end: its last item, and what its items of an interval take
pub use Rattle.vr_history.proofs.Laying.{begun_append, last_append}
-- the order of addresses goes by places and lengths
pub use Rattle.vr_history.proofs.Outlines.{length_at}
pub use Rattle.vr_history.proofs.Addressing.{lengths_addressed}

-- stamps rise on, where the new entry's is above the last
pub stamped-append : (before : ℕ) (entries : List Entry) (entry : Entry) → IsStamped before entries
    → last_stamp before entries < entry.stamp → IsStamped before (entries ++ entry ∷ [])
stamped-append before [] entry stamped rises = (rises, tt)
stamped-append before (first ∷ entries) entry stamped rises =
    (stamped.0, stamped-append first.stamp entries entry stamped.1 rises)

-- the last stamp is that of the new entry
pub last_stamp-append : (before : ℕ) (entries : List Entry) (entry : Entry)
    → last_stamp before (entries ++ entry ∷ []) ≡ entry.stamp
last_stamp-append before [] entry = refl
last_stamp-append before (first ∷ entries) entry = last_stamp-append first.stamp entries entry

-- the entry at the end has the last stamp
pub last_stamp-get : (before : ℕ) (entries : List Entry) (entry : Entry)
    → Some entry ≡ slice_get entries (length entries - 1) → entry.stamp ≡ last_stamp before entries
last_stamp-get before [] entry at_end = absurd (cc)
last_stamp-get before (only ∷ []) entry at_end = let same : entry ≡ only = cc in
    ap (λ (shown : Entry). shown.stamp) same
last_stamp-get before (first ∷ second ∷ rest) entry at_end =
    let place : length (first ∷ second ∷ rest) - 1 ≡ suc (length (second ∷ rest) - 1) =
    omega arith in
    last_stamp-get first.stamp (second ∷ rest) entry (at_end
    ∙ ap (λ n. slice_get (first ∷ second ∷ rest) n) place)

-- the state after one entry more
pub state_of-append : (geometry : Geometry) (state : State) (entries : List Entry) (entry : Entry)
    → state_of geometry state (entries
    ++ entry ∷ []) ≡ state_after geometry (state_of geometry state entries) entry
state_of-append geometry state [] entry = refl
state_of-append geometry state (first ∷ entries) entry =
    state_of-append geometry (state_after geometry state first) entries entry

-- one step more
pub steps-append : (geometry : Geometry) (state : State) (entries : List Entry) (entry : Entry)
    → AreSteps geometry state entries → Step geometry (state_of geometry state entries) entry
    → AreSteps geometry state (entries ++ entry ∷ [])
steps-append geometry state [] entry steps step = (step, tt)
steps-append geometry state (first ∷ entries) entry steps step =
    (steps.0, steps-append geometry (state_after geometry state first) entries entry steps.1 step)
