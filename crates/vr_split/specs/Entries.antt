-- What always holds of the entries of weights.
use Rattle.std.specs.Prelude.{◌≡◌, ◌<◌, ◌≤◌, ◌^◌, ℕ, List, All, length, map, take}
use Rattle.vr_space.specs.Room.{Lengths, AscendLengths}
use Rattle.vr_split.specs.declared.weights.Entry.{Entry}

-- the places of entries, with their lengths
abbrev pub lengths_seen : List Entry → Lengths
lengths_seen entries = map (λ (entry : Entry). (entry.place.place, entry.longest)) entries

-- each entry has room for a place of this many bytes
abbrev pub HaveBytes : ℕ → List Entry → Type 0
HaveBytes bytes entries = All (λ (entry : Entry). entry.place.room ≡ bytes) entries

-- the first entries, this many, are used, at ascending places, and each has room for a place
pub record AreReady (entries : List Entry) (used bytes : ℕ) : Type 0 where
  pub within : used ≤ length entries
  pub few : length entries < 2 ^ 31
  pub room : HaveBytes bytes entries
  pub ascend : AscendLengths (lengths_seen (take used entries))
