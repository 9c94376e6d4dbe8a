-- A place of the table. It is this project's own.
use Rattle.std.specs.Prelude.{◌≡◌, ◌<◌, ◌∷◌, ◌++◌, ℕ, true, List, Option, MatchOption, length}
use Rattle.vr_resident.specs.Places.{Entry, AreNone, IsLast, buffers_at, fits}
use Rattle.vr_resident.specs.declared.place.Place.{Place}
use Rattle.vr_resident.specs.declared.place.Sought.{Sought}

-- the table has this place
pub record IsEntry (entries : List Entry) (number : ℕ) : Type 0 where
  pub place : Place
  pub before : List Entry
  pub after : List Entry
  pub split : entries ≡ before ++ (number, place) ∷ after

-- the table has this place, with a buffer
pub record HasBuffer (entries : List Entry) (number : ℕ) : Type 0 where
  pub place : Place
  pub before : List Entry
  pub after : List Entry
  pub split : entries ≡ before ++ (number, place) ∷ after
  pub has : 0 < length (buffers_at place)

-- the table has this place, which is one that is looked for
pub record IsFit (which : Sought) (entries : List Entry) (number : ℕ) : Type 0 where
  pub place : Place
  pub before : List Entry
  pub after : List Entry
  pub split : entries ≡ before ++ (number, place) ∷ after
  pub it_fits : fits which place ≡ true

-- the answer of a search: the last such place, or none where there is none
abbrev pub IsLastOf : Sought → List Entry → Option ℕ → Type 0
IsLastOf which entries last = MatchOption last (AreNone which entries) (IsLast which entries)
