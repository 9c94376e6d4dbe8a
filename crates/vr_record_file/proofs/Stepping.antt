-- The entries of an edit of the catalog, as they are entered one record after another.
use Rattle.std.proofs.Common.{◌≡◌, ℕ, ◌+◌, ◌-◌, ◌<◌, ◌≤◌, ◌^◌, max, List, [], ◌∷◌, Some, refl}
use Rattle.std.proofs.Common.{length, suc, sym, ap, ◌∙◌, subst, arith}
use Rattle.std.proofs.lemmas.Option.{none-some, same_Some}
use Rattle.std.specs.List.{remove, slice_get}
use Rattle.vr_types.specs.declared.unit.Unit.{Unit as UnitOfRecovery}
use Rattle.vr_history.specs.Merged.{last_stamp}
use Rattle.vr_record_file.specs.CatalogEdit.{entries_of, entries_of_step, step_made, steps_made}
use Rattle.vr_record_file.specs.Now.{FileNow, next_stamp}
use Rattle.vr_record_file.specs.declared.entry_step.EntryStep.{EntryStep}
use Rattle.vr_record_file.specs.declared.entry_step.EntryStep.TheVariants as Steps

-- a list is its first element, and what is left without it
pub first_and_left : (steps : List EntryStep) (step : EntryStep) → slice_get steps 0 ≡ Some step
    → steps ≡ step ∷ remove steps 0
first_and_left [] step is = absurd (none-some step is)
first_and_left (first ∷ steps) step is =
    ap (λ (one : EntryStep). one ∷ steps) (same_Some first step is)

twice_less : (n : ℕ) → n - 1 - 1 ≡ n - 2
twice_less n = omega arith

step_room : (after line : ℕ) (unit : UnitOfRecovery) (step : EntryStep) (file : FileNow)
    → (step_made after unit line step file).room ≡ file.room - entries_of_step step
step_room after line unit (Steps.Change get change got changed shown) file = twice_less file.room
step_room after line unit (Steps.Add add added) file = refl

-- Once what is left of the steps is entered, the record file is this one; and there is room for its
-- entries, and for their stamps and two more.
pub record IsStepping (whole : FileNow) (unit : UnitOfRecovery) (line : ℕ) (left : List EntryStep)
    (above : ℕ) (file : FileNow) : Type 0 where
  pub same : steps_made above unit line left file ≡ whole
  pub room : entries_of left ≤ file.room
  pub last : last_stamp 0 file.entries + entries_of left + 2 < 2 ^ 64
  pub after : above + entries_of left + 2 < 2 ^ 64

room_left : (first rest room : ℕ) → first + rest ≤ room → rest ≤ room - first
room_left first rest room less = omega (arith, less)

last_less : (last above now first rest : ℕ) → now + 1 ≡ max last above + 1 + first
    → last + (first + rest) + 2 < 2 ^ 64 → above + (first + rest) + 2 < 2 ^ 64
    → now + rest + 2 < 2 ^ 64
last_less last above now first rest is less other = omega (arith, is, less, other)

none_less : (above first rest : ℕ) → above + (first + rest) + 2 < 2 ^ 64
    → 0 + rest + 2 < 2 ^ 64
none_less above first rest less = omega (arith, less)

-- and so it is after one step
pub step_on : (whole : FileNow) (unit : UnitOfRecovery) (line : ℕ) (step : EntryStep)
    (left : List EntryStep) (above : ℕ) (file to : FileNow)
    → IsStepping whole unit line (step ∷ left) above file → to ≡ step_made above unit line step file
    → last_stamp 0 to.entries + 1 ≡ next_stamp file.entries above + entries_of_step step
    → IsStepping whole unit line left 0 to
step_on whole unit line step left above file to is made last = record {
  same = ap (λ (now : FileNow). steps_made 0 unit line left now) made ∙ is.same;
  room = subst (λ (n : ℕ). entries_of left ≤ n)
      (sym (ap (λ (now : FileNow). now.room) made ∙ step_room above line unit step file))
      (room_left (entries_of_step step) (entries_of left) file.room is.room);
  last = last_less (last_stamp 0 file.entries) above (last_stamp 0 to.entries)
      (entries_of_step step) (entries_of left) last is.last is.after;
  after = none_less above (entries_of_step step) (entries_of left) is.after;
}

-- at the first of them there is room for it
pub first_room : (first rest room : ℕ) → first + rest ≤ room → first ≤ room
first_room first rest room less = omega (arith, less)

pub first_stamps : (last first rest : ℕ) → last + (first + rest) + 2 < 2 ^ 64
    → last + first < 2 ^ 64
first_stamps last first rest less = omega (arith, less)

pub plus_zero : (n : ℕ) → n + 0 + 2 < 2 ^ 64 → n + 2 < 2 ^ 64
plus_zero n less = omega (arith, less)

-- the steps that are left begin with the one that is taken
pub as_first : (whole : FileNow) (unit : UnitOfRecovery) (line : ℕ) (left : List EntryStep)
    (above : ℕ) (file : FileNow) (step : EntryStep) → IsStepping whole unit line left above file
    → slice_get left 0 ≡ Some step
    → IsStepping whole unit line (step ∷ remove left 0) above file
as_first whole unit line left above file step is first =
    subst (λ (steps : List EntryStep). IsStepping whole unit line steps above file)
    (first_and_left left step first) is

-- and where none is left, all are entered
pub as_whole : (whole : FileNow) (unit : UnitOfRecovery) (line : ℕ) (left : List EntryStep)
    (above : ℕ) (file : FileNow) → IsStepping whole unit line left above file → left ≡ []
    → IsStepping whole unit line [] above file
as_whole whole unit line left above file is none =
    subst (λ (steps : List EntryStep). IsStepping whole unit line steps above file) none is

pub shorter : (left : List EntryStep) (step : EntryStep) → slice_get left 0 ≡ Some step
    → length (remove left 0) < length left
shorter left step first = less (length left) (length (remove left 0))
    (ap (λ (steps : List EntryStep). length steps) (first_and_left left step first))
  where
    less : (n m : ℕ) → n ≡ suc m → m < n
    less n m is = omega (arith, is)

-- the room that is left once they are entered
no_less : (n : ℕ) → n ≡ n - 0
no_less n = omega arith

both_less : (n first rest : ℕ) → n - first - rest ≡ n - (first + rest)
both_less n first rest = omega arith

pub steps_room : (after line : ℕ) (unit : UnitOfRecovery) (steps : List EntryStep)
    (file : FileNow) → (steps_made after unit line steps file).room ≡ file.room - entries_of steps
steps_room after line unit [] file = no_less file.room
steps_room after line unit (step ∷ steps) file =
    steps_room 0 line unit steps (step_made after unit line step file)
    ∙ ap (λ (n : ℕ). n - entries_of steps) (step_room after line unit step file)
    ∙ both_less file.room (entries_of_step step) (entries_of steps)

pub one_left : (room entries : ℕ) → entries + 1 ≤ room → 0 < room - entries
one_left room entries less = omega (arith, less)

pub two_left : (room entries : ℕ) → entries + 2 ≤ room → 1 < room - entries
two_left room entries less = omega (arith, less)
