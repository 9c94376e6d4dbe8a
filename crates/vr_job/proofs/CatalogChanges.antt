-- What an entry of a history does to the records of the catalog: nothing, or at one place it adds one
-- of a part that no entry has, replaces one by that of an entry like it, or erases one.
use Rattle.std.proofs.Common.{◌≡◌, ◌⊎◌, inl, inr, ⊎_elim, ◌∙◌, ◌==◌, ◌≤◌, ℕ, Bool, false}
use Rattle.std.proofs.Common.{if◌then◌else◌, List, [], ◌∷◌, Option, Some, None}
use Rattle.std.proofs.Common.{ap, arith, eq-eqb, length, refl, sym}
use Rattle.std.specs.Prelude.{option_map, option_to_list}
use Rattle.std.specs.List.{AllByRecursion}
use Rattle.std.specs.Option.{option_map_or}
use Rattle.std.proofs.lemmas.Bool.Decides.{nat_tests}
use Rattle.vr_types.specs.Content.{Content}
use Rattle.vr_types.specs.declared.geometry.Geometry.{Geometry}
use Rattle.vr_types.specs.declared.reply.Reply.TheVariants.{Done, Refused}
use Rattle.vr_types.specs.declared.request.Request.{Request}
use Rattle.vr_types.specs.declared.request.Request.TheVariants.{Get, Point, Add, Update, Erase}
use Rattle.vr_types.specs.declared.request.Request.TheVariants.{EndReq, Commit, Backout}
use Rattle.vr_types.specs.declared.unit.Unit.{Unit as UnitOfRecovery}
use Rattle.vr_history.specs.Change.{Change, change_of}
use Rattle.vr_history.specs.Committed.{changed}
use Rattle.vr_history.specs.Effects.{changes, last_kept, placed_in, takes_out, with_change}
use Rattle.vr_history.specs.State.{BeforeImage, State}
use Rattle.vr_history.specs.Step.{after_what, case_of, change_back, place_changes}
use Rattle.vr_history.specs.declared.entry.What.{What}
use Rattle.vr_history.specs.declared.entry.What.TheVariants.{Asked, Undone, Claimed, Split, Faulted}
use Rattle.vr_job.specs.Committed.{IsAddition, IsOffCatalog, IsReplacement, MayChange}
use Rattle.vr_job.proofs.Effects.{IsDone, MadeOr, done-is, make-or, refused-stays}
use Rattle.vr_job.proofs.Effects.IsDone.{DoneChange, DoneEnd, DoneNothing}
use Rattle.vr_job.proofs.Effects.MadeOr.{NoChange, OneChange}

some-none : {X : Type 0} (x : X) → Some x ≡ None → ⊥
some-none x same = cc

turned : (part other : ℕ) → (part == other) ≡ false → (other == part) ≡ false
turned part other apart = grind (arith, nat_tests, apart)

-- a change elsewhere leaves the catalog
pub change-keeps : (change : Change) (contents : ℕ → Content) → IsOffCatalog change
    → with_change change contents 0 ≡ contents 0
change-keeps change contents off = ap (λ (b : Bool). if b then
    placed_in change.place change.new (contents 0) else contents 0)
    (turned change.part 0 off)

-- and one of it is made at its place
change-makes : (change : Change) (contents : ℕ → Content) → change.part ≡ 0
    → with_change change contents 0 ≡ placed_in change.place change.new (contents 0)
change-makes change contents part = ap (λ (b : Bool). if b then
    placed_in change.place change.new (contents 0) else contents 0)
    (eq-eqb 0 change.part (sym part))

-- These changes make one change of the catalog, of whatever contents they are made in.
pub record IsChanged (state : State) (changes : List Change) : Type 0 where
  pub change : Change
  pub may : IsAddition state change ⊎ IsReplacement state change
  pub is : (contents : ℕ → Content)
      → changed contents changes 0 ≡ placed_in change.place change.new (contents 0)

-- or they leave it
abbrev pub StaysOrChanged : State → List Change → Type 0
StaysOrChanged state changes =
    ((contents : ℕ → Content) → changed contents changes 0 ≡ contents 0) ⊎ IsChanged state changes

one-changed : (state : State) (unit : UnitOfRecovery) (changes : List Change) → length changes ≤ 1
    → AllByRecursion (MayChange state unit) changes → StaysOrChanged state changes
one-changed state unit [] few may = inl (λ contents. refl)
one-changed state unit (one ∷ two ∷ changes) few may = absurd (omega (arith, few))
one-changed state unit (change ∷ []) few may = ⊎_elim
    (λ off. inl (λ contents. change-keeps change contents off))
    (λ own. inr (record {
      change = change;
      may = own.1;
      is = λ contents. change-makes change contents
          (⊎_elim (λ added. added.part) (λ replaced. replaced.part) own.1);
    })) may.0

module _ (geometry : Geometry) (state : State) (unit : UnitOfRecovery) where
  option-few : (change : Option Change) → length (option_to_list change) ≤ 1
  option-few None = omega arith
  option-few (Some change) = omega arith

  -- an entry changes one place at most
  places-few : (what : What) → length (place_changes geometry state unit what) ≤ 1
  places-few (Asked request (Done feedback place bytes)) =
      option-few (change_of (case_of geometry state unit request))
  places-few (Asked request (Refused refusal)) = omega arith
  places-few (Undone part place) = option-few (option_map (change_back state) (last_kept state unit))
  places-few (Claimed part area) = omega arith
  places-few (Split part) = omega arith
  places-few (Faulted fault) = omega arith

  pub entry-changes : (what : What)
      → AllByRecursion (MayChange state unit) (place_changes geometry state unit what)
      → StaysOrChanged state (place_changes geometry state unit what)
  entry-changes what may =
      one-changed state unit (place_changes geometry state unit what) (places-few what) may

  -- ---- what it leaves of the catalog of the state

  abbrev asked-for : Request → Option Change
  asked-for request = change_of (case_of geometry state unit request)

  made-by : (request : Request) (new : State) → MadeOr geometry state unit request new
      → new.contents 0 ≡ changed state.contents (option_to_list (asked-for request)) 0
  made-by request new (NoChange none stays) =
      ap (λ (contents : ℕ → Content). contents 0) stays.contents
      ∙ ap (λ (change : Option Change). changed state.contents (option_to_list change) 0) (sym none)
  made-by request new (OneChange change is made) =
      ap (λ (contents : ℕ → Content). contents 0) made.contents
      ∙ ap (λ (it : Option Change). changed state.contents (option_to_list it) 0) (sym is)

  none-by : (request : Request) (new : State) → IsDone geometry state unit request new
      → asked-for request ≡ None → new.contents 0 ≡ state.contents 0
  none-by request new (DoneNothing stays) none =
      ap (λ (contents : ℕ → Content). contents 0) stays.contents
  none-by request new (DoneEnd ended) none = ended.catalog
  none-by request new (DoneChange (NoChange nothing stays)) none =
      ap (λ (contents : ℕ → Content). contents 0) stays.contents
  none-by request new (DoneChange (OneChange change is made)) none =
      absurd (some-none change (sym is ∙ none))

  done-by : (request : Request) (feedback stamp : ℕ) (place bytes : Option (List ℕ))
      → (after_what geometry state unit stamp (Asked request (Done feedback place bytes))).contents 0
      ≡ changed state.contents
      (place_changes geometry state unit (Asked request (Done feedback place bytes))) 0
  done-by (Add file named added) feedback stamp place bytes =
      made-by (Add file named added) _ (make-or geometry state unit (Add file named added) file
      (asked-for (Add file named added)) refl)
  done-by (Update file updated) feedback stamp place bytes =
      made-by (Update file updated) _ (make-or geometry state unit (Update file updated) file
      (asked-for (Update file updated)) refl)
  done-by (Erase file) feedback stamp place bytes =
      made-by (Erase file) _ (make-or geometry state unit (Erase file) file
      (asked-for (Erase file)) refl)
  done-by (Get file find update integrity) feedback stamp place bytes =
      none-by (Get file find update integrity) _
      (done-is geometry state unit (Get file find update integrity) feedback place bytes) refl
  done-by (Point file find) feedback stamp place bytes = none-by (Point file find) _
      (done-is geometry state unit (Point file find) feedback place bytes) refl
  done-by (EndReq file) feedback stamp place bytes = none-by (EndReq file) _
      (done-is geometry state unit (EndReq file) feedback place bytes) refl
  done-by Commit feedback stamp place bytes = none-by Commit _
      (done-is geometry state unit Commit feedback place bytes) refl
  done-by Backout feedback stamp place bytes = none-by Backout _
      (done-is geometry state unit Backout feedback place bytes) refl

  back-by : (kept : Option BeforeImage)
      → (option_map_or (λ (it : BeforeImage). takes_out unit
      (changes (change_back state it) state)) kept state).contents 0
      ≡ changed state.contents (option_to_list (option_map (change_back state) kept)) 0
  back-by None = refl
  back-by (Some kept) = refl

  -- as it leaves that of any contents in which it counts
  pub catalog-changed : (stamp : ℕ) (what : What)
      → (after_what geometry state unit stamp what).contents 0
      ≡ changed state.contents (place_changes geometry state unit what) 0
  catalog-changed stamp (Asked request (Done feedback place bytes)) =
      done-by request feedback stamp place bytes
  catalog-changed stamp (Asked request (Refused refusal)) =
      ap (λ (contents : ℕ → Content). contents 0)
      (refused-stays geometry state unit request (Refused refusal) refusal refl).contents
  catalog-changed stamp (Undone part place) = back-by (last_kept state unit)
  catalog-changed stamp (Claimed part area) = refl
  catalog-changed stamp (Split part) = refl
  catalog-changed stamp (Faulted fault) = refl
