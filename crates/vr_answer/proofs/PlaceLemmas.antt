-- The places that a request reads and changes, and the name that it locks.
use Rattle.std.proofs.Common.{◌≡◌, ℕ, cond, List, [], ◌∷◌, ◌++◌, Option}
use Rattle.std.proofs.Common.{Some, None, refl, sym, ap, ◌∙◌, filter, map}
use Rattle.std.specs.Prelude.{flat_map}
use Rattle.std.specs.Option.{is_some, option_and_then, option_copied, option_map, option_map_or}
use Rattle.std.specs.Option.{option_or, option_to_list}
use Rattle.vr_catalog.specs.declared.definition.Definition.{Definition}
use Rattle.vr_types.specs.declared.request.Find.TheVariants.{Next, Equal, AtLeast}
use Rattle.vr_types.specs.declared.request.Request.{Request}
use Rattle.vr_types.specs.declared.request.Request.TheVariants.{Get, Point, Add, Update, Erase}
use Rattle.vr_types.specs.declared.request.Request.TheVariants.{EndReq, Commit, Backout}
use Rattle.vr_types.specs.declared.request.FileRef.{FileRef}
use Rattle.vr_types.specs.declared.unit.Kind.{Kind}
use Rattle.vr_types.specs.declared.unit.Kind.TheVariants.{Keyed, Entry, Relative}
use Rattle.vr_types.specs.declared.unit.Mode.{Mode}
use Rattle.vr_history.specs.Case.{Case, find_of}
use Rattle.vr_history.specs.Change.{PairMove, place_added, place_asked, place_by}
use Rattle.vr_history.specs.Change.{place_changed}
use Rattle.vr_history.specs.Found.{Candidate, found, place_in, place_read}
use Rattle.vr_history.specs.Names.{change_names, keys_moved, lock_names, read_mode, read_names}
use Rattle.vr_history.specs.Names.{record_name}
use Rattle.vr_history.specs.Opened.{Opened, definition_in, opened}
use Rattle.vr_history.specs.State.{State}
use Rattle.vr_answer.specs.declared.case.Case.{Case as CaseInHand}
use Rattle.vr_answer.specs.Here.{added_by, asks_lock, changed_by, changed_here, looked_here}
use Rattle.vr_answer.specs.Here.{name_here, name_of}
use Rattle.vr_answer.specs.Here.{names_in, read_by, read_here}
use Rattle.vr_answer.specs.InHand.{IsCaseOf, IsFileOf, whole}
use Rattle.vr_answer.specs.Looked.{place_looked_at}
use Rattle.vr_answer.specs.Numbered.{address_added, kind_of}
use Rattle.vr_answer.specs.Opening.{as_opened, definition_here}
use Rattle.vr_answer.specs.Scope.{IsDirect}
use Rattle.vr_answer.proofs.FileLemmas.{option_or-none}
use Rattle.vr_answer.proofs.OpeningLemmas.{kind_in, moves_none, opened_is}

-- a direct read names its place
place_named : (place : List ℕ) (definition : Option Definition) (found : Option Candidate)
    → place_in (as_opened definition) (Equal place) found ≡ option_map (λ known. place) definition
place_named place None found = refl
place_named place (Some definition) found = refl

read_cases : (request : Request) → IsDirect request → (definition : Option Definition)
    → (found : Option Candidate)
    → option_and_then (λ find. place_in (as_opened definition) find found) (find_of request)
    ≡ read_by request definition
read_cases (Get file Next update integrity) direct definition found = absurd direct
read_cases (Get file (Equal place) update integrity) direct definition found =
    place_named place definition found
read_cases (Get file (AtLeast place) update integrity) direct definition found = absurd direct
read_cases (Point file find) direct definition found = absurd direct
read_cases (Add file place bytes) direct definition found = refl
read_cases (Update file bytes) direct definition found = refl
read_cases (Erase file) direct definition found = refl
read_cases (EndReq file) direct definition found = refl
read_cases Commit direct definition found = refl
read_cases Backout direct definition found = refl

pub append_none : {A : Type 0} (l : List A) → l ++ [] ≡ l
append_none [] = refl
append_none (x ∷ l) = ap (λ (rest : List _). x ∷ rest) (append_none l)

pub read_is : (case : CaseInHand) (state : State) → IsFileOf case state
    → IsDirect case.request.now → place_read (whole case state) ≡ read_here case
read_is case state is direct =
    ap (λ (o : Opened). option_and_then (λ find. place_in o find (found (whole case state)))
    (find_of case.request.now)) (opened_is case state is)
    ∙ read_cases case.request.now direct (definition_here case) (found (whole case state))

module _ (case : CaseInHand) (state : State) (is : IsCaseOf case state) where
  abbrev w : Case
  w = whole case state

  abbrev held : Option (List ℕ)
  held = option_copied case.held

  -- the place that a request reads, by the file that it is on and what is found
  abbrev pub read_asked : Request → Option (List ℕ)
  read_asked request =
      option_and_then (λ find. place_in (opened w) find (found w)) (find_of request)

  -- the address that an added record gets is the one that is handed in, where it gets one
  abbrev Addressed : Option Kind → Request → Type 0
  Addressed kind request = kind ≡ Some Entry → option_copied case.address ≡ address_added w request

  added_kind : (kind : Kind) (definition : Definition) (file : FileRef) (named : Option (List ℕ))
      → (bytes : List ℕ) → Addressed (Some kind) (Add file named bytes)
      → Some (place_by kind w definition named bytes)
      ≡ added_by kind definition (option_copied case.address) named bytes
  added_kind Keyed definition file named bytes address = refl
  added_kind Entry definition file named bytes address = sym (address refl)
  added_kind Relative definition file named bytes address = refl

  added_place : (definition : Option Definition) (file : FileRef) (named : Option (List ℕ))
      → (bytes : List ℕ) → Addressed (kind_in (as_opened definition)) (Add file named bytes)
      → option_map (λ known. place_added w known named bytes)
      (definition_in (as_opened definition))
      ≡ option_and_then
      (λ known. added_by known.kind known (option_copied case.address) named bytes) definition
  added_place None file named bytes address = refl
  added_place (Some definition) file named bytes address =
      added_kind definition.kind definition file named bytes address

  changed_cases : (request : Request) → Addressed (kind_of w) request
      → place_asked w request
      ≡ changed_by request (definition_here case) held (option_copied case.address)
  changed_cases (Add file place bytes) address =
      ap (λ (o : Opened). option_map (λ known. place_added w known place bytes) (definition_in o))
      (opened_is case state is.file)
      ∙ added_place (definition_here case) file place bytes
      (λ entry. address (ap kind_in (opened_is case state is.file) ∙ entry))
  changed_cases (Update file bytes) address = sym is.file.held
  changed_cases (Erase file) address = sym is.file.held
  changed_cases (Get file find update integrity) address = refl
  changed_cases (Point file find) address = refl
  changed_cases (EndReq file) address = refl
  changed_cases Commit address = refl
  changed_cases Backout address = refl

  pub changed_is : place_changed w ≡ changed_here case
  changed_is = changed_cases case.request.now is.numbers.address

  pub looked_is : IsDirect case.request.now → looked_here case ≡ place_looked_at w
  looked_is direct = sym
      (ap (λ (o : Option (List ℕ)). option_or o (place_changed w)) (read_is case state is.file direct)
      ∙ ap (λ (o : Option (List ℕ)). option_or (read_here case) o) changed_is)

  -- a request that changes nothing comes to the place that it reads, and one that reads nothing to
  -- the place that it changes
  pub at_read : place_changed w ≡ None → place_looked_at w ≡ place_read w
  at_read none =
      ap (λ (o : Option (List ℕ)). option_or (place_read w) o) none ∙ option_or-none (place_read w)

  pub at_changed : place_read w ≡ None → place_looked_at w ≡ place_changed w
  at_changed none = ap (λ (o : Option (List ℕ)). option_or o (place_changed w)) none

  -- the names that are locked
  one_name : (o : Option (List ℕ))
      → map (record_name w) (option_to_list o) ≡ names_in (option_map (name_of case) o)
  one_name None = refl
  one_name (Some place) = refl

  read_named : (o : Option (List ℕ)) → place_read w ≡ o → (mode : Option Mode)
      → option_map_or (λ mode. read_names w) mode []
      ≡ names_in (cond (is_some mode) (option_map (name_of case) o) None)
  read_named o read None = refl
  read_named o read (Some mode) =
      ap (λ (at : Option (List ℕ)). map (record_name w) (option_to_list at)) read ∙ one_name o

  change_named : (o : Option (List ℕ)) → place_changed w ≡ o
      → change_names w ≡ names_in (option_map (name_of case) o)
  change_named o changed =
      ap (λ (moves : List PairMove). map (record_name w) (option_to_list (place_changed w))
      ++ flat_map keys_moved (filter (λ move. move.alternate.unique) moves))
      (moves_none w is.file.unbuilt)
      ∙ append_none (map (record_name w) (option_to_list (place_changed w)))
      ∙ ap (λ (at : Option (List ℕ)). map (record_name w) (option_to_list at)) changed
      ∙ one_name o

  names_cases : (request : Request) → place_read w ≡ read_asked request
      → place_changed w ≡ place_asked w request
      → (at : Option (List ℕ)) → at ≡ place_looked_at w
      → lock_names w request
      ≡ names_in (cond (asks_lock request) (option_map (name_of case) at) None)
  names_cases (Get file find update integrity) reads changes at looked =
      read_named at (sym (looked ∙ at_read changes)) (read_mode update integrity)
  names_cases (Point file find) reads changes at looked = refl
  names_cases (Add file place bytes) reads changes at looked =
      change_named at (sym (looked ∙ at_changed reads))
  names_cases (Update file bytes) reads changes at looked =
      change_named at (sym (looked ∙ at_changed reads))
  names_cases (Erase file) reads changes at looked =
      change_named at (sym (looked ∙ at_changed reads))
  names_cases (EndReq file) reads changes at looked = refl
  names_cases Commit reads changes at looked = refl
  names_cases Backout reads changes at looked = refl

  pub names_are : (at : Option (List ℕ)) → at ≡ place_looked_at w
      → lock_names w case.request.now ≡ names_in (name_here case at)
  names_are at looked = names_cases case.request.now refl refl at looked
