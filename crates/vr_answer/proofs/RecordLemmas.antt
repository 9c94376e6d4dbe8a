-- The refusals by the record that is there, and by locks, are those of the record file.
use Rattle.std.proofs.Common.{◌≡◌, ℕ, Bool, false, not, ◌&&◌, cond, List, [], Option}
use Rattle.std.proofs.Common.{Some, None, inl, inr, refl, sym, ap, ◌∙◌, find, length, subst}
use Rattle.std.specs.Option.{is_none, is_some, option_and_then, option_copied, option_map}
use Rattle.std.specs.Option.{option_map_or, option_or}
use Rattle.vr_catalog.specs.declared.definition.Definition.{Definition}
use Rattle.vr_types.specs.Locks.{Lock, conflict_on, first_conflict}
use Rattle.vr_types.specs.declared.lock_name.LockName.{LockName}
use Rattle.vr_types.specs.declared.reply.Refusal.{Refusal}
use Rattle.vr_types.specs.declared.reply.Refusal.TheVariants.{Duplicate, KeyChanged, LengthChanged}
use Rattle.vr_types.specs.declared.reply.Refusal.TheVariants.{NotFound}
use Rattle.vr_types.specs.declared.request.Find.{Find}
use Rattle.vr_types.specs.declared.request.Request.{Request}
use Rattle.vr_types.specs.declared.request.Request.TheVariants.{Get, Point, Add, Update, Erase}
use Rattle.vr_types.specs.declared.request.Request.TheVariants.{EndReq, Commit, Backout}
use Rattle.vr_types.specs.declared.unit.Kind.{Kind}
use Rattle.vr_types.specs.declared.unit.Kind.TheVariants.{Keyed, Entry, Relative}
use Rattle.vr_history.specs.Address.{areas_needed, interval_needed}
use Rattle.vr_history.specs.Case.{Case, acts_on_held, dropped, find_of, is_add, new_record}
use Rattle.vr_history.specs.Change.{PairMove, old_record, place_asked, place_changed, record_held}
use Rattle.vr_history.specs.Found.{place_read}
use Rattle.vr_history.specs.Names.{mode_asked}
use Rattle.vr_history.specs.Opened.{Opened, base_of, definition_in, opened}
use Rattle.vr_history.specs.RefusedFile.{refused_if}
use Rattle.vr_history.specs.RefusedRecord.{absent, absent_for, absent_to}
use Rattle.vr_history.specs.RefusedRecord.{changes_key, changes_length, duplicate, duplicate_key}
use Rattle.vr_history.specs.RefusedRecord.{gone, held, held_by, is_taken, key_changed, key_changes}
use Rattle.vr_history.specs.RefusedRecord.{length_changed, length_changes}
use Rattle.vr_history.specs.RefusedRecord.{record_read}
use Rattle.vr_history.specs.RefusedRoom.{lacks, need_of, no_space}
use Rattle.vr_history.specs.Replies.{first_of}
use Rattle.vr_history.specs.State.{State, areas_of}
use Rattle.vr_answer.specs.declared.case.Case.{Case as CaseInHand}
use Rattle.vr_answer.specs.Here.{areas_here, gone_here, held_here, held_on, is_other_key}
use Rattle.vr_answer.specs.Here.{is_other_length, key_changed_here, key_changes_by}
use Rattle.vr_answer.specs.Here.{length_changed_here, length_changes_by, name_here, names_in}
use Rattle.vr_answer.specs.Here.{presence_here, record_here, space_here, unlocked_here}
use Rattle.vr_answer.specs.InHand.{IsCaseOf, whole}
use Rattle.vr_answer.specs.Looked.{place_looked_at, record_looked_at}
use Rattle.vr_answer.specs.Numbered.{IsNumbered}
use Rattle.vr_answer.specs.Opening.{as_opened, definition_here}
use Rattle.vr_answer.specs.Tried.{record_refusals}
use Rattle.vr_answer.proofs.FileLemmas.{first_of-cons, option_or-assoc, option_or-none}
use Rattle.vr_answer.proofs.FileLemmas.{passed_over, placed_first}
use Rattle.vr_answer.proofs.OpeningLemmas.{kind_in, moves_none, opened_is}
use Rattle.vr_answer.proofs.PlaceLemmas.{at_changed, at_read, changed_is, names_are, read_asked}

none_not_some : {A : Type 0} (o : Option A) → is_none o ≡ not (is_some o)
none_not_some None = refl
none_not_some (Some x) = refl

module _ (case : CaseInHand) (state : State) (is : IsCaseOf case state) where
  abbrev w : Case
  w = whole case state

  abbrev definition : Option Definition
  definition = definition_here case

  abbrev held_place : Option (List ℕ)
  held_place = option_copied case.held

  known : {A : Type 0} (f : Opened → A) → f (opened w) ≡ f (as_opened definition)
  known f = ap f (opened_is case state is.file)

  -- the record at the place that is changed, or read, is the one at the place that is looked at
  abbrev there : Bool
  there = is_some (record_looked_at w)

  record_changed : place_read w ≡ None
      → option_and_then (record_held w) (place_changed w) ≡ record_looked_at w
  record_changed none =
      ap (option_and_then (record_held w)) (sym (at_changed case state is none))

  record_at_read : place_changed w ≡ None → record_read w ≡ record_looked_at w
  record_at_read none = ap (option_and_then (record_held w)) (sym (at_read case state is none))

  -- gone
  gone_cases : (request : Request) → place_read w ≡ read_asked case state is request
      → refused_if (acts_on_held request && is_none (cond (is_add request) None
      (option_and_then (record_held w) (place_changed w)))) NotFound
      ≡ refused_if (acts_on_held request && not there) NotFound
  gone_cases (Update file bytes) read =
      ap (λ (o : Option (List ℕ)). refused_if (is_none o) NotFound) (record_changed read)
      ∙ ap (λ (b : Bool). refused_if b NotFound) (none_not_some (record_looked_at w))
  gone_cases (Erase file) read =
      ap (λ (o : Option (List ℕ)). refused_if (is_none o) NotFound) (record_changed read)
      ∙ ap (λ (b : Bool). refused_if b NotFound) (none_not_some (record_looked_at w))
  gone_cases (Get file find update integrity) read = refl
  gone_cases (Point file find) read = refl
  gone_cases (Add file place bytes) read = refl
  gone_cases (EndReq file) read = refl
  gone_cases Commit read = refl
  gone_cases Backout read = refl

  gone_is : gone w ≡ gone_here case there
  gone_is = gone_cases case.request.now refl

  -- the key
  key_kept : (d : Option Definition) (bytes : List ℕ) (o : Option (List ℕ))
      → option_map_or (λ place. changes_key w (as_opened d) place bytes) o false
      ≡ option_map_or (is_other_key d bytes) o false
  key_kept d bytes None = refl
  key_kept None bytes (Some place) = refl
  key_kept (Some d) bytes (Some place) = refl

  key_cases : (request : Request)
      → key_changes w request ≡ key_changes_by request definition held_place
  key_cases (Update file bytes) =
      known (λ o. option_map_or (λ place. changes_key w o place bytes) (dropped w) false)
      ∙ ap (λ (o : Option (List ℕ)). option_map_or
      (λ place. changes_key w (as_opened definition) place bytes) o false) (sym is.file.held)
      ∙ key_kept definition bytes held_place
  key_cases (Get file find update integrity) = refl
  key_cases (Point file find) = refl
  key_cases (Add file place bytes) = refl
  key_cases (Erase file) = refl
  key_cases (EndReq file) = refl
  key_cases Commit = refl
  key_cases Backout = refl

  key_is : key_changed w ≡ key_changed_here case
  key_is = ap (λ (b : Bool). refused_if b KeyChanged) (key_cases case.request.now)

  -- the length of the record that an update takes the place of
  length_kept : (d : Option Definition) (bytes : List ℕ)
      → changes_length w (as_opened d) bytes ≡ is_other_length d (old_record w) bytes
  length_kept None bytes = refl
  length_kept (Some d) bytes = refl

  length_cases : (request : Request) → place_read w ≡ read_asked case state is request
      → old_record w ≡ cond (is_add request) None
      (option_and_then (record_held w) (place_changed w))
      → length_changes w request ≡ length_changes_by request definition (record_looked_at w)
  length_cases (Update file bytes) read old =
      known (λ o. changes_length w o bytes) ∙ length_kept definition bytes
      ∙ ap (λ (o : Option (List ℕ)). is_other_length definition o bytes)
      (old ∙ record_changed read)
  length_cases (Get file find update integrity) read old = refl
  length_cases (Point file find) read old = refl
  length_cases (Add file place bytes) read old = refl
  length_cases (Erase file) read old = refl
  length_cases (EndReq file) read old = refl
  length_cases Commit read old = refl
  length_cases Backout read old = refl

  length_is : length_changed w ≡ length_changed_here case (record_looked_at w)
  length_is =
      ap (λ (b : Bool). refused_if b LengthChanged) (length_cases case.request.now refl refl)

  -- locks
  one_held : (o : Option LockName)
      → option_map held_by
      (conflict_on case.locks.now case.unit (mode_asked case.request.now) (names_in o))
      ≡ option_and_then (held_on case) o
  one_held None = refl
  one_held (Some name) =
      ap (option_map held_by)
      (option_or-none (first_conflict case.locks.now case.unit (mode_asked case.request.now) name))

  held_is : (at : Option (List ℕ)) → at ≡ place_looked_at w → held w ≡ held_here case at
  held_is at looked =
      ap (λ (names : List LockName). option_map held_by
      (conflict_on state.locks case.unit (mode_asked case.request.now) names))
      (names_are case state is at looked)
      ∙ ap (λ (locks : List Lock). option_map held_by
      (conflict_on locks case.unit (mode_asked case.request.now) (names_in (name_here case at))))
      (sym is.locks)
      ∙ one_held (name_here case at)

  -- whether a record is there
  absent_read : place_changed w ≡ None → (find : Find)
      → refused_if (is_none (record_read w)) (absent_for (opened w) find)
      ≡ refused_if (not there) (absent_for (as_opened definition) find)
  absent_read changes find =
      ap (λ (o : Option (List ℕ)). refused_if (is_none o) (absent_for (opened w) find))
      (record_at_read changes)
      ∙ ap (λ (b : Bool). refused_if b (absent_for (opened w) find))
      (none_not_some (record_looked_at w))
      ∙ known (λ o. refused_if (not there) (absent_for o find))

  abbrev absent_asked : Request → Option Refusal
  absent_asked request =
      option_and_then (λ find. refused_if (not there) (absent_for (as_opened definition) find))
      (find_of request)

  abbrev base : ℕ
  base = base_of w

  presence_cases : (request : Request) → place_read w ≡ read_asked case state is request
      → place_changed w ≡ place_asked w request
      → option_or (absent_to w request)
      (refused_if (is_add request
      && is_some (option_and_then (record_held w) (place_changed w))) (Duplicate (record {
        0 = base;
      })))
      ≡ option_or (absent_asked request)
      (refused_if (is_add request && there) (Duplicate (record { 0 = base })))
  presence_cases (Get file find update integrity) reads changes =
      ap (λ (o : Option Refusal). option_or o None) (absent_read changes find)
  presence_cases (Point file find) reads changes =
      ap (λ (o : Option Refusal). option_or o None) (absent_read changes find)
  presence_cases (Add file place bytes) reads changes =
      ap (λ (o : Option (List ℕ)). refused_if (is_some o) (Duplicate (record { 0 = base })))
      (record_changed reads)
  presence_cases (Update file bytes) reads changes = refl
  presence_cases (Erase file) reads changes = refl
  presence_cases (EndReq file) reads changes = refl
  presence_cases Commit reads changes = refl
  presence_cases Backout reads changes = refl

  presence_is : option_or (absent w) (duplicate w) ≡ presence_here case there
  presence_is = presence_cases case.request.now refl refl

  -- no alternate index, and no room that the state tells of
  duplicate_key_is : duplicate_key w ≡ None
  duplicate_key_is =
      ap (λ (moves : List PairMove). option_map (λ move. Duplicate (record {
        0 = move.alternate.part;
      })) (find (λ move. move.alternate.unique && is_taken w move) moves)) (moves_none w is.file.unbuilt)

  abbrev areas_in : ℕ → Definition → List ℕ → List ℕ → Option ℕ
  areas_in areas d place bytes = option_map (areas_needed w.geometry.area areas)
      (interval_needed d.kind w.geometry.size d.maximum place (length bytes))

  abbrev owned : ℕ
  owned = areas_of state (base_of w)

  -- the areas that are handed in count where the place is a number
  areas_kind : (d : Definition) (place bytes : List ℕ) (kind : Kind)
      → (IsNumbered (Some kind) → case.areas ≡ owned)
      → areas_in owned (record d { kind = kind }) place bytes
      ≡ areas_in case.areas (record d { kind = kind }) place bytes
  areas_kind d place bytes Keyed areas = refl
  areas_kind d place bytes Entry areas =
      ap (λ (n : ℕ). areas_in n (record d { kind = Entry }) place bytes) (sym (areas (inl refl)))
  areas_kind d place bytes Relative areas =
      ap (λ (n : ℕ). areas_in n (record d { kind = Relative }) place bytes)
      (sym (areas (inr refl)))

  areas_same : (d : Option Definition) (at new : Option (List ℕ))
      → (IsNumbered (kind_in (as_opened d)) → case.areas ≡ owned)
      → option_and_then (λ known. option_and_then (λ place.
      option_and_then (areas_in owned known place) new) at) (definition_in (as_opened d))
      ≡ option_and_then (λ known. option_and_then (λ place.
      option_and_then (areas_in case.areas known place) new) at) d
  areas_same None at new areas = refl
  areas_same (Some d) None new areas = refl
  areas_same (Some d) (Some place) None areas = refl
  areas_same (Some d) (Some place) (Some bytes) areas = areas_kind d place bytes d.kind areas

  abbrev new : Option (List ℕ)
  new = new_record case.request.now

  areas_are : need_of w ≡ areas_here case
  areas_are =
      known (λ o. option_and_then (λ known. option_and_then (λ place.
      option_and_then (areas_in owned known place) new) (place_changed w)) (definition_in o))
      ∙ areas_same definition (place_changed w) new
      (λ numbered. is.numbers.areas (subst IsNumbered (sym (known kind_in)) numbered))
      ∙ ap (λ (at : Option (List ℕ)). option_and_then (λ known. option_and_then (λ place.
      option_and_then (areas_in case.areas known place) new) at) definition)
      (changed_is case state is)

  space_is : no_space w ≡ space_here case
  space_is =
      ap (λ (free : ℕ). option_and_then (lacks free) (need_of w)) (sym is.free)
      ∙ ap (λ (need : Option ℕ). option_and_then (lacks case.free) need) areas_are

  module _ (at : Option (List ℕ)) (looked : at ≡ place_looked_at w) where
    abbrev present : Option (List ℕ)
    present = record_looked_at w

    tried_is : first_of (record_refusals w)
        ≡ option_or (gone_here case there) (option_or (key_changed_here case)
        (option_or (length_changed_here case present) (option_or (held_here case at)
        (option_or (absent w) (option_or (duplicate w) (space_here case))))))
    tried_is =
        let last = first_of-cons (no_space w) [] ∙ option_or-none (no_space w) ∙ space_is in
        placed_first (gone w) _ _ _ gone_is
        (placed_first (key_changed w) _ _ _ key_is
        (placed_first (length_changed w) _ _ _ length_is
        (placed_first (held w) _ _ _ (held_is at looked)
        (placed_first (absent w) _ _ _ refl
        (placed_first (duplicate w) _ _ _ refl
        (passed_over (duplicate_key w) _ _ duplicate_key_is last))))))

    -- in the groups in which they are tried
    grouped : (a b c d e f g : Option Refusal)
        → option_or a (option_or b (option_or c (option_or d (option_or e (option_or f g)))))
        ≡ option_or (option_or a (option_or b c)) (option_or d (option_or (option_or e f) g))
    grouped None None c d e f g =
        ap (λ (o : Option Refusal). option_or c (option_or d o)) (option_or-assoc e f g)
    grouped None (Some r) c d e f g = refl
    grouped (Some r) b c d e f g = refl

    record_at_looked : record_here case at present ≡ first_of (record_refusals w)
    record_at_looked = sym
        (tried_is
        ∙ grouped (gone_here case there) (key_changed_here case)
        (length_changed_here case present) (held_here case at) (absent w) (duplicate w)
        (space_here case)
        ∙ ap (λ (o : Option Refusal). option_or (unlocked_here case present)
        (option_or (held_here case at) (option_or o (space_here case)))) presence_is)

    pub record_is : (given : Option (List ℕ)) → given ≡ record_looked_at w
        → record_here case at given ≡ first_of (record_refusals w)
    record_is given same =
        ap (λ (o : Option (List ℕ)). record_here case at o) same ∙ record_at_looked
