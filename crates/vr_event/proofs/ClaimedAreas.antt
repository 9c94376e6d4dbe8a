-- A part that has one area more: that changes no refusal of a change of a key-sequenced data set.
-- Of the refusals that come before that of the log, only the one for want of areas is by the owners
-- of areas, and a key-sequenced data set has none of those.
use Rattle.std.proofs.Common.{◌≡◌, ◌∙◌, ℕ, Bool, false, true, cond, IsTrue, List, [], ◌∷◌, ◌++◌}
use Rattle.std.proofs.Common.{Option, Some, None, refl, sym, ap, subst, filter, map, ⊎_elim}
use Rattle.std.specs.Prelude.{◌&&◌, ◌||◌, find, is_none, is_some, option_and_then, option_map}
use Rattle.std.specs.Prelude.{option_to_list}
use Rattle.std.specs.List.{flat_map}
use Rattle.std.specs.Option.{option_map_or}
use Rattle.vr_catalog.specs.Catalog.{Alternate}
use Rattle.vr_catalog.specs.declared.definition.Definition.{Definition}
use Rattle.vr_types.specs.Locks.{conflict_on}
use Rattle.vr_types.specs.declared.geometry.Geometry.{Geometry}
use Rattle.vr_types.specs.declared.lock_name.LockName.{LockName}
use Rattle.vr_types.specs.declared.reply.Refusal.{Refusal}
use Rattle.vr_types.specs.declared.reply.Refusal.TheVariants.{Duplicate, KeyChanged, LengthChanged}
use Rattle.vr_types.specs.declared.reply.Refusal.TheVariants.{NotFound}
use Rattle.vr_types.specs.declared.request.Request.{Request}
use Rattle.vr_types.specs.declared.request.Request.TheVariants.{Get, Point, Add, Update, Erase}
use Rattle.vr_types.specs.declared.request.Request.TheVariants.{EndReq, Commit, Backout}
use Rattle.vr_types.specs.declared.unit.Kind.{Kind}
use Rattle.vr_types.specs.declared.unit.Kind.TheVariants.{Keyed, Entry, Relative}
use Rattle.vr_types.specs.declared.unit.Unit.{Unit as UnitOfRecovery}
use Rattle.vr_history.specs.Case.{Case, acts_on_held, dropped, is_add, new_record}
use Rattle.vr_history.specs.Change.{PairMove, field_in, moves_at, moves_key, old_record, pair_moves}
use Rattle.vr_history.specs.Change.{place_added, place_asked, place_by, place_changed, record_held}
use Rattle.vr_history.specs.Effects.{claims}
use Rattle.vr_history.specs.Names.{change_names, keys_moved, lock_names, mode_asked, record_name}
use Rattle.vr_history.specs.Opened.{ByPath, Cluster, Opened, Unknown, base_of, built_over}
use Rattle.vr_history.specs.Opened.{definition_in, opened}
use Rattle.vr_history.specs.RefusedFile.{bad_length, bad_slot, not_allowed, refused_if}
use Rattle.vr_history.specs.RefusedRecord.{absent, absent_to, changes_key, changes_length}
use Rattle.vr_history.specs.RefusedRecord.{duplicate, duplicate_key, gone, held, held_by, is_taken}
use Rattle.vr_history.specs.RefusedRecord.{key_changed, key_changes, length_changed, length_changes}
use Rattle.vr_history.specs.RefusedRecord.{no_get, no_position, other_key, other_length}
use Rattle.vr_history.specs.RefusedRoom.{no_space}
use Rattle.vr_history.specs.Replies.{before_all, before_room, fills_base, first_of, is_keyed}
use Rattle.vr_history.specs.State.{State}
use Rattle.vr_history.specs.Step.{case_of}
use Rattle.vr_event.specs.Putting.{IsChange}
use Rattle.vr_event.specs.Staging.{IsStateStaged}
use Rattle.vr_event.proofs.Lacks.{keyed-none}

-- ---- for want of areas

kind-keyed : (kind : Kind) → is_keyed kind ≡ true → kind ≡ Keyed
kind-keyed Keyed is = refl
kind-keyed Entry is = absurd cc
kind-keyed Relative is = absurd cc

-- a key-sequenced data set has no refusal for want of areas
filled-none : (case : Case) → IsTrue (fills_base case) → no_space case ≡ None
filled-none case fills = by-definition (definition_in (opened case)) refl fills
  where
    by-definition : (o : Option Definition) → definition_in (opened case) ≡ o
        → option_map_or (λ (known : Definition). is_keyed known.kind) o false ≡ true
        → no_space case ≡ None
    by-definition None on is = absurd cc
    by-definition (Some definition) on is =
        keyed-none case definition on (kind-keyed definition.kind is)

-- ---- the others

abbrev Refusals : Type 0
Refusals = List (Option Refusal)

cons-same : (x y : Option Refusal) (xs ys : Refusals) → x ≡ y → xs ≡ ys → x ∷ xs ≡ y ∷ ys
cons-same x y xs ys head tail =
    ap (λ (one : Option Refusal). one ∷ xs) head ∙ ap (λ (them : Refusals). y ∷ them) tail

module _ (geometry : Geometry) (unit : UnitOfRecovery) (request : Request) (area part : ℕ)
    (state : State) where
  abbrev old : Case
  old = case_of geometry state unit request

  abbrev new : Case
  new = case_of geometry (claims area part state) unit request

  place-by : (kind : Kind) (definition : Definition) (named : Option (List ℕ)) (bytes : List ℕ)
      → place_by kind new definition named bytes ≡ place_by kind old definition named bytes
  place-by Keyed definition named bytes = refl
  place-by Entry definition named bytes = refl
  place-by Relative definition named bytes = refl

  -- it is at the same place,
  place-same : (to : Request) → place_asked new to ≡ place_asked old to
  place-same (Add file named bytes) = by-definition (definition_in (opened old))
    where
      by-definition : (o : Option Definition)
          → option_map (λ (definition : Definition). place_added new definition named bytes) o
          ≡ option_map (λ (definition : Definition). place_added old definition named bytes) o
      by-definition None = refl
      by-definition (Some definition) = ap (λ (place : List ℕ). Some place)
          (place-by definition.kind definition named bytes)
  place-same (Update file bytes) = refl
  place-same (Erase file) = refl
  place-same (Get file find update integrity) = refl
  place-same (Point file find) = refl
  place-same (EndReq file) = refl
  place-same Commit = refl
  place-same Backout = refl

  -- of the same record,
  old-same : old_record new ≡ old_record old
  old-same = ap (λ (place : Option (List ℕ)).
      cond (is_add request) None (option_and_then (record_held old) place)) (place-same request)

  -- and moves the same pairs
  abbrev move_with : Option (List ℕ) → List ℕ → Alternate → PairMove
  move_with now place alternate = record {
    alternate = alternate;
    place = place;
    given_up = field_in alternate now;
    taken = field_in alternate (new_record request);
  }

  moves-same : pair_moves new ≡ pair_moves old
  moves-same = ap (λ (now : Option (List ℕ)). option_map_or (λ (place : List ℕ).
      filter moves_key (map (move_with now place) (built_over state (base_of old))))
      (place_changed new) []) old-same
      ∙ ap (λ (place : Option (List ℕ)). option_map_or (moves_at old) place []) (place-same request)

  -- so each of them is the same:
  gone-same : gone new ≡ gone old
  gone-same = ap (λ (now : Option (List ℕ)).
      refused_if (acts_on_held request && is_none now) NotFound) old-same

  key-by : (on : Opened) (place bytes : List ℕ)
      → changes_key new on place bytes ≡ changes_key old on place bytes
  key-by Unknown place bytes = refl
  key-by (Cluster definition) place bytes = refl
  key-by (ByPath definition alternate) place bytes = ap (λ (now : Option (List ℕ)).
      other_key definition.kind definition place bytes || moves_key (move_with now place alternate))
      old-same

  key-same : (to : Request) → key_changes new to ≡ key_changes old to
  key-same (Update file bytes) = by-place (dropped old)
    where
      by-place : (o : Option (List ℕ))
          → option_map_or (λ (place : List ℕ). changes_key new (opened old) place bytes) o false
          ≡ option_map_or (λ (place : List ℕ). changes_key old (opened old) place bytes) o false
      by-place None = refl
      by-place (Some place) = key-by (opened old) place bytes
  key-same (Add file named bytes) = refl
  key-same (Erase file) = refl
  key-same (Get file find update integrity) = refl
  key-same (Point file find) = refl
  key-same (EndReq file) = refl
  key-same Commit = refl
  key-same Backout = refl

  length-by : (on : Opened) (bytes : List ℕ)
      → changes_length new on bytes ≡ changes_length old on bytes
  length-by Unknown bytes = refl
  length-by (Cluster definition) bytes =
      ap (λ (now : Option (List ℕ)). other_length definition.kind now bytes) old-same
  length-by (ByPath definition alternate) bytes =
      ap (λ (now : Option (List ℕ)). other_length definition.kind now bytes) old-same

  length-same : (to : Request) → length_changes new to ≡ length_changes old to
  length-same (Update file bytes) = length-by (opened old) bytes
  length-same (Add file named bytes) = refl
  length-same (Erase file) = refl
  length-same (Get file find update integrity) = refl
  length-same (Point file find) = refl
  length-same (EndReq file) = refl
  length-same Commit = refl
  length-same Backout = refl

  names-by : change_names new ≡ change_names old
  names-by = ap (λ (moves : List PairMove).
      map (record_name old) (option_to_list (place_changed new))
      ++ flat_map keys_moved (filter (λ (move : PairMove). move.alternate.unique) moves)) moves-same
      ∙ ap (λ (place : Option (List ℕ)). map (record_name old) (option_to_list place)
      ++ flat_map keys_moved
      (filter (λ (move : PairMove). move.alternate.unique) (pair_moves old))) (place-same request)

  names-same : (to : Request) → IsChange to → lock_names new to ≡ lock_names old to
  names-same (Add file named bytes) change = names-by
  names-same (Update file bytes) change = names-by
  names-same (Erase file) change = names-by
  names-same (Get file find update integrity) change = absurd change
  names-same (Point file find) change = absurd change
  names-same (EndReq file) change = absurd change
  names-same Commit change = absurd change
  names-same Backout change = absurd change

  absent-same : (to : Request) → IsChange to → absent_to new to ≡ absent_to old to
  absent-same (Add file named bytes) change = refl
  absent-same (Update file bytes) change = refl
  absent-same (Erase file) change = refl
  absent-same (Get file find update integrity) change = absurd change
  absent-same (Point file find) change = absurd change
  absent-same (EndReq file) change = absurd change
  absent-same Commit change = absurd change
  absent-same Backout change = absurd change

  held-same : IsChange request → held new ≡ held old
  held-same change = ap (λ (names : List LockName).
      option_map held_by (conflict_on state.locks unit (mode_asked request) names))
      (names-same request change)

  duplicate-same : duplicate new ≡ duplicate old
  duplicate-same = ap (λ (place : Option (List ℕ)). refused_if
      (is_add request && is_some (option_and_then (record_held old) place))
      (Duplicate (record { 0 = base_of old }))) (place-same request)

  key-duplicate-same : duplicate_key new ≡ duplicate_key old
  key-duplicate-same = ap (λ (moves : List PairMove).
      option_map (λ (move : PairMove). Duplicate (record { 0 = move.alternate.part }))
      (find (λ (move : PairMove). move.alternate.unique && is_taken old move) moves)) moves-same

  -- and with them all of a key-sequenced data set
  claimed-refusals : IsChange request → IsTrue (fills_base new)
      → first_of (before_room new) ≡ first_of (before_room old)
  claimed-refusals change fills = ap (λ (rest : Refusals). first_of (before_all old
      ++ not_allowed old ∷ bad_slot old ∷ bad_length old ∷ no_position old ∷ no_get old ∷ rest))
      (cons-same (gone new) (gone old) _ _ gone-same
      (cons-same (key_changed new) (key_changed old) _ _
      (ap (λ (test : Bool). refused_if test KeyChanged) (key-same request))
      (cons-same (length_changed new) (length_changed old) _ _
      (ap (λ (test : Bool). refused_if test LengthChanged) (length-same request))
      (cons-same (held new) (held old) _ _ (held-same change)
      (cons-same (absent new) (absent old) _ _ (absent-same request change)
      (cons-same (duplicate new) (duplicate old) _ _ duplicate-same
      (cons-same (duplicate_key new) (duplicate_key old) _ _ key-duplicate-same
      (cons-same (no_space new) (no_space old) [] []
      (filled-none new fills ∙ sym (filled-none old fills)) refl))))))))

-- What refuses such a change once a stage of its part is done refused it before.
pub staged-refusals : (geometry : Geometry) (unit : UnitOfRecovery) (request : Request) (part : ℕ)
    (was is : State) → IsChange request → IsStateStaged part was is
    → IsTrue (fills_base (case_of geometry is unit request))
    → first_of (before_room (case_of geometry is unit request))
    ≡ first_of (before_room (case_of geometry was unit request))
staged-refusals geometry unit request part was is change staged fills = ⊎_elim
    (λ same. ap by same)
    (λ claimed. ap by claimed.1
    ∙ claimed-refusals geometry unit request claimed.0 part was change
    (subst (λ (state : State). IsTrue (fills_base (case_of geometry state unit request))) claimed.1
    fills))
    staged
  where
    by : State → Option Refusal
    by state = first_of (before_room (case_of geometry state unit request))
