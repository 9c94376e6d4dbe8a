-- What a record that is added to the catalog finds, and what it leaves of the state before its unit
-- ends.
use Rattle.std.proofs.Common.{◌≡◌, ℕ, ◌+◌, ◌&&◌, Bool, true, false, not, cond}
use Rattle.std.proofs.Common.{nat_lt, sum, List, [], ◌∷◌, ◌++◌, filter, map, find, Option, Some}
use Rattle.std.proofs.Common.{None}
use Rattle.std.proofs.Common.{inl, refl, sym, ap, ◌∙◌, arith}
use Rattle.std.proofs.lemmas.Bool.Decides.{nat_tests}
use Rattle.std.specs.Prelude.{flat_map, is_some}
use Rattle.std.specs.List.{list_any}
use Rattle.std.specs.Option.{option_and_then, option_map, option_map_or, option_or}
use Rattle.vr_catalog.specs.Definition.{catalog_definition, is_valid_record, key_of}
use Rattle.vr_types.specs.declared.position.Position.{Position}
use Rattle.vr_types.specs.declared.request.FileRef.{FileRef}
use Rattle.vr_types.specs.Content.{Item, Standing, item_at, record_at}
use Rattle.vr_types.specs.Locks.{Lock, conflict_on, first_conflict}
use Rattle.vr_types.specs.LogSpace.{end_length, log_size}
use Rattle.vr_types.specs.declared.geometry.Geometry.{Geometry}
use Rattle.vr_types.specs.declared.lock_name.LockName.{LockName}
use Rattle.vr_types.specs.declared.lock_name.LockName.TheVariants.{Record}
use Rattle.vr_types.specs.declared.reply.Refusal.{Refusal}
use Rattle.vr_types.specs.declared.reply.Refusal.TheVariants.{BadLength, Duplicate, LogFull}
use Rattle.vr_types.specs.declared.reply.Refusal.TheVariants.{NotAllowed, Stopped}
use Rattle.vr_types.specs.declared.reply.Reply.TheVariants.{Done}
use Rattle.vr_types.specs.declared.request.Request.{Request}
use Rattle.vr_types.specs.declared.request.Request.TheVariants.{Add}
use Rattle.vr_types.specs.declared.unit.Mode.TheVariants.{Exclusive}
use Rattle.vr_types.specs.declared.unit.Unit.{Unit as UnitOfRecovery}
use Rattle.vr_history.specs.Case.{Case, new_record}
use Rattle.vr_history.specs.Change.{PairMove, pair_moves, place_added, place_changed}
use Rattle.vr_history.specs.Change.{record_held}
use Rattle.vr_history.specs.Effects.{drops_held, image_kept, with_change}
use Rattle.vr_history.specs.LogSpace.{Logging, base_logging, log_need, loggings_at, need_for}
use Rattle.vr_history.specs.LogSpace.{new_loggings, pair_loggings}
use Rattle.vr_history.specs.Names.{with_lock}
use Rattle.vr_history.specs.Opened.{Cluster, Opened, base_of}
use Rattle.vr_history.specs.Opened.{definition_in, opened}
use Rattle.vr_history.specs.RefusedFile.{bad_length, goes_with_kind}
use Rattle.vr_history.specs.RefusedFile.{length_wrong, no_file}
use Rattle.vr_history.specs.RefusedFile.{not_allowed, refused_if, shown_length, stopped}
use Rattle.vr_history.specs.RefusedRecord.{duplicate, duplicate_key, held, held_by, is_taken}
use Rattle.vr_history.specs.RefusedRoom.{free_areas, lacks, log_full, need_at, no_space}
use Rattle.vr_history.specs.Replies.{MayReply, all_refusals}
use Rattle.vr_history.specs.Replies.{done_by, feedback_if, first_of, is_shared, refused_or}
use Rattle.vr_history.specs.State.{State, is_kept, is_live, is_logged}
use Rattle.vr_history.specs.Step.{after_asked, case_of}
use Rattle.vr_answer.specs.After.{IsChanged}
use Rattle.vr_answer.proofs.CallerLemmas.{after_change, moves_none, names_at}
use Rattle.vr_record_file.specs.CatalogEdit.{RecordChange, change_made, image_of, logged_of}
use Rattle.vr_record_file.specs.CatalogEdit.{need_of}
use Rattle.vr_record_file.proofs.CatalogFile.{catalog_known, catalog_opened, passed}
use Rattle.vr_record_file.proofs.MoreEntries.{no_record}
use Rattle.vr_record_file.proofs.RecordSteps.{IsStepMade, MayStep, need_one, step_need}

-- the state once the record was added
abbrev pub with_added : Geometry → State → UnitOfRecovery → FileRef → List ℕ → List ℕ → State
with_added geometry old unit on bytes place =
    after_asked (case_of geometry old unit (Add on None bytes)) (Done 0 (Some place) None)

module _ (geometry : Geometry) (old : State) (unit : UnitOfRecovery) (on : FileRef)
    (change : RecordChange) (may : MayStep geometry old unit on change) (bytes : List ℕ)
    (absent : change.old ≡ None) (given : change.new ≡ Some bytes)
    (valid : is_valid_record catalog_definition bytes ≡ true)
    (key_is : key_of catalog_definition bytes ≡ change.place) where
  abbrev place : List ℕ
  place = change.place

  abbrev adding : Request
  adding = Add on None bytes

  abbrev case : Case
  case = case_of geometry old unit adding

  abbrev left : State
  left = with_added geometry old unit on bytes place

  none_there : item_at (old.contents 0) place ≡ None
  none_there = may.stands ∙ ap (option_map Standing) absent

  -- ---- what the record finds

  -- its file is on the catalog itself,
  on_catalog : opened case ≡ Cluster catalog_definition
  on_catalog = catalog_opened case on refl may.known may.on_catalog may.no_path

  -- its place is its key,
  place_at : place_changed case ≡ Some place
  place_at =
      ap (λ (o : Opened). option_map (λ definition. place_added case definition None bytes)
      (definition_in o)) on_catalog
      ∙ ap (λ (p : List ℕ). Some p) key_is

  -- and no alternate index is over it
  no_moves : pair_moves case ≡ []
  no_moves = moves_none case may.unbuilt

  not_logged_here : is_logged old unit (base_of case) place ≡ false
  not_logged_here = ap (λ (n : ℕ). is_logged old unit n place) may.on_catalog ∙ may.not_logged

  one_need : new_loggings case ≡ base_logging case place ∷ []
  one_need =
      ap (λ (o : Option (List ℕ)).
      filter (λ logging. not (is_logged old unit logging.part logging.place))
      (option_map_or (loggings_at case) o [])) place_at
      ∙ ap (λ (moves : List PairMove).
      filter (λ logging. not (is_logged old unit logging.part logging.place))
      (base_logging case place ∷ flat_map pair_loggings moves)) no_moves
      ∙ ap (λ (b : Bool). cond (not b) (base_logging case place ∷ []) [])
      not_logged_here

  need_is : log_need case ≡ step_need old unit change
  need_is =
      ap (λ (l : List Logging). sum (map need_for l) + cond (is_live old unit) 0 end_length)
      one_need
      ∙ ap (λ (o : Option (List ℕ)).
      sum (map need_for (record { part = base_of case; place = place; old = o } ∷ []))
      + cond (is_live old unit) 0 end_length) (sym absent)
      ∙ need_one (need_of change) (cond (is_live old unit) 0 end_length)

  -- no refusal has its cause
  no_fault_file : no_file case ≡ None
  no_fault_file = catalog_known case on refl on_catalog may.of_utilities

  no_stop : stopped case ≡ None
  no_stop = ap (option_map Stopped) may.going

  is_allowed : not_allowed case ≡ None
  is_allowed = ap (λ (o : Opened). refused_if (not (goes_with_kind o adding)) NotAllowed) on_catalog

  length_right : bad_length case ≡ None
  length_right =
      ap (λ (o : Opened). length_wrong o adding) on_catalog
      ∙ ap (λ (b : Bool). refused_if (not b) (BadLength (shown_length bytes))) valid

  no_lock : held case ≡ None
  no_lock =
      ap (λ (names : List LockName). option_map held_by
      (conflict_on old.locks unit Exclusive names))
      (names_at case place may.unbuilt place_at)
      ∙ ap (λ (n : ℕ). option_map held_by (option_or (first_conflict old.locks unit Exclusive
      (Record (record { 0 = n }) place)) None)) may.on_catalog
      ∙ ap (λ (o : Option Lock). option_map held_by (option_or o None)) may.unlocked

  no_duplicate : duplicate case ≡ None
  no_duplicate =
      ap (λ (o : Option (List ℕ)). refused_if (is_some (option_and_then (record_held case) o))
      (Duplicate (record { 0 = base_of case }))) place_at
      ∙ ap (λ (n : ℕ). refused_if (is_some (record_at (old.contents n) place))
      (Duplicate (record { 0 = n }))) may.on_catalog
      ∙ ap (λ (o : Option (List ℕ)). refused_if (is_some o) (Duplicate (record { 0 = 0 })))
      (no_record (old.contents 0) place none_there)

  no_duplicate_key : duplicate_key case ≡ None
  no_duplicate_key =
      ap (λ (moves : List PairMove). option_map (λ move. Duplicate
      (record { 0 = move.alternate.part }))
      (find (λ move. move.alternate.unique && is_taken case move) moves)) no_moves

  has_space : no_space case ≡ None
  has_space =
      ap (λ (o : Opened). option_and_then (lacks (free_areas case)) (option_and_then
      (λ definition. option_and_then
      (λ at. option_and_then (need_at case definition at) (new_record adding))
      (place_changed case)) (definition_in o))) on_catalog
      ∙ ap (λ (o : Option (List ℕ)). option_and_then (lacks (free_areas case)) (option_and_then
      (λ at. option_and_then (need_at case catalog_definition at) (new_record adding)) o)) place_at

  fits : nat_lt (log_size geometry) (old.used + step_need old unit change) ≡ false
  fits = grind (arith, nat_tests, may.room)

  has_log : log_full case ≡ None
  has_log =
      ap (λ (o : Option (List ℕ)). refused_if (is_some o
      && nat_lt (log_size geometry) (old.used + log_need case))
      (LogFull old.used (log_need case) (log_size geometry))) place_at
      ∙ ap (λ (n : ℕ). refused_if (nat_lt (log_size geometry) (old.used + n))
      (LogFull old.used n (log_size geometry))) need_is
      ∙ ap (λ (b : Bool). refused_if b
      (LogFull old.used (step_need old unit change) (log_size geometry))) fits

  none_refuses : first_of (all_refusals case) ≡ None
  none_refuses =
      passed (no_file case) _ no_fault_file
      ∙ passed (stopped case) _ no_stop
      ∙ passed (not_allowed case) _ is_allowed
      ∙ passed (bad_length case) _ length_right
      ∙ passed (held case) _ no_lock
      ∙ passed (duplicate case) _ no_duplicate
      ∙ passed (duplicate_key case) _ no_duplicate_key
      ∙ passed (no_space case) _ has_space
      ∙ passed (log_full case) _ has_log

  pub may_add : MayReply case (Done 0 (Some place) None)
  may_add = inl (
    sym (ap (λ (o : Option Refusal). refused_or o (done_by case adding)) none_refuses
        ∙ ap (λ (moves : List PairMove). Done (feedback_if (list_any (is_shared case) moves))
        (place_changed case) None) no_moves
        ∙ ap (λ (o : Option (List ℕ)). Done 0 o None) place_at),
    λ none. tt,
  )

  -- ---- what it leaves

  made : IsChanged case place left
  made = after_change geometry old unit adding place 0 (Some place) None may.unbuilt
      place_at

  befores_with : left.befores ≡ old.befores ++ image_of unit change ∷ []
  befores_with =
      made.befores
      ∙ ap (λ (b : Bool). cond b old.befores (old.befores ++ image_kept old unit
      (record { part = base_of case; place = place; new = Some (Standing bytes) }) ∷ []))
      (ap (λ (n : ℕ). is_kept old unit n place) may.on_catalog ∙ may.not_kept)
      ∙ ap (λ (n : ℕ). old.befores ++ record {
        unit = unit;
        part = n;
        place = place;
        old = item_at (old.contents n) place;
      } ∷ []) may.on_catalog
      ∙ ap (λ (o : Option Item). old.befores
      ++ record { unit = unit; part = 0; place = place; old = o } ∷ []) may.stands

  logged_with : left.logged ≡ old.logged ++ logged_of unit change ∷ []
  logged_with =
      made.logged
      ∙ ap (λ (b : Bool). old.logged ++ cond b []
      (record { unit = unit; part = base_of case; place = place } ∷ []))
      not_logged_here
      ∙ ap (λ (n : ℕ). old.logged ++ record { unit = unit; part = n; place = place } ∷ [])
      may.on_catalog

  pub positions_are : left.positions ≡ (drops_held unit.deck (Some on) old).positions
  positions_are = made.positions

  contents_with : left.contents ≡ with_change (change_made change) old.contents
  contents_with =
      made.contents
      ∙ ap (λ (n : ℕ). with_change
      (record { part = n; place = place; new = Some (Standing bytes) }) old.contents)
      may.on_catalog
      ∙ ap (λ (o : Option (List ℕ)). with_change
      (record { part = 0; place = place; new = option_map Standing o }) old.contents) (sym given)

  pub added_is : IsStepMade unit on change old left
  added_is = record {
    contents = contents_with;
    befores = befores_with;
    logged = logged_with;
    used = made.used ∙ ap (λ (n : ℕ). old.used + n) need_is;
    locks = made.locks
        ∙ ap (λ (n : ℕ). with_lock unit Exclusive (Record (record { 0 = n }) place) old.locks)
        may.on_catalog;
    positions = λ deck slot. ap (λ (p : ℕ → ℕ → Position). p deck slot) made.positions;
    numbers = made.numbers;
    owned = made.owned;
    stopped = made.stopped ∙ may.going;
  }
