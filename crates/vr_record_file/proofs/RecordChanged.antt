-- What the change of a record of the catalog finds once it was read for update, and what it leaves of
-- the state before its unit ends.
use Rattle.std.proofs.Common.{◌≡◌, ℕ, ◌+◌, ◌==◌, ◌&&◌, Bool, true, false, cond, not, sum, nat_lt}
use Rattle.std.proofs.Common.{List, [], ◌∷◌, ◌++◌, filter, map, find, Option, Some, None, eq-eqb}
use Rattle.std.proofs.Common.{if◌then◌else◌, inl, refl, sym, ap, ◌∙◌, arith}
use Rattle.std.proofs.lemmas.Bool.Decides.{nat_tests}
use Rattle.std.proofs.lemmas.Slice.Eq.{bytes_eq-Decides}
use Rattle.std.specs.Prelude.{IfSome, bytes_eq, flat_map, is_some}
use Rattle.std.specs.List.{list_any}
use Rattle.std.specs.Option.{is_none, option_and_then, option_map, option_map_or, option_or}
use Rattle.vr_catalog.specs.Definition.{catalog_definition, is_valid_record, key_of}
use Rattle.vr_types.specs.Content.{Item, Standing, item_at, record_at}
use Rattle.vr_types.specs.Locks.{Lock, conflict_on, first_conflict}
use Rattle.vr_types.specs.LogSpace.{end_length, log_size}
use Rattle.vr_types.specs.Position.{unheld}
use Rattle.vr_types.specs.declared.geometry.Geometry.{Geometry}
use Rattle.vr_types.specs.declared.lock_name.LockName.{LockName}
use Rattle.vr_types.specs.declared.lock_name.LockName.TheVariants.{Record}
use Rattle.vr_types.specs.declared.position.Position.{Position}
use Rattle.vr_types.specs.declared.reply.Refusal.{Refusal}
use Rattle.vr_types.specs.declared.reply.Refusal.TheVariants.{BadLength, BadSlot, Duplicate}
use Rattle.vr_types.specs.declared.reply.Refusal.TheVariants.{KeyChanged, LengthChanged, LogFull}
use Rattle.vr_types.specs.declared.reply.Refusal.TheVariants.{NoGet, NoPosition, NotAllowed}
use Rattle.vr_types.specs.declared.reply.Refusal.TheVariants.{NotFound, Stopped}
use Rattle.vr_types.specs.declared.reply.Reply.TheVariants.{Done}
use Rattle.vr_types.specs.declared.request.FileRef.{FileRef}
use Rattle.vr_types.specs.declared.request.Request.{Request}
use Rattle.vr_types.specs.declared.unit.Mode.{Mode}
use Rattle.vr_types.specs.declared.unit.Mode.TheVariants.{Exclusive}
use Rattle.vr_types.specs.declared.unit.Unit.{Unit as UnitOfRecovery}
use Rattle.vr_history.specs.Case.{Case, acts_on_held, dropped, file_of, is_add, new_record}
use Rattle.vr_history.specs.Change.{PairMove, old_record, pair_moves, place_asked, place_changed}
use Rattle.vr_history.specs.Change.{record_held}
use Rattle.vr_history.specs.Effects.{drops_held, holding, image_kept, with_change}
use Rattle.vr_history.specs.Found.{stand_of}
use Rattle.vr_history.specs.LogSpace.{Logging, base_logging, log_need, loggings_at, need_for}
use Rattle.vr_history.specs.LogSpace.{new_loggings, pair_loggings}
use Rattle.vr_history.specs.Names.{change_names, lock_names, mode_asked, with_lock}
use Rattle.vr_history.specs.Opened.{Cluster, Opened, base_of, definition_in, opened}
use Rattle.vr_history.specs.RefusedFile.{bad_length, bad_slot, goes_with_kind, is_slot_zero}
use Rattle.vr_history.specs.RefusedFile.{length_wrong, no_file, not_allowed, refused_if}
use Rattle.vr_history.specs.RefusedFile.{shown_length, slot_named, stopped}
use Rattle.vr_history.specs.RefusedRecord.{absent, absent_to, changes_key, changes_length}
use Rattle.vr_history.specs.RefusedRecord.{duplicate, duplicate_key, gone, has_record, held}
use Rattle.vr_history.specs.RefusedRecord.{held_by, is_nowhere, is_sequential, is_taken}
use Rattle.vr_history.specs.RefusedRecord.{key_changed, key_changes, length_changed}
use Rattle.vr_history.specs.RefusedRecord.{length_changes, no_get, no_position}
use Rattle.vr_history.specs.RefusedRoom.{free_areas, lacks, log_full, need_at, no_space}
use Rattle.vr_history.specs.Replies.{CanEnd, MayReply, all_refusals, done_by, feedback_if}
use Rattle.vr_history.specs.Replies.{first_of, is_shared, refused_or}
use Rattle.vr_history.specs.State.{State, is_kept, is_live, is_logged}
use Rattle.vr_history.specs.Step.{after_asked, case_of}
use Rattle.vr_answer.specs.After.{IsChanged}
use Rattle.vr_answer.proofs.CallerLemmas.{after_change, moves_none, names_at}
use Rattle.vr_record_file.specs.Defining.{entry_name}
use Rattle.vr_record_file.specs.CatalogEdit.{RecordChange, change_asked, change_made, image_of}
use Rattle.vr_record_file.specs.CatalogEdit.{logged_of, need_of}
use Rattle.vr_record_file.proofs.CatalogFile.{catalog_known, catalog_opened, passed}
use Rattle.vr_record_file.proofs.RecordGot.{entry_held, record_there}
use Rattle.vr_record_file.proofs.RecordSteps.{IsStepMade, MayStep, need_one, step_need}
use Rattle.vr_record_file.proofs.Retaken.{none_with_own, taken_again}

-- the state once the record was replaced or erased
abbrev pub with_entry : Geometry → State → UnitOfRecovery → FileRef → Option (List ℕ) → List ℕ
    → State
with_entry geometry old unit on bytes place =
    after_asked (case_of geometry (entry_held geometry old unit on place) unit
    (change_asked on bytes)) (Done 0 (Some place) None)

-- ---- what a PUT for update and an ERASE have in common

module _ (on : FileRef) where
  pub change_file : (bytes : Option (List ℕ)) → file_of (change_asked on bytes) ≡ Some on
  change_file (Some new) = refl
  change_file None = refl

  held_place : (case : Case) (bytes : Option (List ℕ))
      → place_asked case (change_asked on bytes) ≡ dropped case
  held_place case (Some new) = refl
  held_place case None = refl

  not_add : (bytes : Option (List ℕ)) → is_add (change_asked on bytes) ≡ false
  not_add (Some new) = refl
  not_add None = refl

  acts : (bytes : Option (List ℕ)) → acts_on_held (change_asked on bytes) ≡ true
  acts (Some new) = refl
  acts None = refl

  names_slot : (bytes : Option (List ℕ)) → slot_named (change_asked on bytes) ≡ None
  names_slot (Some new) = refl
  names_slot None = refl

  is_direct : (bytes : Option (List ℕ)) → is_sequential (change_asked on bytes) ≡ false
  is_direct (Some new) = refl
  is_direct None = refl

  is_exclusive : (bytes : Option (List ℕ)) → mode_asked (change_asked on bytes) ≡ Exclusive
  is_exclusive (Some new) = refl
  is_exclusive None = refl

  new_is : (bytes : Option (List ℕ)) → new_record (change_asked on bytes) ≡ bytes
  new_is (Some new) = refl
  new_is None = refl

  reads_none : (case : Case) (bytes : Option (List ℕ))
      → absent_to case (change_asked on bytes) ≡ None
  reads_none case (Some new) = refl
  reads_none case None = refl

  locks_of : (case : Case) (bytes : Option (List ℕ))
      → lock_names case (change_asked on bytes) ≡ change_names case
  locks_of case (Some new) = refl
  locks_of case None = refl

  ends : (case : Case) (bytes : Option (List ℕ)) → CanEnd case (change_asked on bytes)
  ends case (Some new) = tt
  ends case None = tt

  allows : (bytes : Option (List ℕ))
      → goes_with_kind (Cluster catalog_definition) (change_asked on bytes) ≡ true
  allows (Some new) = refl
  allows None = refl

  right_length : (bytes : Option (List ℕ))
      → IfSome bytes (λ new. is_valid_record catalog_definition new ≡ true)
      → length_wrong (Cluster catalog_definition) (change_asked on bytes) ≡ None
  right_length (Some new) valid =
      ap (λ (b : Bool). refused_if (not b) (BadLength (shown_length new))) valid
  right_length None valid = refl

  module _ (case : Case) (place : List ℕ) (at : dropped case ≡ Some place)
      (catalog : opened case ≡ Cluster catalog_definition) where
    keeps : (bytes : Option (List ℕ))
        → IfSome bytes (λ new. key_of catalog_definition new ≡ place)
        → key_changes case (change_asked on bytes) ≡ false
    keeps (Some new) key =
        ap (λ (o : Option (List ℕ)).
        option_map_or (λ held. changes_key case (opened case) held new) o false) at
        ∙ ap (λ (o : Opened). changes_key case o place new) catalog
        ∙ ap (λ (k : List ℕ). not (bytes_eq k place)) key
        ∙ ap not ((bytes_eq-Decides place place).1 refl)
    keeps None key = refl

    keeps_length : (bytes : Option (List ℕ))
        → length_changes case (change_asked on bytes) ≡ false
    keeps_length (Some new) = ap (λ (o : Opened). changes_length case o new) catalog
    keeps_length None = refl

  done_is : (case : Case) (place : List ℕ) (bytes : Option (List ℕ)) → pair_moves case ≡ []
      → place_changed case ≡ Some place
      → done_by case (change_asked on bytes) ≡ Done 0 (Some place) None
  done_is case place (Some new) none at =
      ap (λ (moves : List PairMove). Done (feedback_if (list_any (is_shared case) moves))
      (place_changed case) None) none
      ∙ ap (λ (o : Option (List ℕ)). Done 0 o None) at
  done_is case place None none at = ap (λ (o : Option (List ℕ)). Done 0 o None) at

-- a key-sequenced data set needs no area for a place
no_need : (case : Case) (place : List ℕ) (bytes : Option (List ℕ))
    → option_and_then (need_at case catalog_definition place) bytes ≡ None
no_need case place (Some new) = refl
no_need case place None = refl

-- a file that held a place, and lets it go, holds nothing
let_go_again : (b : Bool) (place : List ℕ) (position : Position)
    → (if b then unheld
    (if b then holding place (if b then unheld position else position) else
    if b then unheld position else position) else
    if b then holding place (if b then unheld position else position) else
    if b then unheld position else position) ≡ (if b then unheld position else position)
let_go_again true place position = refl
let_go_again false place position = refl

module _ (geometry : Geometry) (old : State) (unit : UnitOfRecovery) (on : FileRef)
    (change : RecordChange) (may : MayStep geometry old unit on change) (before : List ℕ)
    (stood : change.old ≡ Some before)
    (valid : IfSome change.new (λ new. is_valid_record catalog_definition new ≡ true))
    (keeps_key : IfSome change.new (λ new. key_of catalog_definition new ≡ change.place)) where
  abbrev place : List ℕ
  place = change.place

  abbrev bytes : Option (List ℕ)
  bytes = change.new

  abbrev got : State
  got = entry_held geometry old unit on place

  abbrev asks : Request
  asks = change_asked on bytes

  abbrev case : Case
  case = case_of geometry got unit asks

  abbrev left : State
  left = with_entry geometry old unit on bytes place

  -- ---- what the change finds

  on_catalog : opened case ≡ Cluster catalog_definition
  on_catalog = catalog_opened case on (change_file on bytes) may.known may.on_catalog
      may.no_path

  base_at : base_of case ≡ 0
  base_at = ap (λ (o : Option FileRef). option_map_or (λ (on : FileRef). on.base.0) o 0)
      (change_file on bytes) ∙ may.on_catalog

  -- its file holds the place,
  abbrev let_go_there : Position
  let_go_there = (drops_held unit.deck (Some on) old).positions unit.deck on.slot

  mine : (unit.deck == unit.deck && on.slot == on.slot) ≡ true
  mine =
      ap (λ (b : Bool). b && on.slot == on.slot) (eq-eqb unit.deck unit.deck refl)
      ∙ eq-eqb on.slot on.slot refl

  dropped_is : dropped case ≡ Some place
  dropped_is =
      ap (λ (o : Option FileRef). option_and_then
      (λ (on : FileRef). (got.positions unit.deck on.slot).held) o) (change_file on bytes)
      ∙ ap (λ (b : Bool). (if b then holding place let_go_there else let_go_there).held) mine

  place_at : place_changed case ≡ Some place
  place_at = held_place on case bytes ∙ dropped_is

  -- where the record stands,
  old_there : old_record case ≡ Some before
  old_there =
      ap (λ (b : Bool). cond b None (option_and_then (record_held case) (place_changed case)))
      (not_add on bytes)
      ∙ ap (λ (o : Option (List ℕ)). option_and_then (record_held case) o) place_at
      ∙ ap (λ (n : ℕ). record_at (old.contents n) place) base_at
      ∙ record_there (old.contents 0) place before (may.stands ∙ ap (option_map Standing) stood)

  -- and no alternate index is over it
  no_moves : pair_moves case ≡ []
  no_moves = moves_none case may.unbuilt

  one_need : new_loggings case ≡ base_logging case place ∷ []
  one_need =
      ap (λ (o : Option (List ℕ)).
      filter (λ logging. not (is_logged got unit logging.part logging.place))
      (option_map_or (loggings_at case) o [])) place_at
      ∙ ap (λ (moves : List PairMove).
      filter (λ logging. not (is_logged got unit logging.part logging.place))
      (base_logging case place ∷ flat_map pair_loggings moves)) no_moves
      ∙ ap (λ (b : Bool). cond (not b) (base_logging case place ∷ []) [])
      (ap (λ (n : ℕ). is_logged old unit n place) base_at ∙ may.not_logged)

  need_is : log_need case ≡ step_need old unit change
  need_is =
      ap (λ (l : List Logging). sum (map need_for l) + cond (is_live got unit) 0 end_length)
      one_need
      ∙ ap (λ (o : Option (List ℕ)).
      sum (map need_for (record { part = base_of case; place = place; old = o } ∷ []))
      + cond (is_live old unit) 0 end_length) (old_there ∙ sym stood)
      ∙ need_one (need_of change) (cond (is_live old unit) 0 end_length)

  -- no refusal has its cause
  is_allowed : not_allowed case ≡ None
  is_allowed =
      ap (λ (o : Opened). refused_if (not (goes_with_kind o asks)) NotAllowed) on_catalog
      ∙ ap (λ (b : Bool). refused_if (not b) NotAllowed) (allows on bytes)

  no_slot : bad_slot case ≡ None
  no_slot = ap (λ (o : Option (List ℕ)). option_and_then
      (λ at. refused_if (is_slot_zero (opened case) at) BadSlot) o) (names_slot on bytes)

  length_right : bad_length case ≡ None
  length_right = ap (λ (o : Opened). length_wrong o asks) on_catalog
      ∙ right_length on bytes valid

  stays : no_position case ≡ None
  stays = ap (λ (b : Bool). refused_if (b && option_map_or is_nowhere (stand_of case) false)
      NoPosition) (is_direct on bytes)

  has_get : no_get case ≡ None
  has_get =
      ap (λ (b : Bool). refused_if (b && is_none (dropped case)) NoGet) (acts on bytes)
      ∙ ap (λ (o : Option (List ℕ)). refused_if (is_none o) NoGet) dropped_is

  is_there : gone case ≡ None
  is_there =
      ap (λ (b : Bool). refused_if (b && is_none (old_record case)) NotFound) (acts on bytes)
      ∙ ap (λ (o : Option (List ℕ)). refused_if (is_none o) NotFound) old_there

  key_stays : key_changed case ≡ None
  key_stays = ap (λ (b : Bool). refused_if b KeyChanged)
      (keeps on case place dropped_is on_catalog bytes keeps_key)

  length_stays : length_changed case ≡ None
  length_stays = ap (λ (b : Bool). refused_if b LengthChanged)
      (keeps_length on case place dropped_is on_catalog bytes)

  unlocked : first_conflict (with_lock unit Exclusive (entry_name place) old.locks) unit Exclusive
      (entry_name place) ≡ None
  unlocked = none_with_own unit (entry_name place) (entry_name place) old.locks may.unlocked

  no_lock : held case ≡ None
  no_lock =
      ap (λ (mode : Mode). option_map held_by
      (conflict_on got.locks unit mode (lock_names case asks))) (is_exclusive on bytes)
      ∙ ap (λ (names : List LockName). option_map held_by
      (conflict_on got.locks unit Exclusive names))
      (locks_of on case bytes ∙ names_at case place may.unbuilt place_at)
      ∙ ap (λ (n : ℕ). option_map held_by (option_or (first_conflict got.locks unit Exclusive
      (Record (record { 0 = n }) place)) None)) base_at
      ∙ ap (λ (n : ℕ). option_map held_by (option_or (first_conflict
      (with_lock unit Exclusive (Record (record { 0 = n }) place) old.locks) unit Exclusive
      (entry_name place)) None)) may.on_catalog
      ∙ ap (λ (o : Option Lock). option_map held_by (option_or o None)) unlocked

  is_read : absent case ≡ None
  is_read = reads_none on case bytes

  no_duplicate : duplicate case ≡ None
  no_duplicate = ap (λ (b : Bool). refused_if (b && has_record case)
      (Duplicate (record { 0 = base_of case }))) (not_add on bytes)

  no_duplicate_key : duplicate_key case ≡ None
  no_duplicate_key =
      ap (λ (moves : List PairMove). option_map (λ move. Duplicate
      (record { 0 = move.alternate.part }))
      (find (λ move. move.alternate.unique && is_taken case move) moves)) no_moves

  has_space : no_space case ≡ None
  has_space =
      ap (λ (o : Opened). option_and_then (lacks (free_areas case)) (option_and_then
      (λ definition. option_and_then
      (λ at. option_and_then (need_at case definition at) (new_record asks))
      (place_changed case)) (definition_in o))) on_catalog
      ∙ ap (λ (o : Option (List ℕ)). option_and_then (lacks (free_areas case)) (option_and_then
      (λ at. option_and_then (need_at case catalog_definition at) (new_record asks)) o)) place_at
      ∙ ap (λ (o : Option ℕ). option_and_then (lacks (free_areas case)) o)
      (no_need case place (new_record asks))

  fits : nat_lt (log_size geometry) (old.used + step_need old unit change) ≡ false
  fits = grind (arith, nat_tests, may.room)

  has_log : log_full case ≡ None
  has_log =
      ap (λ (o : Option (List ℕ)). refused_if (is_some o
      && nat_lt (log_size geometry) (old.used + log_need case))
      (LogFull old.used (log_need case) (log_size geometry))) place_at
      ∙ ap (λ (n : ℕ). refused_if (nat_lt (log_size geometry) (old.used + n))
      (LogFull old.used n (log_size geometry))) need_is
      ∙ ap (λ (b : Bool). refused_if b
      (LogFull old.used (step_need old unit change) (log_size geometry))) fits

  none_refuses : first_of (all_refusals case) ≡ None
  none_refuses =
      passed (no_file case) _
      (catalog_known case on (change_file on bytes) on_catalog may.of_utilities)
      ∙ passed (stopped case) _ (ap (option_map Stopped) may.going)
      ∙ passed (not_allowed case) _ is_allowed
      ∙ passed (bad_slot case) _ no_slot
      ∙ passed (bad_length case) _ length_right
      ∙ passed (no_position case) _ stays
      ∙ passed (no_get case) _ has_get
      ∙ passed (gone case) _ is_there
      ∙ passed (key_changed case) _ key_stays
      ∙ passed (length_changed case) _ length_stays
      ∙ passed (held case) _ no_lock
      ∙ passed (absent case) _ is_read
      ∙ passed (duplicate case) _ no_duplicate
      ∙ passed (duplicate_key case) _ no_duplicate_key
      ∙ passed (no_space case) _ has_space
      ∙ passed (log_full case) _ has_log

  pub may_change : MayReply case (Done 0 (Some place) None)
  may_change = inl (
    sym (ap (λ (o : Option Refusal). refused_or o (done_by case asks)) none_refuses
        ∙ done_is on case place bytes no_moves place_at),
    λ none. ends on case bytes,
  )

  -- ---- what it leaves

  made : IsChanged case place left
  made = after_change geometry got unit asks place 0 (Some place) None may.unbuilt place_at

  contents_with : left.contents ≡ with_change (change_made change) old.contents
  contents_with =
      made.contents
      ∙ ap (λ (n : ℕ). with_change (record {
        part = n;
        place = place;
        new = option_map Standing (new_record asks);
      }) old.contents) base_at
      ∙ ap (λ (o : Option (List ℕ)). with_change (record {
        part = 0;
        place = place;
        new = option_map Standing o;
      }) old.contents) (new_is on bytes)

  befores_with : left.befores ≡ old.befores ++ image_of unit change ∷ []
  befores_with =
      made.befores
      ∙ ap (λ (b : Bool). cond b old.befores (old.befores ++ image_kept got unit
      (record {
        part = base_of case;
        place = place;
        new = option_map Standing (new_record asks);
      }) ∷ [])) (ap (λ (n : ℕ). is_kept old unit n place) base_at ∙ may.not_kept)
      ∙ ap (λ (n : ℕ). old.befores ++ record {
        unit = unit;
        part = n;
        place = place;
        old = item_at (old.contents n) place;
      } ∷ []) base_at
      ∙ ap (λ (o : Option Item). old.befores
      ++ record { unit = unit; part = 0; place = place; old = o } ∷ []) may.stands

  logged_with : left.logged ≡ old.logged ++ logged_of unit change ∷ []
  logged_with =
      made.logged
      ∙ ap (λ (b : Bool). old.logged ++ cond b []
      (record { unit = unit; part = base_of case; place = place } ∷ []))
      (ap (λ (n : ℕ). is_logged old unit n place) base_at ∙ may.not_logged)
      ∙ ap (λ (n : ℕ). old.logged ++ record { unit = unit; part = n; place = place } ∷ []) base_at

  locks_with : left.locks ≡ with_lock unit Exclusive (entry_name place) old.locks
  locks_with =
      made.locks
      ∙ ap (λ (n : ℕ). with_lock unit Exclusive (Record (record { 0 = n }) place) got.locks)
      base_at
      ∙ ap (λ (n : ℕ). with_lock unit Exclusive (entry_name place)
      (with_lock unit Exclusive (Record (record { 0 = n }) place) old.locks)) may.on_catalog
      ∙ taken_again unit (entry_name place) old.locks

  positions_with : (deck slot : ℕ) → left.positions deck slot
      ≡ (drops_held unit.deck (Some on) old).positions deck slot
  positions_with deck slot =
      ap (λ (p : ℕ → ℕ → Position). p deck slot) made.positions
      ∙ ap (λ (o : Option FileRef). (drops_held unit.deck o got).positions deck slot)
      (change_file on bytes)
      ∙ let_go_again (deck == unit.deck && slot == on.slot) place (old.positions deck slot)

  pub changed_is : IsStepMade unit on change old left
  changed_is = record {
    contents = contents_with;
    befores = befores_with;
    logged = logged_with;
    used = made.used ∙ ap (λ (n : ℕ). old.used + n) need_is;
    locks = locks_with;
    positions = positions_with;
    numbers = made.numbers;
    owned = made.owned;
    stopped = made.stopped ∙ may.going;
  }
