-- What the GET of a record of the catalog that is changed finds, and what it leaves of the state.
use Rattle.std.proofs.Common.{◌≡◌, ℕ, true, false, not, length, map, List, [], ◌∷◌, Option, Some, None}
use Rattle.std.proofs.Common.{nat_eq, inl, refl, sym, ap, ◌∙◌}
use Rattle.std.proofs.lemmas.Option.{none-some, same_Some}
use Rattle.std.specs.Option.{is_none, option_and_then, option_map, option_map_or, option_or}
use Rattle.std.specs.Option.{option_to_list}
use Rattle.std.specs.declared.cmp.Ordering.{Ordering}
use Rattle.std.specs.declared.cmp.Ordering.TheVariants.{Less, Equal as Same, Greater}
use Rattle.vr_catalog.specs.Definition.{catalog_definition}
use Rattle.vr_types.specs.Content.{Content, Item, Standing, found_by, item_at, place_cmp}
use Rattle.vr_types.specs.Content.{record_at, record_of}
use Rattle.vr_types.specs.Locks.{Lock, conflict_on, first_conflict}
use Rattle.vr_types.specs.declared.geometry.Geometry.{Geometry}
use Rattle.vr_types.specs.declared.lock_name.LockName.TheVariants.{Record}
use Rattle.vr_types.specs.declared.reply.Refusal.{Refusal}
use Rattle.vr_types.specs.declared.reply.Refusal.TheVariants.{BadLength, BadSlot, NotAllowed}
use Rattle.vr_types.specs.declared.reply.Refusal.TheVariants.{Stopped}
use Rattle.vr_types.specs.declared.reply.Reply.TheVariants.{Done}
use Rattle.vr_types.specs.declared.request.FileRef.{FileRef}
use Rattle.vr_types.specs.declared.request.Find.TheVariants.{Equal}
use Rattle.vr_types.specs.declared.request.Request.{Request}
use Rattle.vr_types.specs.declared.request.Request.TheVariants.{Get}
use Rattle.vr_types.specs.declared.unit.Integrity.TheVariants.{Nri}
use Rattle.vr_types.specs.declared.unit.Mode.TheVariants.{Exclusive}
use Rattle.vr_types.specs.declared.unit.Unit.{Unit as UnitOfRecovery}
use Rattle.vr_history.specs.Case.{Case, new_record}
use Rattle.vr_history.specs.Change.{place_changed, record_held}
use Rattle.vr_history.specs.Found.{Candidate, found, place_in, place_read}
use Rattle.vr_history.specs.Names.{record_name}
use Rattle.vr_history.specs.Opened.{Cluster, Opened, definition_in, opened}
use Rattle.vr_history.specs.RefusedFile.{bad_length, bad_slot, goes_with_kind, is_slot_zero}
use Rattle.vr_history.specs.RefusedFile.{length_wrong, no_file, not_allowed, refused_if}
use Rattle.vr_history.specs.RefusedFile.{shown_length, stopped}
use Rattle.vr_history.specs.RefusedRecord.{absent, absent_for, held, held_by, record_read}
use Rattle.vr_history.specs.RefusedRoom.{free_areas, lacks, need_at, no_space}
use Rattle.vr_history.specs.Replies.{MayReply, all_refusals, done_by, feedback_if, first_of}
use Rattle.vr_history.specs.Replies.{has_later, read_feedback, refused_or}
use Rattle.vr_history.specs.State.{State}
use Rattle.vr_history.specs.Step.{after_asked, case_of}
use Rattle.vr_answer.specs.After.{held_at}
use Rattle.vr_answer.proofs.CallerLemmas.{after_read}
use Rattle.vr_record_file.specs.CatalogEdit.{RecordChange}
use Rattle.vr_record_file.proofs.CatalogFile.{catalog_known, catalog_opened, passed}
use Rattle.vr_record_file.proofs.RecordSteps.{MayStep}

-- a record that stands at a place is the record there
there_by : (here : Ordering) (item : Item) (further : Option Item) (bytes : List ℕ)
    (record_further : Option (List ℕ))
    → (further ≡ Some (Standing bytes) → record_further ≡ Some bytes)
    → found_by here (Some item) further ≡ Some (Standing bytes)
    → found_by here (record_of item) record_further ≡ Some bytes
there_by Less item further bytes record_further so stands = so stands
there_by Same item further bytes record_further so stands =
    ap record_of (same_Some item (Standing bytes) stands)
there_by Greater item further bytes record_further so stands = so stands

pub record_there : (content : Content) (place bytes : List ℕ)
    → item_at content place ≡ Some (Standing bytes) → record_at content place ≡ Some bytes
record_there [] place bytes stands = absurd (none-some (Standing bytes) stands)
record_there (placed ∷ content) place bytes stands =
    there_by (place_cmp place placed.0) placed.1 (item_at content place) bytes
    (record_at content place) (record_there content place bytes) stands

-- the GET, and the state in which its file holds the place
abbrev pub getting : FileRef → List ℕ → Request
getting on place = Get on (Equal place) true Nri

abbrev pub entry_held : Geometry → State → UnitOfRecovery → FileRef → List ℕ → State
entry_held geometry old unit on place =
    held_at (case_of geometry old unit (getting on place)) on place

module _ (geometry : Geometry) (old : State) (unit : UnitOfRecovery) (on : FileRef)
    (change : RecordChange) (may : MayStep geometry old unit on change) (before : List ℕ)
    (stood : change.old ≡ Some before)
    (key_length : length change.place ≡ catalog_definition.key_length) where
  abbrev place : List ℕ
  place = change.place

  abbrev asks : Request
  asks = getting on place

  abbrev case : Case
  case = case_of geometry old unit asks

  -- its file is on the catalog itself, so that it reads the place that it names,
  on_catalog : opened case ≡ Cluster catalog_definition
  on_catalog = catalog_opened case on refl may.known may.on_catalog may.no_path

  read_at : place_read case ≡ Some place
  read_at = ap (λ (o : Opened). place_in o (Equal place) (found case)) on_catalog

  -- where the record stands
  there : record_read case ≡ Some before
  there =
      ap (λ (o : Option (List ℕ)). option_and_then (record_held case) o) read_at
      ∙ ap (λ (n : ℕ). record_at (old.contents n) place) may.on_catalog
      ∙ record_there (old.contents 0) place before (may.stands ∙ ap (option_map Standing) stood)

  -- no refusal has its cause
  is_allowed : not_allowed case ≡ None
  is_allowed =
      ap (λ (o : Opened). refused_if (not (goes_with_kind o asks)) NotAllowed) on_catalog
      ∙ ap (λ (n : ℕ). refused_if (not (not (nat_eq n 0))) NotAllowed) key_length

  no_slot : bad_slot case ≡ None
  no_slot = ap (λ (o : Opened). refused_if (is_slot_zero o place) BadSlot) on_catalog

  length_right : bad_length case ≡ None
  length_right =
      ap (λ (o : Opened). length_wrong o asks) on_catalog
      ∙ ap (λ (n : ℕ). refused_if (not (nat_eq n catalog_definition.key_length))
      (BadLength (shown_length place))) key_length

  no_lock : held case ≡ None
  no_lock =
      ap (λ (o : Option (List ℕ)). option_map held_by
      (conflict_on old.locks unit Exclusive (map (record_name case) (option_to_list o)))) read_at
      ∙ ap (λ (n : ℕ). option_map held_by (option_or (first_conflict old.locks unit Exclusive
      (Record (record { 0 = n }) place)) None)) may.on_catalog
      ∙ ap (λ (o : Option Lock). option_map held_by (option_or o None)) may.unlocked

  is_there : absent case ≡ None
  is_there = ap (λ (o : Option (List ℕ)). refused_if (is_none o)
      (absent_for (opened case) (Equal place))) there

  has_space : no_space case ≡ None
  has_space =
      ap (λ (o : Opened). option_and_then (lacks (free_areas case)) (option_and_then
      (λ definition. option_and_then
      (λ at. option_and_then (need_at case definition at) (new_record asks))
      (place_changed case)) (definition_in o))) on_catalog

  none_refuses : first_of (all_refusals case) ≡ None
  none_refuses =
      passed (no_file case) _ (catalog_known case on refl on_catalog may.of_utilities)
      ∙ passed (stopped case) _ (ap (option_map Stopped) may.going)
      ∙ passed (not_allowed case) _ is_allowed
      ∙ passed (bad_slot case) _ no_slot
      ∙ passed (bad_length case) _ length_right
      ∙ passed (held case) _ no_lock
      ∙ passed (absent case) _ is_there
      ∙ passed (no_space case) _ has_space

  -- it is answered with its place and the record
  no_later : (o : Option Candidate)
      → option_map_or (has_later (Cluster catalog_definition) case) o false ≡ false
  no_later None = refl
  no_later (Some candidate) = refl

  no_feedback : read_feedback case ≡ 0
  no_feedback =
      ap (λ (o : Opened). feedback_if (option_map_or (has_later o case) (found case) false))
      on_catalog
      ∙ ap feedback_if (no_later (found case))

  pub may_get : MayReply case (Done 0 (Some place) (Some before))
  may_get = inl (
    sym (ap (λ (o : Option Refusal). refused_or o (done_by case asks)) none_refuses
        ∙ ap (λ (n : ℕ). Done n (place_read case) (record_read case)) no_feedback
        ∙ ap (λ (o : Option (List ℕ)). Done 0 o (record_read case)) read_at
        ∙ ap (λ (o : Option (List ℕ)). Done 0 (Some place) o) there),
    λ none. tt,
  )

  pub after_get : after_asked case (Done 0 (Some place) (Some before))
      ≡ entry_held geometry old unit on place
  after_get = after_read geometry old unit on place true Nri 0 (Some place) (Some before)
      read_at
