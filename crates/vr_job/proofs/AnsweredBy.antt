-- How a volume answers to a command of IDCAMS, by what it enters in its history and by the state
-- that this gives.
use Rattle.std.proofs.Common.{◌≡◌, ◌≤◌, ◌∙◌, ◌+◌, ℕ, Bool, IsTrue, List, [], ◌∷◌, ◌++◌}
use Rattle.std.proofs.Common.{Option, Some, None, ap, refl, subst, sym}
use Rattle.std.specs.List.{list_any, position_from}
use Rattle.std.specs.Option.{is_none}
use Rattle.std.specs.Prelude.{◌||◌, ◌-◌, ◌^◌, Ok, is_some}
use Rattle.std.proofs.lemmas.Bool.{true≢false}
use Rattle.std.proofs.lemmas.Iterator.Adapters.{position_from-zero}
use Rattle.std.proofs.lemmas.List.Elements.{All-from_recursion, All-weaker}
use Rattle.vr_types.specs.Faults.{Faults}
use Rattle.vr_types.specs.Locks.{Lock, first_conflict, same_unit}
use Rattle.vr_types.specs.LogSpace.{IsLogFull, log_size}
use Rattle.vr_types.specs.Seen.{Seen}
use Rattle.vr_types.specs.Space.{free_count, least_free}
use Rattle.vr_types.specs.declared.geometry.Geometry.{Geometry}
use Rattle.vr_types.specs.declared.lock_name.LockName.{LockName}
use Rattle.vr_types.specs.declared.unit.Mode.TheVariants.{Exclusive}
use Rattle.vr_types.specs.declared.unit.PartNo.{PartNo}
use Rattle.vr_types.specs.declared.unit.Unit.{Unit as UnitOfRecovery}
use Rattle.vr_catalog.specs.declared.entry.CatEntry.{CatEntry}
use Rattle.vr_edits.specs.declared.edit.CatalogEdit.{CatalogEdit}
use Rattle.vr_log.specs.Live.{is_in, live_in, used_by}
use Rattle.vr_history.specs.Legal.{state_of}
use Rattle.vr_history.proofs.CallerLemmas.{unit_self}
use Rattle.vr_history.specs.State.{Logged, State}
use Rattle.vr_history.specs.declared.entry.Entry.{Entry}
use Rattle.vr_record_file.specs.CatalogEdit.{RecordChange}
use Rattle.vr_record_file.specs.Defining.{entry_name, need_to_define}
use Rattle.vr_record_file.specs.Now.{state_now}
use Rattle.vr_trace.specs.Shown.{Shown}
use Rattle.vr_trace.specs.Visitors.{Visited}
use Rattle.vr_ams_define.specs.Answers.{Exchange, IsShownAfter, IsShownCounted, IsShownRead}
use Rattle.vr_ams_define.specs.Answers.Exchange.{Counting, Defining, Editing, Reading}
use Rattle.vr_ams_define.specs.Edited.{IsShownEdited}
use Rattle.vr_ams_define.specs.declared.answer.Changed.{Changed}
use Rattle.vr_ams_define.specs.declared.answer.Counted.{Counted}
use Rattle.vr_ams_define.specs.declared.answer.Defined.{Defined}
use Rattle.vr_ams_define.specs.declared.answer.ReadBack.{ReadBack}
use Rattle.vr_event.specs.Counts.{AreCounts, CountedBy}
use Rattle.vr_event.specs.DefineSteps.{HasCome, LacksRoomWhere}
use Rattle.vr_event.specs.Defining.{entry_place, utility_unit}
use Rattle.vr_event.specs.CatalogEdit.{LacksRoomWhereEdited, changes_of, log_for_edit}
use Rattle.vr_event.specs.EditSteps.{HasEditCome}
use Rattle.vr_event.specs.Reading.{ReadBy, first_records}
use Rattle.vr_event.specs.Volume.{IsHeld, IsWhole, VolumeNow}
use Rattle.vr_event.specs.declared.counts.Count.{Count}
use Rattle.vr_event.specs.declared.counts.Count.TheVariants as counting
use Rattle.vr_event.specs.declared.define.Define.{Define}
use Rattle.vr_event.specs.declared.define.Define.TheVariants as events
use Rattle.vr_event.specs.declared.edit.Edit.{Edit}
use Rattle.vr_event.specs.declared.edit.Edit.TheVariants as edits
use Rattle.vr_event.specs.declared.reading.ReadThrough.{ReadThrough}
use Rattle.vr_event.specs.declared.reading.ReadThrough.TheVariants as readings
use Rattle.vr_job.specs.Answering.{IsAnswered, IsCountOf, IsCountedIn, IsDefinedIn, IsEditedIn}
use Rattle.vr_job.specs.Answering.{IsReadIn, IsReadOf, answer_of, changed_of, counted_of}
use Rattle.vr_job.specs.Answering.{read_back_of}
use Rattle.vr_job.specs.Faultless.{has_stopped}
use Rattle.vr_job.specs.Going.{ShowsStop, WentOn}
use Rattle.vr_job.specs.Reported.{AnswersBy, CountCause, DefineCause, EditCause, MadeBy, VolumeAt}
use Rattle.vr_job.specs.Reported.{conflict_at}
use Rattle.vr_job.specs.Reported.{ReadCause, areas_free, state_at, utility_unit_in}
use Rattle.vr_job.specs.Serving.{StaysServing, shown_of}
use Rattle.vr_job.proofs.EditShown.{edit-shown}
use Rattle.vr_job.proofs.CountEvents.{count-shown}
use Rattle.vr_job.proofs.DefineShown.{come-shown, ready-catalog}
use Rattle.vr_job.proofs.Gains.{Gained, gained, gained-count, gained-edit, gained-read}
use Rattle.vr_job.proofs.ReadEvents.{read-shown}

-- a volume as commands have it, which was opened in this state
abbrev pub at_of : {D : Type 0} → State → VolumeNow D → VolumeAt
at_of opening volume = record {
  geometry = volume.file.geometry;
  opening = opening;
  shown = shown_of volume;
  entries = volume.file.entries;
}

-- It shows whether it has stopped, and where the device reports its contents, it is held from
-- there.
pub record IsHeldFrom {D : Type 0} (tells : Bool) (seen : D → Seen) (opening : State)
    (volume : VolumeNow D) : Type 0 where
  pub shows : ShowsStop volume.file
  pub held : IsTrue tells → IsHeld seen opening volume

-- ---- by the state

-- where no area is the least that is free, none is
none-free-from : (first : ℕ) (owners : List (Option PartNo))
    → position_from is_none first owners ≡ None → free_count owners ≡ 0
none-free-from first [] none = refl
none-free-from first (None ∷ owners) none = absurd (apart none)
  where
    apart : ◌≡◌ {A = Option ℕ} (Some first) None → ⊥
    apart same = cc
none-free-from first (Some part ∷ owners) none = none-free-from (first + 1) owners none

none-free : (owners : List (Option PartNo)) → least_free owners ≡ None → free_count owners ≡ 0
none-free owners none = none-free-from 0 owners (sym (position_from-zero is_none owners) ∙ none)

-- A volume that was made ready, as commands had it before: it has the same state.
record IsReadyFrom {D : Type 0} (seen : D → Seen) (at : VolumeAt) (ready : VolumeNow D)
    : Type 0 where
  held : IsHeld seen at.opening ready
  whole : IsWhole seen ready
  geometry_is : at.geometry ≡ ready.file.geometry
  entries_is : at.entries ≡ ready.file.entries
  state_is : state_at at ≡ state_now at.opening ready.file

module _ {D : Type 0} (seen : D → Seen) (at : VolumeAt) (ready : VolumeNow D)
    (from : IsReadyFrom seen at ready) where
  abbrev state : State
  state = state_now at.opening ready.file

  no-area : least_free ready.store.space ≡ None → areas_free at.geometry (state_at at) ≡ 0
  no-area none = ap (λ (g : Geometry). areas_free g (state_at at)) from.geometry_is
      ∙ ap (areas_free ready.file.geometry) from.state_is
      ∙ sym from.held.free ∙ none-free ready.store.space none

  module _ (going : ready.file.stopped ≡ None) where
    -- what is in the way of a lock, by what is in memory and by the state
    conflict-is : (name : LockName)
        → first_conflict ready.file.locks (utility_unit ready.file) Exclusive name
        ≡ first_conflict (state_at at).locks (utility_unit_in (state_at at)) Exclusive name
    conflict-is name = ap (λ (n : ℕ). first_conflict ready.file.locks
        (record { deck = 0; number = n }) Exclusive name) (from.held.file.now.numbers 0)
        ∙ ap (λ (locks : List Lock). first_conflict locks (utility_unit_in state) Exclusive name)
        (from.held.file.now.locks going)
        ∙ ap (λ (s : State). first_conflict s.locks (utility_unit_in s) Exclusive name)
        (sym from.state_is)

    -- and how much of the log is used
    used-is : used_by ready.store.log.records ≡ (state_at at).used
    used-is = (from.held.stored going).volume.logged.used
        ∙ ap (λ (s : State). s.used) (sym from.state_is)

    log-full : (need : ℕ)
        → IsLogFull ready.store.log.geometry (used_by ready.store.log.records) need
        → IsLogFull at.geometry (state_at at).used need
    log-full need full = subst (λ (g : Geometry). IsLogFull g (state_at at).used need)
        (from.whole.geometry going ∙ sym from.geometry_is)
        (subst (λ (used : ℕ). IsLogFull ready.store.log.geometry used need) used-is full)

    -- where nothing is logged, no unit of recovery is live in the log
    none-live : (state_at at).logged ≡ [] → live_in ready.store.log.records ≡ []
    none-live none = by-list (live_in ready.store.log.records) refl
      where
        none-logged : state.logged ≡ []
        none-logged = ap (λ (s : State). s.logged) (sym from.state_is) ∙ none

        by-list : (units : List UnitOfRecovery) → live_in ready.store.log.records ≡ units
            → units ≡ []
        by-list [] is = refl
        by-list (first ∷ units) is = absurd (true≢false
            (sym (ap (is_in first) is
            ∙ ap (λ (b : Bool). b || is_in first units) (unit_self first))
            ∙ (from.held.stored going).volume.logged.live first
            ∙ ap (list_any (λ (l : Logged). same_unit first l.unit)) none-logged))

    -- why a definition is refused
    define-cause : (event : Define) (after line : ℕ) (entry : CatEntry) (new : VolumeNow D)
        → HasCome seen after (utility_unit ready.file) line entry (Ok event) ready new
        → LacksRoomWhere seen entry (Ok event) ready → DefineCause (answer_of event) entry at
    define-cause (events.Done area) after line entry new come lacks = tt
    define-cause events.Again after line entry new come lacks = tt
    define-cause events.NoArea after line entry new come lacks = no-area (come.no_area refl)
    define-cause events.NoRoom after line entry new come lacks = (
      sym (conflict-is (entry_name (entry_place entry))) ∙ (lacks refl).unlocked,
      subst (λ (g : Geometry).
          (state_at at).used + need_to_define (entry_place entry) ≤ log_size g)
          (sym from.geometry_is)
          (subst (λ (used : ℕ).
          used + need_to_define (entry_place entry) ≤ log_size ready.file.geometry) used-is
          (lacks refl).log),
    )
    define-cause events.Held after line entry new come lacks = λ none. come.kept_out refl
        (conflict-is (entry_name (entry_place entry)) ∙ none)
    define-cause events.Full after line entry new come lacks =
        log-full (need_to_define (entry_place entry)) (come.full refl)
    define-cause (events.Fault _) after line entry new come lacks = tt

    -- why an edit is refused
    edit-cause : (event : Edit) (after line : ℕ) (edit : CatalogEdit) (new : VolumeNow D)
        → HasEditCome seen after (utility_unit ready.file) line edit (Ok event) ready new
        → LacksRoomWhereEdited seen edit (Ok event) ready → EditCause (changed_of event) edit at
    edit-cause edits.Done after line edit new come lacks = tt
    edit-cause edits.Again after line edit new come lacks = tt
    edit-cause edits.NoRoom after line edit new come lacks =
        let is = lacks refl in (
          (is.entry, is.is),
          All-weaker (λ (change : RecordChange). first_conflict ready.file.locks
              (utility_unit ready.file) Exclusive (entry_name change.place) ≡ None)
              (λ (change : RecordChange). conflict_at at change ≡ None)
              (λ change unlocked. sym (conflict-is (entry_name change.place)) ∙ unlocked)
              (changes_of edit) (All-from_recursion (λ (change : RecordChange).
              first_conflict ready.file.locks (utility_unit ready.file) Exclusive
              (entry_name change.place) ≡ None) (changes_of edit) is.unlocked),
          subst (λ (g : Geometry). (state_at at).used + log_for_edit edit ≤ log_size g)
              (sym from.geometry_is)
              (subst (λ (used : ℕ). used + log_for_edit edit ≤ log_size ready.file.geometry)
              used-is is.log),
        )
    edit-cause edits.Held after line edit new come lacks =
        let kept = come.kept_out refl in
        (kept.0, kept.1, λ none. kept.2 (conflict-is (entry_name kept.0.place) ∙ none))
    edit-cause edits.Live after line edit new come lacks = λ none. come.live refl (none-live none)
    edit-cause edits.Full after line edit new come lacks =
        log-full (log_for_edit edit) (come.full refl)
    edit-cause (edits.Fault _) after line edit new come lacks = tt

  -- which numbers are counted
  count-cause : (event : Count) (entry : CatEntry)
      → IsCountOf event entry at.opening ready.file → CountCause (counted_of event) entry at
  count-cause (counting.Counted found) entry is = (
    found,
    subst (λ (s : State). AreCounts s at.entries entry found) (sym from.state_is)
        (subst (λ (entries : List Entry). AreCounts state entries entry found)
        (sym from.entries_is) is),
    refl,
  )
  count-cause (counting.Fault _) entry is = tt

  -- which records are read
  read-cause : (event : ReadThrough) (entry : CatEntry) (place : Option (List ℕ))
      (records : List Visited) → IsReadOf event entry place records at.opening ready.file
      → ReadCause (read_back_of event) entry place records at
  read-cause readings.Done entry place records is =
      subst (λ (s : State). records ≡ first_records (2 ^ 64 - 1) place (s.contents entry.part.0))
      (sym from.state_is) is
  read-cause (readings.Fault _) entry place records is = tt

-- ---- what it shows

module _ {D : Type 0} (tells : Bool) (seen : D → Seen) (faults : D → Faults)
    (old ready : VolumeNow D) (stays : StaysServing tells seen faults old ready)
    (shows : ShowsStop old.file) where
  -- a volume that is made ready shows what it showed
  ready-shown : shown_of ready ≡ shown_of old
  ready-shown = ap (λ (catalog : List CatEntry). record {
    catalog = catalog;
    stopped = is_some ready.file.stopped;
  }) (ready-catalog tells seen faults old ready stays)
      ∙ ap (λ (stopped : Bool). record { catalog = old.file.catalog; stopped = stopped })
      (stays.went.on.shows shows ∙ ap has_stopped stays.entries ∙ sym shows)

  -- and after an event of a definition, a count or an edit, what its answer leaves
  define-shown : (event : Define) (after line : ℕ) (entry : CatEntry) (new : VolumeNow D)
      → HasCome seen after (utility_unit ready.file) line entry (Ok event) ready new
      → IsShownAfter (answer_of event) entry (shown_of old) (shown_of new)
  define-shown event after line entry new come =
      subst (λ (s : Shown). IsShownAfter (answer_of event) entry s (shown_of new)) ready-shown
      (come-shown seen after line entry event ready new come)

  counted-shown : (event : Count) (after line : ℕ) (new : VolumeNow D)
      → CountedBy event after (utility_unit ready.file) line ready.file new.file
      → IsShownCounted (counted_of event) (shown_of old) (shown_of new)
  counted-shown event after line new is =
      subst (λ (s : Shown). IsShownCounted (counted_of event) s (shown_of new)) ready-shown
      (count-shown after line event ready new is)

  read-back-shown : (event : ReadThrough) (after line : ℕ) (new : VolumeNow D)
      → ReadBy event after (utility_unit ready.file) line ready.file new.file
      → IsShownRead (read_back_of event) (shown_of old) (shown_of new)
  read-back-shown event after line new is =
      subst (λ (s : Shown). IsShownRead (read_back_of event) s (shown_of new)) ready-shown
      (read-shown after line event ready new is)

  edited-shown : (event : Edit) (after line : ℕ) (edit : CatalogEdit) (new : VolumeNow D)
      → HasEditCome seen after (utility_unit ready.file) line edit (Ok event) ready new
      → IsShownEdited (changed_of event) edit (shown_of old) (shown_of new)
  edited-shown event after line edit new come =
      subst (λ (s : Shown). IsShownEdited (changed_of event) edit s (shown_of new)) ready-shown
      (edit-shown seen after line edit event ready new come)

-- ---- whatever it is asked

-- a volume answers by what it enters and by its state, and is held as before
module _ {D : Type 0} (tells : Bool) (seen : D → Seen) (faults : D → Faults) (opening : State)
    (old : VolumeNow D) (line : ℕ) where
  ready-from : (ready : VolumeNow D) → StaysServing tells seen faults old ready
      → IsHeldFrom tells seen opening old → IsTrue tells
      → IsReadyFrom seen (at_of opening old) ready
  ready-from ready stays held told = record {
    held = stays.went.held told opening (held.held told);
    whole = stays.serving.whole;
    geometry_is = sym stays.went.on.geometry;
    entries_is = sym stays.entries;
    state_is = ap (λ (g : Geometry). state_of g opening old.file.entries)
        (sym stays.went.on.geometry)
        ∙ ap (state_of ready.file.geometry opening) (sym stays.entries);
  }

  define-answers : (entry : CatEntry) (answer : Defined) (new : VolumeNow D)
      → IsHeldFrom tells seen opening old
      → IsDefinedIn tells seen faults old line entry answer new
      → AnswersBy tells (at_of opening old) line (Defining entry answer) (at_of opening new)
  define-answers entry answer new held is = record {
    made = gains.made;
    entries_are = gains.entries_are
        ∙ ap (λ (entries : List Entry). entries ++ gains.made) is.stays.entries;
    own = gains.own;
    by = subst (λ (given : Defined). MadeBy (Defining entry given) gains.made)
        (sym is.answer_is) gains.by;
    shown_is = subst (λ (given : Defined).
        IsShownAfter given entry (shown_of old) (shown_of new)) (sym is.answer_is)
        (define-shown tells seen faults old is.ready is.stays held.shows is.event is.after line
        entry new is.come);
    shape_is = is.went.on.geometry ∙ is.stays.went.on.geometry;
    opening_is = refl;
    cause = λ told. subst (λ (given : Defined). DefineCause given entry (at_of opening old))
        (sym is.answer_is) (define-cause seen (at_of opening old) is.ready
        (ready-from is.ready is.stays held told) is.going is.event is.after line entry new is.come
        (is.no_room told));
  }
    where
      gains : Gained line (Defining entry (answer_of is.event)) is.ready.file new.file
      gains = gained is.after (utility_unit is.ready.file) line is.ready.file new.file refl
          is.ready.number entry is.event is.come.entered

  count-answers : (entry : CatEntry) (counted : Counted) (new : VolumeNow D)
      → IsHeldFrom tells seen opening old
      → IsCountedIn tells seen faults old line entry counted new
      → AnswersBy tells (at_of opening old) line (Counting entry counted) (at_of opening new)
  count-answers entry counted new held is = record {
    made = gains.made;
    entries_are = gains.entries_are
        ∙ ap (λ (entries : List Entry). entries ++ gains.made) is.stays.entries;
    own = gains.own;
    by = subst (λ (given : Counted). MadeBy (Counting entry given) gains.made)
        (sym is.counted_is) gains.by;
    shown_is = subst (λ (given : Counted).
        IsShownCounted given (shown_of old) (shown_of new)) (sym is.counted_is)
        (counted-shown tells seen faults old is.ready is.stays held.shows is.event is.after line
        new is.entered);
    shape_is = is.went.on.geometry ∙ is.stays.went.on.geometry;
    opening_is = refl;
    cause = λ told. subst (λ (given : Counted). CountCause given entry (at_of opening old))
        (sym is.counted_is) (count-cause seen (at_of opening old) is.ready
        (ready-from is.ready is.stays held told) is.event entry
        (is.found told opening (is.stays.went.held told opening (held.held told))));
  }
    where
      gains : Gained line (Counting entry (counted_of is.event)) is.ready.file new.file
      gains = gained-count is.after (utility_unit is.ready.file) line is.ready.file new.file refl
          entry is.event is.entered

  read-answers : (entry : CatEntry) (from : Option (List ℕ)) (records : List Visited)
      (answer : ReadBack) (new : VolumeNow D) → IsHeldFrom tells seen opening old
      → IsReadIn tells seen faults old line entry from records answer new
      → AnswersBy tells (at_of opening old) line (Reading entry from records answer)
      (at_of opening new)
  read-answers entry from records answer new held is = record {
    made = gains.made;
    entries_are = gains.entries_are
        ∙ ap (λ (entries : List Entry). entries ++ gains.made) is.stays.entries;
    own = gains.own;
    by = subst (λ (given : ReadBack). MadeBy (Reading entry from records given) gains.made)
        (sym is.answer_is) gains.by;
    shown_is = subst (λ (given : ReadBack).
        IsShownRead given (shown_of old) (shown_of new)) (sym is.answer_is)
        (read-back-shown tells seen faults old is.ready is.stays held.shows is.event is.after line
        new is.entered);
    shape_is = is.went.on.geometry ∙ is.stays.went.on.geometry;
    opening_is = refl;
    cause = λ told. subst (λ (given : ReadBack).
        ReadCause given entry from records (at_of opening old)) (sym is.answer_is)
        (read-cause seen (at_of opening old) is.ready (ready-from is.ready is.stays held told)
        is.event entry from records
        (is.found told opening (is.stays.went.held told opening (held.held told))));
  }
    where
      gains : Gained line (Reading entry from records (read_back_of is.event)) is.ready.file
          new.file
      gains = gained-read is.after (utility_unit is.ready.file) line is.ready.file new.file refl
          entry from records is.event is.entered

  edit-answers : (edit : CatalogEdit) (answer : Changed) (new : VolumeNow D)
      → IsHeldFrom tells seen opening old → IsEditedIn tells seen faults old line edit answer new
      → AnswersBy tells (at_of opening old) line (Editing edit answer) (at_of opening new)
  edit-answers edit answer new held is = record {
    made = gains.made;
    entries_are = gains.entries_are
        ∙ ap (λ (entries : List Entry). entries ++ gains.made) is.stays.entries;
    own = gains.own;
    by = subst (λ (given : Changed). MadeBy (Editing edit given) gains.made)
        (sym is.answer_is) gains.by;
    shown_is = subst (λ (given : Changed).
        IsShownEdited given edit (shown_of old) (shown_of new)) (sym is.answer_is)
        (edited-shown tells seen faults old is.ready is.stays held.shows is.event is.after line
        edit new is.come);
    shape_is = is.went.on.geometry ∙ is.stays.went.on.geometry;
    opening_is = refl;
    cause = λ told. subst (λ (given : Changed). EditCause given edit (at_of opening old))
        (sym is.answer_is) (edit-cause seen (at_of opening old) is.ready
        (ready-from is.ready is.stays held told) is.going is.event is.after line edit new
        is.come (is.no_room told));
  }
    where
      gains : Gained line (Editing edit (changed_of is.event)) is.ready.file new.file
      gains = gained-edit is.ready.number is.after line edit is.ready.file new.file is.event
          is.come.entered

  -- it is held as before
  went-on : (ready new : VolumeNow D) → StaysServing tells seen faults old ready
      → WentOn tells seen faults ready new → IsHeldFrom tells seen opening old
      → IsHeldFrom tells seen opening new
  went-on ready new stays went held = record {
    shows = went.on.shows (stays.went.on.shows held.shows);
    held = λ told. went.held told opening (stays.went.held told opening (held.held told));
  }

  pub answers-by : (exchange : Exchange) (new : VolumeNow D)
      → IsHeldFrom tells seen opening old → IsAnswered tells seen faults old line exchange new
      → IsHeldFrom tells seen opening new
      × AnswersBy tells (at_of opening old) line exchange (at_of opening new)
  answers-by (Defining entry answer) new held is = (
    went-on is.ready new is.stays is.went held,
    define-answers entry answer new held is,
  )
  answers-by (Counting entry counted) new held is = (
    went-on is.ready new is.stays is.went held,
    count-answers entry counted new held is,
  )
  answers-by (Editing edit answer) new held is = (
    went-on is.ready new is.stays is.went held,
    edit-answers edit answer new held is,
  )
  answers-by (Reading entry from records answer) new held is = (
    went-on is.ready new is.stays is.went held,
    read-answers entry from records answer new held is,
  )
