-- What a report says of volumes it says of what they are seen as, each from the state in which it
-- was opened.
use Rattle.std.proofs.Common.{◌≡◌, ◌∙◌, ⊎_elim, inl, inr, ℕ, Bool, true, false, List, [], ◌∷◌}
use Rattle.std.proofs.Common.{Option, Some, ap, length, map, refl, subst, sym}
use Rattle.std.specs.Prelude.{◌&&◌, Err, None, Ok, codes, not}
use Rattle.std.specs.Option.{option_map_or}
use Rattle.vr_types.specs.declared.geometry.Geometry.{Geometry}
use Rattle.vr_types.specs.declared.unit.Kind.{Kind}
use Rattle.vr_amsparse.specs.declared.command.Command.{Command}
use Rattle.vr_amsparse.specs.declared.command.Command.TheVariants as commands
use Rattle.vr_amsparse.specs.declared.command.DefineCommand.{DefineCommand}
use Rattle.vr_amsparse.specs.declared.command.DeleteCommand.{DeleteCommand}
use Rattle.vr_amsparse.specs.declared.command.ListCommand.{ListCommand}
use Rattle.vr_amsparse.specs.declared.command.Node.{Node}
use Rattle.vr_amsparse.specs.declared.command.PrintCommand.{PrintCommand}
use Rattle.vr_catalog.specs.Define.{new_entry}
use Rattle.vr_catalog.specs.declared.entry.CatEntry.{CatEntry}
use Rattle.vr_catalog.specs.declared.entry.EntryKind.{EntryKind}
use Rattle.vr_catalog.specs.declared.order.Alter.{Alter}
use Rattle.vr_catalog.specs.declared.order.Define.{Define}
use Rattle.vr_catalog.specs.declared.order.NewEntry.{NewEntry}
use Rattle.vr_catalog.specs.declared.order.NewEntry.TheVariants.{Cluster, Alternate, Path}
use Rattle.vr_edits.specs.declared.edit.CatalogEdit.{CatalogEdit}
use Rattle.vr_history.specs.State.{State}
use Rattle.vr_history.specs.declared.entry.Entry.{Entry}
use Rattle.vr_trace.specs.Commands.{done}
use Rattle.vr_trace.specs.Shown.{Shown}
use Rattle.vr_trace.specs.declared.command.Failure.{Failure}
use Rattle.vr_trace.specs.declared.command.Outcome.{Outcome}
use Rattle.vr_trace.specs.declared.report.StepReport.{StepReport}
use Rattle.vr_trace.specs.declared.statistics.Statistics.{Statistics}
use Rattle.vr_ams_list.specs.Faults.{failure_of}
use Rattle.vr_ams_list.specs.Listing.{all_lines, listed_entries}
use Rattle.vr_ams_list.specs.declared.listed.Listed.{Listed}
use Rattle.vr_ams_define.specs.Altered.{IsAlteredBy, alter_edit, alter_failure, entry_at, place_of}
use Rattle.vr_ams_define.specs.Asked.{IsEdited, IsEditedBy}
use Rattle.vr_ams_define.specs.declared.answer.Changed.{Changed}
use Rattle.vr_ams_define.specs.declared.answer.Changed.TheVariants as changes
use Rattle.vr_ams_define.specs.declared.answer.Counted.{Counted}
use Rattle.vr_ams_define.specs.declared.answer.Counted.TheVariants as counts
use Rattle.vr_ams_define.specs.declared.answer.Defined.{Defined}
use Rattle.vr_ams_define.specs.declared.answer.Defined.TheVariants.{Again}
use Rattle.vr_ams_define.specs.Answers.{Answering, Exchange, HasAnswered, HasEdited, HasStaged}
use Rattle.vr_ams_define.specs.Answers.Exchange.{Counting, Defining, Editing}
use Rattle.vr_ams_define.specs.Answers.HasStaged.{Staged, Unstaged}
use Rattle.vr_ams_define.specs.Chosen.{chosen}
use Rattle.vr_ams_define.specs.Deleted.{AreDeleted, IsDeletedBy, IsOneDeleted, delete_edit}
use Rattle.vr_ams_define.specs.Deleted.{delete_failure, edit_lines, lines_by}
use Rattle.vr_ams_define.specs.Failures.{first_failure}
use Rattle.vr_ams_define.specs.Outcomes.{IsDefined, IsDefinedBy}
use Rattle.vr_ams_define.specs.Over.{IsDefinedOver, base_place, over_edit, over_failure}
use Rattle.vr_ams_print.specs.Outcomes.{IsAsked as IsSourceAsked, IsPrintedBy, IsRefused}
use Rattle.vr_ams_print.specs.Outcomes.{IsVerifiedBy, counting, reading}
use Rattle.vr_ams_print.specs.Printed.{has_keys}
use Rattle.vr_ams_print.specs.Sources.{source_kind}
use Rattle.vr_ams_run.specs.ListedAll.{CountRunWhere, CountsRun, IsAsked, IsListedAll}
use Rattle.vr_ams_run.specs.ListedAll.{is_counted}
use Rattle.vr_ams_run.specs.Running.{CommandRun, DefineRun, IsAlteredAs, IsDeletedAs, IsOverAs}
use Rattle.vr_ams_run.specs.Running.{IsPrintedAs, IsQuiet, IsReport, IsVerifiedAs, ListRun}
use Rattle.vr_ams_run.specs.Running.{NodeRunWhere}
use Rattle.vr_ams_run.specs.Running.{NodesRun, QuietRun, Stage}
use Rattle.vr_ams_run.specs.Running.{command_run, first_stage, list_run, passed, reaches}
use Rattle.vr_job.specs.Reported.{VolumeAt, shape_at, shown_at}
use Rattle.vr_job.proofs.EachSeen.{EachHeld, each_seen, held-at, held-set, seen-at, seen-count}
use Rattle.vr_job.proofs.EachSeen.{seen-map, seen-set}

-- ---- reports

-- Volumes that have these shapes and show this, with these histories, are seen as they are between
-- two commands, each from the opening of its place. What holds of a volume with its opening holds
-- of it after each answer, which is then one of what it is seen as.
module _ {V : Type 0} (shape_in : V → Geometry) (shown_in : V → Shown)
    (entries_in : V → List Entry) (answers : Answering V) (answers_as : Answering VolumeAt)
    (Held : State → V → Type 0)
    (answer : (opening : State) (old : V) (line : ℕ) (exchange : Exchange) (new : V)
    → Held opening old → answers old line exchange new
    → Held opening new × answers_as (record {
      geometry = shape_in old;
      opening = opening;
      shown = shown_in old;
      entries = entries_in old;
    }) line exchange (record {
      geometry = shape_in new;
      opening = opening;
      shown = shown_in new;
      entries = entries_in new;
    })) where
  abbrev seen_as : State → V → VolumeAt
  seen_as opening volume = record {
    geometry = shape_in volume;
    opening = opening;
    shown = shown_in volume;
    entries = entries_in volume;
  }

  abbrev all_seen : (ℕ → State) → List V → List VolumeAt
  all_seen openings volumes = each_seen seen_as openings volumes

  abbrev AreHeld : (ℕ → State) → List V → Type 0
  AreHeld openings volumes = EachHeld Held openings volumes

  shown-seen : (openings : ℕ → State) (volumes : List V)
      → map shown_in volumes ≡ map shown_at (all_seen openings volumes)
  shown-seen = seen-map seen_as shown_in shown_at (λ opening volume. refl)

  shape-seen : (openings : ℕ → State) (volumes : List V)
      → map shape_in volumes ≡ map shape_at (all_seen openings volumes)
  shape-seen = seen-map seen_as shape_in shape_at (λ opening volume. refl)

  -- what is said of what volumes show is said of what they are seen as
  over-seen : (openings : ℕ → State) (volumes : List V) (Said : List Shown → Type 0)
      → Said (map shown_in volumes) → Said (map shown_at (all_seen openings volumes))
  over-seen openings volumes Said is = subst Said (shown-seen openings volumes) is

  -- ---- a volume that is asked, again after each stage

  staged : (opening : State) (line : ℕ) (again : Exchange) (old now : V) → Held opening old
      → HasStaged answers line again old now
      → Held opening now
      × HasStaged answers_as line again (seen_as opening old) (seen_as opening now)
  staged opening line again old now is Unstaged = (is, Unstaged)
  staged opening line again old now is (Staged before _ stages asked) =
      let first = staged opening line again old before is stages in
      let then = answer opening before line again now first.0 asked in
      (then.0, Staged (seen_as opening before) (seen_as opening now) first.1 then.1)

  answered : (opening : State) (line : ℕ) (entry : CatEntry) (old new : V) (given : Defined)
      → Held opening old → HasAnswered shown_in answers line entry old new given
      → Held opening new × HasAnswered shown_at answers_as line entry (seen_as opening old)
      (seen_as opening new) given
  answered opening line entry old new given held is =
      let first = staged opening line (Defining entry Again) old is.before held is.stages in
      let then = answer opening is.before line (Defining entry given) new first.0 is.answered in (
        then.0,
        record {
          before = seen_as opening is.before;
          stages = first.1;
          answered = then.1;
          last = is.last;
          left = is.left;
        },
      )

  edited : (opening : State) (line : ℕ) (edit : CatalogEdit) (old new : V) (given : Changed)
      → Held opening old → HasEdited shown_in answers line edit old new given
      → Held opening new × HasEdited shown_at answers_as line edit (seen_as opening old)
      (seen_as opening new) given
  edited opening line edit old new given held is =
      let first = staged opening line (Editing edit changes.Again) old is.before held is.stages in
      let then = answer opening is.before line (Editing edit given) new first.0 is.answered in (
        then.0,
        record {
          before = seen_as opening is.before;
          stages = first.1;
          answered = then.1;
          last = is.last;
          left = is.left;
        },
      )

  -- ---- DEFINE

  -- the volumes after it are held, too
  abbrev Keeps : (ℕ → State) → List V → Type 0 → Type 0
  Keeps openings after what = AreHeld openings after × what

  defined-by : (openings : ℕ → State) (volumes : List V) (first : Option Failure)
      (number : Option ℕ) (line : ℕ) (order : Define) (after : List V) (outcome : Outcome)
      → AreHeld openings volumes
      → IsDefinedBy shown_in answers volumes first number line order after outcome
      → Keeps openings after (IsDefinedBy shown_at answers_as (all_seen openings volumes) first
      number line order (all_seen openings after) outcome)
  defined-by openings volumes first number line order after outcome held is = ⊎_elim
      (λ refused. (
        subst (AreHeld openings) (sym refused.same) held,
        inl (record {
          failure = refused.failure;
          first_is = refused.first_is;
          outcome_is = refused.outcome_is;
          same = ap (all_seen openings) refused.same;
        }),
      ))
      (λ asked.
      let here = held-at Held openings volumes asked.place asked.old held asked.old_is in
      let then = answered (openings asked.place) line
      (new_entry (shown_in asked.old).catalog order) asked.old asked.new asked.answer here
      asked.answered in (
        subst (AreHeld openings) (sym asked.others)
            (held-set Held openings volumes asked.place asked.new held then.0),
        inr (record {
          first_is = asked.first_is;
          place = asked.place;
          place_is = asked.place_is;
          old = seen_as (openings asked.place) asked.old;
          old_is = seen-at seen_as openings volumes asked.place asked.old asked.old_is;
          new = seen_as (openings asked.place) asked.new;
          answer = asked.answer;
          answered = then.1;
          outcome_is = asked.outcome_is;
          others = ap (all_seen openings) asked.others
              ∙ seen-set seen_as openings volumes asked.place asked.new;
        }),
      )) is

  failure-seen : (openings : ℕ → State) (volumes : List V) (order : Define)
      (volume : Option (List ℕ))
      → first_failure (map shown_in volumes) (map shape_in volumes) order volume
      ≡ first_failure (map shown_at (all_seen openings volumes))
      (map shape_at (all_seen openings volumes)) order volume
  failure-seen openings volumes order volume = ap (λ (them : List Shown). first_failure them
      (map shape_in volumes) order volume) (shown-seen openings volumes)
      ∙ ap (λ (them : List Geometry). first_failure (map shown_at (all_seen openings volumes)) them
      order volume) (shape-seen openings volumes)

  defined : (openings : ℕ → State) (volumes : List V) (line : ℕ) (order : Define)
      (volume : Option (List ℕ)) (after : List V) (outcome : Outcome) → AreHeld openings volumes
      → IsDefined shown_in shape_in answers volumes line order volume after outcome
      → Keeps openings after (IsDefined shown_at shape_at answers_as (all_seen openings volumes)
      line order volume (all_seen openings after) outcome)
  defined openings volumes line order volume after outcome held is =
      let seen = defined-by openings volumes
      (first_failure (map shown_in volumes) (map shape_in volumes) order volume)
      (chosen (length volumes) volume) line order after outcome held is in (
        seen.0,
        subst (λ (count : ℕ). IsDefinedBy shown_at answers_as (all_seen openings volumes)
            (first_failure (map shown_at (all_seen openings volumes))
            (map shape_at (all_seen openings volumes)) order volume)
            (chosen count volume) line order (all_seen openings after) outcome)
            (sym (seen-count seen_as openings volumes))
            (subst (λ (first : Option Failure). IsDefinedBy shown_at answers_as
            (all_seen openings volumes) first (chosen (length volumes) volume) line order
            (all_seen openings after) outcome) (failure-seen openings volumes order volume) seen.1),
      )

  -- ---- an edit of a volume

  edited-by : (openings : ℕ → State) (line : ℕ) (first : Option Failure) (number : Option ℕ)
      (edit : Option CatalogEdit) (old new : List V) (why : Option Failure) → AreHeld openings old
      → IsEditedBy shown_in answers line first number edit old new why
      → Keeps openings new (IsEditedBy shown_at answers_as line first number edit
      (all_seen openings old) (all_seen openings new) why)
  edited-by openings line first number edit old new why held is = ⊎_elim
      (λ kept. (
        subst (AreHeld openings) (sym kept.same) held,
        inl (record {
          failure = kept.failure;
          first_is = kept.first_is;
          why_is = kept.why_is;
          same = ap (all_seen openings) kept.same;
        }),
      ))
      (λ further. ⊎_elim
      (λ nothing. (
        subst (AreHeld openings) (sym nothing.same) held,
        inr (inl (record {
          allowed = nothing.allowed;
          none = nothing.none;
          why_is = nothing.why_is;
          same = ap (all_seen openings) nothing.same;
        })),
      ))
      (λ given.
      let here = held-at Held openings old given.place given.before held given.before_is in
      let then = edited (openings given.place) line given.asked given.before given.after given.answer
      here given.edited in (
        subst (AreHeld openings) (sym given.others)
            (held-set Held openings old given.place given.after held then.0),
        inr (inr (record {
          allowed = given.allowed;
          place = given.place;
          place_is = given.place_is;
          asked = given.asked;
          asked_is = given.asked_is;
          before = seen_as (openings given.place) given.before;
          before_is = seen-at seen_as openings old given.place given.before given.before_is;
          after = seen_as (openings given.place) given.after;
          answer = given.answer;
          edited = then.1;
          why_is = given.why_is;
          others = ap (all_seen openings) given.others
              ∙ seen-set seen_as openings old given.place given.after;
        })),
      )) further) is

  edit-seen : (openings : ℕ → State) (line : ℕ) (first : Option Failure) (number : Option ℕ)
      (edit : Option CatalogEdit) (old new : List V) (outcome : Outcome) → AreHeld openings old
      → IsEdited shown_in answers line first number edit old new outcome
      → Keeps openings new (IsEdited shown_at answers_as line first number edit
      (all_seen openings old) (all_seen openings new) outcome)
  edit-seen openings line first number edit old new outcome held is =
      let then = edited-by openings line first number edit old new is.why held is.ended in
      (then.0, record { why = is.why; ended = then.1; outcome_is = is.outcome_is })

  -- ---- ALTER, and DEFINE of what stands over another entry

  alter-by : (openings : ℕ → State) (line : ℕ) (order : Alter) (old new : List V)
      (outcome : Outcome) → AreHeld openings old
      → IsAlteredBy shown_in answers line order old new outcome
      → Keeps openings new (IsAlteredBy shown_at answers_as line order (all_seen openings old)
      (all_seen openings new) outcome)
  alter-by openings line order old new outcome held is =
      let then = edit-seen openings line (alter_failure (map shown_in old) order)
      (place_of (map shown_in old) order.name) (alter_edit (map shown_in old) order) old new outcome
      held is in (
        then.0,
        over-seen openings old (λ (them : List Shown). IsEdited shown_at answers_as line
            (alter_failure them order) (place_of them order.name) (alter_edit them order)
            (all_seen openings old) (all_seen openings new) outcome) then.1,
      )

  over-by : (openings : ℕ → State) (line : ℕ) (order : Define) (volume : Option (List ℕ))
      (old new : List V) (outcome : Outcome) → AreHeld openings old
      → IsDefinedOver shown_in shape_in answers line order volume old new outcome
      → Keeps openings new (IsDefinedOver shown_at shape_at answers_as line order volume
      (all_seen openings old) (all_seen openings new) outcome)
  over-by openings line order volume old new outcome held is =
      let then = edit-seen openings line
      (over_failure (map shown_in old) (map shape_in old) order volume)
      (base_place (map shown_in old) order) (over_edit (map shown_in old) order) old new outcome
      held is in (
        then.0,
        over-seen openings old (λ (them : List Shown). IsEdited shown_at answers_as line
            (over_failure them (map shape_at (all_seen openings old)) order volume)
            (base_place them order) (over_edit them order) (all_seen openings old)
            (all_seen openings new) outcome)
            (subst (λ (shapes : List Geometry). IsEdited shown_at answers_as line
            (over_failure (map shown_in old) shapes order volume)
            (base_place (map shown_in old) order) (over_edit (map shown_in old) order)
            (all_seen openings old) (all_seen openings new) outcome) (shape-seen openings old)
            then.1),
      )

  -- ---- DELETE

  delete-one : (openings : ℕ → State) (line : ℕ) (kind : Option EntryKind) (name : List ℕ)
      (old new : List V) (why : Option Failure) (lines : List ℕ) → AreHeld openings old
      → IsOneDeleted shown_in answers line kind name old new why lines
      → Keeps openings new (IsOneDeleted shown_at answers_as line kind name (all_seen openings old)
      (all_seen openings new) why lines)
  delete-one openings line kind name old new why lines held is =
      let then = edited-by openings line (delete_failure (map shown_in old) kind name)
      (place_of (map shown_in old) name) (delete_edit (map shown_in old) name) old new why held
      is.ended in (
        then.0,
        record {
          ended = over-seen openings old (λ (them : List Shown). IsEditedBy shown_at answers_as line
              (delete_failure them kind name) (place_of them name) (delete_edit them name)
              (all_seen openings old) (all_seen openings new) why) then.1;
          lines_are = over-seen openings old (λ (them : List Shown).
              lines ≡ lines_by why (option_map_or edit_lines (delete_edit them name) []))
              is.lines_are;
        },
      )

  deletes-seen : (openings : ℕ → State) (line : ℕ) (kind : Option EntryKind)
      (names : List (List ℕ)) (old new : List V) (failures : List (Option Failure))
      (lines : List ℕ) → AreHeld openings old
      → AreDeleted shown_in answers line kind names old new failures lines
      → Keeps openings new (AreDeleted shown_at answers_as line kind names (all_seen openings old)
      (all_seen openings new) failures lines)
  deletes-seen openings line kind [] old new failures lines held is = (
    subst (AreHeld openings) (sym is.0) held,
    (ap (all_seen openings) is.0, is.1, is.2),
  )
  deletes-seen openings line kind (name ∷ names) old new [] lines held is = absurd is
  deletes-seen openings line kind (name ∷ names) old new (failure ∷ failures) lines held is =
      let first = delete-one openings line kind name old is.0 failure is.1 held is.3 in
      let then = deletes-seen openings line kind names is.0 new failures is.2 first.0 is.4 in
      (then.0, (all_seen openings is.0, is.1, is.2, first.1, then.1, is.5))

  delete-by : (openings : ℕ → State) (line : ℕ) (kind : Option EntryKind)
      (names : List (List ℕ)) (old new : List V) (outcome : Outcome) → AreHeld openings old
      → IsDeletedBy shown_in answers line kind names old new outcome
      → Keeps openings new (IsDeletedBy shown_at answers_as line kind names
      (all_seen openings old) (all_seen openings new) outcome)
  delete-by openings line kind names old new outcome held is =
      let then = deletes-seen openings line kind names old new is.failures is.lines held is.ran in (
        then.0,
        record {
          failures = is.failures;
          lines = is.lines;
          ran = then.1;
          outcome_is = is.outcome_is;
        },
      )

  -- ---- LISTCAT ALL

  asked-seen : (openings : ℕ → State) (line : ℕ) (listed : Listed) (old new : List V)
      (counted : Counted) → AreHeld openings old
      → IsAsked answers line listed old new counted
      → Keeps openings new (IsAsked answers_as line listed (all_seen openings old)
      (all_seen openings new) counted)
  asked-seen openings line listed old new counted held is =
      let here = held-at Held openings old listed.volume is.before held is.before_is in
      let then = answer (openings listed.volume) is.before line (Counting listed.entry counted)
      is.after here is.answered in (
        subst (AreHeld openings) (sym is.others)
            (held-set Held openings old listed.volume is.after held then.0),
        record {
          before = seen_as (openings listed.volume) is.before;
          before_is = seen-at seen_as openings old listed.volume is.before is.before_is;
          after = seen_as (openings listed.volume) is.after;
          answered = then.1;
          others = ap (all_seen openings) is.others
              ∙ seen-set seen_as openings old listed.volume is.after;
        },
      )

  count-seen : (openings : ℕ → State) (runs : Bool) (line : ℕ) (listed : Listed)
      (old new : List V) (numbers : Statistics) → AreHeld openings old
      → CountRunWhere runs answers line listed old new numbers
      → Keeps openings new (CountRunWhere runs answers_as line listed (all_seen openings old)
      (all_seen openings new) numbers)
  count-seen openings true line listed old new numbers held is =
      asked-seen openings line listed old new (counts.Done numbers) held is
  count-seen openings false line listed old new numbers held is = (
    subst (AreHeld openings) (sym is.0) held,
    (ap (all_seen openings) is.0, is.1),
  )

  counts-seen : (openings : ℕ → State) (line : ℕ) (listed : List Listed) (old new : List V)
      (numbers : List Statistics) → AreHeld openings old
      → CountsRun answers line listed old new numbers
      → Keeps openings new (CountsRun answers_as line listed (all_seen openings old)
      (all_seen openings new) numbers)
  counts-seen openings line [] old new numbers held is = (
    subst (AreHeld openings) (sym is.0) held,
    (ap (all_seen openings) is.0, is.1),
  )
  counts-seen openings line (listed ∷ others) old new [] held is = absurd is
  counts-seen openings line (listed ∷ others) old new (numbers ∷ more) held is =
      let first = count-seen openings (is_counted listed.entry.entry_kind) line listed old is.0
      numbers held is.1 in
      let then = counts-seen openings line others is.0 new more first.0 is.2 in
      (then.0, (all_seen openings is.0, first.1, then.1))

  list-seen : (openings : ℕ → State) (line : ℕ) (names : List (List ℕ)) (old new : List V)
      (outcome : Outcome) → AreHeld openings old
      → IsListedAll shown_in answers line names old new outcome
      → Keeps openings new (IsListedAll shown_at answers_as line names (all_seen openings old)
      (all_seen openings new) outcome)
  list-seen openings line names old new outcome held is = ⊎_elim
      (λ refused. (
        subst (AreHeld openings) (sym refused.same) held,
        inl (record {
          failure = refused.failure;
          first_is = failure refused.first_is;
          outcome_is = refused.outcome_is;
          same = ap (all_seen openings) refused.same;
        }),
      ))
      (λ further. ⊎_elim
      (λ all.
      let then = counts-seen openings line (listed_entries (map shown_in old) names) old new
      all.numbers held all.ran in (
        then.0,
        inr (inl (record {
          first_is = failure all.first_is;
          numbers = all.numbers;
          ran = subst (λ (them : List Shown). CountsRun answers_as line
              (listed_entries them names) (all_seen openings old) (all_seen openings new)
              all.numbers) (shown-seen openings old) then.1;
          outcome_is = all.outcome_is
              ∙ ap (λ (them : List Shown). done (all_lines them names all.numbers))
              (shown-seen openings old);
        })),
      ))
      (λ failed.
      let then = counts-seen openings line failed.first old failed.between failed.numbers held
      failed.ran in
      let last = asked-seen openings line failed.one failed.between new
      (counts.Fault failed.fault) then.0 failed.failed in (
        last.0,
        inr (inr (record {
          first_is = failure failed.first_is;
          first = failed.first;
          one = failed.one;
          rest = failed.rest;
          listed_are = ap (λ (them : List Shown). listed_entries them names)
              (sym (shown-seen openings old)) ∙ failed.listed_are;
          numbers = failed.numbers;
          between = all_seen openings failed.between;
          ran = then.1;
          counted_is = failed.counted_is;
          fault = failed.fault;
          failed = last.1;
          outcome_is = failed.outcome_is;
        })),
      )) further) is
    where
      failure : {found : Option Failure} → failure_of (map shown_in old) names ≡ found
          → failure_of (map shown_at (all_seen openings old)) names ≡ found
      failure first_is = ap (λ (them : List Shown). failure_of them names)
          (sym (shown-seen openings old)) ∙ first_is

  -- ---- PRINT and VERIFY

  refused-seen : (openings : ℕ → State) (keyed : Bool) (name : List ℕ) (old new : List V)
      (outcome : Outcome) → AreHeld openings old
      → IsRefused shown_in keyed name old new outcome
      → Keeps openings new (IsRefused shown_at keyed name (all_seen openings old)
      (all_seen openings new) outcome)
  refused-seen openings keyed name old new outcome held is = (
    subst (AreHeld openings) (sym is.same) held,
    record {
      failure = is.failure;
      first_is = over-seen openings old (λ (them : List Shown).
          source_kind keyed them name ≡ Err is.failure) is.first_is;
      outcome_is = is.outcome_is;
      same = ap (all_seen openings) is.same;
    },
  )

  source-seen : (openings : ℕ → State) (line : ℕ) (keyed : Bool) (name : List ℕ) (kind : Kind)
      (exchange : CatEntry → Exchange) (old new : List V) → AreHeld openings old
      → IsSourceAsked shown_in answers line keyed name kind exchange old new
      → Keeps openings new (IsSourceAsked shown_at answers_as line keyed name kind exchange
      (all_seen openings old) (all_seen openings new))
  source-seen openings line keyed name kind exchange old new held is =
      let here = held-at Held openings old is.place is.before held is.before_is in
      let then = answer (openings is.place) is.before line (exchange is.entry) is.after here
      is.answered in (
        subst (AreHeld openings) (sym is.others)
            (held-set Held openings old is.place is.after held then.0),
        record {
          kind_is = over-seen openings old (λ (them : List Shown).
              source_kind keyed them name ≡ Ok kind) is.kind_is;
          place = is.place;
          place_is = over-seen openings old (λ (them : List Shown).
              place_of them name ≡ Some is.place) is.place_is;
          entry = is.entry;
          entry_is = over-seen openings old (λ (them : List Shown).
              entry_at them is.place name ≡ Some is.entry) is.entry_is;
          before = seen_as (openings is.place) is.before;
          before_is = seen-at seen_as openings old is.place is.before is.before_is;
          after = seen_as (openings is.place) is.after;
          answered = then.1;
          others = ap (all_seen openings) is.others
              ∙ seen-set seen_as openings old is.place is.after;
        },
      )

  print-by : (openings : ℕ → State) (line : ℕ) (command : PrintCommand) (old new : List V)
      (outcome : Outcome) → AreHeld openings old
      → IsPrintedBy shown_in answers line command old new outcome
      → Keeps openings new (IsPrintedBy shown_at answers_as line command (all_seen openings old)
      (all_seen openings new) outcome)
  print-by openings line command old new outcome held is = ⊎_elim
      (λ refused.
      let then = refused-seen openings (has_keys command.from command.to) command.source old new
      outcome held refused in (then.0, inl then.1))
      (λ given.
      let then = source-seen openings line (has_keys command.from command.to) command.source
      given.kind (reading command given.records given.answer) old new held given.asked in (
        then.0,
        inr (record {
          kind = given.kind;
          records = given.records;
          answer = given.answer;
          asked = then.1;
          outcome_is = given.outcome_is;
        }),
      )) is

  verify-by : (openings : ℕ → State) (line : ℕ) (name : List ℕ) (old new : List V)
      (outcome : Outcome) → AreHeld openings old
      → IsVerifiedBy shown_in answers line name old new outcome
      → Keeps openings new (IsVerifiedBy shown_at answers_as line name (all_seen openings old)
      (all_seen openings new) outcome)
  verify-by openings line name old new outcome held is = ⊎_elim
      (λ refused.
      let then = refused-seen openings false name old new outcome held refused in
      (then.0, inl then.1))
      (λ given.
      let then = source-seen openings line false name given.kind (counting given.answer) old new
      held given.asked in (
        then.0,
        inr (record {
          kind = given.kind;
          answer = given.answer;
          asked = then.1;
          outcome_is = given.outcome_is;
        }),
      )) is

  -- ---- commands

  abbrev stage_seen : (ℕ → State) → Stage V → Stage VolumeAt
  stage_seen openings stage = record {
    volumes = all_seen openings stage.volumes;
    going = stage.going;
  }

  same-seen : (openings : ℕ → State) (to to' : _) (old new : Stage V) → to ≡ to'
      → AreHeld openings old.volumes → IsQuiet to old new
      → Keeps openings new.volumes
      (IsQuiet to' (stage_seen openings old) (stage_seen openings new))
  same-seen openings to to' old new same held is = (
    subst (AreHeld openings) (sym is.volumes) held,
    record { volumes = ap (all_seen openings) is.volumes; going = is.going ∙ same },
  )

  quiet-seen : (openings : ℕ → State) (line : ℕ) (command : Command) (old new : Stage V)
      → AreHeld openings old.volumes → QuietRun shown_in line command old new
      → Keeps openings new.volumes (QuietRun shown_at line command (stage_seen openings old)
      (stage_seen openings new))
  quiet-seen openings line command old new held is =
      same-seen openings (command_run (map shown_in old.volumes) old.going line command)
      (command_run (map shown_at (all_seen openings old.volumes)) old.going line command) old new
      (ap (λ (them : List Shown). command_run them old.going line command)
      (shown-seen openings old.volumes)) held is

  over-seen-as : (openings : ℕ → State) (name : List ℕ) (line : ℕ) (command : DefineCommand)
      (old new : Stage V) → AreHeld openings old.volumes
      → IsOverAs shown_in shape_in answers name line command old new
      → Keeps openings new.volumes (IsOverAs shown_at shape_at answers_as name line command
      (stage_seen openings old) (stage_seen openings new))
  over-seen-as openings name line command old new held is =
      let then = over-by openings line command.order command.volume old.volumes new.volumes
      is.outcome held is.defined in
      (then.0, record { outcome = is.outcome; defined = then.1; going = is.going })

  define-seen : (openings : ℕ → State) (what : NewEntry) (line : ℕ) (command : DefineCommand)
      (old new : Stage V) → AreHeld openings old.volumes
      → DefineRun shown_in shape_in answers what line command old new
      → Keeps openings new.volumes (DefineRun shown_at shape_at answers_as what line command
      (stage_seen openings old) (stage_seen openings new))
  define-seen openings (Cluster kind false options) line command old new held is =
      let then = defined openings old.volumes line command.order command.volume new.volumes
      is.outcome held is.defined in
      (then.0, record { outcome = is.outcome; defined = then.1; going = is.going })
  define-seen openings (Cluster kind true options) line command old new held is =
      same-seen openings (passed old.going) (passed old.going) old new refl held is
  define-seen openings (Alternate related unique options) line command old new held is =
      over-seen-as openings (codes "DEFINE ALTERNATEINDEX") line command old new held is
  define-seen openings (Path related) line command old new held is =
      over-seen-as openings (codes "DEFINE PATH") line command old new held is

  altering-seen : (openings : ℕ → State) (line : ℕ) (order : Alter)
      (old new : Stage V) → AreHeld openings old.volumes
      → IsAlteredAs shown_in answers line order old new
      → Keeps openings new.volumes (IsAlteredAs shown_at answers_as line order
      (stage_seen openings old) (stage_seen openings new))
  altering-seen openings line order old new held is =
      let then = alter-by openings line order old.volumes new.volumes is.outcome held is.altered in
      (then.0, record { outcome = is.outcome; altered = then.1; going = is.going })

  deleting-seen : (openings : ℕ → State) (line : ℕ) (command : DeleteCommand) (old new : Stage V)
      → AreHeld openings old.volumes → IsDeletedAs shown_in answers line command old new
      → Keeps openings new.volumes (IsDeletedAs shown_at answers_as line command
      (stage_seen openings old) (stage_seen openings new))
  deleting-seen openings line command old new held is =
      let then = delete-by openings line command.kind command.names old.volumes new.volumes
      is.outcome held is.deleted in
      (then.0, record { outcome = is.outcome; deleted = then.1; going = is.going })

  printing-seen : (openings : ℕ → State) (line : ℕ) (command : PrintCommand) (old new : Stage V)
      → AreHeld openings old.volumes → IsPrintedAs shown_in answers line command old new
      → Keeps openings new.volumes (IsPrintedAs shown_at answers_as line command
      (stage_seen openings old) (stage_seen openings new))
  printing-seen openings line command old new held is =
      let then = print-by openings line command old.volumes new.volumes is.outcome held is.printed
      in (then.0, record { outcome = is.outcome; printed = then.1; going = is.going })

  verifying-seen : (openings : ℕ → State) (line : ℕ) (name : List ℕ) (old new : Stage V)
      → AreHeld openings old.volumes → IsVerifiedAs shown_in answers line name old new
      → Keeps openings new.volumes (IsVerifiedAs shown_at answers_as line name
      (stage_seen openings old) (stage_seen openings new))
  verifying-seen openings line name old new held is =
      let then = verify-by openings line name old.volumes new.volumes is.outcome held is.verified
      in (then.0, record { outcome = is.outcome; verified = then.1; going = is.going })

  listing-seen : (openings : ℕ → State) (all : Bool) (line : ℕ) (command : ListCommand)
      (old new : Stage V) → AreHeld openings old.volumes
      → ListRun shown_in answers all line command old new
      → Keeps openings new.volumes (ListRun shown_at answers_as all line command
      (stage_seen openings old) (stage_seen openings new))
  listing-seen openings true line command old new held is =
      let then = list-seen openings line command.entries old.volumes new.volumes is.outcome held
      is.is_listed in
      (then.0, record { outcome = is.outcome; is_listed = then.1; going = is.going })
  listing-seen openings false line command old new held is =
      same-seen openings (list_run (map shown_in old.volumes) old.going line command)
      (list_run (map shown_at (all_seen openings old.volumes)) old.going line command) old new
      (ap (λ (them : List Shown). list_run them old.going line command)
      (shown-seen openings old.volumes)) held is

  command-seen : (openings : ℕ → State) (line : ℕ) (command : Command) (old new : Stage V)
      → AreHeld openings old.volumes
      → CommandRun shown_in shape_in answers line command old new
      → Keeps openings new.volumes (CommandRun shown_at shape_at answers_as line command
      (stage_seen openings old) (stage_seen openings new))
  command-seen openings line (commands.Define command) old new held is =
      define-seen openings command.order.what line command old new held is
  command-seen openings line (commands.Alter order) old new held is =
      altering-seen openings line order old new held is
  command-seen openings line (commands.Delete command) old new held is =
      deleting-seen openings line command old new held is
  command-seen openings line (commands.Repro command) old new held is =
      quiet-seen openings line (commands.Repro command) old new held is
  command-seen openings line (commands.BuildIndex command) old new held is =
      quiet-seen openings line (commands.BuildIndex command) old new held is
  command-seen openings line (commands.Print command) old new held is =
      printing-seen openings line command old new held is
  command-seen openings line (commands.ListCatalog command) old new held is =
      listing-seen openings command.all line command old new held is
  command-seen openings line (commands.Verify name) old new held is =
      verifying-seen openings line name old new held is
  command-seen openings line (commands.Examine name) old new held is =
      quiet-seen openings line (commands.Examine name) old new held is
  command-seen openings line (commands.If condition) old new held is =
      quiet-seen openings line (commands.If condition) old new held is
  command-seen openings line (commands.Set setting) old new held is =
      quiet-seen openings line (commands.Set setting) old new held is

  node-seen : (openings : ℕ → State) (runs : Bool) (node : Node) (old new : Stage V)
      → AreHeld openings old.volumes
      → NodeRunWhere shown_in shape_in answers runs node old new
      → Keeps openings new.volumes (NodeRunWhere shown_at shape_at answers_as runs node
      (stage_seen openings old) (stage_seen openings new))
  node-seen openings true node old new held is =
      command-seen openings node.line node.command old new held is
  node-seen openings false node old new held is =
      same-seen openings (passed old.going) (passed old.going) old new refl held is

  nodes-seen : (openings : ℕ → State) (nodes : List Node) (old new : Stage V)
      → AreHeld openings old.volumes → NodesRun shown_in shape_in answers nodes old new
      → NodesRun shown_at shape_at answers_as nodes (stage_seen openings old)
      (stage_seen openings new)
  nodes-seen openings [] old new held is = ap (stage_seen openings) is
  nodes-seen openings (node ∷ nodes) old new held is =
      let first = node-seen openings
      (not old.going.over && reaches old.going.took node.within) node old is.0 held is.1 in (
        stage_seen openings is.0,
        first.1,
        nodes-seen openings nodes is.0 new first.0 is.2,
      )

  -- a report over volumes is one over what they are seen as
  pub report-seen : (openings : ℕ → State) (nodes : List Node) (old new : List V)
      (report : StepReport) → AreHeld openings old
      → IsReport shown_in shape_in answers nodes old new report
      → IsReport shown_at shape_at answers_as nodes (all_seen openings old)
      (all_seen openings new) report
  report-seen openings nodes old new report held is = record {
    going = is.going;
    ran = nodes-seen openings nodes (first_stage old)
        (record { volumes = new; going = is.going }) held is.ran;
    is = is.is;
  }
