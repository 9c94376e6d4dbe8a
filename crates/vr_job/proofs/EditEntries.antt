-- The entries of an edit of the catalog, before the COMMIT of its unit: requests that are done, one
-- after another, each at the stamp that comes next.
use Rattle.std.proofs.Common.{◌≡◌, ◌≢◌, ◌∙◌, ◌+◌, ℕ, Bool, true, false, List, [], ◌∷◌, ◌++◌}
use Rattle.std.proofs.Common.{Option, Some, None, All, ap, append_assoc, arith, inl, map, max, refl}
use Rattle.std.proofs.Common.{subst, sym, ⊎_elim}
use Rattle.std.specs.Prelude.{flat_map}
use Rattle.std.specs.List.{AllByRecursion}
use Rattle.std.proofs.lemmas.List.{append-nil}
use Rattle.std.proofs.lemmas.List.Elements.{All-cons, All-nil}
use Rattle.vr_types.specs.declared.reply.Reply.{Reply}
use Rattle.vr_types.specs.declared.reply.Reply.TheVariants.{Done as DoneReply}
use Rattle.vr_types.specs.declared.request.Request.{Request}
use Rattle.vr_types.specs.declared.unit.Unit.{Unit as UnitOfRecovery}
use Rattle.vr_catalog.specs.declared.entry.CatEntry.{CatEntry}
use Rattle.vr_edits.specs.declared.edit.CatalogEdit.{CatalogEdit}
use Rattle.vr_edits.specs.declared.edit.CatalogEdit.TheVariants.{Add, Alter, Delete, Rename}
use Rattle.vr_history.proofs.CallerLemmas.{last_stamp-append}
use Rattle.vr_history.specs.Merged.{last_stamp}
use Rattle.vr_history.specs.declared.entry.Entry.{Entry}
use Rattle.vr_history.specs.declared.entry.What.{What}
use Rattle.vr_history.specs.declared.entry.What.TheVariants.{Asked}
use Rattle.vr_ledger.specs.Entries.{IsOf}
use Rattle.vr_record_file.specs.CatalogEdit.{steps_made}
use Rattle.vr_record_file.specs.Now.{FileNow, entry_next, lets_go, with_event}
use Rattle.vr_record_file.specs.declared.entry_step.EntryStep.{EntryStep}
use Rattle.vr_record_file.specs.declared.entry_step.EntryStep.TheVariants as steps
use Rattle.vr_record_file.specs.declared.numbers.DeckNumber.{DeckNumber}
use Rattle.vr_ams_define.specs.Grown.{IsOfCommand}
use Rattle.vr_event.specs.CatalogEdit.{record_gone, step_for, steps_of}
use Rattle.vr_event.specs.Made.{AreNext}
use Rattle.vr_job.specs.Catalogs.{catalog_by, catalog_done}
use Rattle.vr_job.specs.Crash.{HaveDoneCommit, IsDoneCommit}
use Rattle.vr_job.specs.Definitions.{asked_by}
use Rattle.vr_job.specs.Faultless.{has_stopped}
use Rattle.vr_job.specs.ReadFaults.{read_faults}
use Rattle.vr_job.specs.Serving.{ShowUndoing, unit_of}
use Rattle.vr_job.proofs.Undoing.{asked-shows}

-- ---- requests that are done

-- a request, and the place and the record that its reply shows
pub record Answered : Type 0 where
  pub request : Request
  pub place : Option (List ℕ)
  pub bytes : Option (List ℕ)

abbrev pub reply_of : Answered → Reply
reply_of one = DoneReply 0 one.place one.bytes

abbrev pub what_of : Answered → What
what_of one = Asked one.request (reply_of one)

abbrev pub answered_by : EntryStep → List Answered
answered_by (steps.Change get change got changed shown) =
    record { request = get; place = Some got; bytes = Some shown }
    ∷ record { request = change; place = Some changed; bytes = None } ∷ []
answered_by (steps.Add add added) =
    record { request = add; place = Some added; bytes = None } ∷ []

abbrev pub answered_in : ℕ → CatalogEdit → List Answered
answered_in volume edit = flat_map answered_by (steps_of volume edit)

-- their entries answer what is asked
steps-asked : (list : List EntryStep)
    → map what_of (flat_map answered_by list) ≡ flat_map asked_by list
steps-asked [] = refl
steps-asked (steps.Change get change got changed shown ∷ list) = ap (λ (rest : List What).
    Asked get (DoneReply 0 (Some got) (Some shown))
    ∷ Asked change (DoneReply 0 (Some changed) None) ∷ rest) (steps-asked list)
steps-asked (steps.Add add added ∷ list) =
    ap (λ (rest : List What). Asked add (DoneReply 0 (Some added) None) ∷ rest) (steps-asked list)

-- ---- none of them is a COMMIT

abbrev pub GoesOnBy : What → Type 0
GoesOnBy what = ¬ IsDoneCommit what

edit-goes-on : (volume : ℕ) (edit : CatalogEdit)
    → AllByRecursion GoesOnBy (flat_map asked_by (steps_of volume edit))
edit-goes-on volume (Alter entry new) = (λ same. cc, (λ same. cc, tt))
edit-goes-on volume (Rename entry new) = (λ same. cc, (λ same. cc, (λ same. cc, tt)))
edit-goes-on volume (Delete gone) = each gone
  where
    each : (gone : List CatEntry) → AllByRecursion GoesOnBy
        (flat_map asked_by (map (step_for volume) (map record_gone gone)))
    each [] = tt
    each (entry ∷ gone) = (λ same. cc, (λ same. cc, each gone))
edit-goes-on volume (Add new) = (λ same. cc, tt)

-- so what follows them has the one that is there
pub whats-later : (first more : List Entry)
    → AllByRecursion GoesOnBy (map (λ (entry : Entry). entry.what) first)
    → HaveDoneCommit (first ++ more) → HaveDoneCommit more
whats-later [] more goes done = done
whats-later (entry ∷ first) more goes done = ⊎_elim (λ here. absurd (goes.0 here))
    (λ later. whats-later first more goes.1 later) done

pub edit-later : (volume : ℕ) (edit : CatalogEdit) (first more : List Entry)
    → map (λ (entry : Entry). entry.what) first ≡ flat_map asked_by (steps_of volume edit)
    → HaveDoneCommit (first ++ more) → HaveDoneCommit more
edit-later volume edit first more are = whats-later first more
    (subst (AllByRecursion GoesOnBy) (sym are) (edit-goes-on volume edit))

pub answered-goes-on : (volume : ℕ) (edit : CatalogEdit)
    → AllByRecursion (λ (one : Answered). GoesOnBy (what_of one)) (answered_in volume edit)
answered-goes-on volume (Alter entry new) = (λ same. cc, (λ same. cc, tt))
answered-goes-on volume (Rename entry new) = (λ same. cc, (λ same. cc, (λ same. cc, tt)))
answered-goes-on volume (Delete gone) = each gone
  where
    each : (gone : List CatEntry) → AllByRecursion (λ (one : Answered). GoesOnBy (what_of one))
        (flat_map answered_by (map (step_for volume) (map record_gone gone)))
    each [] = tt
    each (entry ∷ gone) = (λ same. cc, (λ same. cc, each gone))
answered-goes-on volume (Add new) = (λ same. cc, tt)

-- ---- what they make of a catalog

abbrev pub told_by : List Answered → List CatEntry → List CatEntry
told_by [] catalog = catalog
told_by (one ∷ answered) catalog =
    told_by answered (catalog_done one.request one.place catalog)

-- ---- their entries

module _ (number line : ℕ) where
  abbrev unit : UnitOfRecovery
  unit = record { deck = 0; number = number }

  abbrev pub entries_of : ℕ → List Answered → List Entry → List Entry
  entries_of after [] entries = []
  entries_of after (one ∷ answered) entries =
      entry_next entries after unit line (what_of one)
      ∷ entries_of 0 answered
      (entries ++ entry_next entries after unit line (what_of one) ∷ [])

  abbrev pub file_with : ℕ → List Answered → FileNow → FileNow
  file_with after [] file = file
  file_with after (one ∷ answered) file =
      file_with 0 answered (with_event after unit line (what_of one) (lets_go 0 one.request file))

  -- they are those of the steps
  pub steps-with : (list : List EntryStep) (after : ℕ) (file : FileNow)
      → steps_made after unit line list file ≡ file_with after (flat_map answered_by list) file
  steps-with [] after file = refl
  steps-with (steps.Change get change got changed shown ∷ list) after file =
      steps-with list 0 _
  steps-with (steps.Add add added ∷ list) after file = steps-with list 0 _

  pub entries-asked : (answered : List Answered) (after : ℕ) (entries : List Entry)
      → map (λ (entry : Entry). entry.what) (entries_of after answered entries)
      ≡ map what_of answered
  entries-asked [] after entries = refl
  entries-asked (one ∷ answered) after entries = ap (λ (rest : List What). what_of one ∷ rest)
      (entries-asked answered 0 (entries ++ entry_next entries after unit line (what_of one) ∷ []))

  pub edit-asked : (volume : ℕ) (edit : CatalogEdit) (after : ℕ) (entries : List Entry)
      → map (λ (entry : Entry). entry.what) (entries_of after (answered_in volume edit) entries)
      ≡ flat_map asked_by (steps_of volume edit)
  edit-asked volume edit after entries =
      entries-asked (answered_in volume edit) after entries ∙ steps-asked (steps_of volume edit)

  -- what each of them is, all of them are
  pub entries-each : (P : Entry → Type 0) (answered : List Answered)
      → AllByRecursion (λ (one : Answered). (stamp : ℕ) → P (record {
        stamp = stamp;
        unit = unit;
        line = line;
        what = what_of one;
      })) answered → (after : ℕ) (entries : List Entry) → All P (entries_of after answered entries)
  entries-each P [] each after entries = All-nil P
  entries-each P (one ∷ answered) each after entries =
      let entry = entry_next entries after unit line (what_of one) in
      All-cons P entry (entries_of 0 answered (entries ++ entry ∷ [])) (each.0 entry.stamp)
      (entries-each P answered each.1 0 (entries ++ entry ∷ []))

  any : (P : Entry → Type 0) (answered : List Answered)
      → ((one : Answered) (stamp : ℕ) → P (record {
        stamp = stamp;
        unit = unit;
        line = line;
        what = what_of one;
      })) → AllByRecursion (λ (one : Answered). (stamp : ℕ) → P (record {
        stamp = stamp;
        unit = unit;
        line = line;
        what = what_of one;
      })) answered
  any P [] each = tt
  any P (one ∷ answered) each = (each one, any P answered each)

  pub entries-own : (answered : List Answered) (after : ℕ) (entries : List Entry)
      → All (IsOfCommand line) (entries_of after answered entries)
  entries-own answered after entries = entries-each (IsOfCommand line) answered
      (any (IsOfCommand line) answered (λ one stamp. (refl, refl))) after entries

  pub entries-unit : (answered : List Answered) (after : ℕ) (entries : List Entry)
      → All (λ (entry : Entry). entry.unit ≡ unit) (entries_of after answered entries)
  entries-unit answered after entries = entries-each (λ (entry : Entry). entry.unit ≡ unit) answered
      (any (λ (entry : Entry). entry.unit ≡ unit) answered (λ one stamp. refl)) after entries

  pub entries-unread : (answered : List Answered) (after : ℕ) (entries : List Entry)
      → read_faults (entries_of after answered entries) ≡ 0
  entries-unread [] after entries = refl
  entries-unread (one ∷ answered) after entries = omega (
    arith,
    entries-unread answered 0
        (entries ++ entry_next entries after unit line (what_of one) ∷ []),
  )

  pub entries-go : (answered : List Answered) (after : ℕ) (entries : List Entry)
      → has_stopped (entries_of after answered entries) ≡ false
  entries-go [] after entries = refl
  entries-go (one ∷ answered) after entries = entries-go answered 0
      (entries ++ entry_next entries after unit line (what_of one) ∷ [])

  -- the first has the stamp that comes next, and each other the one after the one before
  pub entries-next : (answered : List Answered) (after : ℕ) (entries : List Entry)
      → AreNext (max (last_stamp 0 entries) after) (entries_of after answered entries)
  entries-next [] after entries = tt
  entries-next (one ∷ answered) after entries =
      let entry = entry_next entries after unit line (what_of one) in
      let above : max (last_stamp 0 (entries ++ entry ∷ [])) 0 ≡ entry.stamp =
      omega (arith, last_stamp-append 0 entries entry) in (
        refl,
        subst (λ (n : ℕ). AreNext n (entries_of 0 answered (entries ++ entry ∷ []))) above
            (entries-next answered 0 (entries ++ entry ∷ [])),
      )

  last-both : (before : ℕ) (entries more : List Entry)
      → last_stamp before (entries ++ more) ≡ last_stamp (last_stamp before entries) more
  last-both before [] more = refl
  last-both before (entry ∷ entries) more = last-both entry.stamp entries more

  pub entries-last : (answered : List Answered) → answered ≢ [] → (after : ℕ)
      (entries : List Entry)
      → last_stamp 0 (entries ++ entries_of after answered entries)
      ≡ last_stamp (max (last_stamp 0 entries) after) (entries_of after answered entries)
  entries-last [] some after entries = absurd (some refl)
  entries-last (one ∷ answered) some after entries =
      last-both 0 entries (entries_of after (one ∷ answered) entries)

  pub entries-tell : (answered : List Answered) (after : ℕ) (entries : List Entry)
      (catalog : List CatEntry)
      → catalog_by catalog (entries_of after answered entries) ≡ told_by answered catalog
  entries-tell [] after entries catalog = refl
  entries-tell (one ∷ answered) after entries catalog = entries-tell answered 0
      (entries ++ entry_next entries after unit line (what_of one) ∷ [])
      (catalog_done one.request one.place catalog)

  -- ---- what they leave of the rest of the record file

  pub record IsFileWith (after : ℕ) (answered : List Answered) (old new : FileNow) : Type 0 where
    pub entries : new.entries ≡ old.entries ++ entries_of after answered old.entries
    pub geometry : new.geometry ≡ old.geometry
    pub numbers : new.numbers ≡ old.numbers
    pub stopped : new.stopped ≡ old.stopped
    pub shows : unit ≡ unit_of 0 old → ShowUndoing old → ShowUndoing new

  pub file-with : (answered : List Answered) (after : ℕ) (file : FileNow)
      → IsFileWith after answered file (file_with after answered file)
  file-with [] after file = record {
    entries = sym (append-nil file.entries);
    geometry = refl;
    numbers = refl;
    stopped = refl;
    shows = λ current shows. shows;
  }
  file-with (one ∷ answered) after file =
      let next : FileNow = with_event after unit line (what_of one) (lets_go 0 one.request file) in
      let rest : IsFileWith 0 answered next (file_with 0 answered next) =
      file-with answered 0 next in
      let entry : Entry = entry_next file.entries after unit line (what_of one) in
      record {
        entries = rest.entries ∙ append_assoc file.entries (entry ∷ [])
            (entries_of 0 answered next.entries);
        geometry = rest.geometry;
        numbers = rest.numbers;
        stopped = rest.stopped;
        shows = λ current shows. rest.shows current
            (asked-shows unit line one.request file next (entry ∷ []) refl
            (record {
              reply = reply_of one;
              entry = entry;
              rest = [];
              is = refl;
              unit_is = refl;
              line_is = refl;
              what_is = refl;
              follows = inl refl;
            }) (All-cons (IsOf 0) entry [] refl (All-nil (IsOf 0))) (λ other differs. refl) current
            shows);
      }
