-- What the history of a volume gains by a command of IDCAMS: the entries of the event that
-- answers it.
use Rattle.std.proofs.Common.{◌≡◌, ◌∙◌, ⊎_elim, inl, inr, ℕ, Bool, true, false, List, [], ◌∷◌}
use Rattle.std.proofs.Common.{◌++◌, Option, Some, None, append_assoc, ap, refl, sym}
use Rattle.std.specs.Prelude.{All}
use Rattle.std.proofs.lemmas.List.{append-nil}
use Rattle.std.proofs.lemmas.List.Elements.{All-append, All-cons, All-nil}
use Rattle.vr_types.specs.declared.fault.DeviceFault.TheVariants.{Read, Write}
use Rattle.vr_types.specs.declared.reply.Refusal.TheVariants.{WriteFault}
use Rattle.vr_types.specs.declared.reply.Reply.TheVariants as replies
use Rattle.vr_types.specs.declared.request.Request.{Request}
use Rattle.vr_types.specs.declared.request.Request.TheVariants.{Commit}
use Rattle.vr_types.specs.declared.unit.AreaNo.{AreaNo}
use Rattle.vr_types.specs.declared.unit.Unit.{Unit as UnitOfRecovery}
use Rattle.vr_catalog.specs.Record.{spelling}
use Rattle.vr_catalog.specs.declared.entry.CatEntry.{CatEntry}
use Rattle.vr_edits.specs.declared.edit.CatalogEdit.{CatalogEdit}
use Rattle.vr_history.specs.declared.entry.Entry.{Entry}
use Rattle.vr_history.specs.declared.entry.What.{What}
use Rattle.vr_history.specs.declared.entry.What.TheVariants.{Asked, Claimed, Faulted, Split}
use Rattle.vr_record_file.specs.Now.{FileNow, entry_next, faulted, number_of}
use Rattle.vr_ams_define.specs.Answers.{Exchange}
use Rattle.vr_ams_define.specs.Answers.Exchange.{Counting, Defining, Editing, Reading}
use Rattle.vr_ams_define.specs.declared.answer.Changed.{Changed}
use Rattle.vr_ams_define.specs.declared.answer.Changed.TheVariants as changes
use Rattle.vr_ams_define.specs.declared.answer.Counted.TheVariants as counts
use Rattle.vr_ams_define.specs.declared.answer.Defined.TheVariants as answers
use Rattle.vr_ams_define.specs.declared.answer.ReadBack.TheVariants as reads
use Rattle.vr_ams_define.specs.Grown.{IsOfCommand}
use Rattle.vr_ams_define.specs.NewCluster.{with_area}
use Rattle.vr_event.specs.Counts.{CountedBy}
use Rattle.vr_event.specs.Defining.{EnteredBy, catalog_file, catalog_part, entry_add, utility_unit}
use Rattle.vr_event.specs.Defining.{entry_place, entry_with_area, file_defined, file_in_doubt}
use Rattle.vr_event.specs.CatalogEdit.{EnteredEdit, file_edit_in_doubt, file_edited}
use Rattle.vr_event.specs.Reading.{ReadBy}
use Rattle.vr_event.specs.Staging.{stage_entered}
use Rattle.vr_event.specs.declared.counts.Count.{Count}
use Rattle.vr_event.specs.declared.counts.Count.TheVariants as counting
use Rattle.vr_event.specs.declared.define.Define.{Define}
use Rattle.vr_event.specs.declared.define.Define.TheVariants as events
use Rattle.vr_event.specs.declared.edit.Edit.{Edit}
use Rattle.vr_event.specs.declared.edit.Edit.TheVariants as edits
use Rattle.vr_event.specs.declared.reading.ReadThrough.{ReadThrough}
use Rattle.vr_event.specs.declared.reading.ReadThrough.TheVariants as readings
use Rattle.vr_trace.specs.Visitors.{Visited}
use Rattle.vr_job.specs.Answering.{answer_of, changed_of, counted_of, read_back_of}
use Rattle.vr_job.specs.Definitions.{IsCatalogStage, IsRecorded}
use Rattle.vr_job.specs.Events.{IsStop}
use Rattle.vr_job.specs.Reported.{EditedBy, MadeBy, numbers_of}
use Rattle.vr_job.proofs.EditEntries.{answered_in, entries-own}
use Rattle.vr_job.proofs.EditEvents.{changed-begun, changed-of, commit-of, doubted-entries, edit-is}
use Rattle.vr_job.proofs.EditEvents.{edited-entries, fault-of, refused-of}

-- ---- histories that grow by an entry at a time

two-more : (entries : List Entry) (a b : Entry)
    → (entries ++ a ∷ []) ++ b ∷ [] ≡ entries ++ a ∷ b ∷ []
two-more entries a b = append_assoc entries (a ∷ []) (b ∷ [])

three-more : (entries : List Entry) (a b c : Entry)
    → ((entries ++ a ∷ []) ++ b ∷ []) ++ c ∷ [] ≡ entries ++ a ∷ b ∷ c ∷ []
three-more entries a b c = two-more (entries ++ a ∷ []) b c
    ∙ append_assoc entries (a ∷ []) (b ∷ c ∷ [])

four-more : (entries : List Entry) (a b c d : Entry)
    → (((entries ++ a ∷ []) ++ b ∷ []) ++ c ∷ []) ++ d ∷ [] ≡ entries ++ a ∷ b ∷ c ∷ d ∷ []
four-more entries a b c d = three-more (entries ++ a ∷ []) b c d
    ∙ append_assoc entries (a ∷ []) (b ∷ c ∷ d ∷ [])

-- what a history gained by a command on this line, and how it answers by it
pub record Gained (line : ℕ) (exchange : Exchange) (old new : FileNow) : Type 0 where
  pub made : List Entry
  pub entries_are : new.entries ≡ old.entries ++ made
  pub own : All (IsOfCommand line) made
  pub by : MadeBy exchange made

-- ---- one event

module _ (after : ℕ) (unit : UnitOfRecovery) (line : ℕ) (old new : FileNow)
    (of_utilities : unit.deck ≡ 0) where
  -- all that it enters is of its unit and its line
  own-more : (before : List Entry) (last : ℕ) (what : What) (others : List Entry)
      → All (IsOfCommand line) others
      → All (IsOfCommand line) (entry_next before last unit line what ∷ others)
  own-more before last what others own = All-cons (IsOfCommand line)
      (entry_next before last unit line what) others (of_utilities, refl) own

  own-none : All (IsOfCommand line) []
  own-none = All-nil (IsOfCommand line)

  -- ---- a fault of a write alone, nothing, and stages of the catalog

  abbrev one : What → Entry
  one what = entry_next old.entries after unit line what

  own-one : (what : What) → All (IsOfCommand line) (one what ∷ [])
  own-one what = own-more old.entries after what [] own-none

  alone : (exchange : Exchange) → ((made : List Entry) → IsStop made → MadeBy exchange made)
      → new ≡ faulted after unit line old → Gained line exchange old new
  alone exchange stops leaves = record {
    made = one (Faulted Write) ∷ [];
    entries_are = ap (λ (file : FileNow). file.entries) leaves;
    own = own-one (Faulted Write);
    by = stops (one (Faulted Write) ∷ []) (inr (record {
      fault = one (Faulted Write);
      made_are = refl;
      fault_is = refl;
      of_utilities = of_utilities;
    }));
  }

  nothing : (exchange : Exchange) → MadeBy exchange [] → new ≡ old → Gained line exchange old new
  nothing exchange none same = record {
    made = [];
    entries_are = ap (λ (file : FileNow). file.entries) same ∙ sym (append-nil old.entries);
    own = own-none;
    by = none;
  }

  one-stage : (stage : Entry) → IsCatalogStage stage → All IsCatalogStage (stage ∷ [])
  one-stage stage is = All-cons IsCatalogStage stage [] is (All-nil IsCatalogStage)

  stage : (exchange : Exchange)
      → ((made : List Entry) → All IsCatalogStage made → MadeBy exchange made)
      → (split : Bool) (taken : Option AreaNo)
      → new ≡ stage_entered after unit line catalog_part split taken old
      → Gained line exchange old new
  stage exchange stages split (Some area) leaves = record {
    made = one (Claimed catalog_part area) ∷ [];
    entries_are = ap (λ (file : FileNow). file.entries) leaves;
    own = own-one (Claimed catalog_part area);
    by = stages (one (Claimed catalog_part area) ∷ [])
        (one-stage (one (Claimed catalog_part area)) (inr (area, refl)));
  }
  stage exchange stages true None leaves = record {
    made = one (Split catalog_part) ∷ [];
    entries_are = ap (λ (file : FileNow). file.entries) leaves;
    own = own-one (Split catalog_part);
    by = stages (one (Split catalog_part) ∷ []) (one-stage (one (Split catalog_part)) (inl refl));
  }
  stage exchange stages false None leaves =
      nothing exchange (stages [] (All-nil IsCatalogStage)) leaves

  -- ---- a definition

  module _ (volume : ℕ) (entry : CatEntry) where
    module _ (area : AreaNo) where
      abbrev cluster : CatEntry
      cluster = entry_with_area entry area

      -- the entry of the area, that of the record, and what is entered after both
      abbrev claims : What
      claims = Claimed entry.part area

      abbrev claim : Entry
      claim = entry_next old.entries after unit line claims

      abbrev claimed : List Entry
      claimed = old.entries ++ claim ∷ []

      abbrev adds : What
      adds = Asked (entry_add volume cluster) (replies.Done 0 (Some (entry_place cluster)) None)

      abbrev add : Entry
      add = entry_next claimed 0 unit line adds

      abbrev added : List Entry
      added = claimed ++ add ∷ []

      own-both : (others : List Entry) → All (IsOfCommand line) others
          → All (IsOfCommand line) (claim ∷ add ∷ others)
      own-both others own = own-more old.entries after claims (add ∷ others)
          (own-more claimed 0 adds others own)

      recorded : IsRecorded unit entry.part area (spelling (with_area area entry)) (claim ∷ add ∷ [])
      recorded = record {
        claim = claim;
        add = add;
        made_are = refl;
        of_utilities = of_utilities;
        claim_unit = refl;
        add_unit = refl;
        claim_is = refl;
        file = catalog_file volume;
        catalog = refl;
        place = entry_place cluster;
        add_is = refl;
      }

      abbrev commits : What
      commits = Asked Commit (replies.Done 0 None None)

      abbrev commit : Entry
      commit = entry_next added 0 unit line commits

      done : new ≡ file_defined volume after unit line entry area old
          → Gained line (Defining entry (answers.Done area)) old new
      done leaves = record {
        made = claim ∷ add ∷ commit ∷ [];
        entries_are = ap (λ (file : FileNow). file.entries) leaves
            ∙ three-more old.entries claim add commit;
        own = own-both (commit ∷ []) (own-more added 0 commits [] own-none);
        by = record {
          unit = unit;
          first = claim ∷ add ∷ [];
          recorded = recorded;
          commit = commit;
          made_are = refl;
          commit_unit = refl;
          commit_is = refl;
        };
      }

      abbrev fails : What
      fails = Asked Commit (replies.Refused WriteFault)

      abbrev failing : Entry
      failing = entry_next added 0 unit line fails

      abbrev fault : Entry
      fault = entry_next (added ++ failing ∷ []) 0 unit line (Faulted Write)

      in-doubt : new ≡ file_in_doubt volume after unit line entry area old
          → Gained line (Defining entry (answers.Fault Write)) old new
      in-doubt leaves = record {
        made = claim ∷ add ∷ failing ∷ fault ∷ [];
        entries_are = ap (λ (file : FileNow). file.entries) leaves
            ∙ four-more old.entries claim add failing fault;
        own = own-both (failing ∷ fault ∷ []) (own-more added 0 fails (fault ∷ [])
            (own-more (added ++ failing ∷ []) 0 (Faulted Write) [] own-none));
        by = inl (record {
          before = claim ∷ add ∷ [];
          begun = inr (inl (unit, entry.part, area, spelling (with_area area entry), recorded));
          request = Commit;
          failing = failing;
          fault = fault;
          made_are = refl;
          failing_is = refl;
          fault_is = refl;
          unit_is = refl;
          line_is = refl;
        });
      }

    -- ---- a definition, whatever it came to

    pub gained : (event : Define) → EnteredBy event volume after unit line entry old new
        → Gained line (Defining entry (answer_of event)) old new
    gained (events.Done area) is = done area is
    gained events.Again is =
        stage (Defining entry answers.Again) (λ made stages. stages) is.0 is.1 is.2
    gained events.NoArea is = nothing (Defining entry answers.NoArea) refl is
    gained events.NoRoom is = nothing (Defining entry answers.NoRoom) refl is
    gained events.Held is = nothing (Defining entry answers.Held) refl is
    gained events.Full is = nothing (Defining entry answers.Full) refl is
    gained (events.Fault Read) is = nothing (Defining entry (answers.Fault Read)) refl is
    gained (events.Fault Write) is = ⊎_elim
        (alone (Defining entry (answers.Fault Write)) (λ made stop. stop))
        (λ doubt. in-doubt doubt.0 doubt.1) is

  -- ---- and a count

  pub gained-count : (entry : CatEntry) (event : Count) → CountedBy event after unit line old new
      → Gained line (Counting entry (counted_of event)) old new
  gained-count entry (counting.Counted found) is =
      nothing (Counting entry (counts.Done (numbers_of found))) refl is
  gained-count entry (counting.Fault Read) is = nothing (Counting entry (counts.Fault Read)) refl is
  gained-count entry (counting.Fault Write) is =
      alone (Counting entry (counts.Fault Write)) (λ made stop. stop) is

  -- ---- and a reading

  pub gained-read : (entry : CatEntry) (from : Option (List ℕ)) (records : List Visited)
      (event : ReadThrough)
      → ReadBy event after unit line old new
      → Gained line (Reading entry from records (read_back_of event)) old new
  gained-read entry from records readings.Done is =
      nothing (Reading entry from records reads.Done) refl is
  gained-read entry from records (readings.Fault Read) is =
      nothing (Reading entry from records (reads.Fault Read)) refl is
  gained-read entry from records (readings.Fault Write) is =
      alone (Reading entry from records (reads.Fault Write)) (λ made stop. stop) is

-- ---- and an edit

module _ (volume after line : ℕ) (edit : CatalogEdit) (old new : FileNow) where
  abbrev utilities : UnitOfRecovery
  utilities = utility_unit old

  abbrev changed : List Entry
  changed = changed-of volume after line edit old

  own-changed : All (IsOfCommand line) changed
  own-changed = entries-own (number_of old.numbers 0) line (answered_in volume edit) after
      old.entries

  abbrev committed : Entry
  committed = commit-of volume after line edit old

  edited : new ≡ file_edited volume after utilities line edit old
      → Gained line (Editing edit changes.Done) old new
  edited leaves = record {
    made = changed ++ committed ∷ [];
    entries_are = edited-entries volume after line edit old new leaves;
    own = All-append (IsOfCommand line) changed (committed ∷ []) own-changed
        (All-cons (IsOfCommand line) committed [] (refl, refl) (All-nil (IsOfCommand line)));
    by = edit-is volume after line edit old;
  }

  abbrev refused : Entry
  refused = refused-of volume after line edit old

  abbrev stopping : Entry
  stopping = fault-of volume after line edit old

  edit-in-doubt : new ≡ file_edit_in_doubt volume after utilities line edit old
      → Gained line (Editing edit (changes.Fault Write)) old new
  edit-in-doubt leaves = record {
    made = changed ++ refused ∷ stopping ∷ [];
    entries_are = doubted-entries volume after line edit old new leaves;
    own = All-append (IsOfCommand line) changed (refused ∷ stopping ∷ []) own-changed
        (All-cons (IsOfCommand line) refused (stopping ∷ []) (refl, refl)
        (All-cons (IsOfCommand line) stopping [] (refl, refl) (All-nil (IsOfCommand line))));
    by = inl (record {
      before = changed;
      begun = changed-begun volume after line edit old;
      request = Commit;
      failing = refused;
      fault = stopping;
      made_are = refl;
      failing_is = refl;
      fault_is = refl;
      unit_is = refl;
      line_is = refl;
    });
  }

  unchanged : (answer : Changed) → EditedBy answer edit [] → new ≡ old
      → Gained line (Editing edit answer) old new
  unchanged answer none same =
      nothing after utilities line old new refl (Editing edit answer) none same

  pub gained-edit : (event : Edit)
      → EnteredEdit event volume after utilities line edit old new
      → Gained line (Editing edit (changed_of event)) old new
  gained-edit edits.Done is = edited is
  gained-edit edits.Again is = stage after utilities line old new refl (Editing edit changes.Again)
      (λ made stages. stages) is.0 is.1 is.2
  gained-edit edits.NoRoom is = unchanged changes.NoRoom refl is
  gained-edit edits.Held is = unchanged changes.Held refl is
  gained-edit edits.Live is = unchanged changes.Live refl is
  gained-edit edits.Full is = unchanged changes.Full refl is
  gained-edit (edits.Fault Read) is = unchanged (changes.Fault Read) refl is
  gained-edit (edits.Fault Write) is = ⊎_elim
      (alone after utilities line old new refl (Editing edit (changes.Fault Write))
      (λ made stop. stop)) edit-in-doubt is
