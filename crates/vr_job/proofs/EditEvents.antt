-- What an event of an edit of the catalog enters in the history of its volume, and what each of its
-- entries is not.
use Rattle.std.proofs.Common.{◌≡◌, ◌⊎◌, ◌∙◌, ◌<◌, ◌≤◌, inl, inr, ℕ, Bool, true, false}
use Rattle.std.proofs.Common.{List, [], ◌∷◌, ◌++◌, None, Result, Ok, Err, All, ap}
use Rattle.std.proofs.Common.{append_assoc, refl, subst, sym, ⊎_elim}
use Rattle.std.proofs.lemmas.List.Elements.{All-from_recursion}
use Rattle.std.specs.List.{AllByRecursion}
use Rattle.vr_types.specs.Faults.{Faults}
use Rattle.vr_types.specs.declared.fault.DeviceFault.TheVariants.{Read, Write}
use Rattle.vr_types.specs.declared.memory.OutOfMemory.{OutOfMemory}
use Rattle.vr_types.specs.declared.reply.Refusal.TheVariants.{WriteFault}
use Rattle.vr_types.specs.declared.reply.Reply.TheVariants.{Done as DoneReply, Refused}
use Rattle.vr_types.specs.declared.request.Request.{Request}
use Rattle.vr_types.specs.declared.request.Request.TheVariants.{Commit}
use Rattle.vr_types.specs.declared.unit.Unit.{Unit as UnitOfRecovery}
use Rattle.vr_edits.specs.declared.edit.CatalogEdit.{CatalogEdit}
use Rattle.vr_history.specs.declared.entry.Entry.{Entry}
use Rattle.vr_history.specs.declared.entry.What.TheVariants.{Asked, Faulted}
use Rattle.vr_record_file.specs.CatalogEdit.{steps_made}
use Rattle.vr_record_file.specs.Now.{FileNow, entry_next, number_of}
use Rattle.vr_event.specs.CatalogEdit.{HasEditFaults, IsEditEntered, file_edit_in_doubt, file_edited}
use Rattle.vr_event.specs.CatalogEdit.{steps_of}
use Rattle.vr_event.specs.Defining.{utility_unit}
use Rattle.vr_event.specs.declared.edit.Edit.{Edit}
use Rattle.vr_event.specs.declared.edit.Edit.TheVariants.{Again, Done, Fault, Full, Held, Live}
use Rattle.vr_event.specs.declared.edit.Edit.TheVariants.{NoRoom}
use Rattle.vr_job.specs.Definitions.{AreBegun, AreChanged, IsEdit}
use Rattle.vr_job.proofs.EditEntries.{Answered, GoesOnBy, IsFileWith, answered-goes-on, answered_in}
use Rattle.vr_job.proofs.EditEntries.{edit-asked, entries-each, entries-unit, entries_of, file-with}
use Rattle.vr_job.proofs.EditEntries.{steps-with, what_of}
use Rattle.vr_job.proofs.UtilityEvents.{IsEarly, IsStill, IsUtilityMade, asked-sound, done-space}
use Rattle.vr_job.proofs.UtilityEvents.{doubted-made, ended-made, staged-made, still-made}
use Rattle.vr_job.proofs.UtilityMade.{HasRisen, IsStillBy, none-rose, read-rose, write-rose}

-- ---- what its entries are

module _ (volume after line : ℕ) (edit : CatalogEdit) (file : FileNow) where
  abbrev unit : UnitOfRecovery
  unit = utility_unit file

  abbrev number : ℕ
  number = number_of file.numbers 0

  abbrev answered : List Answered
  answered = answered_in volume edit

  -- those of its records
  abbrev pub changed-of : List Entry
  changed-of = entries_of number line after answered file.entries

  abbrev with-changed : List Entry
  with-changed = (steps_made after unit line (steps_of volume edit) file).entries

  -- and what it leaves of the rest
  pub with-is : IsFileWith number line after answered file
      (steps_made after unit line (steps_of volume edit) file)
  with-is = subst (IsFileWith number line after answered file)
      (sym (steps-with number line (steps_of volume edit) after file))
      (file-with number line answered after file)

  -- the COMMIT of its unit; or a fault of a write, which refuses that and stops the volume
  abbrev pub commit-of : Entry
  commit-of = entry_next with-changed 0 unit line (Asked Commit (DoneReply 0 None None))

  abbrev pub refused-of : Entry
  refused-of = entry_next with-changed 0 unit line (Asked Commit (Refused WriteFault))

  abbrev pub fault-of : Entry
  fault-of = entry_next (with-changed ++ refused-of ∷ []) 0 unit line (Faulted Write)

  more-entries : (more : List Entry)
      → with-changed ++ more ≡ file.entries ++ (changed-of ++ more)
  more-entries more = ap (λ (es : List Entry). es ++ more) with-is.entries
      ∙ append_assoc file.entries changed-of more

  pub edited-entries : (to-file : FileNow)
      → to-file ≡ file_edited volume after unit line edit file
      → to-file.entries ≡ file.entries ++ (changed-of ++ commit-of ∷ [])
  edited-entries to-file is =
      ap (λ (f : FileNow). f.entries) is ∙ more-entries (commit-of ∷ [])

  pub doubted-entries : (to-file : FileNow)
      → to-file ≡ file_edit_in_doubt volume after unit line edit file
      → to-file.entries ≡ file.entries ++ (changed-of ++ refused-of ∷ fault-of ∷ [])
  doubted-entries to-file is = ap (λ (f : FileNow). f.entries) is
      ∙ append_assoc with-changed (refused-of ∷ []) (fault-of ∷ [])
      ∙ more-entries (refused-of ∷ fault-of ∷ [])

  pub changed-is : AreChanged unit edit changed-of
  changed-is = record {
    of_utilities = refl;
    units = entries-unit number line answered after file.entries;
    volume = volume;
    are = edit-asked number line volume edit after file.entries;
  }

  pub changed-begun : AreBegun changed-of
  changed-begun = inr (inr (unit, edit, changed-is))

  pub edit-is : IsEdit edit (changed-of ++ commit-of ∷ [])
  edit-is = record {
    unit = unit;
    first = changed-of;
    changed = changed-is;
    commit = commit-of;
    made_are = refl;
    commit_unit = refl;
    commit_is = refl;
  }

  early-each : (answered : List Answered)
      → AllByRecursion (λ (one : Answered). GoesOnBy (what_of one)) answered
      → AllByRecursion (λ (one : Answered). (stamp : ℕ) → IsEarly (record {
        stamp = stamp;
        unit = unit;
        line = line;
        what = what_of one;
      })) answered
  early-each [] goes = tt
  early-each (one ∷ answered) goes = (
    λ stamp. record {
      of_utilities = refl;
      sound = asked-sound _ _;
      goes_on = goes.0;
      space = λ asked need free. done-space _ asked 0 need free _ _;
      read = refl;
    },
    early-each answered goes.1,
  )

  pub changed-early : All IsEarly changed-of
  changed-early = entries-each number line IsEarly answered
      (early-each answered (answered-goes-on volume edit)) after file.entries

-- ---- what an event enters

-- Its entries are the utilities' own, and change no record but those of the edit.
pub record IsEditMade (volume after line : ℕ) (edit : CatalogEdit) (old new : FileNow)
    (before now : Faults) : Type 0 where
  pub event : IsUtilityMade old new before now
  pub by : All IsStill event.made ⊎ ((rest : List Entry)
      × (event.made ≡ changed-of volume after line edit old ++ rest) × All IsStill rest)

module _ (volume after line : ℕ) (edit : CatalogEdit) (old new : FileNow)
    (going : old.stopped ≡ None) (before now : Faults) where
  abbrev Made : Type 0
  Made = IsEditMade volume after line edit old new before now

  abbrev unit-of : UnitOfRecovery
  unit-of = utility_unit old

  -- nothing, or a fault alone
  still : (fails : Bool) → IsStillBy fails after unit-of line old new → HasRisen fails before now
      → Made
  still fails is risen =
      let one = still-made after line unit-of refl old new going before now fails is risen in
      record { event = one.event; by = inl one.still }

  -- the edit
  abbrev changed : List Entry
  changed = changed-of volume after line edit old

  abbrev entries : List Entry
  entries = (steps_made after unit-of line (steps_of volume edit) old).entries

  done-made : new ≡ file_edited volume after unit-of line edit old → now ≡ before → Made
  done-made is same =
      let commit = commit-of volume after line edit old in
      let one = ended-made line unit-of refl changed (changed-early volume after line edit old)
      (changed-begun volume after line edit old) entries old new going before now
      (inr (inl (edit, edit-is volume after line edit old)))
      (edited-entries volume after line edit old new is)
      (ap (λ (f : FileNow). f.geometry) is ∙ (with-is volume after line edit old).geometry)
      (ap (λ (f : FileNow). f.stopped) is ∙ (with-is volume after line edit old).stopped) same in
      record {
        event = one.event;
        by = inr (
          commit ∷ [],
          one.made_are,
          All-from_recursion IsStill (commit ∷ [])
              (record { changes = λ geometry state. refl; tells = λ catalog. refl }, tt),
        );
      }

  in-doubt-made : new ≡ file_edit_in_doubt volume after unit-of line edit old
      → before.reads ≤ now.reads → before.writes < now.writes → Made
  in-doubt-made is reads rose =
      let refused = refused-of volume after line edit old in
      let fault = fault-of volume after line edit old in
      let one = doubted-made line unit-of refl changed (changed-early volume after line edit old)
      (changed-begun volume after line edit old) entries old new going before now
      (doubted-entries volume after line edit old new is)
      (ap (λ (f : FileNow). f.geometry) is ∙ (with-is volume after line edit old).geometry)
      reads rose in
      record {
        event = one.event;
        by = inr (
          refused ∷ fault ∷ [],
          one.made_are,
          All-from_recursion IsStill (refused ∷ fault ∷ []) (
            record { changes = λ geometry state. refl; tells = λ catalog. refl },
            (record { changes = λ geometry state. refl; tells = λ catalog. refl }, tt),
          ),
        );
      }

  -- by what it came to
  pub edit-made : (result : Result Edit OutOfMemory)
      → IsEditEntered result volume after unit-of line edit old new
      → HasEditFaults before now result → Made
  edit-made (Ok Done) is calm = done-made is calm
  edit-made (Ok Again) is calm =
      let one = staged-made after line unit-of refl old new going before now is calm in
      record { event = one.event; by = inl one.still }
  edit-made (Ok NoRoom) is calm = still false is (none-rose before now calm)
  edit-made (Ok Held) is calm = still false is (none-rose before now calm)
  edit-made (Ok Live) is calm = still false is (none-rose before now calm)
  edit-made (Ok Full) is calm = still false is (none-rose before now calm)
  edit-made (Ok (Fault Read)) is rose = still false is (read-rose before now rose.0 rose.1)
  edit-made (Ok (Fault Write)) is rose = ⊎_elim
      (λ alone. still true alone (write-rose before now rose.0 rose.1))
      (λ doubt. in-doubt-made doubt rose.0 rose.1) is
  edit-made (Err why) is calm = still false is (none-rose before now calm)
