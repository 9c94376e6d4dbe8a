-- The entries of an edit of the catalog in a history, with the end of its unit.
use Rattle.std.proofs.Common.{◌≡◌, ℕ, ◌-◌, ◌<◌, ◌^◌, true, List, [], ◌∷◌, ◌++◌, None, inl, refl, sym}
use Rattle.std.proofs.Common.{ap, ◌∙◌, subst}
use Rattle.vr_browse.specs.Positions.{position_of}
use Rattle.vr_catalog.specs.declared.entry.CatEntry.{CatEntry}
use Rattle.vr_types.specs.declared.reply.Refusal.TheVariants.{WriteFault}
use Rattle.vr_types.specs.declared.reply.Reply.{Reply}
use Rattle.vr_types.specs.declared.reply.Reply.TheVariants.{Done, Refused}
use Rattle.vr_types.specs.declared.request.Request.{Request}
use Rattle.vr_types.specs.declared.request.Request.TheVariants.{Commit}
use Rattle.vr_types.specs.declared.unit.Unit.{Unit as UnitOfRecovery}
use Rattle.vr_history.specs.declared.entry.Entry.{Entry}
use Rattle.vr_history.specs.declared.entry.What.TheVariants.{Asked}
use Rattle.vr_history.specs.Case.{file_of}
use Rattle.vr_history.specs.Effects.{drops_held, ends_unit, stops}
use Rattle.vr_history.specs.Legal.{state_of}
use Rattle.vr_history.specs.Merged.{last_stamp}
use Rattle.vr_history.specs.Replies.{MayReply}
use Rattle.vr_history.specs.State.{State}
use Rattle.vr_history.specs.Step.{MayEnter, after_asked, case_of}
use Rattle.vr_history.proofs.CallerLemmas.{last_stamp-append, state_of-append}
use Rattle.vr_record_file.specs.CatalogEdit.{IsCatalogEdited, IsEditInDoubt, MayEditCatalog}
use Rattle.vr_record_file.specs.CatalogEdit.{RecordChange, catalog_edited, failed_to_edit}
use Rattle.vr_record_file.specs.CatalogEdit.{steps_made}
use Rattle.vr_record_file.specs.Now.{FileNow, IsOf, IsStateOf, ended, entry_next, failed}
use Rattle.vr_record_file.specs.Now.{files_let_go, has_deck, number_of, state_now, with_event}
use Rattle.vr_record_file.specs.declared.entry_step.EntryStep.{EntryStep}
use Rattle.vr_record_file.proofs.Edited.{doubt_is, doubt_now, edited_now, ended_is, may_steps}
use Rattle.vr_record_file.proofs.Legal.{legal-append, utilities-append}
use Rattle.vr_record_file.proofs.RecordSteps.{may_commit, may_fail}
use Rattle.vr_record_file.proofs.RecordsMade.{AreStepsMade, IsOnWay, entered_of, steps_keep}
use Rattle.vr_record_file.proofs.RecordsMade.{steps_there}
use Rattle.vr_record_file.proofs.Steps.{after_both, asked, fault, faulted_legal}
use Rattle.vr_record_file.proofs.Steps.{faulted_utilities}

module _ (opening : State) (file : FileNow) (after line : ℕ) (unit : UnitOfRecovery)
    (steps : List EntryStep) (changes : List RecordChange) (commit : Request)
    (catalog : List CatEntry) (is : IsStateOf opening file)
    (may : MayEditCatalog opening file unit steps changes commit catalog) where
  abbrev old : State
  old = state_now opening file

  abbrev stepped : FileNow
  stepped = steps_made after unit line steps file

  -- the same, with what no step changes written out
  abbrev same_as : FileNow
  same_as = entered_of file stepped

  abbrev made : State
  made = state_of file.geometry opening stepped.entries

  -- ---- the records

  start : IsOnWay file.geometry opening unit file
  start = record {
    legal = is.legal;
    quiet = is.utilities;
    current = may.current;
    positions = is.now.positions;
  }

  there : IsOnWay file.geometry opening unit stepped × AreStepsMade unit may.on changes old made
  there = steps_there file.geometry opening unit line may.of_utilities may.on after steps changes
      file start (may_steps opening file unit steps changes commit catalog is may) may.steps_are

  -- a reply that may be given to COMMIT may be entered
  enters : (reply : Reply) → MayReply (case_of file.geometry made unit Commit) reply
      → MayEnter file.geometry made unit (Asked commit reply)
  enters reply can =
      subst (λ (r : Request). MayEnter file.geometry made unit (Asked r reply))
      (sym may.commit_is) (there.0.current, can)

  -- ---- the end of the unit

  abbrev last : Entry
  last = entry_next stepped.entries 0 unit line (Asked commit (Done 0 None None))

  after_last : state_of file.geometry opening (stepped.entries ++ last ∷ []) ≡ ends_unit unit made
  after_last = state_of-append file.geometry opening stepped.entries last
      ∙ ap (λ (r : Request). after_asked (case_of file.geometry made unit r)
      (Done 0 None None)) may.commit_is

  abbrev finished : FileNow → FileNow
  finished to = with_event 0 unit line (Asked commit (Done 0 None None))
      (ended unit (record to { catalog = catalog }))

  same_finished : catalog_edited after unit line steps commit catalog file ≡ finished same_as
  same_finished = ap finished (steps_keep after line unit steps file)

  leaves : IsCatalogEdited unit changes catalog old (state_now opening (finished same_as))
  leaves = subst (IsCatalogEdited unit changes catalog old) (sym after_last)
      (ended_is opening file unit steps changes commit catalog is may made there.1)

  pub edited_leaves : IsCatalogEdited unit changes catalog old (state_now opening
      (catalog_edited after unit line steps commit catalog file))
  edited_leaves = subst (λ (to : FileNow).
      IsCatalogEdited unit changes catalog old (state_now opening to)) (sym same_finished) leaves

  module _ (has : has_deck unit.deck file.numbers ≡ true)
      (less : number_of file.numbers unit.deck < 2 ^ 32 - 1) where
    finished_is : IsStateOf opening (finished same_as)
    finished_is = record {
      legal = legal-append file.geometry opening stepped.entries last there.0.legal
          (enters (Done 0 None None) (may_commit file.geometry made unit there.1.stopped))
          (inl (there.0.quiet unit may.of_utilities)) refl;
      now = edited_now opening file unit steps changes commit catalog is may made there.1
          (record same_as { catalog = catalog }) refl refl refl refl there.0.positions has less
          (state_now opening (finished same_as)) leaves line;
      utilities = utilities-append stepped.entries last
          (inl (there.0.quiet unit may.of_utilities)) there.0.quiet;
    }

    pub edited_is : IsStateOf opening (catalog_edited after unit line steps commit catalog file)
    edited_is = subst (IsStateOf opening) (sym same_finished) finished_is

  -- ---- a fault of a write

  abbrev failing : FileNow → FileNow
  failing to = failed 0 unit line commit (record to { catalog = catalog })

  same_failing : failed_to_edit after unit line steps commit catalog file ≡ failing same_as
  same_failing = ap failing (steps_keep after line unit steps file)

  abbrev stamp : ℕ
  stamp = (fault file.geometry opening stepped.entries 0 line unit commit).stamp

  after_fault : state_now opening (failing same_as) ≡ stops stamp made
  after_fault =
      after_both file.geometry opening stepped.entries 0 line unit commit
      ∙ ap (λ (r : Request). stops stamp (drops_held unit.deck (file_of r) made)) may.commit_is

  last_is : last_stamp 0 (failing same_as).entries ≡ stamp
  last_is = last_stamp-append 0
      (stepped.entries ++ asked file.geometry opening stepped.entries 0 line unit commit ∷ [])
      (fault file.geometry opening stepped.entries 0 line unit commit)

  abbrev IsLeft : FileNow → Type 0
  IsLeft to = IsEditInDoubt unit may.on changes (last_stamp 0 to.entries) old
      (state_now opening to)

  leaves_doubt : IsLeft (failing same_as)
  leaves_doubt =
      subst (IsEditInDoubt unit may.on changes (last_stamp 0 (failing same_as).entries) old)
      (sym after_fault) (subst (λ (n : ℕ). IsEditInDoubt unit may.on changes n old
      (stops stamp made)) (sym last_is)
      (doubt_is opening file unit steps changes commit catalog is may made there.1 stamp))

  pub in_doubt_leaves : IsLeft (failed_to_edit after unit line steps commit catalog file)
  in_doubt_leaves = subst IsLeft (sym same_failing) leaves_doubt

  failing_is : IsStateOf opening (failing same_as)
  failing_is = record {
    legal = faulted_legal file.geometry opening stepped.entries 0 line unit commit there.1.stopped
        there.0.legal
        (enters (Refused WriteFault) (may_fail file.geometry made unit there.1.stopped))
        (inl (there.0.quiet unit may.of_utilities));
    now = subst (IsOf (failing same_as)) (sym after_fault)
        (doubt_now opening file unit steps changes commit catalog is may made there.1 stamp
        (failing same_as) refl refl refl
        (λ d s. ap (λ (r : Request). position_of (files_let_go unit.deck (file_of r)
        stepped.files) d s) may.commit_is ∙ there.0.positions d s));
    utilities = faulted_utilities file.geometry opening stepped.entries 0 line unit commit
        (inl (there.0.quiet unit may.of_utilities)) there.0.quiet;
  }

  pub in_doubt_is : IsStateOf opening (failed_to_edit after unit line steps commit catalog file)
  in_doubt_is = subst (IsStateOf opening) (sym same_failing) failing_is
