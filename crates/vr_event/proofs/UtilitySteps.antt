-- What a step of the utilities leaves each unit to wait for, and the splits that it enters.
use Rattle.std.proofs.Common.{◌≡◌, ◌<◌, ◌∙◌, ◌+◌, ◌∷◌, ℕ, Bool, true, false, cond, List, [], Option}
use Rattle.std.proofs.Common.{arith}
use Rattle.std.proofs.Common.{Some, None, ◌⊎◌, ⊎_elim, refl, sym, ap, subst}
use Rattle.std.specs.Prelude.{Err, Ok, Result, find}
use Rattle.std.specs.Option.{option_or}
use Rattle.std.specs.Result.{IsErrAnd}
use Rattle.std.proofs.lemmas.List.Folds.{find-append}
use Rattle.std.proofs.lemmas.Option.{none-some}
use Rattle.vr_types.specs.declared.fault.DeviceFault.{DeviceFault}
use Rattle.vr_types.specs.declared.fault.DeviceFault.TheVariants.{Write}
use Rattle.vr_types.specs.declared.geometry.Geometry.{Geometry}
use Rattle.vr_types.specs.declared.reply.Reply.TheVariants.{Done}
use Rattle.vr_types.specs.declared.request.Request.{Request}
use Rattle.vr_types.specs.declared.unit.AreaNo.{AreaNo}
use Rattle.vr_types.specs.declared.unit.PartNo.{PartNo}
use Rattle.vr_types.specs.declared.unit.Unit.{Unit as UnitOfRecovery}
use Rattle.vr_catalog.specs.declared.definition.Definition.{Definition}
use Rattle.vr_catalog.specs.declared.entry.CatEntry.{CatEntry}
use Rattle.vr_history.specs.declared.entry.Entry.{Entry}
use Rattle.vr_history.specs.declared.entry.What.TheVariants.{Asked, Claimed}
use Rattle.vr_record_file.specs.Defining.{added, defined}
use Rattle.vr_record_file.specs.CatalogEdit.{catalog_edited, records_made, step_made, steps_made}
use Rattle.vr_record_file.specs.declared.entry_step.EntryStep.{EntryStep}
use Rattle.vr_record_file.specs.declared.entry_step.EntryStep.TheVariants as steps
use Rattle.vr_record_file.specs.Now.{FileNow, entry_next, lets_go, with_event}
use Rattle.vr_volume.specs.EntryChange.{is_gone}
use Rattle.vr_store.specs.Define.{HasNewPart}
use Rattle.vr_store.specs.EntryChange.{HasPartsLeft, number_gone}
use Rattle.vr_store.specs.Left.{left_for}
use Rattle.vr_store.specs.Parts.{OnlyMet}
use Rattle.vr_store.specs.Store.{PartNow, StoreNow, has_number, part_among}
use Rattle.vr_store.proofs.CallerLemmas.{among-left, waits-met}
use Rattle.vr_event.specs.Defining.{EnteredBy}
use Rattle.vr_event.specs.EditSteps.{edit_of}
use Rattle.vr_event.specs.Nearer.{CountsSplits, LeavesLess, intervals_by, splits_of}
use Rattle.vr_event.specs.Volume.{VolumeNow}
use Rattle.vr_event.specs.declared.define.Define.{Define}
use Rattle.vr_event.specs.declared.define.Define.TheVariants as defines
use Rattle.vr_event.specs.declared.edit.Edit.{Edit}
use Rattle.vr_event.specs.declared.edit.Edit.TheVariants as answers
use Rattle.vr_event.proofs.SplitCounts.{counts-after, counts-met, counts-same, part-still}
use Rattle.vr_event.proofs.SplitCounts.{splits-same}

-- ---- what isn't to be asked again

pub same-ok : {T E : Type 0} {x y : T} {result : Result T E} → result ≡ Ok x → result ≡ Ok y
    → x ≡ y
same-ok one other = cc

pub not-err : {T E : Type 0} {x : T} {why : E} {result : Result T E} → result ≡ Err why
    → result ≡ Ok x → ⊥
not-err one other = cc

pub err-apart : {T E : Type 0} {x : T} (result : Result T E) (why : E)
    → IsErrAnd result (λ handed. handed ≡ why) → result ≡ Ok x → ⊥
err-apart (Ok y) why is same = absurd is
err-apart (Err handed) why is same = cc

pub fault-define : (fault : DeviceFault) → defines.Fault fault ≡ defines.Again → ⊥
fault-define fault is = cc

pub done-define : (area : AreaNo) → defines.Done area ≡ defines.Again → ⊥
done-define area is = cc

pub no-room-define : defines.NoRoom ≡ defines.Again → ⊥
no-room-define is = cc

pub no-area-define : defines.NoArea ≡ defines.Again → ⊥
no-area-define is = cc

pub hindered-define : (define : Define) → (define ≡ defines.Held) ⊎ (define ≡ defines.Full)
    → define ≡ defines.Again → ⊥
hindered-define define is again = ⊎_elim (λ held. held-apart (sym held ∙ again))
    (λ full. full-apart (sym full ∙ again)) is
  where
    held-apart : defines.Held ≡ defines.Again → ⊥
    held-apart is = cc

    full-apart : defines.Full ≡ defines.Again → ⊥
    full-apart is = cc

pub fault-edit : (fault : DeviceFault) → answers.Fault fault ≡ answers.Again → ⊥
fault-edit fault is = cc

pub done-edit : answers.Done ≡ answers.Again → ⊥
done-edit is = cc

pub live-edit : answers.Live ≡ answers.Again → ⊥
live-edit is = cc

pub hindered-edit : (answer : Edit) → (answer ≡ answers.Held) ⊎ (answer ≡ answers.Full)
    → answer ≡ answers.Again → ⊥
hindered-edit answer is again = ⊎_elim (λ held. held-apart (sym held ∙ again))
    (λ full. full-apart (sym full ∙ again)) is
  where
    held-apart : answers.Held ≡ answers.Again → ⊥
    held-apart is = cc

    full-apart : answers.Full ≡ answers.Again → ⊥
    full-apart is = cc

-- a stage of the catalog comes to the same for an edit
pub again-edit : (define : Define) → edit_of define ≡ answers.Again → define ≡ defines.Again
again-edit (defines.Done area) is = absurd cc
again-edit defines.Again is = refl
again-edit defines.NoArea is = absurd cc
again-edit defines.NoRoom is = absurd cc
again-edit defines.Held is = absurd cc
again-edit defines.Full is = absurd cc
again-edit (defines.Fault fault) is = absurd cc

-- ---- a part is laid, or goes

pub counts-defined : (geometry : Geometry) (part : PartNo) (area : AreaNo)
    (definition : Definition) (old new : StoreNow) (entries later : List Entry)
    → HasNewPart geometry part area definition old.parts new.parts
    → ((n : ℕ) → splits_of n later ≡ splits_of n entries) → CountsSplits old new entries later
counts-defined geometry part area definition old new entries later is same = record {
  counts = λ n before after found there.
      of n before after found there (part_among is.before n) refl;
  keyed = λ n more. absurd (omega (arith, more, same n));
}
  where
    of : (n : ℕ) (before after : PartNow) → part_among old.parts n ≡ Some before
        → part_among new.parts n ≡ Some after
        → (middle : Option PartNow) → part_among is.before n ≡ middle → (used : ℕ)
        → intervals_by before.shape before.known.used ≡ Some used
        → after.known.used + splits_of n entries ≡ used + splits_of n later
    of n before after found there None none =
        absurd (part-still 0 old.parts is.before is.met n before found none)
    of n before after found there (Some middle) at =
        let more : part_among new.parts n ≡ Some middle =
        ap (λ (parts : List PartNow). part_among parts n) is.is
        ∙ find-append (has_number n) is.before (is.added ∷ [])
        ∙ ap (λ (one : Option PartNow). option_or one (find (has_number n) (is.added ∷ []))) at in
        (counts-met 0 old (record old { parts = is.before }) entries later is.met same).counts n
        before after found (at ∙ sym more ∙ there)

pub counts-left : (gone : Option PartNo) (old new : StoreNow) (entries later : List Entry)
    → HasPartsLeft gone old.parts new.parts
    → ((n : ℕ) → splits_of n later ≡ splits_of n entries) → CountsSplits old new entries later
counts-left gone old new entries later is same = record {
  counts = λ n before after found there.
      (counts-met 0 old (record old { parts = is.before }) entries later is.met same).counts n
      before after found (of n after (is_gone (number_gone gone) n)
      (sym (among-left gone is.before n)
      ∙ sym (ap (λ (parts : List PartNow). part_among parts n) is.is) ∙ there));
  keyed = λ n more. absurd (omega (arith, more, same n));
}
  where
    of : (n : ℕ) (after : PartNow) (b : Bool)
        → cond b None (part_among is.before n) ≡ Some after → part_among is.before n ≡ Some after
    of n after true none = absurd (none-some after none)
    of n after false some = some

-- neither of which enters a split
pub splits-defined : (number after : ℕ) (unit : UnitOfRecovery) (line : ℕ) (part : PartNo)
    (area : AreaNo) (add : Request) (place : List ℕ) (commit : Request) (catalog : List CatEntry)
    (file : FileNow)
    → splits_of number (defined after unit line part area add place commit catalog file).entries
    ≡ splits_of number file.entries
splits-defined number after unit line part area add place commit catalog file =
    let laid : FileNow = with_event after unit line (Claimed part area) file in
    let more : FileNow = added after unit line part area add place catalog file in
    splits-same number more.entries
    (entry_next more.entries 0 unit line (Asked commit (Done 0 None None))) refl
    ∙ splits-same number laid.entries
    (entry_next laid.entries 0 unit line (Asked add (Done 0 (Some place) None))) refl
    ∙ splits-same number file.entries
    (entry_next file.entries after unit line (Claimed part area)) refl

splits-step : (number after : ℕ) (unit : UnitOfRecovery) (line : ℕ) (step : EntryStep)
    (file : FileNow)
    → splits_of number (step_made after unit line step file).entries
    ≡ splits_of number file.entries
splits-step number after unit line (steps.Change get change got changed shown) file =
    let first : FileNow = with_event after unit line (Asked get (Done 0 (Some got) (Some shown)))
    (lets_go unit.deck get file) in
    splits-same number first.entries
    (entry_next first.entries 0 unit line (Asked change (Done 0 (Some changed) None))) refl
    ∙ splits-same number file.entries
    (entry_next file.entries after unit line (Asked get (Done 0 (Some got) (Some shown)))) refl
splits-step number after unit line (steps.Add add added) file =
    splits-same number file.entries
    (entry_next file.entries after unit line (Asked add (Done 0 (Some added) None))) refl

splits-steps : (number after : ℕ) (unit : UnitOfRecovery) (line : ℕ) (those : List EntryStep)
    (file : FileNow)
    → splits_of number (steps_made after unit line those file).entries
    ≡ splits_of number file.entries
splits-steps number after unit line [] file = refl
splits-steps number after unit line (step ∷ those) file =
    splits-steps number 0 unit line those (step_made after unit line step file)
    ∙ splits-step number after unit line step file

pub splits-edited : (number after : ℕ) (unit : UnitOfRecovery) (line : ℕ) (those : List EntryStep)
    (commit : Request) (catalog : List CatEntry) (file : FileNow)
    → splits_of number (catalog_edited after unit line those commit catalog file).entries
    ≡ splits_of number file.entries
splits-edited number after unit line those commit catalog file =
    let made : FileNow = records_made after unit line those catalog file in
    splits-same number made.entries
    (entry_next made.entries 0 unit line (Asked commit (Done 0 None None))) refl
    ∙ splits-steps number after unit line those file

-- ---- steps

-- a fault of a write stops the volume
pub define-stopped : (volume after : ℕ) (unit : UnitOfRecovery) (line : ℕ) (entry : CatEntry)
    (old new : FileNow) → EnteredBy (defines.Fault Write) volume after unit line entry old new
    → new.stopped ≡ None → ⊥
define-stopped volume after unit line entry old new entered going = ⊎_elim
    (λ file. none-some _ (sym going ∙ ap (λ (f : FileNow). f.stopped) file))
    (λ doubt. none-some _ (sym going ∙ ap (λ (f : FileNow). f.stopped) doubt.1)) entered

module _ {B : Type 0} where
  -- another word for what is to be asked again
  pub less-as : (some again : Type 0) (old new : VolumeNow B) → (again → some)
      → LeavesLess some old new → LeavesLess again old new
  less-as some again old new same less = record {
    nearer = λ is. less.nearer (same is);
    splits = less.splits;
  }

  -- the volume stopped
  pub less-stopped : (again : Type 0) (old new : VolumeNow B) → (again → ⊥)
      → (new.file.stopped ≡ None → ⊥) → LeavesLess again old new
  less-stopped again old new not stopped = record {
    nearer = λ is. absurd (not is);
    splits = λ going. absurd (stopped going);
  }

  -- a part met blocks, and nothing was entered
  pub less-met : (again : Type 0) (number : ℕ) (old new : VolumeNow B) → (again → ⊥)
      → OnlyMet number old.store.parts new.store.parts → new.file ≡ old.file
      → LeavesLess again old new
  less-met again number old new not only file = record {
    nearer = λ is. absurd (not is);
    splits = λ going. counts-met number old.store new.store old.file.entries new.file.entries only
        (λ part. ap (λ (f : FileNow). splits_of part f.entries) file);
  }

  -- all is as it was
  pub less-still : (again : Type 0) (old new : VolumeNow B) → (again → ⊥)
      → new.store ≡ old.store → new.file ≡ old.file → LeavesLess again old new
  less-still again old new not store file = record {
    nearer = λ is. absurd (not is);
    splits = λ going. subst (λ (f : FileNow). CountsSplits old.store new.store old.file.entries
        f.entries) (sym file) (counts-same old.store new.store old.file.entries
        (ap (λ (s : StoreNow). s.parts) store));
  }

  -- a part is laid, or goes
  pub less-defined : (again : Type 0) (geometry : Geometry) (part : PartNo) (area : AreaNo)
      (definition : Definition) (old new : VolumeNow B) (store : StoreNow) (file : FileNow)
      → (again → ⊥) → new.store ≡ store → new.file ≡ file
      → HasNewPart geometry part area definition old.store.parts store.parts
      → ((n : ℕ) → splits_of n file.entries ≡ splits_of n old.file.entries)
      → LeavesLess again old new
  less-defined again geometry part area definition old new store file not stores files laid
      same = record {
        nearer = λ is. absurd (not is);
        splits = λ going. subst (λ (f : FileNow).
            CountsSplits old.store new.store old.file.entries f.entries) (sym files)
            (subst (λ (s : StoreNow). CountsSplits old.store s old.file.entries file.entries)
            (sym stores) (counts-defined geometry part area definition old.store store
            old.file.entries file.entries laid same));
      }

  pub less-left : (again : Type 0) (gone : Option PartNo) (old new : VolumeNow B)
      (store : StoreNow) (file : FileNow) → (again → ⊥) → new.store ≡ store → new.file ≡ file
      → HasPartsLeft gone old.store.parts store.parts
      → ((n : ℕ) → splits_of n file.entries ≡ splits_of n old.file.entries)
      → LeavesLess again old new
  less-left again gone old new store file not stores files left same = record {
    nearer = λ is. absurd (not is);
    splits = λ going. subst (λ (f : FileNow).
        CountsSplits old.store new.store old.file.entries f.entries) (sym files)
        (subst (λ (s : StoreNow). CountsSplits old.store s old.file.entries file.entries)
        (sym stores) (counts-left gone old.store store old.file.entries file.entries left same));
  }

  -- a step comes after one that only met blocks
  pub less-after : (again : Type 0) (number : ℕ) (old mid new : VolumeNow B)
      → OnlyMet number old.store.parts mid.store.parts
      → mid.store ≡ record old.store { parts = mid.store.parts } → mid.file ≡ old.file
      → LeavesLess again mid new → LeavesLess again old new
  less-after again number old mid new only rest file less = record {
    nearer = λ is unit. subst (λ (n : ℕ). left_for unit new.store < n)
        (ap (left_for unit) rest ∙ waits-met unit old.store number mid.store.parts only)
        (less.nearer is unit);
    splits = λ going. counts-after number old.store mid.store new.store old.file.entries
        new.file.entries only
        (subst (λ (f : FileNow).
        CountsSplits mid.store new.store f.entries new.file.entries) file (less.splits going));
  }
