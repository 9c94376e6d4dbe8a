-- What the commands of IDCAMS see of a volume after an event of a definition of a cluster, and
-- which clusters the event defines.
use Rattle.std.proofs.Common.{◌≡◌, ◌∙◌, ⊎_elim, ℕ, Bool, true, false, List, [], ◌∷◌, Option}
use Rattle.std.proofs.Common.{Some, None, ap, inr, max, refl, subst, sym}
use Rattle.std.specs.Prelude.{◌⊎◌, if◌then◌else◌, is_some, Ok, Err}
use Rattle.std.specs.Ordering.{is_lt}
use Rattle.std.proofs.lemmas.List.{append-nil}
use Rattle.std.proofs.lemmas.List.Elements.{All-nil}
use Rattle.vr_types.specs.Content.{place_cmp}
use Rattle.vr_types.specs.Faults.{Faults}
use Rattle.vr_types.specs.Seen.{Seen}
use Rattle.vr_types.specs.declared.fault.DeviceFault.TheVariants.{Read, Write}
use Rattle.vr_types.specs.declared.geometry.Geometry.{Geometry}
use Rattle.vr_types.specs.declared.memory.OutOfMemory.{OutOfMemory}
use Rattle.vr_types.specs.declared.unit.AreaNo.{AreaNo}
use Rattle.vr_types.specs.declared.unit.Unit.{Unit as UnitOfRecovery}
use Rattle.vr_catalog.specs.declared.entry.CatEntry.{CatEntry}
use Rattle.vr_history.specs.Merged.{last_stamp}
use Rattle.vr_history.specs.declared.entry.Entry.{Entry}
use Rattle.vr_record_file.specs.Now.{FileNow}
use Rattle.vr_trace.specs.Growing.{FollowsOne, IsNext}
use Rattle.vr_trace.specs.Shown.{Shown}
use Rattle.vr_ams_define.specs.Answers.{IsShownAfter}
use Rattle.vr_ams_define.specs.Grown.{HasEntered, IsOfCommand}
use Rattle.vr_ams_define.specs.NewCluster as commands
use Rattle.vr_event.specs.Defining as events
use Rattle.vr_event.specs.Defining.{EnteredBy, catalog_part, entry_place, utility_unit}
use Rattle.vr_event.specs.DefineSteps.{HasCome}
use Rattle.vr_event.specs.Staging.{stage_entered}
use Rattle.vr_event.specs.Volume.{VolumeNow}
use Rattle.vr_event.specs.declared.define.Define.{Define}
use Rattle.vr_event.specs.declared.define.Define.TheVariants.{Again, Done, Fault, Full, Held}
use Rattle.vr_event.specs.declared.define.Define.TheVariants.{NoArea, NoRoom}
use Rattle.vr_job.specs.Answering.{answer_of}
use Rattle.vr_job.specs.Going.{follows-catalog}
use Rattle.vr_job.specs.Serving.{StaysServing, shown_of}

-- what is seen of a volume, by its record file
abbrev pub shown_in : FileNow → Shown
shown_in file = record { catalog = file.catalog; stopped = is_some file.stopped }

-- the catalog with one entry more is the same to the command and to the event
same-cluster : (new : CatEntry) (entries : List CatEntry)
    → events.with_cluster new entries ≡ commands.with_cluster new entries
same-cluster new [] = refl
same-cluster new (entry ∷ entries) = ap (λ (rest : List CatEntry).
    if is_lt (place_cmp (entry_place new) (entry_place entry)) then new ∷ entry ∷ entries
    else entry ∷ rest) (same-cluster new entries)

-- so is which cluster is new
pub new-cluster : (geometry : Geometry) (catalog : List CatEntry) (entry : CatEntry)
    → commands.IsNewCluster geometry catalog entry → events.IsNewCluster geometry catalog entry
new-cluster geometry catalog entry is = record {
  cluster = is.cluster;
  no_area = is.no_area;
  entry_is = is.entry_is;
  name = is.name;
  part = is.part;
  sizes = is.sizes;
  plain = λ spanned. absurd (apart (sym is.plain ∙ spanned));
}
  where
    apart : false ≡ true → ⊥
    apart same = cc

-- a stage of the catalog shows nothing
pub staged-shown : (after line : ℕ) (unit : UnitOfRecovery) (old : FileNow) (split : Bool)
    (taken : Option AreaNo)
    → shown_in (stage_entered after unit line catalog_part split taken old) ≡ shown_in old
staged-shown after line unit old split (Some area) = refl
staged-shown after line unit old true None = refl
staged-shown after line unit old false None = refl

module _ (after line : ℕ) (unit : UnitOfRecovery) (volume : ℕ) (entry : CatEntry)
    (old new : FileNow)
  where
    -- where nothing is entered
    pub shown-same : new ≡ old → shown_in new ≡ shown_in old
    shown-same same = ap shown_in same

    -- by what the event came to
    pub shown-after : (define : Define) → EnteredBy define volume after unit line entry old new
        → IsShownAfter (answer_of define) entry (shown_in old) (shown_in new)
    shown-after (Done area) is = ap shown_in is
        ∙ ap (λ (catalog : List CatEntry). record {
          catalog = catalog;
          stopped = is_some old.stopped;
        }) (same-cluster (events.entry_with_area entry area) old.catalog)
    shown-after Again is = ap shown_in is.2 ∙ staged-shown after line unit old is.0 is.1
    shown-after NoArea is = shown-same is
    shown-after NoRoom is = shown-same is
    shown-after Held is = shown-same is
    shown-after Full is = shown-same is
    shown-after (Fault Read) is = shown-same is
    shown-after (Fault Write) is = ⊎_elim
        (λ alone. ap (λ (f : FileNow). is_some f.stopped) alone)
        (λ doubt. ap (λ (f : FileNow). is_some f.stopped) doubt.1) is

-- ---- a volume that is made ready for the event

module _ {B : Type 0} (tells : Bool) (seen : B → Seen) (faults : B → Faults)
    (old ready : VolumeNow B) (stays : StaysServing tells seen faults old ready) where
  -- its catalog stays
  pub ready-catalog : ready.file.catalog ≡ old.file.catalog
  ready-catalog = follows-catalog tells seen faults old ready (inr stays.went) []
      (stays.entries ∙ sym (append-nil old.file.entries))

  -- so the cluster is new to it as before
  pub ready-cluster : (entry : CatEntry)
      → commands.IsNewCluster old.file.geometry old.file.catalog entry
      → commands.IsNewCluster ready.file.geometry ready.file.catalog entry
  ready-cluster entry is = subst
      (λ (g : Geometry). commands.IsNewCluster g ready.file.catalog entry)
      (sym stays.went.on.geometry)
      (subst (λ (catalog : List CatEntry). commands.IsNewCluster old.file.geometry catalog entry)
      (sym ready-catalog) is)

  -- and the commands see the same
  pub ready-shown : ready.file.stopped ≡ old.file.stopped → shown_of ready ≡ shown_of old
  ready-shown stopped = ap (λ (catalog : List CatEntry). record {
    catalog = catalog;
    stopped = is_some ready.file.stopped;
  }) ready-catalog
      ∙ ap (λ (stamp : Option ℕ). record {
        catalog = old.file.catalog;
        stopped = is_some stamp;
      }) stopped

module _ {B : Type 0} (seen : B → Seen) (after line : ℕ) (entry : CatEntry) where
  -- what they see after the event, by what it came to
  pub come-shown : (define : Define) (old new : VolumeNow B)
      → HasCome seen after (utility_unit old.file) line entry (Ok define) old new
      → IsShownAfter (answer_of define) entry (shown_of old) (shown_of new)
  come-shown define old new come = shown-after after line (utility_unit old.file) old.number entry
      old.file new.file define come.entered

  -- and out of memory
  pub come-refused : (why : OutOfMemory) (old new : VolumeNow B)
      → HasCome seen after (utility_unit old.file) line entry (Err why) old new
      → shown_of new ≡ shown_of old
  come-refused why old new come = ap shown_in come.entered

-- where none begins, nothing is entered
pub none-defined : (line after : ℕ) (old new : List Entry) → new ≡ old
    → HasEntered line after old new
none-defined line after old new same = record {
  made = [];
  entries = same ∙ sym (append-nil old);
  own = All-nil (IsOfCommand line);
  stamped = tt;
  next = All-nil (λ (entry : Entry). IsNext (max (last_stamp 0 old) after) entry
      ⊎ FollowsOne [] entry);
}
