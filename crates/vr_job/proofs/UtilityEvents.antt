-- What an event of the utilities enters in the history of its volume, and what each of its entries
-- is not; one that enters nothing, or the fault of a write alone, or a stage of the catalog; and
-- one that enters entries of a unit, and ends it.
use Rattle.std.proofs.Common.{◌≡◌, ◌≢◌, ◌⊎◌, ◌∙◌, ◌<◌, ◌≤◌, ◌+◌, inl, inr, ⊎_elim, ℕ, Bool, true}
use Rattle.std.proofs.Common.{false, List, [], ◌∷◌, ◌++◌, Option, Some, None, All, ap, arith, length, refl}
use Rattle.std.proofs.Common.{subst, sym}
use Rattle.std.proofs.lemmas.List.{append-nil}
use Rattle.std.proofs.lemmas.List.Elements.{All-append, All-from_recursion, All-head, All-nil}
use Rattle.std.proofs.lemmas.List.Elements.{All-tail, All-weaker}
use Rattle.vr_types.specs.Faults.{Faults}
use Rattle.vr_types.specs.declared.bound.Bound.{Bound}
use Rattle.vr_types.specs.declared.fault.DeviceFault.{DeviceFault}
use Rattle.vr_types.specs.declared.fault.DeviceFault.TheVariants.{Write}
use Rattle.vr_types.specs.declared.geometry.Geometry.{Geometry}
use Rattle.vr_types.specs.declared.reply.Refusal.TheVariants.{NoSpace, WriteFault}
use Rattle.vr_types.specs.declared.reply.Reply.{Reply}
use Rattle.vr_types.specs.declared.reply.Reply.TheVariants.{Done as DoneReply, Refused}
use Rattle.vr_types.specs.declared.request.Request.{Request}
use Rattle.vr_types.specs.declared.request.Request.TheVariants.{Commit}
use Rattle.vr_types.specs.declared.unit.AreaNo.{AreaNo}
use Rattle.vr_types.specs.declared.unit.PartNo.{PartNo}
use Rattle.vr_types.specs.declared.unit.Unit.{Unit as UnitOfRecovery}
use Rattle.vr_catalog.specs.declared.entry.CatEntry.{CatEntry}
use Rattle.vr_history.specs.Merged.{request_in}
use Rattle.vr_history.specs.State.{State}
use Rattle.vr_history.specs.Step.{place_changes}
use Rattle.vr_history.specs.declared.entry.Entry.{Entry}
use Rattle.vr_history.specs.declared.entry.What.{What}
use Rattle.vr_history.specs.declared.entry.What.TheVariants.{Asked, Claimed, Faulted, Split}
use Rattle.vr_record_file.specs.Now.{FileNow, entry_next, with_event}
use Rattle.vr_event.specs.Defining.{HasStaged, catalog_part}
use Rattle.vr_event.specs.Staging.{stage_entered}
use Rattle.vr_job.specs.Catalogs.{catalog_told}
use Rattle.vr_job.specs.Crash.{HaveDoneCommit, IsDoneCommit}
use Rattle.vr_job.specs.Definitions.{AreBegun, IsCatalogStage}
use Rattle.vr_job.specs.Events.{AnswersOnce, ChangesCatalogAtMost, FaultsFollow, IsStop}
use Rattle.vr_job.specs.Events.{IsStopAfter, IsStopAlone, requests_in}
use Rattle.vr_job.specs.Faultless.{AreFaultless, IsFaulted}
use Rattle.vr_job.specs.ReadFaults.{read-faults-append, read_fault, read_faults}
use Rattle.vr_job.proofs.UtilityMade.{HasRisen, IsStillBy, none-rose}

-- ---- what an entry is not

-- it is no fault of the device,
abbrev pub NoFault : Entry → Type 0
NoFault entry = ¬ IsFaulted entry.what

-- it doesn't answer that there is no space,
abbrev pub HasSpace : Entry → Type 0
HasSpace entry = (request : Request) (need free : ℕ)
    → entry.what ≡ Asked request (Refused (NoSpace need free)) → ⊥

-- it changes no record, nor the catalog,
pub record IsStill (entry : Entry) : Type 0 where
  pub changes : (geometry : Geometry) (state : State)
      → place_changes geometry state entry.unit entry.what ≡ []
  pub tells : (catalog : List CatEntry) → catalog_told entry.what catalog ≡ catalog

-- and it is of the utilities
abbrev pub OfUtilities : Entry → Type 0
OfUtilities entry = entry.unit.deck ≡ 0

pub faulted-space : (asked : Request) (need free : ℕ)
    → Faulted Write ≡ Asked asked (Refused (NoSpace need free)) → ⊥
faulted-space asked need free same = cc

pub faulted-goes-on : ¬ IsDoneCommit (Faulted Write)
faulted-goes-on same = cc

pub asked-sound : (request : Request) (reply : Reply) → ¬ IsFaulted (Asked request reply)
asked-sound request reply is = differ is.0 is.1
  where
    differ : (fault : DeviceFault) → Asked request reply ≡ Faulted fault → ⊥
    differ fault same = cc

pub done-space : (request asked : Request) (feedback need free : ℕ) (place bytes : Option (List ℕ))
    → Asked request (DoneReply feedback place bytes) ≡ Asked asked (Refused (NoSpace need free)) → ⊥
done-space request asked feedback need free place bytes same = cc

pub failed-space : (request asked : Request) (need free : ℕ)
    → Asked request (Refused WriteFault) ≡ Asked asked (Refused (NoSpace need free)) → ⊥
failed-space request asked need free same = cc

refused-goes-on : ¬ IsDoneCommit (Asked Commit (Refused WriteFault))
refused-goes-on same = cc

-- an entry of a stage, or of the area of a new part
pub record IsQuiet (what : What) : Type 0 where
  pub sound : ¬ IsFaulted what
  pub goes_on : ¬ IsDoneCommit what
  pub space : (request : Request) (need free : ℕ)
      → what ≡ Asked request (Refused (NoSpace need free)) → ⊥
  pub still : (geometry : Geometry) (state : State) (unit : UnitOfRecovery)
      → place_changes geometry state unit what ≡ []
  pub tells : (catalog : List CatEntry) → catalog_told what catalog ≡ catalog
  pub unasked : (line : ℕ) → request_in 0 line what ≡ []
  pub read : read_fault what ≡ 0

pub quiet-split : (part : PartNo) → IsQuiet (Split part)
quiet-split part = record {
  sound = λ is. sound is.0 is.1;
  goes_on = goes-on;
  space = space;
  still = λ geometry state unit. refl;
  tells = λ catalog. refl;
  unasked = λ line. refl;
  read = refl;
}
  where
    sound : (fault : DeviceFault) → Split part ≡ Faulted fault → ⊥
    sound fault same = cc

    goes-on : ¬ IsDoneCommit (Split part)
    goes-on same = cc

    space : (request : Request) (need free : ℕ)
        → Split part ≡ Asked request (Refused (NoSpace need free)) → ⊥
    space request need free same = cc

pub quiet-claimed : (part : PartNo) (area : AreaNo) → IsQuiet (Claimed part area)
quiet-claimed part area = record {
  sound = λ is. sound is.0 is.1;
  goes_on = goes-on;
  space = space;
  still = λ geometry state unit. refl;
  tells = λ catalog. refl;
  unasked = λ line. refl;
  read = refl;
}
  where
    sound : (fault : DeviceFault) → Claimed part area ≡ Faulted fault → ⊥
    sound fault same = cc

    goes-on : ¬ IsDoneCommit (Claimed part area)
    goes-on same = cc

    space : (request : Request) (need free : ℕ)
        → Claimed part area ≡ Asked request (Refused (NoSpace need free)) → ⊥
    space request need free same = cc

pub still-of : (entry : Entry) → IsQuiet entry.what → IsStill entry
still-of entry quiet = record {
  changes = λ geometry state. quiet.still geometry state entry.unit;
  tells = quiet.tells;
}

-- an entry of the utilities that an event enters before the COMMIT of its unit
pub record IsEarly (entry : Entry) : Type 0 where
  pub of_utilities : OfUtilities entry
  pub sound : NoFault entry
  pub goes_on : ¬ IsDoneCommit entry.what
  pub space : HasSpace entry
  pub read : read_fault entry.what ≡ 0

-- ---- a stop is a fault

fault-after : (before : List Entry) (failing fault : Entry) → fault.what ≡ Faulted Write
    → AreFaultless (before ++ failing ∷ fault ∷ []) → ⊥
fault-after [] failing fault is none =
    All-head NoFault fault [] (All-tail NoFault failing (fault ∷ []) none) (Write, is)
fault-after (entry ∷ before) failing fault is none = fault-after before failing fault is
    (All-tail NoFault entry (before ++ failing ∷ fault ∷ []) none)

pub stop-faulted : (made : List Entry) → IsStop made → AreFaultless made → ⊥
stop-faulted made stop none = ⊎_elim
    (λ (after : IsStopAfter made). fault-after after.before after.failing after.fault
    after.fault_is (subst AreFaultless after.made_are none))
    (λ (alone : IsStopAlone made). All-head NoFault alone.fault []
    (subst AreFaultless alone.made_are none) (Write, alone.fault_is)) stop

-- ---- what an event enters

-- It adds entries of the utilities alone, and these say of faults and of the volume what is true of
-- it.
pub record IsUtilityMade (old new : FileNow) (before now : Faults) : Type 0 where
  pub made : List Entry
  pub entries : new.entries ≡ old.entries ++ made
  pub geometry : new.geometry ≡ old.geometry
  pub own : All OfUtilities made
  pub utilities : ChangesCatalogAtMost made
  pub once : AnswersOnce made
  pub faults : FaultsFollow made
  pub goes : HaveDoneCommit made → new.stopped ≡ None
  pub stops : new.stopped ≢ None → IsStop made
  pub reads : before.reads + read_faults made ≤ now.reads
  pub failed : IsStop made → before.writes < now.writes
  pub unfailed : AreFaultless made → now.writes ≡ before.writes
  pub unread : AreFaultless made → (now.reads ≡ before.reads) ⊎ (made ≡ [])
  pub space : All HasSpace made

-- entries that answer no request
pub none-asked : (made : List Entry) → requests_in made ≡ [] → AnswersOnce made
none-asked made none = record {
  first = [];
  rest = made;
  made_are = refl;
  begun = inl refl;
  once = omega (arith, ap (λ (them : List Bound). length them) none);
}

-- one request at most is asked by these
asked-one : (one : Entry) (request : Request) (reply : Reply) → one.what ≡ Asked request reply
    → (rest : List Entry) → requests_in rest ≡ [] → length (requests_in (one ∷ rest)) ≤ 1
asked-one one request reply is rest none =
    omega (arith, ap (λ (them : List Bound). length them) same)
  where
    same : requests_in (one ∷ rest)
        ≡ record { volume = 0; line = one.line; request = request } ∷ []
    same = ap (λ (them : List Bound). request_in 0 one.line one.what ++ them) none
        ∙ ap (λ (what : What). request_in 0 one.line what ++ []) is

-- ---- an event that enters nothing, or the fault of a write alone

-- it changes no record
pub record IsStillMade (old new : FileNow) (before now : Faults) : Type 0 where
  pub event : IsUtilityMade old new before now
  pub still : All IsStill event.made

module _ (after line : ℕ) (unit : UnitOfRecovery) (deck : unit.deck ≡ 0) (old new : FileNow)
    (going : old.stopped ≡ None) (before now : Faults) where
  nothing-made : new ≡ old → HasRisen false before now → IsStillMade old new before now
  nothing-made same risen = record {
    event = record {
      made = [];
      entries = ap (λ (f : FileNow). f.entries) same ∙ sym (append-nil old.entries);
      geometry = ap (λ (f : FileNow). f.geometry) same;
      own = All-nil OfUtilities;
      utilities = inr (inr (inr (All-nil IsCatalogStage)));
      once = none-asked [] refl;
      faults = inr (All-nil NoFault);
      goes = λ done. absurd done;
      stops = λ stops. absurd (stops (ap (λ (f : FileNow). f.stopped) same ∙ going));
      reads = omega (arith, risen.reads);
      failed = λ stop. absurd (stop-faulted [] stop (All-nil NoFault));
      unfailed = λ faultless. risen.calm refl;
      unread = λ faultless. inr refl;
      space = All-nil HasSpace;
    };
    still = All-nil IsStill;
  }

  alone-made : IsStillBy true after unit line old new → HasRisen true before now
      → IsStillMade old new before now
  alone-made is risen =
      let fault = entry_next old.entries after unit line (Faulted Write) in
      let stops : IsStop (fault ∷ []) =
      inr (record { fault = fault; made_are = refl; fault_is = refl; of_utilities = deck }) in
      record {
        event = record {
          made = fault ∷ [];
          entries = ap (λ (f : FileNow). f.entries) is;
          geometry = ap (λ (f : FileNow). f.geometry) is;
          own = All-from_recursion OfUtilities (fault ∷ []) (deck, tt);
          utilities = inr (inr (inl stops));
          once = none-asked (fault ∷ []) refl;
          faults = inl stops;
          goes = λ done. absurd (⊎_elim faulted-goes-on (λ none. none) done);
          stops = λ stopped. stops;
          reads = omega (arith, risen.reads);
          failed = λ stop. risen.rose refl;
          unfailed = λ sound. absurd (stop-faulted (fault ∷ []) stops sound);
          unread = λ sound. absurd (stop-faulted (fault ∷ []) stops sound);
          space = All-from_recursion HasSpace (fault ∷ [])
              (λ asked need free. faulted-space asked need free, tt);
        };
        still = All-from_recursion IsStill (fault ∷ [])
            (record { changes = λ geometry state. refl; tells = λ catalog. refl }, tt);
      }

  pub still-made : (fails : Bool) → IsStillBy fails after unit line old new
      → HasRisen fails before now → IsStillMade old new before now
  still-made false is risen = nothing-made is risen
  still-made true is risen = alone-made is risen

  -- a stage of the catalog
  stage-made : (what : What) → IsQuiet what
      → IsCatalogStage (entry_next old.entries after unit line what)
      → new ≡ with_event after unit line what old → now ≡ before → IsStillMade old new before now
  stage-made what quiet stage is same =
      let one = entry_next old.entries after unit line what in
      let faultless = All-from_recursion NoFault (one ∷ []) (quiet.sound, tt) in
      let goes = ap (λ (f : FileNow). f.stopped) is ∙ going in
      record {
        event = record {
          made = one ∷ [];
          entries = ap (λ (f : FileNow). f.entries) is;
          geometry = ap (λ (f : FileNow). f.geometry) is;
          own = All-from_recursion OfUtilities (one ∷ []) (deck, tt);
          utilities = inr (inr (inr
              (All-from_recursion IsCatalogStage (one ∷ []) (stage, tt))));
          once = none-asked (one ∷ [])
              (ap (λ (them : List Bound). them ++ []) (quiet.unasked line));
          faults = inr faultless;
          goes = λ done. goes;
          stops = λ stops. absurd (stops goes);
          reads = omega (arith, quiet.read, ap (λ (f : Faults). f.reads) same);
          failed = λ stop. absurd (stop-faulted (one ∷ []) stop faultless);
          unfailed = λ sound. ap (λ (f : Faults). f.writes) same;
          unread = λ sound. inl (ap (λ (f : Faults). f.reads) same);
          space = All-from_recursion HasSpace (one ∷ []) (quiet.space, tt);
        };
        still = All-from_recursion IsStill (one ∷ []) (still-of one quiet, tt);
      }

  pub staged-made : HasStaged after unit line old new → now ≡ before → IsStillMade old new before now
  staged-made staged same = by_stage staged.0 staged.1 staged.2
    where
      by_stage : (split : Bool) (taken : Option AreaNo)
          → new ≡ stage_entered after unit line catalog_part split taken old → IsStillMade old new before now
      by_stage split (Some area) is = stage-made (Claimed catalog_part area)
          (quiet-claimed catalog_part area) (inr (area, refl)) is same
      by_stage true None is = stage-made (Split catalog_part) (quiet-split catalog_part)
          (inl refl) is same
      by_stage false None is = still-made false is (none-rose before now same)

-- ---- an event that enters entries of a unit, and ends it

-- it enters these
pub record IsMadeOf (made : List Entry) (old new : FileNow) (before now : Faults) : Type 0 where
  pub event : IsUtilityMade old new before now
  pub made_are : event.made ≡ made

-- none of the entries before the COMMIT was refused since a read failed,
early-reads : (first : List Entry) → All IsEarly first → read_faults first ≡ 0
early-reads [] early = refl
early-reads (entry ∷ first) early = omega (
  arith,
  (All-head IsEarly entry first early).read,
  early-reads first (All-tail IsEarly entry first early),
)

-- nor is one of them the COMMIT
early-goes : (first more : List Entry) → All IsEarly first → HaveDoneCommit (first ++ more)
    → HaveDoneCommit more
early-goes [] more early done = done
early-goes (entry ∷ first) more early done = ⊎_elim
    (λ now. absurd ((All-head IsEarly entry first early).goes_on now))
    (λ later. early-goes first more (All-tail IsEarly entry first early) later) done

module _ (line : ℕ) (unit : UnitOfRecovery) (deck : unit.deck ≡ 0) (first : List Entry)
    (early : All IsEarly first) (begun : AreBegun first) (entries : List Entry)
    (old new : FileNow) (going : old.stopped ≡ None) (before now : Faults)
  where
    -- what each of the first entries is, and each of the others, all are
    all-of : (P : Entry → Type 0) → ((entry : Entry) → IsEarly entry → P entry)
        → (more : List Entry) → All P more → All P (first ++ more)
    all-of P each more rest =
        All-append P first more (All-weaker IsEarly P each first early) rest

    all-reads : (more : List Entry) → read_faults more ≡ 0 → read_faults (first ++ more) ≡ 0
    all-reads more none =
        omega (arith, read-faults-append first more, early-reads first early, none)

    -- its COMMIT is done,
    abbrev commit : Entry
    commit = entry_next entries 0 unit line (Asked Commit (DoneReply 0 None None))

    abbrev done : List Entry
    done = first ++ commit ∷ []

    pub ended-made : ChangesCatalogAtMost done → new.entries ≡ old.entries ++ done
        → new.geometry ≡ old.geometry → new.stopped ≡ old.stopped → now ≡ before
        → IsMadeOf done old new before now
    ended-made changes entries-are geometry-is stopped-is same =
        let faultless = all-of NoFault (λ entry is. is.sound) (commit ∷ [])
        (All-from_recursion NoFault (commit ∷ []) (asked-sound _ _, tt)) in
        let goes = stopped-is ∙ going in
        record {
          event = record {
            made = done;
            entries = entries-are;
            geometry = geometry-is;
            own = all-of OfUtilities (λ entry is. is.of_utilities) (commit ∷ [])
                (All-from_recursion OfUtilities (commit ∷ []) (deck, tt));
            utilities = changes;
            once = record {
              first = first;
              rest = commit ∷ [];
              made_are = refl;
              begun = begun;
              once = asked-one commit Commit (DoneReply 0 None None) refl [] refl;
            };
            faults = inr faultless;
            goes = λ done. goes;
            stops = λ stops. absurd (stops goes);
            reads = omega (arith, all-reads (commit ∷ []) refl, ap (λ (f : Faults). f.reads) same);
            failed = λ stop. absurd (stop-faulted done stop faultless);
            unfailed = λ sound. ap (λ (f : Faults). f.writes) same;
            unread = λ sound. inl (ap (λ (f : Faults). f.reads) same);
            space = all-of HasSpace (λ entry is. is.space) (commit ∷ [])
                (All-from_recursion HasSpace (commit ∷ [])
                (λ asked need free. done-space Commit asked 0 need free None None, tt));
          };
          made_are = refl;
        }

    -- or a fault of a write met it
    abbrev refused : Entry
    refused = entry_next entries 0 unit line (Asked Commit (Refused WriteFault))

    abbrev fault : Entry
    fault = entry_next (entries ++ refused ∷ []) 0 unit line (Faulted Write)

    abbrev both : List Entry
    both = refused ∷ fault ∷ []

    stops-after : IsStop (first ++ both)
    stops-after = inl (record {
      before = first;
      begun = begun;
      request = Commit;
      failing = refused;
      fault = fault;
      made_are = refl;
      failing_is = refl;
      fault_is = refl;
      unit_is = refl;
      line_is = refl;
    })

    no-commit : HaveDoneCommit (first ++ both) → ⊥
    no-commit done = ⊎_elim refused-goes-on
        (λ rest. ⊎_elim faulted-goes-on (λ none. none) rest) (early-goes first both early done)

    pub doubted-made : new.entries ≡ old.entries ++ (first ++ both)
        → new.geometry ≡ old.geometry → before.reads ≤ now.reads → before.writes < now.writes
        → IsMadeOf (first ++ both) old new before now
    doubted-made entries-are geometry-is reads rose =
        let made = first ++ both in
        record {
          event = record {
            made = made;
            entries = entries-are;
            geometry = geometry-is;
            own = all-of OfUtilities (λ entry is. is.of_utilities) both
                (All-from_recursion OfUtilities both (deck, (deck, tt)));
            utilities = inr (inr (inl stops-after));
            once = record {
              first = first;
              rest = both;
              made_are = refl;
              begun = begun;
              once = asked-one refused Commit (Refused WriteFault) refl (fault ∷ []) refl;
            };
            faults = inl stops-after;
            goes = λ done. absurd (no-commit done);
            stops = λ stops. stops-after;
            reads = omega (arith, all-reads both refl, reads);
            failed = λ stop. rose;
            unfailed = λ sound. absurd (stop-faulted made stops-after sound);
            unread = λ sound. absurd (stop-faulted made stops-after sound);
            space = all-of HasSpace (λ entry is. is.space) both
                (All-from_recursion HasSpace both (
                  λ asked need free. failed-space Commit asked need free,
                  (λ asked need free. faulted-space asked need free, tt),
                ));
          };
          made_are = refl;
        }
