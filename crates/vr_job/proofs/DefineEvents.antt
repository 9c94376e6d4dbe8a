-- What an event of a definition of a cluster enters in the history of its volume, and what each of
-- its entries is not.
use Rattle.std.proofs.Common.{◌≡◌, ◌⊎◌, ◌∙◌, ◌<◌, ◌≤◌, inl, inr, ℕ, Bool, true, false}
use Rattle.std.proofs.Common.{List, [], ◌∷◌, ◌++◌, Option, None, Some, Result, Ok, Err, All, ap}
use Rattle.std.proofs.Common.{append_assoc, refl, ⊎_elim}
use Rattle.std.proofs.lemmas.List.Elements.{All-from_recursion}
use Rattle.vr_types.specs.Faults.{Faults}
use Rattle.vr_types.specs.declared.fault.DeviceFault.TheVariants.{Read, Write}
use Rattle.vr_types.specs.declared.memory.OutOfMemory.{OutOfMemory}
use Rattle.vr_types.specs.declared.reply.Refusal.TheVariants.{WriteFault}
use Rattle.vr_types.specs.declared.reply.Reply.TheVariants.{Done as DoneReply, Refused}
use Rattle.vr_types.specs.declared.request.FileRef.{FileRef}
use Rattle.vr_types.specs.declared.request.Request.TheVariants.{Add, Commit}
use Rattle.vr_types.specs.declared.unit.AreaNo.{AreaNo}
use Rattle.vr_types.specs.declared.unit.Unit.{Unit as UnitOfRecovery}
use Rattle.vr_catalog.specs.Record.{spelling}
use Rattle.vr_catalog.specs.declared.entry.CatEntry.{CatEntry}
use Rattle.vr_history.specs.declared.entry.Entry.{Entry}
use Rattle.vr_history.specs.declared.entry.What.TheVariants.{Asked, Claimed, Faulted}
use Rattle.vr_record_file.specs.Now.{FileNow, entry_next}
use Rattle.vr_event.specs.Defining.{HasDefineFaults, IsDefineEntered, entry_add, entry_place}
use Rattle.vr_event.specs.Defining.{entry_with_area, file_defined, file_in_doubt}
use Rattle.vr_event.specs.declared.define.Define.{Define}
use Rattle.vr_event.specs.declared.define.Define.TheVariants.{Again, Done, Fault, Full, Held}
use Rattle.vr_event.specs.declared.define.Define.TheVariants.{NoArea, NoRoom}
use Rattle.vr_job.specs.Crash.{IsDoneCommit}
use Rattle.vr_job.specs.Definitions.{AreBegun, IsRecorded}
use Rattle.vr_job.proofs.UtilityEvents.{IsEarly, IsStill, IsUtilityMade, asked-sound, done-space}
use Rattle.vr_job.proofs.UtilityEvents.{doubted-made, ended-made, quiet-claimed, staged-made}
use Rattle.vr_job.proofs.UtilityEvents.{still-made}
use Rattle.vr_job.proofs.UtilityMade.{HasRisen, IsStillBy, none-rose, read-rose, write-rose}

-- ---- what an entry is not

add-goes-on : (file : FileRef) (named place : Option (List ℕ)) (bytes : List ℕ)
    → ¬ IsDoneCommit (Asked (Add file named bytes) (DoneReply 0 place None))
add-goes-on file named place bytes same = cc

-- ---- the entries of a definition

module _ (volume after line : ℕ) (unit : UnitOfRecovery) (entry : CatEntry) (area : AreaNo)
    (file : FileNow) where
  -- its area, and its record in the catalog
  abbrev pub claim-of : Entry
  claim-of = entry_next file.entries after unit line (Claimed entry.part area)

  abbrev with-claim : List Entry
  with-claim = file.entries ++ claim-of ∷ []

  abbrev pub add-of : Entry
  add-of = entry_next with-claim 0 unit line
      (Asked (entry_add volume (entry_with_area entry area))
      (DoneReply 0 (Some (entry_place (entry_with_area entry area))) None))

  abbrev with-add : List Entry
  with-add = with-claim ++ add-of ∷ []

  abbrev pub begun-of : List Entry
  begun-of = claim-of ∷ add-of ∷ []

  -- the COMMIT of its unit; or a fault of a write, which refuses that and stops the volume
  abbrev pub commit-of : Entry
  commit-of = entry_next with-add 0 unit line (Asked Commit (DoneReply 0 None None))

  abbrev pub refused-of : Entry
  refused-of = entry_next with-add 0 unit line (Asked Commit (Refused WriteFault))

  abbrev pub fault-of : Entry
  fault-of = entry_next (with-add ++ refused-of ∷ []) 0 unit line (Faulted Write)

  pub defined-entries : (to : FileNow) → to ≡ file_defined volume after unit line entry area file
      → to.entries ≡ file.entries ++ (begun-of ++ commit-of ∷ [])
  defined-entries to is = ap (λ (f : FileNow). f.entries) is
      ∙ append_assoc with-claim (add-of ∷ []) (commit-of ∷ [])
      ∙ append_assoc file.entries (claim-of ∷ []) (add-of ∷ commit-of ∷ [])

  pub doubted-entries : (to : FileNow) → to ≡ file_in_doubt volume after unit line entry area file
      → to.entries ≡ file.entries ++ (begun-of ++ refused-of ∷ fault-of ∷ [])
  doubted-entries to is = ap (λ (f : FileNow). f.entries) is
      ∙ append_assoc with-add (refused-of ∷ []) (fault-of ∷ [])
      ∙ append_assoc with-claim (add-of ∷ []) (refused-of ∷ fault-of ∷ [])
      ∙ append_assoc file.entries (claim-of ∷ []) (add-of ∷ refused-of ∷ fault-of ∷ [])

  pub begun-recorded : unit.deck ≡ 0
      → IsRecorded unit entry.part area (spelling (entry_with_area entry area)) begun-of
  begun-recorded deck = record {
    claim = claim-of;
    add = add-of;
    made_are = refl;
    of_utilities = deck;
    claim_unit = refl;
    add_unit = refl;
    claim_is = refl;
    file = _;
    catalog = refl;
    place = entry_place (entry_with_area entry area);
    add_is = refl;
  }

-- ---- what an event enters

-- Its entries are the utilities' own, and change no record but the one that a definition adds.
pub record IsDefineMade (volume after line : ℕ) (unit : UnitOfRecovery) (entry : CatEntry)
    (old new : FileNow) (before now : Faults) : Type 0 where
  pub event : IsUtilityMade old new before now
  pub by : All IsStill event.made ⊎ ((area : AreaNo) × (rest : List Entry)
      × (event.made ≡ begun-of volume after line unit entry area old ++ rest) × All IsStill rest)

module _ (volume after line : ℕ) (unit : UnitOfRecovery) (deck : unit.deck ≡ 0) (entry : CatEntry)
    (old new : FileNow) (going : old.stopped ≡ None) (before now : Faults) where
  abbrev Made : Type 0
  Made = IsDefineMade volume after line unit entry old new before now

  -- nothing, or a fault alone
  still : (fails : Bool) → IsStillBy fails after unit line old new → HasRisen fails before now
      → Made
  still fails is risen =
      let one = still-made after line unit deck old new going before now fails is risen in
      record { event = one.event; by = inl one.still }

  -- the cluster
  module _ (area : AreaNo) where
    abbrev claim : Entry
    claim = claim-of volume after line unit entry area old

    abbrev add : Entry
    add = add-of volume after line unit entry area old

    abbrev bytes : List ℕ
    bytes = spelling (entry_with_area entry area)

    recorded : IsRecorded unit entry.part area bytes (claim ∷ add ∷ [])
    recorded = begun-recorded volume after line unit entry area old deck

    early-claim : IsEarly claim
    early-claim =
        let quiet = quiet-claimed entry.part area in
        record {
          of_utilities = deck;
          sound = quiet.sound;
          goes_on = quiet.goes_on;
          space = quiet.space;
          read = quiet.read;
        }

    early-add : IsEarly add
    early-add = record {
      of_utilities = deck;
      sound = asked-sound _ _;
      goes_on = add-goes-on _ _ _ _;
      space = λ asked need free. done-space _ asked 0 need free _ None;
      read = refl;
    }

    early : All IsEarly (claim ∷ add ∷ [])
    early = All-from_recursion IsEarly (claim ∷ add ∷ []) (early-claim, (early-add, tt))

    begun : AreBegun (claim ∷ add ∷ [])
    begun = inr (inl (unit, entry.part, area, bytes, recorded))

    done-made : new ≡ file_defined volume after unit line entry area old → now ≡ before → Made
    done-made is same =
        let commit = commit-of volume after line unit entry area old in
        let one = ended-made line unit deck (claim ∷ add ∷ []) early begun
        (with-add volume after line unit entry area old) old new going before now
        (inl (
          entry.part,
          area,
          bytes,
          record {
            unit = unit;
            first = claim ∷ add ∷ [];
            recorded = recorded;
            commit = commit;
            made_are = refl;
            commit_unit = refl;
            commit_is = refl;
          },
        )) (defined-entries volume after line unit entry area old new is)
        (ap (λ (f : FileNow). f.geometry) is) (ap (λ (f : FileNow). f.stopped) is) same in
        record {
          event = one.event;
          by = inr (
            area,
            commit ∷ [],
            one.made_are,
            All-from_recursion IsStill (commit ∷ [])
                (record { changes = λ geometry state. refl; tells = λ catalog. refl }, tt),
          );
        }

    in-doubt-made : new ≡ file_in_doubt volume after unit line entry area old
        → before.reads ≤ now.reads → before.writes < now.writes → Made
    in-doubt-made is reads rose =
        let refused = refused-of volume after line unit entry area old in
        let fault = fault-of volume after line unit entry area old in
        let one = doubted-made line unit deck (claim ∷ add ∷ []) early begun
        (with-add volume after line unit entry area old) old new going before now
        (doubted-entries volume after line unit entry area old new is)
        (ap (λ (f : FileNow). f.geometry) is) reads rose in
        record {
          event = one.event;
          by = inr (
            area,
            refused ∷ fault ∷ [],
            one.made_are,
            All-from_recursion IsStill (refused ∷ fault ∷ []) (
              record { changes = λ geometry state. refl; tells = λ catalog. refl },
              (record { changes = λ geometry state. refl; tells = λ catalog. refl }, tt),
            ),
          );
        }

  -- by what it came to
  pub define-made : (result : Result Define OutOfMemory)
      → IsDefineEntered result volume after unit line entry old new
      → HasDefineFaults before now result → Made
  define-made (Ok (Done area)) is calm = done-made area is calm
  define-made (Ok Again) is calm =
      let one = staged-made after line unit deck old new going before now is calm in
      record { event = one.event; by = inl one.still }
  define-made (Ok NoArea) is calm = still false is (none-rose before now calm)
  define-made (Ok NoRoom) is calm = still false is (none-rose before now calm)
  define-made (Ok Held) is calm = still false is (none-rose before now calm)
  define-made (Ok Full) is calm = still false is (none-rose before now calm)
  define-made (Ok (Fault Read)) is rose = still false is (read-rose before now rose.0 rose.1)
  define-made (Ok (Fault Write)) is rose = ⊎_elim
      (λ alone. still true alone (write-rose before now rose.0 rose.1))
      (λ doubt. in-doubt-made doubt.0 doubt.1 rose.0 rose.1) is
  define-made (Err why) is calm = still false is (none-rose before now calm)
