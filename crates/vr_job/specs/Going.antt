-- What goes on of a volume from event to event. The rules are this project's own.
use Rattle.std.specs.Prelude.{◌≡◌, ◌≢◌, ◌⊎◌, ◌≤◌, ◌+◌, ℕ, Bool, true, IsTrue, List, [], ◌∷◌, ◌++◌}
use Rattle.std.specs.Prelude.{None, Option, Some, is_some}
use Rattle.std.proofs.Common.{◌∙◌, inl, inr, ⊎_elim, append_assoc, ap, arith, refl, subst, sym}
use Rattle.std.proofs.lemmas.List.{append_cancel_left, append-nil}
use Rattle.vr_types.specs.Faults.{Faults}
use Rattle.vr_types.specs.Moments.{Guards}
use Rattle.vr_types.specs.Seen.{Seen}
use Rattle.vr_catalog.specs.declared.entry.CatEntry.{CatEntry}
use Rattle.vr_history.specs.Merged.{IsStamped}
use Rattle.vr_history.specs.State.{State}
use Rattle.vr_history.specs.declared.entry.Entry.{Entry}
use Rattle.vr_record_file.specs.Now.{FileNow, has_deck}
use Rattle.vr_event.specs.Volume.{IsHeld, IsWhole, VolumeNow}
use Rattle.vr_job.specs.Catalogs.{catalog_after, catalog_by}
use Rattle.vr_job.specs.Committed.{KeepTheCatalog}
use Rattle.vr_job.specs.Crash.{IsLeftBy}
use Rattle.vr_job.specs.Events.{HasStopped, IsOfEvents}
use Rattle.vr_job.specs.Faultless.{AreFaultless, has_stopped}
use Rattle.vr_job.specs.ReadFaults.{read-faults-append, read_faults}

-- Its history shows whether the volume has stopped.
abbrev pub ShowsStop : FileNow → Type 0
ShowsStop file = is_some file.stopped ≡ has_stopped file.entries

-- What goes on from event to event whether or not the device reports its contents: the volume is
-- whole, its shape stays, its catalog is what the entries make it, each deck stays entered, entries
-- are added alone, at stamps that rise, and no count of faults falls. Each reply 904 is one that
-- the count of reads rose for. Where no write failed, the volume isn't stopped, and no fault is
-- entered; and where it didn't stop no write or sync failed. A volume that stopped stays so, and
-- its history shows it.
pub record GoesOn {B : Type 0} (seen : B → Seen) (faults : B → Faults) (old new : VolumeNow B)
    : Type 0 where
  pub whole : IsWhole seen new
  pub number : new.number ≡ old.number
  pub geometry : new.file.geometry ≡ old.file.geometry
  pub decks : (deck : ℕ) → has_deck deck old.file.numbers ≡ true
      → has_deck deck new.file.numbers ≡ true
  pub made : List Entry
  pub entries : new.file.entries ≡ old.file.entries ++ made
  pub catalog : new.file.catalog ≡ catalog_by old.file.catalog made
  pub stamped : IsStamped 0 old.file.entries → IsStamped 0 new.file.entries
  pub reads : (faults old.blocks).reads + read_faults made ≤ (faults new.blocks).reads
  pub writes : (faults old.blocks).writes ≤ (faults new.blocks).writes
  pub stops : (faults new.blocks).writes ≡ (faults old.blocks).writes
      → new.file.stopped ≡ old.file.stopped
  pub quiet : new.file.stopped ≡ old.file.stopped
      → (faults new.blocks).writes ≡ (faults old.blocks).writes
  pub stays : (stamp : ℕ) → old.file.stopped ≡ Some stamp → new.file.stopped ≡ Some stamp
  pub faultless : (faults new.blocks).writes ≡ (faults old.blocks).writes
      → AreFaultless old.file.entries → AreFaultless new.file.entries
  pub shows : ShowsStop old.file → ShowsStop new.file

-- What goes on where it does, from an opening and the blocks as they were then: the history is
-- legal, gives what the volume has, and makes its catalog; each image at each moment since
-- is left by the history, and so it is event by event; and where the volume has stopped, by the
-- event in which it did.
pub record HasRun {B : Type 0} (seen : B → Seen) (faults : B → Faults) (opening : State)
    (first : B) (volume : VolumeNow B) : Type 0 where
  pub held : IsHeld seen opening volume
  pub keeps_catalog : KeepTheCatalog volume.file.geometry opening volume.file.entries
  pub left : Guards (seen first) (seen volume.blocks)
      (IsLeftBy volume.file.geometry volume.number opening volume.file.entries)
  pub events : IsOfEvents seen faults volume.file.geometry volume.number opening first
      volume.blocks volume.file.entries
  pub stopped : volume.file.stopped ≢ None → HasStopped volume.file.geometry volume.number opening
      volume.file.entries (seen volume.blocks)

-- What goes on, and where the device reports its contents, what goes on from each opening.
pub record WentOn {B : Type 0} (tells : Bool) (seen : B → Seen) (faults : B → Faults)
    (old new : VolumeNow B) : Type 0 where
  pub on : GoesOn seen faults old new
  pub held : IsTrue tells → (opening : State) → IsHeld seen opening old
      → IsHeld seen opening new
  pub run : IsTrue tells → (opening : State) (first : B) → HasRun seen faults opening first old
      → HasRun seen faults opening first new

-- A later state of a volume: it is as it was, or went on.
abbrev pub Follows : {B : Type 0} → Bool → (B → Seen) → (B → Faults) → VolumeNow B → VolumeNow B
    → Type 0
Follows tells seen faults old new = (new ≡ old) ⊎ WentOn tells seen faults old new

-- ---- laws of later states, which those of a volume behind a latch cite

pub catalog-append : (catalog : List CatEntry) (entries more : List Entry)
    → catalog_by catalog (entries ++ more) ≡ catalog_by (catalog_by catalog entries) more
catalog-append catalog [] more = refl
catalog-append catalog (entry ∷ entries) more =
    catalog-append (catalog_after entry catalog) entries more

pub goes-then : {B : Type 0} (seen : B → Seen) (faults : B → Faults) (a b c : VolumeNow B)
    → GoesOn seen faults a b → GoesOn seen faults b c → GoesOn seen faults a c
goes-then {B} seen faults a b c first second = record {
  whole = second.whole;
  number = second.number ∙ first.number;
  geometry = second.geometry ∙ first.geometry;
  catalog = second.catalog
      ∙ ap (λ (entries : List CatEntry). catalog_by entries second.made) first.catalog
      ∙ sym (catalog-append a.file.catalog first.made second.made);
  decks = λ deck has. second.decks deck (first.decks deck has);
  made = first.made ++ second.made;
  entries = second.entries
      ∙ ap (λ (entries : List Entry). entries ++ second.made) first.entries
      ∙ append_assoc a.file.entries first.made second.made;
  stamped = λ before. second.stamped (first.stamped before);
  reads = omega (
    arith,
    first.reads,
    second.reads,
    read-faults-append first.made second.made,
  );
  writes = omega (arith, first.writes, second.writes);
  stops = λ same. second.stops (second-same same) ∙ first.stops (first-same same);
  quiet = λ same.
      let at-first : b.file.stopped ≡ a.file.stopped = stopped-same same in
      second.quiet (same ∙ sym at-first) ∙ first.quiet at-first;
  stays = λ stamp is. second.stays stamp (first.stays stamp is);
  faultless = λ same before. second.faultless (second-same same)
      (first.faultless (first-same same) before);
  shows = λ before. second.shows (first.shows before);
}
  where
    first-same : (faults c.blocks).writes ≡ (faults a.blocks).writes
        → (faults b.blocks).writes ≡ (faults a.blocks).writes
    first-same same = omega (arith, same, first.writes, second.writes)

    second-same : (faults c.blocks).writes ≡ (faults a.blocks).writes
        → (faults c.blocks).writes ≡ (faults b.blocks).writes
    second-same same = omega (arith, same, first.writes, second.writes)

    -- it didn't stop in the first part
    stopped-same : c.file.stopped ≡ a.file.stopped → b.file.stopped ≡ a.file.stopped
    stopped-same same = by_first a.file.stopped refl b.file.stopped refl
      where
        by_first : (was : Option ℕ) → a.file.stopped ≡ was → (then : Option ℕ)
            → b.file.stopped ≡ then → b.file.stopped ≡ a.file.stopped
        by_first (Some stamp) was then is = first.stays stamp was ∙ sym was
        by_first None was None is = is ∙ sym was
        by_first None was (Some stamp) is =
            let never : ◌≡◌ {A = Option ℕ} (Some stamp) None =
            sym (second.stays stamp is) ∙ same ∙ was in
            absurd cc

pub went-then : {B : Type 0} (tells : Bool) (seen : B → Seen) (faults : B → Faults)
    (a b c : VolumeNow B) → WentOn tells seen faults a b → WentOn tells seen faults b c
    → WentOn tells seen faults a c
went-then tells seen faults a b c first second = record {
  on = goes-then seen faults a b c first.on second.on;
  held = λ told opening held. second.held told opening (first.held told opening held);
  run = λ told opening from run. second.run told opening from (first.run told opening from run);
}

-- a volume is a later state of itself
pub follows-itself : {B : Type 0} (tells : Bool) (seen : B → Seen) (faults : B → Faults)
    (volume : VolumeNow B) → Follows tells seen faults volume volume
follows-itself tells seen faults volume = inl refl

-- a later state of a later state is one
pub follows-on : {B : Type 0} (tells : Bool) (seen : B → Seen) (faults : B → Faults)
    (a b c : VolumeNow B) → Follows tells seen faults a b → Follows tells seen faults b c
    → Follows tells seen faults a c
follows-on {B} tells seen faults a b c first second = ⊎_elim
    (λ same. subst (λ (v : VolumeNow B). Follows tells seen faults v c) same second)
    (λ went. ⊎_elim
    (λ same. subst (Follows tells seen faults a) (sym same) first)
    (λ more. inr (went-then tells seen faults a b c went more)) second) first

-- the catalog is what the entries that it gained make it
pub follows-catalog : {B : Type 0} (tells : Bool) (seen : B → Seen) (faults : B → Faults)
    (a b : VolumeNow B) → Follows tells seen faults a b → (more : List Entry)
    → b.file.entries ≡ a.file.entries ++ more → b.file.catalog ≡ catalog_by a.file.catalog more
follows-catalog {B} tells seen faults a b is more grew = ⊎_elim
    (λ same. ap (λ (v : VolumeNow B). v.file.catalog) same
    ∙ ap (catalog_by a.file.catalog) (append_cancel_left a.file.entries [] more
    (append-nil a.file.entries ∙ sym (ap (λ (v : VolumeNow B). v.file.entries) same) ∙ grew)))
    (λ went. went.on.catalog ∙ ap (catalog_by a.file.catalog)
    (append_cancel_left a.file.entries went.on.made more (sym went.on.entries ∙ grew))) is

-- so does the number
pub follows-number : {B : Type 0} (tells : Bool) (seen : B → Seen) (faults : B → Faults)
    (a b : VolumeNow B) → Follows tells seen faults a b → b.number ≡ a.number
follows-number {B} tells seen faults a b is = ⊎_elim
    (λ same. ap (λ (v : VolumeNow B). v.number) same) (λ went. went.on.number) is
