-- What is counted of a cluster is what the state has.
use Rattle.std.proofs.Common.{◌≡◌, ◌∙◌, ℕ, List, None, sym, ap}
use Rattle.std.specs.Prelude.{Contains}
use Rattle.vr_types.specs.Seen.{Seen}
use Rattle.vr_catalog.specs.declared.entry.CatEntry.{CatEntry}
use Rattle.vr_catalog.specs.declared.entry.EntryKind.TheVariants.{Cluster}
use Rattle.vr_record_file.specs.Now.{FileNow, state_now}
use Rattle.vr_history.specs.State.{State}
use Rattle.vr_history.specs.declared.entry.Entry.{Entry}
use Rattle.vr_store.specs.Store.{StoreNow}
use Rattle.vr_event.specs.Counts.{AreCounts, as_told, counts_with, records_in}
use Rattle.vr_event.specs.Volume.{IsHeld, IsWhole, VolumeNow}
use Rattle.vr_event.specs.declared.counts.Count.TheVariants.{Counted}
use Rattle.vr_event.specs.declared.counts.Counts.{Counts}
use Rattle.vr_event.proofs.CountedAreas.{areas-counted}
use Rattle.vr_event.proofs.NumbersHeld.{areas_kept}

same-counts : (one other : Counts) → Counted one ≡ Counted other → one ≡ other
same-counts one other same = cc

-- The records are those of the state, and the areas and the splits those in memory.
pub counted-is : {B : Type 0} (seen : B → Seen) (opening : State) (old mid : VolumeNow B)
    (entry : CatEntry) (records : ℕ) (counts found : Counts) → IsWhole seen old
    → old.file.stopped ≡ None → Contains old.file.catalog entry → entry.entry_kind ≡ Cluster
    → counts ≡ counts_with records (areas_kept mid.store.parts entry.part.0) mid.file.entries entry
    → mid.file ≡ old.file → mid.store ≡ old.store
    → (IsHeld seen opening old
    → records ≡ as_told (records_in ((state_now opening old.file).contents entry.part.0)))
    → Counted counts ≡ Counted found → IsHeld seen opening old
    → AreCounts (state_now opening old.file) old.file.entries entry found
counted-is seen opening old mid entry records counts found whole going mine cluster is file store
    told same held = record {
      areas = areas_kept old.store.parts entry.part.0;
      areas_are = areas-counted seen opening old entry whole held going mine cluster;
      counts_are = sym (same-counts counts found same) ∙ is
          ∙ ap (λ (s : StoreNow). counts_with records (areas_kept s.parts entry.part.0)
          mid.file.entries entry) store
          ∙ ap (λ (f : FileNow). counts_with records (areas_kept old.store.parts entry.part.0)
          f.entries entry) file
          ∙ ap (λ (n : ℕ). counts_with n (areas_kept old.store.parts entry.part.0)
          old.file.entries entry) (told held);
    }

-- Its areas are those of its chain.
pub chain-is : (old mid : StoreNow) (entries : List Entry) (entry : CatEntry) (records : ℕ)
    (counts found : Counts)
    → counts ≡ counts_with records (areas_kept mid.parts entry.part.0) entries entry
    → mid ≡ old → Counted counts ≡ Counted found
    → found.areas ≡ areas_kept old.parts entry.part.0
chain-is old mid entries entry records counts found is store same =
    ap (λ (c : Counts). c.areas) (sym (same-counts counts found same) ∙ is)
    ∙ ap (λ (s : StoreNow). areas_kept s.parts entry.part.0) store
