-- The records that reading a cluster through handed over, whichever the state is from which the
-- volume is held.
use Rattle.std.proofs.Common.{◌≡◌, ◌-◌, ◌^◌, ℕ, Bool, true, false, IsTrue, List, Option, None, ap}
use Rattle.std.proofs.Common.{refl, sym}
use Rattle.std.proofs.lemmas.Bool.{true≢false}
use Rattle.vr_types.specs.Content.{Content}
use Rattle.vr_types.specs.Seen.{Seen}
use Rattle.vr_history.specs.State.{State}
use Rattle.vr_record_file.specs.Now.{state_now}
use Rattle.vr_trace.specs.Visitors.{Visited}
use Rattle.vr_event.specs.Reading.{AreRead, HasReadFrom, HasVisited, IsReadThrough, first_records}
use Rattle.vr_event.specs.Volume.{Holds, IsHeld, IsWhole, VolumeNow}
use Rattle.vr_event.specs.declared.reading.ReadThrough.{ReadThrough}
use Rattle.vr_event.specs.declared.reading.ReadThrough.TheVariants.{Done, Fault}
use Rattle.vr_event.proofs.OneContent.{one-content}

module _ {B V : Type 0} (after : V → List ℕ → List ℕ → V) (done : V → Bool) (seen : B → Seen)
    (from : Option (List ℕ)) (part : ℕ) (volume : VolumeNow B) (old new : V)
    (whole : IsWhole seen volume) (going : volume.file.stopped ≡ None) where
  abbrev content : State → Content
  content opening = (state_now opening volume.file).contents part

  -- each state from which it is held has this content
  same : (one other : State) → IsHeld seen one volume → IsHeld seen other volume
      → content one ≡ content other
  same one other held held' = one-content volume.store (seen volume.blocks) (whole.set going) part
      volume.number volume.number (state_now one volume.file) (state_now other volume.file)
      (held.stored going) (held'.stored going)

  read-by : (through : ReadThrough) → (holds : Holds seen volume)
      → IsReadThrough after done through from (content holds.opening) old new
      → HasReadFrom after done true seen through from part volume old new
  read-by Done holds is = record {
    records = first_records (2 ^ 64 - 1) from (content holds.opening);
    visited = is;
    are = λ told opening held. ap (first_records (2 ^ 64 - 1) from)
        (same holds.opening opening holds.held held);
  }
  read-by (Fault fault) holds is = record {
    records = first_records is.count from (content holds.opening);
    visited = is.visited;
    are = λ told opening held. (
      is.count,
      ap (first_records is.count from) (same holds.opening opening holds.held held),
    );
  }

  pub has-read : (tells : Bool) (through : ReadThrough) → (IsTrue tells → Holds seen volume)
      → (IsTrue tells → (opening : State) → IsHeld seen opening volume
      → IsReadThrough after done through from (content opening) old new)
      → HasVisited after done old new
      → HasReadFrom after done tells seen through from part volume old new
  has-read true through holds read visited =
      read-by through (holds refl) (read refl (holds refl).opening (holds refl).held)
  has-read false through holds read visited = record {
    records = visited.records;
    visited = visited.visited;
    are = λ told. absurd (true≢false (sym told));
  }
