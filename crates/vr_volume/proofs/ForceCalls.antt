-- What forcing blocks that were changed leaves of a volume at rest.
use Rattle.std.proofs.Common.{ℕ, Bool, IsTrue, List, [], refl, ap, ◌∙◌}
use Rattle.vr_types.specs.Blocks.{Forced, Keeps}
use Rattle.vr_types.specs.Image.{Image, block_at}
use Rattle.vr_types.specs.Seen.{Left, Seen}
use Rattle.vr_types.specs.declared.geometry.Geometry.{Geometry}
use Rattle.vr_types.specs.declared.unit.Unit.{Unit as UnitOfRecovery}
use Rattle.vr_space.specs.Owners.{Owners}
use Rattle.vr_space.specs.Known.{Known}
use Rattle.vr_space.specs.Part.{IsDueTo, IsSound, Shape, item_of}
use Rattle.vr_space.proofs.CallerLemmas.{due-fewer, due-none}
use Rattle.vr_log.specs.LogNow.{LogNow}
use Rattle.vr_history.specs.State.{BeforeImage, State}
use Rattle.vr_volume.specs.Committed.{IsFirmFor, committed_by}
use Rattle.vr_volume.specs.Due.{AreRead, IsDueFor}
use Rattle.vr_volume.specs.Rests.{IsPartAtRest, IsVolumeAtRest}
use Rattle.vr_volume.specs.Safe.{IsSafe}
use Rattle.vr_volume.proofs.Rested.{part-stays, stands-still}

-- ---- what is due

pub firm-for : (geometry : Geometry) (owners : Owners) (log : LogNow) (state : State)
    (unit : UnitOfRecovery)
    (now : Seen) → IsDueFor geometry log state unit [] now → AreRead geometry owners state now
    → IsFirmFor geometry log state unit now
firm-for geometry owners log state unit now due read part place image shape found is mine laid may =
    let reads = read part shape laid in
    due-none shape owners now reads.0 place (due part place image shape is mine laid) found may
    ∙ reads.1 place

-- ---- a call that forces

module _ (tells : Bool) (told : IsTrue tells) (a b : Seen) (call : Keeps tells a b) where
  -- whether it fails or not, what was due is,
  pub due-kept : (shape : Shape) (owners : Owners) (listed place : List ℕ) → IsSound shape owners a
      → IsDueTo shape listed a place → IsDueTo shape listed b place
  due-kept shape owners listed place sound =
      due-fewer shape owners a sound listed listed place b
      (λ n block is may. (
        call.adds_none told n block is.0 may.0,
        λ there. may.1 there ∙ ap (λ (image : Image). block_at image n) (call.content told),
      ))
      (ap (λ (image : Image). item_of shape image place) (call.content told))

  -- to none, where it forced them all
  pub due-forced : (shape : Shape) (owners : Owners) (listed place : List ℕ)
      → Forced listed a.cur b.may → IsSound shape owners a
      → IsDueTo shape listed a place → IsDueTo shape [] b place
  due-forced shape owners listed place forced sound =
      due-fewer shape owners a sound listed [] place b
      (λ n block is may. (
        call.adds_none told n block is.0 may.0,
        λ there. forced n block there may.0,
      ))
      (ap (λ (image : Image). item_of shape image place) (call.content told))

  -- the volume stays at rest, and each part of it
  pub volume-kept : (geometry : Geometry) (number : ℕ) (owners : Owners) (log : LogNow)
      (images : List BeforeImage)
      (state : State) → IsSafe geometry number owners log (committed_by state) b
      → IsVolumeAtRest geometry number owners log images state a
      → IsVolumeAtRest geometry number owners log images state b
  volume-kept geometry number owners log images state safe rest = record {
    safe = safe;
    stands = stands-still log rest.forced a b rest.stands call.count_same call.size_same
        (λ n block below inside may. call.adds_none told n block below may);
    sound = rest.sound;
    forced = rest.forced;
    laid = rest.laid;
    logged = rest.logged;
    kept = rest.kept;
  }

  pub part-kept : (geometry : Geometry) (owners : Owners) (images : List BeforeImage)
      (state : State) (shape : Shape) (known : Known) → Left a a.cur
      → IsPartAtRest geometry owners images state shape known a
      → IsPartAtRest geometry owners images state shape known b
  part-kept geometry owners images state shape known left part =
      part-stays geometry owners images images state state shape known a b
      (record {
        count = call.count_same;
        size = call.size_same;
        same = λ n inside. ap (λ (image : Image). block_at image n) (call.content told);
        fewer = λ n block below inside may. call.adds_none told n block below may;
      }) left part refl refl refl (λ place none. none)
