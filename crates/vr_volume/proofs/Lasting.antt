-- What a crash leaves of a volume at rest.
use Rattle.std.proofs.Common.{[], ℕ, List, ap, ◌∙◌}
use Rattle.vr_types.specs.Content.{item_at}
use Rattle.vr_types.specs.Image.{Image}
use Rattle.vr_types.specs.Seen.{Left, Seen}
use Rattle.vr_types.specs.declared.geometry.Geometry.{Geometry}
use Rattle.vr_space.specs.Owners.{Owners}
use Rattle.vr_log.specs.LogNow.{LogNow}
use Rattle.vr_history.specs.Committed.{kept_or}
use Rattle.vr_history.specs.State.{BeforeImage, State}
use Rattle.vr_volume.specs.Committed.{committed_by}
use Rattle.vr_volume.specs.Crashes.{RecoversTo, committed_with, kept_but}
use Rattle.vr_volume.specs.Durable.{RecoversState}
use Rattle.vr_volume.specs.PutBack.{oldest, standing_of}
use Rattle.vr_volume.specs.Rests.{IsVolumeAtRest}
use Rattle.vr_volume.proofs.Crashing.{kept-whole, rest-recovers}
use Rattle.vr_volume.proofs.PuttingBack.{back-record}
use Rattle.vr_volume.proofs.Recovering.{each_image_is_safe}

-- Each image recovers to the records of the state, but where before-images are kept.
pub recovers-state : (geometry : Geometry) (number : ℕ) (owners : Owners) (log : LogNow)
    (images : List BeforeImage)
    (state : State) (now : Seen) → IsVolumeAtRest geometry number owners log images state now
    → (image : Image) → Left now image → RecoversState geometry number state image
recovers-state geometry number owners log images state now rest image left =
    let it : RecoversTo geometry number state [] image =
    rest-recovers geometry number owners log images state now rest image
    (each_image_is_safe geometry number owners log (committed_by state) now rest.safe image left) in
    record {
      contents = committed_with [] state;
      recovers = it.recovers;
      items = λ part place.
          back-record part (kept_but [] state.befores) (state.contents part) place
          (rest.laid.each part)
          ∙ ap (λ (befores : List BeforeImage). kept_or (oldest befores part place)
          (standing_of (item_at (state.contents part) place))) (kept-whole state.befores);
    }
