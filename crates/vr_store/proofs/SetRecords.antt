-- A record that is set in a part, by what was prepared for it.
use Rattle.std.proofs.Common.{◌≡◌, ◌≢◌, ◌⊎◌, ⊎_elim, ℕ, Bool, true, false, cond, List, []}
use Rattle.std.proofs.Common.{◌∷◌, ◌++◌, Option, None, sym, ap, subst, ◌∙◌}
use Rattle.vr_types.specs.Moments.{Guards}
use Rattle.vr_types.specs.Seen.{Seen}
use Rattle.vr_types.specs.declared.geometry.Geometry.{Geometry}
use Rattle.vr_types.specs.declared.unit.PartNo.{PartNo}
use Rattle.vr_space.specs.Known.{Known}
use Rattle.vr_space.specs.Owners.{Owners}
use Rattle.vr_space.specs.Part.{DueMore, DueMoreAt, IsPlaceOf, Shape, part_no}
use Rattle.vr_log.specs.LogNow.{LogNow}
use Rattle.vr_log.specs.declared.record.LogRecord.{LogRecord}
use Rattle.vr_log.specs.declared.record.LogRecord.TheVariants as records
use Rattle.vr_history.specs.State.{BeforeImage, State}
use Rattle.vr_volume.specs.Committed.{committed_by}
use Rattle.vr_volume.specs.Laying.{IsLaidBy}
use Rattle.vr_volume.specs.Logged.{IsFirstBefore}
use Rattle.vr_volume.specs.PutBack.{lengths_kept, oldest}
use Rattle.vr_volume.specs.Rests.{IsPartAtRest, IsVolumeAtRest}
use Rattle.vr_volume.specs.Safe.{IsSafeImage}
use Rattle.vr_volume.specs.Steps.{Changing, IsFirstChange, IsKeptAgain, IsNextChange, IsPutIn}
use Rattle.vr_volume.specs.Steps.{image_by}
use Rattle.vr_volume.proofs.KeptAgain.{place-again}
use Rattle.vr_volume.proofs.Rested.{first-of, laid-by-more, place-some, rec-is}
use Rattle.vr_store.specs.Change.{IsSetIn, IsStep, IsToSet, log_with}
use Rattle.vr_store.specs.declared.prepared.Prepared.{Prepared}

pub step-puts : (logged : Bool) (log : LogNow) (change : Changing) (old new : State)
    → IsStep logged log change old new → IsPutIn change old new
step-puts false log change old new step = step.contents
step-puts true log change old new step =
    ⊎_elim (λ next. next.contents) (λ again. again.contents) step

module _ (geometry : Geometry) (number : ℕ) (owners : Owners) (log : LogNow)
    (images after : List BeforeImage) (old new : State) (change : Changing) (prepared : Prepared)
    (shape : Shape) (known : Known) (place : List ℕ) (found : Option (List ℕ)) (a : Seen)
    (to : IsToSet geometry number owners log images after old new change prepared shape known place
    found a) where
  pub same-part : (part_no shape).0 ≡ change.part.0
  same-part = ap (λ (p : PartNo). p.0) to.given.part

  pub to-puts : IsPutIn change old new
  to-puts = step-puts prepared.logged log change old new to.step

  abbrev with-image : Bool → List BeforeImage
  with-image logged = cond logged images (images ++ image_by change ∷ [])

  -- a change of a place that the log has
  module _ (logged : prepared.logged ≡ true) where
    pub images-same : after ≡ images
    images-same = to.kept ∙ ap with-image logged

    pub step-again : IsNextChange change old new ⊎ IsKeptAgain log change old new
    step-again = subst (λ (b : Bool). IsStep b log change old new) logged to.step

    pub place-logged : oldest images (part_no shape).0 place ≢ None
    place-logged = ⊎_elim
        (λ next. place-some geometry number owners log images old a to.volume change shape place
        found to.given next.kept)
        (λ again. place-again geometry number owners log images old a to.volume new change again
        shape place found to.given)
        step-again

    pub lengths-same : lengths_kept after (part_no shape).0 ≡ lengths_kept images (part_no shape).0
    lengths-same =
        ap (λ (kept : List BeforeImage). lengths_kept kept (part_no shape).0) images-same

    pub guards-again : (b : Seen)
        → Guards a b (IsSafeImage geometry number owners log (committed_by old))
        → Guards a b (IsSafeImage geometry number owners (log_with prepared.logged log prepared.rec)
        (committed_by old))
    guards-again b = subst (λ (l : Bool). Guards a b (IsSafeImage geometry number owners
        (log_with l log prepared.rec) (committed_by old))) (sym logged)

    pub set-again : (b : Seen) (now : Known) (put : List ℕ)
        → IsVolumeAtRest geometry number owners log images new b
        × IsPartAtRest geometry owners images new shape now b
        → ((other : Shape) (known : Known)
        → (part_no other).0 ≢ (part_no shape).0
        → IsPartAtRest geometry owners images old other known a
        → IsPartAtRest geometry owners images new other known b)
        → ((other : Shape) (known : Known)
        → (part_no other).0 ≢ (part_no shape).0
        → IsPartAtRest geometry owners images old other known a → DueMore other [] a b)
        → DueMoreAt shape place put a b
        → IsSetIn geometry number owners log images after old new shape now place put a b
    set-again b now put rests others others_due due = record {
      volume = subst (λ (i : List BeforeImage). IsVolumeAtRest geometry number owners log i new b)
          (sym images-same) rests.0;
      part = subst (λ (i : List BeforeImage). IsPartAtRest geometry owners i new shape now b)
          (sym images-same) rests.1;
      others = λ other known apart rested.
          subst (λ (i : List BeforeImage). IsPartAtRest geometry owners i new other known b)
          (sym images-same) (others other known apart rested);
      others_due = others_due;
      due = due;
    }

  -- the first change of a place
  module _ (logged : prepared.logged ≡ false) where
    pub images-more : after ≡ images ++ image_by change ∷ []
    images-more = to.kept ∙ ap with-image logged

    pub step-first : IsFirstChange log change old new
    step-first = subst (λ (b : Bool). IsStep b log change old new) logged to.step

    pub rec-here : prepared.rec ≡ records.Before change.unit (part_no shape) place change.old
    rec-here = to.rec ∙ rec-is geometry number owners log images after old new change a shape known
        place found to.volume to.part to.of step-first to.given images-more

    pub first-here : IsPlaceOf shape place
        → IsFirstBefore geometry log (committed_by old) change.unit (part_no shape) place
        change.old
    first-here at = first-of geometry number owners log images after old new change a shape known
        place found to.volume to.part to.of step-first to.given images-more at

    pub laid-here : IsLaidBy geometry (log.records ++ prepared.rec ∷ []) (committed_by old)
        (part_no shape).0 shape (lengths_kept after (part_no shape).0)
    laid-here = subst (λ (rec : LogRecord). IsLaidBy geometry (log.records ++ rec ∷ [])
        (committed_by old) (part_no shape).0 shape (lengths_kept after (part_no shape).0))
        (sym rec-here)
        (laid-by-more geometry number owners log images after old new change a shape known place
        found to.volume to.part to.of step-first to.given images-more)

    pub guards-first : (b : Seen)
        → Guards a b (IsSafeImage geometry number owners
        (Rattle.vr_log.specs.LogNow.with_record log prepared.rec) (committed_by old))
        → Guards a b (IsSafeImage geometry number owners (log_with prepared.logged log prepared.rec)
        (committed_by old))
    guards-first b = subst (λ (l : Bool). Guards a b (IsSafeImage geometry number owners
        (log_with l log prepared.rec) (committed_by old))) (sym logged)
