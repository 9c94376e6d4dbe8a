-- A volume whose log has no record: nothing is kept of any unit, and what is committed is what the
-- state has.
use Rattle.std.proofs.Common.{◌≡◌, ℕ, Bool, cond, List, [], ◌∷◌}
use Rattle.std.proofs.Common.{Some, None, refl, sym, ap, ◌∙◌}
use Rattle.vr_types.specs.Content.{Content}
use Rattle.vr_types.specs.Seen.{Seen}
use Rattle.vr_types.specs.declared.geometry.Geometry.{Geometry}
use Rattle.vr_space.specs.Owners.{Owners}
use Rattle.vr_log.specs.LogNow.{LogNow}
use Rattle.vr_log.specs.declared.record.LogRecord.{LogRecord}
use Rattle.vr_history.specs.State.{BeforeImage, State}
use Rattle.vr_volume.specs.Committed.{committed_by, kept_by}
use Rattle.vr_volume.specs.PutBack.{images_of, oldest, put_back}
use Rattle.vr_volume.specs.Rests.{IsVolumeAtRest}
use Rattle.vr_volume.proofs.Alone.{is-own}

none-some : {X : Type 0} {x : X} → None ≡ Some x → ⊥
none-some same = cc

module _ {geometry : Geometry} {number : ℕ} {owners : Owners} {log : LogNow}
    {images : List BeforeImage} {old : State} {a : Seen}
    (rest : IsVolumeAtRest geometry number owners log images old a) (idle : log.records ≡ []) where
  -- there is no before-image,
  pub none-imaged : images_of log.records ≡ []
  none-imaged = ap images_of idle

  pub none-given : images ≡ []
  none-given = rest.kept ∙ none-imaged

  -- and none is kept,
  pub none-before : old.befores ≡ []
  none-before = by_list old.befores refl
    where
      by_list : (those : List BeforeImage) → old.befores ≡ those → old.befores ≡ []
      by_list [] is = is
      by_list (image ∷ more) is = absurd (none-some (
          sym (ap (λ (those : List BeforeImage). oldest those image.part image.place) none-imaged)
          ∙ rest.logged.kept image.part image.place image
          (ap (λ (those : List BeforeImage). oldest those image.part image.place) is
          ∙ ap (λ (b : Bool). cond b (Some image) (oldest more image.part image.place))
          (is-own image))))

  -- so what is committed by any log is what the state has.
  pub committed-idle : (records : List LogRecord) → committed_by old records ≡ old.contents
  committed-idle records = ap by none-before
    where
      by : List BeforeImage → ℕ → Content
      by befores part = put_back part (kept_by records befores) (old.contents part)
