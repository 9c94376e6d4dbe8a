-- The before-images of a log with one record more.
use Rattle.std.proofs.Common.{◌≡◌, ◌⊎◌, ⊎_elim, ℕ, Bool, true, false, cond, List, [], ◌∷◌, ◌++◌}
use Rattle.std.proofs.Common.{Option}
use Rattle.std.proofs.Common.{Some, None, refl, sym, ap, ◌∙◌}
use Rattle.std.specs.List.{filter_map, list_any}
use Rattle.std.specs.Option.{option_map}
use Rattle.std.proofs.lemmas.Bool.{true≢false}
use Rattle.std.proofs.lemmas.List.Elements.{filter_map-append}
use Rattle.vr_types.specs.Content.{Standing}
use Rattle.vr_types.specs.Locks.{same_unit}
use Rattle.vr_types.specs.declared.unit.PartNo.{PartNo}
use Rattle.vr_types.specs.declared.unit.Unit.{Unit as UnitOfRecovery}
use Rattle.vr_history.specs.State.{BeforeImage}
use Rattle.vr_log.specs.Live.{is_in, live_after, live_from, live_in}
use Rattle.vr_log.specs.declared.record.LogRecord.{LogRecord}
use Rattle.vr_log.specs.declared.record.LogRecord.TheVariants.{Before, End}
use Rattle.vr_volume.specs.Logged.{HasNoneOf}
use Rattle.vr_volume.specs.PutBack.{image_in, images_of}
-- one image more: the oldest of a place, and the lengths that are kept
pub use Rattle.vr_undo.proofs.CallerLemmas.{kept-append, kept_more, oldest-append}

-- the image that a before record is
abbrev pub image_of : UnitOfRecovery → PartNo → List ℕ → Option (List ℕ) → BeforeImage
image_of unit part place old = record {
  unit = unit;
  part = part.0;
  place = place;
  old = option_map Standing old;
}

pub live-append : (live : List UnitOfRecovery) (records : List LogRecord) (rec : LogRecord)
    → live_from live (records ++ rec ∷ []) ≡ live_after (live_from live records) rec
live-append live [] rec = refl
live-append live (first ∷ records) rec = live-append (live_after live first) records rec

in-append : (unit other : UnitOfRecovery) (live : List UnitOfRecovery)
    → same_unit unit other ≡ false → is_in unit (live ++ other ∷ []) ≡ is_in unit live
in-append unit other [] apart = ap (λ (b : Bool). Rattle.std.specs.Prelude.◌||◌ b false) apart
in-append unit other (first ∷ live) apart =
    ap (λ (b : Bool). Rattle.std.specs.Prelude.◌||◌ (same_unit unit first) b)
    (in-append unit other live apart)

pub in-last : (unit : UnitOfRecovery) (live : List UnitOfRecovery) → same_unit unit unit ≡ true
    → is_in unit (live ++ unit ∷ []) ≡ true
in-last unit [] same = ap (λ (b : Bool). Rattle.std.specs.Prelude.◌||◌ b false) same
in-last unit (first ∷ live) same = by_first (same_unit unit first) (in-last unit live same)
  where
    by_first : (b : Bool) → is_in unit (live ++ unit ∷ []) ≡ true
        → Rattle.std.specs.Prelude.◌||◌ b (is_in unit (live ++ unit ∷ [])) ≡ true
    by_first true further = refl
    by_first false further = further

-- images of other units stay
images-still : (live : List UnitOfRecovery) (unit : UnitOfRecovery) (records : List LogRecord)
    → HasNoneOf unit records
    → filter_map (image_in (live ++ unit ∷ [])) records ≡ filter_map (image_in live) records
images-still live unit [] none = refl
images-still live unit (Before other part place old ∷ records) none =
    by_in (in-append other unit live none.0) (images-still live unit records none.1)
  where
    by_in : is_in other (live ++ unit ∷ []) ≡ is_in other live
        → filter_map (image_in (live ++ unit ∷ [])) records ≡ filter_map (image_in live) records
        → filter_map (image_in (live ++ unit ∷ [])) (Before other part place old ∷ records)
        ≡ filter_map (image_in live) (Before other part place old ∷ records)
    by_in same further =
        ap (λ (b : Bool). Rattle.std.specs.List.cons_option
        (cond b (Some (image_of other part place old)) None)
        (filter_map (image_in (live ++ unit ∷ [])) records)) same
        ∙ ap (Rattle.std.specs.List.cons_option (image_in live (Before other part place old)))
        further
images-still live unit (End other kind ∷ records) none = images-still live unit records none

-- the images of a log with a before record more are one more
pub images-append : (records : List LogRecord) (unit : UnitOfRecovery) (part : PartNo)
    (place : List ℕ) (old : Option (List ℕ)) → same_unit unit unit ≡ true
    → (is_in unit (live_in records) ≡ true) ⊎ HasNoneOf unit records
    → images_of (records ++ Before unit part place old ∷ [])
    ≡ images_of records ++ image_of unit part place old ∷ []
unfolding live_after
images-append records unit part place old same live =
    by_live (is_in unit (live_in records)) refl live
  where
    with_live : (now : List UnitOfRecovery)
        → live_in (records ++ Before unit part place old ∷ []) ≡ now → is_in unit now ≡ true
        → filter_map (image_in now) records ≡ images_of records
        → images_of (records ++ Before unit part place old ∷ [])
        ≡ images_of records ++ image_of unit part place old ∷ []
    with_live now is there others =
        ap (λ (units : List UnitOfRecovery). filter_map (image_in units)
        (records ++ Before unit part place old ∷ [])) is
        ∙ filter_map-append (image_in now) records (Before unit part place old ∷ [])
        ∙ ap (λ (b : Bool). filter_map (image_in now) records
        ++ Rattle.std.specs.List.cons_option (cond b (Some (image_of unit part place old)) None) [])
        there
        ∙ ap (λ (images : List BeforeImage). images ++ image_of unit part place old ∷ []) others

    by_live : (b : Bool) → is_in unit (live_in records) ≡ b
        → (is_in unit (live_in records) ≡ true) ⊎ HasNoneOf unit records
        → images_of (records ++ Before unit part place old ∷ [])
        ≡ images_of records ++ image_of unit part place old ∷ []
    by_live true is live = with_live (live_in records)
        (live-append [] records (Before unit part place old)
        ∙ ap (λ (b : Bool). cond b (live_in records) (live_in records ++ unit ∷ [])) is) is refl
    by_live false is live = with_live (live_in records ++ unit ∷ [])
        (live-append [] records (Before unit part place old)
        ∙ ap (λ (b : Bool). cond b (live_in records) (live_in records ++ unit ∷ [])) is)
        (in-last unit (live_in records) same)
        (images-still (live_in records) unit records
        (⊎_elim (λ there. absurd (true≢false (sym there ∙ is))) (λ none. none) live))
