-- What a new generation of the log leaves of a safe volume.
use Rattle.std.proofs.Common.{◌≡◌, ⊎_elim, inl, inr, ℕ, List, [], ◌∷◌, Option}
use Rattle.std.proofs.Common.{Some}
use Rattle.std.proofs.Common.{None, refl, sym, ap, subst, ◌∙◌, arith, length, take}
use Rattle.std.specs.Prelude.{All}
use Rattle.std.specs.List.{filter_map}
use Rattle.std.proofs.lemmas.List.{take_all}
use Rattle.vr_types.specs.Content.{Content}
use Rattle.vr_types.specs.Regions.{IsImageOn}
use Rattle.vr_types.specs.Seen.{Seen}
use Rattle.vr_types.specs.declared.geometry.Geometry.{Geometry}
use Rattle.vr_space.specs.Owners.{Owners}
use Rattle.vr_history.specs.State.{BeforeImage}
use Rattle.vr_log.specs.Content.{Content as LogContent}
use Rattle.vr_log.specs.Live.{live_in}
use Rattle.vr_log.specs.LogNow.{IsForced, IsLogOf, IsPrefixOf, LogNow, first_of, left_by, restarted}
use Rattle.vr_log.specs.Standing.{InLog, LogStands}
use Rattle.vr_log.specs.declared.record.LogRecord.{LogRecord}
use Rattle.vr_log.specs.declared.record.LogRecord.TheVariants.{Before, End}
use Rattle.vr_log.proofs.CallerLemmas.{stands_has}
use Rattle.vr_volume.specs.Laid.{shape_by}
use Rattle.vr_volume.specs.PutBack.{AreAlone, image_in, images_of}
use Rattle.vr_volume.specs.Safe.{IsSafe, IsSafeBy}
use Rattle.vr_volume.specs.Volume.{CanPutBack}

-- without a live unit there is no before-image
none-in : (records : List LogRecord) → filter_map (image_in []) records ≡ []
none-in [] = refl
none-in (Before unit part place old ∷ records) = none-in records
none-in (End unit kind ∷ records) = none-in records

pub no-images : (records : List LogRecord) → live_in records ≡ [] → images_of records ≡ []
no-images records none =
    subst (λ live. filter_map (image_in live) records ≡ []) (sym none) (none-in records)

module _ (geometry : Geometry) (number : ℕ) (owners : Owners) (log : LogNow)
    (committed : List LogRecord → ℕ → Content) (now : Seen)
    (safe : IsSafe geometry number owners log committed now) (forced : IsForced log)
    (none-live : live_in log.records ≡ []) (same : committed [] ≡ committed log.records) where
  abbrev last : LogContent
  last = first_of log (length log.records)

  last-is : IsLogOf log last
  last-is = inl (record {
    count = length log.records;
    forced = omega (arith, forced);
    all = omega arith;
    is = refl;
  })

  by-last : IsSafeBy geometry owners log.records (committed log.records) now
  by-last = subst
      (λ (records : List LogRecord). IsSafeBy geometry owners records (committed records) now)
      (take_all (length log.records) log.records (omega arith)) (safe.by_log last last-is)

  -- without records
  pub by-none : IsSafeBy geometry owners [] (committed []) now
  by-none = subst (λ (contents : ℕ → Content). IsSafeBy geometry owners [] contents now) (sym same)
      (by-images [] (sym (no-images log.records none-live)))
    where
      by-images : (records : List LogRecord) → images_of records ≡ images_of log.records
          → IsSafeBy geometry owners records (committed log.records) now
      by-images records images = record {
        committed = record {
          each = by-last.committed.each;
          catalog = by-last.committed.catalog;
          inside = by-last.committed.inside;
          others = by-last.committed.others;
          images = subst
              (λ (all : List BeforeImage). All (CanPutBack (shape_by geometry
              (committed log.records 0))) all) (sym images) by-last.committed.images;
          alone = subst AreAlone (sym images) by-last.committed.alone;
          olds = λ part place image is. by-last.committed.olds part place image
              (ap (λ (all : List BeforeImage). Rattle.vr_volume.specs.PutBack.oldest all part place)
              (sym images) ∙ is);
        };
        parts = λ part shape laid. subst (λ (all : List BeforeImage).
            Rattle.vr_volume.specs.Safe.IsPartSafe shape owners part all (committed log.records
            part) now) (sym images) (by-last.parts part shape laid);
      }

  -- which log an image may have
  older-by : (behind : Option LogContent) → log.behind ≡ behind → (content : LogContent)
      → left_by behind last ≡ Some content → IsSafeBy geometry owners content.records
      (committed content.records) now
  older-by None is content left = subst
      (λ (c : LogContent). IsSafeBy geometry owners c.records (committed c.records) now)
      (same-some last content left) (safe.by_log last last-is)
    where
      same-some : (one other : LogContent) → Some one ≡ Some other → one ≡ other
      same-some one other equal = cc
  older-by (Some older) is content left = safe.by_log content (inr (is ∙ left))

  pub safe-restarted : log.geometry ≡ geometry → LogStands (restarted log) now
      → IsSafe geometry number owners (restarted log) committed now
  safe-restarted shape stands = record {
    allowed = safe.allowed;
    past = safe.past;
    blocks = safe.blocks;
    shape = shape;
    header = safe.header;
    logs = λ image left. stands_has (restarted log) now image stands.allowed stands.fits stands
        (subst (λ (g : Geometry). IsImageOn (InLog g) now.count now.may image) (sym shape) left);
    by_log = λ content is. ⊎_elim
        (λ (prefix : IsPrefixOf (restarted log) content). subst
        (λ (records : List LogRecord). IsSafeBy geometry owners records (committed records) now)
        (sym (ap (λ (c : LogContent). c.records) prefix.is ∙ take-none prefix.count)) by-none)
        (λ behind. older-by log.behind refl content behind) is;
  }
    where
      take-none : (n : ℕ) → take {A = LogRecord} n [] ≡ []
      take-none n = take_all n [] (omega arith)
