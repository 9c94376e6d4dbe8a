-- What a log that begins again leaves of a volume whose units of recovery have all ended.
use Rattle.std.proofs.Common.{◌≡◌, ◌∙◌, ◌<◌, ◌≤◌, ⊎_elim, inl, inr, ℕ, List, [], ap, arith}
use Rattle.std.proofs.Common.{length, refl, subst, sym}
use Rattle.std.proofs.lemmas.List.{take_all}
use Rattle.vr_types.specs.Content.{Content}
use Rattle.vr_types.specs.Image.{Block, Image, block_at}
use Rattle.vr_types.specs.Moments.{Guards}
use Rattle.vr_types.specs.Regions.{IsImageOn, Outside, Touches}
use Rattle.vr_types.specs.Seen.{Seen}
use Rattle.vr_types.specs.declared.geometry.Geometry.{Geometry}
use Rattle.vr_types.proofs.CallerLemmas.{during-weaken}
use Rattle.vr_space.specs.Owners.{Owners}
use Rattle.vr_space.specs.Part.{InPart, Shape, part_no}
use Rattle.vr_history.specs.State.{BeforeImage}
use Rattle.vr_log.specs.Content.{Content as LogContent}
use Rattle.vr_log.specs.Live.{live_in}
use Rattle.vr_log.specs.LogNow.{HasLogOrNone, IsForced, IsLogOf, IsPrefixOf, LogNow, first_of, made}
use Rattle.vr_log.specs.LogNow.{no_log}
use Rattle.vr_log.specs.Spells.{Spells}
use Rattle.vr_log.specs.Standing.{InLog, LogStands}
use Rattle.vr_log.specs.declared.record.LogRecord.{LogRecord}
use Rattle.vr_log.proofs.CallerLemmas.{stands_has}
use Rattle.vr_volume.specs.PutBack.{images_of, oldest}
use Rattle.vr_volume.specs.Safe.{IsImageSafe, IsSafe, IsSafeBy}
use Rattle.vr_volume.proofs.Calls.{safe-less}
use Rattle.vr_volume.proofs.Recovering.{image_recovers, part-in}
use Rattle.vr_volume.proofs.Restarting.{by-none, no-images}
use Rattle.vr_recover.specs.Recovered.{KeepsAll}
use Rattle.vr_recover.specs.Undone.{HasAll, HasFewer, IsUndone, alike}
use Rattle.vr_recover.proofs.BackingOut.{all-stays}

module _ (number : ℕ) (owners : Owners) (log : LogNow) (contents : ℕ → Content) (a : Seen)
    (undone : IsUndone number owners log contents a) (stands : LogStands log a)
    (forced : IsForced log) (dead : live_in log.records ≡ []) where
  abbrev geometry : Geometry
  geometry = log.geometry

  -- no log that an image may have has a live unit
  first-dead : (count : ℕ) → log.forced ≤ count → live_in (first_of log count).records ≡ []
  first-dead count whole =
      ap live_in (take_all count log.records (omega (arith, whole, forced))) ∙ dead

  each-dead : (content : LogContent) → IsLogOf log content → live_in content.records ≡ []
  each-dead content is = ⊎_elim
      (λ (prefix : IsPrefixOf log content).
      ap (λ (c : LogContent). live_in c.records) prefix.is
      ∙ first-dead prefix.count prefix.forced)
      (λ older. ⊎_elim
      (λ own. ap (λ (c : LogContent). live_in c.records) own
      ∙ first-dead log.forced (omega arith))
      (λ begun. begun.1)
      (stands.behind content older))
      is

  -- so none has a before-image
  pub each-fewer : (images : List BeforeImage) → HasFewer images log
  each-fewer images content is part place none =
      ap (λ (those : List BeforeImage). oldest those part place)
      (no-images content.records (each-dead content is))

  safe-none : IsSafeBy geometry owners [] contents a
  safe-none = by-none geometry number owners log (alike contents) a undone.safe forced dead refl

  -- the parts are outside the log
  part-out : (shape : Shape) (n : ℕ) → InPart shape owners n → Outside (InLog geometry) n
  part-out shape n inside there =
      omega (arith, there.1, undone.safe.past n (part_no shape).0 inside)

  -- an image with the blocks past the log, and such a log
  image-safe : (content : LogContent) → IsSafeBy geometry owners content.records contents a
      → (image : Image) → IsImageOn (Outside (InLog geometry)) a.count a.may image
      → Spells geometry image content
      → IsImageSafe geometry number owners content contents image
  image-safe content safe image on spelled = record {
    past = undone.safe.past;
    header = undone.safe.header (block_at image 0)
        (on.each 0 (omega (arith, undone.safe.blocks.count, undone.safe.allowed.two_areas))
        (λ inside. omega (arith, inside.0)));
    log_is = spelled;
    committed = safe.committed;
    parts = λ part shape laid. part-in shape owners part (images_of content.records)
        (contents part) a (safe.parts part shape laid) image
        (record { each = λ n below inside. on.each n below (part-out shape n inside) });
  }

  image-keeps : (images : List BeforeImage) (image : Image)
      → IsImageOn (Outside (InLog geometry)) a.count a.may image → HasLogOrNone log image
      → KeepsAll geometry number images contents image
  image-keeps images image on (inl (content, spelled, is)) = record {
    log = content;
    items = image_recovers geometry number owners image content contents
        (image-safe content (undone.safe.by_log content is) image on spelled);
    fewer = each-fewer images content is;
  }
  image-keeps images image on (inr spelled) = record {
    log = no_log;
    items = image_recovers geometry number owners image no_log contents
        (image-safe no_log safe-none image on spelled);
    fewer = λ part place none. refl;
  }

  module _ (b : Seen) (call : Touches (InLog geometry) (HasLogOrNone log) a b) where
    pub renewed-guards : (images : List BeforeImage)
        → Guards a b (KeepsAll geometry number images contents)
    renewed-guards images = record {
      during = during-weaken a b _ _ call.moments
          (λ image has. image-keeps images image has.0 has.1);
      rest = λ image left. image-keeps images image
          (record {
            each = λ n below out. call.adds_none n (block_at image n) below out
                (left.each n (omega (arith, below, call.count_same)));
          })
          (call.rest image (record { each = λ n below inside. left.each n below }));
    }

    -- the log that was begun anew has no record
    none-records : (content : LogContent) → IsLogOf (made geometry no_log) content
        → content.records ≡ []
    none-records content is = ⊎_elim
        (λ (prefix : IsPrefixOf (made geometry no_log) content).
        ap (λ (c : LogContent). c.records) prefix.is
        ∙ take_all {A = LogRecord} prefix.count [] (omega arith))
        (λ older. ap (λ (c : LogContent). c.records)
        (let same : content ≡ no_log = cc in same))
        is

    none-after : IsSafeBy geometry owners [] contents b
    none-after = record {
      committed = safe-none.committed;
      parts = λ part shape laid. safe-less a b call.count_same call.size_same shape owners part
          (images_of []) (contents part)
          (λ n block below inside may. call.adds_none n block below (part-out shape n inside) may)
          (safe-none.parts part shape laid);
    }

    module _ (now : LogStands (made geometry no_log) b) where
      renewed-safe : IsSafe geometry number owners (made geometry no_log) (alike contents) b
      renewed-safe = record {
        allowed = undone.safe.allowed;
        past = undone.safe.past;
        blocks = record {
          count = call.count_same ∙ undone.safe.blocks.count;
          size = call.size_same ∙ undone.safe.blocks.size;
        };
        shape = refl;
        header = λ block may. undone.safe.header block (call.adds_none 0 block
            (omega (arith, undone.safe.blocks.count, undone.safe.allowed.two_areas))
            (λ inside. omega (arith, inside.0)) may);
        logs = λ image on. stands_has (made geometry no_log) b image now.allowed now.fits now on;
        by_log = λ content is. subst
            (λ (records : List LogRecord). IsSafeBy geometry owners records contents b)
            (sym (none-records content is)) none-after;
      }

      pub renewed-undone : IsUndone number owners (made geometry no_log) contents b
      renewed-undone = record {
        safe = renewed-safe;
        ascends = undone.ascends;
        all = all-stays number owners log contents a undone stands.forced b
            (λ n block below out may. call.adds_none n block below out may);
      }

-- a log that was forced
pub forced-undone : (number : ℕ) (owners : Owners) (log mid : LogNow) (contents : ℕ → Content)
    (a b : Seen) → IsUndone number owners log contents a → log.forced ≤ length log.records
    → mid.geometry ≡ log.geometry
    → IsSafe log.geometry number owners mid (alike contents) b
    → ((n : ℕ) (block : Block) → n < a.count → b.may n block → a.may n block)
    → IsUndone number owners mid contents b
forced-undone number owners log mid contents a b undone most same safe fewer = record {
  safe = subst (λ (geometry : Geometry). IsSafe geometry number owners mid (alike contents) b)
      (sym same) safe;
  ascends = undone.ascends;
  all = subst (λ (geometry : Geometry). HasAll geometry contents b) (sym same)
      (all-stays number owners log contents a undone most b
      (λ n block below out may. fewer n block below may));
}
