-- What is left of a volume at rest where blocks that are of no part that is laid are put, or are
-- given to a part.
use Rattle.std.proofs.Common.{◌≡◌, ◌≢◌, ℕ, List, [], Some, None, refl, sym, ap, subst, ◌∙◌, arith}
use Rattle.vr_types.specs.Content.{Content}
use Rattle.vr_types.specs.Image.{Image, block_at}
use Rattle.vr_types.specs.Moments.{Guards}
use Rattle.vr_types.specs.Regions.{IsImageOn, Outside, Touches}
use Rattle.vr_types.specs.Seen.{Left, Seen}
use Rattle.vr_types.specs.declared.geometry.Geometry.{Geometry}
use Rattle.vr_types.proofs.CallerLemmas.{during-weaken, guards-weaken}
use Rattle.vr_space.specs.Known.{Known}
use Rattle.vr_space.specs.Owners.{Owners}
use Rattle.vr_space.specs.Part.{DueMore, InPart, Shape, part_no}
use Rattle.vr_space.proofs.CallerLemmas.{StaysPart, due-stays, rest-sound}
use Rattle.vr_attach.specs.Owning.{IsPastLog}
use Rattle.vr_history.specs.State.{BeforeImage, State}
use Rattle.vr_log.specs.Content.{Content as LogContent}
use Rattle.vr_log.specs.LogNow.{IsLogOf, LogNow}
use Rattle.vr_log.specs.Spells.{Spells}
use Rattle.vr_log.specs.Standing.{InLog}
use Rattle.vr_log.specs.declared.record.LogRecord.{LogRecord}
use Rattle.vr_volume.specs.Committed.{committed_by}
use Rattle.vr_volume.specs.Crashes.{RecoversTo}
use Rattle.vr_volume.specs.Defining.{IsGivenTo}
use Rattle.vr_volume.specs.Laid.{shape_by}
use Rattle.vr_volume.specs.PutBack.{images_of}
use Rattle.vr_volume.specs.Rests.{IsPartAtRest, IsVolumeAtRest}
use Rattle.vr_volume.specs.Safe.{IsSafe, IsSafeImage}
use Rattle.vr_volume.proofs.Apart.{laid-number}
use Rattle.vr_volume.proofs.Calls.{Anything, safe-less}
use Rattle.vr_volume.proofs.Committing.{shape-same}
use Rattle.vr_volume.proofs.Crashing.{rest-recovers}
use Rattle.vr_volume.proofs.Recovering.{each_image_is_safe, part-in}
use Rattle.vr_volume.proofs.Rested.{part-grows, part-stays, stands-still, volume-grows, volume-same}

-- ---- blocks that a part is given

-- The volume stays at rest by the owners with them,
pub given-volume : (geometry : Geometry) (number : ℕ) (owners grown : Owners) (log : LogNow)
    (images : List BeforeImage) (state : State) (now : Seen) (part : ℕ)
    → IsVolumeAtRest geometry number owners log images state now → IsGivenTo part owners grown
    → IsPastLog geometry grown → IsVolumeAtRest geometry number grown log images state now
given-volume geometry number owners grown log images state now part rest given past =
    volume-grows geometry number owners grown log images state now given.kept past rest

-- and each part of it.
pub given-part : (geometry : Geometry) (owners grown : Owners) (images : List BeforeImage)
    (state : State) (shape : Shape) (known : Known) (now : Seen) (part : ℕ)
    → IsPartAtRest geometry owners images state shape known now → IsGivenTo part owners grown
    → IsPartAtRest geometry grown images state shape known now
given-part geometry owners grown images state shape known now part rest given =
    part-grows geometry owners grown images state shape known now given.kept rest

-- ---- blocks of a part that isn't laid

-- these blocks
abbrev pub OwnedBy : Owners → ℕ → ℕ → Type 0
OwnedBy owners part n = owners n ≡ Some part

some-none : {X : Type 0} {x : X} → Some x ≡ None → ⊥
some-none same = cc

one-number : (one other : ℕ) → Some one ≡ Some other → one ≡ other
one-number one other same = cc

-- another part stays as it is
pub stays-beside : (owners : Owners) (part : ℕ) (shape : Shape) (a b : Seen)
    → (part_no shape).0 ≢ part → Touches (OwnedBy owners part) Anything a b
    → StaysPart shape owners a b
stays-beside owners part shape a b apart call = record {
  count = call.count_same;
  size = call.size_same;
  same = λ n inside. call.content n (outside n inside);
  fewer = λ n block below inside may. call.adds_none n block below (outside n inside) may;
}
  where
    outside : (n : ℕ) → InPart shape owners n → OwnedBy owners part n → ⊥
    outside n inside there = apart (one-number (part_no shape).0 part (sym inside ∙ there))

module _ (geometry : Geometry) (number : ℕ) (owners : Owners) (log : LogNow)
    (committed : List LogRecord → ℕ → Content) (part : ℕ) (a b : Seen)
    (safe : IsSafe geometry number owners log committed a)
    (none : (content : LogContent) → IsLogOf log content
    → shape_by geometry (committed content.records 0) part ≡ None)
    (call : Touches (OwnedBy owners part) Anything a b) where
  -- the header, the log and the parts that are laid are outside of them
  out-header : Outside (OwnedBy owners part) 0
  out-header inside = omega (arith, safe.past 0 part inside)

  out-log : (n : ℕ) → InLog geometry n → Outside (OwnedBy owners part) n
  out-log n inside there = omega (arith, inside.1, safe.past n part there)

  out-part : (content : LogContent) → IsLogOf log content → (other : ℕ) (shape : Shape)
      → shape_by geometry (committed content.records 0) other ≡ Some shape → (n : ℕ)
      → InPart shape owners n → Outside (OwnedBy owners part) n
  out-part content is other shape laid n inside there =
      let number-is : (part_no shape).0 ≡ other =
      laid-number geometry (committed content.records 0) other shape laid in
      let same : other ≡ part =
      sym number-is ∙ one-number (part_no shape).0 part (sym inside ∙ there) in
      some-none (sym laid ∙ ap (shape_by geometry (committed content.records 0)) same
      ∙ none content is)

  -- An image whose other blocks are as they were is a safe one.
  beside-image : (image : Image) → IsImageOn (Outside (OwnedBy owners part)) a.count a.may image
      → IsSafeImage geometry number owners log committed image
  beside-image image left =
      let has = safe.logs image (record {
        each = λ n below inside. left.each n below (out-log n inside);
      }) in (
        has.0,
        has.2,
        record {
          past = safe.past;
          header = safe.header (block_at image 0)
              (left.each 0 (omega (arith, safe.blocks.count, safe.allowed.two_areas)) out-header);
          log_is = subst (λ (g : Geometry). Spells g image has.0) safe.shape has.1;
          committed = (safe.by_log has.0 has.2).committed;
          parts = λ other shape laid. part-in shape owners other (images_of has.0.records)
              (committed has.0.records other) a ((safe.by_log has.0 has.2).parts other shape laid)
              image
              (record {
                each = λ n below inside. left.each n below
                    (out-part has.0 has.2 other shape laid n inside);
              });
        },
      )

  -- Whatever is put there the volume stays safe,
  pub beside-safe : IsSafe geometry number owners log committed b
  beside-safe = record {
    allowed = safe.allowed;
    past = safe.past;
    blocks = record {
      count = call.count_same ∙ safe.blocks.count;
      size = call.size_same ∙ safe.blocks.size;
    };
    shape = safe.shape;
    header = λ block may. safe.header block (call.adds_none 0 block
        (omega (arith, safe.blocks.count, safe.allowed.two_areas)) out-header may);
    logs = λ image left. safe.logs image (record {
      each = λ n below inside. call.adds_none n (block_at image n) below (out-log n inside)
          (left.each n (omega (arith, below, call.count_same)) inside);
    });
    by_log = λ content is. record {
      committed = (safe.by_log content is).committed;
      parts = λ other shape laid. safe-less a b call.count_same call.size_same shape owners other
          (images_of content.records) (committed content.records other)
          (λ n block below inside may. call.adds_none n block below
          (out-part content is other shape laid n inside) may)
          ((safe.by_log content is).parts other shape laid);
    };
  }

  -- and each image of each moment is a safe one.
  pub beside-guards : Guards a b (IsSafeImage geometry number owners log committed)
  beside-guards = record {
    during = during-weaken a b
        (λ image. IsImageOn (Outside (OwnedBy owners part)) a.count a.may image × Anything image)
        (IsSafeImage geometry number owners log committed) call.moments
        (λ image has. beside-image image has.0);
    rest = each_image_is_safe geometry number owners log committed b beside-safe;
  }

module _ (geometry : Geometry) (number : ℕ) (owners : Owners) (log : LogNow)
    (images : List BeforeImage) (state : State) (part : ℕ) (a b : Seen)
    (rest : IsVolumeAtRest geometry number owners log images state a)
    (none : shape_by geometry (state.contents 0) part ≡ None)
    (call : Touches (OwnedBy owners part) Anything a b) where
  none-by : (content : LogContent) → IsLogOf log content
      → shape_by geometry (committed_by state content.records 0) part ≡ None
  none-by content is = shape-same geometry state rest.laid content.records part ∙ none

  -- Each image of each moment recovers to what is committed in the state,
  pub beside-recovers : Guards a b (RecoversTo geometry number state [])
  beside-recovers = guards-weaken a b
      (IsSafeImage geometry number owners log (committed_by state))
      (RecoversTo geometry number state [])
      (beside-guards geometry number owners log (committed_by state) part a b rest.safe none-by
      call)
      (rest-recovers geometry number owners log images state a rest)

  -- and the volume stays at rest.
  pub beside-rests : IsVolumeAtRest geometry number owners log images state b
  beside-rests = volume-same geometry number owners log images state a rest b
      (beside-safe geometry number owners log (committed_by state) part a b rest.safe none-by call)
      (stands-still log rest.forced a b rest.stands call.count_same call.size_same
      (λ n block below inside may. call.adds_none n block below
      (λ there. omega (
        arith,
        (subst (λ (g : Geometry). InLog g n) rest.safe.shape inside).1,
        rest.safe.past n part there,
      )) may))

-- Each other part stays at rest,
pub beside-part : (geometry : Geometry) (owners : Owners) (images : List BeforeImage)
    (state : State) (shape : Shape) (known : Known) (part : ℕ) (a b : Seen) → Left a a.cur
    → IsPartAtRest geometry owners images state shape known a → (part_no shape).0 ≢ part
    → Touches (OwnedBy owners part) Anything a b
    → IsPartAtRest geometry owners images state shape known b
beside-part geometry owners images state shape known part a b left rest apart call =
    part-stays geometry owners images images state state shape known a b
    (stays-beside owners part shape a b apart call) left rest refl refl refl (λ place none. none)

-- and what has to be forced for its places stays.
pub beside-due : (geometry : Geometry) (owners : Owners) (images : List BeforeImage)
    (state : State) (shape : Shape) (known : Known) (part : ℕ) (a b : Seen) → Left a a.cur
    → IsPartAtRest geometry owners images state shape known a → (part_no shape).0 ≢ part
    → Touches (OwnedBy owners part) Anything a b → DueMore shape [] a b
beside-due geometry owners images state shape known part a b left rest apart call =
    due-stays shape owners a b (stays-beside owners part shape a b apart call)
    (rest-sound shape owners a rest.rests) left
