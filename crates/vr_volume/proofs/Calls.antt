-- What calls leave of a safe volume: those that put nothing, and those of a part.
use Rattle.std.proofs.Common.{◌≡◌, ◌≢◌, ◌⊎◌, inl, inr, ⊎_elim, ◌<◌, ℕ, Bool, IsTrue, List}
use Rattle.std.proofs.Common.{Option, Some, None, sym, subst, ◌∙◌, arith}
use Rattle.std.proofs.lemmas.Bool.{cases_lt}
use Rattle.vr_types.specs.Blocks.{Keeps}
use Rattle.vr_types.specs.Content.{Content, Item}
use Rattle.vr_types.specs.Image.{Block, Image, block_at}
use Rattle.vr_types.specs.Moments.{Guards}
use Rattle.vr_types.specs.Regions.{IsImageOn, Outside, Touches}
use Rattle.vr_types.specs.Seen.{Left, Seen}
use Rattle.vr_types.specs.declared.geometry.Geometry.{Geometry}
use Rattle.vr_types.proofs.CallerLemmas.{during-weaken, touches-then}
use Rattle.vr_space.specs.Owners.{Owners}
use Rattle.vr_space.specs.Part.{AddsTo, HasKeptRoom, HasOnly, HasRoom, InPart}
use Rattle.vr_space.specs.Part.{IsAtRest, IsQuiet, Just, MayAlsoHold, Nothing, Shape, part_no}
use Rattle.vr_attach.specs.Owning.{IsPastLog}
use Rattle.vr_space.specs.Room.{Lengths}
use Rattle.vr_space.proofs.CallerLemmas.{IsPartBlock, StaysPart, holds-less, only-weaken}
use Rattle.vr_space.proofs.CallerLemmas.{one-owner, rest-of-quiet, rest-stays, room-less}
use Rattle.vr_space.proofs.CallerLemmas.{sound-grows, sound-less}
use Rattle.vr_history.specs.State.{BeforeImage}
use Rattle.vr_log.specs.Content.{Content as LogContent}
use Rattle.vr_log.specs.LogNow.{HasLog, IsLogOf, LogNow}
use Rattle.vr_log.specs.Spells.{Spells}
use Rattle.vr_log.specs.Standing.{InLog}
use Rattle.vr_log.specs.declared.record.LogRecord.{LogRecord}
use Rattle.vr_volume.specs.Laid.{shape_by}
use Rattle.vr_volume.specs.Laying.{InLogOr, IsFreeIn, IsLaidSo}
use Rattle.vr_volume.specs.PutBack.{images_of, lengths_kept, oldest}
use Rattle.vr_volume.specs.Safe.{IsItemOf, IsPartIn, IsPartSafe, IsSafe}
use Rattle.vr_volume.specs.Safe.{IsSafeImage}
use Rattle.vr_volume.proofs.Apart.{part-apart}
use Rattle.vr_volume.proofs.Recovering.{each_image_is_safe, part-in}

-- ---- where less may be left of a part

module _ (a b : Seen) (count : b.count ≡ a.count) (size : b.size ≡ a.size) where
  abbrev pub Fewer : Shape → Owners → Type 0
  Fewer shape owners = (n : ℕ) (block : Block) → n < a.count → InPart shape owners n → b.may n block
      → a.may n block

  pub safe-less : (shape : Shape) (owners : Owners) (part : ℕ)
      (images : List BeforeImage) (content : Content)
      → Fewer shape owners → IsPartSafe shape owners part images content a
      → IsPartSafe shape owners part images content b
  safe-less shape owners part images content fewer safe =
      let less : (n : ℕ) (block : Block) → IsPartBlock shape owners a n → b.may n block
      → a.may n block = λ n block is. fewer n block is.0 is.1 in
      record {
        sound = sound-less a b shape owners count size less safe.sound;
        items = λ place found held. safe.items place found
            (holds-less shape owners a b.may safe.sound less place found held);
        room = room-less shape owners (lengths_kept images part) a b less safe.sound safe.room;
      }

-- ---- calls that put nothing

module _ (tells : Bool) (told : IsTrue tells) (geometry : Geometry) (number : ℕ)
    (owners : Owners) (log : LogNow) (committed : List LogRecord → ℕ → Content) where
  pub safe-keeps : (a b : Seen) → Keeps tells a b → IsSafe geometry number owners log committed a
      → IsSafe geometry number owners log committed b
  safe-keeps a b call safe = record {
    allowed = safe.allowed;
    past = safe.past;
    blocks = record {
      count = call.count_same ∙ safe.blocks.count;
      size = call.size_same ∙ safe.blocks.size;
    };
    shape = safe.shape;
    header = λ block may. safe.header block
        (call.adds_none told 0 block
        (omega (arith, safe.blocks.count, safe.allowed.two_areas)) may);
    logs = λ image left. safe.logs image (record {
      each = λ n below inside. call.adds_none told n _ below
          (left.each n (omega (arith, below, call.count_same)) inside);
    });
    by_log = λ content is. record {
      committed = (safe.by_log content is).committed;
      parts = λ part shape laid. safe-less a b call.count_same call.size_same shape owners part
          (images_of content.records) (committed content.records part)
          (λ n block below inside may. call.adds_none told n block below may)
          ((safe.by_log content is).parts part shape laid);
    };
  }

  -- and each image of each moment is a safe one
  pub guards-keeps : (a b : Seen) → Keeps tells a b → IsSafe geometry number owners log committed a
      → Guards a b (IsSafeImage geometry number owners log committed)
  guards-keeps a b call safe = record {
    during = during-weaken a b (Left a) _ (call.moments told)
        (each_image_is_safe geometry number owners log committed a safe);
    rest = each_image_is_safe geometry number owners log committed b (safe-keeps a b call safe);
  }

-- ---- calls of a part

-- What a call adds to what places of the part may hold is the committed item, or at a place that
-- each log has free.
abbrev pub AddsSafe : Geometry → LogNow → (List LogRecord → ℕ → Content) → ℕ → Shape
    → (List ℕ → Option Item → Type 0) → Type 0
AddsSafe geometry log committed part shape A = (content : LogContent) → IsLogOf log content
    → (place : List ℕ) (found : Option Item) → A place found
    → IsItemOf part (images_of content.records) (committed content.records part) place found

-- two numbers are the same, or not
pub equal-or : (one other : ℕ) → (one ≡ other) ⊎ (one ≢ other)
equal-or one other = ⊎_elim
    (λ less. inr (λ same. omega (arith, less, same)))
    (λ most. ⊎_elim (λ less. inr (λ same. omega (arith, less, same)))
    (λ least. inl (omega (arith, most, least))) (cases_lt other one))
    (cases_lt one other)

-- a part is laid in one way
pub some-same : (one other : Shape) → Some one ≡ Some other → one ≡ other
some-same one other same = cc

module _ (geometry : Geometry) (number : ℕ) (owners : Owners) (log : LogNow)
    (committed : List LogRecord → ℕ → Content) (part : ℕ) (shape : Shape) (kept : Lengths)
    (A : List ℕ → Option Item → Type 0) (a b : Seen)
    (safe : IsSafe geometry number owners log committed a)
    (laid : IsLaidSo geometry log committed part shape kept)
    (added : AddsSafe geometry log committed part shape A) (adds : AddsTo shape owners A a b)
    (rooms : Touches (InPart shape owners) (HasRoom shape kept) a b) where
  -- the header and the log are outside the part
  out-header : Outside (InPart shape owners) 0
  out-header inside = omega (arith, safe.past 0 (part_no shape).0 inside)

  out-log : (n : ℕ) → InLog geometry n → Outside (InPart shape owners) n
  out-log n inside there = omega (arith, inside.1, safe.past n (part_no shape).0 there)

  -- what a call leaves of the part in an image
  part-image : (content : LogContent) (is : IsLogOf log content) (image : Image)
      → HasOnly shape owners (MayAlsoHold shape a.may A) image → HasRoom shape kept image
      → IsPartIn shape owners part (images_of content.records) (committed content.records part)
      image
  part-image content is image has room = record {
    has = only-weaken shape owners (MayAlsoHold shape a.may A) _ (λ place found. ⊎_elim
        (((safe.by_log content is).parts part shape (laid content is).laid).items place found)
        (added content is place found))
        image has;
    room = subst (λ (lengths : Lengths). HasRoom shape lengths image) (laid content is).kept_is
        room;
  }

  -- the other parts are as they were
  other-image : (content : LogContent) (is : IsLogOf log content) (image : Image)
      → IsImageOn (Outside (InPart shape owners)) a.count a.may image → (other : ℕ) (there : Shape)
      → shape_by geometry (committed content.records 0) other ≡ Some there → other ≢ part
      → IsPartIn there owners other (images_of content.records) (committed content.records other)
      image
  other-image content is image left other there at apart =
      part-in there owners other (images_of content.records) (committed content.records other) a
      ((safe.by_log content is).parts other there at) image
      (record {
        each = λ n below inside. left.each n below
            (part-apart geometry owners (committed content.records 0) other part there shape at
            (laid content is).laid apart n inside);
      })

  each-image : (content : LogContent) (is : IsLogOf log content) (image : Image)
      → IsImageOn (Outside (InPart shape owners)) a.count a.may image
      → HasOnly shape owners (MayAlsoHold shape a.may A) image → HasRoom shape kept image
      → (other : ℕ) (there : Shape)
      → shape_by geometry (committed content.records 0) other ≡ Some there
      → IsPartIn there owners other (images_of content.records) (committed content.records other)
      image
  each-image content is image left has room other there at = ⊎_elim
      (λ same.
      let here : shape_by geometry (committed content.records 0) part ≡ Some there =
      subst (λ (p : ℕ). shape_by geometry (committed content.records 0) p ≡ Some there) same at in
      subst (λ (p : ℕ). IsPartIn there owners p (images_of content.records)
      (committed content.records p) image) (sym same)
      (subst (λ (s : Shape). IsPartIn s owners part (images_of content.records)
      (committed content.records part) image)
      (some-same shape there (sym (laid content is).laid ∙ here))
      (part-image content is image has room)))
      (λ apart. other-image content is image left other there at apart)
      (equal-or other part)

  -- an image whose other blocks are as they were is a safe one
  image-safe : (image : Image) → IsImageOn (Outside (InPart shape owners)) a.count a.may image
      → HasOnly shape owners (MayAlsoHold shape a.may A) image → HasRoom shape kept image
      → (content : LogContent) → Spells log.geometry image content → IsLogOf log content
      → IsSafeImage geometry number owners log committed image
  image-safe image left has room content spells is = (
    content,
    is,
    record {
      past = safe.past;
      header = safe.header (block_at image 0)
          (left.each 0 (omega (arith, safe.blocks.count, safe.allowed.two_areas)) out-header);
      log_is = subst (λ (g : Geometry). Spells g image content) safe.shape spells;
      committed = (safe.by_log content is).committed;
      parts = each-image content is image left has room;
    },
  )

  -- ---- what the call leaves

  module _ (left : Left a a.cur) (room : HasKeptRoom shape kept b) where
    moment-safe : (image : Image)
        → IsImageOn (Outside (InPart shape owners)) a.count a.may image
        × HasOnly shape owners (MayAlsoHold shape a.may A) image
        → HasRoom shape kept image → IsSafeImage geometry number owners log committed image
    moment-safe image has rooms-has =
        let log-has : HasLog log image = safe.logs image (record {
          each = λ n below inside. has.0.each n below (out-log n inside);
        }) in
        image-safe image has.0 has.1 rooms-has log-has.0 log-has.1 log-has.2

    -- Once it has ended the volume is safe.
    pub part-after : IsSafe geometry number owners log committed b
    part-after = record {
      allowed = safe.allowed;
      past = safe.past;
      blocks = record {
        count = adds.touches.count_same ∙ safe.blocks.count;
        size = adds.touches.size_same ∙ safe.blocks.size;
      };
      shape = safe.shape;
      header = λ block may. safe.header block (adds.touches.adds_none 0 block
          (omega (arith, safe.blocks.count, safe.allowed.two_areas))
          out-header may);
      logs = λ image image-left. safe.logs image (record {
        each = λ n below inside. adds.touches.adds_none n _ below (out-log n inside)
            (image-left.each n (omega (arith, below, adds.touches.count_same)) inside);
      });
      by_log = λ content is. record {
        committed = (safe.by_log content is).committed;
        parts = λ other there at. ⊎_elim
            (λ same. here-after content is other there at same)
            (λ apart. safe-less a b adds.touches.count_same adds.touches.size_same there owners
            other (images_of content.records) (committed content.records other)
            (λ n block below inside may. adds.touches.adds_none n block below
            (part-apart geometry owners (committed content.records 0) other part there shape at
            (laid content is).laid apart n inside) may)
            ((safe.by_log content is).parts other there at))
            (equal-or other part);
      };
    }
      where
        mine-after : (content : LogContent) → IsLogOf log content
            → IsPartSafe shape owners part (images_of content.records) (committed content.records
            part) b
        mine-after content is = record {
          sound = adds.sound;
          items = λ place found held. ⊎_elim
              (((safe.by_log content is).parts part shape (laid content is).laid).items place found)
              (added content is place found) (adds.rest place found held);
          room = subst (λ (lengths : Lengths). HasKeptRoom shape lengths b)
              (laid content is).kept_is room;
        }

        here-after : (content : LogContent) → IsLogOf log content → (other : ℕ) (there : Shape)
            → shape_by geometry (committed content.records 0) other ≡ Some there → other ≡ part
            → IsPartSafe there owners other (images_of content.records)
            (committed content.records other) b
        here-after content is other there at same =
            let here : shape_by geometry (committed content.records 0) part ≡ Some there =
            subst (λ (p : ℕ). shape_by geometry (committed content.records 0) p ≡ Some there)
            same at in
            subst (λ (p : ℕ). IsPartSafe there owners p (images_of content.records)
            (committed content.records p) b) (sym same)
            (subst (λ (s : Shape). IsPartSafe s owners part (images_of content.records)
            (committed content.records part) b)
            (some-same shape there (sym (laid content is).laid ∙ here)) (mine-after content is))

    -- At each moment of it each image is a safe one, and so is each that is left.
    pub part-guards : Guards a b (IsSafeImage geometry number owners log committed)
    part-guards = record {
      during = record {
        forward = adds.touches.moments.forward;
        passed = adds.touches.moments.passed;
        kept = adds.touches.moments.kept;
        each = λ t image from to there. moment-safe image
            (adds.touches.moments.each t image from to there)
            (rooms.moments.each t image from to there).1;
      };
      rest = each_image_is_safe geometry number owners log committed b part-after;
    }

-- ---- what may be added

-- a call that adds nothing
pub nothing-safe : (geometry : Geometry) (log : LogNow)
    (committed : List LogRecord → ℕ → Content) (part : ℕ) (shape : Shape)
    → AddsSafe geometry log committed part shape Nothing
nothing-safe geometry log committed part shape content is place found none = absurd none

-- one that adds an item at a free place
pub free-safe : (geometry : Geometry) (log : LogNow)
    (committed : List LogRecord → ℕ → Content) (part : ℕ) (shape : Shape) (at : List ℕ)
    (new : Option Item) → IsFreeIn log part at
    → AddsSafe geometry log committed part shape (Just at new)
free-safe geometry log committed part shape at new free content is place found here none =
    absurd (free content is (subst (λ (p : List ℕ). oldest (images_of content.records) part p
    ≡ None)
    here.0 none))

-- ---- calls that touch a region

abbrev pub Anything : Image → Type 0
Anything image = Unit {0}

-- a call that touches a region touches a wider one
pub touches-wider : (region wider : ℕ → Type 0) (Q : Image → Type 0) (a b : Seen)
    → ((n : ℕ) → region n → wider n) → Touches region Q a b → Touches wider Anything a b
touches-wider region wider Q a b within call = record {
  count_same = call.count_same;
  size_same = call.size_same;
  content = λ n out. call.content n (λ inside. out (within n inside));
  adds_none = λ n block below out may. call.adds_none n block below
      (λ inside. out (within n inside)) may;
  moments = during-weaken a b
      (λ image. IsImageOn (Outside region) a.count a.may image × Q image)
      (λ image. IsImageOn (Outside wider) a.count a.may image × Anything image) call.moments
      (λ image has. (
        record { each = λ n below out. has.0.each n below (λ inside. out (within n inside)) },
        tt,
      ));
  rest = λ image left. tt;
}

-- ---- a part while the log is put

-- a part past the log stays as it is
pub stays-part : (geometry : Geometry) (shape : Shape) (owners : Owners) (Q : Image → Type 0)
    (a b : Seen) → IsPastLog geometry owners → Touches (InLog geometry) Q a b
    → StaysPart shape owners a b
stays-part geometry shape owners Q a b past call = record {
  count = call.count_same;
  size = call.size_same;
  same = λ n inside. call.content n
      (λ there. omega (arith, there.1, past n (part_no shape).0 inside));
  fewer = λ n block below inside may. call.adds_none n block below
      (λ there. omega (arith, there.1, past n (part_no shape).0 inside)) may;
}

-- a call of the log, and then one of a part
pub log-or-part : (geometry : Geometry) (shape : Shape) (owners : Owners) (P Q : Image → Type 0)
    (a b d : Seen) → IsPastLog geometry owners → IsAtRest shape owners a
    → Touches (InLog geometry) P a b
    → (IsAtRest shape owners b → Touches (InPart shape owners) Q b d)
    → Touches (InLogOr geometry shape owners) Anything a d
log-or-part geometry shape owners P Q a b d past rests first second =
    touches-then (InLogOr geometry shape owners) Anything a b d
    (touches-wider (InLog geometry) (InLogOr geometry shape owners) P a b (λ n inside. inl inside)
    first)
    (touches-wider (InPart shape owners) (InLogOr geometry shape owners) Q b d
    (λ n inside. inr inside)
    (second (rest-stays a b shape owners (stays-part geometry shape owners P a b past first)
    rests)))

-- another part stays as it is in both
pub stays-both : (geometry : Geometry) (shape other : Shape) (owners : Owners) (a b : Seen)
    → IsPastLog geometry owners → (part_no other).0 ≢ (part_no shape).0
    → Touches (InLogOr geometry shape owners) Anything a b → StaysPart other owners a b
stays-both geometry shape other owners a b past apart call = record {
  count = call.count_same;
  size = call.size_same;
  same = λ n inside. call.content n (outside n inside);
  fewer = λ n block below inside may. call.adds_none n block below (outside n inside) may;
}
  where
    outside : (n : ℕ) → InPart other owners n → InLogOr geometry shape owners n → ⊥
    outside n inside = ⊎_elim
        (λ there. omega (arith, there.1, past n (part_no other).0 inside))
        (λ there. apart (one-owner other shape owners n inside there))

-- ---- owners

-- a part of a safe volume
pub quiet-safe : (geometry : Geometry) (number : ℕ) (owners : Owners) (log : LogNow)
    (committed : List LogRecord → ℕ → Content) (part : ℕ) (shape : Shape) (kept : Lengths)
    (now : Seen) → IsSafe geometry number owners log committed now → Left now now.cur
    → IsLaidSo geometry log committed part shape kept → IsQuiet shape now
    → IsAtRest shape owners now
quiet-safe geometry number owners log committed part shape kept now safe left laid quiet =
    let some : HasLog log now.cur = safe.logs now.cur (record {
      each = λ n below inside. left.each n below;
    }) in
    rest-of-quiet shape owners now quiet
    ((safe.by_log some.0 some.2).parts part shape (laid some.0 some.2).laid).sound

-- other owners who leave each part the blocks that it has
abbrev pub Leaves : Owners → Owners → Type 0
Leaves owners grown = (n part : ℕ) → owners n ≡ Some part → grown n ≡ Some part

-- the volume is safe by them, too
pub safe-grows : (geometry : Geometry) (number : ℕ) (owners grown : Owners) (log : LogNow)
    (committed : List LogRecord → ℕ → Content) (now : Seen) → Leaves owners grown
    → IsPastLog geometry grown → IsSafe geometry number owners log committed now
    → IsSafe geometry number grown log committed now
safe-grows geometry number owners grown log committed now leaves past safe = record {
  allowed = safe.allowed;
  past = past;
  blocks = safe.blocks;
  shape = safe.shape;
  header = safe.header;
  logs = safe.logs;
  by_log = λ content is. record {
    committed = (safe.by_log content is).committed;
    parts = λ part shape laid.
        let mine : IsPartSafe shape owners part (images_of content.records)
        (committed content.records part) now = (safe.by_log content is).parts part shape laid in
        record {
          sound = sound-grows owners grown now leaves shape mine.sound;
          items = mine.items;
          room = mine.room;
        };
  };
}
