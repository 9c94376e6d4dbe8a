-- A clock of moments, on which calls say what they leave at every moment from their start to their
-- end. Each moment has its images: the contents that a crash at that moment may leave. The rules
-- are this project's own.
use Rattle.std.specs.Prelude.{◌<◌, ◌≤◌, ◌↔◌, ℕ}
use Rattle.vr_types.specs.Image.{Image}
use Rattle.vr_types.specs.Seen.{Seen, Left}

-- Calls made `new` of `old`, and each image at each moment from their start to their end has P.
pub record During (old new : Seen) (P : Image → Type 0) : Type 0 where
  -- the clock never goes back
  pub forward : old.moment ≤ new.moment
  -- a moment that has passed keeps its images, and gets no other
  pub passed : (t : ℕ) (image : Image) → t < old.moment → new.images t image ↔ old.images t image
  -- the moment at which the calls began loses none; it may get others while it lasts
  pub kept : (image : Image) → old.images old.moment image → new.images old.moment image
  pub each : (t : ℕ) (image : Image) → old.moment ≤ t → t ≤ new.moment → new.images t image
      → P image

-- Calls made `now` of `first`. Every image at every moment of theirs has P, and so has each that a
-- crash may leave from here on, while nothing is put.
pub record Guards (first now : Seen) (P : Image → Type 0) : Type 0 where
  pub during : During first now P
  pub rest : (image : Image) → Left now image → P image

-- every image at every moment from t to now has P
abbrev pub EachSince : Seen → ℕ → (Image → Type 0) → Type 0
EachSince now t P = (s : ℕ) (image : Image) → t ≤ s → s ≤ now.moment → now.images s image → P image
