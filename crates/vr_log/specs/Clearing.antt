-- Blocks that an earlier log left past the end of this one, and what clearing them makes of the
-- blocks of a log. The rules are this project's own.
use Rattle.std.specs.Prelude.{◌≡◌, ◌⊎◌, ℕ, ◌+◌, ◌<◌, Bool, true, replicate}
use Rattle.vr_types.specs.Blocks.{Keeps, Puts}
use Rattle.vr_types.specs.Fields.{AreZeros}
use Rattle.vr_types.specs.Image.{Block, Image, block_at}
use Rattle.vr_types.specs.Regions.{IsImageOn}
use Rattle.vr_types.specs.Seen.{Seen}
use Rattle.vr_types.specs.declared.geometry.Geometry.{Geometry}
use Rattle.vr_log.specs.LogBlock.{generation_in, is_next}
use Rattle.vr_log.specs.LogNow.{LogNow, no_log}
use Rattle.vr_log.specs.Spells.{Spells}
use Rattle.vr_log.specs.Standing.{InLog, open_index}

-- The block of this index is past the last one of a log and goes on with it, or has a later
-- generation than the log.
abbrev pub IsStale : ℕ → ℕ → ℕ → Block → Type 0
IsStale generation last index block =
    ((last < index) × (is_next generation index block ≡ true)) ⊎ (generation < generation_in block)

-- Each block of the log has what it had, or it was such a block and is zeros.
abbrev pub AreCleared : LogNow → Image → Image → Type 0
AreCleared log old new = (index : ℕ) → index < log.geometry.log
    → (block_at new (1 + index) ≡ block_at old (1 + index))
    ⊎ (IsStale log.generation (open_index log) index (block_at old (1 + index))
    × AreZeros (block_at new (1 + index)))

-- Nothing was put, or the block of this index was such a block, and zeros were put there.
abbrev pub ClearsOne : Bool → ℕ → ℕ → ℕ → Seen → Seen → Type 0
ClearsOne tells generation last index old new = Keeps tells old new
    ⊎ (IsStale generation last index (block_at old.cur (1 + index))
    × Puts tells (1 + index) (replicate old.size 0) old new)

-- The image has of the log what a crash might have left of it before, or its blocks spell none yet.
abbrev pub IsAsItWasOrNone : Geometry → Seen → Image → Type 0
IsAsItWasOrNone geometry old image = IsImageOn (InLog geometry) old.count old.may image
    ⊎ Spells geometry image no_log
