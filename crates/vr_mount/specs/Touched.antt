-- Calls of which only the blocks are said into which they put. The rules are this project's own.
use Rattle.vr_types.specs.Image.{Image}

-- whatever an image is
abbrev pub Anything : Image → Type 0
Anything image = Unit {0}
