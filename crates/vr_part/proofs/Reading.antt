-- What is found in an image is what may be found where nothing but the image is allowed.
use Rattle.std.proofs.Common.{refl}
use Rattle.vr_types.specs.Image.{Image, block_at}
use Rattle.vr_space.specs.Rosters.{IsOf}
use Rattle.vr_space.specs.Way.{Found, MayFind, Reads, Way, found_on}

pub found-on : (image : Image) (way : Way) → MayFind (IsOf image) (found_on image way) way
found-on image (Found item) = refl
found-on image (Reads n next) =
    (block_at image n, refl, found-on image (next (block_at image n)))
