-- Calls of which only the blocks are said into which they put.
use Rattle.std.proofs.Common.{◌≡◌, ℕ, [], refl, sym, ◌∙◌, arith}
use Rattle.std.proofs.lemmas.List.{ext_get_or}
use Rattle.vr_types.specs.Blocks.{AllForced}
use Rattle.vr_types.specs.Image.{Image, block_at}
use Rattle.vr_types.specs.Regions.{Touches}
use Rattle.vr_types.specs.Seen.{Left, Seen}
use Rattle.vr_types.proofs.CallerLemmas.{during-none}
use Rattle.vr_mount.specs.Touched.{Anything}

-- where a crash leaves what is read alone, each image is that
pub image-same : (count : ℕ) (now : Seen) (image : Image) → now.count ≡ count
    → AllForced count now.cur now.may → Left now now.cur → Left now image → image ≡ now.cur
image-same count now image same forced cur left =
    ext_get_or [] image now.cur (left.length_is ∙ sym cur.length_is)
    (λ i below. forced i (block_at image i) (omega (arith, below, left.length_is, same))
    (left.each i (omega (arith, below, left.length_is))))

-- no call yet. `within` is the law `images_may`
pub touches-none : (region : ℕ → Type 0) (a : Seen)
    → ((image : Image) → a.images a.moment image → Left a image) → Touches region Anything a a
touches-none region a within = record {
  count_same = refl;
  size_same = refl;
  content = λ n out. refl;
  adds_none = λ n block below out may. may;
  moments = during-none a _ (λ image left. (
    record { each = λ n below out. (within image left).each n below },
    tt,
  ));
  rest = λ image left. tt;
}
