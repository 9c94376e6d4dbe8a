-- The intervals that the chain of an image has, by their numbers: their blocks, and that these are
-- apart.
use Rattle.std.proofs.Common.{◌≡◌, ◌<◌, ◌≤◌, ℕ, [], ◌∷◌, length, Option, Some, None, refl, sym, ap}
use Rattle.std.proofs.Common.{◌∙◌}
use Rattle.vr_types.specs.Content.Item.{Standing}
use Rattle.vr_types.specs.Geometry.{area_count}
use Rattle.vr_types.specs.Image.{Block, Image, block_at}
use Rattle.vr_space.specs.Known.{Known}
use Rattle.vr_space.specs.Numbered.{HasChain, chain_block}
use Rattle.vr_space.specs.Rosters.{IsChained, IsNumbered, IsOf, Numbered, chain_of, used_of}
use Rattle.vr_space.specs.Way.{Found, Way, found_on}
use Rattle.vr_space.proofs.CallerLemmas.{chain-ends, chain-reaches}
use Rattle.vr_chained.proofs.Reached.{ComesFrom, block_from, comes-from, one-interval, way-reads}
use Rattle.vr_chained.proofs.Reached.{way_at}

module _ (part : Numbered) (Own : ℕ → Type 0) (Interval : Block → Type 0) (image : Image)
    (chain : IsChained part Own Interval (IsOf image)) where
  abbrev count : ℕ
  count = area_count part.geometry

  -- the chain of the image itself
  abbrev pub own-chain : Known
  own-chain = record {
    split = None;
    move = None;
    met = [];
    most = 0;
    areas = chain_of part image;
    ends = [];
    used = used_of part image;
    tail = None;
  }

  pub knows-own : HasChain part own-chain image
  knows-own = record { areas = refl; used = refl }

  -- the way that ends with the number of the block
  abbrev named : ℕ → Way
  named n = Found (Some (Standing (n ∷ [])))

  is-named : (block : Option ℕ) (n : ℕ)
      → found_on image (way_at named block) ≡ found_on image (named n) → block ≡ Some n
  is-named None n is = absurd cc
  is-named (Some m) n is = cc

  none-named : (block : Option ℕ) → found_on image (way_at named block) ≡ None → block ≡ None
  none-named None is = refl
  none-named (Some m) is = absurd cc

  -- past those that are used there is none
  pub interval-past : (n : ℕ) → used_of part image ≤ n
      → block_from part image (area_count part.geometry) n part.first ≡ None
  interval-past n past = none-named (block_from part image count n part.first)
      (sym (way-reads part image named count n part.first)
      ∙ chain-ends part Own Interval image own-chain named n chain knows-own past)

  -- the block of one that is used
  pub interval-there : IsNumbered part → (n : ℕ) → n < used_of part image
      → block_from part image (area_count part.geometry) n part.first
      ≡ Some (chain_block part (chain_of part image) n)
  interval-there numbered n below =
      is-named (block_from part image count n part.first)
      (chain_block part (chain_of part image) n)
      (sym (way-reads part image named count n part.first)
      ∙ (chain-reaches part Own Interval image own-chain named n numbered chain knows-own
      below).item)

  pub interval-from : IsNumbered part → (n : ℕ) → n < used_of part image
      → ComesFrom part Own Interval image (length (chain_of part image))
      (chain_block part (chain_of part image) n)
  interval-from numbered n below = comes-from part Own Interval image count n part.first
      (chain_block part (chain_of part image) n) chain (interval-there numbered n below)

  -- has what the intervals of the chain have,
  pub interval-has : IsNumbered part → (n : ℕ) → n < used_of part image
      → Interval (block_at image (chain_block part (chain_of part image) n))
  interval-has numbered n below = (interval-from numbered n below).has

  -- and no other one has that block.
  pub intervals-apart : IsNumbered part → (i j : ℕ) → i < used_of part image
      → j < used_of part image
      → chain_block part (chain_of part image) i ≡ chain_block part (chain_of part image) j → i ≡ j
  intervals-apart numbered i j first second same =
      one-interval part Own Interval image count i j part.first
      (chain_block part (chain_of part image) j) chain
      (interval-there numbered i first ∙ ap (λ (n : ℕ). Some n) same)
      (interval-there numbered j second)
