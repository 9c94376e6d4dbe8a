-- Puts into some blocks, where nothing is said of the images.
use Rattle.std.proofs.Common.{◌≡◌, ◌∙◌, ℕ, Bool, IsTrue, List, ap, sym}
use Rattle.std.specs.Prelude.{Contains}
use Rattle.vr_types.specs.Blocks.{Forced, Keeps, Puts}
use Rattle.vr_types.specs.Image.{Block, Image, block_at}
use Rattle.vr_types.specs.Regions.{Touches}
use Rattle.vr_types.specs.Seen.{Left, Seen}
use Rattle.vr_types.proofs.CallerLemmas.{during-weaken, keeps-none, keeps-touches, puts-touches}
use Rattle.vr_types.proofs.CallerLemmas.{touches-then}
use Rattle.vr_space.specs.UnderWay.{IsStable}
use Rattle.vr_part.specs.First.{Anything}

-- no call yet: `within` is the law `images_may`
pub touches-none : (tells : Bool) (region : ℕ → Type 0) (a : Seen) → IsTrue tells
    → ((image : Image) → a.images a.moment image → Left a image) → Touches region Anything a a
touches-none tells region a told within = keeps-touches tells region Anything a a told
    (keeps-none tells a (λ is. within)) (λ image left. tt)

-- a put
pub touches-put : (tells : Bool) (region : ℕ → Type 0) (n : ℕ) (bytes : Block) (a b : Seen)
    → IsTrue tells → region n → Puts tells n bytes a b → Touches region Anything a b
touches-put tells region n bytes a b told inside call =
    puts-touches tells region Anything n bytes a b told inside call (λ image left. tt)

-- puts, and then a force
pub touches-forced : (tells : Bool) (region : ℕ → Type 0) (a b c : Seen) → IsTrue tells
    → Touches region Anything a b → Keeps tells b c → Touches region Anything a c
touches-forced tells region a b c told first second = touches-then region Anything a b c first
    (keeps-touches tells region Anything b c told second (λ image left. tt))

-- a crash leaves the current content alone of a block that was forced
pub forced-stable : (a b : Seen) (n : ℕ) (listed : List ℕ) → Contains listed n → b.cur ≡ a.cur
    → Forced listed a.cur b.may → IsStable b n
forced-stable a b n listed there same forced block may =
    forced n block there may ∙ ap (λ (image : Image). block_at image n) (sym same)

-- what touches some blocks touches more
pub touches-more : (less more : ℕ → Type 0) (old new : Seen) → ((n : ℕ) → less n → more n)
    → Touches less Anything old new → Touches more Anything old new
touches-more less more old new inside call = record {
  count_same = call.count_same;
  size_same = call.size_same;
  content = λ n out. call.content n (λ here. out (inside n here));
  adds_none = λ n block below out may. call.adds_none n block below (λ here. out (inside n here))
      may;
  moments = during-weaken old new _ _ call.moments (λ image has. (
    record { each = λ n below out. has.0.each n below (λ here. out (inside n here)) },
    tt,
  ));
  rest = λ image left. tt;
}
