-- Where the last item ends stays, where the items of each interval do, and the intervals that come
-- after have none.
use Rattle.std.proofs.Common.{◌≡◌, ⊎_elim, ◌<◌, ◌≤◌, ◌+◌, ◌*◌, ◌++◌, ℕ, suc, Bool, true, false}
use Rattle.std.proofs.Common.{List, [], length, refl, Option, Some, None, sym, ap, ◌∙◌, arith}
use Rattle.std.proofs.lemmas.Bool.{cases_lt}
use Rattle.vr_types.specs.Image.{Image, block_at}
use Rattle.vr_ci.specs.Interval as ci
use Rattle.vr_space.specs.Entries.{Tail, bytes_in}
use Rattle.vr_space.specs.Keyed.{items_of}
use Rattle.vr_space.specs.Rosters.{Numbered, chain_of, used_of}
use Rattle.vr_space.specs.Numbered.{AreEmptyFrom, IsTailOf, KnowsTail, chain_block, items_at}
use Rattle.vr_chained.proofs.ChainBlocks.{block-append}

-- Each used interval has the items that it had, and there may be more of them, without items.
pub record KeepsItems (part : Numbered) (old new : Image) : Type 0 where
  pub used : used_of part old ≤ used_of part new
  pub same : (interval : ℕ) → interval < used_of part old
      → items_at part new interval ≡ items_at part old interval
  pub empty : (interval : ℕ) → used_of part old ≤ interval → interval < used_of part new
      → items_at part new interval ≡ []

empty-keeps : (part : Numbered) (old new : Image) → KeepsItems part old new → (from : ℕ)
    → AreEmptyFrom part old from → AreEmptyFrom part new from
empty-keeps part old new keeps from empty interval past below = ⊎_elim
    (λ before. keeps.same interval before ∙ empty interval past before)
    (λ more. keeps.empty interval more below) (cases_lt interval (used_of part old))

ends-keep : (part : Numbered) (old new : Image) → KeepsItems part old new → (tail : Option Tail)
    → IsTailOf part old tail → IsTailOf part new tail
ends-keep part old new keeps None is = empty-keeps part old new keeps 0 is
ends-keep part old new keeps (Some tail) is =
    let same = keeps.same tail.interval is.used in
    record {
      used = omega (arith, is.used, keeps.used);
      some = λ none. is.some (sym same ∙ none);
      bytes = is.bytes ∙ ap bytes_in (sym same);
      room = is.room ∙ ap ci.room (sym same);
      after = empty-keeps part old new keeps (suc tail.interval) is.after;
    }

-- a relative part knows of none
pub tail-keeps : (part : Numbered) (old new : Image)
    → (part.relative ≡ false → KeepsItems part old new) → (tail : Option Tail)
    → KnowsTail part.relative part old tail → KnowsTail part.relative part new tail
tail-keeps part old new keeps tail = by_kind part.relative keeps
  where
    by_kind : (relative : Bool) → (relative ≡ false → KeepsItems part old new)
        → KnowsTail relative part old tail → KnowsTail relative part new tail
    by_kind true items knows = knows
    by_kind false items knows = ends-keep part old new (items refl) tail knows

-- ---- as a chain stays, or grows

module _ (part : Numbered) (old new : Image)
    (same : (interval : ℕ) → interval < used_of part old
    → block_at new (chain_block part (chain_of part old) interval)
    ≡ block_at old (chain_block part (chain_of part old) interval)) where
  -- the same areas, and as many intervals of them
  pub items-stay : chain_of part new ≡ chain_of part old → used_of part new ≡ used_of part old
      → KeepsItems part old new
  items-stay areas used = record {
    used = omega (arith, used);
    same = λ interval below.
        ap (λ (chain : List ℕ). items_of (block_at new (chain_block part chain interval))) areas
        ∙ ap items_of (same interval below);
    empty = λ interval past below. absurd (omega (arith, past, below, used));
  }

  -- one interval more, which has no item
  pub items-more : (more : List ℕ) → 0 < part.geometry.area
      → chain_of part new ≡ chain_of part old ++ more → used_of part new ≡ used_of part old + 1
      → used_of part old ≤ length (chain_of part old) * part.geometry.area
      → items_of (block_at new (chain_block part (chain_of part old ++ more) (used_of part old)))
      ≡ [] → KeepsItems part old new
  items-more more some areas used most none = record {
    used = omega (arith, used);
    same = λ interval below.
        ap (λ (chain : List ℕ). items_of (block_at new (chain_block part chain interval))) areas
        ∙ ap (λ (n : ℕ). items_of (block_at new n))
        (block-append part more (chain_of part old) interval some (omega (arith, below, most)))
        ∙ ap items_of (same interval below);
    empty = λ interval past below.
        let next : interval ≡ used_of part old = omega (arith, past, below, used) in
        ap (λ (chain : List ℕ). items_of (block_at new (chain_block part chain interval))) areas
        ∙ ap (λ (at : ℕ). items_of (block_at new (chain_block part (chain_of part old ++ more) at)))
        next
        ∙ none;
  }
