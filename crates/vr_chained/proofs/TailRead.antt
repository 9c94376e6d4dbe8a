-- Where the last item of an entry-sequenced part ends, as it is read from its intervals.
use Rattle.std.proofs.Common.{◌≡◌, ◌≢◌, ⊎_elim, ◌<◌, ◌≤◌, ◌-◌, ℕ, suc, Bool}
use Rattle.std.proofs.Common.{false, List, [], ◌∷◌, length, Option, Some, None, refl, sym, ap}
use Rattle.std.proofs.Common.{subst}
use Rattle.std.proofs.Common.{◌∙◌, arith}
use Rattle.std.specs.Prelude.{IfSome}
use Rattle.std.specs.Option.{option_map}
use Rattle.std.proofs.lemmas.Bool.{cases_lt}
use Rattle.vr_types.specs.Image.{Block, Image, block_at}
use Rattle.vr_ci.specs.Interval as ci
use Rattle.vr_entries.proofs.CallerLemmas.{entries-items, room-taken}
use Rattle.vr_space.specs.Entries.{IsEntries, bytes_in}
use Rattle.vr_space.specs.Entries.{Tail as TailOf}
use Rattle.vr_space.specs.Keyed.{items_of}
use Rattle.vr_space.specs.Numbered.{AreEmptyFrom, IsFilled, IsFilledBy, IsTail, IsTailOf, KnowsTail}
use Rattle.vr_space.specs.Numbered.{chain_block, items_at}
use Rattle.vr_space.specs.Part.{NumberedShape, Stands}
use Rattle.vr_space.specs.Rosters.{Numbered, chain_of, used_of}
use Rattle.vr_chained.specs.Chain.{ChainNow, IsChainOf}
use Rattle.vr_chained.specs.Tail.{HasTaken, tail_of}
use Rattle.vr_chained.specs.declared.tail.Tail.{Tail}
use Rattle.vr_chained.proofs.Intervals.{interval-has}

-- ---- one interval

module _ (chain : ChainNow) (image : Image) (of : IsChainOf chain image) (interval n : ℕ)
    (block : Block) (is : n ≡ chain_block chain.part chain.areas interval)
    (content : block ≡ block_at image n) where
  -- the block that is read is that of the interval
  read-is : block ≡ block_at image (chain_block chain.part (chain_of chain.part image) interval)
  read-is =
      content
      ∙ ap (block_at image) (is
      ∙ ap (λ (areas : List ℕ). chain_block chain.part areas interval) of.areas)

  -- its items are the interval's
  pub read-items : items_of block ≡ items_at chain.part image interval
  read-items = ap items_of read-is

  -- and it is one of records
  pub read-entries : chain.part.relative ≡ false → Stands (NumberedShape chain.part) image
      → interval < chain.used → IsEntries chain.part block
  read-entries entries stands below =
      subst (λ (relative : Bool). IsFilledBy relative chain.part block) entries
      (subst (IsFilled chain.part) (sym read-is)
      (interval-has chain.part _ (IsFilled chain.part) image stands.1.chain stands.1.part_is
      interval (omega (arith, below, of.used))))

-- items that take so much take no more than an interval has
pub taken-within : (part : Numbered) (block : Block) (bytes room : ℕ) → IsEntries part block
    → bytes ≡ bytes_in (items_of block) → room ≡ ci.room (items_of block)
    → (bytes ≤ room) × (room ≤ part.geometry.size - 4)
taken-within part block bytes room entries here all =
    let are = entries-items part block (items_of block) refl entries in
    (omega (arith, here, all, room-taken (items_of block)), omega (arith, all, are.room))

module _ (items : List ci.Item) (count : ℕ) (found : Option Tail) (tail : Tail)
    (many : count ≡ length items) (some : 0 < count → found ≡ Some tail) where
  -- where there is no tail, there are no items
  pub found-none : found ≡ None → items ≡ []
  found-none none = by_items items refl
    where
      by_items : (all : List ci.Item) → items ≡ all → all ≡ []
      by_items [] is = refl
      by_items (item ∷ more) is =
          let there : Some tail ≡ None =
          sym (some (omega (arith, many, ap (λ (all : List ci.Item). length all) is))) ∙ none in
          absurd cc

  -- and what is true of what they take, where there are some, is true of it
  pub found-some : (count ≡ 0 → found ≡ None) → (P : TailOf → Type 0)
      → (items ≢ [] → P (tail_of tail)) → IfSome (option_map tail_of found) P
  found-some empty P has = ⊎_elim
      (λ there. subst (λ (one : Option Tail). IfSome (option_map tail_of one) P) (sym (some there))
      (has (λ none. omega (
        arith,
        there,
        many,
        ap (λ (all : List ci.Item). length all) none,
      ))))
      (λ past. subst (λ (one : Option Tail). IfSome (option_map tail_of one) P)
      (sym (empty (omega (arith, past)))) tt)
      (cases_lt 0 count)

-- ---- over all of them, from the last one back

-- one more has none
pub empty-more : (part : Numbered) (image : Image) (from before : ℕ) → from ≤ suc before
    → AreEmptyFrom part image from → items_at part image before ≡ []
    → AreEmptyFrom part image before
empty-more part image from before next empty none interval least below = ⊎_elim
    (λ less. empty interval (omega (arith, next, less)) below)
    (λ most.
    let same : before ≡ interval = omega (arith, least, most) in
    subst (λ (n : ℕ). items_at part image n ≡ []) same none)
    (cases_lt before interval)

-- the last one that has some is where the last item ends
pub tail-found : (part : Numbered) (image : Image) (tail : TailOf)
    → tail.interval < used_of part image → AreEmptyFrom part image (suc tail.interval)
    → HasTaken (items_at part image tail.interval) tail → IsTail part image tail
tail-found part image tail below after taken = record {
  used = below;
  some = taken.some;
  bytes = taken.bytes;
  room = taken.room;
  after = after;
}

-- what is known of an entry-sequenced part
pub knows-entries : (part : Numbered) (image : Image) (tail : Option TailOf)
    → part.relative ≡ false → IsTailOf part image tail → KnowsTail part.relative part image tail
knows-entries part image tail entries is =
    subst (λ (relative : Bool). KnowsTail relative part image tail) (sym entries) is
