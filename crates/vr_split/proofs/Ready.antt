-- What a split that is begun says of its two intervals, and of the blocks that its stages write.
use Rattle.std.proofs.Common.{◌≡◌, ◌≢◌, ⊎_elim, ◌<◌, ◌≤◌, ◌+◌, ◌-◌, ◌/◌, ℕ, zero, suc, Bool, true}
use Rattle.std.proofs.Common.{false}
use Rattle.std.proofs.Common.{List, [], ◌∷◌, Option, Some, refl, sym, ap, subst, ◌∙◌, arith}
use Rattle.std.proofs.Common.{true≢false, eqb, cond, is_some, length}
use Rattle.std.specs.Prelude.{min, unwrap_or}
use Rattle.std.specs.List.{list_any}
use Rattle.std.specs.declared.cmp.Ordering.TheVariants.{Less}
use Rattle.vr_types.specs.Content.{place_cmp, item_at}
use Rattle.vr_types.specs.Image.{Block, block_at}
use Rattle.vr_types.specs.Seen.{Seen, Left}
use Rattle.vr_seqset.specs.Entry.{Entry}
use Rattle.vr_seqset.specs.Numbers.{intervals_used}
use Rattle.vr_seqset.specs.Reading.{record_in}
use Rattle.vr_space.specs.Way.{found_on}
use Rattle.vr_space.specs.Room.{Lengths, Range, HaveRoom, is_above}
use Rattle.vr_space.specs.Keyed.{Keyed, IsHead, HoldsRange, IsKeyedAtRest, KeepsRoom, entries_of}
use Rattle.vr_space.specs.Keyed.{entry_block, entry_for, entry_in, lengths_of, low_of, records_of}
use Rattle.vr_space.specs.Keyed.{way_in}
use Rattle.vr_space.specs.AreaCalls.{item_here}
use Rattle.vr_space.specs.Search.{IsEntryFor, range_found}
use Rattle.vr_space.specs.declared.search.FoundEntry.{FoundEntry}
use Rattle.vr_space.specs.Split.{SplitNow, free_from}
use Rattle.vr_space.specs.UnderWay.{IsBegun, interval_block}
use Rattle.vr_space.proofs.CallerLemmas.{found-in, AscendFrom}
use Rattle.vr_split.specs.Switching.{IsIntervalBlock, IsFree}
use Rattle.vr_split.proofs.Leading.{led, slot, OtherThan, AreApart, used, each-found, in-leads}
use Rattle.vr_split.proofs.Leading.{of-without, head-apart, without-found, without-unused}
use Rattle.vr_split.specs.Halves.{CanHalve}

-- ---- the free interval

free-below : (k n : ℕ) (numbers : List ℕ) (free : ℕ) → free_from k n numbers ≡ Some free
    → (free < n + k) × (list_any (eqb free) numbers ≡ false)
free-below zero n numbers free is = absurd (true≢false (ap is_some (sym is)))
free-below (suc k) n numbers free is =
    by (list_any (eqb n) numbers) refl is (free-below k (suc n) numbers free)
  where
    by : (b : Bool) → list_any (eqb n) numbers ≡ b
        → cond b (free_from k (suc n) numbers) (Some n) ≡ Some free
        → (free_from k (suc n) numbers ≡ Some free
        → (free < suc n + k) × (list_any (eqb free) numbers ≡ false))
        → (free < n + suc k) × (list_any (eqb free) numbers ≡ false)
    by true taken same more = let further = more same in (omega (arith, further.0), further.1)
    by false unused same more =
        let here : n ≡ free = ap (λ (o : Option ℕ). unwrap_or o free) same in (
          omega (arith, here),
          subst (λ (m : ℕ). list_any (eqb m) numbers ≡ false) here unused,
        )

pub high-is : (low : Option (List ℕ)) (entries : List Entry) (place : List ℕ)
    (at : Range × Entry) → entry_for low entries place ≡ Some at → at.0.high ≡ at.1.high
high-is low [] place at is = absurd (true≢false (ap is_some (sym is)))
high-is low (entry ∷ entries) place at is = ⊎_elim
    (λ here. ap (λ (r : Range). r.high) here.its_range
    ∙ sym (ap (λ (e : Entry). e.high) here.is_it))
    (λ on. high-is (Some entry.high) entries place at on.further)
    (led low entry entries place at is)

-- ---- what a split that is begun says

module _ (part : Keyed) (split : SplitNow) (a : Seen) (rests : IsKeyedAtRest part a)
    (left : Left a a.cur) where
  abbrev pub top_now : Block
  top_now = block_at a.cur part.head

  pub may-top : a.may part.head top_now
  may-top = left.each part.head (omega (arith, rests.sound.area))

  pub head-now : IsHead part top_now
  head-now = rests.sound.heads top_now may-top

  pub once-now : AreApart (entries_of top_now)
  once-now = head-apart part top_now head-now

  -- the interval of the cut
  pub in-area : (at : Range × Entry) → entry_in top_now split.cut ≡ Some at
      → slot at.1 < part.area
  in-area at is = found-in part top_now split.cut at head-now is

  pub may-found : (at : Range × Entry) → entry_in top_now split.cut ≡ Some at
      → a.may (entry_block part at.1) (block_at a.cur (entry_block part at.1))
  may-found at is = left.each (entry_block part at.1)
      (omega (arith, rests.sound.area, in-area at is))

  -- holds its range
  pub holds-found : (at : Range × Entry)
      → entry_in top_now split.cut ≡ Some at
      → HoldsRange part at.0 (block_at a.cur (entry_block part at.1))
  holds-found at is = each-found part a (HoldsRange part) (low_of top_now) (entries_of top_now)
      split.cut at (rests.sound.intervals top_now may-top) (in-leads top_now split.cut at is)
      (block_at a.cur (entry_block part at.1)) (may-found at is)

  -- and has room for what is kept there
  pub room-found : (kept : Lengths) → KeepsRoom part kept a → (at : Range × Entry)
      → entry_in top_now split.cut ≡ Some at
      → HaveRoom part.size
      (lengths_of part kept at.0 (block_at a.cur (entry_block part at.1)))
  room-found kept room at is = each-found part a
      (λ range block. HaveRoom part.size (lengths_of part kept range block)) (low_of top_now)
      (entries_of top_now) split.cut at (room.each top_now may-top)
      (in-leads top_now split.cut at is)
      (block_at a.cur (entry_block part at.1)) (may-found at is)

  -- a place that leads there has the record that stands there
  pub item-found : (place : List ℕ) (at : Range × Entry)
      → entry_in top_now place ≡ Some at
      → item_here part a.cur place ≡ item_at
      (records_of part (block_at a.cur (entry_block part at.1))) place
  item-found place at is =
      ap (λ (found : Option (Range × Entry)). found_on a.cur (way_in part place found)) is

  module _ (begun : IsBegun part split a.cur) where
    pub is-old : entry_block part begun.at.1 ≡ interval_block part split.old
    is-old = ap (interval_block part) begun.old

    pub old-in : split.old < part.area
    old-in = omega (arith, in-area begun.at begun.found, begun.old)

    free-is : (split.into < 0 + intervals_used part.area part.size part.key)
        × (list_any (eqb split.into) (used (entries_of top_now)) ≡ false)
    free-is = free-below (intervals_used part.area part.size part.key) 0
        (used (entries_of top_now)) split.into begun.free

    pub into-in : split.into < part.area
    into-in = omega (
      arith,
      free-is.0,
      min-least part.area ((part.size - 32 - part.key) / (4 + part.key)),
    )
      where
        min-least : (m n : ℕ) → min m n ≤ m
        min-least m n = omega arith

    pub none-into : OtherThan split.into (entries_of top_now)
    none-into = without-unused split.into (entries_of top_now) head-now.single free-is.1

    pub two-blocks : interval_block part split.into ≢ interval_block part split.old
    two-blocks same = without-found split.into (low_of top_now) (entries_of top_now) split.cut
        begun.at none-into (in-leads top_now split.cut begun.at begun.found)
        (omega (arith, same, begun.old))

    pub old-block : IsIntervalBlock part (interval_block part split.old)
    old-block = record { low = omega arith; high = omega (arith, old-in) }

    pub into-block : IsIntervalBlock part (interval_block part split.into)
    into-block = record { low = omega arith; high = omega (arith, into-in) }

    pub into-free : IsFree part a.cur (interval_block part split.into)
    into-free = of-without part split.into (λ range. ⊥) (low_of top_now) (entries_of top_now)
        none-into

    pub old-holds : HoldsRange part begun.at.0 (block_at a.cur (interval_block part split.old))
    old-holds = subst (λ (n : ℕ). HoldsRange part begun.at.0 (block_at a.cur n)) is-old
        (holds-found begun.at begun.found)

    -- the entry may become two
    pub can-halve : CanHalve part.area (length top_now) split.old split.into split.cut
        (record_in top_now)
    can-halve = record {
      key = begun.length ∙ sym head-now.key;
      below = subst (λ (size : ℕ). split.into < intervals_used part.area size
          (length (record_in top_now).low)) (sym head-now.size)
          (subst (λ (key : ℕ). split.into < intervals_used part.area part.size key)
          (sym head-now.key) (omega (arith, free-is.0)));
      others = record { single = head-now.single; unused = free-is.1 };
      place = record {
        at = begun.at;
        leads = begun.found;
        is_old = begun.old;
        less = subst (λ (high : List ℕ). place_cmp split.cut high ≡ Less)
            (high-is (low_of top_now) (entries_of top_now) split.cut begun.at
            (in-leads top_now split.cut begun.at begun.found)) begun.below;
      };
    }

-- ---- the range that is found

-- a range begins before it ends
pub range-rises : (low : Option (List ℕ)) (entries : List Entry) (place : List ℕ)
    (at : Range × Entry) → AscendFrom low entries → entry_for low entries place ≡ Some at
    → is_above at.0.low at.0.high ≡ true
range-rises low [] place at ascend is = absurd (true≢false (ap is_some (sym is)))
range-rises low (entry ∷ entries) place at ascend is = ⊎_elim
    (λ here. subst (λ (r : Range). is_above r.low r.high ≡ true) (sym here.its_range) ascend.0)
    (λ on. range-rises (Some entry.high) entries place at ascend.1 on.further)
    (led low entry entries place at is)

-- the range that a search answers is the one that is found
pub found-is : (top : Block) (place : List ℕ) (at : Range × Entry) (found : FoundEntry)
    → entry_in top place ≡ Some at → IsEntryFor top place found
    → range_found found ≡ at.0
found-is top place at found leads is =
    ap (λ (o : Option (Range × Entry)). (unwrap_or o at).0) (sym is.reaches ∙ leads)
