-- A split under way, as calls leave the blocks that it names, and what a part met of its blocks.
use Rattle.std.proofs.Common.{◌≡◌, ◌≢◌, ◌⊎◌, inl, inr, ⊎_elim, ◌<◌, ◌≤◌, ◌+◌, ◌-◌, ◌/◌, ℕ, zero}
use Rattle.std.proofs.Common.{suc}
use Rattle.std.proofs.Common.{Bool, IsTrue, true, false, List, Option, Some, None}
use Rattle.std.proofs.Common.{refl, sym, ap, subst, ◌∙◌, arith, unwrap_or}
use Rattle.std.specs.Prelude.{cond, IfSome, slice_index, nat_eq, min}
use Rattle.std.specs.List.{list_any, flat_map}
use Rattle.vr_types.specs.Image.{Block, Image, block_at}
use Rattle.vr_types.specs.Seen.{Seen, Left}
use Rattle.vr_types.specs.Blocks.{Puts}
use Rattle.vr_types.specs.declared.unit.StageKind.{StageKind}
use Rattle.vr_types.specs.declared.unit.StageKind.TheVariants.{CiCopy, CiSwitch, CiClean}
use Rattle.vr_types.proofs.CallerLemmas.{cur-elsewhere}
use Rattle.vr_ci_match.specs.Fault.{is_busy}
use Rattle.vr_seqset.specs.Entry.{Entry}
use Rattle.vr_seqset.specs.Numbers.{intervals_used}
use Rattle.vr_space.specs.Room.{Range}
use Rattle.vr_space.specs.Keyed.{Keyed, IsHead, HoldsRange, IsKeyedSound, entries_of, entry_in}
use Rattle.vr_space.specs.Keyed.{InArea, low_of, records_in}
use Rattle.vr_space.specs.Split.{SplitNow, free_from, free_interval}
use Rattle.vr_space.specs.UnderWay.{IsBegun, IsCopied, IsSwitched, IsReadyFor, AreaUnderWay}
use Rattle.vr_space.specs.UnderWay.{interval_block, above_cut}
use Rattle.vr_space.specs.Met.{Met, IsMet}
use Rattle.vr_space.proofs.KeyedSound.{IsBlock, entry-in-above, head-in}

-- the blocks that a split under way has to do with
abbrev pub IsSplitBlock : Keyed → SplitNow → ℕ → Type 0
IsSplitBlock part split n = (n ≡ part.head)
    ⊎ ((n ≡ interval_block part split.old) ⊎ (n ≡ interval_block part split.into))

-- the block has what it had, and a crash leaves nothing more of it
pub record StaysAt (a b : Seen) (n : ℕ) : Type 0 where
  pub cur : block_at b.cur n ≡ block_at a.cur n
  pub less : (block : Block) → b.may n block → a.may n block

-- and so does each block of an area
abbrev pub AreaStays : Keyed → Seen → Seen → Type 0
AreaStays part a b = (n : ℕ) → IsBlock part a n → StaysAt a b n

-- ---- where the intervals are

-- the interval of an entry that is found is in the area
pub found-in : (part : Keyed) (top : Block) (place : List ℕ) (at : Range × Entry)
    → IsHead part top → entry_in top place ≡ Some at
    → slice_index at.1.intervals 0 < part.area
found-in part top place at head is =
    let within : IfSome (Some at) (λ f. slice_index f.1.intervals 0 < part.area) =
    subst (λ (o : Option (Range × Entry)). IfSome o (λ f. slice_index f.1.intervals 0 < part.area))
    is (entry-in-above part.area (low_of top) (entries_of top) place (head-in part top head)) in
    within

free-below : (k n m : ℕ) (used : List ℕ) → free_from k n used ≡ Some m → m < n + k
free-below zero n m used is = absurd cc
free-below (suc k) n m used is =
    by_test (list_any (nat_eq n) used) is (λ more. free-below k (suc n) m used more)
  where
    by_test : (b : Bool) → cond b (free_from k (suc n) used) (Some n) ≡ Some m
        → (free_from k (suc n) used ≡ Some m → m < suc n + k) → m < n + suc k
    by_test true same further = omega (arith, further same)
    by_test false same further =
        let here : n ≡ m = ap (λ (o : Option ℕ). unwrap_or o n) same in omega (arith, here)

min-left : (m n : ℕ) → min m n ≤ m
min-left m n = omega arith

-- a free interval is in the area
pub free-in : (part : Keyed) (top : Block) (n : ℕ) → free_interval part top ≡ Some n
    → n < part.area
free-in part top n is =
    let below : n < 0 + intervals_used part.area part.size part.key =
    free-below (intervals_used part.area part.size part.key) 0 n
    (flat_map (λ (entry : Entry). entry.intervals) (entries_of top)) is in
    let most : intervals_used part.area part.size part.key ≤ part.area =
    min-left part.area ((part.size - 32 - part.key) / (4 + part.key)) in
    omega (arith, below, most)

-- ---- what stays

abbrev pub begun-stays : (part : Keyed) (split : SplitNow) (a b : Image)
    → block_at b part.head ≡ block_at a part.head → IsBegun part split a → IsBegun part split b
begun-stays part split a b head is = record {
  at = is.at;
  length = is.length;
  found = ap (λ (top : Block). entry_in top split.cut) head ∙ is.found;
  old = is.old;
  below = is.below;
  free = ap (free_interval part) head ∙ is.free;
}

module _ (part : Keyed) (split : SplitNow) (a b : Seen) where
  -- each block that the split has to do with stays
  abbrev pub AllStay : Type 0
  AllStay = (n : ℕ) → IsBlock part a n → IsSplitBlock part split n → StaysAt a b n

  top-head : IsKeyedSound part a → Left a a.cur → IsHead part (block_at a.cur part.head)
  top-head sound left = sound.heads _ (left.each part.head (omega (arith, sound.area)))

  head-stays : IsKeyedSound part a → AllStay → StaysAt a b part.head
  head-stays sound stay =
      stay part.head (omega (arith, sound.area), (omega arith, omega arith)) (inl refl)

  old-stays : IsKeyedSound part a → AllStay → split.old < part.area
      → StaysAt a b (interval_block part split.old)
  old-stays sound stay below = stay (interval_block part split.old)
      (omega (arith, sound.area, below), (omega arith, omega (arith, below))) (inr (inl refl))

  into-stays : IsKeyedSound part a → AllStay → split.into < part.area
      → StaysAt a b (interval_block part split.into)
  into-stays sound stay below = stay (interval_block part split.into)
      (omega (arith, sound.area, below), (omega arith, omega (arith, below))) (inr (inr refl))

  old-below : IsKeyedSound part a → Left a a.cur → (at : Range × Entry)
      → entry_in (block_at a.cur part.head) split.cut ≡ Some at
      → slice_index at.1.intervals 0 ≡ split.old → split.old < part.area
  old-below sound left at found is = subst (λ (n : ℕ). n < part.area) is
      (found-in part (block_at a.cur part.head) split.cut at (top-head sound left) found)

  copied-stays : IsKeyedSound part a → Left a a.cur → AllStay → IsCopied part split a
      → IsCopied part split b
  copied-stays sound left stay is =
      let range : Range = above_cut is.begun.at.0 split.cut in
      let old = old-stays sound stay (old-below sound left is.begun.at is.begun.found is.begun.old)
      in
      let into = into-stays sound stay
      (free-in part (block_at a.cur part.head) split.into is.begun.free) in
      record {
        begun = begun-stays part split a.cur b.cur (head-stays sound stay).cur is.begun;
        old = λ block may. is.old block (old.less block may) ∙ sym old.cur;
        busy = ap is_busy old.cur ∙ is.busy;
        into = λ block may. is.into block (into.less block may) ∙ sym into.cur;
        holds = subst (HoldsRange part range) (sym into.cur) is.holds;
        records = ap (records_in part range) into.cur ∙ is.records
            ∙ sym (ap (records_in part range) old.cur);
      }

  switched-stays : IsKeyedSound part a → Left a a.cur → AllStay → IsSwitched part split a
      → IsSwitched part split b
  switched-stays sound left stay is =
      let old = old-stays sound stay (old-below sound left is.at is.found is.interval) in
      record {
        at = is.at;
        found = ap (λ (top : Block). entry_in top split.cut)
            (head-stays sound stay).cur ∙ is.found;
        interval = is.interval;
        high = is.high;
        old = λ block may. is.old block (old.less block may) ∙ sym old.cur;
      }

  ready-stays : (stage : StageKind) → IsKeyedSound part a → Left a a.cur → AllStay
      → IsReadyFor stage part split a → IsReadyFor stage part split b
  ready-stays CiCopy sound left stay is =
      begun-stays part split a.cur b.cur (head-stays sound stay).cur is
  ready-stays CiSwitch sound left stay is = copied-stays sound left stay is
  ready-stays CiClean sound left stay is = switched-stays sound left stay is
  ready-stays stage sound left stay is = absurd is

-- a split stays under way where each block that it has to do with stays
pub way-stays : (part : Keyed) (split : Option SplitNow) (a b : Seen) → IsKeyedSound part a
    → Left a a.cur
    → ((now : SplitNow) → split ≡ Some now → AllStay part now a b)
    → AreaUnderWay part split a → AreaUnderWay part split b
way-stays part None a b sound left stay is = tt
way-stays part (Some split) a b sound left stay is =
    ready-stays part split a b split.stage sound left (stay split refl) is

-- what was met is as it was where its block and the head stay
pub met-stays : (part : Keyed) (a b : Image) (met : Met) → IsHead part (block_at a part.head)
    → block_at b part.head ≡ block_at a part.head
    → (InArea part met.number → block_at b met.number ≡ block_at a met.number)
    → IsMet part a met → IsMet part b met
met-stays part a b met head top still is =
    let below : slice_index is.entry.intervals 0 < part.area =
    found-in part (block_at a part.head) met.place (met.range, is.entry) head is.leads in
    record {
      entry = is.entry;
      leads = ap (λ (block : Block). entry_in block met.place) top ∙ is.leads;
      number = is.number;
      still = still (omega (arith, is.number), omega (arith, is.number, below)) ∙ is.still;
    }

module _ (tells : Bool) (told : IsTrue tells) where
  -- a put into a block that it has nothing to do with leaves a split under way
  pub way-puts : (part : Keyed) (split : Option SplitNow) (n : ℕ) (bytes : Block) (a b : Seen)
      → Puts tells n bytes a b → IsKeyedSound part a → Left a a.cur
      → ((now : SplitNow) → split ≡ Some now → (m : ℕ) → InArea part m
      → IsSplitBlock part now m → m ≢ n)
      → AreaUnderWay part split a → AreaUnderWay part split b
  way-puts part split n bytes a b call sound left apart is =
      way-stays part split a b sound left
      (λ now some m block named.
      let other : m ≢ n = apart now some m block.1 named in
      record {
        cur = cur-elsewhere tells a b m n bytes told other call;
        less = λ content may. ⊎_elim (λ old. old) (λ new. absurd (other new.0))
            (call.adds told m content block.0 may);
      }) is
