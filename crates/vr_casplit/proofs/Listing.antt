-- The list of the head of an area and its first intervals: what is in it, and what a force of it
-- makes stable after a put into the head.
use Rattle.std.proofs.Common.{◌≡◌, ◌<◌, ◌≤◌, ◌+◌, ℕ, zero, suc, Bool, IsTrue, List, length}
use Rattle.std.proofs.Common.{get_or, set, sym, ap, subst, ◌∙◌, arith, add-one}
use Rattle.std.specs.Prelude.{All, Contains}
use Rattle.std.proofs.lemmas.List.{get_or_default}
use Rattle.vr_types.specs.Blocks.{Forced, Puts}
use Rattle.vr_types.specs.Image.{Block, block_at}
use Rattle.vr_types.specs.Seen.{Left, Only, Seen}
use Rattle.vr_types.proofs.CallerLemmas.{cur-elsewhere, cur-put, only-forced}
use Rattle.vr_space.specs.Keyed.{Keyed}
use Rattle.vr_space.specs.UnderWay.{interval_block}

-- the list has the head of the area, and then its first intervals, this many
pub record ListsArea (part : Keyed) (count : ℕ) (listed : List ℕ) : Type 0 where
  pub length : length listed ≡ count + 1
  pub head : get_or listed 0 0 ≡ part.head
  pub intervals : (j : ℕ) → j < count → get_or listed (j + 1) 0 ≡ interval_block part j

-- of an area that is this one, by its parts
pub lists-of : (one part : Keyed) (count : ℕ) (items listed : List ℕ) → one ≡ part
    → listed ≡ items → length items ≡ count + 1 → get_or items 0 0 ≡ one.head
    → ((j : ℕ) → j < count → get_or items (j + 1) 0 ≡ interval_block one j)
    → ListsArea part count listed
lists-of one part count items listed is same long head intervals =
    subst (ListsArea part count) (sym same)
    (subst (λ (area : Keyed). ListsArea area count items) is
    (record { length = long; head = head; intervals = intervals }))

module _ (part : Keyed) (count : ℕ) (listed : List ℕ) (lists : ListsArea part count listed) where
  pub lists-head : Contains listed part.head
  lists-head = (
    0,
    omega (arith, lists.length),
    get_or_default listed 0 part.head 0 (omega (arith, lists.length)) ∙ lists.head,
  )

  pub lists-interval : (j : ℕ) → j < count → Contains listed (interval_block part j)
  lists-interval j below = (
    j + 1,
    omega (arith, lists.length, below),
    get_or_default listed (j + 1) (interval_block part j) 0 (omega (arith, lists.length, below))
        ∙ lists.intervals j below,
  )

  -- they are all there where the area is
  pub lists-there : (limit : ℕ) → count ≤ part.area → part.head + part.area < limit
      → All (λ n. n < limit) listed
  lists-there limit most there zero d below =
      subst (λ (n : ℕ). n < limit)
      (sym (get_or_default listed 0 d 0 below ∙ lists.head)) (omega (arith, there))
  lists-there limit most there (suc j) d below =
      subst (λ (n : ℕ). n < limit)
      (sym (get_or_default listed (suc j) d 0 below
      ∙ ap (λ (at : ℕ). get_or listed at 0) (sym (add-one j))
      ∙ lists.intervals j (omega (arith, below, lists.length))))
      (omega (arith, there, most, below, lists.length))

  -- The head was put, and then they were forced: a crash leaves the head that was put alone,
  pub forced-head : (bytes : Block) (old mid new : Seen) → part.head < old.count
      → Left old old.cur → mid.cur ≡ set old.cur part.head bytes → Forced listed mid.cur new.may
      → Only new part.head (λ block. block ≡ bytes)
  forced-head bytes old mid new below left put forced =
      only-forced mid new part.head listed bytes lists-head forced
      (cur-put old part.head bytes below left.length_is mid.cur put)

  -- and the intervals as they were.
  pub forced-interval : (tells : Bool) → IsTrue tells → (bytes : Block) (old mid new : Seen)
      → Puts tells part.head bytes old mid → Forced listed mid.cur new.may
      → (j : ℕ) → j < count
      → Only new (interval_block part j)
      (λ block. block ≡ block_at old.cur (interval_block part j))
  forced-interval tells told bytes old mid new call forced j below =
      only-forced mid new (interval_block part j) listed
      (block_at old.cur (interval_block part j)) (lists-interval j below) forced
      (cur-elsewhere tells old mid (interval_block part j) part.head bytes told
      (λ same. omega (arith, same)) call)
