-- Going over the items of an interval, one displacement after another.
use Rattle.std.proofs.Common.{◌≡◌, ◌<◌, ◌≤◌, ◌+◌, ◌-◌, ◌*◌, ℕ, Bool, true, false, List, []}
use Rattle.std.proofs.Common.{◌∷◌, length, None, refl, ap, ◌∙◌, arith}
use Rattle.std.specs.Prelude.{cond}
use Rattle.std.specs.List.{AllByRecursion}
use Rattle.std.proofs.lemmas.Bool.Decides.{nat_tests}
use Rattle.vr_types.specs.Content.Item.{Standing, Withdrawn}
use Rattle.vr_ci.specs.Interval as ci
use Rattle.vr_space.specs.Entries.{bytes_in, entry_item, entry_of, item_length}

-- what stands there is as long as the item
pub entry-length : (item : ci.Item) → item_length (entry_of item) ≡ length item.bytes
entry-length item = by_live item.live
  where
    by_live : (live : Bool)
        → item_length (cond live (Standing item.bytes) (Withdrawn (length item.bytes)))
        ≡ length item.bytes
    by_live true = refl
    by_live false = refl

-- the record that an item is, if it is live
pub live-record : (item : ci.Item) → item.live ≡ true → entry_of item ≡ Standing item.bytes
live-record item is = ap (λ (live : Bool). cond live (Standing item.bytes)
    (Withdrawn (length item.bytes))) is

pub dead-record : (item : ci.Item) → item.live ≡ false
    → entry_of item ≡ Withdrawn (length item.bytes)
dead-record item is = ap (λ (live : Bool). cond live (Standing item.bytes)
    (Withdrawn (length item.bytes))) is

-- ---- what begins at a displacement

-- nothing does within an item,
pub entry-within : (item : ci.Item) (items : List ci.Item) (k : ℕ) → 0 < k
    → k < length item.bytes → entry_item k (item ∷ items) ≡ None
entry-within item items k some less = grind (arith, nat_tests)

-- and past it what does among the others
pub entry-past : (item : ci.Item) (items : List ci.Item) (k more : ℕ)
    → k ≡ length item.bytes + more → 0 < k → entry_item k (item ∷ items) ≡ entry_item more items
entry-past item items k more is some =
    let less : k - length item.bytes ≡ more = omega arith in
    grind (arith, nat_tests)

-- nothing does where the last one ends
pub entry-end : (items : List ci.Item) (k : ℕ) → AllByRecursion ci.IsItem items
    → bytes_in items ≤ k → entry_item k items ≡ None
entry-end [] k are past = refl
entry-end (item ∷ items) k are past =
    entry-past item items k (k - length item.bytes) (omega (arith, past)) (omega (arith, past, are.0.some))
    ∙ entry-end items (k - length item.bytes) are.1 (omega (arith, past))

-- the room that items need
pub room-taken : (items : List ci.Item) → ci.room items ≡ bytes_in items + 3 * length items
room-taken [] = refl
room-taken (item ∷ items) = omega (arith, room-taken items)

-- ---- while each item has a property

-- all have it exactly where those that are left do
pub record Still (P : ci.Item → Type 0) (all left : List ci.Item) : Type 0 where
  pub to : AllByRecursion P all → AllByRecursion P left
  pub back : AllByRecursion P left → AllByRecursion P all
