-- The items of an interval with what is given at a displacement: what begins at each of them.
use Rattle.std.proofs.Common.{◌≡◌, ◌<◌, ◌≤◌, ◌+◌, ◌-◌, ◌++◌, ℕ, Bool, true, false, List, []}
use Rattle.std.proofs.Common.{◌∷◌, length, Option, Some, None, refl, sym, ap, subst, ◌∙◌, arith}
use Rattle.std.proofs.Common.{eqb-true, eq-eqb, ⊎_elim}
use Rattle.std.specs.Prelude.{IfSome, nat_eq}
use Rattle.std.specs.List.{AllByRecursion}
use Rattle.std.proofs.lemmas.Bool.{cases_lt, eqb-false, ne_eqb}
use Rattle.std.proofs.lemmas.List.{append-nil, length-replicate, map-append}
use Rattle.vr_types.specs.Content.{Item}
use Rattle.vr_types.specs.Content.Item.{Withdrawn}
use Rattle.vr_ci.specs.Interval as ci
use Rattle.vr_ci.specs.Writer.{written}
use Rattle.vr_ci.proofs.CallerLemmas.{room-append}
use Rattle.vr_space.specs.Entries.{IsEntry, bytes_in, entry_item, entry_of, item_length}
use Rattle.vr_space.specs.Numbered.{left_in}
use Rattle.vr_space.specs.Rosters.{Numbered}
use Rattle.vr_entries.specs.Entry.{LengthsAfter, MayTake, lengths_in}
use Rattle.vr_entries.specs.Written.{AreEntriesSet, AreEntryItems, MayStand, item_left, item_made}
use Rattle.vr_entries.specs.Written.{items_added}
use Rattle.vr_entries.proofs.Walking.{entry-end, entry-length, entry-past, entry-within}

-- the items from a displacement on, with what is given at another
abbrev pub items_set : ℕ → ℕ → Option (List ℕ) → List ci.Item → List ci.Item
items_set from at bytes [] = items_added (nat_eq from at) bytes
items_set from at bytes (item ∷ items) =
    item_left (nat_eq from at) bytes item ∷ items_set (from + length item.bytes) at bytes items

positive : (n : ℕ) → (n ≡ 0 → ⊥) → 0 < n
positive n some = omega (arith, some)

-- ---- where it may be given

-- What begins at a displacement is as long as what is given, or it is where the last item ends.
pub record IsBeginning (k : ℕ) (bytes : Option (List ℕ)) (items : List ci.Item) : Type 0 where
  pub keeps : (item : Item) → entry_item k items ≡ Some item
      → IfSome bytes (λ given. item_length item ≡ length given)
  pub ends : entry_item k items ≡ None → k ≡ bytes_in items

-- the same of a displacement that is counted from the first item's
abbrev pub Begins : ℕ → ℕ → Option (List ℕ) → List ci.Item → Type 0
Begins from at bytes items = (k : ℕ) → at ≡ from + k → IsBeginning k bytes items

may-begin : (part : Numbered) (at : ℕ) (bytes : Option (List ℕ)) (items : List ci.Item)
    → MayStand part at bytes items → IsBeginning at bytes items
may-begin part at None items may = record {
  keeps = λ item is. tt;
  ends = λ none. absurd (may none);
}
may-begin part at (Some bytes) items may = record {
  keeps = λ item is. subst (MayTake part items at (length bytes)) is may.2;
  ends = λ none. (subst (MayTake part items at (length bytes)) none may.2).0;
}

pub begins-starts : (part : Numbered) (at : ℕ) (bytes : Option (List ℕ)) (items : List ci.Item)
    → MayStand part at bytes items → Begins 0 at bytes items
begins-starts part at bytes items may k is =
    let same : at ≡ k = omega (arith, is) in
    subst (λ (n : ℕ). IsBeginning n bytes items) same (may-begin part at bytes items may)

pub begins-more : (from at : ℕ) (bytes : Option (List ℕ)) (item : ci.Item) (items : List ci.Item)
    → ci.IsItem item → Begins from at bytes (item ∷ items)
    → Begins (from + length item.bytes) at bytes items
begins-more from at bytes item items is begins k far =
    let all = begins (length item.bytes + k) (omega (arith, far)) in
    let past : entry_item (length item.bytes + k) (item ∷ items) ≡ entry_item k items =
    entry-past item items (length item.bytes + k) k refl (omega (arith, is.some)) in
    record {
      keeps = λ other here. all.keeps other (past ∙ here);
      ends = λ none. let end = all.ends (past ∙ none) in omega (arith, end);
    }

-- a displacement within an item is none of these
begins-past : (k : ℕ) (bytes : Option (List ℕ)) (item : ci.Item) (items : List ci.Item) → 0 < k
    → IsBeginning k bytes (item ∷ items) → length item.bytes ≤ k
begins-past k bytes item items some begins = ⊎_elim
    (λ less.
    let end = begins.ends (entry-within item items k some less) in
    omega (arith, end))
    (λ past. past)
    (cases_lt k (length item.bytes))

-- ---- lengths

-- what is made of an item is as long as it
made-length : (bytes : Option (List ℕ)) (item : ci.Item) (items : List ci.Item)
    → IsBeginning 0 bytes (item ∷ items) → length (item_made bytes item).bytes ≡ length item.bytes
made-length None item items begins = length-replicate (length item.bytes) 0
made-length (Some bytes) item items begins =
    sym (begins.keeps (entry_of item) refl) ∙ entry-length item

pub left-length : (from at : ℕ) (bytes : Option (List ℕ)) (item : ci.Item) (items : List ci.Item)
    → Begins from at bytes (item ∷ items)
    → length (item_left (nat_eq from at) bytes item).bytes ≡ length item.bytes
left-length from at bytes item items begins = by_test (nat_eq from at) refl
  where
    by_test : (test : Bool) → nat_eq from at ≡ test
        → length (item_left test bytes item).bytes ≡ length item.bytes
    by_test true is =
        let same = eqb-true from at is in
        made-length bytes item items (begins 0 (omega (arith, same)))
    by_test false is = refl

-- each item stays as long as it was, and what is added comes after the others
set-lengths : (from at end : ℕ) (bytes : Option (List ℕ)) (items : List ci.Item)
    → AllByRecursion ci.IsItem items → Begins from at bytes items → end ≡ from + bytes_in items
    → lengths_in (items_set from at bytes items)
    ≡ lengths_in items ++ lengths_in (items_added (nat_eq end at) bytes)
set-lengths from at end bytes [] are begins is =
    let same : from ≡ end = omega (arith, is) in
    ap (λ (n : ℕ). lengths_in (items_added (nat_eq n at) bytes)) same
set-lengths from at end bytes (item ∷ items) are begins is =
    let first = left-length from at bytes item items begins in
    let others = set-lengths (from + length item.bytes) at end bytes items are.1
    (begins-more from at bytes item items are.0 begins) (omega (arith, is)) in
    cc

-- ---- what begins where

-- what an item is made
made-is : (bytes : Option (List ℕ)) (item : ci.Item)
    → Some (entry_of (item_made bytes item)) ≡ left_in false (Some (entry_of item)) bytes
made-is None item =
    ap (λ (n : ℕ). Some (Withdrawn n)) (length-replicate (length item.bytes) 0)
    ∙ ap (λ (n : ℕ). Some (Withdrawn n)) (sym (entry-length item))
made-is (Some bytes) item = refl

added-is : (bytes : Option (List ℕ))
    → entry_item 0 (items_added true bytes) ≡ left_in false None bytes
added-is None = refl
added-is (Some bytes) = refl

set-here : (from at k : ℕ) (bytes : Option (List ℕ)) (items : List ci.Item)
    → AllByRecursion ci.IsItem items → Begins from at bytes items → at ≡ from + k
    → entry_item k (items_set from at bytes items) ≡ left_in false (entry_item k items) bytes
set-here from at k bytes [] are begins is =
    let end = (begins k is).ends refl in
    let same : nat_eq from at ≡ true = eq-eqb from at (omega (arith, is, end)) in
    ap (λ (n : ℕ). entry_item n (items_added (nat_eq from at) bytes)) end
    ∙ ap (λ (test : Bool). entry_item 0 (items_added test bytes)) same
    ∙ added-is bytes
set-here from at k bytes (item ∷ items) are begins is = by_test (nat_eq k 0) refl
    (set-here (from + length item.bytes) at (k - length item.bytes) bytes items are.1
    (begins-more from at bytes item items are.0 begins))
  where
    by_test : (test : Bool) → nat_eq k 0 ≡ test
        → (at ≡ from + length item.bytes + (k - length item.bytes)
        → entry_item (k - length item.bytes) (items_set (from + length item.bytes) at bytes items)
        ≡ left_in false (entry_item (k - length item.bytes) items) bytes)
        → entry_item k (items_set from at bytes (item ∷ items))
        ≡ left_in false (entry_item k (item ∷ items)) bytes
    by_test true first further =
        let zero = eqb-true k 0 first in
        let same : nat_eq from at ≡ true = eq-eqb from at (omega (arith, is, zero)) in
        ap (λ (n : ℕ). entry_item n (items_set from at bytes (item ∷ items))) zero
        ∙ ap (λ (test : Bool). Some (entry_of (item_left test bytes item))) same
        ∙ made-is bytes item
        ∙ ap (λ (n : ℕ). left_in false (entry_item n (item ∷ items)) bytes) (sym zero)
    by_test false later further =
        let some : 0 < k = positive k (eqb-false k 0 later) in
        let past = begins-past k bytes item items some (begins k is) in
        let long = left-length from at bytes item items begins in
        entry-past (item_left (nat_eq from at) bytes item)
        (items_set (from + length item.bytes) at bytes items) k (k - length item.bytes)
        (omega (arith, past, long)) some
        ∙ further (omega (arith, is, past))
        ∙ ap (λ (found : Option Item). left_in false found bytes)
        (sym (entry-past item items k (k - length item.bytes) (omega (arith, past)) some))

-- one item alone has nothing past its first byte
entry-only : (item : ci.Item) (k : ℕ) → 0 < k → entry_item k (item ∷ []) ≡ None
entry-only item k some = ⊎_elim
    (λ less. entry-within item [] k some less)
    (λ past. entry-past item [] k (k - length item.bytes) (omega (arith, past)) some)
    (cases_lt k (length item.bytes))

added-other : (from at k : ℕ) (bytes : Option (List ℕ)) → (at ≡ from + k → ⊥)
    → entry_item k (items_added (nat_eq from at) bytes) ≡ None
added-other from at k bytes apart = by_test (nat_eq from at) refl bytes
  where
    by_test : (test : Bool) → nat_eq from at ≡ test → (given : Option (List ℕ))
        → entry_item k (items_added test given) ≡ None
    by_test false is given = refl
    by_test true is None = refl
    by_test true is (Some given) =
        let same = eqb-true from at is in
        entry-only (written given true) k
        (positive k (λ zero. apart (omega (arith, same, zero))))

set-other : (from at k : ℕ) (bytes : Option (List ℕ)) (items : List ci.Item)
    → AllByRecursion ci.IsItem items → Begins from at bytes items → (at ≡ from + k → ⊥)
    → entry_item k (items_set from at bytes items) ≡ entry_item k items
set-other from at k bytes [] are begins apart = added-other from at k bytes apart
set-other from at k bytes (item ∷ items) are begins apart = by_test (nat_eq k 0) refl
    (set-other (from + length item.bytes) at (k - length item.bytes) bytes items are.1
    (begins-more from at bytes item items are.0 begins))
  where
    by_test : (test : Bool) → nat_eq k 0 ≡ test
        → ((at ≡ from + length item.bytes + (k - length item.bytes) → ⊥)
        → entry_item (k - length item.bytes) (items_set (from + length item.bytes) at bytes items)
        ≡ entry_item (k - length item.bytes) items)
        → entry_item k (items_set from at bytes (item ∷ items)) ≡ entry_item k (item ∷ items)
    by_test true first further =
        let zero = eqb-true k 0 first in
        let differ : nat_eq from at ≡ false =
        ne_eqb from at (λ same. apart (omega (arith, same, zero))) in
        ap (λ (n : ℕ). entry_item n (items_set from at bytes (item ∷ items))) zero
        ∙ ap (λ (test : Bool). Some (entry_of (item_left test bytes item))) differ
        ∙ ap (λ (n : ℕ). entry_item n (item ∷ items)) (sym zero)
    by_test false later further =
        let some : 0 < k = positive k (eqb-false k 0 later) in
        let long = left-length from at bytes item items begins in
        ⊎_elim
        (λ less.
        entry-within (item_left (nat_eq from at) bytes item)
        (items_set (from + length item.bytes) at bytes items) k some (omega (arith, less, long))
        ∙ sym (entry-within item items k some less))
        (λ past.
        entry-past (item_left (nat_eq from at) bytes item)
        (items_set (from + length item.bytes) at bytes items) k (k - length item.bytes)
        (omega (arith, past, long)) some
        ∙ further (λ same. apart (omega (arith, same, past)))
        ∙ sym (entry-past item items k (k - length item.bytes) (omega (arith, past)) some))
        (cases_lt k (length item.bytes))

-- ---- the whole of them

-- whatever is as long needs as much room,
pub same-room : (xs ys : List ci.Item) → lengths_in xs ≡ lengths_in ys → ci.room xs ≡ ci.room ys
same-room [] [] same = refl
same-room [] (y ∷ ys) same = absurd cc
same-room (x ∷ xs) [] same = absurd cc
same-room (x ∷ xs) (y ∷ ys) same =
    let first : length x.bytes ≡ length y.bytes = cc in
    let others : lengths_in xs ≡ lengths_in ys = cc in
    omega (arith, first, same-room xs ys others)

-- and is no longer than the longest
pub same-most : (part : Numbered) (xs ys : List ci.Item) → lengths_in xs ≡ lengths_in ys
    → AllByRecursion (IsEntry part) ys → AllByRecursion (IsEntry part) xs
same-most part [] ys same most = tt
same-most part (x ∷ xs) [] same most = absurd cc
same-most part (x ∷ xs) (y ∷ ys) same most =
    let first : length x.bytes ≡ length y.bytes = cc in
    let others : lengths_in xs ≡ lengths_in ys = cc in
    (omega (arith, first, most.0), same-most part xs ys others most.1)

module _ (part : Numbered) (at : ℕ) (bytes : Option (List ℕ)) (items : List ci.Item)
    (are : AreEntryItems part items) (may : MayStand part at bytes items) where
  begins : Begins 0 at bytes items
  begins = begins-starts part at bytes items may

  -- where the last item ends, none begins
  none-last : nat_eq (bytes_in items) at ≡ true → entry_item at items ≡ None
  none-last is =
      let same = eqb-true (bytes_in items) at is in
      entry-end items at are.each (omega (arith, same))

  -- where one begins, the last doesn't end
  not-last : (item : Item) → entry_item at items ≡ Some item → nat_eq (bytes_in items) at ≡ false
  not-last item is =
      ne_eqb (bytes_in items) at
      (λ same. differ (sym is ∙ none-last (eq-eqb (bytes_in items) at same)))
    where
      differ : Some item ≡ None → ⊥
      differ it = absurd cc

  shape : lengths_in (items_set 0 at bytes items)
      ≡ lengths_in items ++ lengths_in (items_added (nat_eq (bytes_in items) at) bytes)
  shape = set-lengths 0 at (bytes_in items) bytes items are.each begins (omega arith)

  lengths-after : LengthsAfter (entry_item at items) at bytes items (items_set 0 at bytes items)
  lengths-after = by_entry (entry_item at items) refl bytes shape may
    where
      by_entry : (found : Option Item) → entry_item at items ≡ found
          → (given : Option (List ℕ)) → lengths_in (items_set 0 at bytes items)
          ≡ lengths_in items ++ lengths_in (items_added (nat_eq (bytes_in items) at) given)
          → MayStand part at given items
          → LengthsAfter found at given items (items_set 0 at bytes items)
      by_entry (Some item) is given said can =
          said
          ∙ ap (λ (test : Bool). lengths_in items ++ lengths_in (items_added test given))
          (not-last item is)
          ∙ append-nil (lengths_in items)
      by_entry None is None said can = absurd (can is)
      by_entry None is (Some given) said can =
          let after = subst (MayTake part items at (length given)) is can.2 in (
            after.0,
            said
                ∙ ap (λ (test : Bool). lengths_in items ++ lengths_in (items_added test
                (Some given))) (eq-eqb (bytes_in items) at (sym after.0)),
          )

  -- there is room for them
  pub set-room : ci.room (items_set 0 at bytes items) ≤ part.geometry.size - 4
  set-room =
      let added = items_added (nat_eq (bytes_in items) at) bytes in
      let same : lengths_in (items_set 0 at bytes items) ≡ lengths_in (items ++ added) =
      shape ∙ sym (map-append (λ (item : ci.Item). length item.bytes) items added) in
      omega (
        arith,
        same-room (items_set 0 at bytes items) (items ++ added) same,
        room-append items added,
        by_test (nat_eq (bytes_in items) at) refl bytes may,
      )
    where
      by_test : (test : Bool) → nat_eq (bytes_in items) at ≡ test → (given : Option (List ℕ))
          → MayStand part at given items
          → ci.room items + ci.room (items_added test given) ≤ part.geometry.size - 4
      by_test false is given can = omega (arith, are.room)
      by_test true is None can = omega (arith, are.room)
      by_test true is (Some given) can =
          let after = subst (MayTake part items at (length given)) (none-last is) can.2 in
          omega (arith, after.1)

  pub items-set : AreEntriesSet at bytes items (items_set 0 at bytes items)
  items-set = record {
    here = set-here 0 at at bytes items are.each begins (omega arith);
    others = λ other apart.
        set-other 0 at other bytes items are.each begins (λ same. apart (omega (arith, same)));
    lengths = lengths-after;
  }
