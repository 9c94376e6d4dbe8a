-- The lengths of an interval's items once one of its records is set: an item keeps its length, and
-- one that is added comes after the others.
use Rattle.std.proofs.Common.{◌≡◌, ◌≢◌, ◌+◌, ◌-◌, ◌++◌, ℕ, Bool, true, false, List, []}
use Rattle.std.proofs.Common.{◌∷◌, length, Option, Some, None, refl, sym, ap, ◌∙◌, arith}
use Rattle.std.specs.Prelude.{cond, nat_eq, nat_le}
use Rattle.std.specs.Option.{option_map}
use Rattle.std.proofs.lemmas.List.{append-nil, length-append, map-append}
use Rattle.vr_types.specs.Content.{Item}
use Rattle.vr_types.specs.Image.{Block}
use Rattle.vr_ci.specs.Interval as ci
use Rattle.vr_ci.proofs.CallerLemmas.{room-append}
use Rattle.vr_entries.specs.Entry.{LengthsAfter, lengths_in}
use Rattle.vr_entries.proofs.CallerLemmas.{entry-length, same-room}
use Rattle.vr_space.specs.Entries.{bytes_in, entry_item, entry_of, item_length}
use Rattle.vr_space.specs.Keyed.{items_of}
use Rattle.vr_space.specs.Numbered.{HasLengthBy}
use Rattle.vr_chained.specs.Filled.{KeepsLengths}

-- ---- what begins at a displacement

-- how long what begins there is, by the lengths of the items
abbrev length_at : ℕ → List ℕ → Option ℕ
length_at at [] = None
length_at at (n ∷ lengths) =
    cond (nat_eq at 0) (Some n) (cond (nat_le n at) (length_at (at - n) lengths) None)

length-is : (at : ℕ) (items : List ci.Item)
    → option_map item_length (entry_item at items) ≡ length_at at (lengths_in items)
length-is at [] = refl
length-is at (item ∷ items) = by_tests (nat_eq at 0) (nat_le (length item.bytes) at)
    (length-is (at - length item.bytes) items)
  where
    by_tests : (first past : Bool)
        → option_map item_length (entry_item (at - length item.bytes) items)
        ≡ length_at (at - length item.bytes) (lengths_in items)
        → option_map item_length (cond first (Some (entry_of item))
        (cond past (entry_item (at - length item.bytes) items) None))
        ≡ cond first (Some (length item.bytes))
        (cond past (length_at (at - length item.bytes) (lengths_in items)) None)
    by_tests true past more = ap (λ (n : ℕ). Some n) (entry-length item)
    by_tests false true more = more
    by_tests false false more = refl

-- it stays where others come after them
length-stays : (at n : ℕ) (lengths more : List ℕ) → length_at at lengths ≡ Some n
    → length_at at (lengths ++ more) ≡ Some n
length-stays at n [] more is = absurd cc
length-stays at n (first ∷ lengths) more is = by_tests (nat_eq at 0) (nat_le first at) is
    (λ there. length-stays (at - first) n lengths more there)
  where
    by_tests : (here past : Bool)
        → cond here (Some first) (cond past (length_at (at - first) lengths) None) ≡ Some n
        → (length_at (at - first) lengths ≡ Some n
        → length_at (at - first) (lengths ++ more) ≡ Some n)
        → cond here (Some first) (cond past (length_at (at - first) (lengths ++ more)) None)
        ≡ Some n
    by_tests true past there step = there
    by_tests false true there step = step there
    by_tests false false there step = absurd cc

-- ---- once one is set

-- the lengths are those that were, and of what is added
pub lengths-more : (found : Option Item) (at : ℕ) (bytes : Option (List ℕ))
    (old new : List ci.Item) → LengthsAfter found at bytes old new
    → (more : List ℕ) × (lengths_in new ≡ lengths_in old ++ more)
lengths-more (Some item) at bytes old new after = ([], after ∙ sym (append-nil (lengths_in old)))
lengths-more None at None old new after = ([], after ∙ sym (append-nil (lengths_in old)))
lengths-more None at (Some bytes) old new after = (length bytes ∷ [], after.1)

-- so each that is kept has its length
pub long-still : (relative : Bool) (slot : ℕ) (bytes : Option (List ℕ)) (old new : Block)
    → KeepsLengths relative slot bytes old new → (at n : ℕ) → HasLengthBy relative at n old
    → HasLengthBy relative at n new
long-still true slot bytes old new keeps at n has = tt
long-still false slot bytes old new keeps at n has =
    let after = lengths-more (entry_item slot (items_of old)) slot bytes (items_of old)
    (items_of new) keeps in
    length-is at (items_of new) ∙ ap (length_at at) after.1
    ∙ length-stays at n (lengths_in (items_of old)) after.0
    (sym (length-is at (items_of old)) ∙ has)

-- ---- what they take

-- items as long as others are none where those are none,
pub none-still : (old new : List ci.Item) → lengths_in new ≡ lengths_in old → old ≢ [] → new ≢ []
none-still [] new same some = absurd (some refl)
none-still (item ∷ old) [] same some = absurd cc
none-still (item ∷ old) (first ∷ new) same some = λ none. absurd cc

pub empty-still : (old new : List ci.Item) → lengths_in new ≡ lengths_in old → old ≡ [] → new ≡ []
empty-still old [] same none = refl
empty-still [] (item ∷ new) same none = absurd cc
empty-still (first ∷ old) (item ∷ new) same none = absurd cc

-- and take as many bytes.
pub bytes-still : (old new : List ci.Item) → lengths_in new ≡ lengths_in old
    → bytes_in new ≡ bytes_in old
bytes-still [] [] same = refl
bytes-still [] (item ∷ new) same = absurd cc
bytes-still (item ∷ old) [] same = absurd cc
bytes-still (item ∷ old) (first ∷ new) same =
    let here : length first.bytes ≡ length item.bytes = cc in
    let others : lengths_in new ≡ lengths_in old = cc in
    omega (arith, here, bytes-still old new others)

-- One that comes after the others takes its bytes beside theirs, and the room for it.
pub record TakesMore (n : ℕ) (old new : List ci.Item) : Type 0 where
  pub some : new ≢ []
  pub bytes : bytes_in new ≡ bytes_in old + n
  pub room : ci.room new ≡ ci.room old + (n + 3)

bytes-append : (items more : List ci.Item)
    → bytes_in (items ++ more) ≡ bytes_in items + bytes_in more
bytes-append [] more = omega arith
bytes-append (item ∷ items) more = omega (arith, bytes-append items more)

pub takes-more : (bytes : List ℕ) (old new : List ci.Item)
    → lengths_in new ≡ lengths_in old ++ length bytes ∷ [] → TakesMore (length bytes) old new
takes-more bytes old new is =
    let one : List ci.Item = record { bytes = bytes; live = true } ∷ [] in
    let same : lengths_in new ≡ lengths_in (old ++ one) =
    is ∙ sym (map-append (λ (item : ci.Item). length item.bytes) old one) in
    record {
      some = none-still (old ++ one) new same (λ none.
          let long = length-append old one in
          omega (arith, long, ap (λ (items : List ci.Item). length items) none));
      bytes = omega (arith, bytes-still (old ++ one) new same, bytes-append old one);
      room = omega (arith, same-room new (old ++ one) same, room-append old one);
    }
