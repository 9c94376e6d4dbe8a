-- Where the last item of an entry-sequenced part ends once a record is set: at its end, where it is
-- the next one, and else where it did.
use Rattle.std.proofs.Common.{◌≡◌, ◌≢◌, ⊎_elim, ◌<◌, ◌≤◌, ◌+◌, ◌-◌, ◌++◌, ◌&&◌, ℕ, suc}
use Rattle.std.proofs.Common.{Bool, true, false, IsTrue, not, List, [], ◌∷◌, length, Option, Some}
use Rattle.std.proofs.Common.{None}
use Rattle.std.proofs.Common.{refl, sym, ap, subst, ◌∙◌, arith}
use Rattle.std.specs.Prelude.{IfSome, bytes_eq}
use Rattle.std.proofs.lemmas.Slice.Eq.{bytes_eq-Decides}
use Rattle.vr_types.specs.Content.{Item}
use Rattle.vr_types.specs.Fields.{four}
use Rattle.vr_types.specs.Image.{Image, block_at}
use Rattle.vr_ci.specs.Interval as ci
use Rattle.vr_entries.specs.Entry.{LengthsAfter, lengths_in}
use Rattle.vr_entries.proofs.CallerLemmas.{entries-items, entry-end, room-taken, same-room}
use Rattle.vr_space.specs.Entries.{IsEntries, Tail, address_after, bytes_in, entry_item}
use Rattle.vr_space.specs.Numbered.{AreEmptyFrom, IsFilled, IsFilledBy, IsTail, IsTailOf, at_in}
use Rattle.vr_space.specs.Numbered.{chain_block, interval_of, items_at, takes}
use Rattle.vr_space.specs.Rosters.{IsChained, IsNumbered, IsOf, Numbered, chain_of, used_of}
use Rattle.vr_space.proofs.CallerLemmas.{are-chained}
use Rattle.vr_chained.specs.Setting.{room_before, tail_at, tail_by, tail_set}
use Rattle.vr_chained.proofs.EntryLengths.{bytes-still, empty-still, none-still, takes-more}
use Rattle.vr_chained.proofs.Intervals.{interval-has, knows-own, own-chain}
use Rattle.vr_chained.proofs.NextAddress.{HasAddresses, IsAtEndOf, address-below, first_after}
use Rattle.vr_chained.proofs.NextAddress.{next-is}
use Rattle.vr_chained.proofs.Resting.{equal_or}

-- The place is past the last item: its interval takes what is said, with room for a record more,
-- and those after it have no item.
pub record IsPastLast (part : Numbered) (image : Image) (tail : Option Tail) (place : List ℕ)
    (n : ℕ) : Type 0
  where
    pub bytes : at_in part place ≡ bytes_in (items_at part image (interval_of part place))
    pub before : room_before part tail place
        ≡ ci.room (items_at part image (interval_of part place))
    pub room : ci.room (items_at part image (interval_of part place)) + (n + 3)
        ≤ part.geometry.size - 4
    pub after : AreEmptyFrom part image (suc (interval_of part place))

module _ (part : Numbered) (Own : ℕ → Type 0) (image : Image)
    (chain : IsChained part Own (IsFilled part) (IsOf image)) (numbered : IsNumbered part)
    (entries : part.relative ≡ false) where
  -- the items of each used interval are records that it has room for
  pub entries-at : (i : ℕ) → i < used_of part image
      → IsEntries part (block_at image (chain_block part (chain_of part image) i))
  entries-at i below =
      subst (λ (relative : Bool). IsFilledBy relative part
      (block_at image (chain_block part (chain_of part image) i))) entries
      (interval-has part Own (IsFilled part) image chain numbered i below)

  -- addresses have room in four bytes
  pub tail-has : (tail : Option Tail) → IsTailOf part image tail → IfSome tail (HasAddresses part)
  tail-has None is = tt
  tail-has (Some tail) is =
      let areas = are-chained part Own (IsFilled part) image
      (own-chain part Own (IsFilled part) image chain) chain
      (knows-own part Own (IsFilled part) image chain) in
      let items = items_at part image tail.interval in
      let are = entries-items part
      (block_at image (chain_block part (chain_of part image) tail.interval)) items refl
      (entries-at tail.interval is.used) in
      record {
        bytes = omega (arith, is.bytes, are.room, room-taken items, numbered.fits);
        below = address-below part (chain_of part image) (used_of part image) tail.interval numbered
            areas.count areas.used.most is.used;
      }

  -- the place of the next record is past the last item
  pub past-last : (tail : Option Tail) → IsTailOf part image tail → (place : List ℕ) (n : ℕ)
      → n ≤ part.most → place ≡ four (address_after part tail n)
      → interval_of part place < used_of part image → IsPastLast part image tail place n
  past-last tail is place n most next below = ⊎_elim
      (λ start.
      let none : items_at part image (interval_of part place) ≡ [] =
      empty tail is (interval_of part place) (omega (arith, start.interval)) below in
      record {
        bytes = start.at ∙ sym (ap bytes_in none);
        before = start.before ∙ sym (ap ci.room none);
        room = omega (arith, ap ci.room none, most, numbered.fits);
        after = λ i past used. empty tail is i (omega (arith, past, start.interval)) used;
      })
      (by_tail tail is)
      (next-is part entries (omega (arith, numbered.fits)) place n tail (tail-has tail is) next)
    where
      empty : (kept : Option Tail) → IsTailOf part image kept
          → AreEmptyFrom part image (first_after kept)
      empty None may = may
      empty (Some one) may = may.after

      by_tail : (kept : Option Tail) → IsTailOf part image kept → IsAtEndOf part kept place n
          → IsPastLast part image kept place n
      by_tail None may ends = absurd ends
      by_tail (Some one) may ends =
          let same : items_at part image (interval_of part place)
          ≡ items_at part image one.interval =
          ap (items_at part image) ends.interval in
          record {
            bytes = ends.at ∙ may.bytes ∙ sym (ap bytes_in same);
            before = ends.before ∙ may.room ∙ sym (ap ci.room same);
            room = omega (arith, ends.room, may.room, ap ci.room same);
            after = λ i past used. may.after i (omega (arith, past, ends.interval)) used;
          }

  -- ---- once a record is set

  module _ (new : Image) (place : List ℕ) (item : Option (List ℕ))
      (used : used_of part new ≡ used_of part image)
      (below : interval_of part place < used_of part image)
      (others : (i : ℕ) → i < used_of part image → i ≢ interval_of part place
      → items_at part new i ≡ items_at part image i)
      (after : LengthsAfter (entry_item (at_in part place)
      (items_at part image (interval_of part place))) (at_in part place) item
      (items_at part image (interval_of part place))
      (items_at part new (interval_of part place))) where
    abbrev interval : ℕ
    interval = interval_of part place

    abbrev at : ℕ
    at = at_in part place

    abbrev old-items : List ci.Item
    old-items = items_at part image interval

    abbrev new-items : List ci.Item
    new-items = items_at part new interval

    -- where the items keep their lengths, it ends where it did
    module _ (same : lengths_in new-items ≡ lengths_in old-items) where
      each-same : (i : ℕ) → i < used_of part image
          → lengths_in (items_at part new i) ≡ lengths_in (items_at part image i)
      each-same i within = ⊎_elim
          (λ here. subst (λ (n : ℕ). lengths_in (items_at part new n)
          ≡ lengths_in (items_at part image n)) (sym here) same)
          (λ apart. ap lengths_in (others i within apart))
          (equal_or i interval)

      still-empty : (from : ℕ) → AreEmptyFrom part image from → AreEmptyFrom part new from
      still-empty from empty i least within =
          let less : i < used_of part image = omega (arith, within, used) in
          empty-still (items_at part image i) (items_at part new i) (each-same i less)
          (empty i least less)

      pub tail-still : (tail : Option Tail) → IsTailOf part image tail → IsTailOf part new tail
      tail-still None is = still-empty 0 is
      tail-still (Some tail) is =
          let lengths = each-same tail.interval is.used in
          let old = items_at part image tail.interval in
          let now = items_at part new tail.interval in
          record {
            used = omega (arith, is.used, used);
            some = none-still old now lengths is.some;
            bytes = is.bytes ∙ sym (bytes-still old now lengths);
            room = is.room ∙ sym (same-room now old lengths);
            after = still-empty (suc tail.interval) is.after;
          }

    -- what comes after the last one is the last one
    tail-next : (tail : Option Tail) (bytes : List ℕ)
        → IsPastLast part image tail place (length bytes)
        → lengths_in new-items ≡ lengths_in old-items ++ length bytes ∷ []
        → IsTail part new (tail_at part tail place (length bytes))
    tail-next tail bytes past is =
        let more = takes-more bytes old-items new-items is in
        record {
          used = omega (arith, below, used);
          some = more.some;
          bytes = omega (arith, more.bytes, past.bytes);
          room = omega (arith, more.room, past.before);
          after = λ i least within.
              let less : i < used_of part image = omega (arith, within, used) in
              others i less (λ same. omega (arith, same, least)) ∙ past.after i least less;
        }

    -- what may be given at the place, by the tail
    abbrev pub MayFollow : Option Tail → List ℕ → Type 0
    MayFollow tail bytes = (length bytes ≤ part.most)
        × IsTrue (takes false (entry_item (at_in part place)
        (items_at part image (interval_of part place))) (length bytes)
        (bytes_eq place (four (address_after part tail (length bytes)))))

    -- nothing begins past the last item
    past-none : (tail : Option Tail) (n : ℕ) → IsPastLast part image tail place n
        → entry_item at old-items ≡ None
    past-none tail n past =
        entry-end old-items at
        (entries-items part (block_at image (chain_block part (chain_of part image) interval))
        old-items refl (entries-at interval below)).each (omega (arith, past.bytes))

    by_item : (tail : Option Tail) → IsTailOf part image tail → (given : Option (List ℕ))
        → LengthsAfter (entry_item at old-items) at given old-items new-items
        → IfSome given (MayFollow tail) → IsTailOf part new (tail_set part tail place given)
    by_item tail is None kept may =
        let lengths : lengths_in new-items ≡ lengths_in old-items =
        by_found (entry_item at old-items) kept in
        tail-still lengths tail is
      where
        by_found : (found : Option Item) → LengthsAfter found at None old-items new-items
            → lengths_in new-items ≡ lengths_in old-items
        by_found None same = same
        by_found (Some one) same = same
    by_item tail is (Some bytes) kept may =
        subst (λ (relative : Bool). IsTailOf part new
        (tail_by (not relative && next) part tail place (length bytes))) (sym entries)
        (by_next next refl)
      where
        next : Bool
        next = bytes_eq place (four (address_after part tail (length bytes)))

        by_found : (found : Option Item) → LengthsAfter found at (Some bytes) old-items new-items
            → IsTrue (takes false found (length bytes) false)
            → lengths_in new-items ≡ lengths_in old-items
        by_found None added fits = absurd cc
        by_found (Some one) same fits = same

        by_next : (test : Bool) → next ≡ test
            → IsTailOf part new (tail_by test part tail place (length bytes))
        by_next true is-next =
            let past = past-last tail is place (length bytes) may.0
            ((bytes_eq-Decides place (four (address_after part tail (length bytes)))).0 is-next)
            below in
            let added : LengthsAfter None at (Some bytes) old-items new-items =
            subst (λ (found : Option Item). LengthsAfter found at (Some bytes) old-items new-items)
            (past-none tail (length bytes) past) kept in
            tail-next tail bytes past added.1
        by_next false other =
            tail-still (by_found (entry_item at old-items) kept
            (subst (λ (test : Bool). IsTrue (takes false (entry_item at old-items) (length bytes)
            test)) other may.1)) tail is

    pub set-tail : (tail : Option Tail) → IsTailOf part image tail → IfSome item (MayFollow tail)
        → IsTailOf part new (tail_set part tail place item)
    set-tail tail is may = by_item tail is item after may
