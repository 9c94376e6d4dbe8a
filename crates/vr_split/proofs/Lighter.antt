-- What stands and is kept in a part of a range weighs no more than what does in the range.
use Rattle.std.proofs.Common.{◌≡◌, ℕ, ◌≤◌, Bool, true, false, List, [], ◌∷◌}
use Rattle.std.proofs.Common.{refl, sym, ap, subst, ◌∙◌, arith, true≢false}
use Rattle.std.specs.Prelude.{cond, filter, map}
use Rattle.std.specs.List.{AllByRecursion}
use Rattle.std.specs.List.Sorted.{IsStrictlySortedBy}
use Rattle.std.specs.declared.cmp.Ordering.{Ordering}
use Rattle.std.specs.declared.cmp.Ordering.TheVariants.{Less, Equal, Greater}
use Rattle.std.specs.Ordering.{ordering_reverse}
use Rattle.std.proofs.lemmas.Cmp.{nat_list_cmp_total}
use Rattle.std.proofs.lemmas.Map.Keys.{sorted_head, sorted_tail}
use Rattle.vr_types.specs.Content.{Content, Placed, place_cmp}
use Rattle.vr_types.specs.Content.Item.{Standing, Withdrawn}
use Rattle.vr_types.specs.Image.{Block}
use Rattle.vr_types.proofs.CallerLemmas.{same_place}
use Rattle.vr_ci.specs.Interval as ci
use Rattle.vr_space.specs.Room.{Lengths, Range, HaveRoom, lengthen_by, with_length, with_lengths}
use Rattle.vr_space.specs.Room.{weight, is_in, lengths_in}
use Rattle.vr_space.specs.Keyed.{Keyed, HoldsRange, items_of, key_of, length_of, lengths_of, placed}
use Rattle.vr_space.specs.Keyed.{records_in, records_of}

-- ---- lengths at ascending places

-- each place is past this one
abbrev AllPast : List ℕ → Lengths → Type 0
AllPast place [] = Unit {0}
AllPast place (entry ∷ lengths) = (place_cmp place entry.0 ≡ Less) × AllPast place lengths

abbrev Rise : Lengths → Type 0
Rise [] = Unit {0}
Rise (entry ∷ lengths) = AllPast entry.0 lengths × Rise lengths

past-more : (place other : List ℕ) (lengths : Lengths) → place_cmp place other ≡ Less
    → AllPast other lengths → AllPast place lengths
past-more place other [] less past = tt
past-more place other (entry ∷ lengths) less past = (
  nat_list_cmp_total.trans place other entry.0 less past.0,
  past-more place other lengths less past.1,
)

turned : (place other : List ℕ) → place_cmp place other ≡ Greater → place_cmp other place ≡ Less
turned place other is =
    nat_list_cmp_total.antisymm other place ∙ ap ordering_reverse is

-- a length more stays past
past-with : (q place : List ℕ) (n : ℕ) (lengths : Lengths) → place_cmp q place ≡ Less
    → AllPast q lengths → AllPast q (with_length lengths place n)
past-with q place n [] less past = (less, tt)
past-with q place n (entry ∷ lengths) less past =
    by (place_cmp place entry.0) (past-with q place n lengths less past.1)
  where
    by : (o : Ordering) → AllPast q (with_length lengths place n)
        → AllPast q (lengthen_by o place n entry lengths (with_length lengths place n))
    by Less further = (less, past)
    by Equal further = past
    by Greater further = (past.0, further)

rise-with : (place : List ℕ) (n : ℕ) (lengths : Lengths) → Rise lengths
    → Rise (with_length lengths place n)
rise-with place n [] rise = (tt, tt)
rise-with place n (entry ∷ lengths) rise =
    by (place_cmp place entry.0) refl (rise-with place n lengths rise.1)
  where
    by : (o : Ordering) → place_cmp place entry.0 ≡ o → Rise (with_length lengths place n)
        → Rise (lengthen_by o place n entry lengths (with_length lengths place n))
    by Less is further = ((is, past-more place entry.0 lengths is rise.0), rise)
    by Equal is further = rise
    by Greater is further =
        (past-with entry.0 place n lengths (turned place entry.0 is) rise.0, further)

-- ---- those that pass a test of their places

module _ (test : List ℕ → Bool) where
  abbrev part_of : Lengths → Lengths
  part_of lengths = filter (λ (entry : List ℕ × ℕ). test entry.0) lengths

  keep : (entry : List ℕ × ℕ) (lengths : Lengths) → test entry.0 ≡ true
      → part_of (entry ∷ lengths) ≡ entry ∷ part_of lengths
  keep entry lengths is =
      ap (λ (b : Bool). cond b (entry ∷ part_of lengths) (part_of lengths)) is

  leave : (entry : List ℕ × ℕ) (lengths : Lengths) → test entry.0 ≡ false
      → part_of (entry ∷ lengths) ≡ part_of lengths
  leave entry lengths is =
      ap (λ (b : Bool). cond b (entry ∷ part_of lengths) (part_of lengths)) is

  past-part : (place : List ℕ) (lengths : Lengths) → AllPast place lengths
      → AllPast place (part_of lengths)
  past-part place [] past = tt
  past-part place (entry ∷ lengths) past = by (test entry.0) (past-part place lengths past.1)
    where
      by : (b : Bool) → AllPast place (part_of lengths)
          → AllPast place (cond b (entry ∷ part_of lengths) (part_of lengths))
      by true further = (past.0, further)
      by false further = further

  -- what is past the place is not there yet
  with-first : (place : List ℕ) (n : ℕ) (lengths : Lengths) → AllPast place lengths
      → with_length lengths place n ≡ (place, n) ∷ lengths
  with-first place n [] past = refl
  with-first place n (entry ∷ lengths) past =
      ap (λ (o : Ordering). lengthen_by o place n entry lengths (with_length lengths place n))
      past.0

  -- a place that doesn't pass changes none that does
  part-without : (place : List ℕ) (n : ℕ) (lengths : Lengths) → test place ≡ false
      → part_of (with_length lengths place n) ≡ part_of lengths
  part-without place n [] fails = leave (place, n) [] fails
  part-without place n (entry ∷ lengths) fails =
      by (place_cmp place entry.0) refl (part-without place n lengths fails)
    where
      by : (o : Ordering) → place_cmp place entry.0 ≡ o
          → part_of (with_length lengths place n) ≡ part_of lengths
          → part_of (lengthen_by o place n entry lengths (with_length lengths place n))
          ≡ part_of (entry ∷ lengths)
      by Less is further = leave (place, n) (entry ∷ lengths) fails
      by Equal is further =
          let out : test entry.0 ≡ false =
          ap test (sym (same_place place entry.0 is)) ∙ fails in
          leave (entry.0, Rattle.std.specs.Prelude.max n entry.1) lengths out
          ∙ sym (leave entry lengths out)
      by Greater is further =
          ap (λ (rest : Lengths). cond (test entry.0) (entry ∷ rest) rest) further

  -- one that does is joined to those that do
  part-with : (place : List ℕ) (n : ℕ) (lengths : Lengths) → test place ≡ true → Rise lengths
      → part_of (with_length lengths place n) ≡ with_length (part_of lengths) place n
  part-with place n [] passes rise = keep (place, n) [] passes
  part-with place n (entry ∷ lengths) passes rise =
      by (place_cmp place entry.0) refl (part-with place n lengths passes rise.1)
    where
      joined : Ordering → Lengths
      joined o = lengthen_by o place n entry lengths (with_length lengths place n)

      less : place_cmp place entry.0 ≡ Less → (b : Bool) → test entry.0 ≡ b
          → (place, n) ∷ part_of (entry ∷ lengths)
          ≡ with_length (part_of (entry ∷ lengths)) place n
      less is b tested = sym (with-first place n (part_of (entry ∷ lengths))
          (past-part place (entry ∷ lengths) (is, past-more place entry.0 lengths is rise.0)))

      further : place_cmp place entry.0 ≡ Greater
          → part_of (with_length lengths place n) ≡ with_length (part_of lengths) place n
          → (b : Bool) → test entry.0 ≡ b
          → cond b (entry ∷ part_of (with_length lengths place n))
          (part_of (with_length lengths place n))
          ≡ with_length (cond b (entry ∷ part_of lengths) (part_of lengths)) place n
      further is more true tested =
          ap (λ (rest : Lengths). entry ∷ rest) more
          ∙ sym (ap (λ (o : Ordering). lengthen_by o place n entry (part_of lengths)
          (with_length (part_of lengths) place n)) is)
      further is more false tested = more

      by : (o : Ordering) → place_cmp place entry.0 ≡ o
          → part_of (with_length lengths place n) ≡ with_length (part_of lengths) place n
          → part_of (lengthen_by o place n entry lengths (with_length lengths place n))
          ≡ with_length (part_of (entry ∷ lengths)) place n
      by Less is more = keep (place, n) (entry ∷ lengths) passes ∙ less is (test entry.0) refl
      by Equal is more =
          let inside : test entry.0 ≡ true =
          ap test (sym (same_place place entry.0 is)) ∙ passes in
          keep (entry.0, Rattle.std.specs.Prelude.max n entry.1) lengths inside
          ∙ sym (ap (λ (o : Ordering). lengthen_by o place n entry (part_of lengths)
          (with_length (part_of lengths) place n)) is)
          ∙ sym (ap (λ (xs : Lengths). with_length xs place n) (keep entry lengths inside))
      by Greater is more = further is more (test entry.0) refl

  part-all : (lengths more : Lengths) → Rise lengths
      → part_of (with_lengths lengths more) ≡ with_lengths (part_of lengths) (part_of more)
  part-all lengths [] rise = refl
  part-all lengths (entry ∷ more) rise =
      part-all (with_length lengths entry.0 entry.1) more
      (rise-with entry.0 entry.1 lengths rise)
      ∙ by (test entry.0) refl
    where
      by : (b : Bool) → test entry.0 ≡ b
          → with_lengths (part_of (with_length lengths entry.0 entry.1)) (part_of more)
          ≡ with_lengths (part_of lengths) (cond b (entry ∷ part_of more) (part_of more))
      by true passes = ap (λ (xs : Lengths). with_lengths xs (part_of more))
          (part-with entry.0 entry.1 lengths passes rise)
      by false fails = ap (λ (xs : Lengths). with_lengths xs (part_of more))
          (part-without entry.0 entry.1 lengths fails)

  part-lighter : (lengths : Lengths) → weight (part_of lengths) ≤ weight lengths
  part-lighter [] = omega arith
  part-lighter (entry ∷ lengths) = by (test entry.0) (part-lighter lengths)
    where
      by : (b : Bool) → weight (part_of lengths) ≤ weight lengths
          → weight (cond b (entry ∷ part_of lengths) (part_of lengths))
          ≤ weight (entry ∷ lengths)
      by true less = omega (arith, less)
      by false less = omega (arith, less)

-- ---- ranges

-- the places of one range are places of the other
abbrev pub IsInside : Range → Range → Type 0
IsInside inner outer = (place : List ℕ) → is_in inner place ≡ true → is_in outer place ≡ true

-- a filter by one range, of what another filter left
pub twice : {X : Type 0} (key : X → List ℕ) (inner outer : Range) (xs : List X)
    → IsInside inner outer
    → filter (λ (x : X). is_in inner (key x)) (filter (λ (x : X). is_in outer (key x)) xs)
    ≡ filter (λ (x : X). is_in inner (key x)) xs
twice key inner outer [] inside = refl
twice {X} key inner outer (x ∷ xs) inside =
    by (is_in outer (key x)) (is_in inner (key x)) refl refl (twice key inner outer xs inside)
  where
    rest : List X
    rest = filter (λ (y : X). is_in outer (key y)) xs

    those : List X → List X
    those ys = filter (λ (y : X). is_in inner (key y)) ys

    by : (b c : Bool) → is_in outer (key x) ≡ b → is_in inner (key x) ≡ c
        → those rest ≡ those xs
        → those (cond b (x ∷ rest) rest) ≡ cond c (x ∷ those xs) (those xs)
    by true c out it more =
        ap (λ (d : Bool). cond d (x ∷ those rest) (those rest)) it
        ∙ ap (λ (ys : List X). cond c (x ∷ ys) ys) more
    by false true out it more = absurd (true≢false (sym (inside (key x) it) ∙ out))
    by false false out it more = more

-- ---- what stands there

length_at_place : (entry : Placed) → (length_of entry).0 ≡ entry.0
length_at_place (place, Standing bytes) = refl
length_at_place (place, Withdrawn n) = refl

-- the lengths of records of a range are those of the range
lengths-part : (range : Range) (xs : Content)
    → map length_of (filter (λ (entry : Placed). is_in range entry.0) xs)
    ≡ filter (λ (entry : List ℕ × ℕ). is_in range entry.0) (map length_of xs)
lengths-part range [] = refl
lengths-part range (entry ∷ xs) =
    by (is_in range entry.0) (lengths-part range xs)
    ∙ ap (λ (b : Bool). cond b (length_of entry ∷ those) those)
    (sym (ap (is_in range) (length_at_place entry)))
  where
    those : Lengths
    those = filter (λ (e : List ℕ × ℕ). is_in range e.0) (map length_of xs)

    rest : Content
    rest = filter (λ (e : Placed). is_in range e.0) xs

    by : (b : Bool) → map length_of rest ≡ those
        → map length_of (cond b (entry ∷ rest) rest) ≡ cond b (length_of entry ∷ those) those
    by true more = ap (λ (ls : Lengths). length_of entry ∷ ls) more
    by false more = more

past-items : (part : Keyed) (place : List ℕ) (items : List ci.Item)
    → AllByRecursion (λ y. place_cmp place y ≡ Less)
    (map (λ (item : ci.Item). key_of part item.bytes) items)
    → AllPast place (map length_of (map (placed part) items))
past-items part place [] all = tt
past-items part place (item ∷ items) all = (all.0, past-items part place items all.1)

rise-items : (part : Keyed) (items : List ci.Item)
    → IsStrictlySortedBy place_cmp (map (λ (item : ci.Item). key_of part item.bytes) items)
    → Rise (map length_of (map (placed part) items))
rise-items part [] sorted = tt
rise-items part (item ∷ items) sorted =
    let keys : List (List ℕ) = map (λ (i : ci.Item). key_of part i.bytes) items in (
      past-items part (key_of part item.bytes) items
          (sorted_head place_cmp (key_of part item.bytes) keys sorted),
      rise-items part items (sorted_tail place_cmp (key_of part item.bytes) keys sorted),
    )

rise-part : (test : List ℕ → Bool) (lengths : Lengths) → Rise lengths
    → Rise (part_of test lengths)
rise-part test [] rise = tt
rise-part test (entry ∷ lengths) rise = by (test entry.0) (rise-part test lengths rise.1)
  where
    by : (b : Bool) → Rise (part_of test lengths)
        → Rise (cond b (entry ∷ part_of test lengths) (part_of test lengths))
    by true further = (past-part test entry.0 lengths rise.0, further)
    by false further = further

-- the lengths in a part of a range are a part of those in the range
part-lengths : (part : Keyed) (kept : Lengths) (inner outer : Range) (block : Block)
    → IsInside inner outer → HoldsRange part outer block
    → lengths_of part kept inner block ≡ part_of (is_in inner) (lengths_of part kept outer block)
part-lengths part kept inner outer block inside holds =
    let all : Lengths = map length_of (records_of part block) in
    let rise : Rise (part_of (is_in outer) all) =
    rise-part (is_in outer) all (rise-items part (items_of block) holds.ascends) in
    let standing : map length_of (records_in part inner block)
    ≡ part_of (is_in inner) (map length_of (records_in part outer block)) =
    lengths-part inner (records_of part block)
    ∙ sym (twice (λ (e : List ℕ × ℕ). e.0) inner outer all inside)
    ∙ ap (part_of (is_in inner)) (sym (lengths-part outer (records_of part block))) in
    let those : lengths_in inner kept ≡ part_of (is_in inner) (lengths_in outer kept) =
    sym (twice (λ (e : List ℕ × ℕ). e.0) inner outer kept inside) in
    ap (λ (ls : Lengths). with_lengths ls (lengths_in inner kept)) standing
    ∙ ap (with_lengths (part_of (is_in inner) (map length_of (records_in part outer block)))) those
    ∙ sym (part-all (is_in inner) (map length_of (records_in part outer block))
    (lengths_in outer kept)
    (subst Rise (sym (lengths-part outer (records_of part block))) rise))

-- so they weigh no more
pub room-inside : (part : Keyed) (kept : Lengths) (inner outer : Range) (block : Block)
    → IsInside inner outer → HoldsRange part outer block
    → HaveRoom part.size (lengths_of part kept outer block)
    → HaveRoom part.size (lengths_of part kept inner block)
room-inside part kept inner outer block inside holds room =
    omega (
      arith,
      ap weight (part-lengths part kept inner outer block inside holds),
      part-lighter (is_in inner) (lengths_of part kept outer block),
      room,
    )
