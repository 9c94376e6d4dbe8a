-- Room for an interval in which a record is set.
use Rattle.std.proofs.Common.{◌≡◌, ◌≤◌, ◌-◌, ℕ, Bool, true, false, List, [], ◌∷◌}
use Rattle.std.proofs.Common.{◌⊎◌, inl, inr, ⊎_elim, Option, Some, None, refl, sym, ap, subst, ◌∙◌}
use Rattle.std.proofs.Common.{arith, true≢false, length, map}
use Rattle.std.specs.Prelude.{IfSome}
use Rattle.std.specs.Option.{option_map}
use Rattle.std.specs.Ordering.{is_lt}
use Rattle.std.specs.declared.cmp.Ordering.{Ordering}
use Rattle.std.specs.declared.cmp.Ordering.TheVariants.{Less, Equal, Greater}
use Rattle.vr_types.specs.Content.{Content, Item, place_cmp, item_at, found_by}
use Rattle.vr_types.specs.Content.Item.{Standing, Withdrawn}
use Rattle.vr_types.specs.Image.{Block}
use Rattle.vr_types.proofs.CallerLemmas.{same_place}
use Rattle.vr_ci.specs.Interval as ci
use Rattle.vr_space.specs.Room.{Lengths, Range, HaveRoom, is_in, length_at, length_by, lengths_in}
use Rattle.vr_space.specs.Room.{with_length, with_lengths, weight}
use Rattle.vr_space.specs.Keyed.{Keyed, HoldsRange, items_of, placed, records_of, records_in}
use Rattle.vr_space.specs.Keyed.{length_of, lengths_of}
use Rattle.vr_space.proofs.CallerLemmas.{NoneAt, AllAbove, Rising, rising-sorted, rising-filtered}
use Rattle.vr_space.proofs.CallerLemmas.{none-record, none-filter, record-filter, places-placed}
use Rattle.vr_space.proofs.CallerLemmas.{lt_from_test}
use Rattle.vr_keyed.specs.Setting.{IsRecordHere, items_set}
use Rattle.vr_keyed.proofs.Lengths.{ArePast, Rise, IsUnder, NoMore, most_of, no-more-same}
use Rattle.vr_keyed.proofs.Lengths.{under-then, under-withs, with-last, with-covered, under-weight}
use Rattle.vr_keyed.proofs.Lengths.{rise-with, rise-withs, at-by, at-range}
use Rattle.vr_keyed.proofs.Contents.{content_set, set-here, set-other, set-beyond, set-rises}
use Rattle.vr_keyed.proofs.Contents.{records-set}

-- ---- lengths of a content

abbrev item_length : Item → ℕ
item_length (Standing bytes) = length bytes
item_length (Withdrawn n) = n

abbrev pub length_in : Option Item → Option ℕ
length_in item = option_map item_length item

abbrev lengths : Content → Lengths
lengths content = map length_of content

length-found : (o : Ordering) (item : Item) (further : Option Item) (n : Option ℕ)
    → n ≡ length_in further
    → length_by o (item_length item) n ≡ length_in (found_by o (Some item) further)
length-found Less item further n is = is
length-found Equal item further n is = refl
length-found Greater item further n is = is

-- the length at a place is that of the item there
at-lengths : (content : Content) (q : List ℕ)
    → length_at (lengths content) q ≡ length_in (item_at content q)
at-lengths [] q = refl
at-lengths ((place, Standing bytes) ∷ content) q =
    length-found (place_cmp q place) (Standing bytes) (item_at content q)
    (length_at (lengths content) q) (at-lengths content q)
at-lengths ((place, Withdrawn n) ∷ content) q =
    length-found (place_cmp q place) (Withdrawn n) (item_at content q)
    (length_at (lengths content) q) (at-lengths content q)

past-lengths : (place : List ℕ) (content : Content) → AllAbove (Some place) content
    → ArePast place (lengths content)
past-lengths place [] all = tt
past-lengths place ((p, Standing bytes) ∷ content) all =
    (lt_from_test (place_cmp place p) all.0, past-lengths place content all.1)
past-lengths place ((p, Withdrawn n) ∷ content) all =
    (lt_from_test (place_cmp place p) all.0, past-lengths place content all.1)

rise-lengths : (content : Content) → Rising content → Rise (lengths content)
rise-lengths [] rising = tt
rise-lengths ((p, Standing bytes) ∷ content) rising =
    (past-lengths p content rising.0, rise-lengths content rising.1)
rise-lengths ((p, Withdrawn n) ∷ content) rising =
    (past-lengths p content rising.0, rise-lengths content rising.1)

-- the room of items is the weight of their lengths
room-weight : (part : Keyed) (items : List ci.Item)
    → ci.room items ≡ weight (lengths (map (placed part) items))
room-weight part [] = refl
room-weight part (item ∷ items) = omega (arith, room-weight part items)

-- ---- of a block

block-rises : (part : Keyed) (range : Range) (block : Block) → HoldsRange part range block
    → Rising (records_of part block)
block-rises part range block holds =
    rising-sorted (records_of part block)
    (subst (Rattle.std.specs.List.Sorted.IsStrictlySortedBy place_cmp)
    (sym (places-placed part (items_of block))) holds.ascends)

-- more lengths are no fewer
under-more : (one more : Lengths) → Rise one → IsUnder one (with_lengths one more)
under-more one [] rise = record {
  each = λ q. no-more-same (length_at one q) (length_at one q) refl;
}
under-more one (entry ∷ more) rise =
    under-then one (with_length one entry.0 entry.1) (with_lengths one (entry ∷ more))
    (record {
      each = λ q. at-by one entry.0 entry.1 q rise (NoMore (length_at one q))
          (λ equal. subst
          (λ (p : List ℕ). NoMore (length_at one p)
          (Some (most_of entry.1 (length_at one entry.0))))
          (sym (same_place q entry.0 equal)) (longer (length_at one entry.0)))
          (λ apart. no-more-same (length_at one q) (length_at one q) refl);
    })
    (under-more (with_length one entry.0 entry.1) more (rise-with one entry.0 entry.1 rise))
  where
    longer : (o : Option ℕ) → NoMore o (Some (most_of entry.1 o))
    longer None = tt
    longer (Some n) = omega arith

module _ (part : Keyed) (range : Range) (place : List ℕ) (new : Option (List ℕ)) (old : Block)
    (holds : HoldsRange part range old) (here : is_in range place ≡ true) where
  -- what the interval will have
  abbrev after : Content
  after = content_set range place new (records_of part old)

  -- what it has in its range
  abbrev before : Content
  before = records_in part range old

  rising : Rising (records_of part old)
  rising = block-rises part range old holds

  rise-before : Rise (lengths before)
  rise-before = rise-lengths before (rising-filtered range (records_of part old) rising)

  at-before : (q : List ℕ) → is_in range q ≡ true
      → length_at (lengths before) q ≡ length_in (item_at (records_of part old) q)
  at-before q inside = at-lengths before q
      ∙ ap length_in (record-filter range (records_of part old) q inside)

  rise-after : Rise (lengths after)
  rise-after = rise-lengths after (set-rises range place new (records_of part old) rising)

  at-after : (q : List ℕ)
      → length_at (lengths after) q ≡ length_in (item_at after q)
  at-after q = at-lengths after q

  -- a test of the range, both ways
  in-or : (q : List ℕ) → (is_in range q ≡ true) ⊎ (is_in range q ≡ false)
  in-or q = by (is_in range q)
    where
      by : (b : Bool) → (b ≡ true) ⊎ (b ≡ false)
      by true = inl refl
      by false = inr refl

  -- at another place it is what it was, or none
  at-off : (q : List ℕ) (there : Option ℕ) → (q ≡ place → ⊥)
      → NoMore (length_at (lengths before) q) there
      → NoMore (length_at (lengths after) q) there
  at-off q there apart under = ⊎_elim
      (λ inside. subst (λ (o : Option ℕ). NoMore o there)
      (at-before q inside
      ∙ sym (at-after q ∙ ap length_in
      (set-other range place new (records_of part old) q inside apart))) under)
      (λ out. subst (λ (o : Option ℕ). NoMore o there)
      (sym (at-after q ∙ ap length_in
      (set-beyond range place new (records_of part old) here q out))) tt)
      (in-or q)

  -- with a record of this length at the place
  pub after-longer : (n : ℕ) → NoMore (length_in (option_map Standing new)) (Some n)
      → IsUnder (lengths after) (with_length (lengths before) place n)
  after-longer n most = record {
    each = λ q. at-by (lengths before) place n q rise-before
        (NoMore (length_at (lengths after) q))
        (λ equal. subst (λ (p : List ℕ). NoMore (length_at (lengths after) p)
        (Some (most_of n (length_at (lengths before) place))))
        (sym (same_place q place equal))
        (subst (λ (o : Option ℕ). NoMore o (Some (most_of n (length_at (lengths before) place))))
        (sym (at-after place ∙ ap length_in
        (set-here range place new (records_of part old))))
        (longest (length_in (option_map Standing new)) (length_at (lengths before) place) most)))
        (λ apart. at-off q (length_at (lengths before) q)
        (λ same. apart (ap (place_cmp q) (sym same)
        ∙ Rattle.vr_space.proofs.CallerLemmas.same_is_equal q))
        (no-more-same (length_at (lengths before) q) (length_at (lengths before) q) refl));
  }
    where
      longest : (o there : Option ℕ) → NoMore o (Some n) → NoMore o (Some (most_of n there))
      longest None there under = tt
      longest (Some k) None under = under
      longest (Some k) (Some m) under = omega (arith, under)

  -- without one
  pub after-less : new ≡ None → IsUnder (lengths after) (lengths before)
  after-less none = record {
    each = λ q. by q (Rattle.std.specs.Ordering.is_eq (place_cmp q place)) refl;
  }
    where
      at-none : (q : List ℕ) → place_cmp q place ≡ Equal
          → NoMore (length_at (lengths after) q) (length_at (lengths before) q)
      at-none q equal =
          subst (λ (p : List ℕ). NoMore (length_at (lengths after) p)
          (length_at (lengths before) p)) (sym (same_place q place equal))
          (subst (λ (o : Option ℕ). NoMore o (length_at (lengths before) place))
          (sym (at-after place ∙ ap length_in
          (set-here range place new (records_of part old)
          ∙ ap (option_map Standing) none))) tt)

      by : (q : List ℕ) (b : Bool) → Rattle.std.specs.Ordering.is_eq (place_cmp q place) ≡ b
          → NoMore (length_at (lengths after) q) (length_at (lengths before) q)
      by q true is = at-none q (equal_is (place_cmp q place) is)
        where
          equal_is : (o : Ordering) → Rattle.std.specs.Ordering.is_eq o ≡ true → o ≡ Equal
          equal_is Less is_it = absurd (true≢false (sym is_it))
          equal_is Equal is_it = refl
          equal_is Greater is_it = absurd (true≢false (sym is_it))
      by q false is = at-off q (length_at (lengths before) q)
          (λ same. true≢false (sym (ap Rattle.std.specs.Ordering.is_eq
          (ap (place_cmp q) (sym same) ∙ Rattle.vr_space.proofs.CallerLemmas.same_is_equal q))
          ∙ is))
          (no-more-same (length_at (lengths before) q) (length_at (lengths before) q) refl)

  -- ---- room

  -- A record no longer than the one at the place needs no more.
  pub no-longer : (kept : Lengths) (bytes : List ℕ) (n : ℕ)
      → item_at (records_of part old) place ≡ Some (Standing bytes) → n ≤ length bytes
      → weight (lengths_of part kept range old) ≤ part.size - 4
      → weight (with_length (lengths_of part kept range old) place n) ≤ part.size - 4
  no-longer kept bytes n stands less fits =
      let all : Lengths = with_lengths (lengths before) (lengths_in range kept) in
      let rise : Rise (with_lengths (lengths before) (lengths_in range kept)) =
      rise-withs (lengths before) (lengths_in range kept) rise-before in
      let there : NoMore (Some (length bytes))
      (length_at (with_lengths (lengths before) (lengths_in range kept)) place) =
      subst (λ (o : Option ℕ). NoMore o (length_at all place))
      (at-before place here ∙ ap length_in stands)
      ((under-more (lengths before) (lengths_in range kept) rise-before).each place) in
      let under : IsUnder (with_length all place n) all = record {
        each = λ q. at-by all place n q rise (λ (o : Option ℕ). NoMore o (length_at all q))
            (λ equal. subst (λ (p : List ℕ). NoMore (Some (most_of n (length_at all place)))
            (length_at all p)) (sym (same_place q place equal))
            (most-there (length_at all place) there))
            (λ apart. no-more-same (length_at all q) (length_at all q) refl);
      } in
      omega (
        arith,
        fits,
        under-weight (with_length all place n) all (rise-with all place n rise) rise under,
      )
    where
      most-there : (o : Option ℕ) → NoMore (Some (length bytes)) o
          → NoMore (Some (most_of n o)) o
      most-there None there = there
      most-there (Some k) there = omega (arith, there, less)

  -- What is set has room: beside what is there and what is kept, or in what is kept for the
  -- place, or it is taken away.
  abbrev pub HasPlace : Lengths → Type 0
  HasPlace kept = (new ≡ None)
      ⊎ ((n : ℕ) × NoMore (length_in (option_map Standing new)) (Some n)
      × ((weight (with_length (lengths_of part kept range old) place n) ≤ part.size - 4)
      ⊎ ((m : ℕ) × (length_at kept place ≡ Some m) × (n ≤ m))))

  pub after-room : (kept : Lengths) → HasPlace kept
      → weight (lengths_of part kept range old) ≤ part.size - 4
      → weight (with_lengths (lengths after) (lengths_in range kept)) ≤ part.size - 4
  after-room kept has fits = ⊎_elim
      (λ none. omega (arith, fits, lighter (lengths before) rise-before (after-less none)))
      (λ some. ⊎_elim
      (λ beside. omega (
        arith,
        beside,
        lighter (with_length (lengths before) place some.0)
            (rise-with (lengths before) place some.0 rise-before)
            (after-longer some.0 some.1),
        under-weight
            (with_lengths (with_length (lengths before) place some.0) (lengths_in range kept))
            (with_length (with_lengths (lengths before) (lengths_in range kept)) place some.0)
            (rise-withs (with_length (lengths before) place some.0) (lengths_in range kept)
            (rise-with (lengths before) place some.0 rise-before))
            (rise-with (with_lengths (lengths before) (lengths_in range kept)) place some.0
            (rise-withs (lengths before) (lengths_in range kept) rise-before))
            (with-last (lengths before) (lengths_in range kept) place some.0 rise-before),
      ))
      (λ covered. omega (
        arith,
        fits,
        lighter (with_length (lengths before) place some.0)
            (rise-with (lengths before) place some.0 rise-before)
            (after-longer some.0 some.1),
        under-weight
            (with_lengths (with_length (lengths before) place some.0) (lengths_in range kept))
            (with_lengths (lengths before) (lengths_in range kept))
            (rise-withs (with_length (lengths before) place some.0) (lengths_in range kept)
            (rise-with (lengths before) place some.0 rise-before))
            (rise-withs (lengths before) (lengths_in range kept) rise-before)
            (with-covered (lengths before) (lengths_in range kept) place some.0 covered.0
            rise-before (at-range range kept place here ∙ covered.1) covered.2),
      ))
      some.2)
      has
    where
      lighter : (other : Lengths) → Rise other → IsUnder (lengths after) other
          → weight (with_lengths (lengths after) (lengths_in range kept))
          ≤ weight (with_lengths other (lengths_in range kept))
      lighter other rise under =
          under-weight (with_lengths (lengths after) (lengths_in range kept))
          (with_lengths other (lengths_in range kept))
          (rise-withs (lengths after) (lengths_in range kept) rise-after)
          (rise-withs other (lengths_in range kept) rise)
          (under-withs (lengths after) other (lengths_in range kept) rise-after rise under)

  -- the records that are written have room, and what is kept beside them
  pub set-room-of : (kept : Lengths) → IfSome new (IsRecordHere part place)
      → HasPlace kept
      → weight (lengths_of part kept range old) ≤ part.size - 4
      → ci.room (items_set part range place new (items_of old)) ≤ part.size - 4
  set-room-of kept is has fits =
      let items : List ci.Item = items_set part range place new (items_of old) in
      let same : map (placed part) items
      ≡ after = records-set part range place new (items_of old) is
      in
      omega (
        arith,
        room-weight part items,
        ap (λ (content : Content). weight (lengths content)) same,
        under-weight (lengths after) (with_lengths (lengths after) (lengths_in range kept))
            rise-after (rise-withs (lengths after) (lengths_in range kept)
            rise-after)
            (under-more (lengths after) (lengths_in range kept) rise-after),
        after-room kept has fits,
      )

  pub set-have-room : (kept : Lengths) (bytes : Block)
      → IfSome new (IsRecordHere part place)
      → items_of bytes ≡ items_set part range place new (items_of old)
      → HoldsRange part range bytes
      → HasPlace kept
      → weight (lengths_of part kept range old) ≤ part.size - 4
      → HaveRoom part.size (lengths_of part kept range bytes)
  set-have-room kept bytes is items holds_new has fits =
      let same : records_of part bytes ≡ after = ap (map (placed part)) items
      ∙ records-set part range place new (items_of old) is in
      let now : Content = records_in part range bytes in
      let rise-now : Rise (lengths now) = rise-lengths now
      (rising-filtered range (records_of part bytes) (block-rises part range bytes holds_new)) in
      let under : IsUnder (lengths now) (lengths after) = record {
        each = λ q. ⊎_elim
            (λ inside. no-more-same (length_at (lengths now) q) (length_at (lengths after) q)
            (at-lengths now q
            ∙ ap length_in (record-filter range (records_of part bytes) q inside
            ∙ ap (λ (content : Content). item_at content q) same)
            ∙ sym (at-after q)))
            (λ out. subst (λ (o : Option ℕ). NoMore o (length_at (lengths after) q))
            (sym (at-lengths now q
            ∙ ap length_in (none-record q now
            (none-filter range (records_of part bytes) q out)))) tt)
            (in-or q);
      } in
      omega (
        arith,
        under-weight (with_lengths (lengths now) (lengths_in range kept))
            (with_lengths (lengths after) (lengths_in range kept))
            (rise-withs (lengths now) (lengths_in range kept) rise-now)
            (rise-withs (lengths after) (lengths_in range kept) rise-after)
            (under-withs (lengths now) (lengths after) (lengths_in range kept) rise-now
            rise-after under),
        after-room kept has fits,
      )
