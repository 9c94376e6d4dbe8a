-- Room where less is kept: fewer lengths, or shorter ones.
use Rattle.std.proofs.Common.{◌≡◌, ◌⊎◌, inl, inr, ⊎_elim, ◌≤◌, ℕ, Bool, true, false, cond}
use Rattle.std.proofs.Common.{List}
use Rattle.std.proofs.Common.{[], ◌∷◌, map, refl, sym, ap, subst, ◌∙◌, arith, length, Option}
use Rattle.std.proofs.Common.{Some}
use Rattle.std.specs.Prelude.{All, Contains, filter, max}
use Rattle.std.specs.List.{AllByRecursion}
use Rattle.std.specs.List.Sorted.{IsStrictlySortedBy}
use Rattle.std.proofs.lemmas.List.Elements.{All-contains, All-from_recursion, All-weaker}
use Rattle.std.proofs.lemmas.List.Elements.{recursion_from_All}
use Rattle.std.proofs.lemmas.Map.Keys.{sorted_head, sorted_tail}
use Rattle.vr_types.specs.Content.{Placed}
use Rattle.vr_types.specs.Geometry.{area_count}
use Rattle.vr_types.specs.Image.{Block}
use Rattle.vr_types.specs.Seen.{Seen}
use Rattle.vr_ci.specs.Interval as ci
use Rattle.vr_seqset.specs.Entry.{Entry}
use Rattle.vr_space.specs.Areas.{area_of}
use Rattle.vr_space.specs.Keyed.{EachMayLeave, HoldsRange, IsKeyedSound, KeepsRoom, Keyed}
use Rattle.vr_space.specs.Keyed.{entries_of, items_of, key_of}
use Rattle.vr_space.specs.Keyed.{length_of, lengths_of, low_of, placed, range_of, records_in}
use Rattle.vr_space.specs.Owners.{Owners}
use Rattle.vr_space.specs.Part.{HasKeptRoom, IsSound, KeyedShape, NumberedShape, Shape}
use Rattle.vr_space.specs.Numbered.{HasKeptPlace, KeepsNumbered}
use Rattle.vr_space.specs.Rosters.{Numbered}
use Rattle.vr_space.proofs.Links.{each-after-less}
use Rattle.vr_space.proofs.NumberedRooms.{any-length}
use Rattle.vr_space.proofs.Rooms.{IsRoomyArea, roomy-each}
use Rattle.vr_space.specs.Room.{HaveRoom}
use Rattle.std.specs.Ordering.{ordering_reverse}
use Rattle.std.specs.declared.cmp.Ordering.{Ordering}
use Rattle.std.specs.declared.cmp.Ordering.TheVariants.{Less, Equal, Greater}
use Rattle.std.proofs.lemmas.Cmp.{nat_list_cmp_total}
use Rattle.vr_types.specs.Content.{place_cmp}
use Rattle.vr_types.proofs.CallerLemmas.{same_place}
use Rattle.vr_space.specs.Room.{Lengths, Range, is_in, lengthen_by, lengths_in, weight, with_length}
use Rattle.vr_space.specs.Room.{with_lengths}

-- ---- places that ascend

-- each place is past this one
abbrev pub AllPast : List ℕ → Lengths → Type 0
AllPast place [] = Unit {0}
AllPast place (entry ∷ lengths) = (place_cmp place entry.0 ≡ Less) × AllPast place lengths

-- each place is past those before it
abbrev pub Rise : Lengths → Type 0
Rise [] = Unit {0}
Rise (entry ∷ lengths) = AllPast entry.0 lengths × Rise lengths

past-more : (low place : List ℕ) (lengths : Lengths) → place_cmp low place ≡ Less
    → AllPast place lengths → AllPast low lengths
past-more low place [] less past = tt
past-more low place (entry ∷ lengths) less past = (
  nat_list_cmp_total.trans low place entry.0 less past.0,
  past-more low place lengths less past.1,
)

past-with : (low : List ℕ) (lengths : Lengths) (place : List ℕ) (n : ℕ)
    → place_cmp low place ≡ Less → AllPast low lengths
    → AllPast low (with_length lengths place n)
past-with low [] place n less past = (less, tt)
past-with low (entry ∷ lengths) place n less past =
    by_order (place_cmp place entry.0) (past-with low lengths place n less past.1)
  where
    by_order : (order : Ordering) → AllPast low (with_length lengths place n)
        → AllPast low (lengthen_by order place n entry lengths (with_length lengths place n))
    by_order Less further = (less, past)
    by_order Equal further = past
    by_order Greater further = (past.0, further)

pub rise-with : (lengths : Lengths) (place : List ℕ) (n : ℕ) → Rise lengths
    → Rise (with_length lengths place n)
rise-with [] place n rise = (tt, tt)
rise-with (entry ∷ lengths) place n rise =
    by_order (place_cmp place entry.0) refl (rise-with lengths place n rise.1)
  where
    by_order : (order : Ordering) → place_cmp place entry.0 ≡ order
        → Rise (with_length lengths place n)
        → Rise (lengthen_by order place n entry lengths (with_length lengths place n))
    by_order Less is further = ((is, past-more place entry.0 lengths is rise.0), rise)
    by_order Equal is further = rise
    by_order Greater is further = (
      past-with entry.0 lengths place n
          (nat_list_cmp_total.antisymm entry.0 place ∙ ap ordering_reverse is) rise.0,
      further,
    )

-- ---- what is under more

-- Each of the first is among the others, at the same place and no longer.
abbrev pub Under : Lengths → Lengths → Type 0
Under [] more = Unit {0}
Under (entry ∷ lengths) [] = ⊥
Under (entry ∷ lengths) (first ∷ more) =
    ((entry.0 ≡ first.0) × (entry.1 ≤ first.1) × Under lengths more)
    ⊎ Under (entry ∷ lengths) more

pub under-weight : (lengths more : Lengths) → Under lengths more → weight lengths ≤ weight more
under-weight [] more under = omega arith
under-weight (entry ∷ lengths) [] under = absurd under
under-weight (entry ∷ lengths) (first ∷ more) under = ⊎_elim
    (λ here. omega (arith, here.1, under-weight lengths more here.2))
    (λ further. omega (arith, under-weight (entry ∷ lengths) more further)) under

-- one before the others
skip : (lengths : Lengths) (first : List ℕ × ℕ) (more : Lengths) → Under lengths more
    → Under lengths (first ∷ more)
skip [] first more under = tt
skip (entry ∷ lengths) first more under = inr under

pub under-self : (lengths : Lengths) → Under lengths lengths
under-self [] = tt
under-self (entry ∷ lengths) = inl (refl, omega arith, under-self lengths)

-- more is kept
pub under-more : (lengths more : Lengths) (place : List ℕ) (n : ℕ) → Under lengths more
    → Under lengths (with_length more place n)
under-more [] more place n under = tt
under-more (entry ∷ lengths) [] place n under = absurd under
under-more (entry ∷ lengths) (first ∷ more) place n under =
    by_order (place_cmp place first.0) under
    (λ (less : Under lengths more). under-more lengths more place n less)
    (λ (same : Under (entry ∷ lengths) more). under-more (entry ∷ lengths) more place n same)
  where
    by_order : (order : Ordering)
        → ((entry.0 ≡ first.0) × (entry.1 ≤ first.1) × Under lengths more)
        ⊎ Under (entry ∷ lengths) more
        → (Under lengths more → Under lengths (with_length more place n))
        → (Under (entry ∷ lengths) more → Under (entry ∷ lengths) (with_length more place n))
        → Under (entry ∷ lengths)
        (lengthen_by order place n first more (with_length more place n))
    by_order Less is less same = inr is
    by_order Equal is less same = ⊎_elim
        (λ here. inl (here.0, omega (arith, here.1), here.2)) (λ further. inr further) is
    by_order Greater is less same = ⊎_elim
        (λ here. inl (here.0, here.1, less here.2)) (λ further. inr (same further)) is

-- one alone
under-one : (more : Lengths) (place : List ℕ) (n k : ℕ) → n ≤ k
    → Under ((place, n) ∷ []) (with_length more place k)
under-one [] place n k most = inl (refl, most, tt)
under-one (first ∷ more) place n k most =
    by_order (place_cmp place first.0) refl (under-one more place n k most)
  where
    by_order : (order : Ordering) → place_cmp place first.0 ≡ order
        → Under ((place, n) ∷ []) (with_length more place k)
        → Under ((place, n) ∷ [])
        (lengthen_by order place k first more (with_length more place k))
    by_order Less is further = inl (refl, most, tt)
    by_order Equal is further = inl (same_place place first.0 is, omega (arith, most), tt)
    by_order Greater is further = inr further

-- what is under places past one is past it
under-past : (place : List ℕ) (entry : List ℕ × ℕ) (lengths more : Lengths) → AllPast place more
    → Under (entry ∷ lengths) more → place_cmp place entry.0 ≡ Less
under-past place entry lengths [] past under = absurd under
under-past place entry lengths (first ∷ more) past under = ⊎_elim
    (λ here. subst (λ (q : List ℕ). place_cmp place q ≡ Less) (sym here.0) past.0)
    (λ further. under-past place entry lengths more past.1 further) under

-- one more on both sides
pub under-both : (lengths more : Lengths) (place : List ℕ) (n k : ℕ) → Rise more → n ≤ k
    → Under lengths more → Under (with_length lengths place n) (with_length more place k)
under-both [] more place n k rise most under = under-one more place n k most
under-both (entry ∷ lengths) [] place n k rise most under = absurd under
under-both (entry ∷ lengths) (first ∷ more) place n k rise most under = ⊎_elim
    (λ here. same-first here.0 here.1 here.2 (place_cmp place first.0) refl
    (under-both lengths more place n k rise.1 most here.2))
    (λ further. past-first further (place_cmp place first.0) refl
    (under-both (entry ∷ lengths) more place n k rise.1 most further)) under
  where
    same-first : entry.0 ≡ first.0 → entry.1 ≤ first.1 → Under lengths more → (order : Ordering)
        → place_cmp place first.0 ≡ order
        → Under (with_length lengths place n) (with_length more place k)
        → Under (with_length (entry ∷ lengths) place n)
        (lengthen_by order place k first more (with_length more place k))
    same-first here within rest order is further =
        subst (λ (o : Ordering). Under
        (lengthen_by o place n entry lengths (with_length lengths place n))
        (lengthen_by order place k first more (with_length more place k)))
        (sym (ap (place_cmp place) here ∙ is)) (by_order order)
      where
        by_order : (o : Ordering)
            → Under (lengthen_by o place n entry lengths (with_length lengths place n))
            (lengthen_by o place k first more (with_length more place k))
        by_order Less = inl (refl, most, inl (here, within, rest))
        by_order Equal = inl (here, omega (arith, most, within), rest)
        by_order Greater = inl (here, within, further)

    put-first : (rest : Lengths) → place_cmp place entry.0 ≡ Less
        → Under ((place, n) ∷ entry ∷ lengths) rest
        → Under (with_length (entry ∷ lengths) place n) rest
    put-first rest is there = subst (λ (o : Ordering). Under
        (lengthen_by o place n entry lengths (with_length lengths place n)) rest) (sym is) there

    past-first : Under (entry ∷ lengths) more → (order : Ordering)
        → place_cmp place first.0 ≡ order
        → Under (with_length (entry ∷ lengths) place n) (with_length more place k)
        → Under (with_length (entry ∷ lengths) place n)
        (lengthen_by order place k first more (with_length more place k))
    past-first rest Less is further = put-first ((place, k) ∷ first ∷ more)
        (under-past place entry lengths more (past-more place first.0 more is rise.0) rest)
        (inl (refl, most, inr rest))
    past-first rest Equal is further = put-first ((first.0, max k first.1) ∷ more)
        (under-past place entry lengths more
        (subst (λ (q : List ℕ). AllPast q more) (sym (same_place place first.0 is)) rise.0) rest)
        (inl (same_place place first.0 is, omega (arith, most), rest))
    past-first rest Greater is further =
        skip (with_length (entry ∷ lengths) place n) first (with_length more place k) further

-- ---- many

more-all : (lengths more kept : Lengths) → Under lengths more
    → Under lengths (with_lengths more kept)
more-all lengths more [] under = under
more-all lengths more (entry ∷ kept) under =
    more-all lengths (with_length more entry.0 entry.1) kept
    (under-more lengths more entry.0 entry.1 under)

pub under-all : (lengths more fewer kept : Lengths) → Rise more → Under lengths more
    → Under fewer kept → Under (with_lengths lengths fewer) (with_lengths more kept)
under-all lengths more [] kept rise under less = more-all lengths more kept under
under-all lengths more (entry ∷ fewer) [] rise under less = absurd less
under-all lengths more (entry ∷ fewer) (first ∷ kept) rise under less = ⊎_elim
    (λ here. under-all (with_length lengths entry.0 entry.1) (with_length more first.0 first.1)
    fewer kept (rise-with more first.0 first.1 rise)
    (subst (λ (q : List ℕ). Under (with_length lengths entry.0 entry.1)
    (with_length more q first.1)) here.0
    (under-both lengths more entry.0 entry.1 first.1 rise here.1 under)) here.2)
    (λ further. under-all lengths (with_length more first.0 first.1) (entry ∷ fewer) kept
    (rise-with more first.0 first.1 rise) (under-more lengths more first.0 first.1 under) further)
    less

-- in a range
pub under-range : (range : Range) (fewer kept : Lengths) → Under fewer kept
    → Under (lengths_in range fewer) (lengths_in range kept)
under-range range [] kept under = tt
under-range range (entry ∷ fewer) [] under = absurd under
under-range range (entry ∷ fewer) (first ∷ kept) under = ⊎_elim
    (λ here. same-in here.0 here.1 (is_in range first.0) refl (under-range range fewer kept here.2))
    (λ further. more-in (is_in range first.0) (under-range range (entry ∷ fewer) kept further))
    under
  where
    same-in : entry.0 ≡ first.0 → entry.1 ≤ first.1 → (inside : Bool)
        → is_in range first.0 ≡ inside
        → Under (lengths_in range fewer) (lengths_in range kept)
        → Under (lengths_in range (entry ∷ fewer))
        (cond inside (first ∷ lengths_in range kept) (lengths_in range kept))
    same-in here within inside is rest =
        subst (λ (b : Bool). Under
        (cond b (entry ∷ lengths_in range fewer) (lengths_in range fewer))
        (cond inside (first ∷ lengths_in range kept) (lengths_in range kept)))
        (sym (ap (is_in range) here ∙ is)) (by_test inside)
      where
        by_test : (b : Bool)
            → Under (cond b (entry ∷ lengths_in range fewer) (lengths_in range fewer))
            (cond b (first ∷ lengths_in range kept) (lengths_in range kept))
        by_test true = inl (here, within, rest)
        by_test false = rest

    more-in : (inside : Bool)
        → Under (lengths_in range (entry ∷ fewer)) (lengths_in range kept)
        → Under (lengths_in range (entry ∷ fewer))
        (cond inside (first ∷ lengths_in range kept) (lengths_in range kept))
    more-in true rest = skip (lengths_in range (entry ∷ fewer)) first (lengths_in range kept) rest
    more-in false rest = rest

-- ---- the intervals

rise-lengths : (part : Keyed) (range : Range) (items : List ci.Item)
    → IsStrictlySortedBy place_cmp (map (λ (item : ci.Item). key_of part item.bytes) items)
    → Rise (map length_of (filter (λ (entry : Placed). is_in range entry.0)
    (map (placed part) items)))
rise-lengths part range [] sorted = tt
rise-lengths part range (item ∷ items) sorted =
    by_test (is_in range (key_of part item.bytes))
    (past-lengths (key_of part item.bytes) items
    (sorted_head place_cmp (key_of part item.bytes)
    (map (λ (other : ci.Item). key_of part other.bytes) items) sorted))
    (rise-lengths part range items (sorted_tail place_cmp (key_of part item.bytes)
    (map (λ (other : ci.Item). key_of part other.bytes) items) sorted))
  where
    past-lengths : (place : List ℕ) (others : List ci.Item)
        → AllByRecursion (λ key. place_cmp place key ≡ Less)
        (map (λ (other : ci.Item). key_of part other.bytes) others)
        → AllPast place (map length_of (filter (λ (entry : Placed). is_in range entry.0)
        (map (placed part) others)))
    past-lengths place [] all = tt
    past-lengths place (other ∷ others) all =
        past-by (is_in range (key_of part other.bytes)) all.0 (past-lengths place others all.1)
      where
        past-by : (inside : Bool) → place_cmp place (key_of part other.bytes) ≡ Less
            → AllPast place (map length_of (filter (λ (entry : Placed). is_in range entry.0)
            (map (placed part) others)))
            → AllPast place (map length_of (cond inside
            (placed part other ∷ filter (λ (entry : Placed). is_in range entry.0)
            (map (placed part) others))
            (filter (λ (entry : Placed). is_in range entry.0) (map (placed part) others))))
        past-by true less further = (less, further)
        past-by false less further = further

    by_test : (inside : Bool)
        → AllPast (key_of part item.bytes)
        (map length_of (filter (λ (entry : Placed). is_in range entry.0)
        (map (placed part) items)))
        → Rise (map length_of (filter (λ (entry : Placed). is_in range entry.0)
        (map (placed part) items)))
        → Rise (map length_of (cond inside
        (placed part item ∷ filter (λ (entry : Placed). is_in range entry.0)
        (map (placed part) items))
        (filter (λ (entry : Placed). is_in range entry.0) (map (placed part) items))))
    by_test true past further = (past, further)
    by_test false past further = further

each-fewer : (part : Keyed) (fewer kept : Lengths) (now : Seen) (low : Option (List ℕ))
    (entries : List Entry) → Under fewer kept
    → EachMayLeave part now low entries (HoldsRange part)
    → EachMayLeave part now low entries
    (λ range block. HaveRoom part.size (lengths_of part kept range block))
    → EachMayLeave part now low entries
    (λ range block. HaveRoom part.size (lengths_of part fewer range block))
each-fewer part fewer kept now low [] less holds each = tt
each-fewer part fewer kept now low (entry ∷ entries) less holds each = (
  λ block may.
      let range : Range = range_of low entry in
      let recs : Lengths = map length_of (records_in part range block) in
      omega (
        arith,
        each.0 block may,
        under-weight (lengths_of part fewer range block) (lengths_of part kept range block)
            (under-all recs recs (lengths_in range fewer) (lengths_in range kept)
            (rise-lengths part range (items_of block) (holds.0 block may).ascends)
            (under-self recs) (under-range range fewer kept less)),
      ),
  each-fewer part fewer kept now (Some entry.high) entries less holds.1 each.1,
)

-- what is true of each that is kept, whichever its length, is true of fewer
places-among : (P : List ℕ × ℕ → Type 0)
    → ((first entry : List ℕ × ℕ) → entry.0 ≡ first.0 → P first → P entry)
    → (fewer kept : Lengths) → Under fewer kept → AllByRecursion P kept → AllByRecursion P fewer
places-among P any [] kept less all = tt
places-among P any (entry ∷ fewer) [] less all = absurd less
places-among P any (entry ∷ fewer) (first ∷ kept) less all = ⊎_elim
    (λ here. (any first entry here.0 all.0, places-among P any fewer kept here.2 all.1))
    (λ further. places-among P any (entry ∷ fewer) kept further all.1) less

places-fewer : (P : List ℕ × ℕ → Type 0)
    → ((first entry : List ℕ × ℕ) → entry.0 ≡ first.0 → P first → P entry)
    → (fewer kept : Lengths) → Under fewer kept → All P kept → All P fewer
places-fewer P any fewer kept less all = All-from_recursion P fewer
    (places-among P any fewer kept less (recursion_from_All P kept all))

-- what may be kept in place of more: of an entry-sequenced part each with the length that it had
abbrev pub AreAmong : Bool → Lengths → Lengths → Type 0
AreAmong true fewer kept = Unit {0}
AreAmong false fewer kept = All (λ (entry : List ℕ × ℕ). Contains kept entry) fewer

abbrev pub MayKeepLess : Shape → Lengths → Lengths → Type 0
MayKeepLess (KeyedShape part) fewer kept = Unit {0}
MayKeepLess (NumberedShape part) fewer kept = AreAmong part.relative fewer kept

numbered-fewer : (part : Numbered) (may : ℕ → Block → Type 0) (fewer kept : Lengths)
    (relative : Bool) → part.relative ≡ relative → Under fewer kept → AreAmong relative fewer kept
    → KeepsNumbered part kept may → KeepsNumbered part fewer may
numbered-fewer part may fewer kept true is less among room =
    places-fewer (HasKeptPlace part may) (any-length part is may) fewer kept less room
numbered-fewer part may fewer kept false is less among room =
    All-weaker (Contains kept) (HasKeptPlace part may)
    (λ entry there. All-contains (HasKeptPlace part may) kept entry room there) fewer among

-- an area has room where less is kept
pub area-fewer : (part : Keyed) (fewer kept : Lengths) (now : Seen) → Under fewer kept
    → IsKeyedSound part now → KeepsRoom part kept now → KeepsRoom part fewer now
area-fewer part fewer kept now less sound room = record {
  places = places-fewer (λ (entry : List ℕ × ℕ). length entry.0 ≡ part.key)
      (λ first entry same is. ap length same ∙ is) fewer kept less room.places;
  each = λ top may. each-fewer part fewer kept now (low_of top) (entries_of top) less
      (sound.intervals top may) (room.each top may);
}

-- Where less is kept there is room too.
pub fewer-room : (shape : Shape) (owners : Owners) (fewer kept : Lengths) (now : Seen)
    → Under fewer kept → MayKeepLess shape fewer kept
    → IsSound shape owners now → HasKeptRoom shape kept now → HasKeptRoom shape fewer now
fewer-room (KeyedShape part) owners fewer kept now less among sound room = each-after-less part
    (IsRoomyArea part owners kept now) (λ area. KeepsRoom (area_of part area) fewer now) now.may
    now.may (λ area is. area-fewer (area_of part area) fewer kept now less is.0.1 is.1)
    (λ area is top may. may) (area_count part.geometry) part.first
    (roomy-each part owners kept now sound room)
fewer-room (NumberedShape part) owners fewer kept now less among sound room =
    numbered-fewer part now.may fewer kept part.relative refl less among room
