-- Where an entry-sequenced part puts its next record is what the record file says of its content.
use Rattle.std.proofs.Common.{◌≡◌, ◌+◌, ◌-◌, ◌*◌, ◌/◌, ◌^◌, ◌<◌, ◌≤◌, ℕ, Bool, true, false, cond}
use Rattle.std.proofs.Common.{List, [], ◌∷◌, ◌++◌, length, map, filter, sum, Some, None, refl, sym}
use Rattle.std.proofs.Common.{ap, subst, ◌∙◌, arith, eq-eqb, ne_eqb}
use Rattle.std.specs.Prelude.{◌≢◌, ◌&&◌, Option, nat_le}
use Rattle.std.specs.Int.{div_ceil}
use Rattle.std.specs.List.{AllByRecursion}
use Rattle.std.specs.declared.cmp.Ordering.{Ordering}
use Rattle.std.specs.declared.cmp.Ordering.TheVariants.{Less, Equal, Greater}
use Rattle.std.proofs.Math.Nat.{div-mul-le_self}
use Rattle.std.proofs.lemmas.Bool.{le-leb, lt-leb}
use Rattle.std.proofs.lemmas.Bool.Decides.{nat_tests}
use Rattle.std.proofs.lemmas.List.Elements.{filter-append}
use Rattle.std.proofs.lemmas.List.Sums.{sum_by-cons}
use Rattle.std.proofs.lemmas.Nat.{div-mul-add}
use Rattle.vr_types.specs.Content.{Content, Item, Placed, found_by, item_at, place_cmp}
use Rattle.vr_types.specs.Fields.{four}
use Rattle.vr_types.specs.Image.{Image}
use Rattle.vr_types.proofs.CallerLemmas.{same_place}
use Rattle.vr_ci.specs.Interval as ci
use Rattle.vr_space.specs.Entries.{Tail, address_after, bytes_in, entries_from, entry_of}
use Rattle.vr_space.specs.Entries.{item_length}
use Rattle.vr_space.specs.Numbered.{IsNumberPlace, IsTail, IsTailOf, NumberedStandsFor}
use Rattle.vr_space.specs.Numbered.{interval_of, items_at, number_of, span_by, start_by, start_of}
use Rattle.vr_space.specs.Rosters.{IsNumbered, Numbered, used_of}
use Rattle.vr_space.proofs.CallerLemmas.{NoneAt, none-record, number-four, number-place}
use Rattle.vr_history.specs.Address.{begins_in, is_spanned, last_interval, last_item, length_of}
use Rattle.vr_history.specs.Address.{lengths_taken, next_address, next_after, room_taken}
use Rattle.vr_event.proofs.EntryIntervals.{AllLie, EndsWith, HasIntervals, IsLying}
use Rattle.vr_event.proofs.EntryIntervals.{all-append, ends-with, entries-lie, entry-long}
use Rattle.vr_event.proofs.EntryIntervals.{has-intervals, intervals-lie, lengths-agree}
use Rattle.vr_event.proofs.EntryIntervals.{lie-wider, none-before, records-end, tail-fits}

-- ---- which of a content begin in an interval

-- an interval has the numbers from its own on
quotient : (size interval n : ℕ) → interval * size ≤ n → n < (interval + 1) * size
    → n / size ≡ interval
quotient size interval n least below =
    let parts : n ≡ interval * size + (n - interval * size) = omega (arith, least) in
    ap (λ (m : ℕ). m / size) parts
    ∙ div-mul-add interval size (n - interval * size) (omega (arith, least, below))

-- all of those that lie in it
begin-all : (most size interval : ℕ) (content : Content)
    → AllLie most (interval * size) ((interval + 1) * size) content
    → filter (begins_in size interval) content ≡ content
begin-all most size interval [] all = refl
begin-all most size interval (placed ∷ content) all =
    let rest : Content = filter (begins_in size interval) content in
    let here : begins_in size interval placed ≡ true =
    eq-eqb (number_of placed.0 / size) interval
    (quotient size interval (number_of placed.0) all.0.least all.0.below) in
    ap (λ (test : Bool). cond test (placed ∷ rest) rest) here
    ∙ ap (λ (xs : Content). placed ∷ xs) (begin-all most size interval content all.1)

-- and none of those before it
begin-none : (most from size interval : ℕ) (content : Content)
    → AllLie most from (interval * size) content
    → filter (begins_in size interval) content ≡ []
begin-none most from size interval [] all = refl
begin-none most from size interval (placed ∷ content) all =
    let rest : Content = filter (begins_in size interval) content in
    ap (λ (test : Bool). cond test (placed ∷ rest) rest)
    (ne_eqb (number_of placed.0 / size) interval other)
    ∙ begin-none most from size interval content all.1
  where
    other : number_of placed.0 / size ≡ interval → ⊥
    other same = absurd (omega (
      arith,
      all.0.below,
      subst (λ (q : ℕ). q * size ≤ number_of placed.0)
          same (div-mul-le_self (number_of placed.0) size),
    ))

-- ---- what they take

-- the bytes of an interval's items,
entries-lengths : (number : ℕ) (items : List ci.Item)
    → sum (map (λ (placed : Placed). length_of placed.1) (entries_from number items))
    ≡ bytes_in items
entries-lengths number [] = refl
entries-lengths number (item ∷ items) =
    let rest : Content = entries_from (number + length item.bytes) items in
    omega (
      arith,
      entry-long item,
      entries-lengths (number + length item.bytes) items,
      sum_by-cons (λ (n : ℕ). n) (length_of (entry_of item))
          (map (λ (placed : Placed). length_of placed.1) rest),
    )

-- and the room that they need
entries-room : (number : ℕ) (items : List ci.Item)
    → sum (map (λ (placed : Placed). length_of placed.1 + 3) (entries_from number items))
    ≡ ci.room items
entries-room number [] = refl
entries-room number (item ∷ items) =
    let rest : Content = entries_from (number + length item.bytes) items in
    omega (
      arith,
      entry-long item,
      entries-room (number + length item.bytes) items,
      sum_by-cons (λ (n : ℕ). n) (length_of (entry_of item) + 3)
          (map (λ (placed : Placed). length_of placed.1 + 3) rest),
    )

-- ---- the last one

-- the last item of a content that ends with these is one of them
record IsLast (P : Placed → Type 0) (content : Content) : Type 0 where
  last : Placed
  is : last_item content ≡ Some last
  has : P last

last-more : (P : Placed → Type 0) (placed : Placed) (content : Content) → IsLast P content
    → IsLast P (placed ∷ content)
last-more P placed [] of = absurd (none of.last of.is)
  where
    none : (last : Placed) → None ≡ Some last → ⊥
    none last is = cc
last-more P placed (next ∷ content) of = record { last = of.last; is = of.is; has = of.has }

last-these : (P : Placed → Type 0) (placed : Placed) (content : Content)
    → AllByRecursion P (placed ∷ content) → IsLast P (placed ∷ content)
last-these P placed [] all = record { last = placed; is = refl; has = all.0 }
last-these P placed (next ∷ content) all =
    last-more P placed (next ∷ content) (last-these P next content all.1)

last-after : (P : Placed → Type 0) (xs ys : Content) → IsLast P ys → IsLast P (xs ++ ys)
last-after P [] ys of = of
last-after P (placed ∷ xs) ys of = last-more P placed (xs ++ ys) (last-after P xs ys of)

-- ---- what is at a place

-- nothing at an address past all of them
none-past : (most from to n : ℕ) (content : Content) → AllLie most from to content → to ≤ n
    → n < 2 ^ 32 → NoneAt (four n) content
none-past most from to n [] all past fits = tt
none-past most from to n (placed ∷ content) all past fits = (
  λ same.
      let equal : n ≡ number_of placed.0 =
      sym (number-four n fits) ∙ ap number_of (same_place (four n) placed.0 same) in
      omega (arith, equal, past, all.0.below),
  none-past most from to n content all.1 past fits,
)

-- what is found there has what each item has
found-has : (P : Placed → Type 0) (content : Content) (place : List ℕ) (item : Item)
    → AllByRecursion P content → item_at content place ≡ Some item → P (place, item)
found-has P [] place item all is = absurd cc
found-has P (placed ∷ content) place item all is =
    by_order (place_cmp place placed.0) refl is (found-has P content place item all.1)
  where
    by_order : (order : Ordering) → place_cmp place placed.0 ≡ order
        → found_by order (Some placed.1) (item_at content place) ≡ Some item
        → (item_at content place ≡ Some item → P (place, item)) → P (place, item)
    by_order Less same found further = further found
    by_order Equal same found further =
        let here : placed.1 ≡ item = cc in
        let there : placed.0 ≡ place = sym (same_place place placed.0 same) in
        let one : placed ≡ (place, item) = λ i. (there i, here i) in
        subst P one all.0
    by_order Greater same found further = further found

-- ---- where a content has a last item

module _ (part : Numbered) (content : Content) (tail : Tail) (items : List ci.Item)
    (ends : EndsWith part content tail items) (plain : part.most + 7 ≤ part.geometry.size)
    (fits : (tail.interval + 1) * part.geometry.size < 2 ^ 32) where
  -- where its interval begins, and where that ends
  abbrev from : ℕ
  from = tail.interval * part.geometry.size

  abbrev to : ℕ
  to = (tail.interval + 1) * part.geometry.size

  abbrev these : Content
  these = entries_from from items

  -- the last of them ends within it
  end : from + bytes_in items < to
  end = omega (arith, records-end part items plain ends.records)

  these-lie : AllLie part.most from to these
  these-lie = entries-lie part.most from to from items ends.records.kept (omega arith)
      (omega (arith, end)) (omega (arith, fits))

  -- so they are those that begin there
  begin-there : filter (begins_in part.geometry.size tail.interval) content ≡ these
  begin-there =
      let here : Placed → Bool = begins_in part.geometry.size tail.interval in
      ap (filter here) ends.is
      ∙ filter-append here ends.before these
      ∙ ap (λ (xs : Content). xs ++ filter here these)
      (begin-none part.most 0 part.geometry.size tail.interval ends.before ends.lie)
      ∙ begin-all part.most part.geometry.size tail.interval these these-lie

  -- and what is taken there is what they take
  taken-room : room_taken part.geometry.size tail.interval content ≡ ci.room items
  taken-room =
      ap (λ (xs : Content). sum (map (λ (placed : Placed). length_of placed.1 + 3) xs)) begin-there
      ∙ entries-room from items

  taken-lengths : lengths_taken part.geometry.size tail.interval content ≡ bytes_in items
  taken-lengths =
      ap (λ (xs : Content). sum (map (λ (placed : Placed). length_of placed.1) xs)) begin-there
      ∙ entries-lengths from items

  -- and the last of all is one of them
  last-there : items ≢ [] → IsLast (IsLying part.most from to) content
  last-there some =
      subst (IsLast (IsLying part.most from to)) (sym ends.is)
      (last-after (IsLying part.most from to) ends.before these (by_items items some these-lie))
    where
      by_items : (xs : List ci.Item) → xs ≢ []
          → AllLie part.most from to (entries_from from xs)
          → IsLast (IsLying part.most from to) (entries_from from xs)
      by_items [] some lie = absurd (some refl)
      by_items (item ∷ xs) some lie =
          last-these (IsLying part.most from to) (four from, entry_of item)
          (entries_from (from + length item.bytes) xs) lie

  -- all lie before the end of the last
  all-before : AllLie part.most 0 (from + bytes_in items) content
  all-before =
      subst (AllLie part.most 0 (from + bytes_in items)) (sym ends.is)
      (all-append (IsLying part.most 0 (from + bytes_in items)) ends.before these
      (lie-wider part.most 0 from 0 (from + bytes_in items) ends.before (omega arith) (omega arith)
      ends.lie)
      (entries-lie part.most 0 (from + bytes_in items) from items ends.records.kept (omega arith)
      (omega arith) (omega (arith, end, fits))))

-- ---- the interval of an item

-- a record of the part isn't spanned,
not-spanned : (part : Numbered) (n : ℕ) → part.most + 7 ≤ part.geometry.size → n ≤ part.most
    → is_spanned part.geometry.size n ≡ false
not-spanned part n plain within = lt-leb (part.geometry.size - 6) n (omega (arith, plain, within))

-- so it ends in the interval in which it begins
ends-there : (part : Numbered) (address n : ℕ) → part.most + 7 ≤ part.geometry.size
    → n ≤ part.most
    → last_interval part.geometry.size address n ≡ address / part.geometry.size
ends-there part address n plain within =
    ap (λ (test : Bool). address / part.geometry.size
    + cond test (div_ceil n (part.geometry.size - 10)) 1 - 1) (not-spanned part n plain within)
    ∙ omega arith

-- ---- the next address

-- a spanned one needs more than there is
spanned-more : (size room n : ℕ) → 6 < size → is_spanned size n ≡ true
    → nat_le (room + (n + 3)) (size - 4) ≡ false
spanned-more size room n some spanned =
    let least : size - 6 ≤ n = grind (arith, nat_tests, spanned) in
    lt-leb (room + (n + 3)) (size - 4) (omega (arith, least, some))

-- what the record file says, from the last item
after-last : (part : Numbered) (content : Content) (tail : Tail) (n : ℕ) → 6 < part.geometry.size
    → room_taken part.geometry.size tail.interval content ≡ tail.room
    → lengths_taken part.geometry.size tail.interval content ≡ tail.bytes
    → (last : Placed)
    → is_spanned part.geometry.size (length_of last.1) ≡ false
    → last_interval part.geometry.size (number_of last.0) (length_of last.1) ≡ tail.interval
    → next_after part.geometry.size content n (Some last) ≡ address_after part (Some tail) n
after-last part content tail n some room bytes last short there =
    ap (λ (spanned : Bool). at spanned (is_spanned size n)
    (last_interval size (number_of last.0) (length_of last.1))) short
    ∙ ap (at false (is_spanned size n)) there
    ∙ ap (λ (m : ℕ). by_room (is_spanned size n) m (lengths_taken size tail.interval content))
    (omega (arith, room))
    ∙ ap (by_room (is_spanned size n) (tail.room + (n + 3))) bytes
    ∙ fits (is_spanned size n) refl
  where
    size : ℕ
    size = part.geometry.size

    at : Bool → Bool → ℕ → ℕ
    at one other interval =
        cond (cond one false true && (cond other false true
        && nat_le (room_taken size interval content + n + 3) (size - 4)))
        (interval * size + lengths_taken size interval content)
        ((interval + 1) * size)

    to : Bool → ℕ → ℕ
    to room taken = cond room (tail.interval * size + taken) ((tail.interval + 1) * size)

    by_room : Bool → ℕ → ℕ → ℕ
    by_room other need taken = to (cond other false true && nat_le need (size - 4)) taken

    fits : (other : Bool) → is_spanned size n ≡ other
        → by_room other (tail.room + (n + 3)) tail.bytes
        ≡ to (nat_le (tail.room + (n + 3)) (size - 4)) tail.bytes
    fits false is = refl
    fits true is =
        ap (λ (room : Bool). to room tail.bytes) (sym (spanned-more size tail.room n some is))

-- The next record goes where the record file says that it does, however long it is.
pub next-address : (part : Numbered) (image : Image) (content : Content) (tail : Option Tail)
    → part.relative ≡ false → NumberedStandsFor part image content → IsTailOf part image tail
    → (n : ℕ) → address_after part tail n ≡ next_address part.geometry.size content n
next-address part image content None entries stands is n =
    let has = has-intervals part image content entries stands in
    sym (ap (λ (xs : Content). next_address part.geometry.size xs n)
    (none-before part image content has is))
next-address part image content (Some tail) entries stands is n =
    let has = has-intervals part image content entries stands in
    let size = part.geometry.size in
    let items = items_at part image tail.interval in
    let ends = ends-with part image content tail has is in
    let fits : (tail.interval + 1) * size < 2 ^ 32 =
    omega (arith, tail-fits part image content tail has is, has.fits) in
    let of = last-there part content tail items ends has.plain fits is.some in
    let long : length_of of.last.1 ≤ part.most =
    omega (arith, lengths-agree of.last.1, of.has.within) in
    sym (ap (next_after size content n) of.is
    ∙ after-last part content tail n (omega (arith, has.plain))
    (taken-room part content tail items ends has.plain fits ∙ sym is.room)
    (taken-lengths part content tail items ends has.plain fits ∙ sym is.bytes) of.last
    (not-spanned part (length_of of.last.1) has.plain long)
    (ends-there part (number_of of.last.0) (length_of of.last.1) has.plain long
    ∙ quotient size tail.interval (number_of of.last.0) of.has.least of.has.below))

-- ---- its place

-- An address after the last item, in a used interval of the part or in the next one.
record IsAfter (part : Numbered) (image : Image) (tail : Tail) (address : ℕ) : Type 0 where
  past : tail.interval * part.geometry.size + tail.bytes ≤ address
  fits : address < 2 ^ 32
  used : address / part.geometry.size ≤ used_of part image

-- the end of the last item is in its interval
tail-end : (part : Numbered) (image : Image) (content : Content) (tail : Tail)
    → HasIntervals part image content → IsTail part image tail
    → tail.bytes < part.geometry.size
tail-end part image content tail has is =
    omega (
      arith,
      is.bytes,
      records-end part (items_at part image tail.interval) has.plain
          (has.records tail.interval is.used),
    )

-- which is that of the address
tail-quotient : (part : Numbered) (image : Image) (content : Content) (tail : Tail)
    → HasIntervals part image content → IsTail part image tail
    → (tail.interval * part.geometry.size + tail.bytes) / part.geometry.size ≡ tail.interval
tail-quotient part image content tail has is =
    div-mul-add tail.interval part.geometry.size tail.bytes
    (tail-end part image content tail has is)

-- so the next address is after it
after-tail : (part : Numbered) (image : Image) (content : Content) (tail : Tail) (n : ℕ)
    → HasIntervals part image content → IsTail part image tail
    → IsAfter part image tail (address_after part (Some tail) n)
after-tail part image content tail n has is =
    by_room (nat_le (tail.room + (n + 3)) (size - 4))
  where
    size : ℕ
    size = part.geometry.size

    past : tail.interval * size + tail.bytes < (tail.interval + 1) * size
    past = omega (arith, tail-end part image content tail has is)

    fits : (tail.interval + 1) * size < 2 ^ 32
    fits = omega (arith, tail-fits part image content tail has is, has.fits)

    by_room : (room : Bool) → IsAfter part image tail
        (cond room (tail.interval * size + tail.bytes) ((tail.interval + 1) * size))
    by_room true = record {
      past = omega arith;
      fits = omega (arith, past, fits);
      used = omega (arith, tail-quotient part image content tail has is, is.used);
    }
    by_room false = record {
      past = omega (arith, past);
      fits = fits;
      used = omega (
        arith,
        quotient size (tail.interval + 1) ((tail.interval + 1) * size) (omega arith)
            (omega (arith, has.plain)),
        is.used,
      );
    }

-- Nothing is there yet.
pub next-free : (part : Numbered) (image : Image) (content : Content) (tail : Option Tail)
    → part.relative ≡ false → NumberedStandsFor part image content → IsTailOf part image tail
    → (n : ℕ) → item_at content (four (address_after part tail n)) ≡ None
next-free part image content None entries stands is n =
    ap (λ (xs : Content). item_at xs (four 0))
    (none-before part image content (has-intervals part image content entries stands) is)
next-free part image content (Some tail) entries stands is n =
    let has = has-intervals part image content entries stands in
    let items = items_at part image tail.interval in
    let address = address_after part (Some tail) n in
    let after = after-tail part image content tail n has is in
    let fits : (tail.interval + 1) * part.geometry.size < 2 ^ 32 =
    omega (arith, tail-fits part image content tail has is, has.fits) in
    none-record (four address) content
    (none-past part.most 0 (tail.interval * part.geometry.size + bytes_in items) address content
    (all-before part content tail items (ends-with part image content tail has is) has.plain fits)
    (omega (arith, after.past, is.bytes)) after.fits)

-- the interval of a place is that of its number
interval-of-place : (part : Numbered) (place : List ℕ) → part.relative ≡ false
    → interval_of part place ≡ number_of place / part.geometry.size
interval-of-place part place entries =
    ap (λ (relative : Bool). (number_of place - start_by relative) / span_by relative part) entries
    ∙ ap (λ (n : ℕ). n / part.geometry.size) (omega arith)

-- so it is at an address
interval-of-address : (part : Numbered) (address : ℕ) → part.relative ≡ false → address < 2 ^ 32
    → interval_of part (four address) ≡ address / part.geometry.size
interval-of-address part address entries fits =
    interval-of-place part (four address) entries
    ∙ ap (λ (n : ℕ). n / part.geometry.size) (number-four address fits)

-- The place of the next record of that length: its number has room in four bytes, and the record
-- ends in the interval that it begins in, which is used or the next to be.
pub record IsNextPlace (part : Numbered) (image : Image) (address n : ℕ) : Type 0 where
  pub below : address < 2 ^ 32
  pub place : IsNumberPlace part (four address)
  pub interval : interval_of part (four address) ≡ last_interval part.geometry.size address n
  pub most : interval_of part (four address) ≤ used_of part image

-- an address below the end of the interval after the used ones has such a place
place-at : (part : Numbered) (image : Image) (address n : ℕ) → part.relative ≡ false
    → part.most + 7 ≤ part.geometry.size → n ≤ part.most → address < 2 ^ 32
    → address / part.geometry.size ≤ used_of part image → IsNextPlace part image address n
place-at part image address n entries plain within fits used =
    let start : start_of part ≡ 0 = ap start_by entries in
    let interval = interval-of-address part address entries fits in
    record {
      below = fits;
      place = number-place part address (omega (arith, start)) fits;
      interval = interval ∙ sym (ends-there part address n plain within);
      most = omega (arith, interval, used);
    }

-- The next record has such a place.
pub next-interval : (part : Numbered) (image : Image) (content : Content) (tail : Option Tail)
    → part.relative ≡ false → NumberedStandsFor part image content → IsTailOf part image tail
    → (n : ℕ) → n ≤ part.most → IsNextPlace part image (address_after part tail n) n
next-interval part image content None entries stands is n within =
    let plain : part.most + 7 ≤ part.geometry.size = stands.part_is.fits in
    place-at part image 0 n entries plain within (omega arith)
    (omega (arith, quotient part.geometry.size 0 0 (omega arith) (omega (arith, plain))))
next-interval part image content (Some tail) entries stands is n within =
    let has = has-intervals part image content entries stands in
    let after = after-tail part image content tail n has is in
    place-at part image (address_after part (Some tail) n) n entries has.plain within after.fits
    after.used

-- Beside the last item it begins in the same interval, which is used.
pub next-used : (part : Numbered) (image : Image) (content : Content) (tail : Tail)
    → part.relative ≡ false → NumberedStandsFor part image content → IsTail part image tail
    → (n : ℕ) → tail.room + (n + 3) ≤ part.geometry.size - 4
    → interval_of part (four (address_after part (Some tail) n)) < used_of part image
next-used part image content tail entries stands is n room =
    let has = has-intervals part image content entries stands in
    let size = part.geometry.size in
    let address = address_after part (Some tail) n in
    let beside : address ≡ tail.interval * size + tail.bytes =
    ap (λ (test : Bool). cond test (tail.interval * size + tail.bytes) ((tail.interval + 1) * size))
    (le-leb (tail.room + (n + 3)) (size - 4) room) in
    omega (
      arith,
      interval-of-address part address entries
          (after-tail part image content tail n has is).fits,
      ap (λ (m : ℕ). m / size) beside,
      tail-quotient part image content tail has is,
      is.used,
    )

-- ---- the items that are there

-- An item of the part has a byte or more, and is no longer than the longest record.
pub items-lengths : (part : Numbered) (image : Image) (content : Content) → part.relative ≡ false
    → NumberedStandsFor part image content → (place : List ℕ) (item : Item)
    → item_at content place ≡ Some item
    → (0 < item_length item) × (item_length item ≤ part.most)
items-lengths part image content entries stands place item is =
    let has = has-intervals part image content entries stands in
    let lies = found-has
    (IsLying part.most 0 (used_of part image * part.geometry.size)) content place item
    (intervals-lie part image content has) is in
    (lies.some, lies.within)

-- A record of the part ends in the interval of its place,
pub place-interval : (part : Numbered) (place : List ℕ) (n : ℕ) → part.relative ≡ false
    → IsNumbered part → n ≤ part.most
    → last_interval part.geometry.size (number_of place) n ≡ interval_of part place
place-interval part place n entries is within =
    ends-there part (number_of place) n is.fits within ∙ sym (interval-of-place part place entries)

-- and so does each item.
pub items-interval : (part : Numbered) (image : Image) (content : Content)
    → part.relative ≡ false → NumberedStandsFor part image content → (place : List ℕ)
    (item : Item) → item_at content place ≡ Some item
    → last_interval part.geometry.size (number_of place) (item_length item)
    ≡ interval_of part place
items-interval part image content entries stands place item is =
    place-interval part place (item_length item) entries stands.part_is
    (items-lengths part image content entries stands place item is).1
