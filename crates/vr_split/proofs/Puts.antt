-- A put into one block of an area of a keyed part: what it owes, and what it adds to what places may
-- hold.
use Rattle.std.proofs.Common.{◌≡◌, ◌≢◌, ◌⊎◌, inl, inr, ⊎_elim, ◌<◌, ℕ, Bool, IsTrue, true}
use Rattle.std.proofs.Common.{false, List, [], ◌∷◌, Option, Some, None, refl, sym, ap, subst, ◌∙◌}
use Rattle.std.proofs.Common.{arith, true≢false, is_some, length}
use Rattle.std.specs.Prelude.{cond, unwrap_or}
use Rattle.std.specs.Ordering.{is_le}
use Rattle.std.proofs.lemmas.Bool.{cases_lt}
use Rattle.vr_types.specs.Content.{Item, item_at, place_cmp}
use Rattle.vr_types.specs.Image.{Block, Image, MayAlso, block_at}
use Rattle.vr_types.specs.Seen.{Seen, Left}
use Rattle.vr_types.specs.Blocks.{Puts}
use Rattle.vr_types.proofs.CallerLemmas.{puts-touches, cur-elsewhere, cur-put}
use Rattle.vr_seqset.specs.Entry.{Entry}
use Rattle.vr_space.specs.Way.{found_on, MayFind}
use Rattle.vr_space.specs.Room.{Range}
use Rattle.vr_space.specs.Keyed.{Keyed, HoldsRange, EachMayLeave, InArea, IsKeyedSound, KeepsEnds}
use Rattle.vr_space.specs.Keyed.{IsKeyedAtRest, entries_of, entry_block, entry_for, entry_in}
use Rattle.vr_space.specs.Keyed.{area_way, low_of, range_of, records_of, way_in, way_under}
use Rattle.vr_space.specs.Part.{Nothing, Just}
use Rattle.vr_space.specs.AreaCalls.{AddsHere, HasHere, MayAlsoHoldHere, MayHoldHere, SameHere}
use Rattle.vr_space.specs.AreaCalls.{item_here}
use Rattle.vr_space.proofs.CallerLemmas.{found-may, find-less, found-above}
use Rattle.vr_space.proofs.CallerLemmas.{keyed-within, keyed-image, keyed-less, IsBlock}
use Rattle.vr_space.proofs.CallerLemmas.{ends-less, ends-then, here-since, here-weaken}
use Rattle.vr_split.specs.Switching.{OfRead, entry_read}
pub use Rattle.vr_split.specs.Switching.{OfBlock}

-- what is seen, and what a put may leave beside it
abbrev pub also : Seen → ℕ → Block → Seen
also a n bytes = record {
  count = a.count;
  size = a.size;
  cur = a.cur;
  may = MayAlso a.may n bytes;
  moment = a.moment;
  images = a.images;
}

-- with less of it the area stays sound
pub sound-put : (part : Keyed) (tells : Bool) (n : ℕ) (bytes : Block) (a b : Seen)
    → IsTrue tells → Puts tells n bytes a b → IsKeyedSound part (also a n bytes)
    → IsKeyedSound part b
sound-put part tells n bytes a b told call sound =
    keyed-less part (also a n bytes) b call.count_same call.size_same
    (λ k block is may. call.adds told k block is.0 may) sound

-- A put into a block of the area: it owes that what a crash may leave is in order with the bytes
-- too, that heads keep their ends, and that A allows what may be held then.
pub puts-adds : (part : Keyed) (tells : Bool) (A : List ℕ → Option Item
    → Type 0) (n : ℕ) (bytes : Block) (a b : Seen) → IsTrue tells → Puts tells n bytes a b
    → InArea part n → IsKeyedSound part (also a n bytes)
    → ((place : List ℕ) (item : Option Item)
    → MayHoldHere part (MayAlso a.may n bytes) place item
    → MayAlsoHoldHere part a.may A place item)
    → KeepsEnds part a (also a n bytes) → AddsHere part A a b
puts-adds part tells A n bytes a b told call inside sound allowed ends =
    let more : Seen = also a n bytes in
    let within : (k : ℕ) (block : Block) → IsBlock part more k → b.may k block
    → MayAlso a.may n bytes k block = λ k block is may. call.adds told k block is.0 may in
    record {
      touches = puts-touches tells (InArea part) (HasHere part a (MayAlsoHoldHere part a.may A)) n
          bytes a b told inside call
          (λ image left. here-weaken part a (MayHoldHere part more.may)
          (MayAlsoHoldHere part a.may A) allowed image
          (here-since part a more (MayHoldHere part more.may) ends image
          (keyed-image part more sound image left)));
      rest = λ place item holds. allowed place item
          (find-less (IsBlock part more) b.may more.may item within (area_way part place)
          (keyed-within part more sound place) holds);
      sound = sound-put part tells n bytes a b told call sound;
      ends = ends-then part a more b ends
          (ends-less part more b
          (λ top may. call.adds told part.head top (omega (arith, sound.area)) may));
    }

-- ---- a put into an interval

pub each-also : (part : Keyed) (a : Seen) (n : ℕ) (bytes : Block) (Q : Range → Block
    → Type 0) (low : Option (List ℕ)) (entries : List Entry) → EachMayLeave part a low entries Q
    → OfBlock part n low entries (λ range. Q range bytes)
    → EachMayLeave part (also a n bytes) low entries Q
each-also part a n bytes Q low [] left of = tt
each-also part a n bytes Q low (entry ∷ entries) left of = (
  λ block. ⊎_elim (λ old. left.0 block old)
      (λ new. subst (Q (range_of low entry)) (sym new.1) (of.0 new.0)),
  each-also part a n bytes Q (Some entry.high) entries left.1 of.1,
)

module _ (part : Keyed) (a : Seen) (n : ℕ) (bytes : Block) where
  -- the heads that may be left are those that might have been
  head-may : n ≢ part.head → (top : Block) → MayAlso a.may n bytes part.head top
      → a.may part.head top
  head-may other top = ⊎_elim (λ old. old) (λ new. absurd (other (sym new.0)))

  -- so they keep their ends
  pub interval-ends : n ≢ part.head → KeepsEnds part a (also a n bytes)
  interval-ends other = ends-less part a (also a n bytes) (head-may other)

  pub interval-sound : IsKeyedAtRest part a → n ≢ part.head
      → OfRead part a.cur n (λ range. HoldsRange part range bytes)
      → IsKeyedSound part (also a n bytes)
  interval-sound rests other of = record {
    area = rests.sound.area;
    size = rests.sound.size;
    heads = λ top may. rests.sound.heads top (head-may other top may);
    intervals = λ top may. each-also part a n bytes (HoldsRange part) (low_of top)
        (entries_of top) (rests.sound.intervals top (head-may other top may))
        (subst (λ (head : Block). OfBlock part n (low_of head) (entries_of head)
        (λ range. HoldsRange part range bytes))
        (sym (rests.one_head top (head-may other top may))) of);
  }

  -- what may be found in an interval beside what might have been
  found-also : (place : List ℕ) (item : Option Item) (found : Option (Range × Entry))
      → MayFind (MayAlso a.may n bytes) item (way_in part place found)
      → MayFind a.may item (way_in part place found)
      ⊎ ((at : Range × Entry) × (found ≡ Some at) × (entry_block part at.1 ≡ n)
      × (item ≡ item_at (records_of part bytes) place))
  found-also place item None is = inl is
  found-also place item (Some at) is = ⊎_elim
      (λ old. inl (is.0, old, is.2))
      (λ new. inr (
        at,
        refl,
        new.0,
        is.2
            ∙ ap (λ (block : Block). item_at (records_of part block) place) new.1,
      ))
      is.1

  -- what may be held with the bytes: what might have been, or what they have where the entries lead
  -- there
  pub interval-hold : IsKeyedAtRest part a → n ≢ part.head
      → (place : List ℕ) (item : Option Item)
      → MayHoldHere part (MayAlso a.may n bytes) place item
      → MayHoldHere part a.may place item
      ⊎ ((at : Range × Entry) × (entry_read part a.cur place ≡ Some at)
      × (entry_block part at.1 ≡ n) × (item ≡ item_at (records_of part bytes) place))
  interval-hold rests other place item is =
      let may : a.may part.head is.0 = head-may other is.0 is.1 in
      ⊎_elim
      (λ old. inl (is.0, may, old))
      (λ new. inr (
        new.0,
        sym (ap (λ (head : Block). entry_in head place) (rests.one_head is.0 may)) ∙ new.1,
        new.2,
        new.3,
      ))
      (found-also place item (entry_in is.0 place) is.2)

  -- where the entries lead to the block, the bytes have the current record
  abbrev pub KeepsRecords : Type 0
  KeepsRecords = (place : List ℕ) (at : Range × Entry) → entry_read part a.cur place ≡ Some at
      → entry_block part at.1 ≡ n
      → item_at (records_of part bytes) place ≡ item_here part a.cur place

  -- or they do at all places but one, which has this
  abbrev pub KeepsOthers : List ℕ → Option Item → Type 0
  KeepsOthers at new = (place : List ℕ) (found : Range × Entry)
      → entry_read part a.cur place ≡ Some found → entry_block part found.1 ≡ n
      → (item_at (records_of part bytes) place ≡ item_here part a.cur place)
      ⊎ ((place ≡ at) × (item_at (records_of part bytes) place ≡ new))

-- ---- how entries lead

no_some : (o : Option (Range × Entry)) (at : Range × Entry) → o ≡ None → o ≡ Some at → ⊥
no_some o at none some = true≢false (ap is_some (sym some ∙ none))

-- an entry that leads to the block has a range with P
pub of-found : (part : Keyed) (n : ℕ) (low : Option (List ℕ)) (entries : List Entry) (P : Range
    → Type 0) (place : List ℕ) (at : Range × Entry) → OfBlock part n low entries P
    → entry_for low entries place ≡ Some at → entry_block part at.1 ≡ n → P at.0
of-found part n low [] P place at of is here = absurd (no_some None at refl is)
of-found part n low (entry ∷ entries) P place at of is here =
    reached (is_le (place_cmp place entry.high)) is
    (λ further. of-found part n (Some entry.high) entries P place at of.1 further here)
  where
    reached : (b : Bool)
        → cond b (Some (range_of low entry, entry)) (entry_for (Some entry.high) entries place) ≡
        Some at → (entry_for (Some entry.high) entries place ≡ Some at → P at.0) → P at.0
    reached true same more =
        let found : (let pair : Range × Entry = (range_of low entry, entry) in pair) ≡ at =
        ap (λ (o : Option (Range × Entry)). unwrap_or o at) same in
        subst (λ (f : Range × Entry). entry_block part f.1 ≡ n → P f.0) found of.0 here
    reached false same more = more same

-- the same of one that is found in a head
pub of-found-in : (part : Keyed) (n : ℕ) (top : Block) (P : Range → Type 0) (place : List ℕ)
    (at : Range × Entry) → OfBlock part n (low_of top) (entries_of top) P
    → entry_in top place ≡ Some at → entry_block part at.1 ≡ n → P at.0
of-found-in part n top P place at of is =
    of-found part n (low_of top) (entries_of top) P place at of
    (found-above (low_of top) (entries_of top) place at is).leads

-- ---- what a put into an interval adds

module _ (part : Keyed) (tells : Bool) (told : IsTrue tells) (a b : Seen) (n : ℕ) (bytes : Block)
  where
    -- what is read may be held
    pub current-held : IsKeyedSound part a → Left a a.cur → (place : List ℕ)
        → MayHoldHere part a.may place (item_here part a.cur place)
    current-held sound left place =
        found-may (IsBlock part a) a.may a.cur (λ k is. left.each k is.0) (area_way part place)
        (keyed-within part a sound place)

    -- an interval is written with the records that it has
    pub rewrite-adds : IsKeyedAtRest part a → Left a a.cur → Puts tells n bytes a b → n ≢ part.head
        → InArea part n → OfRead part a.cur n (λ range. HoldsRange part range bytes)
        → KeepsRecords part a n bytes → AddsHere part Nothing a b
    rewrite-adds rests left call other inside of keeps =
        puts-adds part tells Nothing n bytes a b told call inside
        (interval-sound part a n bytes rests other of)
        (λ place item holds. ⊎_elim
        (λ old. inl old)
        (λ new. inl (subst (MayHoldHere part a.may place) (sym (new.3
        ∙ keeps place new.0 new.1 new.2)) (current-held rests.sound left place)))
        (interval-hold part a n bytes rests other place item holds))
        (interval-ends part a n bytes other)

    -- it is written with one record changed
    pub set-adds : (at : List ℕ) (new : Option Item) → IsKeyedAtRest part a → Left a a.cur
        → Puts tells n bytes a b → n ≢ part.head → InArea part n
        → OfRead part a.cur n (λ range. HoldsRange part range bytes)
        → KeepsOthers part a n bytes at new → AddsHere part (Just at new) a b
    set-adds at new rests left call other inside of keeps =
        puts-adds part tells (Just at new) n bytes a b told call inside
        (interval-sound part a n bytes rests other of)
        (λ place item holds. ⊎_elim
        (λ old. inl old)
        (λ led. ⊎_elim
        (λ same. inl (subst (MayHoldHere part a.may place) (sym (led.3
        ∙ same)) (current-held rests.sound left place)))
        (λ here. inr (here.0, led.3 ∙ here.1))
        (keeps place led.0 led.1 led.2))
        (interval-hold part a n bytes rests other place item holds))
        (interval-ends part a n bytes other)

    -- no entry leads to the block
    abbrev pub IsFreeBlock : Type 0
    IsFreeBlock = OfRead part a.cur n (λ range. ⊥)

    -- a free interval is written
    pub free-adds : IsKeyedAtRest part a → Left a a.cur → Puts tells n bytes a b → n ≢ part.head
        → InArea part n → IsFreeBlock → AddsHere part Nothing a b
    free-adds rests left call other inside free =
        let top : Block = block_at a.cur part.head in
        rewrite-adds rests left call other inside (of-none (low_of top) (entries_of top) free)
        (λ place at is here. absurd (of-found-in part n top (λ range. ⊥) place at free is here))
      where
        of-none : (low : Option (List ℕ)) (entries : List Entry)
            → OfBlock part n low entries (λ range. ⊥)
            → OfBlock part n low entries (λ range. HoldsRange part range bytes)
        of-none low [] free = tt
        of-none low (entry ∷ entries) free =
            (λ here. absurd (free.0 here), of-none (Some entry.high) entries free.1)

    -- ---- what is read afterwards

    pub equal_or : (k m : ℕ) → (k ≡ m) ⊎ (k ≢ m)
    equal_or k m =
        ⊎_elim (λ less. inr (λ same. omega (arith, less, same)))
        (λ most. ⊎_elim (λ less. inr (λ same. omega (arith, less, same)))
        (λ least. inl (omega (arith, most, least))) (cases_lt m k)) (cases_lt k m)

    pub head-still : Puts tells n bytes a b → n ≢ part.head
        → block_at b.cur part.head ≡ block_at a.cur part.head
    head-still call other =
        cur-elsewhere tells a b part.head n bytes told (λ same. other (sym same)) call

    -- by way of the same entries
    pub still-found : (place : List ℕ) (found : Option (Range × Entry)) → Puts tells n bytes a b
        → ((at : Range × Entry) → found ≡ Some at → entry_block part at.1 ≡ n
        → item_at (records_of part (block_at b.cur n)) place ≡ item_at
        (records_of part (block_at a.cur n)) place)
        → found_on b.cur (way_in part place found) ≡ found_on a.cur (way_in part place found)
    still-found place None call here = refl
    still-found place (Some at) call here = ⊎_elim
        (λ same. ap (λ (k : ℕ). item_at (records_of part (block_at b.cur k)) place) same
        ∙ here at refl same
        ∙ ap (λ (k : ℕ). item_at (records_of part (block_at a.cur k)) place) (sym same))
        (λ apart. ap (λ (block : Block). item_at (records_of part block) place)
        (cur-elsewhere tells a b (entry_block part at.1) n bytes told apart call))
        (equal_or (entry_block part at.1) n)

    -- the block has what it had, or the bytes
    pub after-put : Puts tells n bytes a b → n < a.count → length a.cur ≡ a.count
        → (block_at b.cur n ≡ block_at a.cur n) ⊎ (block_at b.cur n ≡ bytes)
    after-put call below long = ⊎_elim
        (λ same. inl (ap (λ (image : Image). block_at image n) same))
        (λ set. inr (cur-put a n bytes below long b.cur set))
        (call.content told)

    pub led-is : (place : List ℕ) (at : Range × Entry)
        → entry_read part a.cur place ≡ Some at
        → item_here part a.cur place ≡ item_at
        (records_of part (block_at a.cur (entry_block part at.1))) place
    led-is place at is =
        ap (λ (found : Option (Range × Entry)). found_on a.cur (way_in part place found)) is

    -- each place has its record, whether the put failed or not
    pub rewrite-same : Puts tells n bytes a b → n ≢ part.head → n < a.count → length a.cur ≡ a.count
        → KeepsRecords part a n bytes → SameHere part a.cur b.cur
    rewrite-same call other below long keeps place =
        ap (λ (top : Block). found_on b.cur (way_under part place top)) (head-still call other)
        ∙ still-found place (entry_read part a.cur place) call
        (λ at is here. ⊎_elim
        (λ same. ap (λ (block : Block). item_at (records_of part block) place) same)
        (λ new. ap (λ (block : Block). item_at (records_of part block) place) new
        ∙ keeps place at is here ∙ led-is place at is
        ∙ ap (λ (k : ℕ). item_at (records_of part (block_at a.cur k)) place) here)
        (after-put call below long))
