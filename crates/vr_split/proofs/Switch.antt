-- An area of a keyed part as its head is replaced.
use Rattle.std.proofs.Common.{◌≡◌, inl, ⊎_elim, ◌<◌, ℕ, Bool, IsTrue, List}
use Rattle.std.proofs.Common.{[], ◌∷◌, Option, Some, None, refl, sym, ap, subst, ◌∙◌}
use Rattle.std.proofs.Common.{arith}
use Rattle.std.specs.Prelude.{IfSome, slice_index}
use Rattle.vr_types.specs.Content.{Item, item_at}
use Rattle.vr_types.specs.Image.{Block, Image, MayAlso, block_at}
use Rattle.vr_types.specs.Seen.{Seen, Left, Only}
use Rattle.vr_types.specs.Blocks.{Puts}
use Rattle.vr_types.specs.Regions.{Touches}
use Rattle.vr_types.proofs.CallerLemmas.{cur-elsewhere, cur-put, puts-touches}
use Rattle.vr_seqset.specs.Entry.{Entry}
use Rattle.vr_space.specs.Way.{found_on, MayFind, MayOnceForced}
use Rattle.vr_space.specs.Room.{Lengths, Range, HaveRoom}
use Rattle.vr_space.specs.Keyed.{HasEnds, InArea, Keyed, IsHead, HoldsRange, EachMayLeave}
use Rattle.vr_space.specs.Keyed.{IsKeyedAtRest, IsKeyedSound, KeepsEnds, KeepsRoom}
use Rattle.vr_space.specs.Keyed.{entries_of, entry_block, entry_in, lengths_of}
use Rattle.vr_space.specs.Keyed.{low_of, records_of, way_in, way_under}
use Rattle.vr_space.specs.Part.{Nothing}
use Rattle.vr_space.specs.AreaCalls.{AddsHere, DueMoreHere, HasRoomHere, MayHoldHere, SameHere}
use Rattle.vr_space.specs.AreaCalls.{item_here}
use Rattle.vr_space.proofs.CallerLemmas.{area-room-image, each-less, entry-in-above, head-in}
use Rattle.vr_space.proofs.CallerLemmas.{same-ends}
use Rattle.vr_split.specs.Switching.{OfBlock, SwitchesAt, CanSwitch}
use Rattle.vr_split.proofs.Puts.{after-put, also, current-held, each-also, puts-adds}

module _ (part : Keyed) (tells : Bool) (told : IsTrue tells) (a b : Seen) (top : Block) where
  -- no interval is the head
  of-head : (P : Range → Type 0) (low : Option (List ℕ)) (entries : List Entry)
      → OfBlock part part.head low entries P
  of-head P low [] = tt
  of-head P low (entry ∷ entries) =
      (λ here. absurd (omega (arith, here)), of-head P (Some entry.high) entries)

  -- an interval has what it had
  still-in : (Q : Range → Block → Type 0) (low : Option (List ℕ)) (entries : List Entry)
      → EachMayLeave part a low entries Q → EachMayLeave part (also a part.head top) low entries Q
  still-in Q low entries left =
      each-also part a part.head top Q low entries left (of-head (λ range. Q range top) low entries)

  pub switch-sound : (kept : Lengths) → IsKeyedSound part a → CanSwitch part kept top a
      → IsKeyedSound part (also a part.head top)
  switch-sound kept sound can = record {
    area = sound.area;
    size = sound.size;
    heads = λ head. ⊎_elim (λ old. sound.heads head old)
        (λ new. subst (IsHead part) (sym new.1) can.head);
    intervals = λ head. ⊎_elim
        (λ old. still-in (HoldsRange part) (low_of head) (entries_of head)
        (sound.intervals head old))
        (λ new. subst
        (λ (h : Block). EachMayLeave part (also a part.head top) (low_of h) (entries_of h)
        (HoldsRange part)) (sym new.1)
        (still-in (HoldsRange part) (low_of top) (entries_of top) can.holds));
  }

  -- what is found in an interval
  still-found : (place : List ℕ) (item : Option Item) (found : Option (Range × Entry))
      → MayFind (MayAlso a.may part.head top) item (way_in part place found)
      → MayFind a.may item (way_in part place found)
  still-found place item None is = is
  still-found place item (Some at) is =
      (is.0, ⊎_elim (λ old. old) (λ new. absurd (omega (arith, new.0))) is.1, is.2)

  -- by way of the new head what may be held is found
  leads : (place : List ℕ) (item : Option Item) → IsKeyedSound part a → Left a a.cur
      → SwitchesAt part top a place → MayFind a.may item (way_under part place top)
      → MayHoldHere part a.may place item
  leads place item sound left switches find = ⊎_elim
      (λ same. (
        block_at a.cur part.head,
        left.each part.head (omega (arith, sound.area)),
        subst
            (MayFind a.may item) same find,
      ))
      (λ new.
      let there : MayFind a.may item (way_in part place (Some new.0)) =
      subst (λ (found : Option (Range
      × Entry)). MayFind a.may item (way_in part place found)) new.1 find in
      subst (MayHoldHere part a.may place) (sym (there.2
      ∙ new.2 there.0 there.1))
      (current-held part tells told a b part.head top sound left place))
      switches

  -- the new head has the ends of the current one
  switch-ends : (kept : Lengths) → IsKeyedSound part a → Left a a.cur → CanSwitch part kept top a
      → KeepsEnds part a (also a part.head top)
  switch-ends kept sound left can = λ head. ⊎_elim
      (λ old. (head, old, same-ends head))
      (λ new. (
        block_at a.cur part.head,
        left.each part.head (omega (arith, sound.area)),
        subst (HasEnds (block_at a.cur part.head)) (sym new.1) can.ends,
      ))

  -- so has the one that is read then, whether the put failed or not
  pub switch-current : (kept : Lengths) → IsKeyedSound part a → Left a a.cur
      → Puts tells part.head top a b → CanSwitch part kept top a
      → HasEnds (block_at a.cur part.head) (block_at b.cur part.head)
  switch-current kept sound left call can = ⊎_elim
      (λ same. subst (HasEnds (block_at a.cur part.head)) (sym same)
      (same-ends (block_at a.cur part.head)))
      (λ new. subst (HasEnds (block_at a.cur part.head)) (sym new) can.ends)
      (after-put part tells told a b part.head top call (omega (arith, sound.area))
      left.length_is)

  pub switch-adds : (kept : Lengths) → IsKeyedSound part a → Left a a.cur
      → Puts tells part.head top a b → CanSwitch part kept top a → AddsHere part Nothing a b
  switch-adds kept sound left call can =
      puts-adds part tells Nothing part.head top a b told call (omega arith, omega arith)
      (switch-sound kept sound can)
      (λ place item holds.
      let find : MayFind a.may item
      (way_in part place (entry_in holds.0 place)) =
      still-found place item (entry_in holds.0 place) holds.2 in
      ⊎_elim
      (λ old. inl (holds.0, old, find))
      (λ new. inl (leads place item sound left (can.places place)
      (subst (λ (head : Block). MayFind a.may item (way_under part place head)) new.1
      find)))
      holds.1)
      (switch-ends kept sound left can)

  -- intervals are read as before
  read-still : (place : List ℕ) (found : Option (Range × Entry)) → Puts tells part.head top a b
      → found_on b.cur (way_in part place found) ≡ found_on a.cur (way_in part place found)
  read-still place None call = refl
  read-still place (Some at) call =
      ap (λ (block : Block). item_at (records_of part block) place)
      (cur-elsewhere tells a b (entry_block part at.1) part.head top told
      (λ same. omega (arith, same)) call)

  -- the new head leads to the record
  shows : (place : List ℕ) → Left a a.cur
      → ((at : Range × Entry) → entry_in top place ≡ Some at
      → entry_block part at.1 < a.count) → SwitchesAt part top a place
      → found_on a.cur (way_under part place top) ≡ item_here part a.cur place
  shows place left below = ⊎_elim
      (λ same. ap (found_on a.cur) same)
      (λ new. ap (λ (found : Option (Range
      × Entry)). found_on a.cur (way_in part place found)) new.1
      ∙ new.2 (block_at a.cur (entry_block part new.0.1))
      (left.each (entry_block part new.0.1) (below new.0 new.1)))

  some-in : (found : Option (Range × Entry)) (at : Range × Entry) → found ≡ Some at
      → IfSome found (λ f. slice_index f.1.intervals 0 < part.area)
      → slice_index at.1.intervals 0 < part.area
  some-in found at is within =
      subst (λ (o : Option (Range
      × Entry)). IfSome o (λ f. slice_index f.1.intervals 0 < part.area)) is within

  entry-below : IsKeyedSound part a → IsHead part top → (place : List ℕ) (at : Range × Entry)
      → entry_in top place ≡ Some at → entry_block part at.1 < a.count
  entry-below sound head place at is =
      omega (
        arith,
        sound.area,
        some-in (entry_in top place) at is
            (entry-in-above part.area (low_of top) (entries_of top) place (head-in part top head)),
      )

  -- each place has its record, whether the put failed or not
  pub switch-same : (kept : Lengths) → IsKeyedSound part a → Left a a.cur
      → Puts tells part.head top a b → CanSwitch part kept top a
      → SameHere part a.cur b.cur
  switch-same kept sound left call can place = ⊎_elim
      (λ same. ap (λ (image : Image). item_here part image place) same)
      (λ set. ap (λ (head : Block). found_on b.cur (way_under part place head))
      (cur-put a part.head top (omega (arith, sound.area)) left.length_is b.cur set)
      ∙ read-still place (entry_in top place) call
      ∙ shows place left (entry-below sound can.head place) (can.places place))
      (call.content told)

  -- it has room for what is kept
  pub switch-room : (kept : Lengths) → IsKeyedSound part a → Puts tells part.head top a b
      → CanSwitch part kept top a → KeepsRoom part kept a → KeepsRoom part kept b
  switch-room kept sound call can room = record {
    places = room.places;
    each = λ head may.
        let Q : Range → Block → Type 0 =
        λ range block. HaveRoom part.size (lengths_of part kept range block) in
        let is : IsHead part head =
        (switch-sound kept sound can).heads head
        (call.adds told part.head head (omega (arith, sound.area)) may) in
        let left : EachMayLeave part (also a part.head top) (low_of head) (entries_of head) Q =
        ⊎_elim
        (λ old. still-in Q (low_of head) (entries_of head) (room.each head old))
        (λ new. subst
        (λ (h : Block). EachMayLeave part (also a part.head top) (low_of h) (entries_of h) Q)
        (sym new.1) (still-in Q (low_of top) (entries_of top) can.room))
        (call.adds told part.head head (omega (arith, sound.area)) may) in
        each-less part (also a part.head top) b Q (low_of head) (entries_of head)
        (λ k block within now. call.adds told k block within.0 now) sound.area
        (head-in part head is) left;
  }

  -- with the new head too, whichever is left
  room-also : (kept : Lengths) → CanSwitch part kept top a → KeepsRoom part kept a
      → KeepsRoom part kept (also a part.head top)
  room-also kept can room = record {
    places = room.places;
    each = λ head may.
        let Q : Range → Block → Type 0 =
        λ range block. HaveRoom part.size (lengths_of part kept range block) in
        ⊎_elim (λ old. still-in Q (low_of head) (entries_of head) (room.each head old))
        (λ new. subst
        (λ (h : Block). EachMayLeave part (also a part.head top) (low_of h) (entries_of h) Q)
        (sym new.1) (still-in Q (low_of top) (entries_of top) can.room)) may;
  }

  -- and so has the image of each moment
  pub switch-rooms : (kept : Lengths) → IsKeyedSound part a → Puts tells part.head top a b
      → CanSwitch part kept top a → KeepsRoom part kept a
      → Touches (InArea part) (HasRoomHere part kept) a b
  switch-rooms kept sound call can room =
      puts-touches tells (InArea part) (HasRoomHere part kept) part.head top a b told
      (omega arith, omega arith) call
      (area-room-image part kept (also a part.head top) (switch-sound kept sound can)
      (room-also kept can room))

  -- once the new head is stable the area is at rest
  pub switch-rest : IsKeyedSound part b → Only b part.head (λ head. head ≡ top)
      → block_at b.cur part.head ≡ top → IsKeyedAtRest part b
  switch-rest sound only now =
      record { sound = sound; one_head = λ head may. only head may ∙ sym now }

  once-still : (listed place : List ℕ) (item : Option Item) (found : Option (Range × Entry))
      → Puts tells part.head top a b
      → ((at : Range × Entry) → found ≡ Some at → entry_block part at.1 < a.count)
      → MayFind (MayOnceForced listed b) item (way_in part place found)
      → MayFind (MayOnceForced listed a) item (way_in part place found)
  once-still listed place item None call below is = is
  once-still listed place item (Some at) call below is =
      let still : block_at b.cur (entry_block part at.1) ≡ block_at a.cur (entry_block part at.1) =
      cur-elsewhere tells a b (entry_block part at.1) part.head top told
      (λ same. omega (arith, same)) call in (
        is.0,
        (
          ⊎_elim (λ old. old) (λ new. absurd (omega (arith, new.0)))
              (call.adds told (entry_block part at.1) is.0 (below at refl) is.1.0),
          λ there. is.1.1
              there ∙ still,
        ),
        is.2,
      )

  -- and what had to be forced for a place has to be
  pub switch-due : (kept : Lengths) → IsKeyedSound part a → Left a a.cur
      → Puts tells part.head top a b → CanSwitch part kept top a
      → Only b part.head (λ head. head ≡ top) → DueMoreHere part [] a b
  switch-due kept sound left call can only listed place due within item is =
      let find : MayFind (MayOnceForced listed a) item (way_under part place top) =
      once-still listed place item (entry_in top place) call
      (entry-below sound can.head place)
      (subst (λ (head : Block). MayFind (MayOnceForced listed b) item (way_under part place head))
      (only is.0 is.1.0) is.2) in
      ⊎_elim
      (λ same. due item (
        block_at a.cur part.head,
        (left.each part.head (omega (arith, sound.area)), λ there. refl),
        subst
            (MayFind (MayOnceForced listed a) item) same find,
      ))
      (λ new.
      let there : MayFind (MayOnceForced listed a) item (way_in part place (Some new.0)) =
      subst (λ (found : Option (Range
      × Entry)). MayFind (MayOnceForced listed a) item (way_in part place found)) new.1 find
      in
      there.2 ∙ new.2 there.0 there.1.0)
      (can.places place)
      ∙ sym (switch-same kept sound left call can place)
