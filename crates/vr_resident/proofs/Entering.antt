-- What a block that comes in, or is used again, makes of the frames.
use Rattle.std.proofs.Common.{◌≡◌, inl, inr, ⊎_elim, ◌<◌, ℕ, Bool, true, false, IsTrue, List, []}
use Rattle.std.proofs.Common.{◌∷◌, ◌++◌, refl, sym, ap, ◌∙◌, subst, arith, slice_set, true≢false}
use Rattle.std.proofs.lemmas.Bool.{eqb-false, eqb-true}
use Rattle.std.specs.List.{AllByRecursion}
use Rattle.std.proofs.lemmas.List.Concat.{flat_map-append}
use Rattle.vr_types.specs.Image.{Block, Image, block_at}
use Rattle.vr_types.specs.Seen.{Seen, Left}
use Rattle.vr_types.specs.Blocks.{Keeps, Puts}
use Rattle.vr_types.proofs.CallerLemmas.{keeps-then}
use Rattle.vr_resident.specs.Held.{Held, IsHeld, IsOther, overlay, over}
use Rattle.vr_resident.specs.Refill.{IsSameBuffer}
use Rattle.vr_resident.specs.Places.{Entry, block_in, IsBufferOf, buffers_at, held_at, held_of}
use Rattle.vr_resident.specs.Places.{buffers_of, fits, AreNone, count_of}
use Rattle.vr_resident.specs.Cache.{entries_of, pool_of, held_by, with_entries, IsFramed, IsKept}
use Rattle.vr_resident.specs.Cache.{KeepsSeat, MakesRoom, Enters, Hits, IsFirst, IsSameCache}
use Rattle.vr_resident.specs.declared.place.Buffer.{Buffer}
use Rattle.vr_resident.specs.declared.place.Place.{Place}
use Rattle.vr_resident.specs.declared.place.Place.TheVariants.{Bare, Empty, Taken}
use Rattle.vr_resident.specs.declared.place.Sought.TheVariants as sought
use Rattle.vr_resident.specs.declared.frames.Frames.{Frames}
use Rattle.vr_resident.proofs.Framing.{held_split, held_in, buffers_split}
use Rattle.vr_resident.proofs.Moves.{count_split, count_front, framed_front, framed_stays}
use Rattle.vr_resident.proofs.Held.{overlay-between, overlay-put, changed_front, changed_more}
use Rattle.vr_resident.proofs.Held.{once_other}
use Rattle.vr_resident.proofs.Over.{no_call, put_only, keeps_over, held_more, held_after}
use Rattle.vr_resident.proofs.Over.{held_front, held_put}

pub none_other : (size n : ℕ) (entries : List Entry) → AreNone (sought.Block n) entries
    → IsOther n (held_of size entries)
none_other size n [] none = tt
none_other size n (e ∷ entries) none = by_place e.1 none.0 (none_other size n entries none.1)
  where
    by_place : (place : Place) → fits (sought.Block n) place ≡ false
        → IsOther n (held_of size entries) → IsOther n (held_at size place ++ held_of size entries)
    by_place Bare is rest = rest
    by_place (Empty buffer) is rest = rest
    by_place (Taken block changed buffer) is rest = (eqb-false block n is, rest)

other_left : (n : ℕ) (xs ys : List Held) → IsOther n (xs ++ ys) → IsOther n xs
other_left n [] ys other = tt
other_left n (x ∷ xs) ys other = (other.0, other_left n xs ys other.1)

-- a block that isn't held is not held after room was made
pub room_other : (n : ℕ) (old new : Frames) → MakesRoom old new → IsOther n (held_by old)
    → IsOther n (held_by new)
room_other n old new made other =
    ⊎_elim (λ same. subst (λ (f : Frames). IsOther n (held_by f)) (sym same.1) other)
    (λ changed. ⊎_elim (λ got. subst (IsOther n) (sym got.held) other)
    (λ left. other_left n (held_by new) (left.last ∷ []) (subst (IsOther n) left.held other))
    changed) made

-- a buffer is as it is
pub same_buffer : (b : Buffer) → IsSameBuffer b b
same_buffer b =
    record {
      shared_same = refl;
      number_same = refl;
      long_same = refl;
      of_pool =
          λ pool size is. is;
    }

-- the place of a block holds it
pub taken_is : (n : ℕ) (place : Place) → fits (sought.Block n) place ≡ true → (mark : Bool)
    × (buffer : Buffer) × (place ≡ Taken n mark buffer)
taken_is n Bare is = cc
taken_is n (Empty buffer) is = cc
taken_is n (Taken block mark buffer) is =
    (mark, buffer, ap (λ (k : ℕ). Taken k mark buffer) (eqb-true block n is))

-- the buffer of a place is one of the frames
pub buffer_in : (frames : Frames) (number : ℕ) (before after : List Entry) (place : Place)
    (b : Buffer) → IsFramed frames → entries_of frames ≡ before ++ (number, place) ∷ after
    → buffers_at place ≡ b ∷ [] → IsBufferOf (pool_of frames) frames.size b
buffer_in frames number before after place b is was has =
    (right (buffers_of before)
    (subst (AllByRecursion (IsBufferOf (pool_of frames) frames.size)) (ap buffers_of was
    ∙ (buffers_split before (number, place) after
    ∙ ap (λ (bs : List Buffer). buffers_of before
    ++ (bs ++ buffers_of after)) has)) is.seated.each_is)).0
  where
    right : (xs : List Buffer)
        → AllByRecursion (IsBufferOf (pool_of frames) frames.size) (xs ++ b ∷ buffers_of after)
        → AllByRecursion (IsBufferOf (pool_of frames) frames.size) (b ∷ buffers_of after)
    right [] all = all
    right (x ∷ xs) all = right xs all.1

pub one_of : (b c : Buffer) → b ∷ [] ≡ c ∷ [] → b ≡ c
one_of b c e = cc

module _ (frames : Frames) (n number : ℕ) (before after : List Entry) (b c : Buffer)
    (changed : Bool) (same : IsSameBuffer b c) where
  abbrev pub front : Frames
  front = with_entries frames ((number, Taken n changed c) ∷ (before ++ after))

  abbrev pub h : Held
  h = held_in frames n changed c

  pub front_held : held_by front ≡ h ∷ (held_of frames.size before ++ held_of frames.size after)
  front_held = ap (λ (hs : List Held). h ∷ hs)
      (flat_map-append (λ (f : Entry). held_at frames.size f.1) before after)

  pub is_first : IsFirst n front
  is_first = record {
    number = number;
    changed = changed;
    buffer = c;
    rest = before
        ++ after;
    split = refl;
  }

  module _ (was : entries_of frames ≡ before ++ (number, Empty b) ∷ after) where
    empty_held : held_by frames ≡ held_of frames.size before ++ held_of frames.size after
    empty_held = ap (held_of frames.size) was
        ∙ held_split frames.size before (number, Empty b) after

    pub entered_held : held_by front ≡ h ∷ held_by frames
    entered_held = front_held ∙ ap (λ (hs : List Held). h ∷ hs) (sym empty_held)

    pub entered : Enters h frames front
    entered = record {
      first = entered_held;
      one_less = omega (
        arith,
        ap (count_of sought.Empty) was,
        count_split sought.Empty before (number, Empty b)
            after,
        count_front sought.Empty (number, Taken n changed c) (before ++ after),
      );
      bare = omega (
        arith,
        ap (count_of sought.Bare) was,
        count_split sought.Bare before
            (number, Empty b) after,
        count_front sought.Bare (number, Taken n changed c) (before
            ++ after),
      );
    }

    pub entered_framed : IsFramed frames → IsFramed front
    entered_framed =
        (framed_front frames before after number (Empty b) (Taken n changed c) b c was refl refl
        same).0

    pub entered_seat : KeepsSeat frames front
    entered_seat =
        (framed_front frames before after number (Empty b) (Taken n changed c) b c was refl refl
        same).1

  module _ (mark : Bool) (was : entries_of frames ≡ before
      ++ (number, Taken n mark b) ∷ after) where
    abbrev pub k : Held
    k = held_in frames n mark b

    pub taken_held : held_by frames ≡ held_of frames.size before ++ k ∷ held_of frames.size after
    taken_held = ap (held_of frames.size) was
        ∙ held_split frames.size before (number, Taken n mark b) after

    pub hit : Hits k h frames front
    hit = record {
      rest = held_of frames.size before ++ held_of frames.size after;
      between = record {
        before = held_of frames.size before;
        after =
            held_of frames.size after;
        with_it = taken_held;
        without_it = refl;
      };
      first = front_held;
      empty = omega (
        arith,
        ap (count_of sought.Empty) was,
        count_split sought.Empty before
            (number, Taken n mark b) after,
        count_front sought.Empty (number, Taken n changed c)
            (before ++ after),
      );
      bare = omega (
        arith,
        ap (count_of sought.Bare) was,
        count_split sought.Bare before
            (number, Taken n mark b) after,
        count_front sought.Bare (number, Taken n changed c)
            (before ++ after),
      );
    }

    pub hit_framed : IsFramed frames → IsFramed front
    hit_framed = (framed_front frames before after number (Taken n mark b) (Taken n changed c) b c
        was refl refl same).0

    pub hit_seat : KeepsSeat frames front
    hit_seat = (framed_front frames before after number (Taken n mark b) (Taken n changed c) b c was
        refl refl same).1

-- the buffer of a place that stays empty
module _ (frames : Frames) (number : ℕ) (before after : List Entry) (b c : Buffer)
    (same : IsSameBuffer b c) (was : entries_of frames ≡ before ++ (number, Empty b) ∷ after) where
  abbrev pub refilled : Frames
  refilled = with_entries frames (before ++ (number, Empty c) ∷ after)

  pub refilled_cache : IsSameCache frames refilled
  refilled_cache = record {
    held = held_split frames.size before (number, Empty c) after
        ∙ sym (ap (held_of frames.size) was
        ∙ held_split frames.size before (number, Empty b) after);
    empty = omega (
      arith,
      ap (count_of sought.Empty) was,
      count_split sought.Empty before (number, Empty b)
          after,
      count_split sought.Empty before (number, Empty c) after,
    );
    bare = omega (
      arith,
      ap (count_of sought.Bare) was,
      count_split sought.Bare before
          (number, Empty b) after,
      count_split sought.Bare before (number, Empty c) after,
    );
  }

  pub refilled_framed : IsFramed frames → IsFramed refilled
  refilled_framed =
      (framed_stays frames before after number (Empty b) (Empty c) b c was refl refl same).0

  pub refilled_seat : KeepsSeat frames refilled
  refilled_seat =
      (framed_stays frames before after number (Empty b) (Empty c) b c was refl refl same).1

module _ (tells : Bool) (device now : Seen) (frames : Frames) (n number : ℕ)
    (before after : List Entry) (b c : Buffer) (same : IsSameBuffer b c)
    (kept : IsKept tells device frames) (call : Keeps tells device now) where
  -- a read that was Ok
  pub read_kept : (was : entries_of frames ≡ before ++ (number, Empty b) ∷ after)
      → n < device.count → IsOther n (held_by frames)
      → (IsTrue tells → block_in frames.size c ≡ block_at device.cur n)
      → (IsTrue tells → (image : Image) → now.images now.moment image → Left now image)
      → IsKept tells now (front frames n number before after b c false same)
      × Keeps tells (over device (held_by frames))
      (over now (held_by (front frames n number before after b c false same)))
  read_kept was below other reads within =
      let new : held_by (front frames n number before after b c false same) ≡ held_in frames n false
      c ∷ held_by frames = entered_held frames n number before after b c false same was in (
        record {
          framed = entered_framed frames n number before after b c false same was kept.framed;
          size_is = kept.size_is ∙ sym call.size_same;
          held_is = subst (IsHeld tells now) (sym new)
              (held_more tells now (held_in frames n false c) (held_by frames)
              (subst (λ (k : ℕ). n < k) (sym call.count_same) below) other
              (λ told unmarked. reads told
              ∙ sym (ap (λ (i : Image). block_at i n) (call.content told)))
              (held_after tells device now (held_by frames) call kept.held_is));
        },
        keeps-then tells (over device (held_by frames)) (over now (held_by frames))
            (over now (held_by (front frames n number before after b c false same)))
            (keeps_over tells device now (held_by frames) (held_by frames) call)
            (subst (λ (hs : List Held). Keeps tells (over now (held_by frames)) (over now hs))
            (sym new)
            (no_call tells now (held_by frames) (held_in frames n false c ∷ held_by frames) within
            (λ told. refl)
            (λ m block is. ⊎_elim (λ here. absurd (true≢false (sym here.0))) (λ later. later)
            is))),
      )

  -- one that failed
  pub unread_kept : (was : entries_of frames ≡ before ++ (number, Empty b) ∷ after)
      → IsKept tells now (refilled frames number before after b c same was)
      × Keeps tells (over device (held_by frames))
      (over now (held_by (refilled frames number before after b c same was)))
  unread_kept was =
      let new : held_by (refilled frames number before after b c same was) ≡ held_by frames =
      (refilled_cache frames number before after b c same was).held in (
        record {
          framed = refilled_framed frames number before after b c same was kept.framed;
          size_is = kept.size_is ∙ sym call.size_same;
          held_is = subst (IsHeld tells now) (sym new)
              (held_after tells device now (held_by frames) call kept.held_is);
        },
        subst (λ (hs : List Held). Keeps tells (over device (held_by frames)) (over now hs))
            (sym new) (keeps_over tells device now (held_by frames) (held_by frames) call),
      )

module _ (tells : Bool) (device : Seen) (frames : Frames) (n number : ℕ) (before after : List Entry)
    (b c : Buffer) (same : IsSameBuffer b c) (kept : IsKept tells device frames)
    (within : IsTrue tells → (image : Image) → device.images device.moment image
    → Left device image) where
  -- a block that is used again
  pub used_kept : (mark : Bool) (was : entries_of frames ≡ before
      ++ (number, Taken n mark b) ∷ after)
      → IsKept tells device (front frames n number before after b b mark (same_buffer b))
      × Keeps tells (over device (held_by frames))
      (over device (held_by (front frames n number before after b b mark (same_buffer b))))
  used_kept mark was =
      let xs = held_of frames.size before in
      let ys = held_of frames.size after in
      let k : Held = held_in frames n mark b in
      let old : held_by frames ≡ xs ++ k ∷ ys =
      taken_held frames n number before after b b mark (same_buffer b) mark was in
      let new : held_by (front frames n number before after b b mark (same_buffer b)) ≡ k ∷ (xs
      ++ ys) = front_held frames n number before after b b mark (same_buffer b) in
      let there : IsHeld tells device (xs ++ k ∷ ys) =
      subst (IsHeld tells device) old kept.held_is in (
        record {
          framed = hit_framed frames n number before after b b mark (same_buffer b) mark was
              kept.framed;
          size_is = kept.size_is;
          held_is = subst (IsHeld tells device) (sym new) (held_front tells device k xs ys there);
        },
        subst (λ (hs : List Held). Keeps tells (over device hs)
            (over device (held_by (front frames n number before after b b mark (same_buffer b)))))
            (sym old)
            (subst (λ (hs : List Held). Keeps tells (over device (xs
            ++ k ∷ ys)) (over device hs)) (sym new)
            (no_call tells device (xs
            ++ k ∷ ys) (k ∷ (xs
            ++ ys)) within
            (λ told. sym (overlay-between device.cur k xs ys (once_other k xs ys there.once)))
            (changed_front k xs ys))),
      )

  -- what is read once a block is put into the frame that holds it, or into an empty one
  pub reads_again : (bytes : Block) (mark : Bool) (was : entries_of frames ≡ before
      ++ (number, Taken n mark b) ∷ after) → block_in frames.size c ≡ bytes
      → overlay device.cur (held_by (front frames n number before after b c true same)) ≡ slice_set
      (overlay device.cur (held_by frames)) n bytes
  reads_again bytes mark was filled =
      let xs = held_of frames.size before in
      let ys = held_of frames.size after in
      let k : Held = held_in frames n mark b in
      let j : Held = held_in frames n true c in
      let old : held_by frames ≡ xs ++ k ∷ ys =
      taken_held frames n number before after b c true same mark was in
      let there : IsHeld tells device (xs ++ k ∷ ys) =
      subst (IsHeld tells device) old kept.held_is in
      ap (overlay device.cur) (front_held frames n number before after b c true same)
      ∙ (overlay-put device.cur k j xs ys refl refl (once_other k xs ys there.once)
      ∙ (ap (λ (hs : List Held). slice_set (overlay device.cur hs) n (block_in frames.size c))
      (sym old)
      ∙ ap (slice_set (overlay device.cur (held_by frames)) n) filled))

  pub reads_new : (bytes : Block) (was : entries_of frames ≡ before ++ (number, Empty b) ∷ after)
      → block_in frames.size c ≡ bytes
      → overlay device.cur (held_by (front frames n number before after b c true same)) ≡ slice_set
      (overlay device.cur (held_by frames)) n bytes
  reads_new bytes was filled =
      ap (overlay device.cur) (entered_held frames n number before after b c true same was)
      ∙ ap (slice_set (overlay device.cur (held_by frames)) n) filled

  -- a block that is put into the frame that holds it
  pub put_again : (bytes : Block) (mark : Bool) (was : entries_of frames ≡ before
      ++ (number, Taken n mark b) ∷ after) → block_in frames.size c ≡ bytes
      → IsKept tells device (front frames n number before after b c true same)
      × Puts tells n bytes (over device (held_by frames))
      (over device (held_by (front frames n number before after b c true same)))
  put_again bytes mark was filled =
      let xs = held_of frames.size before in
      let ys = held_of frames.size after in
      let k : Held = held_in frames n mark b in
      let j : Held = held_in frames n true c in
      let old : held_by frames ≡ xs ++ k ∷ ys =
      taken_held frames n number before after b c true same mark was in
      let new : held_by (front frames n number before after b c true same) ≡ j ∷ (xs ++ ys) =
      front_held frames n number before after b c true same in
      let there : IsHeld tells device (xs ++ k ∷ ys) =
      subst (IsHeld tells device) old kept.held_is in (
        record {
          framed = hit_framed frames n number before after b c true same mark was kept.framed;
          size_is = kept.size_is;
          held_is = subst (IsHeld tells device) (sym new)
              (held_put tells device k xs ys j refl refl there);
        },
        subst (λ (hs : List Held). Puts tells n bytes (over device hs)
            (over device (held_by (front frames n number before after b c true same)))) (sym old)
            (subst (λ (hs : List Held). Puts tells n bytes (over device (xs
            ++ k ∷ ys)) (over device hs)) (sym new)
            (subst (λ (x : Block). Puts tells n x (over device (xs
            ++ k ∷ ys)) (over device (j ∷ (xs ++ ys)))) filled
            (put_only tells device (xs
            ++ k ∷ ys) (j ∷ (xs
            ++ ys)) within n (block_in frames.size c)
            (λ told. overlay-put device.cur k j xs ys refl refl (once_other k xs ys there.once))
            (λ m x is. ⊎_elim (λ here. inr (sym here.1, sym here.2))
            (λ later. inl (changed_more k xs ys m x later)) is)))),
      )

  -- a block that is put into an empty frame
  pub put_new : (bytes : Block) (was : entries_of frames ≡ before ++ (number, Empty b) ∷ after)
      → n < device.count → IsOther n (held_by frames) → block_in frames.size c ≡ bytes
      → IsKept tells device (front frames n number before after b c true same)
      × Puts tells n bytes (over device (held_by frames))
      (over device (held_by (front frames n number before after b c true same)))
  put_new bytes was below other filled =
      let j : Held = held_in frames n true c in
      let new : held_by (front frames n number before after b c true same) ≡ j ∷ held_by frames =
      entered_held frames n number before after b c true same was in (
        record {
          framed = entered_framed frames n number before after b c true same was kept.framed;
          size_is = kept.size_is;
          held_is = subst (IsHeld tells device) (sym new)
              (held_more tells device j (held_by frames) below other
              (λ told unmarked. absurd (true≢false unmarked)) kept.held_is);
        },
        subst (λ (hs : List Held). Puts tells n bytes (over device (held_by frames))
            (over device hs)) (sym new)
            (subst (λ (x : Block). Puts tells n x (over device (held_by frames))
            (over device (j ∷ held_by frames))) filled
            (put_only tells device (held_by frames) (j ∷ held_by frames) within n
            (block_in frames.size c) (λ told. refl)
            (λ m x is. ⊎_elim (λ here. inr (sym here.1, sym here.2)) (λ later. inl later) is))),
      )
