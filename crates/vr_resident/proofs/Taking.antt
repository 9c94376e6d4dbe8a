-- What a further frame of the pool, and a block that leaves, make of the frames.
use Rattle.std.proofs.Common.{rules, ◌≡◌, ◌⊎◌, ◌+◌, ◌<◌, ℕ, Bool, true, false, List, [], ◌∷◌, ◌++◌}
use Rattle.std.proofs.Common.{refl, sym, ap, ◌∙◌, subst, arith, length, append-nil, Option, None}
use Rattle.std.proofs.Common.{Some, IfNone, IsSome, MatchOption}
use Rattle.std.specs.List.{AllByRecursion, flat_map}
use Rattle.std.proofs.lemmas.List.Concat.{flat_map-append}
use Rattle.std.proofs.lemmas.List.{length-append}
use Rattle.lru.specs.LruCache.{LruCache}
use Rattle.vr_frames.specs.Frames.{number_of, frames_of, parts_of, IsFrameOf, IsSeatOf, IsSameSeat}
use Rattle.vr_frames.specs.Frames.{Gets, FindsAllOut}
use Rattle.vr_frames.specs.Views.{times}
use Rattle.vr_frames.specs.declared.frame.Frame.{Frame}
use Rattle.vr_frames.specs.declared.seat.FrameSeat.{FrameSeat}
use Rattle.vr_frames.proofs.CallerLemmas.{OneMore, one_more-between, holds_each-got, others_of-got}
use Rattle.vr_types.specs.Seen.{Seen}
use Rattle.vr_resident.specs.Held.{Held, IsHeld}
use Rattle.vr_resident.specs.Places.{Entry, block_in, numbers_in, IsBufferOf, buffers_at, held_at}
use Rattle.vr_resident.specs.Places.{held_of, buffers_of, numbers_of, fits, AreNone, IsLast}
use Rattle.vr_resident.specs.Places.{count_of}
use Rattle.vr_resident.specs.Cache.{entries_of, pool_of, held_by, IsFramed, IsSeated, IsKept}
use Rattle.vr_resident.specs.Cache.{TakesFrame, reseated, KeepsSeat, GetsFrame, LastLeaves, Leaves}
use Rattle.vr_resident.specs.Cache.{GetsNone, empty_count, bare_count}
use Rattle.vr_resident.specs.declared.place.Buffer.{Buffer}
use Rattle.vr_resident.specs.declared.place.Buffer.TheVariants.{Shared}
use Rattle.vr_resident.specs.declared.place.Place.{Place}
use Rattle.vr_resident.specs.declared.place.Place.TheVariants.{Bare, Empty, Taken}
use Rattle.vr_resident.specs.declared.place.Sought.TheVariants as sought
use Rattle.vr_resident.specs.declared.frames.Frames.{Frames}
use Rattle.vr_resident.proofs.Framing.{buffers_split, held_split}
use Rattle.vr_resident.proofs.Moves.{count_split, count_none}

pub insert_all : (P : Buffer → Type 0) (xs : List Buffer) (b : Buffer) (ys : List Buffer)
    → AllByRecursion P (xs ++ ys) → P b → AllByRecursion P (xs ++ b ∷ ys)
insert_all P [] b ys all here = (here, all)
insert_all P (x ∷ xs) b ys all here = (all.0, insert_all P xs b ys all.1 here)

module _ (frames : Frames) (seat : FrameSeat) (frame : Frame) (number : ℕ)
    (before after : List Entry)
    (was : entries_of frames ≡ before
    ++ (number, Bare) ∷ after) (got : Gets frames.seat frame seat) where
  abbrev pub with_frame : Frames
  with_frame = reseated frames (before ++ (number, Empty (Shared frame)) ∷ after) seat

  new_buffers : buffers_of (before ++ (number, Empty (Shared frame)) ∷ after) ≡ buffers_of before
      ++ Shared frame ∷ buffers_of after
  new_buffers = buffers_split before (number, Empty (Shared frame)) after

  old_buffers : buffers_of (entries_of frames) ≡ buffers_of before ++ buffers_of after
  old_buffers = ap buffers_of was ∙ buffers_split before (number, Bare) after

  old_numbers : numbers_of (entries_of frames) ≡ flat_map numbers_in (buffers_of before)
      ++ flat_map numbers_in (buffers_of after)
  old_numbers = ap (flat_map numbers_in) old_buffers
      ∙ flat_map-append numbers_in (buffers_of before) (buffers_of after)

  new_numbers : numbers_of (before
      ++ (number, Empty (Shared frame)) ∷ after) ≡ flat_map numbers_in (buffers_of before)
      ++ number_of frame ∷ flat_map numbers_in (buffers_of after)
  new_numbers = ap (flat_map numbers_in) new_buffers
      ∙ flat_map-append numbers_in (buffers_of before) (Shared frame ∷ buffers_of after)

  one_more : OneMore (number_of frame) (numbers_of (entries_of frames)) (numbers_of (before
      ++ (number, Empty (Shared frame)) ∷ after))
  one_more = subst (λ (ns : List ℕ). OneMore (number_of frame) ns (numbers_of (before
      ++ (number, Empty (Shared frame)) ∷ after))) (sym old_numbers)
      (subst (λ (ns : List ℕ). OneMore (number_of frame) (flat_map numbers_in (buffers_of before)
      ++ flat_map numbers_in (buffers_of after)) ns) (sym new_numbers)
      (one_more-between (number_of frame) (flat_map numbers_in (buffers_of before))
      (flat_map numbers_in (buffers_of after))))

  pub seated_got : IsSeated frames → IsSeatOf (pool_of frames) seat
      → IsFrameOf (pool_of frames) frame → IsSeated with_frame
  seated_got is seat_of frame_of = record {
    cap_is = is.cap_is;
    long = is.long;
    seat_of = seat_of;
    each_is = subst (AllByRecursion (IsBufferOf (pool_of frames) frames.size)) (sym new_buffers)
        (insert_all (IsBufferOf (pool_of frames) frames.size) (buffers_of before) (Shared frame)
        (buffers_of after)
        (subst (AllByRecursion (IsBufferOf (pool_of frames) frames.size)) old_buffers
        is.each_is)
        (frame_of, omega (arith, is.long, frame_of.2)));
    holds = holds_each-got frames.seat seat frame (numbers_of (entries_of frames))
        (numbers_of (before ++ (number, Empty (Shared frame)) ∷ after)) got is.holds one_more;
  }

  pub one_longer : length (buffers_of (before
      ++ (number, Empty (Shared frame)) ∷ after)) ≡ length (buffers_of (entries_of frames)) + 1
  one_longer = omega (
    arith,
    ap length old_buffers,
    ap length new_buffers,
    length-append (buffers_of before)
        (buffers_of after),
    length-append (buffers_of before) (Shared frame ∷ buffers_of after),
  )

  pub seat_got : IsSameSeat frames.seat seat → parts_of seat ≡ parts_of frames.seat
      → KeepsSeat frames with_frame
  seat_got same parts = record {
    pool_same = refl;
    size_same = refl;
    same = same;
    parts = parts;
    others_same = others_of-got frames.seat seat frame (numbers_of (entries_of frames))
        (numbers_of (before ++ (number, Empty (Shared frame)) ∷ after)) got one_more;
  }

  pub frame_got : AreNone sought.Empty (entries_of frames) → GetsFrame frames with_frame
  frame_got none =
      let none_empty : empty_count frames ≡ 0 = count_none sought.Empty (entries_of frames) none in
      let was_empty : empty_count frames ≡ count_of sought.Empty (before
      ++ (number, Bare) ∷ after) = ap (count_of sought.Empty) was in
      let was_bare : bare_count frames ≡ count_of sought.Bare (before ++ (number, Bare) ∷ after) =
      ap (count_of sought.Bare) was in
      record {
        none_empty = none_empty;
        one_empty = omega (
          arith,
          none_empty,
          was_empty,
          count_split sought.Empty before (number, Bare) after,
          count_split sought.Empty before (number, Empty (Shared frame)) after,
        );
        bare = omega (
          arith,
          was_bare,
          count_split sought.Bare before (number, Bare) after,
          count_split sought.Bare before (number, Empty (Shared frame)) after,
        );
        held = held_split frames.size before (number, Empty (Shared frame)) after
            ∙ sym (ap (held_of frames.size) was
            ∙ held_split frames.size before (number, Bare) after);
        frame = frame;
        got = got;
      }

-- no frame was got
pub seated_none : (frames : Frames) (seat : FrameSeat) → frames_of seat ≡ frames_of frames.seat
    → IsSeatOf (pool_of frames) seat → IsSeated frames → IsSeated (record frames { seat = seat })
seated_none frames seat same seat_of is = record {
  cap_is = is.cap_is;
  long = is.long;
  seat_of = seat_of;
  each_is = is.each_is;
  holds = record {
    once = is.holds.once;
    held =
        λ k there. subst (λ (l : List ℕ). 0 < times k l) (sym same) (is.holds.held k there);
  };
}

-- the frames after a take, over a device
pub kept_taken : (tells : Bool) (device : Seen) (old new : Frames)
    → AreNone sought.Empty (entries_of old) → TakesFrame old new → IsSeated new
    → IsKept tells device old → GetsFrame old new × IsKept tells device new
kept_taken tells device old new none t seated kept =
    let got : GetsFrame old new =
    subst (GetsFrame old) (sym t.is)
    (frame_got old new.seat t.frame t.number t.before t.after t.was t.got none) in
    let size : new.size ≡ old.size = ap (λ (f : Frames). f.size) t.is in (
      got,
      record {
        framed = record {
          seated = seated;
          sixteen =
              omega (
                arith,
                kept.framed.sixteen,
                one_longer old new.seat t.frame t.number t.before
                    t.after t.was t.got,
                ap (λ (f : Frames). length (buffers_of (entries_of f))) t.is,
              );
        };
        size_is = size ∙ kept.size_is;
        held_is = subst (IsHeld tells device) (sym got.held) kept.held_is;
      },
    )

-- the frames where none was got
pub kept_none : (tells : Bool) (device : Seen) (old new : Frames) → GetsNone old new
    → KeepsSeat old new → IsSeated new → IsKept tells device old → IsKept tells device new
kept_none tells device old new got seat seated kept = record {
  framed = record {
    seated = seated;
    sixteen =
        omega (
          arith,
          kept.framed.sixteen,
          ap
              (λ (t : LruCache ℕ Place). length (buffers_of t.entries)) got.0,
        );
  };
  size_is = seat.size_same ∙ kept.size_is;
  held_is = subst (IsHeld tells device)
      (sym (ap (λ (n : ℕ). held_of n (entries_of new)) seat.size_same
      ∙ ap (λ (t : LruCache ℕ Place). held_of old.size t.entries) got.0)) kept.held_is;
}

pub if_none : (o : Option ℕ) (P : Type 0) → P → IfNone o P
if_none None P p = p
if_none (Some n) P p = tt

-- a place is there, with the kind that it is in
pub bare_is : (place : Place) → fits sought.Bare place ≡ true → place ≡ Bare
bare_is Bare is = refl
bare_is (Empty buffer) is = cc
bare_is (Taken block changed buffer) is = cc

pub empty_is : (place : Place) → fits sought.Empty place ≡ true → (buffer : Buffer)
    × (place ≡ Empty buffer)
empty_is Bare is = cc
empty_is (Empty buffer) is = (buffer, refl)
empty_is (Taken block changed buffer) is = cc

-- where no place is empty and none holds a block there is no buffer
pub no_buffer : (entries : List Entry) → AreNone sought.Empty entries → AreNone sought.Held entries
    → buffers_of entries ≡ []
no_buffer [] empty held = refl
no_buffer (e ∷ entries) empty held = by_place e.1 empty.0 held.0 (no_buffer entries empty.1 held.1)
  where
    by_place : (place : Place) → fits sought.Empty place ≡ false → fits sought.Held place ≡ false
        → buffers_of entries ≡ [] → buffers_at place ++ buffers_of entries ≡ []
    by_place Bare e h rest = rest
    by_place (Empty buffer) e h rest = cc
    by_place (Taken block changed buffer) e h rest = cc

pub none_held : (size : ℕ) (entries : List Entry) → AreNone sought.Held entries
    → held_of size entries ≡ []
none_held size [] none = refl
none_held size (e ∷ entries) none = by_place e.1 none.0 (none_held size entries none.1)
  where
    by_place : (place : Place) → fits sought.Held place ≡ false → held_of size entries ≡ []
        → held_at size place ++ held_of size entries ≡ []
    by_place Bare h rest = rest
    by_place (Empty buffer) h rest = rest
    by_place (Taken block changed buffer) h rest = cc

-- the block that was used least recently left
pub last_left : (old mid new : Frames) (number : ℕ) → AreNone sought.Empty (entries_of old)
    → GetsNone old mid → KeepsSeat old mid → Leaves number mid new → LastLeaves old new
last_left old mid new number none got seat leaves =
    let b = leaves.before in
    let a = leaves.after in
    let was : entries_of old ≡ b ++ (number, Taken leaves.block leaves.changed leaves.buffer) ∷ a =
    sym (ap (λ (t : LruCache ℕ Place). t.entries) got.0) ∙ leaves.was in
    let is : entries_of new ≡ b ++ (number, Empty leaves.buffer) ∷ a = ap entries_of leaves.is in
    let size : new.size ≡ old.size = ap (λ (f : Frames). f.size) leaves.is ∙ seat.size_same in
    let none_empty : empty_count old ≡ 0 = count_none sought.Empty (entries_of old) none in
    let nothing : held_of old.size a ≡ [] = none_held old.size a leaves.none_after in
    let last : Held =
    record {
      block = leaves.block;
      bytes = block_in old.size leaves.buffer;
      changed =
          leaves.changed;
    } in
    let held_new : held_by new ≡ held_of old.size b =
    ap (λ (n : ℕ). held_of n (entries_of new)) size
    ∙ (ap (held_of old.size) is
    ∙ (held_split old.size b (number, Empty leaves.buffer) a
    ∙ (ap (λ (hs : List Held). held_of old.size b ++ hs) nothing
    ∙ append-nil (held_of old.size b)))) in
    let held_old : held_by old ≡ held_of old.size b ++ last ∷ [] = ap (held_of old.size) was
    ∙ (held_split old.size b (number, Taken leaves.block leaves.changed leaves.buffer) a
    ∙ ap (λ (hs : List Held). held_of old.size b ++ last ∷ hs) nothing) in
    record {
      none_empty = none_empty;
      one_empty = omega (
        arith,
        none_empty,
        ap (count_of sought.Empty) was,
        ap (count_of sought.Empty) is,
        count_split sought.Empty b (number, Taken leaves.block leaves.changed leaves.buffer) a,
        count_split sought.Empty b (number, Empty leaves.buffer) a,
      );
      bare = omega (
        arith,
        ap (count_of sought.Bare) was,
        ap (count_of sought.Bare) is,
        count_split
            sought.Bare b (number, Taken leaves.block leaves.changed leaves.buffer) a,
        count_split
            sought.Bare b (number, Empty leaves.buffer) a,
      );
      last = last;
      held = held_old ∙ ap (λ (hs : List Held). hs ++ last ∷ []) (sym held_new);
      no_other = subst (λ (seat : FrameSeat). (bare_count old ≡ 0)
          ⊎ FindsAllOut (pool_of old) old.seat seat) (sym (ap (λ (f : Frames). f.seat) leaves.is))
          got.1;
    }

-- some place holds a block
pub some_held : (frames : Frames) (o : Option ℕ) → IsFramed frames
    → AreNone sought.Empty (entries_of frames)
    → MatchOption o (AreNone sought.Held (entries_of frames))
    (IsLast sought.Held (entries_of frames)) → IsSome o
some_held frames None is empty held =
    absurd (omega (arith, is.sixteen, ap length (no_buffer (entries_of frames) empty held)))
some_held frames (Some n) is empty held = search rules
