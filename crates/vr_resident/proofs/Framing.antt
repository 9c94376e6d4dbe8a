-- What a change of one place leaves of the frames.
use Rattle.std.proofs.Common.{◌≡◌, ◌<◌, ◌≤◌, ℕ, Bool, true, false, IsTrue, List, [], ◌∷◌, ◌++◌}
use Rattle.std.proofs.Common.{refl, sym, ap, ◌∙◌, subst, length, slice_set}
use Rattle.std.specs.List.{AllByRecursion, flat_map}
use Rattle.std.proofs.lemmas.List.Concat.{flat_map-append}
use Rattle.lru.specs.LruCache.{lru_cache, LruCache}
use Rattle.vr_types.specs.Image.{Image}
use Rattle.vr_types.specs.Seen.{Seen, Left}
use Rattle.vr_types.specs.Blocks.{Keeps, Puts}
use Rattle.vr_frames.specs.declared.shared.Pool.{Pool}
use Rattle.vr_frames.specs.Keeper.{HoldsEach, others_of}
use Rattle.vr_resident.specs.Held.{Held, IsHeld, clean, over}
use Rattle.vr_resident.specs.Places.{Entry, bytes_in, block_in, numbers_in, IsBufferOf, buffers_at}
use Rattle.vr_resident.specs.Places.{held_at, held_of, buffers_of}
use Rattle.vr_resident.specs.Cache.{entries_of, pool_of, held_by, with_entries, IsFramed, IsKept}
use Rattle.vr_resident.specs.Cache.{KeepsSeat}
use Rattle.vr_resident.specs.declared.place.Buffer.{Buffer}
use Rattle.vr_resident.specs.declared.place.Buffer.TheVariants.{Own, Shared}
use Rattle.vr_resident.specs.declared.place.Place.{Place}
use Rattle.vr_resident.specs.declared.place.Place.TheVariants.{Empty, Taken}
use Rattle.vr_resident.specs.declared.frames.Frames.{Frames}
use Rattle.vr_resident.proofs.Over.{held_written, written_over, held_unwritten, unwritten_over}
use Rattle.vr_resident.proofs.Over.{held_left, left_written, held_rest, no_call}
use Rattle.vr_resident.proofs.Held.{all_at, overlay-clean, changed_more}

pub held_split : (size : ℕ) (before : List Entry) (e : Entry) (after : List Entry)
    → held_of size (before ++ e ∷ after) ≡ held_of size before
    ++ (held_at size e.1 ++ held_of size after)
held_split size before e after =
    flat_map-append (λ (f : Entry). held_at size f.1) before (e ∷ after)

pub buffers_split : (before : List Entry) (e : Entry) (after : List Entry)
    → buffers_of (before ++ e ∷ after) ≡ buffers_of before ++ (buffers_at e.1 ++ buffers_of after)
buffers_split before e after = flat_map-append (λ (f : Entry). buffers_at f.1) before (e ∷ after)

-- another place with the same buffer
pub buffers_same : (before after : List Entry) (number : ℕ) (place other : Place)
    → buffers_at other ≡ buffers_at place
    → buffers_of (before ++ (number, other) ∷ after) ≡ buffers_of (before
    ++ (number, place) ∷ after)
buffers_same before after number place other same =
    buffers_split before (number, other) after
    ∙ ap (λ (bs : List Buffer). buffers_of before ++ (bs ++ buffers_of after)) same
    ∙ sym (buffers_split before (number, place) after)

module _ (frames : Frames) (entries : List Entry)
    (same : buffers_of entries ≡ buffers_of (entries_of frames)) where
  pub framed_same : IsFramed frames → IsFramed (with_entries frames entries)
  framed_same is = record {
    seated = record {
      cap_is = is.seated.cap_is;
      long = is.seated.long;
      seat_of = is.seated.seat_of;
      each_is = subst
          (λ (bs : List Buffer). AllByRecursion (IsBufferOf (pool_of frames) frames.size) bs)
          (sym same) is.seated.each_is;
      holds = subst (λ (bs : List Buffer). HoldsEach frames.seat (flat_map numbers_in bs))
          (sym same) is.seated.holds;
    };
    sixteen = subst (λ (bs : List Buffer). 16 ≤ length bs) (sym same) is.sixteen;
  }

  pub seat_same : KeepsSeat frames (with_entries frames entries)
  seat_same = record {
    pool_same = refl;
    size_same = refl;
    same = record { same_table = refl; same_id = refl };
    parts = refl;
    others_same = ap (λ (bs : List Buffer). others_of frames.seat (flat_map numbers_in bs)) same;
  }

-- a block with its bytes, as it is held
abbrev pub held_in : Frames → ℕ → Bool → Buffer → Held
held_in frames block changed buffer =
    record { block = block; bytes = block_in frames.size buffer; changed = changed }

module _ (tells : Bool) (device after_call : Seen) (frames : Frames) (number : ℕ)
    (before after : List Entry) (block : ℕ) (buffer : Buffer) where
  module _ (changed : Bool) (kept : IsKept tells device frames) (was : entries_of frames ≡ before
      ++ (number, Taken block changed buffer) ∷ after) where
    abbrev h : Held
    h = held_in frames block changed buffer

    abbrev emptied : Frames
    emptied = with_entries frames (before ++ (number, Empty buffer) ∷ after)

    abbrev cleaned : Frames
    cleaned = with_entries frames (before ++ (number, Taken block false buffer) ∷ after)

    pub held_was : held_by frames ≡ held_of frames.size before ++ h ∷ held_of frames.size after
    held_was = ap (held_of frames.size) was
        ∙ held_split frames.size before (number, Taken block changed buffer) after

    pub held_there : IsHeld tells device (held_of frames.size before
        ++ h ∷ held_of frames.size after)
    held_there = subst (IsHeld tells device) held_was kept.held_is

    pub held_empty : held_by emptied ≡ held_of frames.size before ++ held_of frames.size after
    held_empty = held_split frames.size before (number, Empty buffer) after

    pub held_clean : held_by cleaned ≡ held_of frames.size before
        ++ clean h ∷ held_of frames.size after
    held_clean = held_split frames.size before (number, Taken block false buffer) after

    framed_empty : IsFramed emptied
    framed_empty =
        framed_same frames (before
        ++ (number, Empty buffer) ∷ after)
        (buffers_same before after number (Taken block changed buffer) (Empty buffer) refl
        ∙ ap buffers_of (sym was)) kept.framed

    framed_clean : IsFramed cleaned
    framed_clean =
        framed_same frames (before
        ++ (number, Taken block false buffer) ∷ after)
        (buffers_same before after number (Taken block changed buffer) (Taken block false buffer)
        refl ∙ ap buffers_of (sym was)) kept.framed

    -- a clean block leaves
    pub left_clean : changed ≡ false
        → (IsTrue tells → (image : Image) → device.images device.moment image → Left device image)
        → IsKept tells device emptied
        × Keeps tells (over device (held_by frames)) (over device (held_by emptied))
    left_clean unmarked within = (
      record {
        framed = framed_empty;
        size_is = kept.size_is;
        held_is = subst (IsHeld tells device) (sym held_empty)
            (held_rest tells device h (held_of frames.size before) (held_of frames.size after)
            held_there);
      },
      subst (λ (hs : List Held). Keeps tells (over device hs) (over device (held_by emptied)))
          (sym held_was)
          (subst (λ (hs : List Held). Keeps tells (over device (held_of frames.size before
          ++ h ∷ held_of frames.size after)) (over device hs)) (sym held_empty)
          (no_call tells device (held_of frames.size before
          ++ h ∷ held_of frames.size after) (held_of frames.size before
          ++ held_of frames.size after) within
          (λ told. sym (overlay-clean device.cur h (held_of frames.size before)
          (held_of frames.size after) unmarked))
          (changed_more h (held_of frames.size before) (held_of frames.size after)))),
    )

    module _ (marked : changed ≡ true)
        (call : Puts tells block (block_in frames.size buffer) device after_call) where
      size_then : frames.size ≡ after_call.size
      size_then = kept.size_is ∙ sym call.size_same

      -- a write that failed
      pub failed_write : IsKept tells after_call frames
          × Keeps tells (over device (held_by frames)) (over after_call (held_by frames))
      failed_write = (
        record {
          framed = kept.framed;
          size_is = size_then;
          held_is = subst (IsHeld tells after_call) (sym held_was)
              (held_unwritten tells device after_call h (held_of frames.size before)
              (held_of frames.size after) marked call held_there);
        },
        subst (λ (hs : List Held). Keeps tells (over device hs) (over after_call hs)) (sym held_was)
            (unwritten_over tells device after_call h (held_of frames.size before)
            (held_of frames.size after) marked call held_there),
      )

      module _ (written : IsTrue tells
          → after_call.cur ≡ slice_set device.cur block (block_in frames.size buffer))
          (long : IsTrue tells → length device.cur ≡ device.count) where
        pub left_changed : IsKept tells after_call emptied
            × Keeps tells (over device (held_by frames)) (over after_call (held_by emptied))
        left_changed = (
          record {
            framed = framed_empty;
            size_is = size_then;
            held_is = subst (IsHeld tells after_call) (sym held_empty)
                (held_left tells device after_call h (held_of frames.size before)
                (held_of frames.size after) marked call held_there written long);
          },
          subst (λ (hs : List Held). Keeps tells (over device hs)
              (over after_call (held_by emptied))) (sym held_was)
              (subst (λ (hs : List Held). Keeps tells (over device (held_of frames.size before
              ++ h ∷ held_of frames.size after)) (over after_call hs)) (sym held_empty)
              (left_written tells device after_call h (held_of frames.size before)
              (held_of frames.size after) marked call held_there written long)),
        )

        pub written_clean : IsKept tells after_call cleaned
            × Keeps tells (over device (held_by frames)) (over after_call (held_by cleaned))
        written_clean = (
          record {
            framed = framed_clean;
            size_is = size_then;
            held_is = subst (IsHeld tells after_call) (sym held_clean)
                (held_written tells device after_call h (held_of frames.size before)
                (held_of frames.size after) marked call held_there written long);
          },
          subst (λ (hs : List Held). Keeps tells (over device hs)
              (over after_call (held_by cleaned))) (sym held_was)
              (subst (λ (hs : List Held). Keeps tells (over device (held_of frames.size before
              ++ h ∷ held_of frames.size after)) (over after_call hs)) (sym held_clean)
              (written_over tells device after_call h (held_of frames.size before)
              (held_of frames.size after) marked call held_there written long)),
        )

-- what is known of a block of the frames
module _ (tells : Bool) (device : Seen) (frames : Frames) (number : ℕ) (before after : List Entry)
    (block : ℕ) (changed : Bool) (buffer : Buffer) (kept : IsKept tells device frames)
    (was : entries_of frames ≡ before ++ (number, Taken block changed buffer) ∷ after) where
  pub block_below : block < device.count
  block_below = all_at (λ j. j.block < device.count) (held_in frames block changed buffer)
      (held_of frames.size before) (held_of frames.size after)
      (held_there tells device device frames number before after block buffer changed kept
      was).below

  pub buffer_is : IsBufferOf (pool_of frames) frames.size buffer
  buffer_is = (right (buffers_of before)
      (subst (AllByRecursion (IsBufferOf (pool_of frames) frames.size)) (ap buffers_of was
      ∙ buffers_split before (number, Taken block changed buffer) after)
      kept.framed.seated.each_is)).0
    where
      right : (xs : List Buffer)
          → AllByRecursion (IsBufferOf (pool_of frames) frames.size) (xs
          ++ buffer ∷ buffers_of after)
          → AllByRecursion (IsBufferOf (pool_of frames) frames.size) (buffer ∷ buffers_of after)
      right [] all = all
      right (x ∷ xs) all = right xs all.1

-- each buffer has room
pub has_room : (pool : Pool) (size : ℕ) (buffer : Buffer) → IsBufferOf pool size buffer
    → size ≤ length (bytes_in buffer)
has_room pool size (Own bytes) is = is
has_room pool size (Shared frame) is = is.1

-- two changes of one place, one after the other
pub twice : (frames : Frames) (number : ℕ) (before after : List Entry) (first to : Place)
    (one two : LruCache ℕ Place)
    → one ≡ lru_cache (before ++ (number, first) ∷ after) frames.table.cap
    → two ≡ lru_cache (before ++ (number, to) ∷ after) one.cap
    → two ≡ lru_cache (before ++ (number, to) ∷ after) frames.table.cap
twice frames number before after first to one two e1 e2 = e2
    ∙ ap (λ (t : LruCache ℕ Place). lru_cache (before ++ (number, to) ∷ after) t.cap) e1

-- a block leaves, written where it was changed
pub left_any : (tells : Bool) (device after_call : Seen) (frames : Frames) (number : ℕ)
    (before after : List Entry) (block : ℕ) (changed : Bool) (buffer : Buffer)
    → IsKept tells device frames → entries_of frames ≡ before
    ++ (number, Taken block changed buffer) ∷ after
    → (changed ≡ false → after_call ≡ device)
    → (changed ≡ true → Puts tells block (block_in frames.size buffer) device after_call)
    → (changed ≡ true → IsTrue tells
    → after_call.cur ≡ slice_set device.cur block (block_in frames.size buffer))
    → (IsTrue tells → length device.cur ≡ device.count)
    → (IsTrue tells → (image : Image) → device.images device.moment image → Left device image)
    → IsKept tells after_call (with_entries frames (before ++ (number, Empty buffer) ∷ after))
    × Keeps tells (over device (held_by frames))
    (over after_call (held_by (with_entries frames (before ++ (number, Empty buffer) ∷ after))))
left_any tells device after_call frames number before after block true buffer kept was still call
    written long within =
    left_changed tells device after_call frames number before after block buffer true kept was refl
    (call refl) (written refl) long
left_any tells device after_call frames number before after block false buffer kept was still call
    written long within =
    subst (λ (d : Seen). IsKept tells d (with_entries frames (before
    ++ (number, Empty buffer) ∷ after))
    × Keeps tells (over device (held_by frames)) (over d (held_by (with_entries frames (before
    ++ (number, Empty buffer) ∷ after))))) (sym (still refl))
    (left_clean tells device device frames number before after block buffer false kept was refl
    within)
