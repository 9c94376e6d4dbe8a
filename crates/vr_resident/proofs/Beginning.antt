-- How the frames of a cache are got one by one.
use Rattle.std.proofs.Common.{rules, ◌≡◌, ⊎_elim, ◌+◌, ◌<◌, ◌≤◌, ℕ, zero, suc, Bool, true, false}
use Rattle.std.proofs.Common.{List, [], ◌∷◌, ◌++◌, Option, Some, None, IfNone, OnSome, IsSome}
use Rattle.std.proofs.Common.{MatchOption, refl, sym, ap, ◌∙◌, subst, arith, length, true≢false}
use Rattle.std.proofs.Common.{nat_eq, add-one}
use Rattle.std.specs.Prelude.{is_some, not}
use Rattle.std.specs.List.{AllByRecursion, flat_map}
use Rattle.std.specs.Map.{lookup_entry}
use Rattle.std.proofs.lemmas.Bool.Decides.{nat_tests}
use Rattle.std.proofs.lemmas.List.{take_all, length-append}
use Rattle.std.proofs.lemmas.List.Concat.{flat_map-append}
use Rattle.lru.specs.LruCache.{lru_cache, LruCache, put_entries}
use Rattle.vr_frames.specs.Frames.{failed_claims, frame_count, frames_of, parts_of, IsSeatOf}
use Rattle.vr_frames.specs.Frames.{IsSameSeat}
use Rattle.vr_frames.specs.declared.shared.Pool.{Pool}
use Rattle.vr_frames.proofs.CallerLemmas.{others_of-none}
use Rattle.vr_frames.specs.declared.seat.FrameSeat.{FrameSeat}
use Rattle.vr_resident.specs.Making.{bare_places, IsTaken, FoundAllOut, IsNew, IsBack}
use Rattle.vr_resident.specs.Places.{Entry, IsBufferOf, numbers_in, buffers_of, numbers_of, held_of}
use Rattle.vr_resident.specs.Places.{AreNone, IsLast, count_of}
use Rattle.vr_resident.specs.Cache.{entries_of, pool_of, with_entries, IsSeated, KeepsSeat}
use Rattle.vr_resident.specs.Cache.{TakesFrame, GetsNone, bare_count, others}
use Rattle.vr_resident.specs.declared.place.Buffer.{Buffer}
use Rattle.vr_resident.specs.declared.place.Buffer.TheVariants.{Own, Shared}
use Rattle.vr_resident.specs.declared.place.Place.{Place}
use Rattle.vr_resident.specs.declared.place.Place.TheVariants.{Bare, Empty}
use Rattle.vr_resident.specs.declared.place.Sought.TheVariants as sought
use Rattle.vr_resident.specs.declared.frames.Frames.{Frames}
use Rattle.vr_resident.proofs.Framing.{held_split, buffers_split}
use Rattle.vr_resident.proofs.Moves.{count_split, count_none}
use Rattle.vr_resident.proofs.Taking.{insert_all}
use Rattle.vr_frames.specs.Keeper.{HoldsEach, others_of}
use Rattle.std.specs.Arc.{arc_value}
use Rattle.std.specs.declared.sync.Arc.{Arc}
use Rattle.std.proofs.Common.{Vec}
use Rattle.std.specs.Global.{Global}

-- ---- the table

new_number : (n k : ℕ) → k ≤ n → lookup_entry (nat_eq n) (bare_places k) ≡ None
new_number n zero below = refl
new_number n (suc k) below =
    let other : nat_eq n k ≡ false = grind (arith, nat_tests) in
    rw other (new_number n k (omega (arith, below)))

long : (n : ℕ) → length (bare_places n) ≡ n
long zero = refl
long (suc n) = omega (arith, long n)

pub bare_more : (n : ℕ) → n < 64
    → put_entries nat_eq (lru_cache (bare_places n) 64) n Bare ≡ bare_places (n + 1)
bare_more n below =
    rw (new_number n n (omega arith))
    (ap (λ (es : List Entry). (n, Bare) ∷ es)
    (take_all 63 (bare_places n) (omega (arith, long n, below)))
    ∙ ap bare_places (sym (add-one n)))

pub bare_counts : (n : ℕ) → count_of sought.Bare (bare_places n) ≡ n
bare_counts zero = refl
bare_counts (suc n) =
    omega (arith, count_split sought.Bare [] (n, Bare) (bare_places n), bare_counts n)

pub none_empty : (n : ℕ) → count_of sought.Empty (bare_places n) ≡ 0
none_empty zero = refl
none_empty (suc n) =
    omega (arith, count_split sought.Empty [] (n, Bare) (bare_places n), none_empty n)

pub none_held_yet : (size n : ℕ) → held_of size (bare_places n) ≡ []
none_held_yet size zero = refl
none_held_yet size (suc n) = none_held_yet size n

pub no_buffer_yet : (n : ℕ) → buffers_of (bare_places n) ≡ []
no_buffer_yet zero = refl
no_buffer_yet (suc n) = no_buffer_yet n

-- ---- frames and buffers

pub if_is_none : (o : Option ℕ) (P : Type 0) (b : Bool) → is_some o ≡ not b → b ≡ true → IfNone o P
    → P
if_is_none None P b is none p = p
if_is_none (Some n) P b is none p = absurd (true≢false (is ∙ ap not none))

pub if_is_some : (o : Option ℕ) (P : Type 0) (b : Bool) → is_some o ≡ not b → b ≡ false
    → OnSome o P → P
if_is_some None P b is some p = absurd (true≢false (sym (is ∙ ap not some)))
if_is_some (Some n) P b is some p = p

pub taken_none : (frames : Frames) → IsTaken 0 frames frames
taken_none frames =
    record { held = refl; empty = omega arith; bare = omega arith; buffers = omega arith }

pub taken_then : (a : ℕ) (first old new : Frames) → IsTaken a first old → IsTaken 1 old new
    → IsTaken (a + 1) first new
taken_then a first old new so_far one = record {
  held = one.held ∙ so_far.held;
  empty = omega (arith, one.empty, so_far.empty);
  bare = omega (arith, one.bare, so_far.bare);
  buffers = omega (arith, one.buffers, so_far.buffers);
}

-- a bare place gets a buffer
with_buffer : (old new : Frames) (number : ℕ) (before after : List Entry) (buffer : Buffer)
    → entries_of old ≡ before ++ (number, Bare) ∷ after → entries_of new ≡ before
    ++ (number, Empty buffer) ∷ after → new.size ≡ old.size → IsTaken 1 old new
with_buffer old new number before after buffer was is size = record {
  held = ap (λ (n : ℕ). held_of n (entries_of new)) size
      ∙ (ap (held_of old.size) is
      ∙ (held_split old.size before (number, Empty buffer) after
      ∙ sym (ap (held_of old.size) was ∙ held_split old.size before (number, Bare) after)));
  empty = omega (
    arith,
    ap (count_of sought.Empty) was,
    ap (count_of sought.Empty) is,
    count_split
        sought.Empty before (number, Bare) after,
    count_split sought.Empty before
        (number, Empty buffer) after,
  );
  bare = omega (
    arith,
    ap (count_of sought.Bare) was,
    ap (count_of sought.Bare) is,
    count_split
        sought.Bare before (number, Bare) after,
    count_split sought.Bare before (number, Empty buffer)
        after,
  );
  buffers = omega (
    arith,
    ap (λ (es : List Entry). length (buffers_of es)) was,
    ap (λ (es : List Entry). length (buffers_of es)) is,
    ap length (buffers_split before (number, Bare) after),
    ap length (buffers_split before (number, Empty buffer) after),
    length-append (buffers_of before) (buffers_of after),
    length-append (buffers_of before) (buffer ∷ buffers_of after),
  );
}

pub taken_one : (old new : Frames) → TakesFrame old new → IsTaken 1 old new
taken_one old new t =
    with_buffer old new t.number t.before t.after (Shared t.frame) t.was (ap entries_of t.is)
    (ap (λ (f : Frames). f.size) t.is)

-- the frame that was not got was out, and each other
pub out_then : (first old new : Frames) (got : ℕ) → got < 16 → 16 ≤ bare_count first
    → IsTaken got first old → ((k : ℕ) → failed_claims first.seat k ≤ failed_claims old.seat k)
    → KeepsSeat first old → GetsNone old new → FoundAllOut (pool_of first) first.seat new.seat
out_then first old new got below bare so_far claims seat none number within = ⊎_elim
    (λ nothing. absurd (omega (arith, nothing, so_far.bare, below, bare)))
    (λ out. omega (
      arith,
      out.each_out number
          (subst (λ (p : _). number < frame_count (arc_value p)) (sym seat.pool_same) within),
      claims
          number,
    )) none.1

module _ (frames : Frames) (number : ℕ) (before after : List Entry) (bytes : Vec ℕ Global)
    (was : entries_of frames ≡ before ++ (number, Bare) ∷ after) where
  abbrev pub with_own : Frames
  with_own = with_entries frames (before ++ (number, Empty (Own bytes)) ∷ after)

  old_buffers : buffers_of (entries_of frames) ≡ buffers_of before ++ buffers_of after
  old_buffers = ap buffers_of was ∙ buffers_split before (number, Bare) after

  new_buffers : buffers_of (before ++ (number, Empty (Own bytes)) ∷ after) ≡ buffers_of before
      ++ Own bytes ∷ buffers_of after
  new_buffers = buffers_split before (number, Empty (Own bytes)) after

  numbers : numbers_of (before
      ++ (number, Empty (Own bytes)) ∷ after) ≡ numbers_of (entries_of frames)
  numbers = ap (flat_map numbers_in) new_buffers
      ∙ (flat_map-append numbers_in (buffers_of before) (Own bytes ∷ buffers_of after)
      ∙ sym (ap (flat_map numbers_in) old_buffers
      ∙ flat_map-append numbers_in (buffers_of before) (buffers_of after)))

  pub own_seated : IsSeated frames → frames.size ≤ length bytes.items → IsSeated with_own
  own_seated is room = record {
    cap_is = is.cap_is;
    long = is.long;
    seat_of = is.seat_of;
    each_is = subst (AllByRecursion (IsBufferOf (pool_of frames) frames.size)) (sym new_buffers)
        (insert_all (IsBufferOf (pool_of frames) frames.size) (buffers_of before) (Own bytes)
        (buffers_of after)
        (subst (AllByRecursion (IsBufferOf (pool_of frames) frames.size)) old_buffers
        is.each_is) room);
    holds = subst (HoldsEach frames.seat) (sym numbers) is.holds;
  }

  pub own_seat : KeepsSeat frames with_own
  own_seat = record {
    pool_same = refl;
    size_same = refl;
    same =
        record { same_table = refl; same_id = refl };
    parts = refl;
    others_same =
        ap (others_of frames.seat) numbers;
  }

  pub own_taken : IsTaken 1 frames with_own
  own_taken = with_buffer frames with_own number before after (Own bytes) was refl refl

pub some_bare : (frames : Frames) (o : Option ℕ) → 1 ≤ bare_count frames
    → MatchOption o (AreNone sought.Bare (entries_of frames))
    (IsLast sought.Bare (entries_of frames)) → IsSome o
some_bare frames None some none =
    absurd (omega (arith, some, count_none sought.Bare (entries_of frames) none))
some_bare frames (Some n) some last = search rules

pub is_last : (frames : Frames) (o : Option ℕ) (n : ℕ) → o ≡ Some n
    → MatchOption o (AreNone sought.Bare (entries_of frames))
    (IsLast sought.Bare (entries_of frames)) → IsLast sought.Bare (entries_of frames) n
is_last frames None n is last = cc
is_last frames (Some m) n is last = let same : m ≡ n = cc in
    subst (IsLast sought.Bare (entries_of frames)) same last

-- ---- the cache as it begins

module _ (first new : Frames) (table : first.table ≡ lru_cache (bare_places 64) 64) where
  entries : entries_of first ≡ bare_places 64
  entries = ap (λ (t : LruCache ℕ Place). t.entries) table

  none_kept : others first ≡ frames_of first.seat
  none_kept = ap (λ (es : List Entry). others_of first.seat (flat_map numbers_in (buffers_of es)))
      entries
      ∙ (ap (λ (bs : List Buffer). others_of first.seat (flat_map numbers_in bs)) (no_buffer_yet 64)
      ∙ others_of-none first.seat)

  pub is_new : (size : ℕ) → first.size ≡ size → IsTaken 16 first new → KeepsSeat first new
      → IsNew (pool_of first) first.seat size new
  is_new size size_is taken seat = record {
    pool_is = ap (λ (p : Arc Pool Global). arc_value p) seat.pool_same;
    size_is = seat.size_same ∙ size_is;
    held = taken.held ∙ (ap (held_of first.size) entries ∙ none_held_yet first.size 64);
    empty = omega (arith, taken.empty, ap (count_of sought.Empty) entries, none_empty 64);
    bare = omega (arith, taken.bare, ap (count_of sought.Bare) entries, bare_counts 64);
    same = seat.same;
    parts = seat.parts;
    home = seat.others_same ∙ none_kept;
  }

  pub is_back : (seat : FrameSeat) → KeepsSeat first new → frames_of seat ≡ others new
      → IsSeatOf (pool_of new) seat → IsSameSeat new.seat seat → parts_of seat ≡ parts_of new.seat
      → IsBack (pool_of first) first.seat seat
  is_back seat kept home of_pool same parts = record {
    of_pool = subst (λ (p : Arc Pool Global). IsSeatOf (arc_value p) seat) kept.pool_same of_pool;
    same = record {
      same_table = same.same_table ∙ kept.same.same_table;
      same_id = same.same_id
          ∙ kept.same.same_id;
    };
    parts = parts ∙ kept.parts;
    frames = home ∙ (kept.others_same ∙ none_kept);
  }
