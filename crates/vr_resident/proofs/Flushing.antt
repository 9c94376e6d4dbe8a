-- What writes of changed blocks make of the frames.
use Rattle.std.proofs.Common.{◌≡◌, ◌+◌, ◌<◌, ◌≤◌, ◌==◌, ◌&&◌, ℕ, Bool, true, false, cond, List, []}
use Rattle.std.proofs.Common.{◌∷◌, ◌++◌, refl, sym, ap, ◌∙◌, subst, arith, length, true≢false}
use Rattle.std.proofs.Common.{eqb-true, min, nat_lt, le-ltb, slice_set}
use Rattle.std.specs.List.{AllByRecursion, flat_map}
use Rattle.std.proofs.lemmas.List.{length-append}
use Rattle.std.proofs.lemmas.List.Sums.{sum_by-cons, sum_by-append, count_by-le-length}
use Rattle.vr_types.specs.Image.{Image}
use Rattle.vr_resident.specs.Held.{Held, overlay, clean, IsOther, IsOnce, flushed, forced}
use Rattle.vr_resident.specs.Held.{changed_count}
use Rattle.vr_resident.specs.Table.{IsFit}
use Rattle.vr_resident.specs.Places.{Entry, buffers_at, held_at, held_of, fits, AreNone, IsLast}
use Rattle.vr_resident.specs.Places.{count_of}
use Rattle.vr_resident.specs.Cache.{entries_of, held_by, IsWritten, IsForced, IsFlushed, KeepsSeat}
use Rattle.vr_resident.specs.Cache.{empty_count, bare_count}
use Rattle.vr_resident.specs.declared.place.Buffer.{Buffer}
use Rattle.vr_resident.specs.declared.place.Place.{Place}
use Rattle.vr_resident.specs.declared.place.Place.TheVariants.{Bare, Empty, Taken}
use Rattle.vr_resident.specs.declared.place.Sought.{Sought}
use Rattle.vr_resident.specs.declared.place.Sought.TheVariants as sought
use Rattle.vr_resident.specs.declared.frames.Frames.{Frames}
use Rattle.vr_resident.proofs.Framing.{held_split, held_in, seat_same, buffers_same}
use Rattle.vr_resident.proofs.Moves.{count_split}
use Rattle.vr_resident.proofs.Held.{once_other}
use Rattle.vr_resident.proofs.Written.{forced_more, forced_one, forced_none, last_at, last_one_more}
use Rattle.vr_resident.proofs.Written.{count_last}

and_true : (a b : Bool) → (a && b) ≡ true → (a ≡ true) × (b ≡ true)
and_true true b is = (refl, is)
and_true false b is = absurd (true≢false (sym is))

-- the place of a changed block
pub changed_block_is : (n : ℕ) (place : Place) → fits (sought.ChangedBlock n) place ≡ true
    → fits sought.Changed place ≡ true
changed_block_is n Bare is = cc
changed_block_is n (Empty buffer) is = cc
changed_block_is n (Taken block mark buffer) is = (and_true mark (block == n) is).0

pub changed_block_number : (n block : ℕ) (buffer : Buffer) (place : Place)
    → place ≡ Taken block true buffer → fits (sought.ChangedBlock n) place ≡ true → block ≡ n
changed_block_number n block buffer place is it_fits =
    eqb-true block n (sym (ap (fits (sought.ChangedBlock n)) is) ∙ it_fits)

pub fit_of_changed : (n : ℕ) (entries : List Entry) (number : ℕ)
    → IsLast (sought.ChangedBlock n) entries number → IsFit sought.Changed entries number
fit_of_changed n entries number last =
    record {
      place = last.place;
      before = last.before;
      after = last.after;
      split =
          last.split;
      it_fits = changed_block_is n last.place last.it_fits;
    }

pub fit_of_last : (which : Sought) (entries : List Entry) (number : ℕ)
    → IsLast which entries number → IsFit which entries number
fit_of_last which entries number last =
    record {
      place = last.place;
      before = last.before;
      after = last.after;
      split =
          last.split;
      it_fits = last.it_fits;
    }

module _ (old new : Frames) (number : ℕ) (before after : List Entry) (place : Place)
    (split : entries_of old ≡ before
    ++ (number, place) ∷ after) (written : IsWritten before after number place old new) where
  abbrev pub h : Held
  h = held_in old written.block true written.buffer

  was : entries_of old ≡ before ++ (number, Taken written.block true written.buffer) ∷ after
  was = split ∙ ap (λ (p : Place). before ++ (number, p) ∷ after) written.was

  pub held_old : held_by old ≡ held_of old.size before ++ h ∷ held_of old.size after
  held_old = ap (held_of old.size) was
      ∙ held_split old.size before (number, Taken written.block true written.buffer) after

  pub held_new : held_by new ≡ held_of old.size before ++ clean h ∷ held_of old.size after
  held_new = ap held_by written.is
      ∙ held_split old.size before (number, Taken written.block false written.buffer) after

  pub empty_same : empty_count new ≡ empty_count old
  empty_same = omega (
    arith,
    ap empty_count written.is,
    ap (count_of sought.Empty) was,
    count_split sought.Empty
        before (number, Taken written.block false written.buffer) after,
    count_split sought.Empty
        before (number, Taken written.block true written.buffer) after,
  )

  pub bare_same : bare_count new ≡ bare_count old
  bare_same = omega (
    arith,
    ap bare_count written.is,
    ap (count_of sought.Bare) was,
    count_split sought.Bare
        before (number, Taken written.block false written.buffer) after,
    count_split sought.Bare
        before (number, Taken written.block true written.buffer) after,
  )

  pub written_seat : KeepsSeat old new
  written_seat =
      subst (KeepsSeat old) (sym written.is) (seat_same old (before
      ++ (number, Taken written.block false written.buffer) ∷ after)
      (buffers_same before after number (Taken written.block true written.buffer)
      (Taken written.block false written.buffer) refl
      ∙ ap (λ (es : List Entry). flat_map (λ (e : Entry). buffers_at e.1) es) (sym was)))

-- the block that is listed is written
pub forces_one : (old new : Frames) (n number : ℕ) (before after : List Entry) (place : Place)
    → entries_of old ≡ before ++ (number, place) ∷ after
    → fits (sought.ChangedBlock n) place ≡ true → IsOnce (held_by old)
    → IsWritten before after number place old new → IsForced (n ∷ []) old new
forces_one old new n number before after place split it_fits once written =
    let k = h old new number before after place split written in
    let block : k.block ≡ n =
    changed_block_number n written.block written.buffer place written.was it_fits in
    let o = held_old old new number before after place split written in
    record {
      held = held_new old new number before after place split written
          ∙ (sym (forced_one n k (held_of old.size before) (held_of old.size after) block
          (subst (λ (m : ℕ). IsOther m (held_of old.size before
          ++ held_of old.size after)) block
          (once_other k (held_of old.size before) (held_of old.size after) (subst IsOnce o once))))
          ∙ ap (forced (n ∷ [])) (sym o));
      empty = empty_same old new number before after place split written;
      bare = bare_same old new number before after place split written;
    }

-- none is
none_changed : (size n : ℕ) (entries : List Entry) → AreNone (sought.ChangedBlock n) entries
    → AllByRecursion (λ h. (h.changed && (h.block == n)) ≡ false) (held_of size entries)
none_changed size n [] none = tt
none_changed size n (e ∷ entries) none = by_place e.1 none.0 (none_changed size n entries none.1)
  where
    by_place : (place : Place) → fits (sought.ChangedBlock n) place ≡ false
        → AllByRecursion (λ h. (h.changed && (h.block == n)) ≡ false) (held_of size entries)
        → AllByRecursion (λ h. (h.changed && (h.block == n)) ≡ false) (held_at size place
        ++ held_of size entries)
    by_place Bare is rest = rest
    by_place (Empty buffer) is rest = rest
    by_place (Taken block mark buffer) is rest = (is, rest)

pub forces_none : (frames : Frames) (n : ℕ) → AreNone (sought.ChangedBlock n) (entries_of frames)
    → IsForced (n ∷ []) frames frames
forces_none frames n none =
    record {
      held =
          sym (forced_none n (held_by frames)
          (none_changed frames.size n (entries_of frames) none));
      empty = refl;
      bare = refl;
    }

pub none_changed_held : (size : ℕ) (entries : List Entry) → AreNone sought.Changed entries
    → AllByRecursion (λ h. h.changed ≡ false) (held_of size entries)
none_changed_held size [] none = tt
none_changed_held size (e ∷ entries) none =
    by_place e.1 none.0 (none_changed_held size entries none.1)
  where
    by_place : (place : Place) → fits sought.Changed place ≡ false
        → AllByRecursion (λ h. h.changed ≡ false) (held_of size entries)
        → AllByRecursion (λ h. h.changed ≡ false) (held_at size place ++ held_of size entries)
    by_place Bare is rest = rest
    by_place (Empty buffer) is rest = rest
    by_place (Taken block mark buffer) is rest = (is, rest)

-- one more is flushed
pub flushes_one : (first old new : Frames) (k number : ℕ) → IsFlushed k first old
    → (last : IsLast sought.Changed (entries_of old) number)
    → IsWritten last.before last.after number last.place old new → IsFlushed (k + 1) first new
flushes_one first old new k number so_far last written =
    let o = held_old old new number last.before last.after last.place last.split written in
    let one : held_by new ≡ flushed 1 (held_by old) =
    held_new old new number last.before last.after last.place last.split written
    ∙ (sym (last_at (λ (j : Held). j.changed) clean
    (h old new number last.before last.after last.place last.split written)
    (held_of old.size last.before) (held_of old.size last.after) refl
    (none_changed_held old.size last.after last.none_after)) ∙ ap (flushed 1) (sym o)) in
    record {
      held = one ∙ (ap (flushed 1) so_far.held
          ∙ last_one_more (λ (j : Held). j.changed) clean (λ x. refl) k (held_by first));
      empty = empty_same old new number last.before last.after last.place last.split written
          ∙ so_far.empty;
      bare = bare_same old new number last.before last.after last.place last.split written
          ∙ so_far.bare;
    }

-- there was one to flush, or there was none
changed_there : (h : Held) (xs ys : List Held) → h.changed ≡ true → 0 < changed_count (xs ++ h ∷ ys)
changed_there h xs ys is =
    omega (
      arith,
      sum_by-append (λ (j : Held). cond {A =
          ℕ} j.changed 1 0) xs (h ∷ ys),
      sum_by-cons (λ (j : Held). cond {A =
          ℕ} j.changed 1 0) h ys,
      ap {B = ℕ} (λ (b : Bool). cond b 1 0) is,
    )

pub still_changed : (first old new : Frames) (k number : ℕ) → IsFlushed k first old
    → (last : IsLast sought.Changed (entries_of old) number)
    → IsWritten last.before last.after number last.place old new
    → k + 1 ≤ changed_count (held_by first)
still_changed first old new k number so_far last written =
    let o = held_old old new number last.before last.after last.place last.split written in
    let some : 0 < changed_count (held_by old) =
    subst (λ (hs : List Held). 0 < changed_count hs) (sym o)
    (changed_there (h old new number last.before last.after last.place last.split written)
    (held_of old.size last.before) (held_of old.size last.after) refl) in
    omega (
      arith,
      some,
      ap changed_count so_far.held,
      count_last (λ (j : Held). j.changed) clean
          (λ x. refl) k (held_by first),
    )

none_count : (hs : List Held) → AllByRecursion (λ h. h.changed ≡ false) hs → changed_count hs ≡ 0
none_count [] none = refl
none_count (h ∷ hs) none =
    omega (
      arith,
      sum_by-cons (λ (j : Held). cond {A = ℕ} j.changed 1 0) h hs,
      ap {B =
          ℕ} (λ (b : Bool). cond b 1 0) none.0,
      none_count hs none.1,
    )

pub all_flushed : (first old : Frames) (k : ℕ) → IsFlushed k first old
    → AreNone sought.Changed (entries_of old) → changed_count (held_by first) ≤ k
all_flushed first old k so_far none =
    omega (
      arith,
      none_count (held_by old) (none_changed_held old.size (entries_of old) none),
      ap
          changed_count so_far.held,
      count_last (λ (j : Held). j.changed) clean (λ x. refl) k
          (held_by first),
    )

-- none is flushed yet
flushed_none : (hs : List Held) → flushed 0 hs ≡ hs
flushed_none [] = refl
flushed_none (h ∷ hs) = by_mark h.changed ∙ ap (λ (xs : List Held). h ∷ xs) (flushed_none hs)
  where
    by_mark : (b : Bool)
        → cond (b && nat_lt (changed_count hs) 0) (clean h) h ∷ flushed 0 hs ≡ h ∷ flushed 0 hs
    by_mark true =
        ap (λ (b : Bool). cond b (clean h) h ∷ flushed 0 hs)
        (le-ltb (changed_count hs) 0 (omega arith))
    by_mark false = refl

pub flushes_none : (frames : Frames) → IsFlushed 0 frames frames
flushes_none frames =
    record { held = sym (flushed_none (held_by frames)); empty = refl; bare = refl }

-- none is forced yet
forced_nothing : (hs : List Held) → forced [] hs ≡ hs
forced_nothing [] = refl
forced_nothing (h ∷ hs) = ap (λ (xs : List Held). h ∷ xs) (forced_nothing hs)

pub forces_nothing : (frames : Frames) → IsForced [] frames frames
forces_nothing frames =
    record { held = sym (forced_nothing (held_by frames)); empty = refl; bare = refl }

-- one more is forced
pub forces_more : (first old new : Frames) (listed : List ℕ) (n : ℕ) → IsForced listed first old
    → IsForced (n ∷ []) old new → IsForced (listed ++ n ∷ []) first new
forces_more first old new listed n so_far one = record {
  held = one.held ∙ (ap (forced (n ∷ [])) so_far.held ∙ forced_more listed n (held_by first));
  empty = one.empty ∙ so_far.empty;
  bare = one.bare ∙ so_far.bare;
}

-- where as many were flushed as there are places, none is changed
held_few : (size : ℕ) (entries : List Entry) → length (held_of size entries) ≤ length entries
held_few size [] = omega arith
held_few size (e ∷ entries) =
    omega (
      arith,
      length-append (held_at size e.1) (held_of size entries),
      one e.1,
      held_few size
          entries,
    )
  where
    one : (place : Place) → length (held_at size place) ≤ 1
    one Bare = omega arith
    one (Empty buffer) = omega arith
    one (Taken block changed buffer) = omega arith

pub all_clean : (first new : Frames) (k : ℕ) → IsFlushed k first new
    → k ≡ min (length (entries_of first)) (changed_count (held_by first))
    → changed_count (held_by new) ≡ 0
all_clean first new k flushed_is count = omega (
  arith,
  count,
  ap changed_count flushed_is.held,
  count_last (λ (j : Held). j.changed) clean (λ x. refl) k (held_by first),
  held_few first.size (entries_of first),
  count_by-le-length (λ (j : Held). j.changed) (held_by first),
)

-- what is read where none is changed, and what may be left
pub overlay_clean : (cur : Image) (hs : List Held) → changed_count hs ≡ 0 → overlay cur hs ≡ cur
overlay_clean cur [] none = refl
overlay_clean cur (h ∷ hs) none =
    by_mark h.changed refl (omega (
      arith,
      none,
      sum_by-cons (λ (j : Held). cond {A =
          ℕ} j.changed 1 0) h hs,
    )) (overlay_clean cur hs)
  where
    by_mark : (mark : Bool) → h.changed ≡ mark → cond {A = ℕ} h.changed 1 0 + changed_count hs ≡ 0
        → (changed_count hs ≡ 0 → overlay cur hs ≡ cur)
        → cond mark (slice_set (overlay cur hs) h.block h.bytes) (overlay cur hs) ≡ cur
    by_mark true is sum go = absurd (omega (arith, sum, ap {B = ℕ} (λ (b : Bool). cond b 1 0) is))
    by_mark false is sum go = go (omega (arith, sum))
