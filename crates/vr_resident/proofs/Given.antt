-- What is held once clean frames went back to the pool.
use Rattle.std.proofs.Common.{◌≡◌, ◌≢◌, inl, inr, ⊎_elim, ◌<◌, ◌&&◌, ℕ, Bool, true, false, cond}
use Rattle.std.proofs.Common.{IsTrue, List, [], ◌∷◌, ◌++◌, refl, sym, ap, ◌∙◌, subst, true≢false}
use Rattle.std.proofs.Common.{slice_set, nat_lt}
use Rattle.std.specs.List.{AllByRecursion}
use Rattle.vr_types.specs.Image.{Block, Image, block_at}
use Rattle.vr_types.specs.Seen.{Seen, Left}
use Rattle.vr_types.specs.Blocks.{Keeps}
use Rattle.vr_resident.specs.Held.{Held, IsHeld, IsOther, IsOnce, overlay, IsChanged, over}
use Rattle.vr_resident.specs.Places.{Entry, block_in, held_at, held_of, fits, is_at, count_of, gave}
use Rattle.vr_resident.specs.Cache.{entries_of, held_by, IsKept, IsFramed, KeepsSeat}
use Rattle.vr_resident.specs.declared.place.Place.{Place}
use Rattle.vr_resident.specs.declared.place.Place.TheVariants.{Bare, Empty, Taken}
use Rattle.vr_resident.specs.declared.place.Sought.TheVariants as sought
use Rattle.vr_resident.specs.declared.frames.Frames.{Frames}
use Rattle.vr_resident.proofs.Over.{no_call}

and_left : (a b : Bool) → (a && b) ≡ true → a ≡ true
and_left true b is = refl
and_left false b is = is

module _ (size k : ℕ) where
  -- whether the place is given up
  abbrev goes : Entry → List Entry → Bool
  goes e entries = is_at sought.Free e && nat_lt (count_of sought.Free entries) k

  part_all : (P : Held → Type 0) (entries : List Entry) → AllByRecursion P (held_of size entries)
      → AllByRecursion P (held_of size (gave k entries))
  part_all P [] all = tt
  part_all P (e ∷ entries) all = by_test (goes e entries) e.1 all (part_all P entries)
    where
      by_place : (place : Place) → AllByRecursion P (held_at size place ++ held_of size entries)
          → (AllByRecursion P (held_of size entries)
          → AllByRecursion P (held_of size (gave k entries)))
          → AllByRecursion P (held_at size place ++ held_of size (gave k entries))
      by_place Bare here rest = rest here
      by_place (Empty buffer) here rest = rest here
      by_place (Taken block mark buffer) here rest = (here.0, rest here.1)

      tail : (place : Place) → AllByRecursion P (held_at size place ++ held_of size entries)
          → AllByRecursion P (held_of size entries)
      tail Bare here = here
      tail (Empty buffer) here = here
      tail (Taken block mark buffer) here = here.1

      by_test : (b : Bool) (place : Place)
          → AllByRecursion P (held_at size place ++ held_of size entries)
          → (AllByRecursion P (held_of size entries)
          → AllByRecursion P (held_of size (gave k entries)))
          → AllByRecursion P (held_at size (cond {A = Entry} b (e.0, Bare) (e.0, place)).1
          ++ held_of size (gave k entries))
      by_test true place here rest = rest (tail place here)
      by_test false place here rest = by_place place here rest

  part_once : (entries : List Entry) → IsOnce (held_of size entries)
      → IsOnce (held_of size (gave k entries))
  part_once [] once = tt
  part_once (e ∷ entries) once =
      by_test (goes e entries) e.1 once (part_once entries)
      (λ n. part_all (λ h. h.block ≢ n) entries)
    where
      by_place : (place : Place) → IsOnce (held_at size place ++ held_of size entries)
          → (IsOnce (held_of size entries) → IsOnce (held_of size (gave k entries)))
          → ((n : ℕ) → IsOther n (held_of size entries)
          → IsOther n (held_of size (gave k entries)))
          → IsOnce (held_at size place ++ held_of size (gave k entries))
      by_place Bare here rest other = rest here
      by_place (Empty buffer) here rest other = rest here
      by_place (Taken block mark buffer) here rest other = (other block here.0, rest here.1)

      tail : (place : Place) → IsOnce (held_at size place ++ held_of size entries)
          → IsOnce (held_of size entries)
      tail Bare here = here
      tail (Empty buffer) here = here
      tail (Taken block mark buffer) here = here.1

      by_test : (b : Bool) (place : Place) → IsOnce (held_at size place ++ held_of size entries)
          → (IsOnce (held_of size entries) → IsOnce (held_of size (gave k entries)))
          → ((n : ℕ) → IsOther n (held_of size entries)
          → IsOther n (held_of size (gave k entries)))
          → IsOnce (held_at size (cond {A = Entry} b (e.0, Bare) (e.0, place)).1
          ++ held_of size (gave k entries))
      by_test true place here rest other = rest (tail place here)
      by_test false place here rest other = by_place place here rest other

  part_changed : (entries : List Entry) (n : ℕ) (x : Block)
      → IsChanged (held_of size (gave k entries)) n x → IsChanged (held_of size entries) n x
  part_changed [] n x is = is
  part_changed (e ∷ entries) n x is = by_test (goes e entries) e.1 is (part_changed entries n x)
    where
      more : (place : Place) → IsChanged (held_of size entries) n x
          → IsChanged (held_at size place ++ held_of size entries) n x
      more Bare here = here
      more (Empty buffer) here = here
      more (Taken block mark buffer) here = inr here

      by_place : (place : Place)
          → IsChanged (held_at size place ++ held_of size (gave k entries)) n x
          → (IsChanged (held_of size (gave k entries)) n x → IsChanged (held_of size entries) n x)
          → IsChanged (held_at size place ++ held_of size entries) n x
      by_place Bare here rest = rest here
      by_place (Empty buffer) here rest = rest here
      by_place (Taken block mark buffer) here rest =
          ⊎_elim (λ first. inl first) (λ later. inr (rest later)) here

      by_test : (b : Bool) (place : Place)
          → IsChanged (held_at size (cond {A = Entry} b (e.0, Bare) (e.0, place)).1
          ++ held_of size (gave k entries)) n x
          → (IsChanged (held_of size (gave k entries)) n x → IsChanged (held_of size entries) n x)
          → IsChanged (held_at size place ++ held_of size entries) n x
      by_test true place here rest = more place (rest here)
      by_test false place here rest = by_place place here rest

  part_overlay : (cur : Image) (entries : List Entry)
      → overlay cur (held_of size (gave k entries)) ≡ overlay cur (held_of size entries)
  part_overlay cur [] = refl
  part_overlay cur (e ∷ entries) =
      by_test (goes e entries) e.1
      (λ is. and_left (is_at sought.Free e) (nat_lt (count_of sought.Free entries) k) is)
      (part_overlay cur entries)
    where
      dropped : (place : Place) → fits sought.Free place ≡ true
          → overlay cur (held_of size entries) ≡ overlay cur (held_at size place
          ++ held_of size entries)
      dropped Bare is = refl
      dropped (Empty buffer) is = refl
      dropped (Taken block false buffer) is = refl
      dropped (Taken block true buffer) is = absurd (true≢false (sym is))

      by_place : (place : Place)
          → overlay cur (held_of size (gave k entries)) ≡ overlay cur (held_of size entries)
          → overlay cur (held_at size place
          ++ held_of size (gave k entries)) ≡ overlay cur (held_at size place
          ++ held_of size entries)
      by_place Bare rest = rest
      by_place (Empty buffer) rest = rest
      by_place (Taken block mark buffer) rest =
          ap (λ (i : Image). cond mark (slice_set i block (block_in size buffer)) i) rest

      by_test : (b : Bool) (place : Place) → (b ≡ true → fits sought.Free place ≡ true)
          → overlay cur (held_of size (gave k entries)) ≡ overlay cur (held_of size entries)
          → overlay cur (held_at size (cond {A = Entry} b (e.0, Bare) (e.0, place)).1
          ++ held_of size (gave k entries)) ≡ overlay cur (held_at size place
          ++ held_of size entries)
      by_test true place free rest = rest ∙ dropped place (free refl)
      by_test false place free rest = by_place place rest

module _ (tells : Bool) (device : Seen) (old new : Frames) (k : ℕ) (kept : IsKept tells device old)
    (given : entries_of new ≡ gave k (entries_of old)) (seat : KeepsSeat old new) where
  held_then : held_by new ≡ held_of old.size (gave k (entries_of old))
  held_then = ap (λ (n : ℕ). held_of n (entries_of new)) seat.size_same
      ∙ ap (held_of old.size) given

  pub given_kept : IsFramed new → IsKept tells device new
  given_kept framed = record {
    framed = framed;
    size_is = seat.size_same ∙ kept.size_is;
    held_is = subst (IsHeld tells device) (sym held_then) (record {
      below = part_all old.size k (λ h. h.block < device.count) (entries_of old) kept.held_is.below;
      once = part_once old.size k (entries_of old) kept.held_is.once;
      are_clean = λ told. part_all old.size k (λ h. h.changed ≡ false
          → h.bytes ≡ block_at device.cur h.block) (entries_of old) (kept.held_is.are_clean told);
    });
  }

  pub given_after : (IsTrue tells → (image : Image) → device.images device.moment image
      → Left device image) → Keeps tells (over device (held_by old)) (over device (held_by new))
  given_after within =
      subst (λ (hs : List Held). Keeps tells (over device (held_by old)) (over device hs))
      (sym held_then)
      (no_call tells device (held_by old) (held_of old.size (gave k (entries_of old))) within
      (λ told. part_overlay old.size k device.cur (entries_of old))
      (part_changed old.size k (entries_of old)))
