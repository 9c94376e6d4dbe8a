-- The laws of what is seen of a device's blocks through frames.
use Rattle.std.proofs.Common.{replicate, ◌≡◌, ◌⊎◌, inl, inr, ⊎_elim, ◌<◌, ℕ, Bool, true, false}
use Rattle.std.proofs.Common.{cond, List, [], ◌∷◌, ◌++◌, refl, sym, ap, ◌∙◌, subst, arith, length}
use Rattle.std.proofs.Common.{slice_set, get_or-set_same, get_or-set_other}
use mathlib.Core.Logic.{dite}
use native.Mathlib.Decide.{ℕ_discrete}
use Rattle.std.proofs.lemmas.List.{length-append, length-take, length-replicate, length-set}
use Rattle.vr_types.specs.Image.{Block, Image, block_at}
use Rattle.vr_types.specs.Seen.{Seen, Left}
use Rattle.vr_resident.specs.Held.{Held, overlay, IsChanged, over}
use Rattle.vr_resident.specs.Places.{Entry, bytes_in, held_at, held_of, block_in}
use Rattle.vr_resident.specs.Cache.{entries_of}
use Rattle.vr_resident.specs.Resident.{seen_through}
use Rattle.vr_resident.specs.declared.place.Buffer.{Buffer}
use Rattle.vr_resident.specs.declared.place.Place.{Place}
use Rattle.vr_resident.specs.declared.place.Place.TheVariants.{Bare, Empty, Taken}
use Rattle.vr_resident.specs.declared.frames.Frames.{Frames}

-- an image that the device may leave is one that is left through the cache
pub left_over : (device : Seen) (held : List Held) (image : Image) → Left device image
    → Left (over device held) image
left_over device held image left =
    record { length_is = left.length_is; each = λ n below. inl (left.each n below) }

pub overlay-length : (cur : Image) (xs : List Held) → length (overlay cur xs) ≡ length cur
overlay-length cur [] = refl
overlay-length cur (x ∷ xs) = by_mark (overlay-length cur xs) x.changed
  where
    by_mark : length (overlay cur xs) ≡ length cur → (mark : Bool)
        → length (cond mark (slice_set (overlay cur xs) x.block x.bytes) (overlay cur xs)) ≡ length
        cur
    by_mark before true = length-set (overlay cur xs) x.block x.bytes ∙ before
    by_mark before false = before

pub length-block_in : (size : ℕ) (buffer : Buffer) → length (block_in size buffer) ≡ size
length-block_in size buffer =
    omega (
      arith,
      length-take size (bytes_in buffer
          ++ replicate size 0),
      length-append (bytes_in buffer) (replicate size 0),
      length-replicate {A =
          ℕ} size 0,
    )

-- what is read of each block may be left
reads : (device : Seen) (held : List Held) (n : ℕ) → n < length device.cur
    → device.may n (block_at device.cur n) → device.may n (block_at (overlay device.cur held) n)
    ⊎ IsChanged held n (block_at (overlay device.cur held) n)
reads device [] n below may = inl may
reads device (h ∷ held) n below may = by_mark h.changed refl (reads device held n below may)
  where
    by_mark : (mark : Bool) → h.changed ≡ mark
        → device.may n (block_at (overlay device.cur held) n)
        ⊎ IsChanged held n (block_at (overlay device.cur held) n)
        → (let now = cond mark (slice_set (overlay device.cur held) h.block h.bytes)
        (overlay device.cur held) in device.may n (block_at now n)
        ⊎ IsChanged (h ∷ held) n (block_at now n))
    by_mark false is rest = ⊎_elim (λ old. inl old) (λ later. inr (inr later)) rest
    by_mark true is rest = dite (ℕ_discrete h.block n)
        (λ same. inr (inl (
          is,
          same,
          sym
              (ap (λ (k : ℕ). block_at (slice_set (overlay device.cur held) k h.bytes) n) same
              ∙ get_or-set_same (overlay device.cur held) n h.bytes []
              (omega (arith, below, overlay-length device.cur held))),
        )))
        (λ other. let keeps : block_at (slice_set (overlay device.cur held) h.block h.bytes) n ≡
        block_at (overlay device.cur held) n =
        get_or-set_other (overlay device.cur held) h.block n h.bytes [] (λ e. other (sym e)) in
        ⊎_elim (λ old. inl (subst (device.may n) (sym keeps) old))
        (λ later. inr (inr (subst (IsChanged held n) (sym keeps) later))) rest)

pub cur_through : (device : Seen) (frames : Frames) → Left device device.cur
    → Left (seen_through device frames) (seen_through device frames).cur
cur_through device frames left = record {
  length_is = overlay-length device.cur (held_of device.size (entries_of frames)) ∙ left.length_is;
  each = λ n below. reads device (held_of device.size (entries_of frames)) n
      (omega (arith, below, left.length_is)) (left.each n below);
}

pub images_through : (device : Seen) (frames : Frames) (image : Image) → Left device image
    → Left (seen_through device frames) image
images_through device frames image left =
    left_over device (held_of device.size (entries_of frames)) image left

changed_size : (size : ℕ) (entries : List Entry) (n : ℕ) (block : Block)
    → IsChanged (held_of size entries) n block → length block ≡ size
changed_size size [] n block is = absurd is
changed_size size (e ∷ entries) n block is = by_place e.1 (changed_size size entries n block) is
  where
    by_place : (place : Place) → (IsChanged (held_of size entries) n block → length block ≡ size)
        → IsChanged (held_at size place ++ held_of size entries) n block → length block ≡ size
    by_place Bare rest is = rest is
    by_place (Empty buffer) rest is = rest is
    by_place (Taken k mark buffer) rest is =
        ⊎_elim (λ here. sym (ap length here.2) ∙ length-block_in size buffer) rest is

pub sized_through : (device : Seen) (frames : Frames) (n : ℕ) (block : Block)
    → (device.may n block → length block ≡ device.size) → (seen_through device frames).may n block
    → length block ≡ device.size
sized_through device frames n block whole may =
    ⊎_elim whole (changed_size device.size (entries_of frames) n block) may
