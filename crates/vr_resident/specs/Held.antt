-- The blocks that a cache holds, as a list with the most recently used first, and what a reader
-- finds and a crash may leave once they are laid over a device. The rules are this project's own.
use Rattle.std.specs.Prelude.{◌≡◌, ◌≢◌, ◌⊎◌, ◌<◌, ◌==◌, ◌&&◌, ◌||◌, ℕ, Bool, false, IsTrue, cond}
use Rattle.std.specs.Prelude.{List, [], ◌∷◌, ◌++◌, map, slice_set, count_by, nat_lt}
use Rattle.std.specs.List.{AllByRecursion}
use Rattle.vr_types.specs.Image.{Block, Image, block_at}
use Rattle.vr_types.specs.Seen.{Seen}

-- A block that is held: its number, its bytes, and whether it was put since it was written last.
pub record Held : Type 0 where
  pub block : ℕ
  pub bytes : Block
  pub changed : Bool

-- it is held no longer as changed
abbrev pub clean : Held → Held
clean h = record h { changed = false }

-- block n is not among them
abbrev pub IsOther : ℕ → List Held → Type 0
IsOther n = AllByRecursion (λ h. h.block ≢ n)

-- no block is held twice
abbrev pub IsOnce : List Held → Type 0
IsOnce [] = Unit {0}
IsOnce (h ∷ held) = IsOther h.block held × IsOnce held

-- what a reader finds: the device's contents, with the changed blocks over them
abbrev pub overlay : Image → List Held → Image
overlay cur [] = cur
overlay cur (h ∷ held) =
    cond h.changed (slice_set (overlay cur held) h.block h.bytes) (overlay cur held)

-- block n is held as changed, with these bytes
abbrev pub IsChanged : List Held → ℕ → Block → Type 0
IsChanged [] n bytes = ⊥
IsChanged (h ∷ held) n bytes =
    (IsTrue h.changed × (h.block ≡ n) × (h.bytes ≡ bytes)) ⊎ IsChanged held n bytes

-- A block that isn't changed has the bytes that the device reads.
abbrev pub AreClean : Image → List Held → Type 0
AreClean cur = AllByRecursion (λ h. h.changed ≡ false → h.bytes ≡ block_at cur h.block)

-- What always holds of the blocks held over a device.
pub record IsHeld (tells : Bool) (device : Seen) (held : List Held) : Type 0 where
  pub below : AllByRecursion (λ h. h.block < device.count) held
  pub once : IsOnce held
  pub are_clean : IsTrue tells → AreClean device.cur held

-- What is seen of a device's blocks through a cache: a crash may leave what it may leave of the
-- device, and, once it is written, each block that is changed. The moments and images are the
-- device's.
abbrev pub over : Seen → List Held → Seen
over device held = record {
  count = device.count;
  size = device.size;
  cur = overlay device.cur held;
  may = λ n block. device.may n block ⊎ IsChanged held n block;
  moment = device.moment;
  images = device.images;
}

-- how many are changed
abbrev pub changed_count : List Held → ℕ
changed_count = count_by (λ h. h.changed)

-- the last `most` elements that pass the test, as f makes them; the others stay
abbrev pub with_last : {X : Type 0} → (X → Bool) → (X → X) → ℕ → List X → List X
with_last test f most [] = []
with_last test f most (x ∷ xs) =
    cond (test x && nat_lt (count_by test xs) most) (f x) x ∷ with_last test f most xs

-- the `most` least recently used ones that are changed, or all where there are fewer, are written
abbrev pub flushed : ℕ → List Held → List Held
flushed = with_last (λ h. h.changed) clean

-- the number is listed
abbrev pub is_listed : ℕ → List ℕ → Bool
is_listed n [] = false
is_listed n (m ∷ listed) = (m == n) || is_listed n listed

-- the listed ones are written
abbrev pub forced : List ℕ → List Held → List Held
forced listed = map (λ h. cond (is_listed h.block listed) (clean h) h)

-- `held` is `rest` with `h` somewhere between
pub record IsBetween (h : Held) (held rest : List Held) : Type 0 where
  pub before : List Held
  pub after : List Held
  pub with_it : held ≡ before ++ h ∷ after
  pub without_it : rest ≡ before ++ after
