-- How lists of held blocks are laid over a device: the overlay, what is changed, and what is clean.
use Rattle.std.proofs.Common.{◌≡◌, ◌≢◌, ◌⊎◌, inl, inr, ⊎_elim, ◌<◌, ℕ, Bool, true, false, cond}
use Rattle.std.proofs.Common.{List, [], ◌∷◌, ◌++◌, refl, sym, ap, ◌∙◌, subst, arith, length}
use Rattle.std.proofs.Common.{slice_set, true≢false}
use Rattle.std.proofs.Common.{get_or-set_same, get_or-set_other}
use Rattle.std.specs.List.{AllByRecursion}
use Rattle.std.proofs.lemmas.List.{set-set, set_comm}
use Rattle.vr_types.specs.Image.{Block, Image, block_at}
use Rattle.vr_resident.specs.Seeing.{overlay-length}
use Rattle.vr_resident.specs.Held.{Held, IsOther, IsOnce, overlay, IsChanged, AreClean, clean}

pub overlay-append : (cur : Image) (xs ys : List Held)
    → overlay cur (xs ++ ys) ≡ overlay (overlay cur ys) xs
overlay-append cur [] ys = refl
overlay-append cur (x ∷ xs) ys =
    ap (λ (i : Image). cond x.changed (slice_set i x.block x.bytes) i) (overlay-append cur xs ys)

-- a block that is not held is read from the device
pub overlay-other : (cur : Image) (xs : List Held) (n : ℕ) → IsOther n xs
    → block_at (overlay cur xs) n ≡ block_at cur n
overlay-other cur [] n other = refl
overlay-other cur (x ∷ xs) n other = by_mark (overlay-other cur xs n other.1) x.changed
  where
    by_mark : block_at (overlay cur xs) n ≡ block_at cur n → (mark : Bool)
        → block_at (cond mark (slice_set (overlay cur xs) x.block x.bytes) (overlay cur xs)) n ≡
        block_at cur n
    by_mark before true =
        get_or-set_other (overlay cur xs) x.block n x.bytes [] (λ e. other.0 (sym e)) ∙ before
    by_mark before false = before

-- a write of a block that is not held
pub overlay-past : (cur : Image) (xs : List Held) (n : ℕ) (bytes : Block) → IsOther n xs
    → overlay (slice_set cur n bytes) xs ≡ slice_set (overlay cur xs) n bytes
overlay-past cur [] n bytes other = refl
overlay-past cur (x ∷ xs) n bytes other = by_mark (overlay-past cur xs n bytes other.1) x.changed
  where
    by_mark : overlay (slice_set cur n bytes) xs ≡ slice_set (overlay cur xs) n bytes
        → (mark : Bool)
        → cond mark (slice_set (overlay (slice_set cur n bytes) xs) x.block x.bytes)
        (overlay (slice_set cur n bytes) xs) ≡ slice_set
        (cond mark (slice_set (overlay cur xs) x.block x.bytes) (overlay cur xs)) n bytes
    by_mark before true = ap (λ (i : Image). slice_set i x.block x.bytes) before
        ∙ set_comm (overlay cur xs) n x.block bytes x.bytes (λ e. other.0 (sym e))
    by_mark before false = before

all_left : (P : Held → Type 0) (xs ys : List Held) → AllByRecursion P (xs ++ ys)
    → AllByRecursion P xs
all_left P [] ys all = tt
all_left P (x ∷ xs) ys all = (all.0, all_left P xs ys all.1)

all_right : (P : Held → Type 0) (xs ys : List Held) → AllByRecursion P (xs ++ ys)
    → AllByRecursion P ys
all_right P [] ys all = all
all_right P (x ∷ xs) ys all = all_right P xs ys all.1

pub all_both : (P : Held → Type 0) (xs ys : List Held) → AllByRecursion P xs → AllByRecursion P ys
    → AllByRecursion P (xs ++ ys)
all_both P [] ys left right = right
all_both P (x ∷ xs) ys left right = (left.0, all_both P xs ys left.1 right)

-- what holds of each holds of the one between, and of the others
pub all_at : (P : Held → Type 0) (h : Held) (xs ys : List Held) → AllByRecursion P (xs ++ h ∷ ys)
    → P h
all_at P h xs ys all = (all_right P xs (h ∷ ys) all).0

pub all_rest : (P : Held → Type 0) (h : Held) (xs ys : List Held) → AllByRecursion P (xs ++ h ∷ ys)
    → AllByRecursion P (xs ++ ys)
all_rest P h xs ys all =
    all_both P xs ys (all_left P xs (h ∷ ys) all) (all_right P xs (h ∷ ys) all).1

pub all_with : (P : Held → Type 0) (h : Held) (xs ys : List Held) → P h
    → AllByRecursion P (xs ++ ys) → AllByRecursion P (xs ++ h ∷ ys)
all_with P h xs ys here all =
    all_both P xs (h ∷ ys) (all_left P xs ys all) (here, all_right P xs ys all)

-- the others are not that block
pub once_other : (h : Held) (xs ys : List Held) → IsOnce (xs ++ h ∷ ys) → IsOther h.block (xs ++ ys)
once_other h [] ys once = once.0
once_other h (x ∷ xs) ys once =
    ((λ e. all_at (λ k. k.block ≢ x.block) h xs ys once.0 (sym e)), once_other h xs ys once.1)

pub once_rest : (h : Held) (xs ys : List Held) → IsOnce (xs ++ h ∷ ys) → IsOnce (xs ++ ys)
once_rest h [] ys once = once.1
once_rest h (x ∷ xs) ys once =
    (all_rest (λ k. k.block ≢ x.block) h xs ys once.0, once_rest h xs ys once.1)

-- the same block at the same place
pub once_same : (h k : Held) (xs ys : List Held) → k.block ≡ h.block → IsOnce (xs ++ h ∷ ys)
    → IsOnce (xs ++ k ∷ ys)
once_same h k [] ys same once = (subst (λ (n : ℕ). IsOther n ys) (sym same) once.0, once.1)
once_same h k (x ∷ xs) ys same once = (
  all_with (λ j. j.block ≢ x.block) k xs ys
      (λ e. all_at (λ j. j.block ≢ x.block) h xs ys once.0 (sym same
      ∙ e)) (all_rest (λ j. j.block ≢ x.block) h xs ys once.0),
  once_same h k xs ys same once.1,
)

-- the overlay does not see where the block stands
pub overlay-between : (cur : Image) (h : Held) (xs ys : List Held) → IsOther h.block (xs ++ ys)
    → overlay cur (xs ++ h ∷ ys) ≡ overlay cur (h ∷ xs ++ ys)
overlay-between cur h xs ys other = overlay-append cur xs (h ∷ ys) ∙ by_mark h.changed
    ∙ ap (λ (i : Image). cond h.changed (slice_set i h.block h.bytes) i)
    (sym (overlay-append cur xs ys))
  where
    by_mark : (mark : Bool)
        → overlay (cond mark (slice_set (overlay cur ys) h.block h.bytes) (overlay cur ys)) xs ≡
        cond mark (slice_set (overlay (overlay cur ys) xs) h.block h.bytes)
        (overlay (overlay cur ys) xs)
    by_mark true =
        overlay-past (overlay cur ys) xs h.block h.bytes
        (all_left (λ k. k.block ≢ h.block) xs ys other)
    by_mark false = refl

-- a changed block that is written need not be held as changed, or at all
pub overlay-written : (cur : Image) (h : Held) (xs ys : List Held) → h.changed ≡ true
    → IsOther h.block (xs ++ ys)
    → overlay (slice_set cur h.block h.bytes) (xs ++ ys) ≡ overlay cur (xs ++ h ∷ ys)
overlay-written cur h xs ys marked other =
    overlay-past cur (xs ++ ys) h.block h.bytes other
    ∙ sym (overlay-between cur h xs ys other
    ∙ ap (λ (mark : Bool). cond mark (slice_set (overlay cur (xs
    ++ ys)) h.block h.bytes) (overlay cur (xs ++ ys))) marked)

-- and if it still is, the overlay is the same
pub overlay-absorbs : (cur : Image) (h : Held) (xs ys : List Held) → h.changed ≡ true
    → IsOther h.block (xs ++ ys)
    → overlay (slice_set cur h.block h.bytes) (xs ++ h ∷ ys) ≡ overlay cur (xs ++ h ∷ ys)
overlay-absorbs cur h xs ys marked other =
    overlay-between (slice_set cur h.block h.bytes) h xs ys other
    ∙ ap (λ (mark : Bool). cond mark (slice_set (overlay (slice_set cur h.block h.bytes) (xs
    ++ ys)) h.block h.bytes) (overlay (slice_set cur h.block h.bytes) (xs ++ ys))) marked
    ∙ ap (λ (i : Image). slice_set i h.block h.bytes) (overlay-past cur (xs
    ++ ys) h.block h.bytes other)
    ∙ set-set (overlay cur (xs ++ ys)) h.block h.bytes h.bytes
    ∙ sym (overlay-between cur h xs ys other
    ∙ ap (λ (mark : Bool). cond mark (slice_set (overlay cur (xs
    ++ ys)) h.block h.bytes) (overlay cur (xs ++ ys))) marked)

-- a block that isn't changed is not seen
pub overlay-clean : (cur : Image) (h : Held) (xs ys : List Held) → h.changed ≡ false
    → overlay cur (xs ++ h ∷ ys) ≡ overlay cur (xs ++ ys)
overlay-clean cur h xs ys unmarked =
    overlay-append cur xs (h ∷ ys)
    ∙ ap (λ (mark : Bool). overlay
    (cond mark (slice_set (overlay cur ys) h.block h.bytes) (overlay cur ys)) xs) unmarked
    ∙ sym (overlay-append cur xs ys)

-- a block that is put is held as changed in place of what was held of it
pub overlay-put : (cur : Image) (h k : Held) (xs ys : List Held) → k.changed ≡ true
    → k.block ≡ h.block → IsOther h.block (xs ++ ys)
    → overlay cur (k ∷ xs ++ ys) ≡ slice_set (overlay cur (xs ++ h ∷ ys)) k.block k.bytes
overlay-put cur h k xs ys marked same other =
    ap (λ (mark : Bool). cond mark (slice_set (overlay cur (xs
    ++ ys)) k.block k.bytes) (overlay cur (xs ++ ys))) marked
    ∙ by_mark h.changed
    ∙ ap (λ (i : Image). slice_set i k.block k.bytes) (sym (overlay-between cur h xs ys other))
  where
    by_mark : (mark : Bool)
        → slice_set (overlay cur (xs
        ++ ys)) k.block k.bytes ≡ slice_set (cond mark (slice_set (overlay cur (xs
        ++ ys)) h.block h.bytes) (overlay cur (xs ++ ys))) k.block k.bytes
    by_mark true = sym (set-set (overlay cur (xs ++ ys)) k.block h.bytes k.bytes)
        ∙ ap (λ (n : ℕ). slice_set (slice_set (overlay cur (xs
        ++ ys)) n h.bytes) k.block k.bytes) same
    by_mark false = refl

-- the content of a block that is held
pub overlay-held : (cur : Image) (h : Held) (xs ys : List Held) → h.block < length cur
    → IsOther h.block (xs ++ ys) → (h.changed ≡ false → h.bytes ≡ block_at cur h.block)
    → block_at (overlay cur (xs ++ h ∷ ys)) h.block ≡ h.bytes
overlay-held cur h xs ys below other is_clean =
    ap (λ (i : Image). block_at i h.block) (overlay-between cur h xs ys other)
    ∙ by_mark h.changed refl
  where
    by_mark : (mark : Bool) → h.changed ≡ mark
        → block_at (cond mark (slice_set (overlay cur (xs ++ ys)) h.block h.bytes) (overlay cur (xs
        ++ ys))) h.block ≡ h.bytes
    by_mark true is =
        get_or-set_same (overlay cur (xs
        ++ ys)) h.block h.bytes [] (omega (arith, below, overlay-length cur (xs ++ ys)))
    by_mark false is = overlay-other cur (xs ++ ys) h.block other ∙ sym (is_clean is)

-- what is changed of two lists
pub changed_left : (xs ys : List Held) (n : ℕ) (b : Block) → IsChanged xs n b
    → IsChanged (xs ++ ys) n b
changed_left [] ys n b is = absurd is
changed_left (x ∷ xs) ys n b is =
    ⊎_elim (λ here. inl here) (λ later. inr (changed_left xs ys n b later)) is

pub changed_right : (xs ys : List Held) (n : ℕ) (b : Block) → IsChanged ys n b
    → IsChanged (xs ++ ys) n b
changed_right [] ys n b is = is
changed_right (x ∷ xs) ys n b is = inr (changed_right xs ys n b is)

pub changed_either : (xs ys : List Held) (n : ℕ) (b : Block) → IsChanged (xs ++ ys) n b
    → IsChanged xs n b ⊎ IsChanged ys n b
changed_either [] ys n b is = inr is
changed_either (x ∷ xs) ys n b is =
    ⊎_elim (λ here. inl (inl here))
    (λ later. ⊎_elim (λ l. inl (inr l)) (λ r. inr r) (changed_either xs ys n b later)) is

-- a list has what is changed of the same list with one more
pub changed_more : (h : Held) (xs ys : List Held) (n : ℕ) (b : Block) → IsChanged (xs ++ ys) n b
    → IsChanged (xs ++ h ∷ ys) n b
changed_more h xs ys n b is =
    ⊎_elim (changed_left xs (h ∷ ys) n b) (λ r. changed_right xs (h ∷ ys) n b (inr r))
    (changed_either xs ys n b is)

pub changed_here : (h : Held) (xs ys : List Held) → h.changed ≡ true
    → IsChanged (xs ++ h ∷ ys) h.block h.bytes
changed_here h xs ys marked = changed_right xs (h ∷ ys) h.block h.bytes (inl (marked, refl, refl))

-- and of the block that is put in
pub changed_front : (h : Held) (xs ys : List Held) (n : ℕ) (b : Block)
    → IsChanged (h ∷ xs ++ ys) n b → IsChanged (xs ++ h ∷ ys) n b
changed_front h xs ys n b is =
    ⊎_elim (λ here. changed_right xs (h ∷ ys) n b (inl here)) (changed_more h xs ys n b) is

pub changed_clean : (h : Held) (xs ys : List Held) (n : ℕ) (b : Block)
    → IsChanged (xs ++ clean h ∷ ys) n b → IsChanged (xs ++ h ∷ ys) n b
changed_clean h xs ys n b is =
    ⊎_elim (changed_left xs (h ∷ ys) n b)
    (λ r. ⊎_elim (λ here. absurd (true≢false (sym here.0)))
    (λ later. changed_right xs (h ∷ ys) n b (inr later)) r)
    (changed_either xs (clean h ∷ ys) n b is)

-- what is clean stays so where another block is written
pub clean_past : (cur : Image) (xs : List Held) (n : ℕ) (bytes : Block) → IsOther n xs
    → AreClean cur xs → AreClean (slice_set cur n bytes) xs
clean_past cur [] n bytes other are = tt
clean_past cur (x ∷ xs) n bytes other are = (
  (λ unmarked. are.0 unmarked
      ∙ sym (get_or-set_other cur n x.block bytes [] other.0)),
  clean_past cur xs n bytes other.1
      are.1,
)
