-- Lemmas on what a write and a sync make of the contents that a crash may leave. They stand here,
-- since the laws of a device in memory rest on them and can cite no proofs.
use Rattle.std.proofs.Common.{◌≡◌, ◌⊎◌, inl, inr, ⊎_elim, ℕ, zero, suc, ◌==◌, List, [], ◌∷◌, ◌++◌}
use Rattle.std.proofs.Common.{get_or, map, set, Contains, refl, sym, ap, subst, ◌∙◌, arith, eq-eqb}
use Rattle.std.proofs.Common.{ne_eqb, get_or-set_same, get_or-set_other, length-set, if◌then◌else◌}
use Rattle.std.specs.List.{filter}
use Rattle.std.proofs.lemmas.Bool.{cases_eq}
use Rattle.std.proofs.lemmas.List.{map-append}
use Rattle.std.proofs.lemmas.List.Elements.{filter-append, Contains-append_left}
use Rattle.std.proofs.lemmas.List.Elements.{Contains-append_cases, Contains-push}
use Rattle.vr_types.specs.Image.{Block, IsImage, block_at}
use Rattle.vr_device.specs.Disk.{Disk, contents_of, choices_of, MayHold, written, tried, synced}

contents_of-append : (xs ys : List (ℕ × Block)) (n : ℕ)
    → contents_of (xs ++ ys) n ≡ contents_of xs n ++ contents_of ys n
contents_of-append xs ys n =
    ap (λ l. map (λ w. w.1) l) (filter-append (λ w. w.0 == n) xs ys)
    ∙ map-append (λ w. w.1) (filter (λ w. w.0 == n) xs) (filter (λ w. w.0 == n) ys)

choices_of-written : (disk : Disk) (m : ℕ) (bytes : Block) (n : ℕ)
    → choices_of (written disk m bytes) n ≡ choices_of disk n ++ contents_of ((m, bytes) ∷ []) n
choices_of-written disk m bytes n = ap (λ l. block_at disk.stable n ∷ l)
    (contents_of-append disk.writes ((m, bytes) ∷ []) n)

none_in : {X : Type 0} (x : X) → Contains [] x → ⊥
none_in x found = omega (arith, found.1)

only_in : {X : Type 0} (x y : X) → Contains (x ∷ []) y → y ≡ x
only_in x y (zero, below, is) = sym is
only_in x y (suc k, below, is) = absurd (omega (arith, below))

-- the one write's content, where it is of this block
contents_of-one : (m n : ℕ) (bytes block : Block)
    → Contains (contents_of ((m, bytes) ∷ []) n) block → (n ≡ m) × (block ≡ bytes)
contents_of-one m n bytes block found = ⊎_elim
    (λ same. (
      sym same,
      only_in bytes block
          (subst (λ t.
          Contains (map (λ (w : ℕ × Block). w.1) (if t then (m, bytes) ∷ [] else [])) block)
          (eq-eqb m n same) found),
    ))
    (λ other. absurd (none_in block (subst
    (λ t. Contains (map (λ (w : ℕ × Block). w.1) (if t then (m, bytes) ∷ [] else [])) block)
    (ne_eqb m n other) found)))
    (cases_eq m n)

-- a content that may be there after a write is the one written, or might have been there before
pub MayHold-written : (disk : Disk) (m : ℕ) (bytes : Block) (n : ℕ) (block : Block)
    → MayHold (written disk m bytes) n block → MayHold disk n block ⊎ ((n ≡ m) × (block ≡ bytes))
MayHold-written disk m bytes n block holds =
    ⊎_elim inl (λ one. inr (contents_of-one m n bytes block one))
    (Contains-append_cases (choices_of disk n) (contents_of ((m, bytes) ∷ []) n) block
    (subst (λ l. Contains l block) (choices_of-written disk m bytes n) holds))

-- a write takes no content away
pub MayHold-kept : (disk : Disk) (m : ℕ) (bytes : Block) (n : ℕ) (block : Block)
    → MayHold disk n block → MayHold (written disk m bytes) n block
MayHold-kept disk m bytes n block holds =
    subst (λ l. Contains l block) (sym (choices_of-written disk m bytes n))
    (Contains-append_left (choices_of disk n) (contents_of ((m, bytes) ∷ []) n) block holds)

-- a write adds its content
pub MayHold-new : (disk : Disk) (n : ℕ) (bytes : Block) → MayHold (written disk n bytes) n bytes
MayHold-new disk n bytes =
    let one : contents_of ((n, bytes) ∷ []) n ≡ bytes ∷ [] =
    ap (λ t. map (λ (w : ℕ × Block). w.1) (if t then (n, bytes) ∷ [] else []))
    (eq-eqb n n refl) in
    subst (λ l. Contains l bytes) (sym (choices_of-written disk n bytes n
    ∙ ap (λ l. choices_of disk n ++ l) one)) (Contains-push (choices_of disk n) bytes)

pub MayHold-stable : (disk : Disk) (n : ℕ) → MayHold disk n (block_at disk.stable n)
MayHold-stable disk n = (0, omega arith, refl)

-- after a sync each block may hold what is read there, and nothing else
pub MayHold-synced : (disk : Disk) (n : ℕ) (block : Block) → MayHold (synced disk) n block
    → block ≡ block_at disk.seen n
MayHold-synced disk n block holds = only_in (block_at disk.seen n) block holds

-- what is read is an image
abbrev pub IsReadable : ℕ → Disk → Type 0
IsReadable count disk = IsImage count (MayHold disk) disk.seen

pub IsReadable-written : (count : ℕ) (disk : Disk) (m : ℕ) (bytes : Block) → IsReadable count disk
    → IsReadable count (written disk m bytes)
IsReadable-written count disk m bytes readable = record {
  length_is = length-set disk.seen m bytes ∙ readable.length_is;
  each = λ n below. ⊎_elim
      (λ same. subst (λ k. MayHold (written disk m bytes) k (get_or (set disk.seen m bytes) k []))
      (sym same)
      (subst (λ b. MayHold (written disk m bytes) m b)
      (sym (get_or-set_same disk.seen m bytes [] (omega (arith, readable.length_is, same, below))))
      (MayHold-new disk m bytes)))
      (λ other. subst (λ b. MayHold (written disk m bytes) n b)
      (sym (get_or-set_other disk.seen m n bytes [] (λ e. other e)))
      (MayHold-kept disk m bytes n (block_at disk.seen n) (readable.each n below)))
      (cases_eq n m);
}

pub IsReadable-tried : (count : ℕ) (disk : Disk) (m : ℕ) (bytes : Block) → IsReadable count disk
    → IsReadable count (tried disk m bytes)
IsReadable-tried count disk m bytes readable = record {
  length_is = readable.length_is;
  each = λ n below. MayHold-kept disk m bytes n (block_at disk.seen n) (readable.each n below);
}

pub IsReadable-synced : (count : ℕ) (disk : Disk) → IsReadable count disk
    → IsReadable count (synced disk)
IsReadable-synced count disk readable =
    record { length_is = readable.length_is; each = λ n below. MayHold-stable (synced disk) n }
