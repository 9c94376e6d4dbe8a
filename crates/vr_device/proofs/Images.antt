-- The images that a disk may leave, and the choices that give them.
use Rattle.std.proofs.Common.{◌≡◌, ◌<◌, ℕ, zero, suc, List, [], ◌∷◌, length, get_or, slice_get}
use Rattle.std.proofs.Common.{slice_index, Some, All, refl, ap, ◌∙◌, arith}
use Rattle.std.proofs.lemmas.Option.{slice_get_within, get_or_from_slice_get}
use Rattle.std.proofs.lemmas.List.{get_or_default}
use Rattle.vr_types.specs.Image.{Image, IsImage, block_at}
use Rattle.vr_device.specs.Disk.{Disk, choices_of, MayHold, IsChosen, IsSomeChoice}
use Rattle.vr_device.specs.Sizes.{IsWhole}

found-at : {X : Type 0} (xs : List X) (k : ℕ) (x : X) → k < length xs → get_or xs k x ≡ x
    → slice_get xs k ≡ Some x
found-at [] k x below is = absurd (omega (arith, below))
found-at (y ∷ xs) zero x below is = ap Some is
found-at (y ∷ xs) (suc k) x below is = found-at xs k x (omega (arith, below)) is

-- what a choice gives is an image
pub chosen-image : (count : ℕ) (disk : Disk) (choice : List ℕ) (image : Image)
    → IsChosen count disk choice image → IsImage count (MayHold disk) image
chosen-image count disk choice image chosen = record {
  length_is = chosen.length_is;
  each = λ n below.
      let k = slice_index choice n in (
        k,
        slice_get_within (choices_of disk n) k (block_at image n) (chosen.each n below),
        get_or_from_slice_get (choices_of disk n) k (block_at image n) (block_at image n)
            (chosen.each n below),
      );
}

-- the blocks of an image have the size of a block
pub image-sizes : (count size : ℕ) (disk : Disk) (image : Image) → IsWhole count size disk
    → IsImage count (MayHold disk) image → All (λ block. length block ≡ size) image
image-sizes count size disk image whole is k d below =
    ap length (get_or_default image k d [] below)
    ∙ whole k (block_at image k) (omega (arith, below, is.length_is))
    (is.each k (omega (arith, below, is.length_is)))

-- a list of what there is for each number below the count
listed : (count : ℕ) (P : ℕ → ℕ → Type 0) → ((n : ℕ) → n < count → (k : ℕ) × P n k)
    → (ks : List ℕ) × (length ks ≡ count) × ((n : ℕ) → n < count → P n (slice_index ks n))
listed zero P each = ([], refl, λ n below. absurd (omega (arith, below)))
listed (suc count) P each =
    let first = each 0 (omega arith) in
    let rest = listed count (λ n. P (suc n)) (λ n below. each (suc n) (omega (arith, below))) in
    (first.0 ∷ rest.0, ap suc rest.1, at first.0 rest.0 first.1 rest.2)
  where
    at : (k : ℕ) (ks : List ℕ) → P 0 k → ((n : ℕ) → n < count → P (suc n) (slice_index ks n))
        → (n : ℕ) → n < suc count → P n (slice_index (k ∷ ks) n)
    at k ks here after zero below = here
    at k ks here after (suc n) below = after n (omega (arith, below))

-- each image is given by some choice
pub some-choice : (count : ℕ) (disk : Disk) (image : Image) → IsImage count (MayHold disk) image
    → IsSomeChoice count disk image
some-choice count disk image is =
    let list = listed count (λ n k. (k < length (choices_of disk n))
    × (slice_get (choices_of disk n) k ≡ Some (block_at image n)))
    (λ n below. let held = is.each n below in
    (held.0, (held.1, found-at (choices_of disk n) held.0 (block_at image n) held.1 held.2))) in (
      list.0,
      record { length_is = list.1; each = λ n below. (list.2 n below).0 },
      record { length_is = is.length_is; each = λ n below. (list.2 n below).1 },
    )
