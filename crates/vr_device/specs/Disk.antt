-- What a device in memory holds, and what a crash may leave of it. That blocks are whole and
-- independent of one another is this project's own model of a disk.
use Rattle.std.specs.Prelude.{◌≡◌, ◌⊎◌, ◌==◌, ◌<◌, ◌≤◌, ℕ, Some, slice_get, slice_index, List, []}
use Rattle.std.specs.Prelude.{◌∷◌, ◌++◌, length, map, filter, slice_set, Contains}
use Rattle.vr_types.specs.Image.{Block, Image, block_at}

-- the blocks as a read gives them, the blocks that are stable, and what was written since the last
-- sync that succeeded: each write's block and content, the oldest first, those of failed writes
-- among them
pub record Disk : Type 0 where
  pub seen : Image
  pub stable : Image
  pub writes : List (ℕ × Block)

-- the contents that these writes gave to block n
abbrev pub contents_of : List (ℕ × Block) → ℕ → List Block
contents_of writes n = map (λ w. w.1) (filter (λ w. w.0 == n) writes)

-- what a crash may leave in block n: its stable content, or one that was written to it since the
-- last sync that succeeded
abbrev pub choices_of : Disk → ℕ → List Block
choices_of disk n = block_at disk.stable n ∷ contents_of disk.writes n

abbrev pub MayHold : Disk → ℕ → Block → Type 0
MayHold disk n block = Contains (choices_of disk n) block

-- after a write that succeeded
abbrev pub written : Disk → ℕ → Block → Disk
written disk n bytes = record {
  seen = slice_set disk.seen n bytes;
  stable = disk.stable;
  writes = disk.writes ++ (n, bytes) ∷ [];
}

-- after a write that failed, and left what is read as it was
abbrev pub tried : Disk → ℕ → Block → Disk
tried disk n bytes = record {
  seen = disk.seen;
  stable = disk.stable;
  writes =
      disk.writes ++ (n, bytes) ∷ [];
}

-- after a sync that succeeded
abbrev pub synced : Disk → Disk
synced disk = record { seen = disk.seen; stable = disk.seen; writes = [] }

-- the choice has a number for each block, and each names one of its contents: the stable one is 0
pub record IsFit (count : ℕ) (disk : Disk) (choice : List ℕ) : Type 0 where
  pub length_is : length choice ≡ count
  pub each : (n : ℕ) → n < count → slice_index choice n < length (choices_of disk n)

-- block n is the first for which the choice has no number, or names none of its contents, or that
-- isn't there though the choice has a number for it
pub record IsMisfit (count : ℕ) (disk : Disk) (choice : List ℕ) (n : ℕ) : Type 0 where
  pub within : n ≤ count
  pub before : (m : ℕ) → m < n → (m < length choice)
      × (slice_index choice m < length (choices_of disk m))
  pub here : (n < count) ⊎ (n < length choice)
  pub not_named : n < count → n < length choice → length (choices_of disk n) ≤ slice_index choice n

-- an image that has, for each block, the content that the choice names
pub record IsChosen (count : ℕ) (disk : Disk) (choice : List ℕ) (image : Image) : Type 0 where
  pub length_is : length image ≡ count
  pub each : (n : ℕ) → n < count → slice_get (choices_of disk n) (slice_index choice n) ≡ Some
      (block_at image n)

-- some choice gives this image
abbrev pub IsSomeChoice : ℕ → Disk → Image → Type 0
IsSomeChoice count disk image = (choice : List ℕ) × IsFit count disk choice
    × IsChosen count disk choice image
