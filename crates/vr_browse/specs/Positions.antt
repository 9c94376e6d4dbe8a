-- Where each file of each deck stands for sequential reading, and which record it holds for update,
-- as Using Data Sets describes it for positioning and of GET for update.
use Rattle.std.specs.Prelude.{◌≡◌, ℕ, Bool, ◌<◌, ◌≤◌, ◌⊎◌, ◌==◌, ◌&&◌, ◌-◌, if◌then◌else◌, List, []}
use Rattle.std.specs.Prelude.{◌∷◌, length, map, Option, Some, None, unwrap_or, slice_index_or}
use Rattle.std.specs.Prelude.{vec_len, vec_capacity}
use Rattle.std.specs.Global.{Vec}
use Rattle.vr_types.specs.Position.{first_position, unheld}
use Rattle.vr_types.specs.declared.position.Position.{Position}
use Rattle.vr_browse.specs.declared.positions.FilePosition.{FilePosition}

-- the file is the deck's, of this slot
abbrev pub is_file : ℕ → ℕ → FilePosition → Bool
is_file deck slot file = file.deck == deck && file.slot == slot

-- the position that was set for a file
abbrev pub position_at : List FilePosition → ℕ → ℕ → Option Position
position_at [] deck slot = None
position_at (file ∷ files) deck slot =
    if is_file deck slot file then Some file.position else position_at files deck slot

-- the position of a file, set or not
abbrev pub position_of : List FilePosition → ℕ → ℕ → Position
position_of files deck slot = unwrap_or (position_at files deck slot) first_position

-- Only this file's position was set.
pub record SetsOnly (old new : List FilePosition) (deck slot : ℕ) (to : Position) : Type 0 where
  pub this_file : position_at new deck slot ≡ Some to
  pub other_files : (d s : ℕ) → (d ≡ deck → s ≡ slot → ⊥)
      → position_at new d s ≡ position_at old d s

-- what one file holds is dropped, and what all files of a deck hold
abbrev pub dropped_by : Bool → FilePosition → FilePosition
dropped_by drops file = if drops then record file { position = unheld file.position } else file

abbrev pub without_held : ℕ → ℕ → List FilePosition → List FilePosition
without_held deck slot files = map (λ file. dropped_by (is_file deck slot file) file) files

abbrev pub without_deck : ℕ → List FilePosition → List FilePosition
without_deck deck files = map (λ file. dropped_by (file.deck == deck) file) files

-- what is read past the last file
abbrev pub no_file : FilePosition
no_file = record { deck = 0; slot = 0; position = first_position }

-- the deck and the slot of the file at a place
abbrev pub deck_at : List FilePosition → ℕ → ℕ
deck_at files at = (slice_index_or files at no_file).deck

abbrev pub slot_at : List FilePosition → ℕ → ℕ
slot_at files at = (slice_index_or files at no_file).slot

-- a file comes before another, by deck and then by slot
abbrev pub IsBelow : ℕ → ℕ → ℕ → ℕ → Type 0
IsBelow deck slot other_deck other_slot =
    (deck < other_deck) ⊎ ((deck ≡ other_deck) × (slot < other_slot))

-- the files rise, so none comes twice
abbrev pub AreInOrder : List FilePosition → Type 0
AreInOrder files =
    (i j : ℕ) → i < j → j < length files
    → IsBelow (deck_at files i) (slot_at files i) (deck_at files j) (slot_at files j)

-- the file stands at this place
pub record IsAt (files : List FilePosition) (deck slot at : ℕ) : Type 0 where
  pub in_range : at < length files
  pub same_deck : deck_at files at ≡ deck
  pub same_slot : slot_at files at ≡ slot

-- the file would go to this place: lower files before it, and higher files from it on
pub record IsGapFor (files : List FilePosition) (deck slot at : ℕ) : Type 0 where
  pub in_range : at ≤ length files
  pub lower_before : (i : ℕ) → i < at → IsBelow (deck_at files i) (slot_at files i) deck slot
  pub higher_after : (i : ℕ) → at ≤ i → i < length files
      → IsBelow deck slot (deck_at files i) (slot_at files i)

-- What positions are seen as: those that were set, and for how many more files there is room.
pub record KeptPositions : Type 0 where
  pub files : List FilePosition
  pub room : ℕ

abbrev pub kept_positions : Vec FilePosition → KeptPositions
kept_positions files = record { files = files.items; room = vec_capacity files - vec_len files }
