-- Before-images, put back into a content: what backout is in the DFSMStvs Planning and Operating
-- Guide. That the oldest one of a place counts, how much room is kept for them, and that what is
-- committed is a matter of records, is this project's own.
use Rattle.std.specs.Prelude.{ℕ, Bool, true, false, List, [], ◌∷◌, length, Option, Some, None, find}
use Rattle.std.specs.Prelude.{◌==◌, ◌&&◌, if◌then◌else◌, bytes_eq, filter}
use Rattle.std.specs.List.{filter_map}
use Rattle.std.specs.Option.{option_and_then, option_map}
use Rattle.vr_types.specs.Content.{Content, Item, Placed, Standing, Withdrawn, record_of}
use Rattle.vr_altkey.specs.Placing.{placed_in}
use Rattle.vr_history.specs.State.{BeforeImage}
use Rattle.vr_space.specs.Room.{Lengths, with_lengths}

-- what is at the place is a record
abbrev pub stands : Placed → Bool
stands (place, Standing bytes) = true
stands (place, Withdrawn length) = false

-- the records of a content: what was withdrawn is none
abbrev pub standing : Content → Content
standing content = filter stands content

-- what is at a place, where it is a record
abbrev pub standing_of : Option Item → Option Item
standing_of item = option_map Standing (option_and_then record_of item)

abbrev pub is_image_of : ℕ → List ℕ → BeforeImage → Bool
is_image_of part place image = image.part == part && bytes_eq place image.place

-- The oldest one of a place. The place is free while it has one: a crash may leave there what its
-- unit made of it.
abbrev pub oldest : List BeforeImage → ℕ → List ℕ → Option BeforeImage
oldest images part place = find (is_image_of part place) images

-- those of a part are put back into its content, the oldest last
abbrev pub put_back : ℕ → List BeforeImage → Content → Content
put_back part [] content = content
put_back part (image ∷ images) content =
    if image.part == part then placed_in image.place image.old (put_back part images content)
    else put_back part images content

-- the lengths of the records that are put back into a part, for which there has to be room
abbrev pub length_of : List ℕ → Option (List ℕ) → Option (List ℕ × ℕ)
length_of place None = None
length_of place (Some bytes) = Some (place, length bytes)

abbrev pub length_in : ℕ → BeforeImage → Option (List ℕ × ℕ)
length_in part image =
    if image.part == part then length_of image.place (option_and_then record_of image.old)
    else None

-- the longest of each place, in the order of places
abbrev pub lengths_kept : List BeforeImage → ℕ → Lengths
lengths_kept images part = with_lengths [] (filter_map (length_in part) images)
