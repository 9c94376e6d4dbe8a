-- The content of a data set, as Using Data Sets has it of the three kinds: records in the order of
-- their places.
use Rattle.std.specs.Prelude.{◌≡◌, ℕ, ◌<◌, not, List, [], ◌∷◌, map, filter, bytes_eq, All, Option}
use Rattle.std.specs.Prelude.{Some, None}
use Rattle.std.specs.List.{filter_map}
use Rattle.std.specs.List.Sorted.{IsStrictlySortedBy}
use Rattle.std.specs.Ordering.{nat_cmp}
use Rattle.std.specs.declared.cmp.Ordering.{Ordering}
use Rattle.std.specs.declared.cmp.Ordering.TheVariants.{Less, Equal, Greater}
use Rattle.std.specs.Cmp.Lexicographic.{slice_cmp}

-- what is at a place: a record, or in an entry-sequenced data set the length of an added record
-- that was backed out
pub data Item : Type 0 where
  Standing : List ℕ → Item
  Withdrawn : ℕ → Item

-- a place, and what is there
abbrev pub Placed : Type 0
Placed = List ℕ × Item

-- places are ordered byte by byte
abbrev pub place_cmp : List ℕ → List ℕ → Ordering
place_cmp = slice_cmp nat_cmp

abbrev pub Content : Type 0
Content = List Placed

abbrev pub places_of : Content → List (List ℕ)
places_of content = map (λ (entry : Placed). entry.0) content

-- the places of a content ascend, so none comes twice
abbrev pub Ascends : Content → Type 0
Ascends content = IsStrictlySortedBy place_cmp (places_of content)

-- a record that was withdrawn had a byte at least
abbrev pub HasLength : Placed → Type 0
HasLength (place, Standing bytes) = Unit {0}
HasLength (place, Withdrawn length) = 0 < length

pub record IsContent (content : Content) : Type 0 where
  pub ascends : Ascends content
  pub lengths : All HasLength content

-- the record that an item is, if it is one
abbrev pub record_of : Item → Option (List ℕ)
record_of (Standing bytes) = Some bytes
record_of (Withdrawn length) = None

-- the records with their places, without what was withdrawn
abbrev pub record_at_place : Placed → Option (List ℕ × List ℕ)
record_at_place (place, Standing bytes) = Some (place, bytes)
record_at_place (place, Withdrawn length) = None

abbrev pub records_of : Content → List (List ℕ × List ℕ)
records_of content = filter_map record_at_place content

-- two contents have the same records at the same places
abbrev pub Agree : Content → Content → Type 0
Agree one other = records_of one ≡ records_of other

abbrev pub found_by : {X : Type 0} → Ordering → Option X → Option X → Option X
found_by Less here further = further
found_by Equal here further = here
found_by Greater here further = further

-- the record at a place
abbrev pub record_at : Content → List ℕ → Option (List ℕ)
record_at [] place = None
record_at (entry ∷ content) place =
    found_by (place_cmp place entry.0) (record_of entry.1) (record_at content place)

abbrev pub put_by : Ordering → Placed → Placed → Content → Content → Content
put_by Less new entry content further = new ∷ entry ∷ content
put_by Equal new entry content further = new ∷ content
put_by Greater new entry content further = entry ∷ further

-- the content with an item at a place, where it is in order
abbrev pub with_item : Content → List ℕ → Item → Content
with_item [] place item = (place, item) ∷ []
with_item (entry ∷ content) place item =
    put_by (place_cmp place entry.0) (place, item) entry content (with_item content place item)

-- what is at a place
abbrev pub item_at : Content → List ℕ → Option Item
item_at [] place = None
item_at (entry ∷ content) place =
    found_by (place_cmp place entry.0) (Some entry.1) (item_at content place)

-- the content without what is at a place
abbrev pub without_item : Content → List ℕ → Content
without_item content place = filter (λ (entry : Placed). not (bytes_eq place entry.0)) content
