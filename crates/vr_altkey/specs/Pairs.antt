-- The pairs of an alternate index, as Using Data Sets describes alternate keys and their pointers:
-- one pointer for each base record that is long enough for the field. That each is a record of its
-- own, and their order, are this project's own.
use Rattle.std.specs.Prelude.{ℕ, ◌+◌, nat_le, if◌then◌else◌, List, [], ◌++◌, length, take, drop}
use Rattle.std.specs.Prelude.{map, Option, Some, None}
use Rattle.std.specs.List.{filter_map, fold}
use Rattle.std.specs.Option.{option_map}
use Rattle.std.specs.Ordering.{ordering_then}
use Rattle.std.specs.BTreeMap.{insert_entry}
use Rattle.std.specs.declared.cmp.Ordering.{Ordering}
use Rattle.vr_types.specs.Content.{Content, Standing, place_cmp, records_of}

-- the alternate key, and the place of the base record that it points to
abbrev pub Pair : Type 0
Pair = List ℕ × List ℕ

-- the alternate field of a record, where the record is long enough for it
abbrev pub field_of : ℕ → ℕ → List ℕ → Option (List ℕ)
field_of key_length key_offset bytes =
    if nat_le (key_offset + key_length) (length bytes) then Some
    (take key_length (drop key_offset bytes)) else None

-- the pair of a base record
abbrev pub pair_of : ℕ → ℕ → List ℕ → List ℕ → Option Pair
pair_of key_length key_offset place bytes =
    option_map (λ (field : List ℕ). (field, place)) (field_of key_length key_offset bytes)

-- pairs are ordered by the key, those of one key by the base place
abbrev pub pair_cmp : Pair → Pair → Ordering
pair_cmp one other = ordering_then (place_cmp one.0 other.0) (place_cmp one.1 other.1)

abbrev pub in_order : List Pair → List (Pair × Unit {0})
in_order pairs = fold (λ sorted pair. insert_entry pair_cmp sorted pair tt) [] pairs

-- the pairs of an alternate index over a base, ascending
abbrev pub pairs_of : ℕ → ℕ → Content → List Pair
pairs_of key_length key_offset base =
    map (λ (entry : Pair
    × Unit {0}). entry.0) (in_order (filter_map (λ (placed : List ℕ
    × List ℕ). pair_of key_length key_offset placed.0 placed.1) (records_of base)))

-- the place of a pair in the content of the alternate index: the key, then the base place
abbrev pub pair_place : Pair → List ℕ
pair_place pair = pair.0 ++ pair.1

abbrev pub pair_place_of : ℕ → ℕ → List ℕ → List ℕ → Option (List ℕ)
pair_place_of key_length key_offset place bytes =
    option_map pair_place (pair_of key_length key_offset place bytes)

-- the content of a built alternate index: each pair's record is its own place
abbrev pub pairs_content : ℕ → ℕ → Content → Content
pairs_content key_length key_offset base =
    map (λ (pair : Pair). (pair_place pair, Standing (pair_place pair)))
    (pairs_of key_length key_offset base)
