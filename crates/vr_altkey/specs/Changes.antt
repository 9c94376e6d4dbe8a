-- What a change of one base record does to the pairs of the alternate indexes over it, as Using
-- Data Sets describes upgrading them. Their order is this project's own.
use Rattle.std.specs.Prelude.{ℕ, Bool, false, true, if◌then◌else◌, List, [], ◌∷◌, ◌++◌, Option}
use Rattle.std.specs.Prelude.{◌==◌}
use Rattle.std.specs.Prelude.{bytes_eq, filter}
use Rattle.std.specs.List.{flat_map}
use Rattle.std.specs.Option.{option_and_then, option_eq, option_map, option_to_list}
use Rattle.vr_altkey.specs.declared.definition.AltDef.{AltDef}
use Rattle.vr_altkey.specs.declared.definition.PairChange.{PairChange}
use Rattle.vr_altkey.specs.Pairs.{field_of, pair_place_of}
use Rattle.vr_types.specs.Content.{Content, Standing, with_item, without_item}

-- the alternate field of a record, if there is a record that has it
abbrev pub field_in : ℕ → ℕ → Option (List ℕ) → Option (List ℕ)
field_in key_length key_offset bytes = option_and_then (field_of key_length key_offset) bytes

-- the pair of a record that there may be, as added or as removed
abbrev pub change_of : List ℕ → Option (List ℕ) → Bool → AltDef → List PairChange
change_of place bytes added def =
    option_to_list (option_map (λ (pair : List ℕ). record {
      part = def.part;
      place = pair;
      added =
          added;
    }) (option_and_then (pair_place_of def.length def.offset place) bytes))

-- the pair of the old record goes and that of the new one comes, where their fields differ
unfoldable pub changes_in : List ℕ → Option (List ℕ) → Option (List ℕ) → AltDef → List PairChange
changes_in place old new def =
    if option_eq bytes_eq (field_in def.length def.offset old) (field_in def.length def.offset new)
    then [] else change_of place old false def ++ change_of place new true def

-- the changes of the pairs of all alternate indexes, in their order
abbrev pub pair_changes : List AltDef → List ℕ → Option (List ℕ) → Option (List ℕ) → List PairChange
pair_changes alternates place old new = flat_map (changes_in place old new) alternates

-- the changes of one alternate index, by its part number
abbrev pub changes_to : ℕ → List PairChange → List PairChange
changes_to part changes = filter (λ change. change.part.0 == part) changes

-- the content of an alternate index once a pair came or went
abbrev pub pair_changed : PairChange → Content → Content
pair_changed change content =
    if change.added then with_item content change.place (Standing change.place) else
    without_item content change.place

-- and once several did, one after another
abbrev pub pairs_changed : List PairChange → Content → Content
pairs_changed [] content = content
pairs_changed (change ∷ later) content = pairs_changed later (pair_changed change content)
