-- A catalog without a built alternate index has none once a record was added, replaced or erased.
use Rattle.std.proofs.Common.{ℕ, Bool, true, false, cond, not, List, [], ◌∷◌, Option, Some, None}
use Rattle.std.specs.Prelude.{IfSome, bytes_eq}
use Rattle.std.specs.List.{cons_option}
use Rattle.std.specs.Option.{option_and_then, option_map}
use Rattle.std.specs.declared.cmp.Ordering.{Ordering}
use Rattle.std.specs.declared.cmp.Ordering.TheVariants.{Less, Equal, Greater}
use Rattle.vr_catalog.specs.Catalog.{entries_in}
use Rattle.vr_catalog.specs.Record.{entry_of}
use Rattle.vr_catalog.specs.declared.entry.CatEntry.{CatEntry}
use Rattle.vr_types.specs.Content.{Content, Placed, Standing, place_cmp, put_by, record_of, with_item}
use Rattle.vr_types.specs.Content.{without_item}
use Rattle.vr_altkey.specs.Placing.{placed_in}
use Rattle.vr_answer.specs.Scope.{AreUnbuilt, IsUnbuilt}

-- the entry of a record, if it spells one
abbrev entry_at : Placed → Option CatEntry
entry_at placed = option_and_then entry_of (record_of placed.1)

abbrev HasUnbuilt : Placed → Type 0
HasUnbuilt placed = IfSome (entry_at placed) IsUnbuilt

first_of : (o : Option CatEntry) (entries : List CatEntry) → AreUnbuilt (cons_option o entries)
    → IfSome o IsUnbuilt × AreUnbuilt entries
first_of None entries are = (tt, are)
first_of (Some entry) entries are = are

one_more : (o : Option CatEntry) (entries : List CatEntry) → IfSome o IsUnbuilt
    → AreUnbuilt entries → AreUnbuilt (cons_option o entries)
one_more None entries is are = are
one_more (Some entry) entries is are = (is, are)

put_unbuilt : (here : Ordering) (new placed : Placed) (content further : Content)
    → HasUnbuilt new → HasUnbuilt placed → AreUnbuilt (entries_in content)
    → AreUnbuilt (entries_in further)
    → AreUnbuilt (entries_in (put_by here new placed content further))
put_unbuilt Less new placed content further is was are more =
    one_more (entry_at new) (entries_in (placed ∷ content)) is
    (one_more (entry_at placed) (entries_in content) was are)
put_unbuilt Equal new placed content further is was are more =
    one_more (entry_at new) (entries_in content) is are
put_unbuilt Greater new placed content further is was are more =
    one_more (entry_at placed) (entries_in further) was more

with_unbuilt : (content : Content) (place bytes : List ℕ) → IfSome (entry_of bytes) IsUnbuilt
    → AreUnbuilt (entries_in content)
    → AreUnbuilt (entries_in (with_item content place (Standing bytes)))
with_unbuilt [] place bytes is are = one_more (entry_of bytes) [] is tt
with_unbuilt (placed ∷ content) place bytes is are =
    let parts = first_of (entry_at placed) (entries_in content) are in
    put_unbuilt (place_cmp place placed.0) (place, Standing bytes) placed content
    (with_item content place (Standing bytes)) is parts.0 parts.1
    (with_unbuilt content place bytes is parts.1)

left_if : (b : Bool) (placed : Placed) (rest : Content) → HasUnbuilt placed
    → AreUnbuilt (entries_in rest) → AreUnbuilt (entries_in (cond b (placed ∷ rest) rest))
left_if true placed rest is are = one_more (entry_at placed) (entries_in rest) is are
left_if false placed rest is are = are

without_unbuilt : (content : Content) (place : List ℕ) → AreUnbuilt (entries_in content)
    → AreUnbuilt (entries_in (without_item content place))
without_unbuilt [] place are = tt
without_unbuilt (placed ∷ content) place are =
    let parts = first_of (entry_at placed) (entries_in content) are in
    left_if (not (bytes_eq place placed.0)) placed (without_item content place) parts.0
    (without_unbuilt content place parts.1)

-- whatever the place gets, if what it spells isn't a built one
pub placed_unbuilt : (content : Content) (place : List ℕ) (new : Option (List ℕ))
    → IfSome (option_and_then entry_of new) IsUnbuilt → AreUnbuilt (entries_in content)
    → AreUnbuilt (entries_in (placed_in place (option_map Standing new) content))
placed_unbuilt content place None is are = without_unbuilt content place are
placed_unbuilt content place (Some bytes) is are = with_unbuilt content place bytes is are
