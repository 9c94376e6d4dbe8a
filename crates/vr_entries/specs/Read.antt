-- Intervals as they are read.
use Rattle.std.specs.Prelude.{◌≡◌, false}
use Rattle.std.specs.List.{AllByRecursion}
use Rattle.vr_ci_match.specs.declared.form.Shape.TheVariants as shapes
use Rattle.vr_ci.specs.Interval as ci
use Rattle.vr_space.specs.Entries.{IsEntry}
use Rattle.vr_space.specs.Rosters.{Numbered}

-- an interval of records that isn't busy, none of them longer than the part's longest
abbrev pub IsOfEntries : Numbered → ci.Interval → Type 0
IsOfEntries part value = (value.shape ≡ shapes.Records) × (value.busy ≡ false)
    × AllByRecursion (IsEntry part) value.items
