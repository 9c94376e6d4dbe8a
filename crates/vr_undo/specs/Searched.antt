-- What the searches in the order find.
use Rattle.std.specs.Prelude.{◌≡◌, ◌<◌, ℕ, Bool, false, List, length, Option, Some, None}
use Rattle.std.specs.Prelude.{leb, option_map, set, slice_index_or}
use Rattle.std.specs.List.{filter_map, list_any}
use Rattle.std.specs.Ordering.{is_le}
use Rattle.vr_types.specs.Content.{place_cmp}
use Rattle.vr_types.specs.declared.unit.Unit.{Unit as UnitOfRecovery}
use Rattle.vr_history.specs.State.{BeforeImage}
use Rattle.vr_space.specs.declared.whence.Whence.{Whence}
use Rattle.vr_undo.specs.Found.{IsLastAt, no_record}
use Rattle.vr_undo.specs.Lengths.{length_there, place_allowed}
use Rattle.vr_undo.specs.Others.{place_other}
use Rattle.vr_undo.specs.Records.{image_of, keeps_for, put_out, some_at}
use Rattle.vr_undo.specs.declared.before.Before.{Before}
use Rattle.vr_undo.specs.declared.kept.Whose.{Whose}
use Rattle.vr_undo.specs.declared.kept.Whose.TheVariants.{Log, Others}
use Rattle.vr_undo.specs.declared.record.KeptRecord.{KeptRecord}
use Rattle.vr_undo.specs.declared.record.Which.{Which}
use Rattle.vr_undo.specs.declared.record.Which.TheVariants.{Logged, Kept}

abbrev pub record_at : List KeptRecord → ℕ → KeptRecord
record_at records number = slice_index_or records number no_record

-- without what the unit may put back, of the record of a number
abbrev pub out_of : List KeptRecord → ℕ → List KeptRecord
out_of records number = set records number (put_out (record_at records number))

-- ---- the before-images of a place

abbrev pub image_by : Which → KeptRecord → Option Before
image_by Logged kept = kept.logged
image_by Kept kept = kept.kept

abbrev pub image_with : Which → KeptRecord → Option BeforeImage
image_with which kept = option_map (image_of kept.unit) (image_by which kept)

abbrev pub images_by : Which → List KeptRecord → List BeforeImage
images_by which records = filter_map (image_with which) records

-- the record of a number has one of the place and the unit
abbrev pub has_image_at : Which → UnitOfRecovery → ℕ → List ℕ → List KeptRecord → ℕ → Bool
has_image_at which unit part place records number =
    some_at unit part place (image_with which (record_at records number))

-- ---- the last that a unit may put back

pub record IsLastLive (unit : UnitOfRecovery) (records : List KeptRecord) (live : List ℕ)
    (at : ℕ) : Type 0 where
  pub in_range : at < length live
  pub last : IsLastAt (keeps_for unit) records (slice_index_or live at 0)

-- ---- the longest record of a place

abbrev pub is_as_long : ℕ → Option ℕ → Bool
is_as_long least None = false
is_as_long least (Some length) = leb least length

-- the record of a number is there, and of this length at least
abbrev pub is_longer_at : ℕ → List ℕ → ℕ → List KeptRecord → ℕ → Bool
is_longer_at part place least records number =
    is_as_long least (length_there part place (record_at records number).logged)

-- ---- the least place

abbrev pub place_by : Whose → ℕ → Whence → KeptRecord → Option (List ℕ)
place_by Log part from kept = place_allowed part from kept.logged
place_by (Others unit) part from kept = place_other unit part from kept

-- a place is found that is this one or before it
abbrev pub reaches : List ℕ → Option (List ℕ) → Bool
reaches most None = false
reaches most (Some place) = is_le (place_cmp place most)

-- it is the least of the places that records have
abbrev pub IsLeastBy : (KeptRecord → Option (List ℕ)) → List KeptRecord → Option (List ℕ) → Type 0
IsLeastBy place_of records found =
    (most : List ℕ) → reaches most found ≡ list_any (λ kept. reaches most (place_of kept)) records
