-- What is kept of units of recovery that haven't ended: the before-images that they may put back,
-- and those that the log has of them, put back or not (DFSMStvs Planning and Operating Guide, units
-- of recovery and backout). That the places of alternate indexes are kept beside them is this
-- project's own.
use Rattle.std.specs.Prelude.{ℕ, Bool, true, false, not, cond, ◌==◌, ◌&&◌, ◌||◌, bytes_eq}
use Rattle.std.specs.Prelude.{List, [], ◌∷◌, ◌++◌, Option, Some, None, filter, map, is_some}
use Rattle.std.specs.Prelude.{option_map}
use Rattle.std.specs.List.{filter_map, list_any}
use Rattle.vr_types.specs.Content.{Standing}
use Rattle.vr_types.specs.Locks.{same_unit}
use Rattle.vr_types.specs.declared.unit.PartNo.{PartNo}
use Rattle.vr_types.specs.declared.unit.Unit.{Unit as UnitOfRecovery}
use Rattle.vr_history.specs.Effects.{is_other, last_of}
use Rattle.vr_history.specs.State.{BeforeImage, Logged}
use Rattle.vr_undo.specs.declared.before.Before.{Before}
use Rattle.vr_undo.specs.declared.record.KeptRecord.{KeptRecord}

-- the before-image of a unit
abbrev pub image_of : UnitOfRecovery → Before → BeforeImage
image_of unit before = record {
  unit = unit;
  part = before.part.0;
  place = before.place;
  old = option_map Standing before.old;
}

abbrev pub kept_image : KeptRecord → Option BeforeImage
kept_image kept = option_map (image_of kept.unit) kept.kept

abbrev pub logged_image : KeptRecord → Option BeforeImage
logged_image kept = option_map (image_of kept.unit) kept.logged

-- those that the units may put back
abbrev pub befores_of : List KeptRecord → List BeforeImage
befores_of records = filter_map kept_image records

-- those that the log has, put back or not, the places of alternate indexes among them
abbrev pub images_in : List KeptRecord → List BeforeImage
images_in records = filter_map logged_image records

-- the places that the log has
abbrev pub place_of : BeforeImage → Logged
place_of image = record { unit = image.unit; part = image.part; place = image.place }

abbrev pub logged_of : List KeptRecord → List Logged
logged_of records = map place_of (images_in records)

-- ---- which place a before-image is of

abbrev pub is_at : UnitOfRecovery → ℕ → List ℕ → BeforeImage → Bool
is_at unit part place image =
    same_unit unit image.unit && (image.part == part && bytes_eq place image.place)

abbrev pub has_at : UnitOfRecovery → ℕ → List ℕ → List BeforeImage → Bool
has_at unit part place images = list_any (is_at unit part place) images

abbrev pub some_at : UnitOfRecovery → ℕ → List ℕ → Option BeforeImage → Bool
some_at unit part place None = false
some_at unit part place (Some image) = is_at unit part place image

-- the log has the place, and with it
abbrev pub is_logged_in : UnitOfRecovery → ℕ → List ℕ → List Logged → Bool
is_logged_in unit part place logged =
    list_any (λ log. same_unit unit log.unit && (log.part == part && bytes_eq place log.place))
    logged

abbrev pub with_logged : UnitOfRecovery → ℕ → List ℕ → List Logged → List Logged
with_logged unit part place logged =
    cond (is_logged_in unit part place logged) logged
    (logged ++ record { unit = unit; part = part; place = place } ∷ [])

-- a record has a before-image of the place
abbrev pub is_record_at : UnitOfRecovery → ℕ → List ℕ → KeptRecord → Bool
is_record_at unit part place kept =
    some_at unit part place (logged_image kept) || some_at unit part place (kept_image kept)

-- ---- what is kept

abbrev pub before_of : PartNo → List ℕ → Option (List ℕ) → Before
before_of part place old = record { part = part; place = place; old = old }

-- what there isn't yet
abbrev pub unless_there : Bool → Before → Option Before
unless_there true before = None
unless_there false before = Some before

-- in an alternate index the pair is both the place and the record
abbrev pub pair_record : Bool → List ℕ → Option (List ℕ)
pair_record true place = Some place
pair_record false place = None

-- with the before-image of a place at the end of each list that has none of the place and the unit
abbrev pub with_image : UnitOfRecovery → BeforeImage → List BeforeImage → List BeforeImage
with_image unit image images =
    cond (has_at unit image.part image.place images) images (images ++ image ∷ [])

abbrev pub new_record : UnitOfRecovery → Before → Bool → Bool → KeptRecord
new_record unit before logged kept = record {
  unit = unit;
  logged = unless_there logged before;
  kept = unless_there kept before;
}

abbrev pub with_record : UnitOfRecovery → Before → Bool → Bool → List KeptRecord → List KeptRecord
with_record unit before logged kept records =
    cond (logged && kept) records (records ++ new_record unit before logged kept ∷ [])

-- ---- what is taken back, taken out and forgotten

-- without the last that passes a test
abbrev pub without_last_by : (KeptRecord → Bool) → List KeptRecord → List KeptRecord
without_last_by test [] = []
without_last_by test (kept ∷ records) =
    cond (test kept && not (list_any test records)) records (kept ∷ without_last_by test records)

-- the unit may put it back
abbrev pub keeps_for : UnitOfRecovery → KeptRecord → Bool
keeps_for unit kept = is_some kept.kept && same_unit unit kept.unit

abbrev pub put_out : KeptRecord → KeptRecord
put_out kept = record kept { kept = None }

-- the unit's last one is taken out: the log has it still
abbrev pub with_last_out : UnitOfRecovery → List KeptRecord → List KeptRecord
with_last_out unit [] = []
with_last_out unit (kept ∷ records) =
    cond (keeps_for unit kept
    && not (list_any (keeps_for unit) records)) (put_out kept ∷ records)
    (kept ∷ with_last_out unit records)

-- the last one of a unit
abbrev pub last_in : UnitOfRecovery → List BeforeImage → Option BeforeImage
last_in unit befores = last_of (filter (λ kept. same_unit unit kept.unit) befores)

abbrev pub without_unit : UnitOfRecovery → List KeptRecord → List KeptRecord
without_unit unit records = filter (λ kept. is_other unit kept.unit) records
