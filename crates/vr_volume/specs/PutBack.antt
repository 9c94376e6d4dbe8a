-- The before-images that a log has of units that haven't ended, which are put back: what backout is
-- in the DFSMStvs Planning and Operating Guide, for units of recovery that a crash leaves.
use Rattle.std.specs.Prelude.{◌≡◌, List, [], ◌∷◌, Option, Some, None, if◌then◌else◌}
use Rattle.std.specs.List.{filter_map}
use Rattle.std.specs.Option.{option_map}
use Rattle.vr_types.specs.Content.{Standing}
use Rattle.vr_types.specs.declared.unit.Unit.{Unit as UnitOfRecovery}
use Rattle.vr_log.specs.declared.record.LogRecord.{LogRecord}
use Rattle.vr_log.specs.declared.record.LogRecord.TheVariants.{Before, End}
use Rattle.vr_log.specs.Live.{live_in, is_in}
use Rattle.vr_history.specs.State.{BeforeImage}
-- putting before-images back, and the room that is kept for them
pub use Rattle.vr_undo.specs.PutBack.{is_image_of, length_in, length_of, lengths_kept, oldest}
pub use Rattle.vr_undo.specs.PutBack.{put_back}
-- the records of a content, into which they are put back
pub use Rattle.vr_undo.specs.PutBack.{standing, standing_of, stands}

-- the before-image that a record of the log is, where its unit is one of these
abbrev pub image_in : List UnitOfRecovery → LogRecord → Option BeforeImage
image_in units (End unit kind) = None
image_in units (Before unit part place old) =
    if is_in unit units then Some (record {
      unit = unit;
      part = part.0;
      place = place;
      old = option_map Standing old;
    }) else None

-- the before-images that the log has of units without an end, the oldest first
abbrev pub images_of : List LogRecord → List BeforeImage
images_of records = filter_map (image_in (live_in records)) records

-- Each place has one image at most.
abbrev pub AreAlone : List BeforeImage → Type 0
AreAlone [] = Unit {0}
AreAlone (image ∷ images) = (oldest images image.part image.place ≡ None) × AreAlone images
