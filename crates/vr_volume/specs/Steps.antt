-- What an event of a volume makes of the state of its record file, as far as records and
-- before-images go: a first change of a place, a further one, a before-image that is put back, and
-- the end of a unit. The rules are those of the record file.
use Rattle.std.specs.Prelude.{◌≡◌, ◌≢◌, ◌+◌, ℕ, List, [], ◌∷◌, ◌++◌, Option, Some, None}
use Rattle.std.specs.Prelude.{All, filter, if◌then◌else◌, map, ◌==◌}
use Rattle.std.specs.Option.{option_map}
use Rattle.vr_types.specs.Content.{Item, Standing, item_at}
use Rattle.vr_types.specs.declared.geometry.Geometry.{Geometry}
use Rattle.vr_types.specs.declared.unit.PartNo.{PartNo}
use Rattle.vr_types.specs.declared.unit.Unit.{Unit as UnitOfRecovery}
use Rattle.vr_space.specs.Part.{IsPlaceOf, Shape}
use Rattle.vr_log.specs.Live.{live_in, need_of, need_of_all}
use Rattle.vr_log.specs.LogNow.{LogNow}
use Rattle.vr_log.specs.declared.record.LogRecord.{LogRecord}
use Rattle.vr_log.specs.declared.record.LogRecord.TheVariants.{Before}
use Rattle.vr_history.specs.Effects.{is_other, last_kept, used_after, with_change, without_last}
use Rattle.vr_history.specs.State.{BeforeImage, State}
use Rattle.vr_volume.specs.Committed.{IsCurrent, logged_of}
use Rattle.vr_volume.specs.Laid.{shape_by}
use Rattle.vr_volume.specs.PutBack.{images_of, oldest, standing_of}

-- a place of a part that is laid, other than the catalog, and what a unit finds there as it changes
-- it for the first time
pub record Changing : Type 0 where
  pub unit : UnitOfRecovery
  pub part : PartNo
  pub place : List ℕ
  pub old : Option (List ℕ)
  pub new : Option Item

abbrev pub image_by : Changing → BeforeImage
image_by change = record {
  unit = change.unit;
  part = change.part.0;
  place = change.place;
  old = option_map Standing change.old;
}

-- The unit is its deck's current one, and the place is one of a part that is laid.
pub record IsChangeOf (geometry : Geometry) (state : State) (change : Changing) : Type 0 where
  pub current : IsCurrent state.numbers change.unit
  pub not_catalog : change.part.0 ≢ 0
  pub shape : Shape
  pub laid : shape_by geometry (state.contents 0) change.part.0 ≡ Some shape
  pub place : IsPlaceOf shape change.place

-- the contents with the new item at the place
abbrev pub IsPutIn : Changing → State → State → Type 0
IsPutIn change old new = new.contents
    ≡ with_change (record { part = change.part.0; place = change.place; new = change.new })
    old.contents

-- The first change of a place that no unit has logged: it is logged, and what stood there is kept.
pub record IsFirstChange (log : LogNow) (change : Changing) (old new : State) : Type 0 where
  pub free : oldest (images_of log.records) change.part.0 change.place ≡ None
  pub item : option_map Standing change.old ≡ item_at (old.contents change.part.0) change.place
  pub contents : IsPutIn change old new
  pub befores : new.befores ≡ old.befores ++ image_by change ∷ []
  pub logged : new.logged ≡ old.logged ++ logged_of (image_by change) ∷ []
  pub used : new.used ≡ old.used + need_of (live_in log.records)
      (Before change.unit change.part change.place change.old)
  pub numbers : new.numbers ≡ old.numbers

-- the record of the log that such a change takes
abbrev pub logged_by : Changing → LogRecord
logged_by change = Before change.unit change.part change.place change.old

-- each of another place
abbrev pub AreOfOthers : List Changing → Type 0
AreOfOthers [] = Unit {0}
AreOfOthers (change ∷ changes) = All (λ (other : Changing).
    other.part.0 ≡ change.part.0 → other.place ≢ change.place) changes × AreOfOthers changes

-- Places may be logged together before any of them is changed: each is of its own, is one that no unit
-- has logged, and has what is said. What they are given later isn't looked at.
pub record MayBeLogged (geometry : Geometry) (log : LogNow) (state : State)
    (changes : List Changing) : Type 0 where
  pub of : All (IsChangeOf geometry state) changes
  pub free : All (λ (change : Changing).
      oldest (images_of log.records) change.part.0 change.place ≡ None) changes
  pub items : All (λ (change : Changing). option_map Standing change.old
      ≡ item_at (state.contents change.part.0) change.place) changes
  pub others : AreOfOthers changes

-- They are logged, and what stands at each is kept. Nothing of the contents changes.
pub record AreKept (log : LogNow) (changes : List Changing) (old new : State) : Type 0 where
  pub contents : new.contents ≡ old.contents
  pub befores : new.befores ≡ old.befores ++ map image_by changes
  pub logged : new.logged
      ≡ old.logged ++ map (λ (change : Changing). logged_of (image_by change)) changes
  pub used : new.used
      ≡ old.used + need_of_all (live_in log.records) (map logged_by changes)
  pub numbers : new.numbers ≡ old.numbers

-- A further change of a place for which a before-image is kept.
pub record IsNextChange (change : Changing) (old new : State) : Type 0 where
  pub kept : oldest old.befores change.part.0 change.place ≢ None
  pub contents : IsPutIn change old new
  pub befores : new.befores ≡ old.befores
  pub logged : new.logged ≡ old.logged
  pub used : new.used ≡ old.used
  pub numbers : new.numbers ≡ old.numbers

-- A change of a place that the unit logged, and whose before-image was put back: it is kept again,
-- and not logged again.
pub record IsKeptAgain (log : LogNow) (change : Changing) (old new : State) : Type 0 where
  pub image : BeforeImage
  pub image_is : oldest (images_of log.records) change.part.0 change.place ≡ Some image
  pub own : image.unit ≡ change.unit
  pub none : oldest old.befores change.part.0 change.place ≡ None
  pub item : option_map Standing change.old ≡ item_at (old.contents change.part.0) change.place
  pub contents : IsPutIn change old new
  pub befores : new.befores ≡ old.befores ++ image_by change ∷ []
  pub logged : new.logged ≡ old.logged
  pub used : new.used ≡ old.used
  pub numbers : new.numbers ≡ old.numbers

-- The last before-image that a unit keeps is put back, and kept no more; its place stays logged. A
-- record that was added may become a withdrawn one, where no record stood before.
pub record IsPutBack (change : Changing) (old new : State) : Type 0 where
  pub last : last_kept old change.unit ≡ Some (record {
    unit = change.unit;
    part = change.part.0;
    place = change.place;
    old = standing_of change.new;
  })
  pub contents : IsPutIn change old new
  pub befores : new.befores ≡ without_last change.unit old.befores
  pub logged : new.logged ≡ old.logged
  pub used : new.used ≡ old.used
  pub numbers : new.numbers ≡ old.numbers

-- The end of a unit: what it kept and logged goes, and its deck's next unit begins.
pub record IsEndedIn (unit : UnitOfRecovery) (old new : State) : Type 0 where
  pub contents : (part : ℕ) → new.contents part ≡ old.contents part
  pub befores : new.befores
      ≡ filter (λ (image : BeforeImage). is_other unit image.unit) old.befores
  pub logged : new.logged ≡ filter (λ logged. is_other unit logged.unit) old.logged
  pub used : new.used ≡ used_after new.logged old.used
  pub numbers : (deck : ℕ) → new.numbers deck
      ≡ (if deck == unit.deck then old.numbers deck + 1 else old.numbers deck)
