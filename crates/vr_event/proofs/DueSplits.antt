-- The stage of a split that comes before the last before-image of a unit is one of a keyed part.
use Rattle.std.proofs.Common.{◌≡◌, ◌≢◌, ◌∙◌, ℕ, Bool, false, true, List, Option, Some, None}
use Rattle.std.proofs.Common.{ap, refl, sym}
use Rattle.std.specs.Prelude.{IfSome, IsSomeAnd, if◌then◌else◌, nat_le}
use Rattle.std.specs.Option.{option_map}
use Rattle.std.proofs.lemmas.Bool.{true≢false}
use Rattle.vr_types.specs.Image.{Image}
use Rattle.vr_types.specs.Space.{free_count}
use Rattle.vr_types.specs.declared.unit.StageKind.TheVariants.{Extend}
use Rattle.vr_types.specs.declared.unit.Unit.{Unit as UnitOfRecovery}
use Rattle.vr_space.specs.Known.{Known}
use Rattle.vr_space.specs.Numbered.{areas_short, chain_room_by, has_interval, interval_of}
use Rattle.vr_space.specs.Numbered.{numbered_fits}
use Rattle.vr_space.specs.Part.{KeyedShape, NumberedShape, Shape, room_of}
use Rattle.vr_space.specs.declared.room.Room.TheVariants as room
use Rattle.vr_history.specs.State.{BeforeImage}
use Rattle.vr_undo.specs.Records.{images_in}
use Rattle.vr_volume.specs.PutBack.{lengths_kept}
use Rattle.vr_store.specs.LastImage.{IsDueAtLast, IsSplitDue, OnLast, is_stage, last_of_unit}
use Rattle.vr_store.specs.Store.{PartNow, StoreNow, part_among, shape_among}
use Rattle.vr_event.specs.Nearer.{HasKeyed, IsKeyed}

-- the one stage of a numbered part takes an area
chain-stage : (fits has : Bool) (need free : ℕ)
    → is_stage (chain_room_by fits has need free) ≡ false
chain-stage true has need free = refl
chain-stage false true need free = refl
chain-stage false false need free = of (nat_le need free)
  where
    of : (enough : Bool)
        → is_stage (if enough then room.Stage Extend else room.NoSpace need free) ≡ false
    of true = refl
    of false = refl

due-keyed : (store : StoreNow) (image : Image) (number : ℕ) (place : List ℕ) (n : ℕ)
    → shape_among store.parts number ≢ None → IsSplitDue store image number place n
    → HasKeyed store.parts number
due-keyed store image number place n there due =
    of (part_among store.parts number) there due.room
  where
    by-shape : (shape : Shape) (known : Known) → room.Stage due.kind ≡ room_of shape known image
        (free_count store.space) (lengths_kept (images_in store.undo) number) place n
        → IsKeyed shape
    by-shape (KeyedShape keyed) known is = tt
    by-shape (NumberedShape part) known is = absurd (true≢false (sym due.first ∙ ap is_stage is
        ∙ chain-stage (numbered_fits part known.tail image place n)
        (has_interval part image place) (areas_short part image (interval_of part place))
        (free_count store.space)))

    of : (found : Option PartNow) → option_map (λ (part : PartNow). part.shape) found ≢ None
        → IfSome found (λ (part : PartNow). room.Stage due.kind ≡ room_of part.shape part.known
        image (free_count store.space) (lengths_kept (images_in store.undo) number) place n)
        → IsSomeAnd (option_map (λ (part : PartNow). part.shape) found) IsKeyed
    of None some is = absurd (some refl)
    of (Some part) some is = by-shape part.shape part.known is

pub last-keyed : (store : StoreNow) (image : Image) (unit : UnitOfRecovery) (n : ℕ)
    → ((last : BeforeImage) → last_of_unit store unit ≡ Some last
    → shape_among store.parts last.part ≢ None) → IsDueAtLast store image unit n
    → OnLast store unit (λ last. HasKeyed store.parts last.part)
last-keyed store image unit n there = of (last_of_unit store unit) refl
  where
    of : (last : Option BeforeImage) → last_of_unit store unit ≡ last
        → IfSome last (λ one. IsSplitDue store image one.part one.place n)
        → IfSome last (λ one. HasKeyed store.parts one.part)
    of None is due = tt
    of (Some one) is due = due-keyed store image one.part one.place n (there one is) due
