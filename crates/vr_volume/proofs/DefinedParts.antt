-- What the record of a new part leaves of the parts of a volume: the catalog has it at its place,
-- and the new part and each other one are at rest by the state with it.
use Rattle.std.proofs.Common.{◌≡◌, ◌≢◌, ℕ, Bool, IsTrue, List, Option, Some, None, refl, sym, ap}
use Rattle.std.proofs.Common.{subst, ◌∙◌}
use Rattle.vr_types.specs.Blocks.{Forced, Keeps}
use Rattle.vr_types.specs.Content.{Content, Item, Standing, item_at}
use Rattle.vr_types.specs.Image.{Image}
use Rattle.vr_types.specs.Regions.{Touches}
use Rattle.vr_types.specs.Seen.{Left, Seen}
use Rattle.vr_types.specs.declared.geometry.Geometry.{Geometry}
use Rattle.vr_types.specs.declared.unit.PartNo.{PartNo}
use Rattle.vr_types.specs.declared.unit.Unit.{Unit as UnitOfRecovery}
use Rattle.vr_space.specs.Known.{Known}
use Rattle.vr_space.specs.Owners.{Owners}
use Rattle.vr_attach.specs.Owning.{IsPastLog}
use Rattle.vr_space.specs.Part.{DueMoreAt, HasKeptRoom, IsAtRest, Knows, MayHold, SetsOne, Shape}
use Rattle.vr_space.specs.Part.{item_of, left_by, part_no}
use Rattle.vr_space.specs.Room.{Lengths}
use Rattle.vr_space.proofs.CallerLemmas.{StaysPart, stays-keeps}
use Rattle.vr_log.specs.LogNow.{LogNow}
use Rattle.vr_log.specs.Standing.{InLog}
use Rattle.vr_history.specs.State.{BeforeImage, State}
use Rattle.vr_volume.specs.Committed.{committed_by}
use Rattle.vr_volume.specs.Defining.{CanDefine, IsDefinedIn, IsStarted}
use Rattle.vr_volume.specs.Laid.{catalog_shape, shape_by}
use Rattle.vr_volume.specs.Laying.{InLogOr, IsLogged}
use Rattle.vr_volume.specs.PutBack.{lengths_kept, oldest}
use Rattle.vr_volume.specs.Rests.{IsPartAtRest, IsVolumeAtRest}
use Rattle.vr_volume.specs.Safe.{IsSafe}
use Rattle.vr_volume.proofs.Begun.{begun, catalog_no}
use Rattle.vr_volume.proofs.Calls.{Anything, stays-both, stays-part}
use Rattle.vr_volume.proofs.Defined.{free-of, held-else, none-kept-new, nothing-new}
use Rattle.vr_volume.proofs.Entered.{item-else, item-here, laid-here, laid-still, other-entered}
use Rattle.vr_volume.proofs.Rested.{part-stays, stays-then}
use Rattle.vr_volume.proofs.SetParts.{firm-set, set-rests}

-- ---- a part that the calls leave as it is

-- a part other than the catalog stays as it is while the record is logged and set, its blocks are
-- forced, and the end is logged
pub stays-throughout : (tells : Bool) → IsTrue tells → (geometry : Geometry)
    (catalog other : Shape) (owners : Owners) (Q : Image → Type 0) (a m d b : Seen)
    → IsPastLog geometry owners
    → (part_no other).0 ≢ (part_no catalog).0
    → Touches (InLogOr geometry catalog owners) Anything a m → Keeps tells m d
    → Touches (InLog geometry) Q d b → StaysPart other owners a b
stays-throughout tells told geometry catalog other owners Q a m d b past apart first force last =
    stays-then other owners a d b
    (stays-then other owners a m d (stays-both geometry catalog other owners a m past apart first)
    (stays-keeps tells told m d force other owners))
    (stays-part geometry other owners Q d b past last)

module _ (geometry : Geometry) (number : ℕ) (owners : Owners) (log : LogNow)
    (images : List BeforeImage) (old : State) (a : Seen) (unit : UnitOfRecovery) (shape : Shape)
    (place bytes : List ℕ)
    (rest : IsVolumeAtRest geometry number owners log images old a)
    (can : CanDefine geometry log unit shape place bytes old)
    (new : State) (need : ℕ) (made : IsDefinedIn unit place bytes need old new) where
  -- It is at rest by the state with the record, too.
  pub other-told : (other : Shape) (known : Known) → (part_no other).0 ≢ 0
      → IsPartAtRest geometry owners images old other known a
      → IsPartAtRest geometry owners images new other known a
  other-told other known apart part = record {
    laid = laid-still geometry old new rest.laid log rest.logged rest.forced unit shape place bytes
        need can made (part_no other).0 other part.laid;
    on = part.on;
    rests = part.rests;
    claimed = part.claimed;
    room = part.room;
    knows = part.knows;
    reads = λ at. part.reads at ∙ sym (same at);
    firm = λ at found none held. part.firm at found none held ∙ sym (same at);
  }
    where
      same : (at : List ℕ) → item_at (new.contents (part_no other).0) at
          ≡ item_at (old.contents (part_no other).0) at
      same at = ap (λ (content : Content). item_at content at)
          (other-entered geometry old new rest.laid log rest.logged rest.forced unit shape place
          bytes need can made (part_no other).0 apart)

  -- The new part is at rest by it.
  pub new-told : (more : LogNow) → IsLogged log (begun unit place) more → (known : Known)
      → IsStarted shape owners known a → IsPartAtRest geometry owners images new shape known a
  new-told more logged known started = record {
    laid = laid-here geometry old new rest.laid log rest.logged rest.forced unit shape place bytes
        need can made;
    on = started.on;
    rests = started.rests;
    claimed = started.claimed;
    room = subst (λ (lengths : Lengths). HasKeptRoom shape lengths a)
        (sym (ap (λ (those : List BeforeImage). lengths_kept those (part_no shape).0) rest.kept
        ∙ none-kept-new geometry number owners log images old a unit shape place bytes rest can))
        started.room;
    knows = started.knows;
    reads = λ at. started.reads at ∙ sym (nothing at);
    firm = λ at found none held. started.firm at found held ∙ sym (nothing at);
  }
    where
      nothing : (at : List ℕ) → item_at (new.contents (part_no shape).0) at ≡ None
      nothing = nothing-new geometry number owners log images old a unit shape place bytes rest can
          new need made more logged

  -- A part that is left as it is stays at rest by it.
  pub told-stays : (other : Shape) (known : Known) (b : Seen) → StaysPart other owners a b
      → Left a a.cur → IsPartAtRest geometry owners images new other known a
      → IsPartAtRest geometry owners images new other known b
  told-stays other known b stays left part = part-stays geometry owners images images new new other
      known a b stays left part refl refl refl (λ at none. none)

  -- ---- the catalog

  module _ (catalog : Shape) (known : Known) (is : part_no catalog ≡ catalog_no)
      (part : IsPartAtRest geometry owners images old catalog known a) where
    pub zero-is : (part_no catalog).0 ≡ 0
    zero-is = ap (λ (p : PartNo). p.0) is

    pub catalog-is : catalog ≡ catalog_shape geometry
    catalog-is = some-same catalog (catalog_shape geometry)
        (sym part.laid ∙ ap (shape_by geometry (old.contents 0)) zero-is)
      where
        some-same : (one other : Shape) → Some one ≡ Some other → one ≡ other
        some-same one other same = cc

    -- no before-image is of the place
    free-here : oldest images (part_no catalog).0 place ≡ None
    free-here = ap (λ (p : ℕ). oldest images p place) zero-is
        ∙ ap (λ (those : List BeforeImage). oldest those 0 place) rest.kept
        ∙ free-of geometry number owners log images old a unit shape place bytes rest can

    record-put : (now : Option Item) → left_by catalog now (Some bytes) ≡ Some (Standing bytes)
    record-put now = ap (λ (s : Shape). left_by s now (Some bytes)) catalog-is

    module _ (put : List ℕ) (m d : Seen) (due : DueMoreAt catalog place put a m)
        (rests : IsAtRest catalog owners m)
        (set : SetsOne catalog place (Some bytes) a.cur m.cur) (tells : Bool)
        (told : IsTrue tells) (force : Keeps tells m d) where
      -- Once the blocks are forced a crash leaves the record at its place.
      pub firm-record : Forced put m.cur d.may → (item : Option Item)
          → MayHold catalog d.may place item → item ≡ Some (Standing bytes)
      firm-record forced item held =
          firm-set part place m d told rests set force put free-here due forced item held
          ∙ record-put (item_of catalog a.cur place)

      module _ (more : LogNow) (logged : IsLogged log (begun unit place) more)
          (safe : IsSafe geometry number owners more (committed_by old) d)
          (firm : (item : Option Item) → MayHold catalog d.may place item
          → item ≡ Some (Standing bytes)) where
        -- It is at rest by the state with the record, while the end is logged and from then on.
        pub catalog-told : (b : Seen) (Q : Image → Type 0) (later : Known)
            → Touches (InLog geometry) Q d b → Left m m.cur → m.count ≡ a.count → m.size ≡ a.size
            → HasKeptRoom catalog (lengths_kept images (part_no catalog).0) m
            → Knows catalog later m → later.move ≡ known.move
            → IsPartAtRest geometry owners images new catalog later b
        catalog-told b Q later last left count size room knows moves =
            set-rests part place m d told rests set force images new b Q later rest.safe.past last
            left count size room knows moves
            (laid-still geometry old new rest.laid log rest.logged rest.forced unit shape place
            bytes need can made (part_no catalog).0 catalog part.laid)
            (record-put (item_of catalog a.cur place) ∙ sym record-there)
            (λ at apart. item-else geometry old new rest.laid log rest.logged rest.forced unit shape
            place bytes need can made (part_no catalog).0 at (λ zero there. apart there))
            (λ found held. firm found held ∙ sym record-there)
            (λ at found apart none held.
            held-else geometry number owners log images old a unit shape place bytes rest can
            new need made more logged d safe (part_no catalog).0 catalog part.laid at found held
            (ap (λ (those : List BeforeImage). oldest those (part_no catalog).0 at)
            (sym rest.kept) ∙ none)
            (λ zero there. apart there))
          where
            record-there : item_at (new.contents (part_no catalog).0) place
                ≡ Some (Standing bytes)
            record-there = ap (λ (p : ℕ). item_at (new.contents p) place) zero-is
                ∙ item-here geometry old new rest.laid log rest.logged rest.forced unit shape place
                bytes need can made
