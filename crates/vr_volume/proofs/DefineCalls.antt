-- What the calls that add the record of a new part leave of a volume at rest, in a row: a change,
-- the force of its blocks, and the end of the unit.
use Rattle.std.proofs.Common.{◌≡◌, ◌≢◌, ◌⊎◌, inl, ◌<◌, ◌+◌, ◌^◌, ℕ, Bool, IsTrue, List, [], ◌∷◌}
use Rattle.std.proofs.Common.{◌++◌, true, Option, Some, None, sym, ap, subst, ◌∙◌}
use Rattle.vr_types.specs.Blocks.{Forced, Keeps}
use Rattle.vr_types.specs.Content.{Item, Standing}
use Rattle.vr_types.specs.Image.{Image}
use Rattle.vr_types.specs.Moments.{Guards}
use Rattle.vr_types.specs.Regions.{Touches}
use Rattle.vr_types.specs.Seen.{Left, Seen}
use Rattle.vr_types.specs.declared.geometry.Geometry.{Geometry}
use Rattle.vr_types.specs.declared.unit.PartNo.{PartNo}
use Rattle.vr_types.specs.declared.unit.Unit.{Unit as UnitOfRecovery}
use Rattle.vr_types.proofs.CallerLemmas.{guards-then, guards-weaken}
use Rattle.vr_space.specs.Known.{Known}
use Rattle.vr_space.specs.Owners.{Owners}
use Rattle.vr_space.specs.Part.{DueMoreAt, HasKeptRoom, IsAtRest, Knows, MayHold, SetsOne, Shape}
use Rattle.vr_space.specs.Part.{part_no}
use Rattle.vr_space.specs.Room.{Lengths}
use Rattle.vr_log.specs.Live.{is_in, live_in, need_of}
use Rattle.vr_log.specs.LogNow.{HasLog, LogNow, with_record}
use Rattle.vr_log.specs.Standing.{InLog, LogStands}
use Rattle.vr_log.specs.declared.record.EndKind.TheVariants.{Committed}
use Rattle.vr_log.specs.declared.record.LogRecord.{LogRecord}
use Rattle.vr_log.specs.declared.record.LogRecord.TheVariants.{Before, End}
use Rattle.vr_history.specs.State.{BeforeImage, State}
use Rattle.vr_volume.specs.Committed.{committed_by}
use Rattle.vr_volume.specs.Crashes.{RecoversTo}
use Rattle.vr_volume.specs.Defining.{CanDefine, IsDefinedIn, IsStarted}
use Rattle.vr_volume.specs.EndedLog.{IsEndForced, IsEndedLog}
use Rattle.vr_volume.specs.Laid.{catalog_shape, shape_by}
use Rattle.vr_volume.specs.Laying.{InLogOr, IsLaidBy, IsLogged}
use Rattle.vr_volume.specs.Logged.{IsFirstBefore}
use Rattle.vr_volume.specs.PutBack.{lengths_kept}
use Rattle.vr_volume.specs.Rests.{IsPartAtRest, IsVolumeAtRest}
use Rattle.vr_volume.specs.Safe.{IsSafe, IsSafeImage}
use Rattle.vr_volume.proofs.Begun.{begun, catalog_no, live-begun}
use Rattle.vr_volume.proofs.Calls.{Anything, stays-both}
use Rattle.vr_volume.proofs.Defined.{end-recovers, first-of, laid-first, not-catalog}
use Rattle.vr_volume.proofs.Defined.{recovers-old, rests-defined}
use Rattle.vr_volume.proofs.DefinedParts.{catalog-is, catalog-told, firm-record, new-told}
use Rattle.vr_volume.proofs.DefinedParts.{stays-throughout, told-stays, zero-is}
use Rattle.vr_volume.proofs.EndCalls.{IsIdle, IsLive, ended-log}
use Rattle.vr_volume.proofs.LogCalls.{image-less}
use Rattle.vr_volume.proofs.Rested.{stays-then}
use Rattle.vr_space.proofs.CallerLemmas.{stays-keeps}

-- ---- the log

-- the unit is live once its before-image is logged
pub live-logged : {part : PartNo} {old : Option (List ℕ)} (log more : LogNow)
    (unit : UnitOfRecovery) (place : List ℕ) (rec : LogRecord)
    → rec ≡ Before unit part place old → more.records ≡ log.records ++ rec ∷ []
    → is_in unit (live_in more.records) ≡ true
live-logged {part} {old} log more unit place rec is grown =
    ap (λ (records : List LogRecord). is_in unit (live_in records))
    (grown ∙ ap (λ (r : LogRecord). log.records ++ r ∷ []) is)
    ∙ live-begun log.records unit part place old

-- the log after the end, by the log before the record
pub defined-log : (log more last after : LogNow) (unit : UnitOfRecovery) (rec : LogRecord)
    → more.geometry ≡ log.geometry → more.generation ≡ log.generation
    → more.records ≡ log.records ++ rec ∷ [] → IsEndForced more unit Committed last
    → IsIdle last after → IsLive last after
    → IsEndedLog (with_record log rec) unit Committed after
defined-log log more last after unit rec geometry generation records end idle live =
    ended-log (with_record log rec) last after unit Committed
    (record {
      geometry = end.geometry ∙ geometry;
      generation = end.generation ∙ generation;
      records = end.records
          ∙ ap (λ (those : List LogRecord). those ++ End unit Committed ∷ []) records;
      forced = end.forced;
      sound = end.sound;
    })
    idle live

-- ---- the volume

-- what an image recovers to: what was committed, or what is committed with the record
abbrev pub Either : Geometry → ℕ → State → State → Image → Type 0
Either geometry number old new image = RecoversTo geometry number old [] image
    ⊎ RecoversTo geometry number new [] image

module _ (geometry : Geometry) (number : ℕ) (owners : Owners) (log : LogNow)
    (images : List BeforeImage) (old : State) (a : Seen) (unit : UnitOfRecovery) (shape : Shape)
    (place bytes : List ℕ)
    (rest : IsVolumeAtRest geometry number owners log images old a)
    (can : CanDefine geometry log unit shape place bytes old)
    (new : State) (need : ℕ) (made : IsDefinedIn unit place bytes need old new)
    (catalog : Shape) (known : Known) (is : part_no catalog ≡ catalog_no)
    (part : IsPartAtRest geometry owners images old catalog known a) (kept : Lengths)
    (room : kept ≡ lengths_kept images 0) (rec : LogRecord) (rec-is : rec ≡ begun unit place) where
  zero : (part_no catalog).0 ≡ 0
  zero = zero-is geometry number owners log images old a unit shape place bytes rest can new need
      made catalog known is part

  -- what a change asks for that logs the record
  abbrev Asked : Type 0 → Type 0
  Asked X = rec ≡ Before unit (part_no catalog) place None
      → IsFirstBefore geometry log (committed_by old) unit (part_no catalog) place None
      → IsLaidBy geometry (log.records ++ rec ∷ []) (committed_by old) (part_no catalog).0 catalog
      kept → X

  asked : {X : Type 0} → Asked X → X
  asked call = call
      (rec-is ∙ ap (λ (p : PartNo). Before unit p place None) (sym is))
      (subst (λ (p : PartNo). IsFirstBefore geometry log (committed_by old) unit p place None)
      (sym is) (first-of geometry number owners log images old a unit shape place bytes rest can))
      (subst (λ (p : PartNo). IsLaidBy geometry (log.records ++ rec ∷ []) (committed_by old) p.0
      catalog kept) (sym is)
      (subst (λ (r : LogRecord). IsLaidBy geometry (log.records ++ r ∷ []) (committed_by old) 0
      catalog kept) (sym rec-is)
      (laid-first geometry number owners log images old a unit shape place bytes rest can catalog
      (ap (shape_by geometry (old.contents 0)) (sym zero) ∙ part.laid) kept room)))

  -- the new part isn't the catalog
  apart : (part_no shape).0 ≢ (part_no catalog).0
  apart same = not-catalog geometry number owners log images old a unit shape place bytes rest can
      (same ∙ zero)

  module _ (m : Seen)
      (guards : Asked (Guards a m
      (IsSafeImage geometry number owners (with_record log rec) (committed_by old)))) where
    -- While the change goes on each image recovers to what was committed.
    pub change-moments : Guards a m (Either geometry number old new)
    change-moments = guards-weaken a m
        (IsSafeImage geometry number owners (with_record log rec) (committed_by old))
        (Either geometry number old new) (asked guards)
        (λ image safe. inl (recovers-old geometry number owners log images old a unit shape place
        bytes rest can image
        (subst (λ (r : LogRecord). IsSafeImage geometry number owners (with_record log r)
        (committed_by old) image) rec-is safe)))

    module _ (more : LogNow) (logged : IsLogged log rec more)
        (after : Asked (IsSafe geometry number owners more (committed_by old) m)) (d : Seen)
        (forces : IsSafe geometry number owners more (committed_by old) m
        → Guards m d (IsSafeImage geometry number owners more (committed_by old))
        × IsSafe geometry number owners more (committed_by old) d) where
      logged-is : IsLogged log (begun unit place) more
      logged-is = subst (λ (r : LogRecord). IsLogged log r more) rec-is logged

      -- So it does while its blocks are forced.
      pub force-moments : Guards a d (Either geometry number old new)
      force-moments = guards-then a m d (Either geometry number old new) change-moments
          (guards-weaken m d (IsSafeImage geometry number owners more (committed_by old))
          (Either geometry number old new) (forces (asked after)).0
          (λ image safe. inl (recovers-old geometry number owners log images old a unit shape place
          bytes rest can image
          (image-less geometry number owners more (with_record log (begun unit place))
          (committed_by old) logged-is.less image safe))))

      safe-forced : IsSafe geometry number owners more (committed_by old) d
      safe-forced = (forces (asked after)).1

      module _ (tells : Bool) (told : IsTrue tells) (left : Left a a.cur)
          (call : Touches (InLogOr geometry catalog owners) Anything a m) (force : Keeps tells m d)
          (listed put : List ℕ) (put-is : listed ≡ put) (due : DueMoreAt catalog place put a m)
          (rests : IsAtRest catalog owners m)
          (set : SetsOne catalog place (Some bytes) a.cur m.cur)
          (forced : Forced listed m.cur d.may) where
        -- a crash leaves the record at its place
        firm : (item : Option Item) → MayHold catalog d.may place item
            → item ≡ Some (Standing bytes)
        firm = firm-record geometry number owners log images old a unit shape place bytes rest can
            new need made catalog known is part put m d due rests set tells told force
            (subst (λ (them : List ℕ). Forced them m.cur d.may) put-is forced)

        firm-there : (item : Option Item) → MayHold (catalog_shape geometry) d.may place item
            → item ≡ Some (Standing bytes)
        firm-there = subst (λ (s : Shape). (item : Option Item) → MayHold s d.may place item
            → item ≡ Some (Standing bytes))
            (catalog-is geometry number owners log images old a unit shape place bytes rest can new
            need made catalog known is part)
            firm

        module _ (b : Seen)
            (end-call : Touches (InLog more.geometry)
            (HasLog (with_record more (End unit Committed))) d b) where
          log-call : Touches (InLog geometry) (HasLog (with_record more (End unit Committed))) d b
          log-call = subst (λ (g : Geometry). Touches (InLog g)
              (HasLog (with_record more (End unit Committed))) d b)
              (logged.geometry ∙ rest.safe.shape) end-call

          -- once it is there the catalog is at rest by the new state
          catalog-defined : (later : Known) → Left m m.cur → m.count ≡ a.count
              → m.size ≡ a.size → HasKeptRoom catalog kept m → Knows catalog later m
              → later.move ≡ known.move → IsPartAtRest geometry owners images new catalog later b
          catalog-defined later left-m count size kept-room knows moves =
              catalog-told geometry number owners log images old a unit shape place bytes rest can
              new need made catalog known is part put m d due rests set tells told force more
              logged-is safe-forced firm b (HasLog (with_record more (End unit Committed))) later log-call
              left-m count size
              (subst (λ (lengths : Lengths). HasKeptRoom catalog lengths m)
              (room ∙ ap (lengths_kept images) (sym zero)) kept-room)
              knows moves

          module _ (later : Known) (started : IsStarted shape owners later a) where
            -- the new part is at rest once the blocks are forced
            part-forced : IsPartAtRest geometry owners images new shape later d
            part-forced = told-stays geometry number owners log images old a unit shape place bytes
                rest can new need made shape later d
                (stays-then shape owners a m d
                (stays-both geometry catalog shape owners a m rest.safe.past apart call)
                (stays-keeps tells told m d force shape owners)) left
                (new-told geometry number owners log images old a unit shape place bytes rest can
                new need made more logged-is later started)

            -- While the end is logged each image recovers to that, or to what is committed with
            -- the record.
            pub end-moments : Guards a b (Either geometry number old new)
            end-moments = guards-then a d b (Either geometry number old new) force-moments
                (end-recovers geometry number owners log images old a unit shape place bytes rest
                can new need made more logged-is d safe-forced later firm-there part-forced b
                end-call)

            -- the volume is at rest once the end is there,
            volume-defined : (last after-end : LogNow) → IsLogged more (End unit Committed) last
                → IsEndForced more unit Committed last → LogStands last b
                → need ≡ need_of (live_in log.records) rec → log.generation + 1 < 2 ^ 63
                → more.generation ≡ log.generation → IsIdle last after-end → IsLive last after-end
                → IsVolumeAtRest geometry number owners after-end images new b
            volume-defined last after-end last-logged end stands needs below still idle live =
                rests-defined geometry number owners log images old a unit shape place bytes rest
                can new need made more logged-is d safe-forced later firm-there part-forced b
                end-call last last-logged end stands (needs ∙ ap (need_of (live_in log.records)) rec-is)
                after-end below still idle live

            -- and so is the new part
            part-defined : IsPartAtRest geometry owners images new shape later b
            part-defined = told-stays geometry number owners log images old a unit shape place bytes
                rest can new need made shape later b
                (stays-throughout tells told geometry catalog shape owners
                (HasLog (with_record more (End unit Committed))) a m d b rest.safe.past apart call
                force log-call) left
                (new-told geometry number owners log images old a unit shape place bytes rest can
                new need made more logged-is later started)

            -- Once it is there the volume, the catalog and the new part are at rest by the new state.
            pub all-defined : (last after-end : LogNow) → IsLogged more (End unit Committed) last
                → IsEndForced more unit Committed last → LogStands last b
                → need ≡ need_of (live_in log.records) rec → log.generation + 1 < 2 ^ 63
                → more.generation ≡ log.generation → IsIdle last after-end → IsLive last after-end
                → (met : Known) → Left m m.cur → m.count ≡ a.count → m.size ≡ a.size
                → HasKeptRoom catalog kept m → Knows catalog met m → met.move ≡ known.move
                → IsVolumeAtRest geometry number owners after-end images new b
                × IsPartAtRest geometry owners images new catalog met b
                × IsPartAtRest geometry owners images new shape later b
            all-defined last after-end last-logged end stands needs below still idle live met left-m
                count size kept-room knows moves = (
                  volume-defined last after-end last-logged end stands needs below still idle live,
                  catalog-defined met left-m count size kept-room knows moves,
                  part-defined,
                )
