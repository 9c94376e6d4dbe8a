-- What the record of a new part leaves of a volume: while it is logged and set each image recovers
-- to what was committed, and once its blocks are forced the unit may end, with which the part is
-- committed, too.
use Rattle.std.proofs.Common.{◌≡◌, ◌≢◌, ◌⊎◌, inl, inr, ⊎_elim, ◌<◌, ◌+◌, ◌^◌, ℕ, Bool, true, false}
use Rattle.std.proofs.Common.{cond, List, [], ◌∷◌, ◌++◌, Option, Some, None, refl, sym, ap, subst}
use Rattle.std.proofs.Common.{◌∙◌, arith, length, map, ◌==◌, ◌&&◌, ◌||◌, bytes_eq}
use Rattle.std.specs.Prelude.{All}
use Rattle.std.specs.List.{cons_option, filter_map}
use Rattle.std.specs.Option.{option_and_then, option_or}
use Rattle.std.proofs.lemmas.Bool.{true≢false}
use Rattle.std.proofs.lemmas.Bool.Decides.{Decides-eqb}
use Rattle.std.proofs.lemmas.List.{take_all}
use Rattle.std.proofs.lemmas.List.Elements.{All-head, All-tail}
use Rattle.std.proofs.lemmas.Slice.Eq.{bytes_eq-Decides}
use Rattle.vr_types.specs.Content.{Content, Item, Standing, item_at, record_of}
use Rattle.vr_types.specs.Image.{Image}
use Rattle.vr_types.specs.Locks.{same_unit}
use Rattle.vr_types.specs.Moments.{Guards}
use Rattle.vr_types.specs.Regions.{Touches}
use Rattle.vr_types.specs.Seen.{Seen}
use Rattle.vr_types.specs.declared.geometry.Geometry.{Geometry}
use Rattle.vr_types.specs.declared.unit.Unit.{Unit as UnitOfRecovery}
use Rattle.vr_types.proofs.CallerLemmas.{guards-weaken}
use Rattle.vr_space.specs.Known.{Known}
use Rattle.vr_space.specs.Owners.{Owners}
use Rattle.vr_space.specs.Part.{HasKeptRoom, MayHold, Shape, part_no}
use Rattle.vr_space.specs.Room.{Lengths, with_lengths}
use Rattle.vr_space.proofs.CallerLemmas.{rest-sound}
use Rattle.vr_log.specs.Content.{Content as LogContent}
use Rattle.vr_log.specs.Live.{is_in, live_in, need_of}
use Rattle.vr_log.specs.LogNow.{HasLog, IsLogOf, LogNow, first_of, restarted, with_record}
use Rattle.vr_log.specs.Standing.{InLog, LogStands}
use Rattle.vr_log.specs.declared.record.EndKind.TheVariants.{Committed}
use Rattle.vr_log.specs.declared.record.LogRecord.{LogRecord}
use Rattle.vr_log.specs.declared.record.LogRecord.TheVariants.{End}
use Rattle.vr_log.proofs.CallerLemmas.{restarted_stands}
use Rattle.vr_history.specs.State.{BeforeImage, Logged, State}
use Rattle.vr_history.proofs.CallerLemmas.{unit_self}
use Rattle.vr_volume.specs.Committed.{HasLogged, IsLaidState, committed_by, has_commit, kept_by}
use Rattle.vr_volume.specs.Committed.{logged_of}
use Rattle.vr_volume.specs.Crashes.{RecoversTo}
use Rattle.vr_volume.specs.Defining.{CanDefine, IsDefinedIn}
use Rattle.vr_volume.specs.Ended.{IsEndOf, ended}
use Rattle.vr_volume.specs.EndedLog.{IsEndForced}
use Rattle.vr_volume.specs.Laid.{catalog_shape, shape_by}
use Rattle.vr_volume.specs.Laying.{IsLaidBy, IsLogged}
use Rattle.vr_volume.specs.Logged.{IsFirstBefore}
use Rattle.vr_volume.specs.PutBack.{images_of, is_image_of, length_in, length_of, lengths_kept}
use Rattle.vr_volume.specs.PutBack.{oldest, put_back}
use Rattle.vr_volume.specs.Rests.{IsPartAtRest, IsVolumeAtRest}
use Rattle.vr_volume.specs.Safe.{AreCommitted, IsImageSafe, IsItemOf, IsPartSafe, IsSafe, IsSafeBy}
use Rattle.vr_volume.specs.Safe.{IsSafeImage}
use Rattle.vr_volume.specs.Steps.{IsEndedIn}
use Rattle.vr_volume.specs.Volume.{CanPutBack, IsInside}
use Rattle.vr_volume.proofs.Alone.{is-there}
use Rattle.vr_volume.proofs.Befores.{log-cases}
use Rattle.vr_volume.proofs.Begun.{begun, catalog_no, free-begun, image_begun, images-begun}
use Rattle.vr_volume.proofs.Begun.{laid-begun, live-begun, logged-begun, state_begun, uncommitted}
use Rattle.vr_volume.proofs.Calls.{equal-or}
use Rattle.vr_volume.proofs.Committing.{all-map, before-same, commit-append, images-back}
use Rattle.vr_volume.proofs.Committing.{shape-same}
use Rattle.vr_volume.proofs.Crashing.{before-recovers}
use Rattle.vr_volume.proofs.EndCalls.{IsIdle, IsLive}
use Rattle.vr_volume.proofs.Ending.{logged-end, logged-restart, none-left, none-live}
use Rattle.vr_volume.proofs.Endings.{safe-ended}
use Rattle.vr_volume.proofs.Entered.{are-over, bare-ended, free-over, images-are, item-else}
use Rattle.vr_volume.proofs.Entered.{item-here, laid-cases, laid-entered, logged-entered}
use Rattle.vr_volume.proofs.Entered.{other-entered, over-recovers, state_bare}
use Rattle.vr_volume.proofs.Images.{kept-append, oldest-append}
use Rattle.vr_volume.proofs.LogCalls.{log-after, log-guards, safe-fewer}
use Rattle.vr_volume.proofs.Meeting.{first-before, item-there}
use Rattle.vr_volume.proofs.Restarting.{no-images, safe-restarted}

some-none : {X : Type 0} {x : X} → Some x ≡ None → ⊥
some-none same = cc

none-some : {X : Type 0} {x : X} → None ≡ Some x → ⊥
none-some same = cc

-- ---- what is committed while the unit ends

-- with the commit of the unit what the new state has, and else what the old one has
abbrev pub committed_at : UnitOfRecovery → State → State → List LogRecord → ℕ → Content
committed_at unit old new records =
    cond (has_commit records unit) (committed_by new records) (committed_by old records)

committed-old : (unit : UnitOfRecovery) (old new : State) (records : List LogRecord)
    → has_commit records unit ≡ false
    → committed_at unit old new records ≡ committed_by old records
committed-old unit old new records is =
    ap (λ (b : Bool). cond b (committed_by new records) (committed_by old records)) is

committed-new : (unit : UnitOfRecovery) (old new : State) (records : List LogRecord)
    → has_commit records unit ≡ true → committed_at unit old new records ≡ committed_by new records
committed-new unit old new records is =
    ap (λ (b : Bool). cond b (committed_by new records) (committed_by old records)) is

-- A volume is safe by what is committed the same by each log that an image may have.
pub safe-told : (geometry : Geometry) (number : ℕ) (owners : Owners) (log : LogNow)
    (one other : List LogRecord → ℕ → Content) (now : Seen)
    → IsSafe geometry number owners log one now
    → ((content : LogContent) → IsLogOf log content → other content.records ≡ one content.records)
    → IsSafe geometry number owners log other now
safe-told geometry number owners log one other now safe same = record {
  allowed = safe.allowed;
  past = safe.past;
  blocks = safe.blocks;
  shape = safe.shape;
  header = safe.header;
  logs = safe.logs;
  by_log = λ content is. subst
      (λ (contents : ℕ → Content). IsSafeBy geometry owners content.records contents now)
      (sym (same content is)) (safe.by_log content is);
}

-- by all records that there are
pub by-whole : (geometry : Geometry) (number : ℕ) (owners : Owners) (log : LogNow)
    (committed : List LogRecord → ℕ → Content) (now : Seen) → log.forced ≡ length log.records
    → IsSafe geometry number owners log committed now
    → IsSafeBy geometry owners log.records (committed log.records) now
by-whole geometry number owners log committed now forced safe = subst
    (λ (records : List LogRecord). IsSafeBy geometry owners records (committed records) now)
    (take_all (length log.records) log.records (omega arith))
    (safe.by_log (first_of log (length log.records)) (inl (record {
      count = length log.records;
      forced = omega (arith, forced);
      all = omega arith;
      is = refl;
    })))

-- no length is kept for a part that no image is of
none-lengths : (part : ℕ) (images : List BeforeImage)
    → All (λ (image : BeforeImage). image.part ≢ part) images → lengths_kept images part ≡ []
none-lengths part images apart =
    ap (with_lengths []) (none images apart)
  where
    none : (those : List BeforeImage) → All (λ (image : BeforeImage). image.part ≢ part) those
        → filter_map (length_in part) those ≡ []
    none [] all = refl
    none (image ∷ those) all = by_part (image.part == part) refl
        (none those (All-tail (λ (i : BeforeImage). i.part ≢ part) image those all))
      where
        by_part : (mine : Bool) → (image.part == part) ≡ mine
            → filter_map (length_in part) those ≡ []
            → cons_option (length_in part image) (filter_map (length_in part) those) ≡ []
        by_part true is further = absurd
            (All-head (λ (i : BeforeImage). i.part ≢ part) image those all
            ((Decides-eqb image.part part).0 is))
        by_part false is further = ap (λ (b : Bool). cons_option
            (cond b (length_of image.place (option_and_then record_of image.old)) None)
            (filter_map (length_in part) those)) is ∙ further

-- ---- before the record is set

module _ (geometry : Geometry) (number : ℕ) (owners : Owners) (log : LogNow)
    (images : List BeforeImage) (old : State) (a : Seen) (unit : UnitOfRecovery) (shape : Shape)
    (place bytes : List ℕ)
    (rest : IsVolumeAtRest geometry number owners log images old a)
    (can : CanDefine geometry log unit shape place bytes old) where
  pub free-of : oldest (images_of log.records) 0 place ≡ None
  free-of = free-begun geometry old rest.laid log rest.logged unit place can.current can.idle
      can.unlogged

  -- the new part isn't the catalog
  pub not-catalog : (part_no shape).0 ≢ 0
  not-catalog zero-is =
      some-none (ap (shape_by geometry (old.contents 0)) (sym zero-is) ∙ can.fresh)

  -- The before-image is the committed item of its place,
  pub first-of : IsFirstBefore geometry log (committed_by old) unit catalog_no place None
  first-of = first-before geometry old rest.laid log rest.logged rest.forced unit catalog_no place
      None (catalog_shape geometry) can.current refl can.place_is free-of (sym can.absent)

  -- and the catalog is laid by a log with it, for which as much is kept.
  pub laid-first : (catalog : Shape) → shape_by geometry (old.contents 0) 0 ≡ Some catalog
      → (kept : Lengths) → kept ≡ lengths_kept images 0
      → IsLaidBy geometry (log.records ++ begun unit place ∷ []) (committed_by old) 0 catalog kept
  laid-first catalog is kept room = record {
    laid = shape-same geometry old rest.laid (log.records ++ begun unit place ∷ []) 0 ∙ is;
    kept_is = room ∙ ap (λ (those : List BeforeImage). lengths_kept those 0) rest.kept
        ∙ sym (ap (λ (those : List BeforeImage). lengths_kept those 0)
        (images-begun geometry old rest.laid log rest.logged unit place can.current can.idle
        can.unlogged (with_record log (begun unit place)) refl)
        ∙ kept-append (images_of log.records) (image_begun unit place) 0);
  }

  -- An image that is safe by the log with it recovers to what is committed.
  pub recovers-old : (image : Image)
      → IsSafeImage geometry number owners (with_record log (begun unit place)) (committed_by old)
      image → RecoversTo geometry number old [] image
  recovers-old = before-recovers geometry number owners log images old a rest unit catalog_no place
      None can.current (sym can.absent)

  -- ---- the parts that were laid

  by-log : IsSafeBy geometry owners log.records (committed_by old log.records) a
  by-log = by-whole geometry number owners log (committed_by old) a rest.forced rest.safe

  inside-old : (part : ℕ) (found : Shape)
      → shape_by geometry (old.contents 0) part ≡ Some found → IsInside geometry found
  inside-old part found is = by-log.committed.inside part found
      (shape-same geometry old rest.laid log.records part ∙ is)

  backs-old : All (CanPutBack (shape_by geometry (old.contents 0))) (images_of log.records)
  backs-old = images-back geometry old rest.laid log.records (images_of log.records)
      by-log.committed.images

  -- nothing is kept for the new part
  pub none-kept-new : lengths_kept (images_of log.records) (part_no shape).0 ≡ []
  none-kept-new = none-lengths (part_no shape).0 (images_of log.records)
      (all-map (CanPutBack (shape_by geometry (old.contents 0)))
      (λ (image : BeforeImage). image.part ≢ (part_no shape).0)
      (λ image back here. none-some (sym can.fresh
      ∙ ap (shape_by geometry (old.contents 0)) (sym here) ∙ back.laid))
      (images_of log.records) backs-old)

  -- ---- the end of the unit

  module _ (new : State) (need : ℕ) (made : IsDefinedIn unit place bytes need old new)
      (more : LogNow) (logged : IsLogged log (begun unit place) more) where
    abbrev over : List LogRecord
    over = ended more unit Committed

    abbrev told : List LogRecord → ℕ → Content
    told = committed_at unit old new

    told-more : told more.records ≡ committed_by old more.records
    told-more = committed-old unit old new more.records
        (uncommitted geometry old rest.laid log rest.logged unit place can.current can.idle
        can.unlogged more logged.records)

    told-over : told over ≡ committed_by new over
    told-over = committed-new unit old new over
        (commit-append more.records (End unit Committed) unit
        ∙ ap (λ (b : Bool). b || (same_unit unit unit && true))
        (uncommitted geometry old rest.laid log rest.logged unit place can.current can.idle
        can.unlogged more logged.records)
        ∙ ap (λ (b : Bool). b && true) (unit_self unit))

    told-old : (content : LogContent) → IsLogOf more content
        → told content.records ≡ committed_by old content.records
    told-old content is = subst
        (λ (records : List LogRecord). told records ≡ committed_by old records)
        (logged.records ∙ sym (logged.all content is)) told-more

    entered : IsLaidState geometry new
    entered = laid-entered geometry old new rest.laid log rest.logged rest.forced unit shape place
        bytes need can made

    over-images : images_of over ≡ images_of log.records
    over-images = images-are geometry old new rest.laid log rest.logged rest.forced unit shape place
        bytes need can made more logged.records

    -- a part that is laid with the end is laid by the new state
    laid-new : (part : ℕ) (found : Shape)
        → shape_by geometry (told over 0) part ≡ Some found
        → shape_by geometry (new.contents 0) part ≡ Some found
    laid-new part found is = sym (shape-same geometry new entered over part)
        ∙ sym (ap (λ (contents : ℕ → Content). shape_by geometry (contents 0) part) told-over) ∙ is

    -- nothing is committed in the new part
    pub nothing-new : (at : List ℕ) → item_at (new.contents (part_no shape).0) at ≡ None
    nothing-new at = ap (λ (content : Content). item_at content at)
        (other-entered geometry old new rest.laid log rest.logged rest.forced unit shape place bytes
        need can made (part_no shape).0 not-catalog
        ∙ rest.laid.others (part_no shape).0 can.fresh)

    free-told : (part : ℕ) (at : List ℕ) → oldest (images_of log.records) part at ≡ None
        → item_at (told over part) at ≡ item_at (new.contents part) at
    free-told part at none = ap (λ (contents : ℕ → Content). item_at (contents part) at) told-over
        ∙ free-over geometry old new rest.laid log rest.logged rest.forced unit shape place bytes
        need can made more logged.records part at none

    module _ (d : Seen) (safe : IsSafe geometry number owners more (committed_by old) d) where
      by-more : IsSafeBy geometry owners more.records (committed_by old more.records) d
      by-more = by-whole geometry number owners more (committed_by old) d logged.forced safe

      -- whatever a crash leaves of another place without an image is what stands there
      pub held-else : (part : ℕ) (found : Shape)
          → shape_by geometry (old.contents 0) part ≡ Some found → (at : List ℕ)
          (item : Option Item) → MayHold found d.may at item
          → oldest (images_of log.records) part at ≡ None → (part ≡ 0 → at ≡ place → ⊥)
          → item ≡ item_at (new.contents part) at
      held-else part found is at item held none apart =
          (by-more.parts part found
          (shape-same geometry old rest.laid more.records part ∙ is)).items at item held free-more
          ∙ ap (λ (records : List LogRecord). item_at (committed_by old records part) at)
          logged.records
          ∙ ap (λ (contents : ℕ → Content). item_at (contents part) at)
          (before-same old log.records unit catalog_no place None)
          ∙ item-there geometry old rest.laid log rest.logged rest.forced part at none
          ∙ sym (item-else geometry old new rest.laid log rest.logged rest.forced unit shape place
          bytes need can made part at apart)
        where
          by_here : (here : Bool) → is_image_of part at (image_begun unit place) ≡ here
              → cond here (Some (image_begun unit place)) None ≡ None
          by_here true here =
              let there = is-there part at (image_begun unit place) here in
              absurd (apart (sym there.0) there.1)
          by_here false here = refl

          free-more : oldest (images_of more.records) part at ≡ None
          free-more = ap (λ (those : List BeforeImage). oldest those part at)
              (images-begun geometry old rest.laid log rest.logged unit place can.current can.idle
              can.unlogged more logged.records)
              ∙ oldest-append (images_of log.records) (image_begun unit place) part at
              ∙ ap (λ (first : Option BeforeImage). option_or first
              (cond (is_image_of part at (image_begun unit place)) (Some (image_begun unit place))
              None)) none
              ∙ by_here (is_image_of part at (image_begun unit place)) refl

      module _ (known : Known)
          (firm : (item : Option Item) → MayHold (catalog_shape geometry) d.may place item
          → item ≡ Some (Standing bytes))
          (part-new : IsPartAtRest geometry owners images new shape known d) where
        -- the new part is safe,
        safe-part : IsPartSafe shape owners (part_no shape).0 (images_of over)
            (told over (part_no shape).0) d
        safe-part = record {
          sound = rest-sound shape owners d part-new.rests;
          items = λ at item held none.
              let none-there : oldest (images_of log.records) (part_no shape).0 at ≡ None =
              ap (λ (those : List BeforeImage). oldest those (part_no shape).0 at)
              (sym over-images) ∙ none in
              part-new.firm at item
              (ap (λ (those : List BeforeImage). oldest those (part_no shape).0 at) rest.kept
              ∙ none-there) held
              ∙ sym (free-told (part_no shape).0 at none-there);
          room = subst (λ (lengths : Lengths). HasKeptRoom shape lengths d)
              (ap (λ (those : List BeforeImage). lengths_kept those (part_no shape).0)
              (rest.kept ∙ sym over-images)) part-new.room;
        }

        -- the catalog has the record at its place, and each other part what it had
        items-over : (part : ℕ) (found : Shape)
            → shape_by geometry (new.contents 0) part ≡ Some found → (at : List ℕ)
            (item : Option Item) → MayHold found d.may at item
            → IsItemOf part (images_of over) (told over part) at item
        items-over part found is at item held none = ⊎_elim
            (λ here. subst (λ (p : ℕ). oldest (images_of over) p at ≡ None
            → item ≡ item_at (told over p) at) (sym here.0)
            (safe-part.items at item (subst (λ (s : Shape). MayHold s d.may at item) here.1 held))
            none)
            (λ other. by_place other.1 (equal-or part 0) (bytes_eq at place) refl)
            (laid-cases geometry old new rest.laid log rest.logged rest.forced unit shape place
            bytes need can made part found is)
          where
            none-there : oldest (images_of log.records) part at ≡ None
            none-there = ap (λ (those : List BeforeImage). oldest those part at) (sym over-images)
                ∙ none

            some-same : (one other : Shape) → Some one ≡ Some other → one ≡ other
            some-same one other same = cc

            at-record : shape_by geometry (old.contents 0) part ≡ Some found → part ≡ 0
                → at ≡ place → item ≡ item_at (told over part) at
            at-record laid zero-is there =
                let it : found ≡ catalog_shape geometry = some-same found (catalog_shape geometry)
                (sym laid ∙ ap (shape_by geometry (old.contents 0)) zero-is) in
                firm item (subst (λ (s : Shape). MayHold s d.may place item) it
                (subst (λ (q : List ℕ). MayHold found d.may q item) there held))
                ∙ sym (item-here geometry old new rest.laid log rest.logged rest.forced unit shape
                place bytes need can made)
                ∙ ap (λ (p : ℕ). item_at (new.contents p) place) (sym zero-is)
                ∙ ap (item_at (new.contents part)) (sym there)
                ∙ sym (free-told part at none-there)

            elsewhere : shape_by geometry (old.contents 0) part ≡ Some found
                → (part ≡ 0 → at ≡ place → ⊥) → item ≡ item_at (told over part) at
            elsewhere laid apart = held-else part found laid at item held none-there apart
                ∙ sym (free-told part at none-there)

            by_place : shape_by geometry (old.contents 0) part ≡ Some found
                → (part ≡ 0) ⊎ (part ≢ 0) → (same : Bool) → bytes_eq at place ≡ same
                → item ≡ item_at (told over part) at
            by_place laid (inr other) same there = elsewhere laid
                (λ zero at-place. other zero)
            by_place laid (inl zero-is) true there =
                at-record laid zero-is ((bytes_eq-Decides at place).0 there)
            by_place laid (inl zero-is) false there = elsewhere laid
                (λ zero at-place. true≢false
                (sym ((bytes_eq-Decides at place).1 at-place) ∙ there))

        -- So the unit may end.
        end-of : IsEndOf geometry owners more told unit Committed d
        end-of = record {
          forced = omega (arith, logged.forced);
          contents = subst (AreCommitted geometry over) (sym told-over)
              (are-over geometry old new rest.laid log rest.logged rest.forced unit shape place
              bytes need can made more logged.records inside-old backs-old);
          laid = λ part found is. ⊎_elim
              (λ here. inr (subst (λ (p : ℕ). IsPartSafe found owners p (images_of over)
              (told over p) d) (sym here.0)
              (subst (λ (s : Shape). IsPartSafe s owners (part_no shape).0 (images_of over)
              (told over (part_no shape).0) d) (sym here.1) safe-part)))
              (λ other. inl (ap (λ (contents : ℕ → Content). shape_by geometry (contents 0) part)
              told-more ∙ shape-same geometry old rest.laid more.records part ∙ other.1))
              (laid-cases geometry old new rest.laid log rest.logged rest.forced unit shape place
              bytes need can made part found (laid-new part found is));
          items = λ part found is. items-over part found (laid-new part found is);
        }

        safe-end : IsSafe geometry number owners (with_record more (End unit Committed)) told d
        safe-end = safe-ended geometry number owners more told d unit Committed
            (safe-told geometry number owners more (committed_by old) told d safe told-old) end-of

        -- ---- while the end is logged

        module _ (b : Seen)
            (call : Touches (InLog more.geometry)
            (HasLog (with_record more (End unit Committed))) d b) where
          log-call : Touches (InLog geometry) (HasLog (with_record more (End unit Committed))) d b
          log-call = subst (λ (g : Geometry). Touches (InLog g)
              (HasLog (with_record more (End unit Committed))) d b)
              (logged.geometry ∙ rest.safe.shape) call

          -- each image recovers to what was committed, or to what is committed with the record
          pub end-recovers : Guards d b (λ image. RecoversTo geometry number old [] image
              ⊎ RecoversTo geometry number new [] image)
          end-recovers = guards-weaken d b
              (IsSafeImage geometry number owners (with_record more (End unit Committed)) told)
              (λ image. RecoversTo geometry number old [] image
              ⊎ RecoversTo geometry number new [] image)
              (log-guards geometry number owners told (with_record more (End unit Committed)) d b
              safe-end log-call)
              (λ image has. ⊎_elim
              (λ own. inl (recovers-old image (
                has.0,
                logged.less has.0 own,
                subst (λ (contents : ℕ → Content).
                    IsImageSafe geometry number owners has.0 contents image)
                    (told-old has.0 own) has.2,
              )))
              (λ all. inr (over-recovers geometry old new rest.laid log rest.logged rest.forced unit
              shape place bytes need can made more logged.records number owners image has.0
              (ap (λ (c : LogContent). c.records) all)
              (subst (λ (contents : ℕ → Content).
              IsImageSafe geometry number owners has.0 contents image)
              (subst (λ (records : List LogRecord). told records ≡ committed_by new records)
              (sym (ap (λ (c : LogContent). c.records) all)) told-over) has.2)))
              (log-cases more (End unit Committed) has.0 has.1))

          -- ---- once it is there

          module _ (last : LogNow) (last-logged : IsLogged more (End unit Committed) last)
              (end : IsEndForced more unit Committed last) (stands : LogStands last b) where
            safe-new : IsSafe geometry number owners last (committed_by new) b
            safe-new = safe-told geometry number owners last told (committed_by new) b
                (safe-fewer geometry number owners told (with_record more (End unit Committed)) last
                b
                (log-after geometry number owners told (with_record more (End unit Committed)) d b
                safe-end log-call)
                (end.geometry ∙ logged.geometry ∙ rest.safe.shape) last-logged.less stands)
                (λ content is. sym (subst
                (λ (records : List LogRecord). told records ≡ committed_by new records)
                (sym (last-logged.all content is)) told-over))

            images-new : images ≡ images_of last.records
            images-new = rest.kept ∙ sym over-images ∙ ap images_of (sym end.records)

            free-last : oldest (images_of last.records) 0 place ≡ None
            free-last = ap (λ (those : List BeforeImage). oldest those 0 place)
                (sym images-new ∙ rest.kept) ∙ free-of

            module _ (needs : need ≡ need_of (live_in log.records) (begun unit place)) where
              abbrev mid : State
              mid = state_begun old unit place need

              laid-mid : IsLaidState geometry mid
              laid-mid = laid-begun geometry old rest.laid log rest.logged unit place can.current
                  can.idle can.unlogged more logged.records need needs can.absent

              logged-mid : HasLogged more mid
              logged-mid = logged-begun geometry old rest.laid log rest.logged unit place
                  can.current can.idle can.unlogged more logged.records need needs can.absent

              bare : IsEndedIn unit mid (state_bare old new)
              bare = bare-ended geometry old new rest.laid log rest.logged rest.forced unit shape
                  place bytes need can made

              -- where a unit is live still, the volume rests by this log,
              rests-live : (first : Logged) (further : List Logged) → new.logged ≡ first ∷ further
                  → IsVolumeAtRest geometry number owners last images new b
              rests-live first further some = record {
                safe = safe-new;
                stands = stands;
                sound = end.sound;
                forced = end.forced;
                laid = entered;
                logged = logged-entered geometry old new rest.laid log rest.logged rest.forced unit
                    shape place bytes need can made last free-last
                    (logged-end geometry mid (state_bare old new) laid-mid more logged-mid unit
                    Committed can.current bare logged.forced last end.records first further some
                    (ap (λ (records : List LogRecord). is_in unit (live_in records)) logged.records
                    ∙ live-begun log.records unit catalog_no place None));
                kept = images-new;
              }

              -- and where none is, by one that has begun again
              none-on : new.logged ≡ [] → live_in last.records ≡ []
              none-on empty = none-live geometry mid (state_bare old new) laid-mid more logged-mid
                  unit Committed can.current bare logged.forced last end.records empty

              left-on : new.logged ≡ [] → new.befores ≡ []
              left-on empty = none-left geometry mid (state_bare old new) laid-mid more logged-mid
                  unit Committed can.current bare logged.forced last end.records empty

              same-none : new.befores ≡ [] → committed_by new [] ≡ committed_by new last.records
              same-none gone = ap (by []) gone ∙ sym (ap (by last.records) gone)
                where
                  by : List LogRecord → List BeforeImage → ℕ → Content
                  by records befores part =
                      put_back part (kept_by records befores) (new.contents part)

              rests-begun : new.logged ≡ [] → log.generation + 1 < 2 ^ 63
                  → more.generation ≡ log.generation
                  → IsVolumeAtRest geometry number owners (restarted last) images new b
              rests-begun empty below still =
                  let next : LogStands (restarted last) b =
                  restarted_stands last b stands end.forced (none-on empty)
                  (subst (λ (n : ℕ). n + 1 < 2 ^ 63) (sym (end.generation ∙ still)) below) in
                  record {
                    safe = safe-restarted geometry number owners last (committed_by new) b safe-new
                        end.forced (none-on empty) (same-none (left-on empty))
                        (end.geometry ∙ logged.geometry ∙ rest.safe.shape) next;
                    stands = next;
                    sound = end.sound;
                    forced = refl;
                    laid = entered;
                    logged = logged-entered geometry old new rest.laid log rest.logged rest.forced
                        unit shape place bytes need can made (restarted last) refl
                        (logged-restart geometry mid (state_bare old new) laid-mid more logged-mid
                        unit Committed can.current bare (restarted last) refl empty
                        (left-on empty));
                    kept = images-new ∙ no-images last.records (none-on empty);
                  }

              -- Once the unit has ended the volume rests by the new state.
              pub rests-defined : (after : LogNow) → log.generation + 1 < 2 ^ 63
                  → more.generation ≡ log.generation → IsIdle last after → IsLive last after
                  → IsVolumeAtRest geometry number owners after images new b
              rests-defined after below still idle live = by_logged new.logged refl
                where
                  none-cons : {X : Type 0} {x : X} {xs : List X} → [] ≡ x ∷ xs → ⊥
                  none-cons same = cc

                  by_logged : (ls : List Logged) → new.logged ≡ ls
                      → IsVolumeAtRest geometry number owners after images new b
                  by_logged [] empty =
                      subst (λ (l : LogNow). IsVolumeAtRest geometry number owners l images new b)
                      (sym (idle (none-on empty))) (rests-begun empty below still)
                  by_logged (first ∷ further) some =
                      let rests : IsVolumeAtRest geometry number owners last images new b =
                      rests-live first further some in
                      subst (λ (l : LogNow). IsVolumeAtRest geometry number owners l images new b)
                      (sym (live (λ gone. none-cons
                      (sym (ap (map logged_of) (no-images last.records gone))
                      ∙ rests.logged.logged ∙ some))))
                      rests
