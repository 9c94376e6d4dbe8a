-- The end of the unit that added, replaced or took away several records of the catalog: while it is
-- logged each image recovers to what was committed, or to what is committed with all of the changes,
-- and then the volume is at rest by the new state.
use Rattle.std.proofs.Common.{◌⊎◌, ◌≡◌, ◌≢◌, inl, inr, ⊎_elim, ◌<◌, ◌+◌, ◌^◌, ℕ, Bool, false}
use Rattle.std.proofs.Common.{cond, List, [], ◌∷◌, ◌++◌, Option, Some, None, refl, sym, ap, subst}
use Rattle.std.proofs.Common.{◌∙◌, arith}
use Rattle.std.specs.Prelude.{All}
use Rattle.std.specs.Option.{option_map}
use Rattle.std.proofs.lemmas.List.Elements.{All-nil}
use Rattle.vr_types.specs.Content.{Content, Item, Standing, item_at}
use Rattle.vr_types.specs.Image.{Image}
use Rattle.vr_types.specs.Moments.{Guards}
use Rattle.vr_types.specs.Regions.{Touches}
use Rattle.vr_types.specs.Seen.{Seen}
use Rattle.vr_types.specs.declared.geometry.Geometry.{Geometry}
use Rattle.vr_types.specs.declared.unit.Unit.{Unit as UnitOfRecovery}
use Rattle.vr_types.proofs.CallerLemmas.{guards-weaken}
use Rattle.vr_space.specs.Owners.{Owners}
use Rattle.vr_space.specs.Part.{MayHold, Shape}
use Rattle.vr_log.specs.Content.{Content as LogContent}
use Rattle.vr_log.specs.Live.{live_in}
use Rattle.vr_log.specs.LogNow.{HasLog, IsLogOf, LogNow, restarted, with_record}
use Rattle.vr_log.specs.Standing.{InLog, LogStands}
use Rattle.vr_log.specs.declared.record.EndKind.TheVariants.{Committed}
use Rattle.vr_log.specs.declared.record.LogRecord.{LogRecord}
use Rattle.vr_log.specs.declared.record.LogRecord.TheVariants.{End}
use Rattle.vr_log.proofs.CallerLemmas.{restarted_stands}
use Rattle.vr_history.specs.State.{BeforeImage, State}
use Rattle.vr_volume.specs.Committed.{committed_by, has_commit}
use Rattle.vr_volume.specs.Crashes.{RecoversTo, committed_with, kept_but}
use Rattle.vr_volume.specs.Ended.{IsEndOf, ended}
use Rattle.vr_volume.specs.EndedLog.{IsEndForced}
use Rattle.vr_volume.specs.EntryChanges.{AreEntriesChanged, CanChangeEntries, MissAll}
use Rattle.vr_volume.specs.Laid.{catalog_shape, shape_by}
use Rattle.vr_volume.specs.Laying.{AreLogged, IsLogged}
use Rattle.vr_volume.specs.PutBack.{AreAlone, images_of, oldest, put_back, standing}
use Rattle.vr_volume.specs.Rests.{IsVolumeAtRest}
use Rattle.vr_volume.specs.Safe.{AreCommitted, IsImageSafe, IsSafe, IsSafeBy}
use Rattle.vr_volume.specs.Safe.{IsSafeImage}
use Rattle.vr_volume.specs.Volume.{CanPutBack, IsInside}
use Rattle.vr_volume.specs.declared.setting.EntryChange.{EntryChange}
use Rattle.vr_volume.proofs.Befores.{log-cases}
use Rattle.vr_volume.proofs.Calls.{equal-or}
use Rattle.vr_volume.proofs.Committing.{shape-same}
use Rattle.vr_volume.proofs.Crashing.{HasWithdrawn, recovers-to}
use Rattle.vr_volume.proofs.Defined.{by-whole, safe-told}
use Rattle.vr_volume.proofs.EndCalls.{IsIdle}
use Rattle.vr_volume.proofs.Endings.{safe-ended}
use Rattle.vr_volume.proofs.EntriesChanged.{committed-new, item-else, item-here, laid-was, logged-new}
use Rattle.vr_volume.proofs.EntriesChanged.{state-changed}
use Rattle.vr_volume.proofs.AllSet.{all-both}
use Rattle.vr_volume.proofs.EntriesIdle.{all-of, entries-recover, images-more, more-are}
use Rattle.vr_volume.proofs.EntriesLogged.{commit-last, commit-none, images-ended, live-ended}
use Rattle.vr_volume.proofs.EntriesLogged.{logs, oldest-misses}
use Rattle.vr_volume.proofs.EntriesPlaced.{by-among}
use Rattle.vr_volume.proofs.EntryIdle.{committed-idle}
use Rattle.vr_volume.proofs.LogCalls.{log-after, log-guards, safe-fewer}
use Rattle.vr_volume.proofs.Recovering.{image_recovers}
use Rattle.vr_volume.proofs.Restarting.{safe-restarted}

none-some : {X : Type 0} {x : X} → None ≡ Some x → ⊥
none-some same = cc

some-same : (one other : Shape) → Some one ≡ Some other → one ≡ other
some-same one other same = cc

-- what an image recovers to: what was committed, or what is committed with all of the changes
abbrev pub Either : Geometry → ℕ → State → State → Image → Type 0
Either geometry number old new image = RecoversTo geometry number old [] image
    ⊎ RecoversTo geometry number new [] image

module _ {geometry : Geometry} {number : ℕ} {owners : Owners} {log : LogNow}
    {images : List BeforeImage} {old new : State} {a : Seen} {unit : UnitOfRecovery}
    {changes : List EntryChange} {gone : Option ℕ}
    (rest : IsVolumeAtRest geometry number owners log images old a)
    (can : CanChangeEntries geometry log unit changes gone old)
    (made : AreEntriesChanged unit changes gone old new) {more : LogNow}
    (logged : AreLogged log (logs unit changes) more) (some : changes ≢ []) where
  abbrev over : List LogRecord
  over = ended more unit Committed

  -- ---- what is committed while the unit ends

  -- with the commit of the unit what the new state has, and else what the old one has
  abbrev told : List LogRecord → ℕ → Content
  told records = cond (has_commit records unit) new.contents old.contents

  over-are : over ≡ logs unit changes ++ End unit Committed ∷ []
  over-are = ap (λ (records : List LogRecord). records ++ End unit Committed ∷ [])
      (more-are rest can logged some)

  told-more : told more.records ≡ old.contents
  told-more = ap told (more-are rest can logged some)
      ∙ ap (λ (b : Bool). cond b new.contents old.contents) (commit-none unit changes)

  told-over : told over ≡ new.contents
  told-over = ap told over-are
      ∙ ap (λ (b : Bool). cond b new.contents old.contents) (commit-last unit changes)

  over-images : images_of over ≡ []
  over-images = ap images_of over-are ∙ images-ended unit changes

  -- by each log that an image may have before the end it is what was committed
  told-old : (content : LogContent) → IsLogOf more content
      → told content.records ≡ committed_by old content.records
  told-old content is =
      ap told (all-of rest can logged some content is) ∙ told-more
      ∙ sym (committed-idle rest can.idle content.records)

  -- ---- what a crash may leave

  inside-old : (part : ℕ) (found : Shape)
      → shape_by geometry (old.contents 0) part ≡ Some found → IsInside geometry found
  inside-old part found is =
      let by-log : IsSafeBy geometry owners log.records (committed_by old log.records) a =
      by-whole geometry number owners log (committed_by old) a rest.forced rest.safe in
      by-log.committed.inside part found
      (shape-same geometry old rest.laid log.records part ∙ is)

  -- with the end the contents are committed ones
  are-changed : AreCommitted geometry over new.contents
  are-changed = record {
    each = laid.each;
    catalog = laid.catalog;
    inside = λ part found is.
        inside-old part found (laid-was rest.laid can made part found is).1;
    others = laid.others;
    images = subst (All (CanPutBack (shape_by geometry (new.contents 0)))) (sym over-images)
        (All-nil (CanPutBack (shape_by geometry (new.contents 0))));
    alone = subst AreAlone (sym over-images) tt;
    olds = λ part at image is. absurd (none-some (
        sym (ap (λ (those : List BeforeImage). oldest those part at) over-images) ∙ is));
  }
    where
      laid : Rattle.vr_volume.specs.Committed.IsLaidState geometry new
      laid = state-changed rest.laid can made

  module _ {d : Seen} (safe : IsSafe geometry number owners more (committed_by old) d) where
    by-more : IsSafeBy geometry owners more.records (committed_by old more.records) d
    by-more = by-whole geometry number owners more (committed_by old) d logged.forced safe

    -- whatever a crash leaves of another place is what stood there
    pub held-else : (part : ℕ) (found : Shape)
        → shape_by geometry (old.contents 0) part ≡ Some found → (at : List ℕ)
        (item : Option Item) → MayHold found d.may at item → (part ≡ 0 → MissAll at changes)
        → item ≡ item_at (old.contents part) at
    held-else part found is at item held misses =
        (by-more.parts part found
        (shape-same geometry old rest.laid more.records part ∙ is)).items at item held
        (ap (λ (those : List BeforeImage). oldest those part at)
        (images-more rest can logged some) ∙ oldest-misses unit part at changes misses)
        ∙ ap (λ (contents : ℕ → Content). item_at (contents part) at)
        (committed-idle rest can.idle more.records)

    module _ (firm : All (λ (change : EntryChange). (item : Option Item)
        → MayHold (catalog_shape geometry) d.may change.place item
        → item ≡ option_map Standing change.bytes) changes) where
      -- each part that is laid then has what the new state has
      items-over : (part : ℕ) (found : Shape)
          → shape_by geometry (new.contents 0) part ≡ Some found → (at : List ℕ)
          (item : Option Item) → MayHold found d.may at item
          → item ≡ item_at (new.contents part) at
      items-over part found is at item held = ⊎_elim
          (λ zero-is. by-among Both (item ≡ item_at (new.contents part) at) at changes
          (all-both Firm Given changes firm (item-here rest.laid can made))
          (λ change both there. at-record zero-is change both there)
          (λ misses. elsewhere (λ zero. misses)))
          (λ other. elsewhere (λ zero. absurd (other zero))) (equal-or part 0)
        where
          Firm : EntryChange → Type 0
          Firm change = (one : Option Item) → MayHold (catalog_shape geometry) d.may change.place one
              → one ≡ option_map Standing change.bytes

          Given : EntryChange → Type 0
          Given change = item_at (new.contents 0) change.place ≡ option_map Standing change.bytes

          Both : EntryChange → Type 0
          Both change = Firm change × Given change

          was : (Rattle.vr_volume.specs.EntryChange.is_gone gone part ≡ false)
              × (shape_by geometry (old.contents 0) part ≡ Some found)
          was = laid-was rest.laid can made part found is

          elsewhere : (part ≡ 0 → MissAll at changes) → item ≡ item_at (new.contents part) at
          elsewhere misses = held-else part found was.1 at item held misses
              ∙ sym (item-else rest.laid can made part at was.0 misses)

          at-record : part ≡ 0 → (change : EntryChange) → Both change → at ≡ change.place
              → item ≡ item_at (new.contents part) at
          at-record zero-is change both there =
              let it : found ≡ catalog_shape geometry = some-same found (catalog_shape geometry)
              (sym was.1 ∙ ap (shape_by geometry (old.contents 0)) zero-is) in
              both.0 item (subst (λ (s : Shape). MayHold s d.may change.place item) it
              (subst (λ (q : List ℕ). MayHold found d.may q item) there held))
              ∙ sym both.1
              ∙ ap (λ (p : ℕ). item_at (new.contents p) change.place) (sym zero-is)
              ∙ ap (item_at (new.contents part)) (sym there)

      -- a part that is laid with the end is laid by the new state
      laid-over : (part : ℕ) (found : Shape) → shape_by geometry (told over 0) part ≡ Some found
          → shape_by geometry (new.contents 0) part ≡ Some found
      laid-over part found is = sym (ap (λ (contents : ℕ → Content).
          shape_by geometry (contents 0) part) told-over) ∙ is

      -- So the unit may end.
      end-of : IsEndOf geometry owners more told unit Committed d
      end-of = record {
        forced = omega (arith, logged.forced);
        contents = subst (AreCommitted geometry over) (sym told-over) are-changed;
        laid = λ part found is. inl (ap (λ (contents : ℕ → Content).
            shape_by geometry (contents 0) part) told-more
            ∙ (laid-was rest.laid can made part found (laid-over part found is)).1);
        items = λ part found is at item held none.
            items-over part found (laid-over part found is) at item held
            ∙ sym (ap (λ (contents : ℕ → Content). item_at (contents part) at) told-over);
      }

      safe-end : IsSafe geometry number owners (with_record more (End unit Committed)) told d
      safe-end = safe-ended geometry number owners more told d unit Committed
          (safe-told geometry number owners more (committed_by old) told d safe told-old) end-of

      -- ---- an image that has the end

      records-over : (part : ℕ) → standing (new.contents part) ≡ committed_with [] new part
      records-over part = sym (ap (λ (befores : List BeforeImage).
          put_back part (kept_but [] befores) (standing (new.contents part))) made.befores)

      withdrawn-over : (records : List LogRecord) → records ≡ over
          → HasWithdrawn new records new.contents
      withdrawn-over records is part at n unlogged item = (
        ap (λ (those : List LogRecord). oldest (images_of those) part at) is
            ∙ ap (λ (those : List BeforeImage). oldest those part at) over-images,
        item,
      )

      -- It recovers to what is committed in the new state.
      over-recovers : (image : Image) (content : LogContent) → content.records ≡ over
          → IsImageSafe geometry number owners content new.contents image
          → RecoversTo geometry number new [] image
      over-recovers image content is safe-image =
          recovers-to geometry number image content new.contents new []
          (image_recovers geometry number owners image content new.contents safe-image)
          records-over (withdrawn-over content.records is)

      -- ---- while the end is logged

      module _ {b : Seen}
          (call : Touches (InLog more.geometry)
          (HasLog (with_record more (End unit Committed))) d b)
        where
          log-call : Touches (InLog geometry) (HasLog (with_record more (End unit Committed))) d b
          log-call = subst (λ (g : Geometry). Touches (InLog g)
              (HasLog (with_record more (End unit Committed))) d b)
              (logged.geometry ∙ rest.safe.shape) call

          -- an image that is safe then recovers to one of both
          end-image : (image : Image)
              → IsSafeImage geometry number owners (with_record more (End unit Committed)) told
              image → Either geometry number old new image
          end-image image has = ⊎_elim
              (λ own. inl (entries-recover rest can image (
                has.0,
                logged.less has.0 own,
                subst (λ (contents : ℕ → Content).
                    IsImageSafe geometry number owners has.0 contents image)
                    (told-old has.0 own) has.2,
              )))
              (λ all.
              let is : has.0.records ≡ over = ap (λ (c : LogContent). c.records) all in
              inr (over-recovers image has.0 is
              (subst (λ (contents : ℕ → Content).
              IsImageSafe geometry number owners has.0 contents image)
              (ap told is ∙ told-over) has.2)))
              (log-cases more (End unit Committed) has.0 has.1)

          pub end-guards : Guards d b (Either geometry number old new)
          end-guards = guards-weaken d b
              (IsSafeImage geometry number owners (with_record more (End unit Committed)) told)
              (Either geometry number old new)
              (log-guards geometry number owners told (with_record more (End unit Committed)) d b
              safe-end log-call)
              end-image

          -- ---- once it is there

          module _ {last : LogNow} (last-logged : IsLogged more (End unit Committed) last)
              (end : IsEndForced more unit Committed last) (stands : LogStands last b) where
            safe-new : IsSafe geometry number owners last (committed_by new) b
            safe-new = safe-told geometry number owners last told (committed_by new) b
                (safe-fewer geometry number owners told (with_record more (End unit Committed)) last
                b (log-after geometry number owners told (with_record more (End unit Committed)) d b
                safe-end log-call)
                (end.geometry ∙ logged.geometry ∙ rest.safe.shape) last-logged.less stands)
                (λ content is. committed-new rest.laid can made content.records
                ∙ sym (ap told (last-logged.all content is) ∙ told-over))

            none-on : live_in last.records ≡ []
            none-on = ap live_in (end.records ∙ over-are) ∙ live-ended unit changes

            rests-begun : log.generation + 1 < 2 ^ 63 → more.generation ≡ log.generation
                → IsVolumeAtRest geometry number owners (restarted last) [] new b
            rests-begun below still =
                let next : LogStands (restarted last) b =
                restarted_stands last b stands end.forced none-on
                (subst (λ (n : ℕ). n + 1 < 2 ^ 63) (sym (end.generation ∙ still)) below) in
                record {
                  safe = safe-restarted geometry number owners last (committed_by new) b safe-new
                      end.forced none-on
                      (committed-new rest.laid can made []
                      ∙ sym (committed-new rest.laid can made last.records))
                      (end.geometry ∙ logged.geometry ∙ rest.safe.shape) next;
                  stands = next;
                  sound = end.sound;
                  forced = refl;
                  laid = state-changed rest.laid can made;
                  logged = logged-new rest.laid can made (restarted last) refl;
                  kept = refl;
                }

            -- Once the unit has ended the volume rests by the new state.
            pub rests-changed : (after : LogNow) → log.generation + 1 < 2 ^ 63
                → more.generation ≡ log.generation → IsIdle last after
                → IsVolumeAtRest geometry number owners after [] new b
            rests-changed after below still idle =
                subst (λ (l : LogNow). IsVolumeAtRest geometry number owners l [] new b)
                (sym (idle none-on)) (rests-begun below still)
