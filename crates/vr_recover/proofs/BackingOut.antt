-- What the end of a unit leaves of a volume whose before-images are all put back.
use Rattle.std.proofs.Common.{◌≡◌, ◌⊎◌, ⊎_elim, ◌≤◌, ◌<◌, inl, inr, cond, ℕ, Bool, true, false, List, []}
use Rattle.std.proofs.Common.{◌∷◌, ◌++◌, ◌+◌, None, Some, take}
use Rattle.std.proofs.Common.{refl, sym, ap, subst, ◌∙◌, arith, length, ◌&&◌, ◌||◌, not}
use Rattle.std.specs.Prelude.{All, filter}
use Rattle.std.proofs.lemmas.Bool.{cases_lt, true≢false}
use Rattle.std.proofs.lemmas.List.{length-append, take-append-le, take_all}
use Rattle.std.proofs.lemmas.List.Elements.{All-filter, All-head, All-tail}
use Rattle.vr_types.specs.Content.{Content}
use Rattle.vr_types.specs.Image.{Block, Image}
use Rattle.vr_types.specs.Locks.{same_unit}
use Rattle.vr_types.specs.Regions.{Outside}
use Rattle.vr_types.specs.Seen.{Left, Seen}
use Rattle.vr_types.specs.declared.geometry.Geometry.{Geometry}
use Rattle.vr_types.specs.declared.unit.Unit.{Unit as UnitOfRecovery}
use Rattle.vr_space.specs.Owners.{Owners}
use Rattle.vr_space.specs.Part.{part_no}
use Rattle.vr_space.proofs.CallerLemmas.{holds-less}
use Rattle.vr_history.proofs.CallerLemmas.{unit_self}
use Rattle.vr_history.proofs.Same.{unit_same}
use Rattle.vr_history.specs.Effects.{is_other}
use Rattle.vr_history.specs.State.{BeforeImage}
use Rattle.vr_log.specs.Live.{is_in, live_after, live_from, live_in, without}
use Rattle.vr_log.specs.Content.{Content as LogContent}
use Rattle.vr_log.specs.LogNow.{IsAppended, IsPrefixOf, LogNow, first_of, with_record}
use Rattle.vr_log.specs.Standing.{InLog}
use Rattle.vr_log.specs.declared.record.EndKind.{EndKind}
use Rattle.vr_log.specs.declared.record.LogRecord.{LogRecord}
use Rattle.vr_log.specs.declared.record.LogRecord.TheVariants.{Before, End}
use Rattle.vr_volume.specs.Ended.{IsEndOf, ended}
use Rattle.vr_volume.specs.Laid.{shape_by}
use Rattle.vr_volume.specs.PutBack.{AreAlone, images_of, is_image_of, oldest}
use Rattle.vr_recover.specs.Recovered.{KeepsAll}
use Rattle.vr_volume.specs.Safe.{AreCommitted, IsSafeBy, IsSafeImage}
use Rattle.vr_volume.specs.Volume.{CanPutBack}
use Rattle.vr_volume.proofs.Endings.{in-without as in-fewer}
use Rattle.vr_volume.proofs.Images.{live-append}
use Rattle.vr_volume.proofs.Living.{in-without, left-images, live-once}
use Rattle.vr_volume.proofs.Meeting.{alone-filter, filter-alone, find-none}
use Rattle.vr_volume.proofs.Recovering.{each_image_is_safe, image_recovers}
use Rattle.vr_recover.specs.Undone.{HasAll, HasAllRecords, HasFewer, IsBeforeOf, IsOut, IsUndone}
use Rattle.vr_recover.specs.Undone.{alike}

-- A safe image keeps the contents, where they are committed whatever the log has, and no log has
-- more before-images than these.
pub safe-keeps : (geometry : Geometry) (number : ℕ) (owners : Owners) (log : LogNow)
    (images : List BeforeImage) (contents : ℕ → Content) → HasFewer images log → (image : Image)
    → IsSafeImage geometry number owners log (alike contents) image
    → KeepsAll geometry number images contents image
safe-keeps geometry number owners log images contents fewer image safe = record {
  log = safe.0;
  items = image_recovers geometry number owners image safe.0 contents safe.2;
  fewer = fewer safe.0 safe.1;
}

-- each log that there may be has all records
pub fewer-all : (log : LogNow) → HasAllRecords log → HasFewer (images_of log.records) log
fewer-all log all content is part place none =
    ap (λ (records : List LogRecord). oldest (images_of records) part place) (all content is) ∙ none

-- an end takes before-images away
pub fewer-ended : (images : List BeforeImage) (log new : LogNow) (unit : UnitOfRecovery)
    (kind : EndKind) → log.forced ≤ length log.records → IsAppended log (End unit kind) new
    → HasFewer images log → HasFewer images new
fewer-ended images log new unit kind most appended fewer content is part place none = ⊎_elim
    (λ (prefix : IsPrefixOf new content). ⊎_elim
    (λ (within : prefix.count < length log.records + 1).
    ap (λ (c : LogContent). oldest (images_of c.records) part place) prefix.is
    ∙ ap (λ (records : List LogRecord). oldest (images_of records) part place)
    (ap (take prefix.count) appended.records
    ∙ take-append-le prefix.count log.records (End unit kind ∷ []) (omega (arith, within)))
    ∙ fewer (first_of log prefix.count) (inl (record {
      count = prefix.count;
      forced = omega (arith, prefix.forced, appended.forced);
      all = omega (arith, within);
      is = refl;
    })) part place none)
    (λ (past : length log.records + 1 ≤ prefix.count).
    ap (λ (c : LogContent). oldest (images_of c.records) part place) prefix.is
    ∙ ap (λ (records : List LogRecord). oldest (images_of records) part place)
    (take_all prefix.count new.records (omega (arith, past, long)) ∙ appended.records)
    ∙ without-ended)
    (cases_lt prefix.count (length log.records + 1)))
    (λ (behind : new.behind ≡ Some content). ⊎_elim
    (λ same. fewer content (inr (sym same ∙ behind)) part place none)
    (λ gone. absurd (none-some (sym gone ∙ behind)))
    appended.behind)
    is
  where
    none-some : None ≡ Some content → ⊥
    none-some same = cc

    long : length new.records ≡ length log.records + 1
    long = ap (λ (records : List LogRecord). length records) appended.records
        ∙ length-append log.records (End unit kind ∷ [])

    -- with the end the before-images of the unit aren't there any more
    without-ended : oldest (images_of (log.records ++ End unit kind ∷ [])) part place ≡ None
    without-ended =
        ap (λ (those : List BeforeImage). oldest those part place)
        (left-images log.records unit kind)
        ∙ find-none (is_image_of part place) (λ (image : BeforeImage). is_other unit image.unit)
        (images_of log.records)
        (ap (λ (records : List LogRecord). oldest (images_of records) part place)
        (sym (take_all (length log.records) log.records (omega arith)))
        ∙ fewer (first_of log (length log.records)) (inl (record {
          count = length log.records;
          forced = most;
          all = omega arith;
          is = refl;
        })) part place none)

pub fewer-more : (images : List BeforeImage) (log : LogNow) (unit : UnitOfRecovery)
    (kind : EndKind) → log.forced ≤ length log.records → log.broken ≡ false → HasFewer images log
    → HasFewer images (with_record log (End unit kind))
fewer-more images log unit kind most sound =
    fewer-ended images log (with_record log (End unit kind)) unit kind most (record {
      geometry = refl;
      generation = refl;
      records = refl;
      forced = refl;
      behind = inl refl;
      sound = sound;
    })

module _ (number : ℕ) (owners : Owners) (log : LogNow) (contents : ℕ → Content) (a : Seen)
    (undone : IsUndone number owners log contents a) where
  pub left-keeps : (images : List BeforeImage) → HasFewer images log → (image : Image)
      → Left a image → KeepsAll log.geometry number images contents image
  left-keeps images fewer image left =
      safe-keeps log.geometry number owners log images contents fewer image
      (each_image_is_safe log.geometry number owners log (alike contents) a undone.safe image left)

  module _ (most : log.forced ≤ length log.records) where
    -- by all records that there are
    by-all : IsSafeBy log.geometry owners log.records contents a
    by-all = subst (λ (records : List LogRecord). IsSafeBy log.geometry owners records contents a)
        (take_all (length log.records) log.records (omega arith))
        (undone.safe.by_log (first_of log (length log.records)) (inl (record {
          count = length log.records;
          forced = most;
          all = omega arith;
          is = refl;
        })))

    -- the parts are outside the log, so that they stay while it is put
    pub all-stays : (b : Seen)
        → ((n : ℕ) (block : Block) → n < a.count → Outside (InLog log.geometry) n
        → b.may n block → a.may n block) → HasAll log.geometry contents b
    all-stays b fewer part shape laid place found may = undone.all part shape laid place found
        (holds-less shape owners a b.may
        (by-all.parts part shape laid).sound
        (λ n block is may. fewer n block is.0 (λ there.
        omega (arith, there.1, undone.safe.past n (part_no shape).0 is.1)) may)
        place found may)

    module _ (unit : UnitOfRecovery) (kind : EndKind) where
      abbrev keeps : BeforeImage → Bool
      keeps image = is_other unit image.unit

      abbrev was : AreCommitted log.geometry log.records contents
      was = by-all.committed

      abbrev Back : BeforeImage → Type 0
      Back = CanPutBack (shape_by log.geometry (contents 0))

      images-left : images_of (ended log unit kind) ≡ filter keeps (images_of log.records)
      images-left = left-images log.records unit kind

      committed-end : AreCommitted log.geometry (ended log unit kind) contents
      committed-end = record {
        each = was.each;
        catalog = was.catalog;
        inside = was.inside;
        others = was.others;
        images = subst (All Back) (sym images-left)
            (All-filter keeps Back (images_of log.records) was.images);
        alone = subst AreAlone (sym images-left) (alone-filter keeps (images_of log.records) was.alone);
        olds = λ part place image is. was.olds part place image
            (filter-alone keeps part place (images_of log.records) image was.alone
            (sym (ap (λ (images : List BeforeImage). oldest images part place) images-left) ∙ is));
      }

      -- What has to hold before the end is written.
      pub end-undone : IsEndOf log.geometry owners log (alike contents) unit kind a
      end-undone = record {
        forced = most;
        contents = committed-end;
        laid = λ part shape is. inl is;
        items = λ part shape laid place found may none. undone.all part shape laid place found may;
      }

-- ---- who is live

and-right : (a b : Bool) → (a && b) ≡ true → b ≡ true
and-right true b is = is
and-right false b is = absurd (true≢false (sym is))

and-none : (a b : Bool) → a ≡ true → (not a && b) ≡ false
and-none true b is = refl
and-none false b is = absurd (true≢false (sym is))

live-ended : (records : List LogRecord) (unit : UnitOfRecovery) (kind : EndKind)
    (other : UnitOfRecovery)
    → is_in other (live_in (records ++ End unit kind ∷ []))
    ≡ (is_other unit other && is_in other (live_in records))
unfolding live_after
live-ended records unit kind other =
    ap (is_in other) (live-append [] records (End unit kind))
    ∙ in-without other unit (live_in records) (live-once [] records tt)

-- the unit that was ended is out, and no other came in
pub out-ended : (records new : List LogRecord) (unit : UnitOfRecovery) (kind : EndKind)
    (rec : LogRecord) → new ≡ records ++ End unit kind ∷ [] → IsBeforeOf unit rec
    → ((other : UnitOfRecovery) → IsBeforeOf other rec → other ≡ unit) → IsOut rec records new
out-ended records new unit kind rec is here only = record {
  fewer = λ other there. and-right (is_other unit other) (is_in other (live_in records))
      (sym (live-ended records unit kind other)
      ∙ sym (ap (λ (rs : List LogRecord). is_in other (live_in rs)) is) ∙ there);
  out = λ other of. ap (λ (rs : List LogRecord). is_in other (live_in rs)) is
      ∙ live-ended records unit kind other
      ∙ and-none (same_unit unit other) (is_in other (live_in records))
      (ap (same_unit unit) (only other of) ∙ unit_self unit);
}

-- where a record ends nothing, nothing changes
pub out-same : (records : List LogRecord) (rec : LogRecord)
    → ((unit : UnitOfRecovery) → IsBeforeOf unit rec → is_in unit (live_in records) ≡ false)
    → IsOut rec records records
out-same records rec none = record { fewer = λ unit there. there; out = none }

-- what is out stays out
pub stays-out : (old new : List UnitOfRecovery)
    → ((unit : UnitOfRecovery) → is_in unit new ≡ true → is_in unit old ≡ true)
    → (unit : UnitOfRecovery) → is_in unit old ≡ false → is_in unit new ≡ false
stays-out old new fewer unit none = by_there (is_in unit new) refl
  where
    by_there : (b : Bool) → is_in unit new ≡ b → b ≡ false
    by_there true is = absurd (true≢false (sym (fewer unit is) ∙ none))
    by_there false is = refl

in-append : (unit other : UnitOfRecovery) (live : List UnitOfRecovery)
    → is_in unit (live ++ other ∷ []) ≡ true → (is_in unit live ≡ true) ⊎ (unit ≡ other)
in-append unit other [] there = by_same (same_unit unit other) refl there
  where
    by_same : (b : Bool) → same_unit unit other ≡ b → (b || false) ≡ true
        → (false ≡ true) ⊎ (unit ≡ other)
    by_same true is there = inr (unit_same unit other is)
    by_same false is there = inl there
in-append unit other (first ∷ live) there =
    by_same (same_unit unit first) there (in-append unit other live)
  where
    by_same : (b : Bool) → (b || is_in unit (live ++ other ∷ [])) ≡ true
        → (is_in unit (live ++ other ∷ []) ≡ true → (is_in unit live ≡ true) ⊎ (unit ≡ other))
        → ((b || is_in unit live) ≡ true) ⊎ (unit ≡ other)
    by_same true is further = inl refl
    by_same false is further = further is

-- the units of these before-images are out
abbrev pub AreOut : List UnitOfRecovery → LogRecord → Type 0
AreOut now rec = (unit : UnitOfRecovery) → IsBeforeOf unit rec → is_in unit now ≡ false

-- a unit that was live after these records was so before them, or is out
was-live : (now live : List UnitOfRecovery) (records : List LogRecord) (unit : UnitOfRecovery)
    → is_in unit (live_from live records) ≡ true → All (AreOut now) records
    → (is_in unit live ≡ true) ⊎ (is_in unit now ≡ false)
unfolding live_after
was-live now live [] unit there all = inl there
was-live now live (Before other part place old ∷ records) unit there all = ⊎_elim
    (λ after. by_there (is_in other live) after) (λ out. inr out)
    (was-live now (live_after live (Before other part place old)) records unit there
    (All-tail (AreOut now) (Before other part place old) records all))
  where
    by_there : (b : Bool) → is_in unit (cond b live (live ++ other ∷ [])) ≡ true
        → (is_in unit live ≡ true) ⊎ (is_in unit now ≡ false)
    by_there true after = inl after
    by_there false after = ⊎_elim (λ before. inl before)
        (λ same. inr (ap (λ (u : UnitOfRecovery). is_in u now) same
        ∙ All-head (AreOut now) (Before other part place old) records all other refl))
        (in-append unit other live after)
was-live now live (End other kind ∷ records) unit there all = ⊎_elim
    (λ after. inl (in-fewer unit other live after)) (λ out. inr out)
    (was-live now (without other live) records unit there
    (All-tail (AreOut now) (End other kind) records all))

-- once all are out, none is live
pub none-live : (records : List LogRecord) (now : List UnitOfRecovery)
    → ((unit : UnitOfRecovery) → is_in unit now ≡ true → is_in unit (live_in records) ≡ true)
    → All (AreOut now) records → now ≡ []
none-live records [] fewer all = refl
none-live records (unit ∷ now) fewer all =
    let self : is_in unit (unit ∷ now) ≡ true =
    ap (λ (b : Bool). b || is_in unit now) (unit_self unit) in
    absurd (⊎_elim (λ none. true≢false (sym none))
    (λ out. true≢false (sym self ∙ out))
    (was-live (unit ∷ now) [] records unit (fewer unit self) all))
