-- What the calls that end a unit leave of a volume at rest.
use Rattle.std.proofs.Common.{◌≡◌, ◌≢◌, ◌⊎◌, inl, inr, ⊎_elim, ◌<◌, ◌+◌, ◌^◌, ℕ, Bool, true, false}
use Rattle.std.proofs.Common.{cond, not, List, [], ◌∷◌, Option, Some, None, refl, sym, ap, subst}
use Rattle.std.proofs.Common.{◌∙◌, length, filter, map}
use Rattle.std.specs.Prelude.{All, Contains, nat_eq}
use Rattle.vr_types.specs.Content.{Content, Item, item_at}
use Rattle.vr_types.specs.Locks.{same_unit}
use Rattle.vr_types.specs.Image.{Image}
use Rattle.vr_types.specs.Moments.{Guards}
use Rattle.vr_types.specs.Regions.{Touches}
use Rattle.vr_types.specs.Seen.{Left, Seen}
use Rattle.vr_types.specs.declared.geometry.Geometry.{Geometry}
use Rattle.vr_types.specs.declared.unit.Unit.{Unit as UnitOfRecovery}
use Rattle.vr_space.specs.Owners.{Owners}
use Rattle.vr_space.specs.Known.{Known}
use Rattle.vr_space.specs.Part.{IsSound, MayHold, Shape, part_no}
use Rattle.vr_space.proofs.CallerLemmas.{StaysPart, fewer-room, knows-stays, rest-sound, rest-stays}
use Rattle.vr_space.proofs.CallerLemmas.{on-still, room-stays, same-stays}
use Rattle.vr_log.specs.Live.{is_in, live_in}
use Rattle.vr_log.specs.LogNow.{HasLog, IsAppended, IsForced, LogNow, forced_now, restarted}
use Rattle.vr_log.specs.LogNow.{IsOf, next_generation, with_record}
use Rattle.vr_log.specs.Standing.{InLog, LogStands}
use Rattle.vr_log.specs.declared.record.EndKind.{EndKind}
use Rattle.vr_log.specs.declared.record.LogRecord.{LogRecord}
use Rattle.vr_log.specs.declared.record.LogRecord.TheVariants.{End}
use Rattle.vr_log.proofs.CallerLemmas.{restarted_stands}
use Rattle.vr_history.specs.Effects.{is_other}
use Rattle.vr_history.specs.State.{BeforeImage, Logged, State}
use Rattle.vr_volume.specs.Committed.{IsCurrent, IsFirmFor, IsLaidState, KeepsNoneIf}
use Rattle.vr_volume.specs.Committed.{committed_by, kept_by, logged_of}
use Rattle.vr_volume.specs.Ended.{ended}
use Rattle.vr_volume.specs.EndedLog.{IsEndForced, IsEndedLog}
use Rattle.vr_volume.specs.Laid.{shape_by}
use Rattle.vr_volume.specs.Laying.{IsLogged}
use Rattle.vr_volume.specs.PutBack.{AreAlone, images_of, is_image_of, lengths_kept, oldest}
use Rattle.vr_volume.specs.PutBack.{put_back}
use Rattle.vr_volume.specs.Rests.{IsPartAtRest, IsVolumeAtRest}
use Rattle.vr_volume.specs.Safe.{IsSafe, IsSafeImage}
use Rattle.vr_volume.specs.Steps.{IsEndedIn}
use Rattle.vr_volume.proofs.Among.{keep-less, kept-among}
use Rattle.vr_volume.proofs.Calls.{stays-part}
use Rattle.vr_volume.proofs.Ending.{committed-end, laid-ended, logged-end, logged-restart, none-left}
use Rattle.vr_volume.proofs.Ending.{none-live}
use Rattle.vr_volume.proofs.Endings.{AreSome, kept-under, safe-ended, some-skip}
use Rattle.vr_volume.proofs.LogCalls.{forced-geometry, forced-is}
use Rattle.vr_volume.proofs.LogCalls.{forced-records, forced-sound, log-after, log-guards}
use Rattle.vr_volume.proofs.LogCalls.{safe-fewer}
use Rattle.vr_volume.proofs.Meeting.{end-of, find-stays, images-ended}
use Rattle.vr_volume.proofs.Rested.{stays-holds}
use Rattle.vr_volume.proofs.Restarting.{no-images, safe-restarted}
use Rattle.vr_volume.proofs.Resting.{AreAlikeIn, alike-same, safe-alike}

-- ---- the log

-- forcing leaves the generation
pub forced-generation : (log : LogNow) → (forced_now log).generation ≡ log.generation
forced-generation log = by_test (nat_eq log.forced (length log.records))
  where
    by_test : (same : Bool)
        → (cond same log (record log { forced = length log.records; behind = None })).generation
        ≡ log.generation
    by_test true = refl
    by_test false = refl

-- the end that was appended is forced
pub end-forced : (log mid new : LogNow) (unit : UnitOfRecovery) (kind : EndKind)
    → IsAppended log (End unit kind) mid → new ≡ forced_now mid → IsEndForced log unit kind new
end-forced log mid new unit kind appended is = record {
  geometry = ap (λ (l : LogNow). l.geometry) is ∙ forced-geometry mid ∙ appended.geometry;
  generation = ap (λ (l : LogNow). l.generation) is ∙ forced-generation mid ∙ appended.generation;
  records = ap (λ (l : LogNow). l.records) is ∙ forced-records mid ∙ appended.records;
  forced = subst IsForced (sym is) (forced-is mid ∙ sym (ap length (forced-records mid)));
  sound = ap (λ (l : LogNow). l.broken) is ∙ forced-sound mid ∙ appended.sound;
}

-- what is asked of the log after it: once no unit is live it has begun again
abbrev pub IsIdle : LogNow → LogNow → Type 0
IsIdle mid after = live_in mid.records ≡ [] → after ≡ restarted mid

abbrev pub IsLive : LogNow → LogNow → Type 0
IsLive mid after = live_in mid.records ≢ [] → after ≡ mid

-- no unit is live, or there is one
live-or : (mid after : LogNow) → IsIdle mid after → IsLive mid after
    → ((live_in mid.records ≡ []) × (after ≡ restarted mid))
    ⊎ ((live_in mid.records ≢ []) × (after ≡ mid))
live-or mid after idle live = by_units (live_in mid.records) refl
  where
    cons-none : {X : Type 0} {x : X} {xs : List X} → x ∷ xs ≡ [] → ⊥
    cons-none same = cc

    by_units : (units : List UnitOfRecovery) → live_in mid.records ≡ units
        → ((live_in mid.records ≡ []) × (after ≡ restarted mid))
        ⊎ ((live_in mid.records ≢ []) × (after ≡ mid))
    by_units [] is = inl (is, idle is)
    by_units (unit ∷ units) is =
        let some : live_in mid.records ≢ [] = λ none. cons-none (sym is ∙ none) in
        inr (some, live some)

module _ (log mid after : LogNow) (unit : UnitOfRecovery) (kind : EndKind)
    (end : IsEndForced log unit kind mid) (idle : IsIdle mid after) (live : IsLive mid after) where
  pub ended-log : IsEndedLog log unit kind after
  ended-log = ⊎_elim
      (λ none. record {
        geometry = ap (λ (l : LogNow). l.geometry) none.1 ∙ end.geometry;
        sound = ap (λ (l : LogNow). l.broken) none.1 ∙ end.sound;
        forced = subst IsForced (sym none.1) refl;
        on = λ some. absurd (some (ap live_in (sym end.records) ∙ none.0));
        begun = λ gone. (
          ap (λ (l : LogNow). l.records) none.1,
          ap (λ (l : LogNow). l.generation) none.1 ∙ ap next_generation end.generation,
        );
      })
      (λ some. record {
        geometry = ap (λ (l : LogNow). l.geometry) some.1 ∙ end.geometry;
        sound = ap (λ (l : LogNow). l.broken) some.1 ∙ end.sound;
        forced = subst IsForced (sym some.1) end.forced;
        on = λ there. (
          ap (λ (l : LogNow). l.records) some.1 ∙ end.records,
          ap (λ (l : LogNow). l.generation) some.1 ∙ end.generation,
        );
        begun = λ none. absurd (some.0 (ap live_in end.records ∙ none));
      })
      (live-or mid after idle live)

  pub stands-on : (now : Seen) → LogStands mid now → log.generation + 1 < 2 ^ 63
      → LogStands after now
  stands-on now stands below = ⊎_elim
      (λ none. subst (λ (l : LogNow). LogStands l now) (sym none.1)
      (restarted_stands mid now stands end.forced none.0
      (subst (λ (n : ℕ). n + 1 < 2 ^ 63) (sym end.generation) below)))
      (λ some. subst (λ (l : LogNow). LogStands l now) (sym some.1) stands)
      (live-or mid after idle live)

  pub shape-on : (now : Seen) → IsOf mid.geometry now → IsOf after.geometry now
  shape-on now shape = ⊎_elim
      (λ none. subst (λ (l : LogNow). IsOf l.geometry now) (sym none.1) shape)
      (λ some. subst (λ (l : LogNow). IsOf l.geometry now) (sym some.1) shape)
      (live-or mid after idle live)

-- ---- the volume

-- the before-images of other units
abbrev pub others_of : UnitOfRecovery → List BeforeImage → List BeforeImage
others_of unit images = filter (λ (image : BeforeImage). is_other unit image.unit) images

module _ (geometry : Geometry) (number : ℕ) (owners : Owners) (log : LogNow)
    (images : List BeforeImage) (old : State) (a b : Seen) (unit : UnitOfRecovery) (kind : EndKind)
    (rest : IsVolumeAtRest geometry number owners log images old a)
    (firm : IsFirmFor geometry log old unit a) (none : KeepsNoneIf kind old unit)
    (call : Touches (InLog log.geometry) (HasLog (with_record log (End unit kind))) a b) where
  abbrev more : LogNow
  more = with_record log (End unit kind)

  safe-end : IsSafe geometry number owners more (committed_by old) a
  safe-end = safe-ended geometry number owners log (committed_by old) a unit kind rest.safe
      (end-of geometry old rest.laid log rest.logged rest.forced unit kind number owners a
      rest.safe firm none)

  log-call : Touches (InLog geometry) (HasLog more) a b
  log-call = subst (λ (shape : Geometry). Touches (InLog shape) (HasLog more) a b) rest.safe.shape
      call

  -- each image of each moment is what is committed with the end, or without it
  pub end-guards : Guards a b (IsSafeImage geometry number owners more (committed_by old))
  end-guards = log-guards geometry number owners (committed_by old) more a b safe-end log-call

  module _ (new : State) (current : IsCurrent old.numbers unit) (made : IsEndedIn unit old new)
      (mid : LogNow) (logged : IsLogged log (End unit kind) mid)
      (end : IsEndForced log unit kind mid) (stands : LogStands mid b) where
    abbrev others : List BeforeImage
    others = others_of unit images

    laid-new : IsLaidState geometry new
    laid-new = laid-ended geometry old new rest.laid log rest.logged unit kind current made

    -- with the end the volume is safe by the new state
    safe-new : IsSafe geometry number owners mid (committed_by new) b
    safe-new = safe-alike geometry number owners mid (committed_by old) (committed_by new) b
        (safe-fewer geometry number owners (committed_by old) more mid b
        (log-after geometry number owners (committed_by old) more a b safe-end log-call)
        (end.geometry ∙ rest.safe.shape) logged.less stands)
        (λ content is. subst (AreAlikeIn geometry old new) (sym (logged.all content is))
        (alike-same geometry old new rest.laid laid-new (made.contents 0) (ended log unit kind)
        (λ part place. ap (λ (content : Content). item_at content place)
        (committed-end geometry old new rest.laid log rest.logged unit kind current made none
        part))))

    images-new : others ≡ images_of mid.records
    images-new = ap (filter (λ (image : BeforeImage). is_other unit image.unit)) rest.kept
        ∙ sym (ap images_of end.records
        ∙ images-ended geometry old rest.laid log rest.logged rest.forced unit kind)

    -- where a unit is live still, it rests by this log,
    rests-live : (first : Logged) (further : List Logged) → new.logged ≡ first ∷ further
        → is_in unit (live_in log.records) ≡ true
        → IsVolumeAtRest geometry number owners mid others new b
    rests-live first further some there = record {
      safe = safe-new;
      stands = stands;
      sound = end.sound;
      forced = end.forced;
      laid = laid-new;
      logged = logged-end geometry old new rest.laid log rest.logged unit kind current made
          rest.forced mid end.records first further some there;
      kept = images-new;
    }

    -- and where none is, by one that has begun again
    none-on : new.logged ≡ [] → live_in mid.records ≡ []
    none-on empty = none-live geometry old new rest.laid log rest.logged unit kind current made
        rest.forced mid end.records empty

    left-on : new.logged ≡ [] → new.befores ≡ []
    left-on empty = none-left geometry old new rest.laid log rest.logged unit kind current made
        rest.forced mid end.records empty

    same-none : new.befores ≡ [] → committed_by new [] ≡ committed_by new mid.records
    same-none gone = ap (by []) gone ∙ sym (ap (by mid.records) gone)
      where
        by : List LogRecord → List BeforeImage → ℕ → Content
        by records befores part = put_back part (kept_by records befores) (new.contents part)

    rests-begun : new.logged ≡ [] → log.generation + 1 < 2 ^ 63
        → IsVolumeAtRest geometry number owners (restarted mid) others new b
    rests-begun empty below =
        let next : LogStands (restarted mid) b =
        restarted_stands mid b stands end.forced (none-on empty)
        (subst (λ (n : ℕ). n + 1 < 2 ^ 63) (sym end.generation) below) in
        record {
          safe = safe-restarted geometry number owners mid (committed_by new) b safe-new end.forced
              (none-on empty) (same-none (left-on empty)) (end.geometry ∙ rest.safe.shape) next;
          stands = next;
          sound = end.sound;
          forced = refl;
          laid = laid-new;
          logged = logged-restart geometry old new rest.laid log rest.logged unit kind current made
              (restarted mid) refl empty (left-on empty);
          kept = images-new ∙ no-images mid.records (none-on empty);
        }

    -- Once the unit has ended the volume rests by the new state.
    pub rests-after : (after : LogNow) → is_in unit (live_in log.records) ≡ true
        → log.generation + 1 < 2 ^ 63 → IsIdle mid after → IsLive mid after
        → IsVolumeAtRest geometry number owners after others new b
    rests-after after there below idle live = by_logged new.logged refl
      where
        none-cons : {X : Type 0} {x : X} {xs : List X} → [] ≡ x ∷ xs → ⊥
        none-cons same = cc

        by_logged : (ls : List Logged) → new.logged ≡ ls
            → IsVolumeAtRest geometry number owners after others new b
        by_logged [] empty =
            subst (λ (l : LogNow). IsVolumeAtRest geometry number owners l others new b)
            (sym (idle (none-on empty))) (rests-begun empty below)
        by_logged (first ∷ further) some =
            let rests : IsVolumeAtRest geometry number owners mid others new b =
            rests-live first further some there in
            subst (λ (l : LogNow). IsVolumeAtRest geometry number owners l others new b)
            (sym (live (λ gone. none-cons
            (sym (ap (map logged_of) (no-images mid.records gone)) ∙ rests.logged.logged ∙ some))))
            rests

-- ---- a part of it

some-filter : (keeps : BeforeImage → Bool) (images : List BeforeImage)
    → AreSome (filter keeps images) images
some-filter keeps [] = tt
some-filter keeps (image ∷ images) = by_keep (keeps image) (some-filter keeps images)
  where
    by_keep : (b : Bool) → AreSome (filter keeps images) images
        → AreSome (cond b (image ∷ filter keeps images) (filter keeps images)) (image ∷ images)
    by_keep true some = inl (refl, some)
    by_keep false some = some-skip (filter keeps images) image images some

-- each length that is kept of other units is one that was kept
pub others-among : (images : List BeforeImage) (unit : UnitOfRecovery) (part : ℕ)
    → AreAlone images
    → All (λ (entry : List ℕ × ℕ). Contains (lengths_kept images part) entry)
    (lengths_kept (others_of unit images) part)
others-among images unit part alone = kept-among part (others_of unit images) images alone
    (some-filter (λ (image : BeforeImage). is_other unit image.unit) images)

-- a place that is free once the images of a unit are gone is free, or has one of the unit
free-others : (images : List BeforeImage) (unit : UnitOfRecovery) (part : ℕ) (place : List ℕ)
    → oldest (others_of unit images) part place ≡ None → (found : Option BeforeImage)
    → oldest images part place ≡ found
    → (oldest images part place ≡ None)
    ⊎ ((image : BeforeImage) × (oldest images part place ≡ Some image)
    × (same_unit unit image.unit ≡ true))
free-others images unit part place none None is = inl is
free-others images unit part place none (Some image) is =
    by_unit (same_unit unit image.unit) refl
  where
    some-none : Some image ≡ None → ⊥
    some-none same = cc

    by_unit : (mine : Bool) → same_unit unit image.unit ≡ mine
        → (oldest images part place ≡ None)
        ⊎ ((other : BeforeImage) × (oldest images part place ≡ Some other)
        × (same_unit unit other.unit ≡ true))
    by_unit true mine = inr (image, is, mine)
    by_unit false mine = absurd (some-none (sym (find-stays (is_image_of part place)
        (λ (one : BeforeImage). is_other unit one.unit) images image is (ap not mine)) ∙ none))

-- A part stays at rest, by the new state.
pub part-after : (geometry : Geometry) (number : ℕ) (owners : Owners) (log : LogNow)
    (Q : Image → Type 0) (images : List BeforeImage) (old new : State) (unit : UnitOfRecovery)
    (shape : Shape) (known : Known) (a b : Seen) → log.geometry ≡ geometry
    → IsVolumeAtRest geometry number owners log images old a
    → IsFirmFor geometry log old unit a
    → Left a a.cur → Touches (InLog log.geometry) Q a b → IsEndedIn unit old new
    → IsPartAtRest geometry owners images old shape known a
    → IsPartAtRest geometry owners (others_of unit images) new shape known b
part-after geometry number owners log Q images old new unit shape known a b is rest firm left call
    made part =
    record {
      laid = ap (λ (catalog : Content). shape_by geometry catalog (part_no shape).0)
          (made.contents 0) ∙ part.laid;
      on = on-still shape a b part.on stays.count stays.size;
      rests = rest-stays a b shape owners stays part.rests;
      claimed = part.claimed;
      room = fewer-room shape owners (lengths_kept (others_of unit images) (part_no shape).0)
          (lengths_kept images (part_no shape).0) b
          (kept-under (part_no shape).0 (others_of unit images) images [] [] tt tt
          (some-filter (λ (image : BeforeImage). is_other unit image.unit) images))
          (keep-less shape (lengths_kept (others_of unit images) (part_no shape).0)
          (lengths_kept images (part_no shape).0)
          (others-among images unit (part_no shape).0 (subst AreAlone (sym rest.kept)
          rest.logged.alone)))
          (rest-sound shape owners b (rest-stays a b shape owners stays part.rests))
          (room-stays a b shape owners (lengths_kept images (part_no shape).0) stays sound
          part.room);
      knows = knows-stays a b shape owners known stays sound left part.claimed part.knows;
      reads = λ place. same-stays a b shape owners stays sound left place ∙ part.reads place
          ∙ sym (ap (λ (content : Content). item_at content place)
          (made.contents (part_no shape).0));
      firm = λ place found none holds. firm-at place found
          (stays-holds shape owners a b stays sound place found holds)
          (free-others images unit (part_no shape).0 place none
          (oldest images (part_no shape).0 place) refl)
          ∙ sym (ap (λ (content : Content). item_at content place)
          (made.contents (part_no shape).0));
    }
  where
    firm-at : (place : List ℕ) (found : Option Item) → MayHold shape a.may place found
        → (oldest images (part_no shape).0 place ≡ None)
        ⊎ ((image : BeforeImage) × (oldest images (part_no shape).0 place ≡ Some image)
        × (same_unit unit image.unit ≡ true))
        → found ≡ item_at (old.contents (part_no shape).0) place
    firm-at place found holds = ⊎_elim
        (λ none. part.firm place found none holds)
        (λ mine. firm (part_no shape).0 place mine.0 shape found
        (sym (ap (λ (them : List BeforeImage). oldest them (part_no shape).0 place) rest.kept)
        ∙ mine.1) mine.2 part.laid holds)

    sound : IsSound shape owners a
    sound = rest-sound shape owners a part.rests

    stays : StaysPart shape owners a b
    stays = stays-part geometry shape owners Q a b rest.safe.past
        (subst (λ (g : Geometry). Touches (InLog g) Q a b) is call)
