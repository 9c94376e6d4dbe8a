-- What the end of a unit leaves of a safe volume.
use Rattle.std.proofs.Common.{◌≡◌, inl, ⊎_elim, ℕ, Bool, true, false, cond}
use Rattle.std.proofs.Common.{List}
use Rattle.std.proofs.Common.{[], ◌∷◌, ◌++◌, Option, Some, None, refl, sym, ap, subst, ◌∙◌, arith}
use Rattle.std.proofs.Common.{length}
use Rattle.std.specs.List.{cons_option, filter_map}
use Rattle.std.specs.Prelude.{◌||◌, All, Contains}
use Rattle.std.proofs.lemmas.Bool.{true≢false}
use Rattle.std.proofs.lemmas.List.{append-nil, take_all}
use Rattle.std.proofs.lemmas.List.Elements.{filter_map-append}
use Rattle.vr_types.specs.Content.{Content}
use Rattle.vr_types.specs.Locks.{same_unit}
use Rattle.vr_types.specs.Seen.{Seen}
use Rattle.vr_types.specs.declared.geometry.Geometry.{Geometry}
use Rattle.vr_types.specs.declared.unit.Unit.{Unit as UnitOfRecovery}
use Rattle.vr_space.specs.Owners.{Owners}
use Rattle.vr_space.specs.Part.{Shape}
use Rattle.vr_space.specs.Room.{Lengths, with_length, with_lengths}
use Rattle.vr_space.proofs.CallerLemmas.{Rise, Under, fewer-room, rise-with, under-both, under-more}
use Rattle.vr_history.specs.State.{BeforeImage}
use Rattle.vr_log.specs.Content.{Content as LogContent}
use Rattle.vr_log.specs.Live.{is_in, live_after, live_in, without}
use Rattle.vr_log.specs.LogNow.{LogNow, first_of, with_record}
use Rattle.vr_log.specs.declared.record.EndKind.{EndKind}
use Rattle.vr_log.specs.declared.record.LogRecord.{LogRecord}
use Rattle.vr_log.specs.declared.record.LogRecord.TheVariants.{Before, End}
use Rattle.vr_log.proofs.Growing.{has_more}
use Rattle.vr_volume.specs.Ended.{IsEndOf, ended}
use Rattle.vr_volume.specs.PutBack.{AreAlone, image_in, images_of, length_in, lengths_kept}
use Rattle.vr_volume.specs.Laid.{shape_by}
use Rattle.vr_volume.specs.Safe.{IsPartSafe, IsSafe, IsSafeBy}
use Rattle.vr_volume.proofs.Among.{keep-less, kept-among}
use Rattle.vr_volume.proofs.Befores.{log-cases}
use Rattle.vr_volume.proofs.Images.{image_of, live-append}
-- ---- fewer images

pub use Rattle.vr_volume.proofs.Among.{AreSome, some-skip}

-- a unit that is among others without one is among them
pub in-without : (unit gone : UnitOfRecovery) (units : List UnitOfRecovery)
    → is_in unit (without gone units) ≡ true → is_in unit units ≡ true
in-without unit gone [] there = there
in-without unit gone (first ∷ units) there =
    by_gone (same_unit gone first) there (λ further. in-without unit gone units further)
  where
    or-right : (a b : Bool) → b ≡ true → (a || b) ≡ true
    or-right true b is = refl
    or-right false b is = is

    or-map : (a b c : Bool) → (b ≡ true → c ≡ true) → (a || b) ≡ true → (a || c) ≡ true
    or-map true b c more is = refl
    or-map false b c more is = more is

    by_gone : (b : Bool) → is_in unit (cond b units (first ∷ without gone units)) ≡ true
        → (is_in unit (without gone units) ≡ true → is_in unit units ≡ true)
        → is_in unit (first ∷ units) ≡ true
    by_gone true is further = or-right (same_unit unit first) (is_in unit units) is
    by_gone false is further = or-map (same_unit unit first) (is_in unit (without gone units))
        (is_in unit units) further is

cons-some : (few many : Bool) → (few ≡ true → many ≡ true) → (image : BeforeImage)
    (fewer images : List BeforeImage) → AreSome fewer images
    → AreSome (cons_option (cond few (Some image) None) fewer)
    (cons_option (cond many (Some image) None) images)
cons-some true true more image fewer images some = inl (refl, some)
cons-some true false more image fewer images some = absurd (true≢false (sym (more refl)))
cons-some false true more image fewer images some = some-skip fewer image images some
cons-some false false more image fewer images some = some

fewer-images : (gone : UnitOfRecovery) (live : List UnitOfRecovery) (records : List LogRecord)
    → AreSome (filter_map (image_in (without gone live)) records)
    (filter_map (image_in live) records)
fewer-images gone live [] = tt
fewer-images gone live (End unit kind ∷ records) = fewer-images gone live records
fewer-images gone live (Before unit part place old ∷ records) =
    cons-some (is_in unit (without gone live)) (is_in unit live) (in-without unit gone live)
    (image_of unit part place old) (filter_map (image_in (without gone live)) records)
    (filter_map (image_in live) records) (fewer-images gone live records)

-- the images with the end of a unit are some of those without it
ended-images : (records : List LogRecord) (unit : UnitOfRecovery) (kind : EndKind)
    → images_of (records ++ End unit kind ∷ [])
    ≡ filter_map (image_in (without unit (live_in records))) records
unfolding live_after
ended-images records unit kind =
    ap (λ (live : List UnitOfRecovery). filter_map (image_in live) (records ++ End unit kind ∷ []))
    (live-append [] records (End unit kind))
    ∙ filter_map-append (image_in (without unit (live_in records))) records (End unit kind ∷ [])
    ∙ append-nil (filter_map (image_in (without unit (live_in records))) records)

-- ---- less is kept

pub kept-under : (part : ℕ) (fewer images : List BeforeImage) (lengths more : Lengths) → Rise more
    → Under lengths more → AreSome fewer images
    → Under (with_lengths lengths (filter_map (length_in part) fewer))
    (with_lengths more (filter_map (length_in part) images))
kept-under part [] [] lengths more rise under some = under
kept-under part [] (first ∷ images) lengths more rise under some =
    by_length (length_in part first)
    (λ (now : Lengths) now-rise now-under. kept-under part [] images lengths now now-rise now-under
    tt)
  where
    by_length : (found : Option (List ℕ × ℕ))
        → ((now : Lengths) → Rise now → Under lengths now
        → Under lengths (with_lengths now (filter_map (length_in part) images)))
        → Under lengths (with_lengths more (cons_option found (filter_map (length_in part) images)))
    by_length None further = further more rise under
    by_length (Some entry) further = further (with_length more entry.0 entry.1)
        (rise-with more entry.0 entry.1 rise) (under-more lengths more entry.0 entry.1 under)
kept-under part (image ∷ fewer) [] lengths more rise under some = absurd some
kept-under part (image ∷ fewer) (first ∷ images) lengths more rise under some = ⊎_elim
    (λ here. subst (λ (i : BeforeImage). Under
    (with_lengths lengths (cons_option (length_in part i) (filter_map (length_in part) fewer)))
    (with_lengths more (cons_option (length_in part first) (filter_map (length_in part) images))))
    (sym here.0)
    (both (length_in part first)
    (λ (less now : Lengths) now-rise now-under. kept-under part fewer images less now now-rise
    now-under here.1)))
    (λ further. more-first (length_in part first)
    (λ (now : Lengths) now-rise now-under. kept-under part (image ∷ fewer) images lengths now
    now-rise now-under further)) some
  where
    both : (found : Option (List ℕ × ℕ))
        → ((less now : Lengths) → Rise now → Under less now
        → Under (with_lengths less (filter_map (length_in part) fewer))
        (with_lengths now (filter_map (length_in part) images)))
        → Under (with_lengths lengths (cons_option found (filter_map (length_in part) fewer)))
        (with_lengths more (cons_option found (filter_map (length_in part) images)))
    both None further = further lengths more rise under
    both (Some entry) further = further (with_length lengths entry.0 entry.1)
        (with_length more entry.0 entry.1) (rise-with more entry.0 entry.1 rise)
        (under-both lengths more entry.0 entry.1 entry.1 rise (omega arith) under)

    more-first : (found : Option (List ℕ × ℕ))
        → ((now : Lengths) → Rise now → Under lengths now
        → Under (with_lengths lengths (filter_map (length_in part) (image ∷ fewer)))
        (with_lengths now (filter_map (length_in part) images)))
        → Under (with_lengths lengths (filter_map (length_in part) (image ∷ fewer)))
        (with_lengths more (cons_option found (filter_map (length_in part) images)))
    more-first None further = further more rise under
    more-first (Some entry) further = further (with_length more entry.0 entry.1)
        (rise-with more entry.0 entry.1 rise) (under-more lengths more entry.0 entry.1 under)

-- each length that is kept with the end is one that was kept
pub ended-among : (records : List LogRecord) (unit : UnitOfRecovery) (kind : EndKind) (part : ℕ)
    → AreAlone (images_of records)
    → All (λ (entry : List ℕ × ℕ). Contains (lengths_kept (images_of records) part) entry)
    (lengths_kept (images_of (records ++ End unit kind ∷ [])) part)
ended-among records unit kind part alone =
    subst (λ (images : List BeforeImage).
    All (λ (entry : List ℕ × ℕ). Contains (lengths_kept (images_of records) part) entry)
    (lengths_kept images part)) (sym (ended-images records unit kind))
    (kept-among part (filter_map (image_in (without unit (live_in records))) records)
    (images_of records) alone (fewer-images unit (live_in records) records))

ended-under : (records : List LogRecord) (unit : UnitOfRecovery) (kind : EndKind) (part : ℕ)
    → Under (lengths_kept (images_of (records ++ End unit kind ∷ [])) part)
    (lengths_kept (images_of records) part)
ended-under records unit kind part =
    subst (λ (images : List BeforeImage). Under (lengths_kept images part)
    (lengths_kept (images_of records) part)) (sym (ended-images records unit kind))
    (kept-under part (filter_map (image_in (without unit (live_in records))) records)
    (images_of records) [] [] tt tt (fewer-images unit (live_in records) records))

-- ---- the volume

module _ (geometry : Geometry) (number : ℕ) (owners : Owners) (log : LogNow)
    (committed : List LogRecord → ℕ → Content) (a : Seen) (unit : UnitOfRecovery) (kind : EndKind)
    (safe : IsSafe geometry number owners log committed a)
    (end : IsEndOf geometry owners log committed unit kind a) where
  -- by all records that there were
  by-all : IsSafeBy geometry owners log.records (committed log.records) a
  by-all = subst (λ
      (records : List LogRecord). IsSafeBy geometry owners records (committed records) a)
      (take_all (length log.records) log.records (omega arith))
      (safe.by_log (first_of log (length log.records)) (inl (record {
        count = length log.records;
        forced = end.forced;
        all = omega arith;
        is = refl;
      })))

  -- a part that was laid before
  still : (part : ℕ) (shape : Shape)
      → shape_by geometry (committed (ended log unit kind) 0) part ≡ Some shape
      → IsPartSafe shape owners part (images_of log.records) (committed log.records part) a
      → IsPartSafe shape owners part (images_of (ended log unit kind))
      (committed (ended log unit kind) part) a
  still part shape laid before = record {
    sound = before.sound;
    items = end.items part shape laid;
    room = fewer-room shape owners (lengths_kept (images_of (ended log unit kind)) part)
        (lengths_kept (images_of log.records) part) a (ended-under log.records unit kind part)
        (keep-less shape (lengths_kept (images_of (ended log unit kind)) part)
        (lengths_kept (images_of log.records) part)
        (ended-among log.records unit kind part by-all.committed.alone)) before.sound before.room;
  }

  by-end : IsSafeBy geometry owners (ended log unit kind) (committed (ended log unit kind)) a
  by-end = record {
    committed = end.contents;
    parts = λ part shape laid. ⊎_elim
        (λ before. still part shape laid (by-all.parts part shape before))
        (λ safe-now. safe-now)
        (end.laid part shape laid);
  }

  -- The blocks are safe whether or not an image has the end.
  pub safe-ended : IsSafe geometry number owners (with_record log (End unit kind)) committed a
  safe-ended = record {
    allowed = safe.allowed;
    past = safe.past;
    blocks = safe.blocks;
    shape = safe.shape;
    header = safe.header;
    logs = λ image left. has_more log (End unit kind) image (safe.logs image left);
    by_log = λ content is. ⊎_elim (λ before. safe.by_log content before)
        (λ all. subst (λ
        (c : LogContent). IsSafeBy geometry owners c.records (committed c.records) a)
        (sym all) by-end) (log-cases log (End unit kind) content is);
  }
