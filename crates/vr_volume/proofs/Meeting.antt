-- What has to hold before a record of the log is appended holds of a volume whose log has what its
-- state logged.
use Rattle.std.proofs.Common.{◌≡◌, inl, ℕ, Bool, true, false, cond, not, List, [], ◌∷◌}
use Rattle.std.proofs.Common.{Option, Some, None, refl, sym, ap, subst, ◌∙◌, arith, length, filter}
use Rattle.std.proofs.Common.{◌&&◌, ◌||◌, ◌==◌}
use Rattle.std.specs.Prelude.{All, find}
use Rattle.std.specs.List.{cons_option, filter_map}
use Rattle.std.specs.Option.{option_map}
use Rattle.std.proofs.lemmas.Bool.{true≢false}
use Rattle.std.proofs.lemmas.Bool.Decides.{Decides-eqb}
use Rattle.std.proofs.lemmas.List.{take_all}
use Rattle.std.proofs.lemmas.List.Elements.{All-cons, All-filter, All-head, All-nil, All-tail}
use Rattle.std.proofs.lemmas.Slice.Eq.{bytes_eq-Decides}
use Rattle.vr_types.specs.Content.{Item, Standing, item_at}
use Rattle.vr_types.specs.Locks.{same_unit}
use Rattle.vr_types.specs.Seen.{Seen}
use Rattle.vr_types.specs.declared.geometry.Geometry.{Geometry}
use Rattle.vr_types.specs.declared.unit.PartNo.{PartNo}
use Rattle.vr_types.specs.declared.unit.Unit.{Unit as UnitOfRecovery}
use Rattle.vr_space.specs.Owners.{Owners}
use Rattle.vr_space.specs.Part.{IsPlaceOf, MayHold, Shape}
use Rattle.vr_log.specs.Live.{is_in, live_in}
use Rattle.vr_log.specs.LogNow.{IsForced, LogNow, first_of}
use Rattle.vr_log.specs.declared.record.EndKind.{EndKind}
use Rattle.vr_log.specs.declared.record.EndKind.TheVariants.{Committed, BackedOut}
use Rattle.vr_log.specs.declared.record.LogRecord.{LogRecord}
use Rattle.vr_log.specs.declared.record.LogRecord.TheVariants.{Before, End}
use Rattle.vr_history.specs.Committed.{kept_or}
use Rattle.vr_history.specs.Effects.{is_other}
use Rattle.vr_history.specs.State.{BeforeImage, State}
use Rattle.vr_history.proofs.Same.{first_holds, second_holds}
use Rattle.vr_undo.proofs.CallerLemmas.{record-stands}
use Rattle.vr_volume.specs.Committed.{HasLogged, IsCurrent, IsFirmFor, IsLaidState}
use Rattle.vr_volume.specs.Committed.{KeepsNoneIf, committed_by, has_commit, is_committing, kept_by}
use Rattle.vr_volume.specs.Ended.{IsEndOf, ended}
use Rattle.vr_volume.specs.Laid.{shape_by}
use Rattle.vr_volume.specs.Logged.{IsFirstBefore}
use Rattle.vr_volume.specs.PutBack.{AreAlone, image_in, images_of, is_image_of, oldest}
use Rattle.vr_volume.specs.PutBack.{standing_of}
use Rattle.vr_volume.specs.Safe.{IsSafe, IsSafeBy}
use Rattle.vr_volume.specs.Volume.{CanPutBack, IsInside}
use Rattle.vr_volume.proofs.Committing.{are-committed, commit-append, images-back, shape-same}
use Rattle.vr_volume.proofs.Committing.{before-same, item-now, none-ended}
use Rattle.vr_volume.proofs.Images.{image_of}
use Rattle.vr_volume.proofs.Living.{left-images, live-or-none}
use Rattle.vr_volume.proofs.PuttingBack.{back-item}

-- ---- what is found among some of the images

module _ (test keeps : BeforeImage → Bool) where
  -- the first that passes is found where it stays
  pub find-stays : (images : List BeforeImage) (image : BeforeImage)
      → find test images ≡ Some image → keeps image ≡ true
      → find test (filter keeps images) ≡ Some image
  find-stays [] image is stays = is
  find-stays (first ∷ images) image is stays =
      by_test (test first) (keeps first) refl refl is (find-stays images image)
    where
      by_test : (here kept : Bool) → test first ≡ here → keeps first ≡ kept
          → cond here (Some first) (find test images) ≡ Some image
          → (find test images ≡ Some image → keeps image ≡ true
          → find test (filter keeps images) ≡ Some image)
          → find test (cond kept (first ∷ filter keeps images) (filter keeps images)) ≡ Some image
      by_test true true one two same further =
          ap (λ (b : Bool). cond b (Some first) (find test (filter keeps images))) one ∙ same
      by_test true false one two same further =
          let it : first ≡ image = cc in
          absurd (true≢false (sym stays ∙ ap keeps (sym it) ∙ two))
      by_test false true one two same further =
          ap (λ (b : Bool). cond b (Some first) (find test (filter keeps images))) one
          ∙ further same stays
      by_test false false one two same further = further same stays

  -- where there is none, there is none among fewer
  pub find-none : (images : List BeforeImage) → find test images ≡ None
      → find test (filter keeps images) ≡ None
  find-none [] none = none
  find-none (first ∷ images) none = by_test (test first) (keeps first) refl refl none
      (find-none images)
    where
      some-none : {X : Type 0} {x : X} → Some x ≡ None → ⊥
      some-none same = cc

      by_test : (here kept : Bool) → test first ≡ here → keeps first ≡ kept
          → cond here (Some first) (find test images) ≡ None
          → (find test images ≡ None → find test (filter keeps images) ≡ None)
          → find test (cond kept (first ∷ filter keeps images) (filter keeps images)) ≡ None
      by_test true kept one two same further = absurd (some-none same)
      by_test false true one two same further =
          ap (λ (b : Bool). cond b (Some first) (find test (filter keeps images))) one
          ∙ further same
      by_test false false one two same further = further same

some-none : {X : Type 0} {x : X} → Some x ≡ None → ⊥
some-none same = cc

none-some : {X : Type 0} {x : X} → None ≡ Some x → ⊥
none-some same = cc

-- what is found passes
pub find-passes : (test keeps : BeforeImage → Bool) (images : List BeforeImage)
    (image : BeforeImage) → find test (filter keeps images) ≡ Some image → keeps image ≡ true
find-passes test keeps [] image is = absurd (none-some is)
find-passes test keeps (first ∷ images) image is =
    by_test (keeps first) (test first) refl is (find-passes test keeps images image)
  where
    by_test : (kept here : Bool) → keeps first ≡ kept
        → find test (cond kept (first ∷ filter keeps images) (filter keeps images)) ≡ Some image
        → (find test (filter keeps images) ≡ Some image → keeps image ≡ true)
        → keeps image ≡ true
    by_test false here two same further = further same
    by_test true here two same further = by_here (test first) same
      where
        by_here : (b : Bool) → cond b (Some first) (find test (filter keeps images)) ≡ Some image
            → keeps image ≡ true
        by_here true found =
            let it : first ≡ image = cc in
            ap keeps (sym it) ∙ two
        by_here false found = further found

-- where each place has one image, what is found among some is found among all
pub filter-alone : (keeps : BeforeImage → Bool) (part : ℕ) (place : List ℕ)
    (images : List BeforeImage) (image : BeforeImage) → AreAlone images
    → find (is_image_of part place) (filter keeps images) ≡ Some image
    → find (is_image_of part place) images ≡ Some image
filter-alone keeps part place [] image alone is = is
filter-alone keeps part place (first ∷ images) image alone is =
    by_test (is_image_of part place first) (keeps first) refl is
    (filter-alone keeps part place images image alone.1)
  where
    test : BeforeImage → Bool
    test = is_image_of part place

    -- no other has the place of the first
    only : is_image_of part place first ≡ true → find test images ≡ None
    only here =
        ap (λ (p : ℕ). oldest images p place)
        (sym ((Decides-eqb first.part part).0 (first_holds (first.part == part) _ here)))
        ∙ ap (oldest images first.part)
        ((bytes_eq-Decides place first.place).0 (second_holds (first.part == part) _ here))
        ∙ alone.0

    by_test : (here kept : Bool) → is_image_of part place first ≡ here
        → find test (cond kept (first ∷ filter keeps images) (filter keeps images)) ≡ Some image
        → (find test (filter keeps images) ≡ Some image → find test images ≡ Some image)
        → cond here (Some first) (find test images) ≡ Some image
    by_test true true one same further =
        sym (ap (λ (b : Bool). cond b (Some first) (find test (filter keeps images))) one) ∙ same
    by_test true false one same further = absurd (none-some
        (sym (find-none test keeps images (only one)) ∙ same))
    by_test false true one same further = further
        (sym (ap (λ (b : Bool). cond b (Some first) (find test (filter keeps images))) one) ∙ same)
    by_test false false one same further = further same

-- fewer images are alone
pub alone-filter : (keeps : BeforeImage → Bool) (images : List BeforeImage) → AreAlone images
    → AreAlone (filter keeps images)
alone-filter keeps [] alone = tt
alone-filter keeps (image ∷ images) alone =
    by_keep (keeps image) (alone-filter keeps images alone.1)
  where
    by_keep : (b : Bool) → AreAlone (filter keeps images)
        → AreAlone (cond b (image ∷ filter keeps images) (filter keeps images))
    by_keep true further = (
      find-none (is_image_of image.part image.place) keeps images alone.0,
      further,
    )
    by_keep false further = further

-- what is found has what all have
pub found-has : (P : BeforeImage → Type 0) (test : BeforeImage → Bool) (images : List BeforeImage)
    (image : BeforeImage) → All P images → find test images ≡ Some image → P image
found-has P test [] image all is = absurd (none-some is)
found-has P test (first ∷ images) image all is =
    by_test (test first) is (found-has P test images image (All-tail P first images all))
  where
    by_test : (here : Bool) → cond here (Some first) (find test images) ≡ Some image
        → (find test images ≡ Some image → P image) → P image
    by_test true same further =
        let it : first ≡ image = cc in
        subst P it (All-head P first images all)
    by_test false same further = further same

-- ---- the before-images of a log

-- each is a record, or none
records-in : (live : List UnitOfRecovery) (records : List LogRecord)
    → All (λ (image : BeforeImage). standing_of image.old ≡ image.old)
    (filter_map (image_in live) records)
records-in live [] = All-nil (λ (image : BeforeImage). standing_of image.old ≡ image.old)
records-in live (End unit kind ∷ records) = records-in live records
records-in live (Before unit part place old ∷ records) =
    by_live (is_in unit live) (records-in live records)
  where
    by_live : (there : Bool)
        → All (λ (image : BeforeImage). standing_of image.old ≡ image.old)
        (filter_map (image_in live) records)
        → All (λ (image : BeforeImage). standing_of image.old ≡ image.old)
        (cons_option (cond there (Some (image_of unit part place old)) None)
        (filter_map (image_in live) records))
    by_live true further = All-cons (λ (image : BeforeImage). standing_of image.old ≡ image.old)
        (image_of unit part place old) (filter_map (image_in live) records) (record-stands old)
        further
    by_live false further = further

pub image-record : (records : List LogRecord) (part : ℕ) (place : List ℕ) (image : BeforeImage)
    → oldest (images_of records) part place ≡ Some image → standing_of image.old ≡ image.old
image-record records part place image is = found-has
    (λ (i : BeforeImage). standing_of i.old ≡ i.old) (is_image_of part place) (images_of records)
    image (records-in (live_in records) records) is

-- ---- a first before-image

module _ (geometry : Geometry) (state : State) (laid : IsLaidState geometry state) (log : LogNow)
    (logged : HasLogged log state) (forced : IsForced log) where
  -- a place that the log has no image of is kept by no one
  pub none-kept : (part : ℕ) (place : List ℕ)
      → oldest (images_of log.records) part place ≡ None
      → oldest state.befores part place ≡ None
  none-kept part place none = by_found (oldest state.befores part place) refl
    where
      by_found : (found : Option BeforeImage) → oldest state.befores part place ≡ found
          → found ≡ None
      by_found None is = refl
      by_found (Some image) is = absurd (some-none (sym (logged.kept part place image is) ∙ none))

  -- what is at such a place is committed
  pub item-there : (part : ℕ) (place : List ℕ)
      → oldest (images_of log.records) part place ≡ None
      → item_at (committed_by state log.records part) place ≡ item_at (state.contents part) place
  item-there part place none = item-now geometry state laid log logged part place
      ∙ ap (λ (found : Option BeforeImage). kept_or found (item_at (state.contents part) place))
      (none-kept part place none)

  pub first-before : (unit : UnitOfRecovery) (part : PartNo) (place : List ℕ)
      (old : Option (List ℕ)) (shape : Shape) → IsCurrent state.numbers unit
      → shape_by geometry (state.contents 0) part.0 ≡ Some shape → IsPlaceOf shape place
      → oldest (images_of log.records) part.0 place ≡ None
      → option_map Standing old ≡ item_at (state.contents part.0) place
      → IsFirstBefore geometry log (committed_by state) unit part place old
  first-before unit part place old shape current is at none item = record {
    forced = omega (arith, forced);
    live = live-or-none state.numbers unit current [] log.records logged.ended;
    first = none;
    item = item ∙ sym (item-there part.0 place none);
    same = before-same state log.records unit part place old;
    shape = shape;
    laid = shape-same geometry state laid log.records part.0 ∙ is;
    at = at;
  }

  -- ---- the end of a unit

  module _ (unit : UnitOfRecovery) (kind : EndKind) where
    abbrev keeps : BeforeImage → Bool
    keeps image = is_other unit image.unit

    -- the images that the log has with the end
    pub images-ended : images_of (ended log unit kind) ≡ filter keeps (images_of log.records)
    images-ended = left-images log.records unit kind

    -- a place whose image goes is one of the unit's
    gone-of : (part : ℕ) (place : List ℕ) (image : BeforeImage)
        → oldest (images_of log.records) part place ≡ Some image
        → oldest (images_of (ended log unit kind)) part place ≡ None
        → same_unit unit image.unit ≡ true
    gone-of part place image is none = by_unit (same_unit unit image.unit) refl
      where
        by_unit : (same : Bool) → same_unit unit image.unit ≡ same → same ≡ true
        by_unit true it = refl
        by_unit false it = absurd (some-none
            (sym (find-stays (is_image_of part place) keeps (images_of log.records) image is
            (ap not it))
            ∙ sym (ap (λ (images : List BeforeImage). oldest images part place) images-ended)
            ∙ none))

    -- what the units keep once this one has ended
    abbrev kept-on : List BeforeImage
    kept-on = kept_by (ended log unit kind) state.befores

    -- what is committed with the end at a place that nobody keeps then
    item-ended : (part : ℕ) (place : List ℕ) → oldest kept-on part place ≡ None
        → item_at (committed_by state (ended log unit kind) part) place
        ≡ item_at (state.contents part) place
    item-ended part place none = back-item part kept-on (state.contents part) place
        ∙ ap (λ (found : Option BeforeImage). kept_or found (item_at (state.contents part) place))
        none

    none-on : (part : ℕ) (place : List ℕ) → oldest state.befores part place ≡ None
        → oldest kept-on part place ≡ None
    none-on part place none = find-none (is_image_of part place)
        (λ (image : BeforeImage). not (has_commit (ended log unit kind) image.unit)) state.befores
        none

    -- whether a unit's commit is in the log with the end
    commit-ended : (other : UnitOfRecovery) → has_commit log.records other ≡ false
        → has_commit (ended log unit kind) other ≡ (same_unit unit other && is_committing kind)
    commit-ended other none = commit-append log.records (End unit kind) other
        ∙ ap (λ (b : Bool). b || (same_unit unit other && is_committing kind)) none

    no-commit : (part : ℕ) (place : List ℕ) (image : BeforeImage)
        → oldest state.befores part place ≡ Some image
        → has_commit log.records image.unit ≡ false
    no-commit part place image is = found-has
        (λ (i : BeforeImage). has_commit log.records i.unit ≡ false) (is_image_of part place)
        state.befores image (none-ended geometry state laid log logged) is

    -- each before-image that the log has with the end is a committed record
    olds-ended : (part : ℕ) (place : List ℕ) (image : BeforeImage)
        → oldest (images_of (ended log unit kind)) part place ≡ Some image
        → image.old ≡ standing_of (item_at (committed_by state (ended log unit kind) part) place)
    olds-ended part place image is = by_kept (oldest state.befores part place) refl
      where
        among : oldest (filter keeps (images_of log.records)) part place ≡ Some image
        among = sym (ap (λ (images : List BeforeImage). oldest images part place) images-ended) ∙ is

        all : oldest (images_of log.records) part place ≡ Some image
        all = filter-alone keeps part place (images_of log.records) image logged.alone among

        others : same_unit unit image.unit ≡ false
        others = not-true (same_unit unit image.unit)
            (find-passes (is_image_of part place) keeps (images_of log.records) image among)
          where
            not-true : (b : Bool) → not b ≡ true → b ≡ false
            not-true true is = sym is
            not-true false is = refl

        by_kept : (found : Option BeforeImage) → oldest state.befores part place ≡ found
            → image.old
            ≡ standing_of (item_at (committed_by state (ended log unit kind) part) place)
        by_kept None none = logged.back part place image all none
            ∙ sym (ap standing_of (item-ended part place (none-on part place none)))
        by_kept (Some kept) there =
            let same : Some image ≡ Some kept = sym all ∙ logged.kept part place kept there in
            let one : image ≡ kept = cc in
            let stays : oldest kept-on part place ≡ Some kept =
            find-stays (is_image_of part place)
            (λ (i : BeforeImage). not (has_commit (ended log unit kind) i.unit)) state.befores kept
            there (ap not (commit-ended kept.unit (no-commit part place kept there)
            ∙ ap (λ (i : BeforeImage). same_unit unit i.unit && is_committing kind) (sym one)
            ∙ ap (λ (b : Bool). b && is_committing kind) others)) in
            sym (image-record log.records part place image all)
            ∙ ap (λ (i : BeforeImage). standing_of i.old) one
            ∙ sym (ap standing_of (back-item part kept-on (state.contents part) place
            ∙ ap (λ (found : Option BeforeImage). kept_or found
            (item_at (state.contents part) place)) stays))

    -- at a place of the unit nobody keeps anything then
    own-none : KeepsNoneIf kind state unit → (part : ℕ) (place : List ℕ) (image : BeforeImage)
        → oldest (images_of log.records) part place ≡ Some image
        → same_unit unit image.unit ≡ true → oldest kept-on part place ≡ None
    own-none none part place image is same = by_kept (oldest state.befores part place) refl
      where
        dropped : (kept : BeforeImage) → oldest state.befores part place ≡ Some kept
            → same_unit unit kept.unit ≡ true → (k : EndKind) → kind ≡ k
            → KeepsNoneIf k state unit → (found : Option BeforeImage)
            → oldest kept-on part place ≡ found → found ≡ None
        dropped kept there mine BackedOut it none found was = absurd (true≢false (sym mine
            ∙ found-has (λ (i : BeforeImage). same_unit unit i.unit ≡ false)
            (is_image_of part place) state.befores kept none there))
        dropped kept there mine Committed it none None was = refl
        dropped kept there mine Committed it none (Some other) was =
            let found : oldest state.befores part place ≡ Some other =
            filter-alone (λ (i : BeforeImage). not (has_commit (ended log unit kind) i.unit)) part
            place state.befores other logged.once was in
            let same : Some kept ≡ Some other = sym there ∙ found in
            let one : kept ≡ other = cc in
            absurd (true≢false (sym (find-passes (is_image_of part place)
            (λ (i : BeforeImage). not (has_commit (ended log unit kind) i.unit)) state.befores other
            was)
            ∙ ap not (commit-ended other.unit (no-commit part place other found)
            ∙ ap (λ (i : BeforeImage). same_unit unit i.unit && is_committing kind) (sym one)
            ∙ ap (λ (b : Bool). b && is_committing kind) mine ∙ ap is_committing it)))

        by_kept : (found : Option BeforeImage) → oldest state.befores part place ≡ found
            → oldest kept-on part place ≡ None
        by_kept None free = none-on part place free
        by_kept (Some kept) there =
            let one : Some image ≡ Some kept = sym is ∙ logged.kept part place kept there in
            let it : image ≡ kept = cc in
            dropped kept there (ap (λ (i : BeforeImage). same_unit unit i.unit) (sym it) ∙ same)
            kind refl none (oldest kept-on part place) refl

    module _ (number : ℕ) (owners : Owners) (now : Seen)
        (safe : IsSafe geometry number owners log (committed_by state) now) where
      -- by all records that there are
      by-all : IsSafeBy geometry owners log.records (committed_by state log.records) now
      by-all = subst
          (λ (records : List LogRecord). IsSafeBy geometry owners records (committed_by state
          records) now) (take_all (length log.records) log.records (omega arith))
          (safe.by_log (first_of log (length log.records)) (inl (record {
            count = length log.records;
            forced = omega (arith, forced);
            all = omega arith;
            is = refl;
          })))

      -- the parts are on blocks that there are
      inside-now : (part : ℕ) (shape : Shape)
          → shape_by geometry (state.contents 0) part ≡ Some shape → IsInside geometry shape
      inside-now part shape is = by-all.committed.inside part shape
          (shape-same geometry state laid log.records part ∙ is)

      -- and each before-image that is left may be put back
      images-left : All (CanPutBack (shape_by geometry (state.contents 0)))
          (images_of (ended log unit kind))
      images-left = images-back geometry state laid log.records (images_of (ended log unit kind))
          (subst (All (CanPutBack (shape_by geometry (committed_by state log.records 0))))
          (sym images-ended)
          (All-filter keeps (CanPutBack (shape_by geometry (committed_by state log.records 0)))
          (images_of log.records) by-all.committed.images))

      alone-left : AreAlone (images_of (ended log unit kind))
      alone-left = subst AreAlone (sym images-ended)
          (alone-filter keeps (images_of log.records) logged.alone)

      -- What has to hold before the end is written.
      pub end-of : IsFirmFor geometry log state unit now → KeepsNoneIf kind state unit
          → IsEndOf geometry owners log (committed_by state) unit kind now
      end-of firm none = record {
        forced = omega (arith, forced);
        contents = are-committed geometry state laid (ended log unit kind) inside-now images-left
            alone-left olds-ended;
        laid = λ part shape is. inl (shape-same geometry state laid log.records part
            ∙ sym (shape-same geometry state laid (ended log unit kind) part) ∙ is);
        items = λ part shape is place found may gone. at-place part shape
            (sym (shape-same geometry state laid (ended log unit kind) part) ∙ is)
            place found may gone (oldest (images_of log.records) part place) refl;
      }
        where
          at-place : (part : ℕ) (shape : Shape)
              → shape_by geometry (state.contents 0) part ≡ Some shape → (place : List ℕ)
              (found : Option Item) → MayHold shape now.may place found
              → oldest (images_of (ended log unit kind)) part place ≡ None
              → (image : Option BeforeImage) → oldest (images_of log.records) part place ≡ image
              → found ≡ item_at (committed_by state (ended log unit kind) part) place
          at-place part shape is place found may gone None free =
              (by-all.parts part shape
              (shape-same geometry state laid log.records part ∙ is)).items place found may free
              ∙ item-there part place free
              ∙ sym (item-ended part place (none-on part place (none-kept part place free)))
          at-place part shape is place found may gone (Some image) there =
              let mine : same_unit unit image.unit ≡ true = gone-of part place image there gone in
              firm part place image shape found there mine is may
              ∙ sym (item-ended part place (own-none none part place image there mine))
