-- The state once the record of a new part is in the catalog: the parts are laid, with one more, and
-- with the commit of the unit that added it the log commits what the state has.
use Rattle.std.proofs.Common.{◌≡◌, ◌≢◌, ◌⊎◌, inl, inr, ⊎_elim, ℕ, Bool, true, false, cond, not}
use Rattle.std.proofs.Common.{List, [], ◌∷◌, ◌++◌, Option, Some, None, refl, sym, ap, subst}
use Rattle.std.proofs.Common.{◌∙◌, ◌==◌, ◌&&◌, ◌||◌}
use Rattle.std.specs.Prelude.{All}
use Rattle.std.proofs.lemmas.Bool.{true≢false}
use Rattle.std.proofs.lemmas.Bool.Decides.{Decides-eqb}
use Rattle.std.proofs.lemmas.List.Elements.{All-cons, All-head, All-nil, All-tail}
use Rattle.vr_types.specs.Content.{Ascends, Content, Standing, item_at}
use Rattle.vr_types.specs.Image.{Image}
use Rattle.vr_types.specs.Locks.{same_unit}
use Rattle.vr_types.specs.declared.geometry.Geometry.{Geometry}
use Rattle.vr_types.specs.declared.unit.Unit.{Unit as UnitOfRecovery}
use Rattle.vr_space.specs.Owners.{Owners}
use Rattle.vr_space.specs.Part.{Shape, part_no}
use Rattle.vr_altkey.specs.Placing.{placed_in}
use Rattle.vr_altkey.proofs.CallerLemmas.{placed_ascends, placed_elsewhere, placed_here}
use Rattle.vr_log.specs.Content.{Content as LogContent}
use Rattle.vr_log.specs.LogNow.{IsForced, LogNow}
use Rattle.vr_log.specs.declared.record.EndKind.TheVariants.{Committed}
use Rattle.vr_log.specs.declared.record.LogRecord.{LogRecord}
use Rattle.vr_log.specs.declared.record.LogRecord.TheVariants.{End}
use Rattle.vr_history.specs.Committed.{kept_or}
use Rattle.vr_history.specs.Effects.{is_other}
use Rattle.vr_history.specs.State.{BeforeImage, Logged, State}
use Rattle.vr_volume.specs.CatalogRules.{IsCatalog}
use Rattle.vr_volume.specs.Committed.{HasLogged, IsKeptIn, IsLaidState, committed_by, has_commit}
use Rattle.vr_volume.specs.Committed.{kept_by}
use Rattle.vr_volume.specs.Crashes.{RecoversTo, committed_with}
use Rattle.vr_volume.specs.Defining.{CanDefine, IsDefinedIn}
use Rattle.vr_volume.specs.Ended.{ended}
use Rattle.vr_volume.specs.Laid.{shape_by}
use Rattle.vr_volume.specs.PutBack.{AreAlone, images_of, oldest, put_back, standing, standing_of}
use Rattle.vr_volume.specs.Safe.{AreCommitted, IsImageSafe}
use Rattle.vr_volume.specs.Steps.{IsEndedIn}
use Rattle.vr_volume.specs.Volume.{CanPutBack, IsInside}
use Rattle.vr_volume.proofs.Begun.{begun, free-begun, images-over, logged-over, others-kept}
use Rattle.vr_volume.proofs.Begun.{state_begun, whole-kept}
use Rattle.vr_volume.proofs.Committing.{all-map, are-committed, commit-append, kept-all, none-ended}
use Rattle.vr_volume.proofs.Crashing.{HasWithdrawn, kept-whole, recovers-to, unlogged-none}
use Rattle.vr_volume.proofs.Meeting.{image-record, none-kept}
use Rattle.vr_volume.proofs.PuttingBack.{back-item, stands-back}
use Rattle.vr_volume.proofs.Recovering.{image_recovers}

some-none : {X : Type 0} {x : X} → Some x ≡ None → ⊥
some-none same = cc

none-some : {X : Type 0} {x : X} → None ≡ Some x → ⊥
none-some same = cc

some-same : (one other : Shape) → Some one ≡ Some other → one ≡ other
some-same one other same = cc

-- the state but for the record
abbrev pub state_bare : State → State → State
state_bare old new = record new { contents = old.contents }

module _ (geometry : Geometry) (old new : State) (laid : IsLaidState geometry old) (log : LogNow)
    (logged : HasLogged log old) (forced : IsForced log) (unit : UnitOfRecovery) (shape : Shape)
    (place bytes : List ℕ) (need : ℕ) (can : CanDefine geometry log unit shape place bytes old)
    (made : IsDefinedIn unit place bytes need old new) where
  -- ---- the contents

  pub other-entered : (part : ℕ) → part ≢ 0 → new.contents part ≡ old.contents part
  other-entered part apart = by_test (part == 0) refl
    where
      by_test : (mine : Bool) → (part == 0) ≡ mine → new.contents part ≡ old.contents part
      by_test true is = absurd (apart ((Decides-eqb part 0).0 is))
      by_test false is = made.contents part
          ∙ ap (λ (b : Bool). cond b (placed_in place (Some (Standing bytes)) (old.contents part))
          (old.contents part)) is

  catalog-entered : new.contents 0 ≡ placed_in place (Some (Standing bytes)) (old.contents 0)
  catalog-entered = made.contents 0

  pub item-here : item_at (new.contents 0) place ≡ Some (Standing bytes)
  item-here = ap (λ (content : Content). item_at content place) catalog-entered
      ∙ placed_here place (Some (Standing bytes)) (old.contents 0)

  pub item-else : (part : ℕ) (at : List ℕ) → (part ≡ 0 → at ≡ place → ⊥)
      → item_at (new.contents part) at ≡ item_at (old.contents part) at
  item-else part at apart = by_test (part == 0) refl
    where
      by_test : (mine : Bool) → (part == 0) ≡ mine
          → item_at (new.contents part) at ≡ item_at (old.contents part) at
      by_test true is =
          let zero-is : part ≡ 0 = (Decides-eqb part 0).0 is in
          ap (λ (p : ℕ). item_at (new.contents p) at) zero-is
          ∙ ap (λ (content : Content). item_at content at) catalog-entered
          ∙ placed_elsewhere place (Some (Standing bytes)) (old.contents 0) at (apart zero-is)
          ∙ ap (λ (p : ℕ). item_at (old.contents p) at) (sym zero-is)
      by_test false is = ap (λ (content : Content). item_at content at) (other-entered part
          (λ zero-is. true≢false (sym ((Decides-eqb part 0).1 zero-is) ∙ is)))

  -- ---- the parts

  lays-entered : (part : ℕ) → shape_by geometry (new.contents 0) part
      ≡ cond (part == (part_no shape).0) (Some shape) (shape_by geometry (old.contents 0) part)
  lays-entered part = ap (λ (content : Content). shape_by geometry content part) (made.contents 0)
      ∙ can.lays part

  -- the new part is laid,
  pub laid-here : shape_by geometry (new.contents 0) (part_no shape).0 ≡ Some shape
  laid-here = lays-entered (part_no shape).0
      ∙ ap (λ (b : Bool).
      cond b (Some shape) (shape_by geometry (old.contents 0) (part_no shape).0))
      ((Decides-eqb (part_no shape).0 (part_no shape).0).1 refl)

  -- and the others are as they were
  pub laid-else : (part : ℕ) → part ≢ (part_no shape).0
      → shape_by geometry (new.contents 0) part ≡ shape_by geometry (old.contents 0) part
  laid-else part apart = by_test (part == (part_no shape).0) refl
    where
      by_test : (mine : Bool) → (part == (part_no shape).0) ≡ mine
          → shape_by geometry (new.contents 0) part ≡ shape_by geometry (old.contents 0) part
      by_test true is = absurd (apart ((Decides-eqb part (part_no shape).0).0 is))
      by_test false is = lays-entered part
          ∙ ap (λ (b : Bool). cond b (Some shape) (shape_by geometry (old.contents 0) part)) is

  pub laid-cases : (part : ℕ) (found : Shape)
      → shape_by geometry (new.contents 0) part ≡ Some found
      → ((part ≡ (part_no shape).0) × (found ≡ shape))
      ⊎ ((part ≢ (part_no shape).0) × (shape_by geometry (old.contents 0) part ≡ Some found))
  laid-cases part found is = by_test (part == (part_no shape).0) refl
    where
      by_test : (mine : Bool) → (part == (part_no shape).0) ≡ mine
          → ((part ≡ (part_no shape).0) × (found ≡ shape))
          ⊎ ((part ≢ (part_no shape).0) × (shape_by geometry (old.contents 0) part ≡ Some found))
      by_test true mine =
          let here : part ≡ (part_no shape).0 = (Decides-eqb part (part_no shape).0).0 mine in
          inl (
            here,
            some-same found shape (sym is
                ∙ ap (shape_by geometry (new.contents 0)) here ∙ laid-here),
          )
      by_test false mine =
          let apart : part ≢ (part_no shape).0 =
          λ here. true≢false (sym ((Decides-eqb part (part_no shape).0).1 here) ∙ mine) in
          inr (apart, sym (laid-else part apart) ∙ is)

  -- a part that was laid is laid so
  pub laid-still : (part : ℕ) (found : Shape)
      → shape_by geometry (old.contents 0) part ≡ Some found
      → shape_by geometry (new.contents 0) part ≡ Some found
  laid-still part found is = laid-else part (λ here. none-some
      (sym can.fresh ∙ ap (shape_by geometry (old.contents 0)) (sym here) ∙ is)) ∙ is

  none-still : (part : ℕ) → shape_by geometry (new.contents 0) part ≡ None
      → shape_by geometry (old.contents 0) part ≡ None
  none-still part none = sym (laid-else part (λ here. some-none
      (sym laid-here ∙ ap (shape_by geometry (new.contents 0)) (sym here) ∙ none))) ∙ none

  catalog-laid : (part : ℕ) → shape_by geometry (new.contents 0) part ≡ None → part ≢ 0
  catalog-laid part none zero-is =
      some-none (ap (shape_by geometry (new.contents 0)) (sym zero-is) ∙ none)

  pub laid-entered : IsLaidState geometry new
  laid-entered = record {
    each = λ part. by_part part (part == 0) refl;
    catalog = subst (IsCatalog geometry) (sym (made.contents 0)) can.catalog;
    others = λ part none. other-entered part (catalog-laid part none)
        ∙ laid.others part (none-still part none);
    kept = subst (All (IsKeptIn geometry new)) (sym made.befores)
        (all-map (IsKeptIn geometry old) (IsKeptIn geometry new)
        (λ image it. record {
          not_catalog = it.not_catalog;
          shape = it.shape;
          laid = laid-still image.part it.shape it.laid;
          place = it.place;
        }) old.befores laid.kept);
  }
    where
      by_part : (part : ℕ) (mine : Bool) → (part == 0) ≡ mine → Ascends (new.contents part)
      by_part part true is = subst (λ (p : ℕ). Ascends (new.contents p))
          (sym ((Decides-eqb part 0).0 is))
          (subst Ascends (sym catalog-entered)
          (placed_ascends place (Some (Standing bytes)) (old.contents 0) (laid.each 0)))
      by_part part false is = subst Ascends (sym (other-entered part
          (λ zero-is. true≢false (sym ((Decides-eqb part 0).1 zero-is) ∙ is)))) (laid.each part)

  -- ---- what is committed with the end of the unit

  free : oldest (images_of log.records) 0 place ≡ None
  free = free-begun geometry old laid log logged unit place can.current can.idle can.unlogged

  -- a place that has an image isn't that of the record
  apart-from : (part : ℕ) (at : List ℕ) (image : BeforeImage)
      → oldest (images_of log.records) part at ≡ Some image → part ≡ 0 → at ≡ place → ⊥
  apart-from part at image is here there = some-none (sym is
      ∙ ap (λ (p : ℕ). oldest (images_of log.records) p at) here
      ∙ ap (oldest (images_of log.records) 0) there ∙ free)

  module _ (more : LogNow) (grown : more.records ≡ log.records ++ begun unit place ∷ []) where
    abbrev pub over : List LogRecord
    over = ended more unit Committed

    pub images-are : images_of over ≡ images_of log.records
    images-are = images-over geometry old laid log logged unit place can.current can.idle
        can.unlogged more grown Committed

    -- no unit that keeps something has committed
    none-over : All (λ (image : BeforeImage). has_commit over image.unit ≡ false) old.befores
    none-over = both old.befores (none-ended geometry old laid log logged)
        (others-kept geometry old laid log logged unit place can.current can.idle can.unlogged)
      where
        or-false : (b : Bool) → (b || false) ≡ b
        or-false true = refl
        or-false false = refl

        apart : (b : Bool) → not b ≡ true → b ≡ false
        apart true is = sym is
        apart false is = refl

        one : (other : UnitOfRecovery) → has_commit log.records other ≡ false
            → is_other unit other ≡ true → has_commit over other ≡ false
        one other none mine = commit-append more.records (End unit Committed) other
            ∙ ap (λ (records : List LogRecord). has_commit records other
            || (same_unit unit other && true)) grown
            ∙ ap (λ (b : Bool). b || (same_unit unit other && true))
            (commit-append log.records (begun unit place) other
            ∙ or-false (has_commit log.records other) ∙ none)
            ∙ ap (λ (b : Bool). b && true) (apart (same_unit unit other) mine)

        both : (images : List BeforeImage)
            → All (λ (image : BeforeImage). has_commit log.records image.unit ≡ false) images
            → All (λ (image : BeforeImage). is_other unit image.unit ≡ true) images
            → All (λ (image : BeforeImage). has_commit over image.unit ≡ false) images
        both [] none mine =
            All-nil (λ (image : BeforeImage). has_commit over image.unit ≡ false)
        both (image ∷ images) none mine =
            All-cons (λ (i : BeforeImage). has_commit over i.unit ≡ false) image images
            (one image.unit
            (All-head (λ (i : BeforeImage). has_commit log.records i.unit ≡ false) image images
            none)
            (All-head (λ (i : BeforeImage). is_other unit i.unit ≡ true) image images mine))
            (both images
            (All-tail (λ (i : BeforeImage). has_commit log.records i.unit ≡ false) image images
            none)
            (All-tail (λ (i : BeforeImage). is_other unit i.unit ≡ true) image images mine))

    committed-over : (part : ℕ)
        → committed_by new over part ≡ put_back part old.befores (new.contents part)
    committed-over part =
        ap (λ (images : List BeforeImage). put_back part images (new.contents part))
        (ap (kept_by over) made.befores ∙ kept-all over old.befores none-over)

    item-over : (part : ℕ) (at : List ℕ) → item_at (committed_by new over part) at
        ≡ kept_or (oldest old.befores part at) (item_at (new.contents part) at)
    item-over part at = ap (λ (content : Content). item_at content at) (committed-over part)
        ∙ back-item part old.befores (new.contents part) at

    -- what is at a place without an image is committed
    pub free-over : (part : ℕ) (at : List ℕ) → oldest (images_of log.records) part at ≡ None
        → item_at (committed_by new over part) at ≡ item_at (new.contents part) at
    free-over part at none = item-over part at
        ∙ ap (λ (found : Option BeforeImage). kept_or found (item_at (new.contents part) at))
        (none-kept geometry old laid log logged forced part at none)

    -- and each image is the committed record of its place
    olds-over : (part : ℕ) (at : List ℕ) (image : BeforeImage)
        → oldest (images_of over) part at ≡ Some image
        → image.old ≡ standing_of (item_at (committed_by new over part) at)
    olds-over part at image is = by_kept (oldest old.befores part at) refl
      where
        there : oldest (images_of log.records) part at ≡ Some image
        there = ap (λ (images : List BeforeImage). oldest images part at) (sym images-are) ∙ is

        by_kept : (found : Option BeforeImage) → oldest old.befores part at ≡ found
            → image.old ≡ standing_of (item_at (committed_by new over part) at)
        by_kept None none = logged.back part at image there none
            ∙ sym (ap standing_of (item-over part at
            ∙ ap (λ (found : Option BeforeImage). kept_or found (item_at (new.contents part) at))
            none ∙ item-else part at (apart-from part at image there)))
        by_kept (Some kept) is-kept =
            let same : Some image ≡ Some kept =
            sym there ∙ logged.kept part at kept is-kept in
            let one : image ≡ kept = cc in
            sym (image-record log.records part at image there)
            ∙ ap (λ (i : BeforeImage). standing_of i.old) one
            ∙ sym (ap standing_of (item-over part at
            ∙ ap (λ (found : Option BeforeImage). kept_or found (item_at (new.contents part) at))
            is-kept))

    pub are-over : ((part : ℕ) (found : Shape)
        → shape_by geometry (old.contents 0) part ≡ Some found → IsInside geometry found)
        → All (CanPutBack (shape_by geometry (old.contents 0))) (images_of log.records)
        → AreCommitted geometry over (committed_by new over)
    are-over inside backs = are-committed geometry new laid-entered over
        (λ part found is. ⊎_elim
        (λ here. subst (IsInside geometry) (sym here.1) can.inside)
        (λ other. inside part found other.1) (laid-cases part found is))
        (subst (All (CanPutBack (shape_by geometry (new.contents 0)))) (sym images-are)
        (all-map (CanPutBack (shape_by geometry (old.contents 0)))
        (CanPutBack (shape_by geometry (new.contents 0)))
        (λ image it. record {
          shape = it.shape;
          laid = laid-still image.part it.shape it.laid;
          place = it.place;
          old = it.old;
        }) (images_of log.records) backs))
        (subst AreAlone (sym images-are) logged.alone) olds-over

    -- ---- what an image recovers to that has the end

    records-over : (part : ℕ)
        → standing (committed_by new over part) ≡ committed_with [] new part
    records-over part = ap standing (committed-over part)
        ∙ stands-back part old.befores (new.contents part) (laid-entered.each part)
        (λ at image is. image-record log.records part at image (logged.kept part at image is))
        ∙ ap (λ (images : List BeforeImage). put_back part images (standing (new.contents part)))
        (sym made.befores ∙ sym (kept-whole new.befores))

    withdrawn-over : HasWithdrawn new over (committed_by new over)
    withdrawn-over part at n unlogged item =
        let none : oldest (images_of log.records) part at ≡ None =
        unlogged-none (images_of log.records) part at
        (subst (All (λ (l : Logged). l.part ≡ part → l.place ≢ at))
        (made.logged ∙ sym logged.logged) unlogged) in (
          ap (λ (images : List BeforeImage). oldest images part at) images-are ∙ none,
          free-over part at none ∙ item,
        )

    -- It recovers to what is committed in the state.
    pub over-recovers : (number : ℕ) (owners : Owners) (image : Image) (content : LogContent)
        → content.records ≡ over
        → IsImageSafe geometry number owners content (committed_by new content.records) image
        → RecoversTo geometry number new [] image
    over-recovers number owners image content is safe = recovers-to geometry number image content
        (committed_by new content.records) new []
        (image_recovers geometry number owners image content (committed_by new content.records)
        safe)
        (λ part. ap (λ (records : List LogRecord). standing (committed_by new records part)) is
        ∙ records-over part)
        (subst (λ (records : List LogRecord). HasWithdrawn new records (committed_by new records))
        (sym is) withdrawn-over)

  -- ---- what the log has

  -- the state but for the record is that in which the unit has ended,
  pub bare-ended : IsEndedIn unit (state_begun old unit place need) (state_bare old new)
  bare-ended = record {
    contents = λ part. refl;
    befores = made.befores ∙ sym (whole-kept geometry old laid log logged unit place can.current
        can.idle can.unlogged);
    logged = made.logged ∙ sym (logged-over geometry old laid log logged unit place can.current
        can.idle can.unlogged need);
    used = made.used;
    numbers = made.numbers;
  }

  -- and a log that has what it logged has what the state logged, where it has no image of the place
  pub logged-entered : (now : LogNow) → oldest (images_of now.records) 0 place ≡ None
      → HasLogged now (state_bare old new) → HasLogged now new
  logged-entered now none has = record {
    alone = has.alone;
    once = has.once;
    kept = has.kept;
    back = λ part at image is gone. has.back part at image is gone
        ∙ sym (ap standing_of (item-else part at (λ here there. some-none (sym is
        ∙ ap (λ (p : ℕ). oldest (images_of now.records) p at) here
        ∙ ap (oldest (images_of now.records) 0) there ∙ none))));
    logged = has.logged;
    live = has.live;
    used = has.used;
    ended = has.ended;
    current = has.current;
  }
