-- The record of a new part in the catalog of a store: the store is then that of the state in which
-- the unit that added it has ended.
use Rattle.std.proofs.Common.{◌≡◌, ◌≢◌, ◌⊎◌, inl, inr, ⊎_elim, ◌==◌, ℕ, Bool, true, false, cond}
use Rattle.std.proofs.Common.{List, [], ◌∷◌, ◌++◌, Option, Some, None, refl, sym, ap, subst, ◌∙◌}
use Rattle.std.proofs.Common.{arith, length, map}
use Rattle.std.specs.Option.{option_map}
use Rattle.std.specs.Prelude.{All}
use Rattle.std.proofs.lemmas.Bool.Decides.{Decides-eqb}
use Rattle.std.proofs.lemmas.List.{take_all}
use Rattle.std.proofs.lemmas.List.Elements.{All-cons, All-head, All-nil, All-push, All-tail}
use Rattle.std.proofs.lemmas.List.Elements.{All-weaker}
use Rattle.vr_types.specs.Content.{Content}
use Rattle.vr_types.specs.Locks.{same_unit}
use Rattle.vr_types.specs.Seen.{Seen}
use Rattle.vr_types.specs.declared.geometry.Geometry.{Geometry}
use Rattle.vr_types.specs.declared.unit.PartNo.{PartNo}
use Rattle.vr_types.specs.declared.unit.Unit.{Unit as UnitOfRecovery}
use Rattle.vr_space.specs.Known.{Known}
use Rattle.vr_space.specs.Part.{DueMore, IsDueTo, Shape, part_no}
use Rattle.vr_attach.specs.Owning.{owner_of}
use Rattle.vr_log.specs.Content.{Content as LogContent}
use Rattle.vr_log.specs.LogNow.{IsLogOf, LogNow, first_of}
use Rattle.vr_log.specs.declared.record.LogRecord.{LogRecord}
use Rattle.vr_history.specs.State.{BeforeImage, Logged, State}
use Rattle.vr_undo.specs.Records.{images_in}
use Rattle.vr_volume.specs.Committed.{committed_by, logged_of}
use Rattle.vr_volume.specs.Laid.{catalog_shape, shape_by}
use Rattle.vr_volume.specs.PutBack.{images_of, is_image_of, lengths_kept, oldest}
use Rattle.vr_volume.specs.Rests.{IsPartAtRest, IsVolumeAtRest}
use Rattle.vr_volume.specs.Volume.{CanPutBack}
use Rattle.vr_volume.proofs.Alone.{is-there}
use Rattle.vr_volume.proofs.CallerLemmas.{shape-same}
use Rattle.vr_store.specs.Define.{IsBegun}
use Rattle.vr_store.specs.Parts.{but_split}
use Rattle.vr_store.specs.Store.{IsPartSet, IsRestedPart, IsSet, IsStored, PartNow, StoreNow}
use Rattle.vr_store.specs.Store.{blocks_of, has_number, owners_of, part_among, shape_among}
use Rattle.vr_store.proofs.AddedParts.{among-added, among-more, with-added}
use Rattle.vr_store.proofs.Among.{HasShape, among-all, among-number, among-shape}
use Rattle.vr_store.proofs.PartsAt.{IsPartAt, part-split}
use Rattle.vr_store.proofs.PlacedParts.{all-with, map-with, shapes-same}
use Rattle.vr_store.proofs.Worked.{all-both}

some-none : {X : Type 0} {x : X} → Some x ≡ None → ⊥
some-none same = cc

some-same : {X : Type 0} {x y : X} → Some x ≡ Some y → x ≡ y
some-same same = cc

-- ---- the places that are logged

-- what holds of each image holds of one that is found
found-image : (P : BeforeImage → Type 0) (images : List BeforeImage) (part : ℕ) (place : List ℕ)
    (image : BeforeImage) → All P images → oldest images part place ≡ Some image
    → P image × (image.part ≡ part)
found-image P [] part place image all is = absurd (some-none (sym is))
found-image P (one ∷ images) part place image all is =
    by_test (is_image_of part place one) refl is
    (found-image P images part place image (All-tail P one images all))
  where
    by_test : (here : Bool) → is_image_of part place one ≡ here
        → cond here (Some one) (oldest images part place) ≡ Some image
        → (oldest images part place ≡ Some image → P image × (image.part ≡ part))
        → P image × (image.part ≡ part)
    by_test true here same further =
        subst (λ (i : BeforeImage). P i × (i.part ≡ part)) (some-same same)
        (All-head P one images all, (is-there part place one here).0)
    by_test false here same further = further same

all-logged : (P : Logged → Type 0) (images : List BeforeImage) → All P (map logged_of images)
    → All (λ (image : BeforeImage). P (logged_of image)) images
all-logged P [] all = All-nil (λ (image : BeforeImage). P (logged_of image))
all-logged P (image ∷ images) all = All-cons (λ (i : BeforeImage). P (logged_of i)) image images
    (All-head P (logged_of image) (map logged_of images) all)
    (all-logged P images (All-tail P (logged_of image) (map logged_of images) all))

-- ---- all but the last

all-but : {X : Type 0} (P : X → Type 0) (parts : List X) (last : X) → All P (parts ++ last ∷ [])
    → All P parts × P last
all-but P [] last all = (All-nil P, All-head P last [] all)
all-but P (one ∷ parts) last all =
    let further = all-but P parts last (All-tail P one (parts ++ last ∷ []) all) in (
      All-cons P one parts (All-head P one (parts ++ last ∷ []) all) further.0,
      further.1,
    )

-- ---- what the record is added to

module _ (number : ℕ) (store : StoreNow) (unit : UnitOfRecovery) (place bytes : List ℕ)
    (old new : State) (a : Seen) (set : IsSet store a)
    (begun : IsBegun number store unit place bytes old new a) (catalog : PartNow)
    (found : part_among store.parts 0 ≡ Some catalog) where
  abbrev geometry : Geometry
  geometry = store.log.geometry

  abbrev before : List PartNow
  before = begun.before

  abbrev added : PartNow
  added = begun.added

  -- the store without the new part
  abbrev less : StoreNow
  less = record store { parts = before }

  abbrev RestedOld : PartNow → Type 0
  RestedOld part = IsRestedPart less old a part

  all-set : All (IsPartSet a) (with-added added before)
  all-set = subst (All (IsPartSet a)) begun.is set.parts

  added-set : IsPartSet a added
  added-set = (all-but (IsPartSet a) before added all-set).1

  before-set : All (IsPartSet a) before
  before-set = (all-but (IsPartSet a) before added all-set).0

  -- the catalog is one of the others
  has-catalog : HasShape before 0 (catalog_shape geometry)
  has-catalog = among-shape before 0 (catalog_shape geometry)
      (begun.stored.whole 0 (catalog_shape geometry) refl)

  catalog-is : has-catalog.part ≡ catalog
  catalog-is = some-same (sym (among-more added before 0 has-catalog.part has-catalog.found)
      ∙ ap (λ (parts : List PartNow). part_among parts 0) (sym begun.is) ∙ found)

  pub found-before : part_among before 0 ≡ Some catalog
  found-before = has-catalog.found ∙ ap Some catalog-is

  pub catalog-rested : RestedOld catalog
  catalog-rested = among-all RestedOld before 0 catalog begun.stored.parts found-before

  pub catalog-number : (part_no catalog.shape).0 ≡ 0
  catalog-number = ap (λ (n : PartNo). n.0)
      (among-all (IsPartSet a) before 0 catalog before-set found-before).number
      ∙ among-number before 0 catalog found-before

  -- what may be put back of it takes the room that it takes of part 0
  pub kept-same : lengths_kept (images_in store.undo) (part_no catalog.shape).0
      ≡ lengths_kept (images_in store.undo) 0
  kept-same = ap (lengths_kept (images_in store.undo)) catalog-number

  -- ---- the numbers of the others

  added-number : added.number.0 ≡ (part_no added.shape).0
  added-number = ap (λ (n : PartNo). n.0) (sym added-set.number)

  -- a part that is laid isn't the new one
  apart-laid : (part : PartNow) → RestedOld part
      → (part_no part.shape).0 ≢ (part_no added.shape).0
  apart-laid part rested same = some-none (sym rested.laid
      ∙ ap (shape_by geometry (old.contents 0)) same ∙ begun.can.fresh)

  none-there : part_among before (part_no added.shape).0 ≡ None
  none-there = by_found (part_among before (part_no added.shape).0) refl
    where
      by_found : (one : Option PartNow) → part_among before (part_no added.shape).0 ≡ one
          → one ≡ None
      by_found None is = refl
      by_found (Some part) is = absurd (apart-laid part
          (among-all RestedOld before (part_no added.shape).0 part begun.stored.parts is)
          (ap (λ (n : PartNo). n.0) (among-all (IsPartSet a) before (part_no added.shape).0 part
          before-set is).number
          ∙ among-number before (part_no added.shape).0 part is))

  -- ---- once it is added

  module _ (b : Seen) (log : LogNow) (parts : List PartNow) (after : PartNow)
      (into : IsPartAt 0 catalog after store.parts parts) (number-same : after.number ≡ catalog.number)
      (same-shape : after.shape ≡ catalog.shape) (same : log.geometry ≡ geometry)
      (rests : IsVolumeAtRest geometry number (owners_of store) log (images_in store.undo) new b
      × IsPartAtRest geometry (owners_of store) (images_in store.undo) new catalog.shape after.known b
      × IsPartAtRest geometry (owners_of store) (images_in store.undo) new added.shape added.known b)
      (others : (other : Shape) (known : Known) → (part_no other).0 ≢ 0
      → (part_no other).0 ≢ (part_no added.shape).0
      → IsPartAtRest geometry (owners_of store) (images_in store.undo) old other known a
      → IsPartAtRest geometry (owners_of store) (images_in store.undo) new other known b)
      (others_due : (other : Shape) (known : Known) → (part_no other).0 ≢ 0
      → IsPartAtRest geometry (owners_of store) (images_in store.undo) old other known a
      → DueMore other [] a b) where
    -- the store as the call left it
    abbrev pub entered : StoreNow
    entered = record store { log = log; parts = parts }

    RestedNew : PartNow → Type 0
    RestedNew part = IsPartAtRest geometry (owners_of store) (images_in store.undo) new part.shape
        part.known b

    -- each part is at rest by the new state
    abbrev IsOne : PartNow → Type 0
    IsOne part = IsPartSet a part × ((part ≡ added) ⊎ RestedOld part)

    all-one : All IsOne (with-added added before)
    all-one = All-push IsOne before added
        (All-weaker (λ (part : PartNow). IsPartSet a part × RestedOld part) IsOne
        (λ part both. (both.0, inr both.1)) before
        (all-both (IsPartSet a) RestedOld before before-set begun.stored.parts))
        (added-set, inl refl)

    new-parts : All RestedNew parts
    unfolding RestedNew
    new-parts = subst (All RestedNew) (sym into.is)
        (all-with IsOne RestedNew 0 after
        (λ part apart is. ⊎_elim
        (λ last. subst RestedNew (sym last) rests.2)
        (λ rested. others part.shape part.known
        (λ zero. apart (ap (λ (n : PartNo). n.0) (sym is.0.number) ∙ zero))
        (apart-laid part rested) rested) is.1)
        (subst (λ (s : Shape). IsPartAtRest geometry (owners_of store) (images_in store.undo) new s
        after.known b) (sym same-shape) rests.1)
        store.parts set.apart (subst (All IsOne) (sym begun.is) all-one))

    -- ---- which parts are laid

    laid-new : (part : ℕ) (shape : Shape)
        → shape_by log.geometry (new.contents 0) part ≡ Some shape
        → cond (part == (part_no added.shape).0) (Some added.shape)
        (shape_by geometry (old.contents 0) part) ≡ Some shape
    laid-new part shape laid = sym (begun.can.lays part)
        ∙ ap (λ (c : Content). shape_by geometry c part) (sym (begun.defined.contents 0))
        ∙ ap (λ (g : Geometry). shape_by g (new.contents 0) part) (sym same) ∙ laid

    same-split : but_split after ≡ but_split catalog
    same-split = ap (λ (n : PartNo). part-split n after.shape None)
        number-same
        ∙ ap (λ (s : Shape). part-split catalog.number s None)
        same-shape

    same-parts : map but_split parts ≡ map but_split store.parts
    same-parts = ap (map but_split) into.is
        ∙ map-with but_split 0 catalog after same-split store.parts into.found

    whole-before : (part : ℕ) (shape : Shape) (last : Bool)
        → (part == (part_no added.shape).0) ≡ last
        → cond last (Some added.shape) (shape_by geometry (old.contents 0) part) ≡ Some shape
        → shape_among (with-added added before) part ≡ Some shape
    whole-before part shape true is laid =
        let here : part ≡ (part_no added.shape).0 =
        (Decides-eqb part (part_no added.shape).0).0 is in
        let there : has_number part added ≡ true =
        (Decides-eqb added.number.0 part).1 (added-number ∙ sym here) in
        ap (option_map (λ (p : PartNow). p.shape))
        (among-added added before part (ap (part_among before) here ∙ none-there)
        ∙ ap (λ (test : Bool). cond test (Some added) None) there) ∙ laid
    whole-before part shape false is laid =
        let has = among-shape before part shape (begun.stored.whole part shape laid) in
        ap (option_map (λ (p : PartNow). p.shape))
        (among-more added before part has.part has.found) ∙ ap Some has.is

    whole-new : (part : ℕ) (shape : Shape)
        → shape_by log.geometry (new.contents 0) part ≡ Some shape
        → shape_among parts part ≡ Some shape
    whole-new part shape laid = shapes-same parts store.parts same-parts part
        ∙ ap (λ (ps : List PartNow). shape_among ps part) begun.is
        ∙ whole-before part shape (part == (part_no added.shape).0) refl (laid-new part shape laid)

    -- ---- what is due

    -- an image that the log has then it had before, and it is of no place of the catalog
    image-old : (part : ℕ) (q : List ℕ) (image : BeforeImage)
        → oldest (images_of log.records) part q ≡ Some image
        → oldest (images_of store.log.records) part q ≡ Some image
    image-old part q image is = ap (λ (i : List BeforeImage). oldest i part q)
        (sym begun.stored.volume.kept ∙ rests.0.kept) ∙ is

    not-catalog : (part : ℕ) (q : List ℕ) (image : BeforeImage)
        → oldest (images_of store.log.records) part q ≡ Some image → part ≢ 0
    not-catalog part q image is zero =
        let there = found-image (λ (i : BeforeImage). i.part ≢ 0) (images_of store.log.records)
        part q image
        (all-logged (λ (logged : Logged). logged.part ≢ 0) (images_of store.log.records)
        (subst (All (λ (logged : Logged). logged.part ≢ 0))
        (sym begun.stored.volume.logged.logged) begun.unlogged)) is in
        there.0 (there.1 ∙ zero)

    -- nor of one of a part that isn't laid
    all-records : LogContent
    all-records = first_of store.log (length store.log.records)

    records-same : all-records.records ≡ store.log.records
    unfolding all-records
    records-same = take_all (length store.log.records) store.log.records (omega arith)

    is-log : IsLogOf store.log all-records
    unfolding all-records
    is-log = inl (record {
      count = length store.log.records;
      forced = omega (arith, begun.stored.volume.forced);
      all = omega arith;
      is = refl;
    })

    can-back : All (CanPutBack (shape_by geometry (committed_by old store.log.records 0)))
        (images_of store.log.records)
    can-back = subst (λ (records : List LogRecord).
        All (CanPutBack (shape_by geometry (committed_by old records 0))) (images_of records))
        records-same (begun.stored.volume.safe.by_log all-records is-log).committed.images

    not-new : (q : List ℕ) (image : BeforeImage)
        → oldest (images_of store.log.records) (part_no added.shape).0 q ≡ Some image → ⊥
    not-new q image is =
        let there = found-image
        (CanPutBack (shape_by geometry (committed_by old store.log.records 0)))
        (images_of store.log.records) (part_no added.shape).0 q image can-back is in
        some-none (sym there.0.laid
        ∙ ap (shape_by geometry (committed_by old store.log.records 0)) there.1
        ∙ shape-same geometry old begun.stored.volume.laid store.log.records
        (part_no added.shape).0 ∙ begun.can.fresh)

    due-new : (u : UnitOfRecovery) (part : ℕ) (q : List ℕ) (image : BeforeImage) (shape : Shape)
        → oldest (images_of store.log.records) part q ≡ Some image
        → same_unit u image.unit ≡ true → (last : Bool)
        → (part == (part_no added.shape).0) ≡ last
        → cond last (Some added.shape) (shape_by geometry (old.contents 0) part) ≡ Some shape
        → IsDueTo shape (blocks_of u store.changed) b q
    due-new u part q image shape is mine true last laid =
        absurd (not-new q image
        (ap (λ (n : ℕ). oldest (images_of store.log.records) n q)
        (sym ((Decides-eqb part (part_no added.shape).0).0 last)) ∙ is))
    due-new u part q image shape is mine false last laid =
        let has = among-shape before part shape (begun.stored.whole part shape laid) in
        let rested = among-all RestedOld before part has.part begun.stored.parts has.found in
        let there : (part_no has.part.shape).0 ≡ part =
        ap (λ (n : PartNo). n.0) (among-all (IsPartSet a) before part has.part before-set
        has.found).number ∙ among-number before part has.part has.found in
        subst (λ (s : Shape). IsDueTo s (blocks_of u store.changed) b q) has.is
        (others_due has.part.shape has.part.known
        (λ zero. not-catalog part q image is (sym there ∙ zero)) rested
        (blocks_of u store.changed) q
        (subst (λ (s : Shape). IsDueTo s (blocks_of u store.changed) a q) (sym has.is)
        (begun.stored.due u part q image shape is mine laid))
        (λ n inside. absurd (omega (arith, inside.1))))

    -- The store is then the new state's.
    pub stored-entered : IsStored number entered new b
    unfolding RestedNew
    stored-entered = record {
      volume = subst (λ (g : Geometry). IsVolumeAtRest g number (owner_of g store.space) log
          (images_in store.undo) new b) (sym same) rests.0;
      parts = subst (λ (g : Geometry). All (λ (p : PartNow). IsPartAtRest g (owner_of g store.space)
          (images_in store.undo) new p.shape p.known b) parts) (sym same) new-parts;
      whole = whole-new;
      befores = begun.stored.befores ∙ sym begun.defined.befores;
      logged = begun.stored.logged ∙ sym begun.defined.logged;
      due = λ u part q image shape is mine laid. due-new u part q image shape
          (image-old part q image is) mine (part == (part_no added.shape).0) refl
          (laid-new part shape laid);
    }
