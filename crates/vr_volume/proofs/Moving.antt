-- What a change of a record leaves: the log has again what the state logged, and what is committed
-- is what was.
use Rattle.std.proofs.Common.{◌≡◌, ◌≢◌, ◌⊎◌, inl, inr, ⊎_elim, ℕ, Bool, true, false, cond, List, []}
use Rattle.std.proofs.Common.{◌∷◌, ◌++◌, ◌+◌, Option, Some, None, refl, sym, ap, subst, ◌∙◌, arith}
use Rattle.std.proofs.Common.{length, map, ◌==◌, ◌||◌}
use Rattle.std.specs.Prelude.{All}
use Rattle.std.specs.List.{list_any}
use Rattle.std.specs.Option.{option_or}
use Rattle.std.proofs.lemmas.Bool.{true≢false}
use Rattle.std.proofs.lemmas.Bool.Decides.{Decides-eqb}
use Rattle.std.proofs.lemmas.List.{length-append, map-append}
use Rattle.std.proofs.lemmas.List.Elements.{All-append, All-cons, All-nil}
use Rattle.vr_types.specs.Content.{Content, Ascends, item_at}
use Rattle.vr_types.specs.Locks.{same_unit}
use Rattle.vr_types.specs.LogSpace.{end_length}
use Rattle.vr_types.specs.declared.geometry.Geometry.{Geometry}
use Rattle.vr_types.specs.declared.unit.PartNo.{PartNo}
use Rattle.vr_types.specs.declared.unit.Unit.{Unit as UnitOfRecovery}
use Rattle.vr_altkey.specs.Placing.{placed_in}
use Rattle.vr_altkey.proofs.CallerLemmas.{placed_here, placed_elsewhere, placed_ascends}
use Rattle.vr_log.specs.Live.{is_in, live_after, live_in, need_of, used_by}
use Rattle.vr_log.specs.LogNow.{LogNow}
use Rattle.vr_log.specs.Records.{bytes_of, record_bytes}
use Rattle.vr_log.specs.declared.record.LogRecord.{LogRecord}
use Rattle.vr_log.specs.declared.record.LogRecord.TheVariants.{Before}
use Rattle.vr_history.specs.Committed.{kept_or}
use Rattle.vr_history.specs.State.{BeforeImage, Logged, State, is_live}
use Rattle.vr_history.proofs.CallerLemmas.{unit_self}
use Rattle.vr_history.proofs.Same.{unit_same}
use Rattle.vr_volume.specs.CatalogRules.{IsCatalog}
use Rattle.vr_volume.specs.Committed.{HasLogged, IsCurrent, IsKeptIn, IsLaidState, IsPast}
use Rattle.vr_volume.specs.Committed.{committed_by, logged_of}
use Rattle.vr_volume.specs.Laid.{shape_by}
use Rattle.vr_volume.specs.PutBack.{AreAlone, images_of, is_image_of, oldest, standing_of}
use Rattle.vr_volume.specs.Steps.{Changing, IsChangeOf, IsFirstChange, IsPutIn, image_by}
use Rattle.vr_volume.proofs.Alone.{alone-append, is-own, is-there}
use Rattle.vr_volume.proofs.Committing.{all-map, item-now}
use Rattle.vr_volume.proofs.Images.{images-append, live-append, oldest-append}
use Rattle.vr_volume.proofs.Living.{live-or-none}

some-none : {X : Type 0} {x : X} → Some x ≡ None → ⊥
some-none same = cc

none-some : {X : Type 0} {x : X} → None ≡ Some x → ⊥
none-some same = cc

-- ---- the contents with an item put in

module _ (geometry : Geometry) (old new : State) (change : Changing)
    (laid : IsLaidState geometry old) (of : IsChangeOf geometry old change)
    (put : IsPutIn change old new) where
  contents-by : (mine : Bool) → (part : ℕ) → (part == change.part.0) ≡ mine
      → new.contents part
      ≡ cond mine (placed_in change.place change.new (old.contents part)) (old.contents part)
  contents-by mine part is = ap (λ (contents : ℕ → Content). contents part) put
      ∙ ap (λ (b : Bool). cond b (placed_in change.place change.new (old.contents part))
      (old.contents part)) is

  pub other-part : (part : ℕ) → part ≢ change.part.0 → new.contents part ≡ old.contents part
  other-part part apart = by_test (part == change.part.0) refl
    where
      by_test : (mine : Bool) → (part == change.part.0) ≡ mine
          → new.contents part ≡ old.contents part
      by_test true is = absurd (apart ((Decides-eqb part change.part.0).0 is))
      by_test false is = contents-by false part is

  pub own-part : new.contents change.part.0
      ≡ placed_in change.place change.new (old.contents change.part.0)
  own-part = contents-by true change.part.0 ((Decides-eqb change.part.0 change.part.0).1 refl)

  pub item-here : item_at (new.contents change.part.0) change.place ≡ change.new
  item-here = ap (λ (content : Content). item_at content change.place) own-part
      ∙ placed_here change.place change.new (old.contents change.part.0)

  pub item-else : (part : ℕ) (place : List ℕ)
      → (part ≡ change.part.0 → place ≡ change.place → ⊥)
      → item_at (new.contents part) place ≡ item_at (old.contents part) place
  item-else part place apart = by_test (part == change.part.0) refl
    where
      by_test : (mine : Bool) → (part == change.part.0) ≡ mine
          → item_at (new.contents part) place ≡ item_at (old.contents part) place
      by_test true is = ap (λ (content : Content). item_at content place) (contents-by true part is)
          ∙ placed_elsewhere change.place change.new (old.contents part) place
          (apart ((Decides-eqb part change.part.0).0 is))
      by_test false is =
          ap (λ (content : Content). item_at content place) (contents-by false part is)

  pub catalog-stays : new.contents 0 ≡ old.contents 0
  catalog-stays = other-part 0 (λ same. of.not_catalog (sym same))

  shape-stays : (part : ℕ)
      → shape_by geometry (new.contents 0) part ≡ shape_by geometry (old.contents 0) part
  shape-stays part = ap (λ (catalog : Content). shape_by geometry catalog part) catalog-stays

  -- the parts stay laid
  pub laid-stays : All (IsKeptIn geometry old) new.befores → IsLaidState geometry new
  laid-stays kept = record {
    each = λ part. by_part part (part == change.part.0) refl;
    catalog = subst (IsCatalog geometry) (sym catalog-stays) laid.catalog;
    others = λ part none.
        other-part part (λ same. none-some (sym (sym (shape-stays part) ∙ none)
        ∙ ap (shape_by geometry (old.contents 0)) same ∙ of.laid))
        ∙ laid.others part (sym (shape-stays part) ∙ none);
    kept = all-map (IsKeptIn geometry old) (IsKeptIn geometry new)
        (λ image it. record {
          not_catalog = it.not_catalog;
          shape = it.shape;
          laid = shape-stays image.part ∙ it.laid;
          place = it.place;
        }) new.befores kept;
  }
    where
      by_part : (part : ℕ) (mine : Bool) → (part == change.part.0) ≡ mine
          → Ascends (new.contents part)
      by_part part true is = subst Ascends (sym (contents-by true part is))
          (placed_ascends change.place change.new (old.contents part) (laid.each part))
      by_part part false is = subst Ascends (sym (contents-by false part is)) (laid.each part)

-- ---- the first change of a place

pub bytes-more : (records : List LogRecord) (rec : LogRecord)
    → length (bytes_of (records ++ rec ∷ []))
    ≡ length (bytes_of records) + length (record_bytes rec)
bytes-more [] rec = length-append (record_bytes rec) [] ∙ omega arith
bytes-more (first ∷ records) rec =
    length-append (record_bytes first) (bytes_of (records ++ rec ∷ []))
    ∙ ap (λ (n : ℕ). length (record_bytes first) + n) (bytes-more records rec)
    ∙ (omega (arith, length-append (record_bytes first) (bytes_of records)))

-- a record more takes what it needs
pub used-append : (records : List LogRecord) (unit : UnitOfRecovery) (part : PartNo)
    (place : List ℕ) (old : Option (List ℕ))
    → used_by (records ++ Before unit part place old ∷ [])
    ≡ used_by records + need_of (live_in records) (Before unit part place old)
unfolding live_after need_of
used-append records unit part place old =
    by_live (is_in unit (live_in records)) refl
  where
    rec : LogRecord
    rec = Before unit part place old

    wider : length (bytes_of (records ++ rec ∷ []))
        ≡ length (bytes_of records) + length (record_bytes rec)
    wider = bytes-more records rec

    live-more : live_in (records ++ rec ∷ []) ≡ live_after (live_in records) rec
    live-more = live-append [] records rec

    by_live : (there : Bool) → is_in unit (live_in records) ≡ there
        → used_by (records ++ rec ∷ []) ≡ used_by records + need_of (live_in records) rec
    by_live true is =
        let same : length (live_in (records ++ rec ∷ [])) ≡ length (live_in records) =
        ap length (live-more
        ∙ ap (λ (b : Bool). cond b (live_in records) (live_in records ++ unit ∷ [])) is) in
        let need : need_of (live_in records) rec ≡ length (record_bytes rec) + 0 =
        ap (λ (b : Bool). length (record_bytes rec) + cond b 0 end_length) is in
        omega (arith, wider, same, need)
    by_live false is =
        let more : length (live_in (records ++ rec ∷ [])) ≡ length (live_in records) + 1 =
        ap length (live-more
        ∙ ap (λ (b : Bool). cond b (live_in records) (live_in records ++ unit ∷ [])) is)
        ∙ length-append (live_in records) (unit ∷ []) in
        let need : need_of (live_in records) rec ≡ length (record_bytes rec) + end_length =
        ap (λ (b : Bool). length (record_bytes rec) + cond b 0 end_length) is in
        omega (arith, wider, more, need)

-- the units that are live with a before-image more
pub live-with : (records : List LogRecord) (logged : List Logged) (unit : UnitOfRecovery)
    (part : PartNo) (place : List ℕ) (old : Option (List ℕ)) (image : Logged) → image.unit ≡ unit
    → ((other : UnitOfRecovery) → is_in other (live_in records)
    ≡ list_any (λ (l : Logged). same_unit other l.unit) logged)
    → (other : UnitOfRecovery) → is_in other (live_in (records ++ Before unit part place old ∷ []))
    ≡ list_any (λ (l : Logged). same_unit other l.unit) (logged ++ image ∷ [])
unfolding live_after
live-with records logged unit part place old image mine live other =
    ap (is_in other) (live-append [] records (Before unit part place old))
    ∙ by_live (is_in unit (live_in records)) refl
    ∙ sym (any-append logged)
  where
    test : Logged → Bool
    test l = same_unit other l.unit

    or-false : (b : Bool) → (b || false) ≡ b
    or-false true = refl
    or-false false = refl

    any-append : (ls : List Logged)
        → list_any test (ls ++ image ∷ []) ≡ (list_any test ls || same_unit other unit)
    any-append [] = or-false (same_unit other image.unit)
        ∙ ap (same_unit other) mine
    any-append (l ∷ ls) = by_first (test l) (any-append ls)
      where
        by_first : (b : Bool)
            → list_any test (ls ++ image ∷ []) ≡ (list_any test ls || same_unit other unit)
            → (b || list_any test (ls ++ image ∷ []))
            ≡ ((b || list_any test ls) || same_unit other unit)
        by_first true further = refl
        by_first false further = further

    in-append : (units : List UnitOfRecovery)
        → is_in other (units ++ unit ∷ []) ≡ (is_in other units || same_unit other unit)
    in-append [] = or-false (same_unit other unit)
    in-append (first ∷ units) = by_first (same_unit other first) (in-append units)
      where
        by_first : (b : Bool)
            → is_in other (units ++ unit ∷ []) ≡ (is_in other units || same_unit other unit)
            → (b || is_in other (units ++ unit ∷ []))
            ≡ ((b || is_in other units) || same_unit other unit)
        by_first true further = refl
        by_first false further = further

    -- one that is live already
    again : is_in unit (live_in records) ≡ true → (same : Bool) → same_unit other unit ≡ same
        → is_in other (live_in records) ≡ (list_any test logged || same)
    again there true it = ap (λ (u : UnitOfRecovery). is_in u (live_in records))
        (unit_same other unit it) ∙ there
        ∙ sym (ap (λ (b : Bool). b || true) (sym (live other)
        ∙ ap (λ (u : UnitOfRecovery). is_in u (live_in records)) (unit_same other unit it) ∙ there))
    again there false it = live other ∙ sym (or-false (list_any test logged))

    by_live : (there : Bool) → is_in unit (live_in records) ≡ there
        → is_in other (cond there (live_in records) (live_in records ++ unit ∷ []))
        ≡ (list_any test logged || same_unit other unit)
    by_live true is = again is (same_unit other unit) refl
    by_live false is = in-append (live_in records)
        ∙ ap (λ (b : Bool). b || same_unit other unit) (live other)

module _ (geometry : Geometry) (log more : LogNow) (old new : State) (change : Changing)
    (laid : IsLaidState geometry old) (logged : HasLogged log old)
    (of : IsChangeOf geometry old change) (made : IsFirstChange log change old new)
    (grown : more.records
    ≡ log.records ++ Before change.unit change.part change.place change.old ∷ []) where
  abbrev image : BeforeImage
  image = image_by change

  -- whether a place is the one that is changed
  pub here-or : (part : ℕ) (place : List ℕ) → ((part ≡ change.part.0) × (place ≡ change.place))
      ⊎ (is_image_of part place image ≡ false)
  here-or part place = by_test (is_image_of part place image) refl
    where
      by_test : (b : Bool) → is_image_of part place image ≡ b
          → ((part ≡ change.part.0) × (place ≡ change.place))
          ⊎ (is_image_of part place image ≡ false)
      by_test true is =
          let there = is-there part place image is in inl (sym there.0, there.1)
      by_test false is = inr is

  pub apart-from : (part : ℕ) (place : List ℕ) → is_image_of part place image ≡ false
      → part ≡ change.part.0 → place ≡ change.place → ⊥
  apart-from part place is same at = true≢false (sym (is-own image)
      ∙ ap (λ (p : ℕ). is_image_of p change.place image) (sym same)
      ∙ ap (λ (q : List ℕ). is_image_of part q image) (sym at) ∙ is)

  pub images-now : images_of more.records ≡ images_of log.records ++ image ∷ []
  images-now = ap images_of grown
      ∙ images-append log.records change.unit change.part change.place change.old
      (unit_self change.unit)
      (live-or-none old.numbers change.unit of.current [] log.records logged.ended)

  oldest-now : (part : ℕ) (place : List ℕ) → oldest (images_of more.records) part place
      ≡ option_or (oldest (images_of log.records) part place)
      (cond (is_image_of part place image) (Some image) None)
  oldest-now part place = ap (λ (images : List BeforeImage). oldest images part place) images-now
      ∙ oldest-append (images_of log.records) image part place

  kept-now : (part : ℕ) (place : List ℕ) → oldest new.befores part place
      ≡ option_or (oldest old.befores part place)
      (cond (is_image_of part place image) (Some image) None)
  kept-now part place = ap (λ (images : List BeforeImage). oldest images part place) made.befores
      ∙ oldest-append old.befores image part place

  free-kept : oldest old.befores change.part.0 change.place ≡ None
  free-kept = by_found (oldest old.befores change.part.0 change.place) refl
    where
      by_found : (found : Option BeforeImage)
          → oldest old.befores change.part.0 change.place ≡ found → found ≡ None
      by_found None is = refl
      by_found (Some kept) is = absurd (some-none
          (sym (logged.kept change.part.0 change.place kept is) ∙ made.free))

  -- at the place, the image; elsewhere what there was
  at-place : (images : List BeforeImage) → oldest images change.part.0 change.place ≡ None
      → option_or (oldest images change.part.0 change.place)
      (cond (is_image_of change.part.0 change.place image) (Some image) None) ≡ Some image
  at-place images none =
      ap (λ (found : Option BeforeImage). option_or found
      (cond (is_image_of change.part.0 change.place image) (Some image) None)) none
      ∙ ap (λ (b : Bool). option_or None (cond b (Some image) None)) (is-own image)

  else-place : (found : Option BeforeImage) (b : Bool) → b ≡ false
      → option_or found (cond b (Some image) None) ≡ found
  else-place None b is = ap (λ (c : Bool). option_or None (cond c (Some image) None)) is
  else-place (Some other) b is = refl

  log-here : oldest (images_of more.records) change.part.0 change.place ≡ Some image
  log-here = oldest-now change.part.0 change.place ∙ at-place (images_of log.records) made.free

  pub log-else : (part : ℕ) (place : List ℕ) → is_image_of part place image ≡ false
      → oldest (images_of more.records) part place ≡ oldest (images_of log.records) part place
  log-else part place is = oldest-now part place
      ∙ else-place (oldest (images_of log.records) part place) (is_image_of part place image) is

  pub kept-here : oldest new.befores change.part.0 change.place ≡ Some image
  kept-here = kept-now change.part.0 change.place ∙ at-place old.befores free-kept

  kept-else : (part : ℕ) (place : List ℕ) → is_image_of part place image ≡ false
      → oldest new.befores part place ≡ oldest old.befores part place
  kept-else part place is = kept-now part place
      ∙ else-place (oldest old.befores part place) (is_image_of part place image) is

  kept-first : (part : ℕ) (place : List ℕ) (found : BeforeImage)
      → oldest new.befores part place ≡ Some found
      → oldest (images_of more.records) part place ≡ Some found
  kept-first part place found is = ⊎_elim
      (λ there.
      let at : oldest new.befores part place ≡ Some image =
      ap (λ (p : ℕ). oldest new.befores p place) there.0
      ∙ ap (oldest new.befores change.part.0) there.1 ∙ kept-here in
      ap (λ (p : ℕ). oldest (images_of more.records) p place) there.0
      ∙ ap (oldest (images_of more.records) change.part.0) there.1 ∙ log-here
      ∙ sym at ∙ is)
      (λ apart. log-else part place apart
      ∙ logged.kept part place found (sym (kept-else part place apart) ∙ is))
      (here-or part place)

  back-first : (part : ℕ) (place : List ℕ) (found : BeforeImage)
      → oldest (images_of more.records) part place ≡ Some found
      → oldest new.befores part place ≡ None
      → found.old ≡ standing_of (item_at (new.contents part) place)
  back-first part place found is none = ⊎_elim
      (λ there. absurd (some-none (sym kept-here
      ∙ ap (λ (p : ℕ). oldest new.befores p change.place) (sym there.0)
      ∙ ap (oldest new.befores part) (sym there.1) ∙ none)))
      (λ apart. logged.back part place found (sym (log-else part place apart) ∙ is)
      (sym (kept-else part place apart) ∙ none)
      ∙ sym (ap standing_of (item-else geometry old new change laid of made.contents part place
      (apart-from part place apart))))
      (here-or part place)

  logged-first : map logged_of (images_of more.records) ≡ new.logged
  logged-first = ap (map logged_of) images-now
      ∙ map-append logged_of (images_of log.records) (image ∷ [])
      ∙ ap (λ (ls : List Logged). ls ++ logged_of image ∷ []) logged.logged
      ∙ sym made.logged

  live-first : (unit : UnitOfRecovery) → is_in unit (live_in more.records) ≡ is_live new unit
  live-first unit = ap (λ (records : List LogRecord). is_in unit (live_in records)) grown
      ∙ live-with log.records old.logged change.unit change.part change.place change.old
      (logged_of image) refl logged.live unit
      ∙ sym (ap (list_any (λ (l : Logged). same_unit unit l.unit)) made.logged)

  used-first : used_by more.records ≡ new.used
  used-first = ap used_by grown
      ∙ used-append log.records change.unit change.part change.place change.old
      ∙ ap (λ (n : ℕ). n + need_of (live_in log.records)
      (Before change.unit change.part change.place change.old)) logged.used
      ∙ sym made.used

  ended-first : All (IsPast new.numbers) more.records
  ended-first = subst (All (IsPast new.numbers)) (sym grown)
      (subst (λ (numbers : ℕ → ℕ). All (IsPast numbers) (log.records
      ++ Before change.unit change.part change.place change.old ∷ [])) (sym made.numbers)
      (All-append (IsPast old.numbers) log.records
      (Before change.unit change.part change.place change.old ∷ []) logged.ended
      (All-cons (IsPast old.numbers) (Before change.unit change.part change.place change.old) []
      tt (All-nil (IsPast old.numbers)))))

  current-first : All (λ (i : BeforeImage). IsCurrent new.numbers i.unit) new.befores
  current-first = subst (All (λ (i : BeforeImage). IsCurrent new.numbers i.unit))
      (sym made.befores)
      (subst (λ (numbers : ℕ → ℕ). All (λ (i : BeforeImage). IsCurrent numbers i.unit)
      (old.befores ++ image ∷ [])) (sym made.numbers)
      (All-append (λ (i : BeforeImage). IsCurrent old.numbers i.unit) old.befores (image ∷ [])
      logged.current (All-cons (λ (i : BeforeImage). IsCurrent old.numbers i.unit) image []
      of.current (All-nil (λ (i : BeforeImage). IsCurrent old.numbers i.unit)))))

  -- The log has again what the state logged.
  pub logged-first-change : HasLogged more new
  logged-first-change = record {
    alone = subst AreAlone (sym images-now)
        (alone-append (images_of log.records) image logged.alone made.free);
    once = subst AreAlone (sym made.befores)
        (alone-append old.befores image logged.once free-kept);
    kept = kept-first;
    back = back-first;
    logged = logged-first;
    live = live-first;
    used = used-first;
    ended = ended-first;
    current = current-first;
  }

  -- The parts stay laid.
  pub laid-first-change : IsLaidState geometry new
  laid-first-change = laid-stays geometry old new change laid of made.contents
      (subst (All (IsKeptIn geometry old)) (sym made.befores)
      (All-append (IsKeptIn geometry old) old.befores (image ∷ []) laid.kept
      (All-cons (IsKeptIn geometry old) image []
      (record {
        not_catalog = of.not_catalog;
        shape = of.shape;
        laid = of.laid;
        place = of.place;
      }) (All-nil (IsKeptIn geometry old)))))

  -- What is committed stays, at each place.
  pub items-first-change : (part : ℕ) (place : List ℕ)
      → item_at (committed_by new more.records part) place
      ≡ item_at (committed_by old log.records part) place
  items-first-change part place =
      item-now geometry new laid-first-change more logged-first-change part place
      ∙ ⊎_elim
      (λ there.
      ap (λ (p : ℕ). kept_or (oldest new.befores p place) (item_at (new.contents p) place)) there.0
      ∙ ap (λ (q : List ℕ). kept_or (oldest new.befores change.part.0 q)
      (item_at (new.contents change.part.0) q)) there.1
      ∙ ap (λ (found : Option BeforeImage). kept_or found
      (item_at (new.contents change.part.0) change.place)) kept-here
      ∙ made.item
      ∙ sym (item-now geometry old laid log logged change.part.0 change.place
      ∙ ap (λ (found : Option BeforeImage). kept_or found
      (item_at (old.contents change.part.0) change.place)) free-kept)
      ∙ sym (ap (λ (p : ℕ). item_at (committed_by old log.records p) place) there.0
      ∙ ap (item_at (committed_by old log.records change.part.0)) there.1))
      (λ apart.
      ap (λ (found : Option BeforeImage). kept_or found (item_at (new.contents part) place))
      (kept-else part place apart)
      ∙ ap (kept_or (oldest old.befores part place))
      (item-else geometry old new change laid of made.contents part place
      (apart-from part place apart))
      ∙ sym (item-now geometry old laid log logged part place))
      (here-or part place)
