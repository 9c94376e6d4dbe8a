-- What the end of a unit leaves: the log has again what the state logged, and what is committed is
-- what the end made of it.
use Rattle.std.proofs.Common.{◌≡◌, ◌<◌, ◌+◌, ℕ, Bool, true, false, cond, not, List, [], ◌∷◌}
use Rattle.std.proofs.Common.{Option, Some, None, refl, sym, ap, subst, ◌∙◌, ◌&&◌, ◌||◌, arith}
use Rattle.std.proofs.Common.{filter, map, length, ◌==◌, ◌⊎◌, inl, inr}
use Rattle.std.specs.Prelude.{All}
use Rattle.std.specs.List.{list_any}
use Rattle.std.proofs.lemmas.Bool.{true≢false}
use Rattle.std.proofs.lemmas.Bool.Decides.{Decides-eqb}
use Rattle.std.proofs.lemmas.List.Elements.{All-append, All-cons, All-filter, All-head, All-nil}
use Rattle.std.proofs.lemmas.List.Elements.{All-tail}
use Rattle.vr_types.specs.Content.{Content, Ascends, item_at}
use Rattle.vr_types.specs.Locks.{same_unit}
use Rattle.vr_types.specs.LogSpace.{end_length}
use Rattle.vr_types.specs.declared.geometry.Geometry.{Geometry}
use Rattle.vr_types.specs.declared.unit.Unit.{Unit as UnitOfRecovery}
use Rattle.vr_log.specs.Live.{is_in, live_after, live_in, used_by, without}
use Rattle.vr_log.specs.LogNow.{IsForced, LogNow}
use Rattle.vr_log.specs.Records.{bytes_of, record_bytes}
use Rattle.vr_log.specs.declared.record.EndKind.{EndKind}
use Rattle.vr_log.specs.declared.record.EndKind.TheVariants.{Committed, BackedOut}
use Rattle.vr_log.specs.declared.record.LogRecord.{LogRecord}
use Rattle.vr_log.specs.declared.record.LogRecord.TheVariants.{Before, End}
use Rattle.vr_log.proofs.Lives.{length-end}
use Rattle.vr_history.specs.Effects.{is_other, used_after}
use Rattle.vr_history.specs.State.{BeforeImage, Logged, State, is_live}
use Rattle.vr_history.proofs.CallerLemmas.{unit_self}
use Rattle.vr_history.proofs.Same.{unit_same}
use Rattle.vr_volume.specs.CatalogRules.{IsCatalog}
use Rattle.vr_volume.specs.Committed.{HasLogged, IsCurrent, IsKeptIn, IsLaidState, IsPast}
use Rattle.vr_volume.specs.Committed.{KeepsNoneIf, committed_by, has_commit, is_committing}
use Rattle.vr_volume.specs.Committed.{kept_by, logged_of}
use Rattle.vr_volume.specs.Ended.{ended}
use Rattle.vr_volume.specs.Laid.{shape_by}
use Rattle.vr_volume.specs.PutBack.{AreAlone, images_of, is_image_of, oldest, put_back}
use Rattle.vr_volume.specs.PutBack.{standing_of}
use Rattle.vr_volume.specs.Steps.{IsEndedIn}
use Rattle.vr_volume.proofs.Committing.{all-map, commit-append, none-ended}
use Rattle.vr_volume.proofs.Images.{live-append}
use Rattle.vr_volume.proofs.Living.{in-without, live-once}
use Rattle.vr_volume.proofs.Alone.{is-own}
use Rattle.vr_volume.proofs.Meeting.{alone-filter, filter-alone, find-passes, find-stays, images-ended}
use Rattle.vr_volume.proofs.Moving.{bytes-more}

some-none : {X : Type 0} {x : X} → Some x ≡ None → ⊥
some-none same = cc

-- ---- images of other units

pub logged-filter : (unit : UnitOfRecovery) (images : List BeforeImage)
    → map logged_of (filter (λ (image : BeforeImage). is_other unit image.unit) images)
    ≡ filter (λ (logged : Logged). is_other unit logged.unit) (map logged_of images)
logged-filter unit [] = refl
logged-filter unit (image ∷ images) =
    by_other (is_other unit image.unit) (logged-filter unit images)
  where
    by_other : (b : Bool)
        → map logged_of (filter (λ (i : BeforeImage). is_other unit i.unit) images)
        ≡ filter (λ (logged : Logged). is_other unit logged.unit) (map logged_of images)
        → map logged_of (cond b (image ∷ filter (λ (i : BeforeImage). is_other unit i.unit) images)
        (filter (λ (i : BeforeImage). is_other unit i.unit) images))
        ≡ cond b (logged_of image
        ∷ filter (λ (logged : Logged). is_other unit logged.unit) (map logged_of images))
        (filter (λ (logged : Logged). is_other unit logged.unit) (map logged_of images))
    by_other true further = ap (λ (ls : List Logged). logged_of image ∷ ls) further
    by_other false further = further

-- which units are live without one
live-filter : (unit other : UnitOfRecovery) (logged : List Logged)
    → list_any (λ (l : Logged). same_unit other l.unit)
    (filter (λ (l : Logged). is_other unit l.unit) logged)
    ≡ (is_other unit other && list_any (λ (l : Logged). same_unit other l.unit) logged)
live-filter unit other [] = and-false (is_other unit other)
  where
    and-false : (b : Bool) → false ≡ (b && false)
    and-false true = refl
    and-false false = refl
live-filter unit other (l ∷ logged) =
    by_test (is_other unit l.unit) refl (same_unit other l.unit) refl (live-filter unit other logged)
  where
    by_test : (kept : Bool) → is_other unit l.unit ≡ kept → (mine : Bool)
        → same_unit other l.unit ≡ mine
        → list_any (λ (m : Logged). same_unit other m.unit)
        (filter (λ (m : Logged). is_other unit m.unit) logged)
        ≡ (is_other unit other && list_any (λ (m : Logged). same_unit other m.unit) logged)
        → list_any (λ (m : Logged). same_unit other m.unit)
        (cond kept (l ∷ filter (λ (m : Logged). is_other unit m.unit) logged)
        (filter (λ (m : Logged). is_other unit m.unit) logged))
        ≡ (is_other unit other
        && (mine || list_any (λ (m : Logged). same_unit other m.unit) logged))
    by_test true is true own further =
        ap (λ (b : Bool). b || list_any (λ (m : Logged). same_unit other m.unit)
        (filter (λ (m : Logged). is_other unit m.unit) logged)) own
        ∙ both (is_other unit other)
        (ap (is_other unit) (unit_same other l.unit own) ∙ is)
      where
        both : (b : Bool) → b ≡ true → true ≡ (b && true)
        both true is = refl
        both false is = sym is
    by_test true is false own further =
        ap (λ (b : Bool). b || list_any (λ (m : Logged). same_unit other m.unit)
        (filter (λ (m : Logged). is_other unit m.unit) logged)) own
        ∙ further
    by_test false is true own further = further
        ∙ gone (is_other unit other) (ap (is_other unit) (unit_same other l.unit own) ∙ is)
      where
        gone : (b : Bool) → b ≡ false
            → (b && list_any (λ (m : Logged). same_unit other m.unit) logged) ≡ (b && true)
        gone true is = absurd (true≢false is)
        gone false is = refl
    by_test false is false own further = further

-- ---- the end of a unit

module _ (geometry : Geometry) (old new : State) (laid : IsLaidState geometry old) (log : LogNow)
    (logged : HasLogged log old) (unit : UnitOfRecovery) (kind : EndKind)
    (current : IsCurrent old.numbers unit) (made : IsEndedIn unit old new) where
  -- ---- the state

  -- The parts stay laid.
  pub laid-ended : IsLaidState geometry new
  laid-ended = record {
    each = λ part. subst Ascends (sym (made.contents part)) (laid.each part);
    catalog = subst (IsCatalog geometry) (sym (made.contents 0)) laid.catalog;
    others = λ part none. made.contents part ∙ laid.others part
        (sym (ap (λ (catalog : Content). shape_by geometry catalog part) (made.contents 0))
        ∙ none);
    kept = all-map (IsKeptIn geometry old) (IsKeptIn geometry new)
        (λ image it. record {
          not_catalog = it.not_catalog;
          shape = it.shape;
          laid = ap (λ (catalog : Content). shape_by geometry catalog image.part)
              (made.contents 0) ∙ it.laid;
          place = it.place;
        }) new.befores
        (subst (All (IsKeptIn geometry old)) (sym made.befores)
        (All-filter (λ (image : BeforeImage). is_other unit image.unit) (IsKeptIn geometry old)
        old.befores laid.kept));
  }

  -- a unit that is past stays so, and this one is past
  past-on : (records : List LogRecord) → All (IsPast old.numbers) records
      → All (IsPast new.numbers) records
  past-on [] past = All-nil (IsPast new.numbers)
  past-on (rec ∷ records) past = All-cons (IsPast new.numbers) rec records
      (one rec (All-head (IsPast old.numbers) rec records past))
      (past-on records (All-tail (IsPast old.numbers) rec records past))
    where
      grown : (deck : ℕ) (mine : Bool) → (deck == unit.deck) ≡ mine → (n : ℕ)
          → n < old.numbers deck
          → n < cond mine (old.numbers deck + 1) (old.numbers deck)
      grown deck true is n below = omega (arith, below)
      grown deck false is n below = below

      one : (r : LogRecord) → IsPast old.numbers r → IsPast new.numbers r
      one (Before u part place before) past = tt
      one (End u kind) past = subst (λ (n : ℕ). u.number < n) (sym (made.numbers u.deck))
          (grown u.deck (u.deck == unit.deck) refl u.number past)

  own-past : IsPast new.numbers (End unit kind)
  own-past =
      let now : unit.number ≡ old.numbers unit.deck = current in
      subst (λ (n : ℕ). unit.number < n)
      (sym (made.numbers unit.deck ∙ ap (λ (b : Bool). cond b (old.numbers unit.deck + 1)
      (old.numbers unit.deck)) ((Decides-eqb unit.deck unit.deck).1 refl)))
      (omega (arith, now))

  -- who keeps an image is current still
  current-on : All (λ (image : BeforeImage). IsCurrent new.numbers image.unit) new.befores
  current-on = subst (All (λ (image : BeforeImage). IsCurrent new.numbers image.unit))
      (sym made.befores) (through old.befores logged.current)
    where
      stays : (other : UnitOfRecovery) → is_other unit other ≡ true → IsCurrent old.numbers other
          → (mine : Bool) → (other.deck == unit.deck) ≡ mine
          → other.number ≡ cond mine (old.numbers other.deck + 1) (old.numbers other.deck)
      stays other apart now false is = now
      stays other apart now true is =
          let deck : other.deck ≡ unit.deck = (Decides-eqb other.deck unit.deck).0 is in
          let number : other.number ≡ unit.number =
          now ∙ ap old.numbers deck ∙ sym current in
          let unit-of : ℕ → ℕ → UnitOfRecovery = λ d n. record { deck = d; number = n } in
          let it : other ≡ unit = ap (λ (d : ℕ). unit-of d other.number) deck
          ∙ ap (unit-of unit.deck) number in
          absurd (true≢false (sym apart ∙ ap (is_other unit) it
          ∙ ap not (unit_self unit)))

      through : (images : List BeforeImage)
          → All (λ (image : BeforeImage). IsCurrent old.numbers image.unit) images
          → All (λ (image : BeforeImage). IsCurrent new.numbers image.unit)
          (filter (λ (image : BeforeImage). is_other unit image.unit) images)
      through [] all = All-nil (λ (image : BeforeImage). IsCurrent new.numbers image.unit)
      through (image ∷ images) all = by_other (is_other unit image.unit) refl
          (through images (All-tail (λ (i : BeforeImage). IsCurrent old.numbers i.unit) image images
          all))
        where
          by_other : (b : Bool) → is_other unit image.unit ≡ b
              → All (λ (i : BeforeImage). IsCurrent new.numbers i.unit)
              (filter (λ (i : BeforeImage). is_other unit i.unit) images)
              → All (λ (i : BeforeImage). IsCurrent new.numbers i.unit)
              (cond b (image ∷ filter (λ (i : BeforeImage). is_other unit i.unit) images)
              (filter (λ (i : BeforeImage). is_other unit i.unit) images))
          by_other true is further =
              All-cons (λ (i : BeforeImage). IsCurrent new.numbers i.unit) image _
              (stays image.unit is
              (All-head (λ (i : BeforeImage). IsCurrent old.numbers i.unit) image images all)
              (image.unit.deck == unit.deck) refl ∙ sym (made.numbers image.unit.deck))
              further
          by_other false is further = further

  -- ---- the log with the end

  module _ (forced : IsForced log) (more : LogNow)
      (grown : more.records ≡ ended log unit kind) where
    abbrev keeps : BeforeImage → Bool
    keeps image = is_other unit image.unit

    images-on : images_of more.records ≡ filter keeps (images_of log.records)
    images-on = ap images_of grown
        ∙ images-ended geometry old laid log logged forced unit kind

    logged-on : map logged_of (images_of more.records) ≡ new.logged
    logged-on = ap (map logged_of) images-on ∙ logged-filter unit (images_of log.records)
        ∙ ap (filter (λ (l : Logged). is_other unit l.unit)) logged.logged
        ∙ sym made.logged

    live-on : (other : UnitOfRecovery)
        → is_in other (live_in more.records) ≡ (is_other unit other && is_in other (live_in log.records))
    unfolding live_after
    live-on other =
        ap (λ (records : List LogRecord). is_in other (live_in records)) grown
        ∙ ap (is_in other) (live-append [] log.records (End unit kind))
        ∙ in-without other unit (live_in log.records) (live-once [] log.records tt)

    is-live-on : (other : UnitOfRecovery)
        → is_in other (live_in more.records) ≡ is_live new other
    is-live-on other = live-on other
        ∙ ap (λ (b : Bool). is_other unit other && b) (logged.live other)
        ∙ sym (live-filter unit other old.logged)
        ∙ sym (ap (list_any (λ (l : Logged). same_unit other l.unit)) made.logged)

    kept-on : (part : ℕ) (place : List ℕ) (image : BeforeImage)
        → oldest new.befores part place ≡ Some image
        → oldest (images_of more.records) part place ≡ Some image
    kept-on part place image is =
        let among : oldest (filter keeps old.befores) part place ≡ Some image =
        sym (ap (λ (images : List BeforeImage). oldest images part place) made.befores) ∙ is in
        ap (λ (images : List BeforeImage). oldest images part place) images-on
        ∙ find-stays (is_image_of part place) keeps (images_of log.records) image
        (logged.kept part place image
        (filter-alone keeps part place old.befores image logged.once among))
        (find-passes (is_image_of part place) keeps old.befores image among)

    back-on : (part : ℕ) (place : List ℕ) (image : BeforeImage)
        → oldest (images_of more.records) part place ≡ Some image
        → oldest new.befores part place ≡ None
        → image.old ≡ standing_of (item_at (new.contents part) place)
    back-on part place image is none = by_kept (oldest old.befores part place) refl
      where
        among : oldest (filter keeps (images_of log.records)) part place ≡ Some image
        among = sym (ap (λ (images : List BeforeImage). oldest images part place) images-on) ∙ is

        all : oldest (images_of log.records) part place ≡ Some image
        all = filter-alone keeps part place (images_of log.records) image logged.alone among

        by_kept : (found : Option BeforeImage) → oldest old.befores part place ≡ found
            → image.old ≡ standing_of (item_at (new.contents part) place)
        by_kept None free = logged.back part place image all free
            ∙ sym (ap (λ (content : Content). standing_of (item_at content place))
            (made.contents part))
        by_kept (Some kept) there =
            let same : Some image ≡ Some kept = sym all ∙ logged.kept part place kept there in
            let one : image ≡ kept = cc in
            absurd (some-none (sym (find-stays (is_image_of part place) keeps old.befores kept there
            (ap keeps (sym one)
            ∙ find-passes (is_image_of part place) keeps (images_of log.records) image among))
            ∙ sym (ap (λ (images : List BeforeImage). oldest images part place) made.befores)
            ∙ none))

    -- the end takes the room that was kept for it
    used-on : is_in unit (live_in log.records) ≡ true → used_by more.records ≡ used_by log.records
    unfolding live_after record_bytes
    used-on there =
        let wider : length (bytes_of more.records)
        ≡ length (bytes_of log.records) + length (record_bytes (End unit kind)) =
        ap (λ (records : List LogRecord). length (bytes_of records)) grown
        ∙ bytes-more log.records (End unit kind) in
        let fewer : length (live_in more.records) + 1 ≡ length (live_in log.records) =
        ap (λ (records : List LogRecord). length (live_in records) + 1) grown
        ∙ ap (λ (units : List UnitOfRecovery). length units + 1)
        (live-append [] log.records (End unit kind))
        ∙ without-length (live_in log.records) there in
        let bytes : length (record_bytes (End unit kind)) ≡ end_length = end-bytes kind in
        omega (arith, wider, fewer, bytes)
      where
        without-length : (units : List UnitOfRecovery) → is_in unit units ≡ true
            → length (without unit units) + 1 ≡ length units
        without-length [] there = absurd (true≢false (sym there))
        without-length (first ∷ units) there =
            by_first (same_unit unit first) there (without-length units)
          where
            by_first : (b : Bool) → (b || is_in unit units) ≡ true
                → (is_in unit units ≡ true → length (without unit units) + 1 ≡ length units)
                → length (cond b units (first ∷ without unit units)) + 1 ≡ length (first ∷ units)
            by_first true there further = omega arith
            by_first false there further = omega (arith, further there)

        end-bytes : (k : EndKind) → length (record_bytes (End unit k)) ≡ end_length
        end-bytes k = omega (arith, length-end unit)

    -- The log has what the state logged, where a unit is live still.
    pub logged-end : (first : Logged) (rest : List Logged) → new.logged ≡ first ∷ rest
        → is_in unit (live_in log.records) ≡ true → HasLogged more new
    logged-end first rest some there = record {
      alone = subst AreAlone (sym images-on)
          (alone-filter keeps (images_of log.records) logged.alone);
      once = subst AreAlone (sym made.befores) (alone-filter keeps old.befores logged.once);
      kept = kept-on;
      back = back-on;
      logged = logged-on;
      live = is-live-on;
      used = used-on there ∙ logged.used
          ∙ sym (made.used ∙ ap (λ (ls : List Logged). used_after ls old.used) some);
      ended = subst (All (IsPast new.numbers)) (sym grown)
          (All-append (IsPast new.numbers) log.records (End unit kind ∷ [])
          (past-on log.records logged.ended)
          (All-cons (IsPast new.numbers) (End unit kind) [] own-past
          (All-nil (IsPast new.numbers))));
      current = current-on;
    }

    -- Where none is, no before-image is left,
    pub none-left : new.logged ≡ [] → new.befores ≡ []
    none-left none = by_list new.befores refl
      where
        no-images : (images : List BeforeImage) → map logged_of images ≡ [] → images ≡ []
        no-images [] is = refl
        no-images (image ∷ images) is = absurd (cc)

        empty : images_of more.records ≡ []
        empty = no-images (images_of more.records) (logged-on ∙ none)

        by_list : (images : List BeforeImage) → new.befores ≡ images → images ≡ []
        by_list [] is = refl
        by_list (image ∷ images) is = absurd (some-none
            (sym (kept-on image.part image.place image
            (ap (λ (befores : List BeforeImage). oldest befores image.part image.place) is
            ∙ ap (λ (b : Bool). cond b (Some image) (oldest images image.part image.place))
            (is-own image)))
            ∙ ap (λ (found : List BeforeImage). oldest found image.part image.place) empty))

    -- none is live in the log,
    pub none-live : new.logged ≡ [] → live_in more.records ≡ []
    none-live none = by_list (live_in more.records) refl
      where
        by_list : (units : List UnitOfRecovery) → live_in more.records ≡ units → units ≡ []
        by_list [] is = refl
        by_list (first ∷ units) is = absurd (true≢false
            (sym (ap (is_in first) is
            ∙ ap (λ (b : Bool). b || is_in first units) (unit_self first))
            ∙ is-live-on first
            ∙ ap (list_any (λ (l : Logged). same_unit first l.unit)) none))

  -- and an empty log has what the state logged.
  pub logged-restart : (fresh : LogNow) → fresh.records ≡ [] → new.logged ≡ []
      → new.befores ≡ [] → HasLogged fresh new
  logged-restart fresh empty none left = record {
    alone = subst (λ (records : List LogRecord). AreAlone (images_of records)) (sym empty) tt;
    once = subst AreAlone (sym left) tt;
    kept = λ part place image is. absurd (some-none (sym is
        ∙ ap (λ (images : List BeforeImage). oldest images part place) left));
    back = λ part place image is free. absurd (some-none (sym is
        ∙ ap (λ (records : List LogRecord). oldest (images_of records) part place) empty));
    logged = ap (λ (records : List LogRecord). map logged_of (images_of records)) empty ∙ sym none;
    live = λ other. ap (λ (records : List LogRecord). is_in other (live_in records)) empty
        ∙ sym (ap (list_any (λ (l : Logged). same_unit other l.unit)) none);
    used = ap used_by empty ∙ sym (made.used
        ∙ ap (λ (ls : List Logged). used_after ls old.used) none);
    ended = subst (All (IsPast new.numbers)) (sym empty) (All-nil (IsPast new.numbers));
    current = subst (All (λ (image : BeforeImage). IsCurrent new.numbers image.unit)) (sym left)
        (All-nil (λ (image : BeforeImage). IsCurrent new.numbers image.unit));
  }

  -- ---- what is committed

  -- the end commits what is this unit's, where it commits
  ends-own : (other : UnitOfRecovery) → has_commit log.records other ≡ false
      → has_commit (ended log unit kind) other ≡ (same_unit unit other && is_committing kind)
  ends-own other none = commit-append log.records (End unit kind) other
      ∙ ap (λ (b : Bool). b || (same_unit unit other && is_committing kind)) none

  -- of those that the log has no commit of, what is kept with the end is what others keep
  same-kept : (befores : List BeforeImage)
      → All (λ (image : BeforeImage). has_commit log.records image.unit ≡ false) befores
      → All (λ (image : BeforeImage).
      (same_unit unit image.unit ≡ false) ⊎ (is_committing kind ≡ true)) befores
      → kept_by (ended log unit kind)
      (filter (λ (image : BeforeImage). is_other unit image.unit) befores)
      ≡ kept_by (ended log unit kind) befores
  same-kept [] none own = refl
  same-kept (image ∷ befores) none own =
      by_own (same_unit unit image.unit) refl
      (ends-own image.unit
      (All-head (λ (i : BeforeImage). has_commit log.records i.unit ≡ false) image befores none))
      (All-head (λ (i : BeforeImage). (same_unit unit i.unit ≡ false)
      ⊎ (is_committing kind ≡ true)) image befores own)
      (same-kept befores
      (All-tail (λ (i : BeforeImage). has_commit log.records i.unit ≡ false) image befores none)
      (All-tail (λ (i : BeforeImage). (same_unit unit i.unit ≡ false)
      ⊎ (is_committing kind ≡ true)) image befores own))
    where
      by_own : (mine : Bool) → same_unit unit image.unit ≡ mine
          → has_commit (ended log unit kind) image.unit
          ≡ (same_unit unit image.unit && is_committing kind)
          → (same_unit unit image.unit ≡ false) ⊎ (is_committing kind ≡ true)
          → kept_by (ended log unit kind)
          (filter (λ (i : BeforeImage). is_other unit i.unit) befores)
          ≡ kept_by (ended log unit kind) befores
          → kept_by (ended log unit kind)
          (cond (not mine) (image ∷ filter (λ (i : BeforeImage). is_other unit i.unit) befores)
          (filter (λ (i : BeforeImage). is_other unit i.unit) befores))
          ≡ cond (not (has_commit (ended log unit kind) image.unit))
          (image ∷ kept_by (ended log unit kind) befores) (kept_by (ended log unit kind) befores)
      by_own true is commit (inl apart) further = absurd (true≢false (sym is ∙ apart))
      by_own true is commit (inr commits) further = further
          ∙ sym (ap (λ (b : Bool). cond (not b) (image ∷ kept_by (ended log unit kind) befores)
          (kept_by (ended log unit kind) befores))
          (commit ∙ ap (λ (b : Bool). b && is_committing kind) is ∙ commits))
      by_own false is commit own further =
          ap (λ (images : List BeforeImage).
          cond (not (has_commit (ended log unit kind) image.unit)) (image ∷ images) images) further

  -- What is committed with the end is what the new state has committed.
  pub committed-end : KeepsNoneIf kind old unit → (part : ℕ)
      → committed_by new (ended log unit kind) part ≡ committed_by old (ended log unit kind) part
  committed-end none part =
      ap (λ (images : List BeforeImage). put_back part images (new.contents part))
      (ap (kept_by (ended log unit kind)) made.befores
      ∙ same-kept old.befores (none-ended geometry old laid log logged) (own kind refl none))
      ∙ ap (put_back part (kept_by (ended log unit kind) old.befores)) (made.contents part)
    where
      own : (k : EndKind) → kind ≡ k → KeepsNoneIf k old unit
          → All (λ (image : BeforeImage). (same_unit unit image.unit ≡ false)
          ⊎ (is_committing kind ≡ true)) old.befores
      own Committed is none = all-map (λ (image : BeforeImage). IsCurrent old.numbers image.unit)
          (λ (image : BeforeImage). (same_unit unit image.unit ≡ false)
          ⊎ (is_committing kind ≡ true))
          (λ image now. inr (ap is_committing is)) old.befores logged.current
      own BackedOut is none = all-map
          (λ (image : BeforeImage). same_unit unit image.unit ≡ false)
          (λ (image : BeforeImage). (same_unit unit image.unit ≡ false)
          ⊎ (is_committing kind ≡ true))
          (λ image apart. inl apart) old.befores none
