-- What the end of a unit of recovery that changed nothing leaves of a volume.
use Rattle.std.proofs.Common.{◌≡◌, ◌∷◌, [], ℕ, ◌+◌, ◌<◌, ◌==◌, ◌||◌, Bool, true, false, cond, not}
use Rattle.std.proofs.Common.{List, Some, refl, ap, sym, ◌∙◌, subst, filter, arith, map}
use Rattle.std.specs.Prelude.{All}
use Rattle.std.specs.List.{list_any}
use Rattle.std.proofs.Math.Path.{fun_ext}
use Rattle.std.proofs.lemmas.Bool.{true≢false}
use Rattle.std.proofs.lemmas.Bool.Decides.{Decides-eqb}
use Rattle.std.proofs.lemmas.List.Elements.{All-cons, All-head, All-nil, All-tail, All-weaker}
use Rattle.std.proofs.lemmas.Option.{none-some}
use Rattle.vr_types.specs.Locks.{same_unit}
use Rattle.vr_types.specs.Seen.{Seen}
use Rattle.vr_types.specs.declared.unit.Unit.{Unit as UnitOfRecovery}
use Rattle.vr_log.specs.Live.{is_in, live_in, used_by}
use Rattle.vr_log.specs.declared.record.LogRecord.{LogRecord}
use Rattle.vr_log.specs.declared.record.LogRecord.TheVariants.{Before, End}
use Rattle.vr_history.specs.Effects.{is_other, used_after}
use Rattle.vr_history.specs.State.{BeforeImage, Logged, State}
use Rattle.vr_history.proofs.CallerLemmas.{unit_self}
use Rattle.vr_history.proofs.Befores.{filter_none, or_false}
use Rattle.vr_volume.proofs.Alone.{is-own, is-there}
use Rattle.vr_volume.specs.Committed.{IsCurrent, IsKeptIn, IsPast, logged_of}
use Rattle.vr_volume.specs.PutBack.{AreAlone, images_of, is_image_of, oldest}
use Rattle.vr_volume.specs.Steps.{IsEndedIn}
use Rattle.vr_store.specs.Store.{IsRestedPart, IsStored, StoreNow}
use Rattle.vr_event.proofs.Like.{stored-alike}

-- ---- a unit of which nothing is logged

logged_none : (unit : UnitOfRecovery) (logged : List Logged)
    → list_any (λ (l : Logged). same_unit unit l.unit) logged ≡ false
    → filter (λ (l : Logged). is_other unit l.unit) logged ≡ logged
logged_none unit [] none = refl
logged_none unit (one ∷ logged) none =
    let here = or_false (same_unit unit one.unit)
    (list_any (λ (l : Logged). same_unit unit l.unit) logged) none in
    ap (λ (is : Bool). cond (not is) (one ∷ filter (λ (l : Logged). is_other unit l.unit) logged)
    (filter (λ (l : Logged). is_other unit l.unit) logged)) here.0
    ∙ ap (λ (rest : List Logged). one ∷ rest) (logged_none unit logged here.1)

of_images : (unit : UnitOfRecovery) (images : List BeforeImage)
    → list_any (λ (l : Logged). same_unit unit l.unit) (map logged_of images)
    ≡ list_any (λ (i : BeforeImage). same_unit unit i.unit) images
of_images unit [] = refl
of_images unit (image ∷ images) =
    ap (λ (b : Bool). same_unit unit image.unit || b) (of_images unit images)

found_other : (unit : UnitOfRecovery) (images : List BeforeImage)
    → list_any (λ (i : BeforeImage). same_unit unit i.unit) images ≡ false
    → (part : ℕ) (place : List ℕ) (image : BeforeImage) → oldest images part place ≡ Some image
    → same_unit unit image.unit ≡ false
found_other unit [] none part place image is = absurd (none-some image is)
found_other unit (first ∷ images) none part place image is =
    let here = or_false (same_unit unit first.unit)
    (list_any (λ (i : BeforeImage). same_unit unit i.unit) images) none in
    by_test (is_image_of part place first) here.0
    (found_other unit images here.1 part place image) is
  where
    by_test : (b : Bool) → same_unit unit first.unit ≡ false
        → (oldest images part place ≡ Some image → same_unit unit image.unit ≡ false)
        → cond b (Some first) (oldest images part place) ≡ Some image
        → same_unit unit image.unit ≡ false
    by_test true other further is = let same : first ≡ image = cc in
        subst (λ (i : BeforeImage). same_unit unit i.unit ≡ false) same other
    by_test false other further is = further is

none_kept : (unit : UnitOfRecovery) (befores : List BeforeImage) → AreAlone befores
    → ((part : ℕ) (place : List ℕ) (image : BeforeImage) → oldest befores part place ≡ Some image
    → same_unit unit image.unit ≡ false)
    → list_any (λ (kept : BeforeImage). same_unit unit kept.unit) befores ≡ false
none_kept unit [] alone each = refl
none_kept unit (first ∷ befores) alone each =
    ap (λ (b : Bool). b || list_any (λ (kept : BeforeImage). same_unit unit kept.unit) befores)
    (each first.part first.place first
    (ap (λ (b : Bool). cond b (Some first) (oldest befores first.part first.place))
    (is-own first)))
    ∙ none_kept unit befores alone.1 (λ part place image is.
    further part place image is (is_image_of part place first) refl)
  where
    further : (part : ℕ) (place : List ℕ) (image : BeforeImage)
        → oldest befores part place ≡ Some image → (b : Bool) → is_image_of part place first ≡ b
        → same_unit unit image.unit ≡ false
    further part place image found false is = each part place image
        (ap (λ (b : Bool). cond b (Some first) (oldest befores part place)) is ∙ found)
    further part place image found true is =
        let there = is-there part place first is in
        absurd (none-some image (sym alone.0
        ∙ ap (λ (p : ℕ). oldest befores p first.place) there.0
        ∙ ap (λ (q : List ℕ). oldest befores part q) (sym there.1) ∙ found))

-- ---- its end

module _ (number : ℕ) (store : StoreNow) (old new : State) (now : Seen) (unit : UnitOfRecovery)
    (stored : IsStored number store old now) (current : IsCurrent old.numbers unit)
    (made : IsEndedIn unit old new) (dead : is_in unit (live_in store.log.records) ≡ false)
    (idle : live_in store.log.records ≡ [] → used_by store.log.records ≡ 0) where
  none_logged : list_any (λ (l : Logged). same_unit unit l.unit) old.logged ≡ false
  none_logged = sym (stored.volume.logged.live unit) ∙ dead

  same_logged : new.logged ≡ old.logged
  same_logged = made.logged ∙ logged_none unit old.logged none_logged

  none_in_log : list_any (λ (i : BeforeImage). same_unit unit i.unit)
      (images_of store.log.records) ≡ false
  none_in_log = sym (of_images unit (images_of store.log.records))
      ∙ ap (list_any (λ (l : Logged). same_unit unit l.unit)) stored.volume.logged.logged
      ∙ none_logged

  same_befores : filter (λ (kept : BeforeImage). is_other unit kept.unit) old.befores
      ≡ old.befores
  same_befores = filter_none unit old.befores (none_kept unit old.befores
      stored.volume.logged.once (λ part place image is.
      found_other unit (images_of store.log.records) none_in_log part place image
      (stored.volume.logged.kept part place image is)))

  -- once nothing is logged, no byte of the log is in use
  none_live : old.logged ≡ [] → live_in store.log.records ≡ []
  none_live none = by_list (live_in store.log.records) refl
    where
      by_list : (units : List UnitOfRecovery) → live_in store.log.records ≡ units → units ≡ []
      by_list [] is = refl
      by_list (first ∷ units) is = absurd (true≢false
          (sym (ap (is_in first) is ∙ ap (λ (b : Bool). b || is_in first units) (unit_self first))
          ∙ stored.volume.logged.live first
          ∙ ap (list_any (λ (l : Logged). same_unit first l.unit)) none))

  same_used : new.used ≡ old.used
  same_used = made.used ∙ ap (λ (logged : List Logged). used_after logged old.used) same_logged
      ∙ by_logged old.logged refl
    where
      by_logged : (logged : List Logged) → old.logged ≡ logged
          → used_after logged old.used ≡ old.used
      by_logged [] is = sym (idle (none_live is)) ∙ stored.volume.logged.used
      by_logged (one ∷ logged) is = refl

  past_on : (records : List LogRecord) → All (IsPast old.numbers) records
      → All (IsPast new.numbers) records
  past_on records past = All-weaker (IsPast old.numbers) (IsPast new.numbers) one records past
    where
      grown : (deck : ℕ) (mine : Bool) (n : ℕ) → n < old.numbers deck
          → n < cond mine (old.numbers deck + 1) (old.numbers deck)
      grown deck true n below = omega (arith, below)
      grown deck false n below = below

      one : (r : LogRecord) → IsPast old.numbers r → IsPast new.numbers r
      one (Before u part place before) past = tt
      one (End u kind) past = subst (λ (n : ℕ). u.number < n) (sym (made.numbers u.deck))
          (grown u.deck (u.deck == unit.deck) u.number past)

  stays : (other : UnitOfRecovery) → is_other unit other ≡ true → IsCurrent old.numbers other
      → (mine : Bool) → (other.deck == unit.deck) ≡ mine
      → other.number ≡ cond mine (old.numbers other.deck + 1) (old.numbers other.deck)
  stays other apart now false is = now
  stays other apart now true is =
      let deck : other.deck ≡ unit.deck = (Decides-eqb other.deck unit.deck).0 is in
      let same : other.number ≡ unit.number = now ∙ ap old.numbers deck ∙ sym current in
      let unit-of : ℕ → ℕ → UnitOfRecovery = λ d n. record { deck = d; number = n } in
      let it : other ≡ unit = ap (λ (d : ℕ). unit-of d other.number) deck
      ∙ ap (unit-of unit.deck) same in
      absurd (true≢false (sym apart ∙ ap (is_other unit) it ∙ ap not (unit_self unit)))

  through : (images : List BeforeImage)
      → All (λ (image : BeforeImage). IsCurrent old.numbers image.unit) images
      → All (λ (image : BeforeImage). IsCurrent new.numbers image.unit)
      (filter (λ (image : BeforeImage). is_other unit image.unit) images)
  through [] all = All-nil (λ (image : BeforeImage). IsCurrent new.numbers image.unit)
  through (image ∷ images) all = by_other (is_other unit image.unit) refl
      (through images (All-tail (λ (i : BeforeImage). IsCurrent old.numbers i.unit) image images
      all))
    where
      by_other : (b : Bool) → is_other unit image.unit ≡ b
          → All (λ (i : BeforeImage). IsCurrent new.numbers i.unit)
          (filter (λ (i : BeforeImage). is_other unit i.unit) images)
          → All (λ (i : BeforeImage). IsCurrent new.numbers i.unit)
          (cond b (image ∷ filter (λ (i : BeforeImage). is_other unit i.unit) images)
          (filter (λ (i : BeforeImage). is_other unit i.unit) images))
      by_other false is rest = rest
      by_other true is rest = All-cons (λ (i : BeforeImage). IsCurrent new.numbers i.unit) image
          (filter (λ (i : BeforeImage). is_other unit i.unit) images)
          (stays image.unit is
          (All-head (λ (i : BeforeImage). IsCurrent old.numbers i.unit) image images all)
          (image.unit.deck == unit.deck) refl ∙ sym (made.numbers image.unit.deck)) rest

  abbrev risen : State
  risen = record old { numbers = new.numbers; owned = new.owned }

  stored_risen : IsStored number store risen now
  stored_risen =
      let laid = stored.volume.laid in
      let logged = stored.volume.logged in
      record {
        volume = record {
          safe = stored.volume.safe;
          stands = stored.volume.stands;
          sound = stored.volume.sound;
          forced = stored.volume.forced;
          laid = record {
            each = laid.each;
            catalog = laid.catalog;
            others = laid.others;
            kept = All-weaker (IsKeptIn store.log.geometry old)
                (IsKeptIn store.log.geometry risen)
                (λ image kept. record {
                  not_catalog = kept.not_catalog;
                  shape = kept.shape;
                  laid = kept.laid;
                  place = kept.place;
                }) old.befores laid.kept;
          };
          logged = record {
            alone = logged.alone;
            once = logged.once;
            kept = logged.kept;
            back = logged.back;
            logged = logged.logged;
            live = logged.live;
            used = logged.used;
            ended = past_on store.log.records logged.ended;
            current = subst (All (λ (image : BeforeImage). IsCurrent new.numbers image.unit))
                same_befores (through old.befores logged.current);
          };
          kept = stored.volume.kept;
        };
        parts = All-weaker (IsRestedPart store old now) (IsRestedPart store risen now)
            (λ part rested. record {
              laid = rested.laid;
              on = rested.on;
              rests = rested.rests;
              claimed = rested.claimed;
              room = rested.room;
              knows = rested.knows;
              reads = rested.reads;
              firm = rested.firm;
            }) store.parts stored.parts;
        whole = stored.whole;
        befores = stored.befores;
        logged = stored.logged;
        due = stored.due;
      }

  -- the store is that of the state in which it has ended
  pub stored-idle : IsStored number store new now
  stored-idle = stored-alike number store risen new now (record {
    contents = fun_ext made.contents;
    befores = made.befores ∙ same_befores;
    logged = same_logged;
    used = same_used;
    numbers = refl;
    owned = refl;
  }) stored_risen
