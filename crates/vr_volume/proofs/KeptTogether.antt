-- Places that are logged together before any of them is changed: the log has what the state logged
-- then, each before-image is the first of its place, and what is committed stays.
use Rattle.std.proofs.Common.{◌≡◌, ◌≢◌, ◌≤◌, ◌+◌, ⊎_elim, ℕ, Bool, true, false, cond, List, [], ◌∷◌, ◌++◌}
use Rattle.std.proofs.Common.{Option, Some, None, refl, sym, ap, subst, ◌∙◌, map, length, bytes_eq, ◌==◌, arith}
use Rattle.std.specs.Option.{option_map}
use Rattle.std.proofs.Math.Path.{fun_ext}
use Rattle.std.proofs.lemmas.Bool.{true≢false}
use Rattle.std.proofs.lemmas.Bool.Decides.{Decides-eqb}
use Rattle.std.proofs.lemmas.List.{append-nil, append_assoc, length-append}
use Rattle.std.proofs.lemmas.List.Elements.{All-head, All-tail, All-weaker}
use Rattle.std.proofs.lemmas.Slice.Eq.{bytes_eq-Decides}
use Rattle.vr_types.specs.Content.{Content, Item, Standing, item_at}
use Rattle.vr_types.specs.declared.geometry.Geometry.{Geometry}
use Rattle.vr_altkey.specs.Placing.{placed_in}
use Rattle.vr_altkey.proofs.CallerLemmas.{placed_ascends, placed_elsewhere, placed_here, same_items}
use Rattle.vr_log.specs.Live.{live_in, need_of, need_of_all}
use Rattle.vr_log.specs.LogNow.{LogNow, with_record}
use Rattle.vr_log.specs.declared.record.LogRecord.{LogRecord}
use Rattle.vr_history.specs.Committed.{kept_or}
use Rattle.vr_history.specs.Effects.{with_change}
use Rattle.vr_history.specs.State.{BeforeImage, Logged, State}
use Rattle.vr_volume.specs.Committed.{HasLogged, IsKeptIn, IsLaidState, committed_by, logged_of}
use Rattle.vr_volume.specs.Logged.{AreFirstBefores}
use Rattle.vr_volume.specs.PutBack.{images_of, oldest}
use Rattle.vr_volume.specs.Steps.{AreKept, Changing, IsChangeOf, IsFirstChange}
use Rattle.vr_volume.specs.Steps.{MayBeLogged, image_by, logged_by}
use Rattle.vr_volume.proofs.AllSet.{all-both}
use Rattle.vr_volume.proofs.Committing.{before-same, item-now, shape-same}
use Rattle.vr_volume.proofs.Images.{live-append}
use Rattle.vr_volume.proofs.Living.{live-or-none}
use Rattle.vr_volume.proofs.Moving.{here-or, images-now, items-first-change, laid-first-change}
use Rattle.vr_volume.proofs.Moving.{log-else, logged-first-change}

some-none : {X : Type 0} {x : X} → Some x ≡ None → ⊥
some-none same = cc

-- ---- one place, at which nothing is changed

-- the change to what is there
abbrev unchanged : State → Changing → Changing
unchanged state change = record change { new = item_at (state.contents change.part.0) change.place }

-- The contents with what is there put there are the same.
still : (geometry : Geometry) (state : State) → IsLaidState geometry state → (change : Changing)
    → with_change (record {
      part = change.part.0;
      place = change.place;
      new = item_at (state.contents change.part.0) change.place;
    }) state.contents ≡ state.contents
still geometry state laid change = fun_ext (λ part. by part (part == change.part.0) refl)
  where
    there : Option Item
    there = item_at (state.contents change.part.0) change.place

    item : (part : ℕ) → part ≡ change.part.0 → (at : List ℕ) (same : Bool)
        → bytes_eq at change.place ≡ same
        → item_at (placed_in change.place
        (item_at (state.contents change.part.0) change.place) (state.contents part)) at
        ≡ item_at (state.contents part) at
    item part mine at true is =
        let here : at ≡ change.place = (bytes_eq-Decides at change.place).0 is in
        ap (item_at (placed_in change.place
        (item_at (state.contents change.part.0) change.place) (state.contents part))) here
        ∙ placed_here change.place (item_at (state.contents change.part.0) change.place)
        (state.contents part)
        ∙ ap (λ (p : ℕ). item_at (state.contents p) change.place) (sym mine)
        ∙ ap (item_at (state.contents part)) (sym here)
    item part mine at false is =
        placed_elsewhere change.place (item_at (state.contents change.part.0) change.place)
        (state.contents part) at
        (λ same. true≢false (sym ((bytes_eq-Decides at change.place).1 same) ∙ is))

    by : (part : ℕ) (mine : Bool) → (part == change.part.0) ≡ mine
        → with_change (record {
          part = change.part.0;
          place = change.place;
          new = item_at (state.contents change.part.0) change.place;
        }) state.contents part ≡ state.contents part
    by part true is =
        ap (λ (b : Bool). cond b (placed_in change.place
        (item_at (state.contents change.part.0) change.place) (state.contents part))
        (state.contents part)) is
        ∙ same_items (placed_in change.place
        (item_at (state.contents change.part.0) change.place) (state.contents part))
        (state.contents part)
        (placed_ascends change.place (item_at (state.contents change.part.0) change.place)
        (state.contents part) (laid.each part)) (laid.each part)
        (λ at. item part ((Decides-eqb part change.part.0).0 is) at (bytes_eq at change.place) refl)
    by part false is =
        ap (λ (b : Bool). cond b (placed_in change.place
        (item_at (state.contents change.part.0) change.place) (state.contents part))
        (state.contents part)) is

-- the state once it is logged, and kept
abbrev kept-one : LogNow → State → Changing → State
kept-one log state change = record state {
  befores = state.befores ++ image_by change ∷ [];
  logged = state.logged ++ logged_of (image_by change) ∷ [];
  used = state.used + need_of (live_in log.records) (logged_by change);
}

-- ---- states that are alike

abbrev alike : State → State → State
alike state like = record state {
  contents = like.contents;
  befores = like.befores;
  logged = like.logged;
  used = like.used;
  numbers = like.numbers;
}

alike-is : (state like : State) → state.contents ≡ like.contents → state.befores ≡ like.befores
    → state.logged ≡ like.logged → state.used ≡ like.used → state.numbers ≡ like.numbers
    → alike state like ≡ state
alike-is state like contents befores logged used numbers =
    ap (λ (x : ℕ → Content). let s : State = record (alike state like) { contents = x } in s)
    (sym contents)
    ∙ ap (λ (x : List BeforeImage). let s : State = record (alike state like) {
      contents = state.contents;
      befores = x;
    } in s) (sym befores)
    ∙ ap (λ (x : List Logged). let s : State = record (alike state like) {
      contents = state.contents;
      befores = state.befores;
      logged = x;
    } in s) (sym logged)
    ∙ ap (λ (x : ℕ). let s : State = record (alike state like) {
      contents = state.contents;
      befores = state.befores;
      logged = state.logged;
      used = x;
    } in s) (sym used)
    ∙ ap (λ (x : ℕ → ℕ). let s : State = record state { numbers = x } in s) (sym numbers)

laid-alike : (geometry : Geometry) (state like : State) → IsLaidState geometry like
    → IsLaidState geometry (alike state like)
laid-alike geometry state like laid = record {
  each = laid.each;
  catalog = laid.catalog;
  others = laid.others;
  kept = All-weaker (IsKeptIn geometry like) (IsKeptIn geometry (alike state like))
      (λ image is. record {
        not_catalog = is.not_catalog;
        shape = is.shape;
        laid = is.laid;
        place = is.place;
      }) like.befores laid.kept;
}

logged-alike : (log more : LogNow) (state like : State) → HasLogged log like
    → HasLogged (record more { records = log.records }) (alike state like)
logged-alike log more state like logged = record {
  alone = logged.alone;
  once = logged.once;
  kept = logged.kept;
  back = logged.back;
  logged = logged.logged;
  live = logged.live;
  used = logged.used;
  ended = logged.ended;
  current = logged.current;
}

-- ---- all of them

-- What is so once they are logged, by the log with their records.
pub record KeepsAll (geometry : Geometry) (log more : LogNow) (changes : List Changing)
    (old new : State) : Type 0 where
  pub logged : HasLogged more new
  pub laid : IsLaidState geometry new
  pub items : (part : ℕ) (place : List ℕ) → item_at (committed_by new more.records part) place
      ≡ item_at (committed_by old log.records part) place
  pub images : images_of more.records ≡ images_of log.records ++ map image_by changes

module _ (geometry : Geometry) where
  of-kept : (log : LogNow) (state : State) (change other : Changing)
      → IsChangeOf geometry state other → IsChangeOf geometry (kept-one log state change) other
  of-kept log state change other of = record {
    current = of.current;
    not_catalog = of.not_catalog;
    shape = of.shape;
    laid = of.laid;
    place = of.place;
  }

  of-still : (state : State) (change : Changing) → IsChangeOf geometry state change
      → IsChangeOf geometry state (unchanged state change)
  of-still state change of = record {
    current = of.current;
    not_catalog = of.not_catalog;
    shape = of.shape;
    laid = of.laid;
    place = of.place;
  }

  module _ (log : LogNow) (state : State) (change : Changing) (changes : List Changing)
      (laid : IsLaidState geometry state) (logged : HasLogged log state)
      (may : MayBeLogged geometry log state (change ∷ changes)) where
    abbrev next : LogNow
    next = with_record log (logged_by change)

    abbrev mid : State
    mid = kept-one log state change

    pub of-head : IsChangeOf geometry state (unchanged state change)
    of-head = of-still state change (All-head (IsChangeOf geometry state) change changes may.of)

    pub free-head : oldest (images_of log.records) change.part.0 change.place ≡ None
    free-head = All-head (λ (one : Changing).
        oldest (images_of log.records) one.part.0 one.place ≡ None) change changes may.free

    pub item-head : option_map Standing change.old
        ≡ item_at (state.contents change.part.0) change.place
    item-head = All-head (λ (one : Changing). option_map Standing one.old
        ≡ item_at (state.contents one.part.0) one.place) change changes may.items

    pub first-one : IsFirstChange log (unchanged state change) state mid
    first-one = record {
      free = free-head;
      item = item-head;
      contents = sym (still geometry state laid change);
      befores = refl;
      logged = refl;
      used = refl;
      numbers = refl;
    }

    pub logged-one : HasLogged next mid
    logged-one = logged-first-change geometry log next state mid (unchanged state change) laid logged
        of-head first-one refl

    pub laid-one : IsLaidState geometry mid
    laid-one = laid-first-change geometry log next state mid (unchanged state change) laid logged
        of-head first-one refl

    pub items-one : (part : ℕ) (place : List ℕ)
        → item_at (committed_by mid next.records part) place
        ≡ item_at (committed_by state log.records part) place
    items-one = items-first-change geometry log next state mid (unchanged state change) laid logged
        of-head first-one refl

    pub images-one : images_of next.records ≡ images_of log.records ++ image_by change ∷ []
    images-one = images-now geometry log next state mid (unchanged state change) laid logged of-head
        first-one refl

    -- the others may still be logged
    pub may-rest : MayBeLogged geometry next mid changes
    may-rest = record {
      of = All-weaker (IsChangeOf geometry state) (IsChangeOf geometry mid)
          (λ other of. of-kept log state change other of) changes
          (All-tail (IsChangeOf geometry state) change changes may.of);
      free = All-weaker (λ (other : Changing).
          (oldest (images_of log.records) other.part.0 other.place ≡ None)
          × (other.part.0 ≡ change.part.0 → other.place ≢ change.place))
          (λ (other : Changing). oldest (images_of next.records) other.part.0 other.place ≡ None)
          (λ other both. free-else other both.0 both.1) changes
          (all-both (λ (other : Changing).
          oldest (images_of log.records) other.part.0 other.place ≡ None)
          (λ (other : Changing). other.part.0 ≡ change.part.0 → other.place ≢ change.place) changes
          (All-tail (λ (one : Changing).
          oldest (images_of log.records) one.part.0 one.place ≡ None) change changes may.free)
          may.others.0);
      items = All-tail (λ (one : Changing). option_map Standing one.old
          ≡ item_at (state.contents one.part.0) one.place) change changes may.items;
      others = may.others.1;
    }
      where
        free-else : (other : Changing)
            → oldest (images_of log.records) other.part.0 other.place ≡ None
            → (other.part.0 ≡ change.part.0 → other.place ≢ change.place)
            → oldest (images_of next.records) other.part.0 other.place ≡ None
        free-else other none differ = ⊎_elim
            (λ there. absurd (differ there.0 there.1))
            (λ apart. log-else geometry log next state mid (unchanged state change) laid logged
            of-head first-one refl other.part.0 other.place apart ∙ none)
            (here-or geometry log next state mid (unchanged state change) laid logged of-head
            first-one refl other.part.0 other.place)

    pub kept-rest : (new : State) → AreKept log (change ∷ changes) state new
        → AreKept next changes mid new
    kept-rest new kept = record {
      contents = kept.contents;
      befores = kept.befores
          ∙ sym (append_assoc state.befores (image_by change ∷ []) (map image_by changes));
      logged = kept.logged
          ∙ sym (append_assoc state.logged (logged_of (image_by change) ∷ [])
          (map (λ (one : Changing). logged_of (image_by one)) changes));
      used = omega (
        arith,
        kept.used,
        ap (λ live. need_of_all live (map logged_by changes))
            (live-append [] log.records (logged_by change)),
      );
      numbers = kept.numbers;
    }

  -- The log has them, and what is committed stays.
  pub keeps-all : (changes : List Changing) (log more : LogNow) (old new : State)
      → IsLaidState geometry old → HasLogged log old → MayBeLogged geometry log old changes
      → AreKept log changes old new → more.records ≡ log.records ++ map logged_by changes
      → KeepsAll geometry log more changes old new
  keeps-all [] log more old new laid logged may kept grown =
      let same : alike new old ≡ new = alike-is new old kept.contents
      (kept.befores ∙ append-nil old.befores) (kept.logged ∙ append-nil old.logged)
      (omega (arith, kept.used)) kept.numbers in
      let records : more.records ≡ log.records = grown ∙ append-nil log.records in
      record {
        logged = subst (λ (state : State). HasLogged more state) same
            (subst (λ (rs : List LogRecord).
            HasLogged (record more { records = rs }) (alike new old)) (sym records)
            (logged-alike log more new old logged));
        laid = subst (IsLaidState geometry) same (laid-alike geometry new old laid);
        items = λ part place.
            ap (λ (state : State). item_at (committed_by state more.records part) place) (sym same)
            ∙ ap (λ (rs : List LogRecord). item_at (committed_by old rs part) place) records;
        images = ap images_of records ∙ sym (append-nil (images_of log.records));
      }
  keeps-all (change ∷ changes) log more old new laid logged may kept grown =
      let next : LogNow = with_record log (logged_by change) in
      let mid : State = kept-one log old change in
      let further : KeepsAll geometry next more changes mid new =
      keeps-all changes next more mid new (laid-one log old change changes laid logged may)
      (logged-one log old change changes laid logged may)
      (may-rest log old change changes laid logged may)
      (kept-rest log old change changes laid logged may new kept)
      (grown ∙ sym (append_assoc log.records (logged_by change ∷ []) (map logged_by changes))) in
      record {
        logged = further.logged;
        laid = further.laid;
        items = λ part place. further.items part place
            ∙ items-one log old change changes laid logged may part place;
        images = further.images
            ∙ ap (λ (them : List BeforeImage). them ++ map image_by changes)
            (images-one log old change changes laid logged may)
            ∙ append_assoc (images_of log.records) (image_by change ∷ []) (map image_by changes);
      }

  -- ---- each is the first of its place, by what was committed before

  module _ (state : State) (laid-first : IsLaidState geometry state) where
    pub firsts-kept : (changes : List Changing) (log : LogNow) (now : State)
        → log.forced ≤ length log.records → IsLaidState geometry now → HasLogged log now
        → MayBeLogged geometry log now changes → now.contents ≡ state.contents
        → ((part : ℕ) (place : List ℕ) → item_at (committed_by state log.records part) place
        ≡ item_at (committed_by now log.records part) place)
        → AreFirstBefores geometry log (committed_by state) (map logged_by changes)
    firsts-kept [] log now forced laid logged may same items = tt
    firsts-kept (change ∷ changes) log now forced laid logged may same items =
        let of : IsChangeOf geometry now change =
        All-head (IsChangeOf geometry now) change changes may.of in
        let free = free-head log now change changes laid logged may in (
          record {
            forced = forced;
            live = live-or-none now.numbers change.unit of.current [] log.records logged.ended;
            first = free;
            item = item-head log now change changes laid logged may
                ∙ sym (items change.part.0 change.place
                ∙ item-now geometry now laid log logged change.part.0 change.place
                ∙ ap (λ (found : Option BeforeImage). kept_or found
                (item_at (now.contents change.part.0) change.place))
                (none-kept log now logged change.part.0 change.place free));
            same = before-same state log.records change.unit change.part change.place change.old;
            shape = of.shape;
            laid = shape-same geometry state laid-first log.records change.part.0
                ∙ ap (λ (contents : ℕ → Content).
                Rattle.vr_volume.specs.Laid.shape_by geometry (contents 0) change.part.0) (sym same)
                ∙ of.laid;
            at = of.place;
          },
          firsts-kept changes (with_record log (logged_by change)) (kept-one log now change)
              (omega (arith, forced, length-append log.records (logged_by change ∷ [])))
              (laid-one log now change changes laid logged may)
              (logged-one log now change changes laid logged may)
              (may-rest log now change changes laid logged may) same
              (λ part place.
              ap (λ (contents : ℕ → Content). item_at (contents part) place)
              (before-same state log.records change.unit change.part change.place change.old)
              ∙ items part place
              ∙ sym (items-one log now change changes laid logged may part place)),
        )
      where
        none-kept : (log : LogNow) (now : State) → HasLogged log now → (part : ℕ) (place : List ℕ)
            → oldest (images_of log.records) part place ≡ None
            → oldest now.befores part place ≡ None
        none-kept log now logged part place none = found (oldest now.befores part place) refl
          where
            found : (it : Option BeforeImage) → oldest now.befores part place ≡ it → it ≡ None
            found None is = refl
            found (Some image) is = absurd (some-none
                (sym (logged.kept part place image is) ∙ none))
