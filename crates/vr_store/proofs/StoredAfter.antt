-- A store whose part had a record set is the new state's.
use Rattle.std.proofs.Common.{◌≡◌, ◌≢◌, ◌⊎◌, inl, inr, ◌<◌, ℕ, Bool, true, false, cond, List}
use Rattle.std.proofs.Common.{[], ◌∷◌, ◌++◌, Option, Some, None, refl, sym, ap, subst, ◌∙◌, arith, map}
use Rattle.std.proofs.Common.{◌==◌}
use Rattle.std.specs.Prelude.{All}
use Rattle.std.specs.List.{Contains}
use Rattle.std.specs.Option.{option_or}
use Rattle.std.proofs.lemmas.Bool.{true≢false}
use Rattle.std.proofs.lemmas.Bool.Decides.{Decides-eqb}
use Rattle.std.proofs.lemmas.List.{append-nil}
use Rattle.vr_types.specs.Content.{Content, Item}
use Rattle.vr_types.specs.Geometry.{IsAllowed, area_count}
use Rattle.vr_types.specs.Locks.{same_unit}
use Rattle.vr_types.specs.Seen.{Left, Seen}
use Rattle.vr_types.specs.declared.geometry.Geometry.{Geometry}
use Rattle.vr_types.specs.declared.unit.PartNo.{PartNo}
use Rattle.vr_types.specs.declared.unit.Unit.{Unit as UnitOfRecovery}
use Rattle.vr_space.specs.Owners.{Owners}
use Rattle.vr_space.specs.Part.{IsDueTo, IsPlaceOf, IsSound, Shape, part_no}
use Rattle.vr_space.proofs.CallerLemmas.{firm-due, rest-sound}
use Rattle.vr_attach.specs.Owning.{owner_of}
use Rattle.vr_history.specs.State.{BeforeImage, Logged, State, is_kept, is_logged}
use Rattle.vr_history.proofs.Same.{unit_same}
use Rattle.vr_log.specs.Live.{live_in}
use Rattle.vr_log.specs.LogNow.{IsOf, LogNow}
use Rattle.vr_undo.specs.Records.{before_of, befores_of, has_at, image_of, images_in, is_logged_in}
use Rattle.vr_undo.specs.Records.{logged_of}
use Rattle.vr_undo.proofs.Recording.{befores-made, logged-made}
use Rattle.vr_volume.specs.Laid.{shape_by}
use Rattle.vr_volume.specs.PutBack.{is_image_of, oldest}
use Rattle.vr_volume.specs.Steps.{Changing, image_by}
use Rattle.vr_volume.proofs.Alone.{is-there}
use Rattle.vr_space.proofs.CallerLemmas.{due-fewer}
use Rattle.vr_volume.proofs.Images.{oldest-append}
use Rattle.vr_volume.proofs.Moving.{catalog-stays}
use Rattle.vr_store.specs.Change.{IsMadeOf, IsReadyBy, IsSetIn, IsToSet, has_kept, has_logged}
use Rattle.vr_store.specs.Change.{need_with}
use Rattle.vr_store.specs.Parts.{but_split}
use Rattle.vr_store.specs.Store.{ChangedBy, IsPartSet, IsRestedPart, IsSet, IsStored, PartNow}
use Rattle.vr_store.specs.Store.{StoreNow, blocks_of, owners_of, part_among}
use Rattle.vr_store.specs.declared.prepared.Prepared.{Prepared}
use Rattle.vr_store.proofs.Among.{HasShape, among-all, among-number, among-shape}
use Rattle.vr_store.proofs.PartsAt.{IsPartAt, part-split}
use Rattle.vr_store.proofs.PlacedParts.{all-with, map-with, shapes-same}
use Rattle.vr_store.proofs.ReadyParts.{change, firm-to, kept, new-item, numbered, to-set}
use Rattle.vr_store.proofs.ReadyParts.{undo-images}
use Rattle.vr_store.proofs.SetRecords.{to-puts}
use Rattle.vr_store.proofs.Steps.{Found, found-there}
use Rattle.vr_store.proofs.Worked.{all-both}

none-some : {X : Type 0} {x : X} → None ≡ Some x → ⊥
none-some same = cc

some-same : {X : Type 0} {x y : X} → Some x ≡ Some y → x ≡ y
some-same same = cc

-- what is due to some blocks is due to more
pub due-longer : (shape : Shape) (owners : Owners) (listed longer place : List ℕ) (a : Seen)
    → IsSound shape owners a
    → ((n : ℕ) → Contains listed n → Contains longer n) → IsDueTo shape listed a place
    → IsDueTo shape longer a place
due-longer shape owners listed longer place a sound within due =
    due-fewer shape owners a sound listed longer place a
    (λ n block is may. (may.0, λ there. may.1 (within n there))) refl due

module _ (number : ℕ) (store : StoreNow) (unit : UnitOfRecovery) (part : PartNo) (place : List ℕ)
    (prepared : Prepared) (was : Option (List ℕ)) (old : State) (a : Seen)
    (ready : IsReadyBy number store unit part place prepared was old a) (before : PartNow)
    (found : part_among store.parts part.0 ≡ Some before) (set : IsSet store a)
    (at : IsPlaceOf before.shape place) (item : Option (List ℕ)) where
  abbrev made-of : Option Item
  made-of = new-item number store unit part place prepared was old a ready before found set at item

  abbrev its-change : Changing
  its-change = change number store unit part place prepared was old a ready before found set at item

  abbrev images : List BeforeImage
  images = kept number store unit part place prepared was old a ready before found set at item

  abbrev stored : IsStored number (record store { undo = ready.kept.old }) old a
  stored = ready.kept.stored

  -- the image of the place is the unit's
  unit-there : (image : BeforeImage) → oldest (images_in store.undo) part.0 place ≡ Some image
      → image.unit ≡ unit
  unit-there image is = by_logged prepared.logged
      (found-there number store unit part place prepared was old a ready)
      (sym (ap (λ (i : List BeforeImage). oldest i part.0 place)
      (undo-images number store unit part place prepared was old a ready before found set at item))
      ∙ is)
    where
      of-new : (found : Option BeforeImage) → found ≡ None
          → option_or found (cond (is_image_of part.0 place (image_by its-change))
          (Some (image_by its-change)) None) ≡ Some image → image.unit ≡ unit
      of-new None none same = by_test (is_image_of part.0 place (image_by its-change)) same
        where
          by_test : (here : Bool) → cond here (Some (image_by its-change)) None ≡ Some image
              → image.unit ≡ unit
          by_test true same = sym (ap (λ (i : BeforeImage). i.unit) (some-same same))
          by_test false same = absurd (none-some same)
      of-new (Some other) none same = absurd (none-some (sym none))

      by_logged : (there : Bool) → Found unit part.0 place images there
          → oldest (cond there images (images ++ image_by its-change ∷ [])) part.0 place
          ≡ Some image → image.unit ≡ unit
      by_logged true has same = sym (ap (λ (i : BeforeImage). i.unit)
          (some-same (sym has.is ∙ same))) ∙ has.own
      by_logged false none same = of-new (oldest images part.0 place) none
          (sym (oldest-append images (image_by its-change) part.0 place) ∙ same)

  module _ (need : ℕ) (after : State)
      (made : IsMadeOf unit part place made-of need old after)
      (needs : need ≡ need_with prepared.logged store.log prepared.rec) (left : Left a a.cur) where
    abbrev its-to : IsToSet store.log.geometry number (owners_of store) store.log images
        (images_in store.undo) old after its-change prepared before.shape before.known place item a
    its-to = to-set number store unit part place prepared was old a ready before found set at item
        need after made needs

    catalog-same-set : after.contents 0 ≡ old.contents 0
    catalog-same-set = catalog-stays store.log.geometry old after its-change its-to.volume.laid
        its-to.of (to-puts store.log.geometry number (owners_of store) store.log images
        (images_in store.undo) old after its-change prepared before.shape before.known place item a
        its-to)

    -- ---- what was due

    sound-of : (p : ℕ) (shape : Shape)
        → shape_by store.log.geometry (old.contents 0) p ≡ Some shape
        → IsSound shape (owners_of store) a
    sound-of p shape laid =
        let has = among-shape store.parts p shape (stored.whole p shape laid) in
        subst (λ (s : Shape). IsSound s (owners_of store) a) has.is
        (rest-sound has.part.shape (owners_of store) a (among-all (IsRestedPart (record store {
          undo = ready.kept.old;
        }) old a) store.parts p has.part stored.parts has.found).rests)

    shape-here : (shape : Shape)
        → shape_by store.log.geometry (old.contents 0) part.0 ≡ Some shape → before.shape ≡ shape
    shape-here shape laid =
        let has = among-shape store.parts part.0 shape (stored.whole part.0 shape laid) in
        ap (λ (p : PartNow). p.shape) (some-same (sym found ∙ has.found)) ∙ has.is

    -- a place that was logged before,
    due-logged : (u : UnitOfRecovery) (p : ℕ) (q : List ℕ) (image : BeforeImage) (shape : Shape)
        → oldest images p q ≡ Some image → same_unit u image.unit ≡ true
        → shape_by store.log.geometry (old.contents 0) p ≡ Some shape
        → IsDueTo shape (blocks_of u store.changed) a q
    due-logged u p q image shape is mine laid = stored.due u p q image shape
        (sym (ap (λ (i : List BeforeImage). oldest i p q) stored.volume.kept) ∙ is) mine laid

    -- or is now for the first time
    due-first : (u : UnitOfRecovery) (shape : Shape)
        → oldest images part.0 place ≡ None
        → shape_by store.log.geometry (old.contents 0) part.0 ≡ Some shape
        → IsDueTo shape (blocks_of u store.changed) a place
    due-first u shape none laid =
        subst (λ (s : Shape). IsDueTo s (blocks_of u store.changed) a place) (shape-here shape laid)
        (firm-due before.shape (owners_of store) (blocks_of u store.changed) place a
        (rest-sound before.shape (owners_of store) a its-to.part.rests)
        (firm-to store.log.geometry number (owners_of store) store.log images (images_in store.undo)
        old after its-change prepared before.shape before.known place item a its-to left at
        (ap (λ (n : ℕ). oldest images n place)
        (numbered number store unit part place prepared was old a ready before found set at item)
        ∙ none)))

    due-was : (u : UnitOfRecovery) (p : ℕ) (q : List ℕ) (image : BeforeImage) (shape : Shape)
        → oldest (images_in store.undo) p q ≡ Some image → same_unit u image.unit ≡ true
        → shape_by store.log.geometry (old.contents 0) p ≡ Some shape
        → IsDueTo shape (blocks_of u store.changed) a q
    due-was u p q image shape is mine laid = by_logged prepared.logged
        (sym (ap (λ (i : List BeforeImage). oldest i p q)
        (undo-images number store unit part place prepared was old a ready before found set at
        item)) ∙ is)
      where
        new-here : (here : Bool) → is_image_of p q (image_by its-change) ≡ here
            → oldest images p q ≡ None
            → cond here (Some (image_by its-change)) None ≡ Some image
            → IsDueTo shape (blocks_of u store.changed) a q
        new-here true here none same =
            let there = is-there p q (image_by its-change) here in
            subst (λ (r : List ℕ). IsDueTo shape (blocks_of u store.changed) a r) (sym there.1)
            (due-first u shape
            (ap (λ (n : ℕ). oldest images n place) there.0
            ∙ ap (oldest images p) (sym there.1) ∙ none)
            (ap (shape_by store.log.geometry (old.contents 0)) there.0 ∙ laid))
        new-here false here none same = absurd (none-some same)

        of-found : (first : Option BeforeImage) → oldest images p q ≡ first
            → option_or first (cond (is_image_of p q (image_by its-change))
            (Some (image_by its-change)) None) ≡ Some image
            → IsDueTo shape (blocks_of u store.changed) a q
        of-found None none same =
            new-here (is_image_of p q (image_by its-change)) refl none same
        of-found (Some other) there same = due-logged u p q image shape (there ∙ same) mine laid

        by_logged : (there : Bool)
            → oldest (cond there images (images ++ image_by its-change ∷ [])) p q ≡ Some image
            → IsDueTo shape (blocks_of u store.changed) a q
        by_logged true same = due-logged u p q image shape same mine laid
        by_logged false same = of-found (oldest images p q) refl
            (sym (oldest-append images (image_by its-change) p q) ∙ same)

    -- ---- what it leaves

    module _ (b : Seen) (log : LogNow) (changed : List ChangedBy) (parts : List PartNow)
        (now : PartNow)
        (into : IsPartAt part.0 before now store.parts parts) (number-same : now.number ≡ before.number)
        (shape-same : now.shape ≡ before.shape)
        (sets : IsSetIn store.log.geometry number (owners_of store) log images
        (images_in store.undo) old after before.shape now.known place (blocks_of unit changed) a b)
        (had : (n : ℕ) → Contains (blocks_of unit store.changed) n
        → Contains (blocks_of unit changed) n)
        (others : (other : UnitOfRecovery) → same_unit other unit ≡ false
        → blocks_of other changed ≡ blocks_of other store.changed) where
      -- what is due to the blocks of a unit stays due to them
      module _ (p : ℕ) (q : List ℕ) (shape : Shape)
          (laid : shape_by store.log.geometry (old.contents 0) p ≡ Some shape) where
        abbrev has : HasShape store.parts p shape
        has = among-shape store.parts p shape (stored.whole p shape laid)

        there-no : (part_no has.part.shape).0 ≡ p
        there-no = ap (λ (n : PartNo). n.0)
            (among-all (IsPartSet a) store.parts p has.part set.parts has.found).number
            ∙ among-number store.parts p has.part has.found

        due-other : (listed : List ℕ) → (p ≡ part.0 → ⊥) → IsDueTo shape listed a q
            → IsDueTo shape listed b q
        due-other listed apart due =
            subst (λ (s : Shape). IsDueTo s listed b q) has.is
            (sets.others_due has.part.shape has.part.known
            (λ same. apart (sym there-no ∙ same
            ∙ numbered number store unit part place prepared was old a ready before found set at
            item))
            (among-all (IsRestedPart (record store { undo = ready.kept.old }) old a) store.parts p
            has.part stored.parts has.found) listed q
            (subst (λ (s : Shape). IsDueTo s listed a q) (sym has.is) due)
            (λ n there. absurd (omega (arith, there.1))))

        due-mine : (listed : List ℕ) → p ≡ part.0
            → ((q ≢ place) ⊎ ((n : ℕ) → Contains (blocks_of unit changed) n → Contains listed n))
            → IsDueTo shape listed a q → IsDueTo shape listed b q
        due-mine listed same either due =
            let one = shape-here shape (ap (shape_by store.log.geometry (old.contents 0)) (sym same)
            ∙ laid) in
            subst (λ (s : Shape). IsDueTo s listed b q) one
            (sets.due listed q (subst (λ (s : Shape). IsDueTo s listed a q) (sym one) due) either)

        due-either : (listed : List ℕ) (test : Bool) → (p == part.0) ≡ test
            → (p ≡ part.0
            → ((q ≢ place) ⊎ ((n : ℕ) → Contains (blocks_of unit changed) n → Contains listed n)))
            → IsDueTo shape listed a q → IsDueTo shape listed b q
        due-either listed true is either =
            let same = (Decides-eqb p part.0).0 is in due-mine listed same (either same)
        due-either listed false is either =
            due-other listed (λ same. true≢false (sym ((Decides-eqb p part.0).1 same) ∙ is))

      due-by : (u : UnitOfRecovery) (p : ℕ) (q : List ℕ) (image : BeforeImage) (shape : Shape)
          → oldest (images_in store.undo) p q ≡ Some image → same_unit u image.unit ≡ true
          → shape_by store.log.geometry (old.contents 0) p ≡ Some shape
          → (own : Bool) → same_unit u unit ≡ own → IsDueTo shape (blocks_of u changed) b q
      due-by u p q image shape is mine laid true own =
          let same = unit_same u unit own in
          subst (λ (v : UnitOfRecovery). IsDueTo shape (blocks_of v changed) b q) (sym same)
          (due-either p q shape laid (blocks_of unit changed) (p == part.0) refl
          (λ here. inr (λ n there. there))
          (due-longer shape (owners_of store) (blocks_of unit store.changed)
          (blocks_of unit changed) q a (sound-of p shape laid) had
          (subst (λ (v : UnitOfRecovery). IsDueTo shape (blocks_of v store.changed) a q) same
          (due-was u p q image shape is mine laid))))
      due-by u p q image shape is mine laid false own =
          subst (λ (listed : List ℕ). IsDueTo shape listed b q) (sym (others u own))
          (due-either p q shape laid (blocks_of u store.changed) (p == part.0) refl
          (λ here. inl (λ same. true≢false
          (sym (ap (same_unit u)
          (sym (unit-there image (ap (λ (n : ℕ). oldest (images_in store.undo) n place) (sym here)
          ∙ ap (oldest (images_in store.undo) p) (sym same) ∙ is))) ∙ mine) ∙ own)))
          (due-was u p q image shape is mine laid))

      -- ---- the store

      same-parts : map but_split parts ≡ map but_split store.parts
      same-parts = ap (map but_split) into.is
          ∙ map-with but_split part.0 before now
          (ap (λ (n : PartNo). part-split n now.shape None) number-same
          ∙ ap (λ (s : Shape). part-split before.number s None) shape-same) store.parts into.found

      -- the store as the call left it
      abbrev pub changed-store : StoreNow
      changed-store = record store { log = log; parts = parts; changed = changed }

      geometry-same : log.geometry ≡ store.log.geometry
      geometry-same = sets.volume.safe.shape

      befores-same : befores_of store.undo ≡ after.befores
      befores-same =
          let one = before_of part place was in
          ap befores_of ready.kept.kept
          ∙ befores-made unit one (has_logged unit one ready.kept.old)
          (has_kept unit one ready.kept.old) ready.kept.old
          ∙ ap (λ (i : List BeforeImage). cond (has_at unit part.0 place i) i
          (i ++ image_of unit one ∷ [])) stored.befores
          ∙ ap (λ (i : Option Item). cond (is_kept old unit part.0 place) old.befores
          (old.befores ++ record { unit = unit; part = part.0; place = place; old = i } ∷ []))
          ready.stands
          ∙ sym made.befores

      logged-same : logged_of store.undo ≡ after.logged
      logged-same =
          let one = before_of part place was in
          ap logged_of ready.kept.kept
          ∙ logged-made unit one (has_kept unit one ready.kept.old) ready.kept.old
          ∙ ap (λ (l : List Logged). cond (is_logged_in unit part.0 place l) l
          (l ++ record { unit = unit; part = part.0; place = place } ∷ [])) stored.logged
          ∙ by_logged (is_logged old unit part.0 place)
          ∙ sym made.logged
        where
          by_logged : (there : Bool)
              → cond there old.logged
              (old.logged ++ record { unit = unit; part = part.0; place = place } ∷ [])
              ≡ old.logged ++ cond there []
              (record { unit = unit; part = part.0; place = place } ∷ [])
          by_logged true = sym (append-nil old.logged)
          by_logged false = refl

      laid-old : (g : Geometry) → g ≡ store.log.geometry → (p : ℕ) (shape : Shape)
          → shape_by g (after.contents 0) p ≡ Some shape
          → shape_by store.log.geometry (old.contents 0) p ≡ Some shape
      laid-old g same p shape laid =
          ap (λ (c : Content). shape_by store.log.geometry c p) (sym catalog-same-set)
          ∙ ap (λ (h : Geometry). shape_by h (after.contents 0) p) (sym same) ∙ laid

      pub stored-made : IsStored number changed-store after b
      stored-made = record {
        volume = subst (λ (g : Geometry). Rattle.vr_volume.specs.Rests.IsVolumeAtRest g number
            (owner_of g store.space) log (images_in store.undo) after b) (sym geometry-same)
            sets.volume;
        parts = subst (λ (g : Geometry). All (λ (p : PartNow).
            Rattle.vr_volume.specs.Rests.IsPartAtRest g (owner_of g store.space)
            (images_in store.undo) after p.shape p.known b) parts) (sym geometry-same) each;
        whole = λ p shape laid. shapes-same parts store.parts same-parts p
            ∙ stored.whole p shape (laid-old log.geometry geometry-same p shape laid);
        befores = befores-same;
        logged = logged-same;
        due = λ u p q image shape is mine laid. due-by u p q image shape
            (ap (λ (i : List BeforeImage). oldest i p q) sets.volume.kept ∙ is) mine
            (laid-old log.geometry geometry-same p shape laid) (same_unit u unit) refl;
      }
        where
          P : PartNow → Type 0
          P p = Rattle.vr_volume.specs.Rests.IsPartAtRest store.log.geometry (owners_of store)
              (images_in store.undo)
              after p.shape p.known b

          each : All P parts
          each = subst (All P) (sym into.is)
              (all-with (λ (p : PartNow). IsPartSet a p
              × IsRestedPart (record store { undo = ready.kept.old }) old a p) P part.0 now
              (λ p apart both. sets.others p.shape p.known
              (λ same. apart (ap (λ (n : PartNo). n.0) (sym both.0.number) ∙ same
              ∙ numbered number store unit part place prepared was old a ready before found set at
              item))
              both.1)
              (subst (λ (s : Shape). Rattle.vr_volume.specs.Rests.IsPartAtRest store.log.geometry
              (owners_of store) (images_in store.undo) after s now.known b) (sym shape-same)
              sets.part) store.parts set.apart
              (all-both (IsPartSet a)
              (IsRestedPart (record store { undo = ready.kept.old }) old a) store.parts set.parts
              stored.parts))

-- A store whose log goes on, and of which other blocks are changed, is set.
pub set-logged : (store : StoreNow) (log : LogNow) (changed : List ChangedBy) (now : Seen)
    → log.geometry ≡ store.log.geometry → log.broken ≡ false
    → (live_in log.records ≡ [] → log.records ≡ [])
    → All (λ (by : ChangedBy). All (λ n. n < now.count) by.blocks) changed → IsSet store now
    → IsSet (record store { log = log; changed = changed }) now
set-logged store log changed now same sound idle each set = record {
  allowed = subst IsAllowed (sym same) set.allowed;
  blocks = subst (λ (g : Geometry). IsOf g now) (sym same) set.blocks;
  sound = sound;
  parts = set.parts;
  apart = set.apart;
  changed = each;
  idle = idle;
  kept = set.kept;
  areas = set.areas ∙ ap area_count (sym same);
  owns = set.owns;
}
