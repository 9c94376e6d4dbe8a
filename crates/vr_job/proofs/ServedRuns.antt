-- The catalogs that a run commits are served: so each image of it opens again.
use Rattle.std.proofs.Common.{◌≡◌, ◌∙◌, ◌==◌, ℕ, Bool, true, false, if◌then◌else◌, List, []}
use Rattle.std.proofs.Common.{◌∷◌, ◌++◌, Option, Some, None, arith, not, refl, subst, sym}
use Rattle.std.specs.Prelude.{IfSome, bytes_eq, option_and_then}
use Rattle.std.specs.List.{AllByRecursion, cons_option}
use Rattle.std.specs.Option.{option_map_or}
use Rattle.std.specs.declared.cmp.Ordering.{Ordering}
use Rattle.std.specs.declared.cmp.Ordering.TheVariants.{Less, Equal, Greater}
use Rattle.std.proofs.lemmas.Bool.Decides.{nat_tests}
use Rattle.std.proofs.lemmas.List.Elements.{All-from_recursion}
use Rattle.vr_types.specs.Content.{Content, Item, Placed, found_by, item_at, place_cmp, put_by}
use Rattle.vr_types.specs.Content.{record_of, with_item}
use Rattle.vr_types.specs.Image.{Image}
use Rattle.vr_types.specs.Seen.{Seen}
use Rattle.vr_types.specs.declared.geometry.Geometry.{Geometry}
use Rattle.vr_types.specs.declared.reply.Reply.TheVariants.{Done, Refused}
use Rattle.vr_types.specs.declared.request.Request.{Request}
use Rattle.vr_types.specs.declared.unit.Unit.{Unit as UnitOfRecovery}
use Rattle.vr_catalog.specs.Catalog.{entries_in}
use Rattle.vr_catalog.specs.Record.{entry_of}
use Rattle.vr_catalog.specs.declared.entry.CatEntry.{CatEntry}
use Rattle.vr_history.specs.Change.{Change}
use Rattle.vr_history.specs.Committed.{changed}
use Rattle.vr_history.specs.Effects.{changes, is_other, last_kept, placed_in, takes_out}
use Rattle.vr_history.specs.Effects.{with_change}
use Rattle.vr_history.specs.Legal.{state_of}
use Rattle.vr_history.specs.State.{BeforeImage, Owned, State, is_kept, opening_state}
use Rattle.vr_history.specs.Step.{after_what, change_back, place_changes, state_after}
use Rattle.vr_history.specs.declared.entry.Entry.{Entry}
use Rattle.vr_history.specs.declared.entry.What.{What}
use Rattle.vr_history.specs.declared.entry.What.TheVariants.{Asked, Undone, Claimed, Split, Faulted}
use Rattle.vr_edits.specs.Edits.{IsServedEntry}
use Rattle.vr_event.specs.Volume.{AreServed as AreServedNow}
use Rattle.vr_recover.specs.Opens.{AreServed}
use Rattle.vr_recover.proofs.CallerLemmas.{may-open}
use Rattle.vr_types.specs.Geometry.{IsAllowed}
use Rattle.vr_volume.specs.Crashes.{RecoversTo, committed_with, is_among, kept_but}
use Rattle.vr_volume.specs.PutBack.{put_back, standing, stands}
use Rattle.vr_volume.specs.Volume.{Recovers}
use Rattle.vr_job.specs.Committed.{IsServedItem, KeepTheCatalog, KeepsCatalog, PutsServed}
use Rattle.vr_job.specs.Crash.{IsLeftAt, IsLeftBy, as_done}
use Rattle.vr_job.specs.Crash.IsLeftAt.{Counted, Ended}
use Rattle.vr_job.specs.OpensAgain.{OpensAgain}
use Rattle.vr_job.proofs.CatalogChanges.{catalog-changed}
use Rattle.vr_job.proofs.Committed.{all-but-last, all-cond, all-left, all-push}
use Rattle.vr_job.proofs.Effects.{IsDone, IsMade, done-is, refused-stays}
use Rattle.vr_job.proofs.Effects.IsDone.{DoneChange, DoneEnd, DoneNothing}
use Rattle.vr_job.proofs.Effects.MadeOr.{NoChange, OneChange}
use Rattle.vr_job.proofs.Keeping.{keep-first, keep-then}
use Rattle.vr_job.proofs.UtilityRuns.{still-one}

-- ---- what the items of a content spell

module _ (geometry : Geometry) where
  abbrev IsServedAt : Placed → Type 0
  IsServedAt placed = IsServedItem geometry placed.1

  abbrev pub AreServedItems : Content → Type 0
  AreServedItems content = AllByRecursion IsServedAt content

  abbrev IsServedImage : BeforeImage → Type 0
  IsServedImage image = image.part ≡ 0 → IfSome image.old (IsServedItem geometry)

  served-entries : (content : Content) → AreServedItems content
      → AreServedNow geometry (entries_in content)
  served-entries [] are = tt
  served-entries (placed ∷ content) are = by_entry (option_and_then entry_of (record_of placed.1))
      are.0 (served-entries content are.1)
    where
      by_entry : (entry : Option CatEntry) → IfSome entry (IsServedEntry geometry)
          → AreServedNow geometry (entries_in content)
          → AreServedNow geometry (cons_option entry (entries_in content))
      by_entry None is rest = rest
      by_entry (Some entry) is rest = (is, rest)

  entries-served : (content : Content) → AreServedNow geometry (entries_in content)
      → AreServedItems content
  entries-served [] are = tt
  entries-served (placed ∷ content) are =
      by_entry (option_and_then entry_of (record_of placed.1)) are (entries-served content)
    where
      by_entry : (entry : Option CatEntry)
          → AreServedNow geometry (cons_option entry (entries_in content))
          → (AreServedNow geometry (entries_in content) → AreServedItems content)
          → IfSome entry (IsServedEntry geometry) × AreServedItems content
      by_entry None is further = (tt, further is)
      by_entry (Some entry) is further = (is.0, further is.1)

  served-with : (content : Content) (place : List ℕ) (item : Item) → AreServedItems content
      → IsServedItem geometry item → AreServedItems (with_item content place item)
  served-with [] place item are is = (is, tt)
  served-with (placed ∷ content) place item are is =
      by_order (place_cmp place placed.0) (served-with content place item are.1 is)
    where
      by_order : (order : Ordering) → AreServedItems (with_item content place item)
          → AreServedItems (put_by order (place, item) placed content
          (with_item content place item))
      by_order Less rest = (is, are)
      by_order Equal rest = (is, are.1)
      by_order Greater rest = (are.0, rest)

  served-placed : (content : Content) (place : List ℕ) (new : Option Item)
      → AreServedItems content → IfSome new (IsServedItem geometry)
      → AreServedItems (placed_in place new content)
  served-placed content place None are is =
      all-left IsServedAt (λ (placed : Placed). not (bytes_eq place placed.0)) content are
  served-placed content place (Some item) are is = served-with content place item are is

  served-at : (content : Content) (place : List ℕ) → AreServedItems content
      → IfSome (item_at content place) (IsServedItem geometry)
  served-at [] place are = tt
  served-at (placed ∷ content) place are =
      by_order (place_cmp place placed.0) (served-at content place are.1)
    where
      by_order : (order : Ordering) → IfSome (item_at content place) (IsServedItem geometry)
          → IfSome (found_by order (Some placed.1) (item_at content place)) (IsServedItem geometry)
      by_order Less rest = rest
      by_order Equal rest = are.0
      by_order Greater rest = rest

  served-back : (images : List BeforeImage) (content : Content)
      → AllByRecursion IsServedImage images → AreServedItems content
      → AreServedItems (put_back 0 images content)
  served-back [] content kept are = are
  served-back (image ∷ images) content kept are =
      by_part (image.part == 0) refl (served-back images content kept.1 are)
    where
      by_part : (b : Bool) → (image.part == 0) ≡ b → AreServedItems (put_back 0 images content)
          → AreServedItems (if b then placed_in image.place image.old (put_back 0 images content)
          else put_back 0 images content)
      by_part true own rest = served-placed (put_back 0 images content) image.place image.old rest
          (kept.0 (grind (arith, nat_tests, own)))
      by_part false other rest = rest

  -- ---- over a history

  -- what the state has of the catalog, and what it keeps, spells entries that are served
  pub record AllServed (state : State) : Type 0 where
    pub items : AreServedItems (state.contents 0)
    pub images : AllByRecursion IsServedImage state.befores

  served-changed : (changes : List Change) (contents : ℕ → Content)
      → AllByRecursion (PutsServed geometry) changes → AreServedItems (contents 0)
      → AreServedItems (changed contents changes 0)
  served-changed [] contents put are = are
  served-changed (change ∷ changes) contents put are =
      served-changed changes (with_change change contents) put.1 (by_part (0 == change.part) refl)
    where
      by_part : (b : Bool) → (0 == change.part) ≡ b
          → AreServedItems (if b then placed_in change.place change.new (contents 0)
          else contents 0)
      by_part true own = served-placed (contents 0) change.place change.new are
          (put.0 (grind (arith, nat_tests, own)))
      by_part false other = are

  module _ (state : State) (unit : UnitOfRecovery) (served : AllServed state) where
    kept-same : (befores : List BeforeImage) → befores ≡ state.befores
        → AllByRecursion IsServedImage befores
    kept-same befores same = subst (AllByRecursion IsServedImage) (sym same) served.images

    kept-made : (change : Change) (new : State) → IsMade unit change state new
        → AllByRecursion IsServedImage new.befores
    kept-made change new made = subst (AllByRecursion IsServedImage) (sym made.befores)
        (all-cond IsServedImage (is_kept state unit change.part change.place) state.befores
        (state.befores ++ made.image ∷ []) served.images
        (all-push IsServedImage state.befores made.image served.images (λ part.
        subst (λ (old : Option Item). IfSome old (IsServedItem geometry)) (sym made.image_old)
        (subst (λ (p : ℕ). IfSome (item_at (state.contents p) change.place)
        (IsServedItem geometry)) (sym (sym made.image_part ∙ part))
        (served-at (state.contents 0) change.place served.items)))))

    kept-done : (request : Request) (new : State) → IsDone geometry state unit request new
        → AllByRecursion IsServedImage new.befores
    kept-done request new (DoneNothing stays) = kept-same new.befores stays.befores
    kept-done request new (DoneEnd ended) = subst (AllByRecursion IsServedImage)
        (sym ended.befores)
        (all-left IsServedImage (λ (kept : BeforeImage). is_other unit kept.unit) state.befores
        served.images)
    kept-done request new (DoneChange (NoChange none stays)) =
        kept-same new.befores stays.befores
    kept-done request new (DoneChange (OneChange change is made)) = kept-made change new made

    kept-back : (kept : Option BeforeImage) → AllByRecursion IsServedImage
        (option_map_or (λ (it : BeforeImage). takes_out unit (changes (change_back state it) state))
        kept state).befores
    kept-back None = served.images
    kept-back (Some kept) = all-but-last IsServedImage unit state.befores served.images

    kept-after : (stamp : ℕ) (what : What) → AllByRecursion IsServedImage
        (after_what geometry state unit stamp what).befores
    kept-after stamp (Asked request (Done feedback place bytes)) = kept-done request _
        (done-is geometry state unit request feedback place bytes)
    kept-after stamp (Asked request (Refused refusal)) = kept-same _
        (refused-stays geometry state unit request (Refused refusal) refusal refl).befores
    kept-after stamp (Undone part place) = kept-back (last_kept state unit)
    kept-after stamp (Claimed part area) = served.images
    kept-after stamp (Split part) = served.images
    kept-after stamp (Faulted fault) = served.images

  served-after : (state : State) (entry : Entry) → KeepsCatalog geometry state entry
      → AllServed state → AllServed (state_after geometry state entry)
  served-after state entry keeps served = record {
    items = subst AreServedItems
        (sym (catalog-changed geometry state entry.unit entry.stamp entry.what))
        (served-changed (place_changes geometry state entry.unit entry.what) state.contents
        keeps.served served.items);
    images = kept-after state entry.unit served entry.stamp entry.what;
  }

  served-run : (state : State) (entries : List Entry) → KeepTheCatalog geometry state entries
      → AllServed state → AllServed (state_of geometry state entries)
  served-run state [] keep served = served
  served-run state (entry ∷ entries) keep served =
      served-run (state_after geometry state entry) entries keep.1
      (served-after state entry keep.0 served)

  -- the catalog that is committed, whichever units count
  served-committed : (state : State) (counted : List UnitOfRecovery) → AllServed state
      → AreServed geometry (entries_in (committed_with counted state 0))
  served-committed state counted served = All-from_recursion (IsServedEntry geometry)
      (entries_in (committed_with counted state 0))
      (served-entries (committed_with counted state 0)
      (served-back (kept_but counted state.befores) (standing (state.contents 0))
      (all-left IsServedImage (λ (image : BeforeImage). not (is_among counted image.unit))
      state.befores served.images)
      (all-left IsServedAt stands (state.contents 0) served.items)))

-- ---- what a run leaves

-- what recovers to contents whose catalog is served
pub recovered-opens : {D : Type 0} (seen : D → Seen) (geometry : Geometry) (number : ℕ)
    → IsAllowed geometry → (recovered : ℕ → Content) (image : Image)
    → Recovers geometry number image recovered
    → AreServed geometry (entries_in (recovered 0)) → OpensAgain seen geometry number image
recovered-opens seen geometry number allowed recovered image recovers served device of same =
    may-open geometry number recovered (seen device) (record {
      allowed = allowed;
      shape = of;
      recovers = subst (λ (i : Image). Recovers geometry number i recovered) (sym same) recovers;
    }) served

module _ {D : Type 0} (seen : D → Seen) (geometry : Geometry) (number : ℕ)
    (allowed : IsAllowed geometry) (catalog : List CatEntry) (contents : ℕ → Content)
    (owned : List Owned) (is : catalog ≡ entries_in (contents 0))
    (served : AreServedNow geometry catalog) where
  abbrev opening : State
  opening = opening_state contents owned

  abbrev opens : (recovered : ℕ → Content) (image : Image)
      → Recovers geometry number image recovered
      → AreServed geometry (entries_in (recovered 0)) → OpensAgain seen geometry number image
  opens = recovered-opens seen geometry number allowed

  opening-served : AllServed geometry opening
  opening-served = record {
    items = entries-served geometry (contents 0) (subst (AreServedNow geometry) is served);
    images = tt;
  }

  -- what has the records of the opening
  pub opening-opens : (image : Image)
      → Recovers geometry number image (λ (part : ℕ). standing (contents part))
      → OpensAgain seen geometry number image
  opening-opens image recovers = opens (λ (part : ℕ). standing (contents part)) image recovers
      (served-committed geometry opening [] opening-served)

  module _ (entries : List Entry) (keep : KeepTheCatalog geometry opening entries) where
    state-opens : (before after : List Entry) → entries ≡ before ++ after
        → (counted : List UnitOfRecovery) (image : Image)
        → RecoversTo geometry number (state_of geometry opening before) counted image
        → OpensAgain seen geometry number image
    state-opens before after both counted image recovers =
        opens (committed_with counted (state_of geometry opening before)) image recovers.recovers
        (served-committed geometry (state_of geometry opening before) counted
        (served-run geometry opening before
        (keep-first geometry opening before after
        (subst (KeepTheCatalog geometry opening) both keep)) opening-served))

    at-opens : (before after : List Entry) → entries ≡ before ++ after → (image : Image)
        → IsLeftAt geometry number opening before after image
        → OpensAgain seen geometry number image
    at-opens before after both image (Counted counted commits recovers) =
        state-opens before after both counted image recovers
    at-opens before after both image (Ended entry rest next deck commit recovers) =
        let state : State = state_of geometry opening (before ++ as_done entry ∷ []) in
        opens (committed_with [] state) image recovers.recovers
        (served-committed geometry state []
        (served-run geometry opening (before ++ as_done entry ∷ [])
        (keep-then geometry opening before (as_done entry ∷ [])
        (keep-first geometry opening before after
        (subst (KeepTheCatalog geometry opening) both keep)) (
          still-one geometry (state_of geometry opening before) (as_done entry)
              (record { changes = λ geometry state. refl; tells = λ catalog. refl }),
          tt,
        )) opening-served))

    -- what some first entries of the history leave opens again
    pub left-opens : (image : Image) → IsLeftBy geometry number opening entries image
        → OpensAgain seen geometry number image
    left-opens image left = at-opens left.before left.after left.is image left.left
