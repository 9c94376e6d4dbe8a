-- That no event of a deck changes the catalog: the before-images that units of decks keep are of
-- clusters alone.
use Rattle.std.proofs.Common.{◌≡◌, ◌∙◌, ◌==◌, ◌&&◌, ◌||◌, ⊎_elim, ℕ, Bool, true, false, cond, List}
use Rattle.std.proofs.Common.{[], ◌∷◌, ◌++◌, Option, Some, None, ap, bytes_eq, filter, inl, refl}
use Rattle.std.proofs.Common.{eq-eqb, if◌then◌else◌, subst, sym, true≢false}
use Rattle.std.specs.Prelude.{option_map, option_to_list}
use Rattle.std.specs.List.{AllByRecursion, list_any}
use Rattle.std.proofs.lemmas.Bool.{false≢true}
use Rattle.vr_types.specs.Content.{Content}
use Rattle.vr_types.specs.Locks.{same_unit}
use Rattle.vr_types.specs.declared.geometry.Geometry.{Geometry}
use Rattle.vr_types.specs.declared.reply.Reply.{Reply}
use Rattle.vr_types.specs.declared.reply.Reply.TheVariants.{Done as DoneReply, Refused}
use Rattle.vr_types.specs.declared.request.Request.{Request}
use Rattle.vr_types.specs.declared.request.Request.TheVariants.{Get, Point, Add, Update, Erase}
use Rattle.vr_types.specs.declared.request.Request.TheVariants.{EndReq, Commit, Backout}
use Rattle.vr_types.specs.declared.unit.Unit.{Unit as UnitOfRecovery}
use Rattle.vr_catalog.specs.Catalog.{entries_in}
use Rattle.vr_history.specs.Change.{Change, change_of}
use Rattle.vr_history.specs.Committed.{changed}
use Rattle.vr_history.specs.Effects.{last_kept, last_of, with_change}
use Rattle.vr_history.specs.Legal.{state_of}
use Rattle.vr_history.specs.Opened.{catalog_of}
use Rattle.vr_history.specs.State.{BeforeImage, State, is_kept}
use Rattle.vr_history.specs.Step.{after_what, case_of, change_back, place_changes, state_after}
use Rattle.vr_history.specs.declared.entry.Entry.{Entry}
use Rattle.vr_history.specs.declared.entry.What.{What}
use Rattle.vr_history.specs.declared.entry.What.TheVariants.{Asked, Undone, Claimed, Split, Faulted}
use Rattle.vr_history.proofs.Same.{first_holds, nat_same, second_holds, unit_same}
use Rattle.vr_record_file.specs.Now.{IsOfCluster, IsOfClusterByDeck}
use Rattle.vr_event.specs.Made.{MadeBy}
use Rattle.vr_event.specs.declared.act.Act.{Act}
use Rattle.vr_event.specs.declared.act.Act.TheVariants.{Again, Done}
use Rattle.vr_job.specs.Catalogs.{catalog_told}
use Rattle.vr_job.specs.Committed.{IsOffCatalog, KeepTheCatalog, KeepsCatalog, MayChange}
use Rattle.vr_job.specs.Committed.{PutsServed}
use Rattle.vr_job.proofs.CatalogChanges.{catalog-changed, change-keeps}
use Rattle.vr_job.proofs.Effects.{IsMade, MadeOr, make-or}
use Rattle.vr_job.proofs.Effects.MadeOr.{NoChange, OneChange}

-- a before-image that a deck's unit keeps is of a cluster
own-off : (unit : UnitOfRecovery) → (unit.deck == 0) ≡ false → (image : BeforeImage)
    → IsOfClusterByDeck image → same_unit unit image.unit ≡ true → IsOfCluster image
own-off unit own image is same = is
    (subst (λ (u : UnitOfRecovery). (u.deck == 0) ≡ false) (unit_same unit image.unit same) own)

-- an image of a place is of the place's part
image-off : (unit : UnitOfRecovery) → (unit.deck == 0) ≡ false → (part : ℕ) (place : List ℕ)
    (befores : List BeforeImage) → AllByRecursion IsOfClusterByDeck befores
    → list_any (λ (kept : BeforeImage). same_unit unit kept.unit
    && (kept.part == part && bytes_eq place kept.place)) befores ≡ true
    → (part == 0) ≡ false
image-off unit own part place [] are kept = absurd (false≢true kept)
image-off unit own part place (image ∷ befores) are kept =
    by_test (same_unit unit image.unit && (image.part == part && bytes_eq place image.place)) refl
    kept (image-off unit own part place befores are.1)
  where
    by_test : (b : Bool)
        → (same_unit unit image.unit && (image.part == part && bytes_eq place image.place)) ≡ b
        → (b || list_any (λ (kept : BeforeImage). same_unit unit kept.unit
        && (kept.part == part && bytes_eq place kept.place)) befores) ≡ true
        → (list_any (λ (kept : BeforeImage). same_unit unit kept.unit
        && (kept.part == part && bytes_eq place kept.place)) befores ≡ true
        → (part == 0) ≡ false)
        → (part == 0) ≡ false
    by_test true is any further = subst (λ (p : ℕ). (p == 0) ≡ false)
        (nat_same image.part part (first_holds (image.part == part) (bytes_eq place image.place)
        (second_holds (same_unit unit image.unit) _ is)))
        (own-off unit own image are.0 (first_holds (same_unit unit image.unit) _ is))
    by_test false is any further = further any

last-pushed : (befores : List BeforeImage) (image : BeforeImage)
    → AllByRecursion IsOfClusterByDeck (befores ++ image ∷ []) → IsOfClusterByDeck image
last-pushed [] image are = are.0
last-pushed (kept ∷ befores) image are = last-pushed befores image are.1

-- a change that a deck's unit makes leaves an image of its part
made-off : (unit : UnitOfRecovery) → (unit.deck == 0) ≡ false → (change : Change)
    (old new : State) → IsMade unit change old new → AllByRecursion IsOfClusterByDeck old.befores
    → AllByRecursion IsOfClusterByDeck new.befores → IsOffCatalog change
made-off unit own change old new made before after =
    by_test (is_kept old unit change.part change.place) refl
    (subst (AllByRecursion IsOfClusterByDeck) made.befores after)
  where
    by_test : (b : Bool) → is_kept old unit change.part change.place ≡ b
        → AllByRecursion IsOfClusterByDeck (cond b old.befores (old.befores ++ made.image ∷ []))
        → IsOffCatalog change
    by_test true kept are = image-off unit own change.part change.place old.befores before kept
    by_test false kept are = subst (λ (p : ℕ). (p == 0) ≡ false) made.image_part
        (last-pushed old.befores made.image are
        (subst (λ (u : UnitOfRecovery). (u.deck == 0) ≡ false) (sym made.image_unit) own))

last-of : (befores : List BeforeImage) → AllByRecursion IsOfCluster befores
    → (kept : BeforeImage) → last_of befores ≡ Some kept → IsOfCluster kept
last-of [] are kept last = absurd cc
last-of (one ∷ []) are kept last = subst IsOfCluster (some-same one kept last) are.0
  where
    some-same : (one kept : BeforeImage) → Some one ≡ Some kept → one ≡ kept
    some-same one kept same = cc
last-of (one ∷ next ∷ rest) are kept last = last-of (next ∷ rest) are.1 kept last

-- those that a unit keeps
abbrev kept-by : UnitOfRecovery → List BeforeImage → List BeforeImage
kept-by unit befores = filter (λ (one : BeforeImage). same_unit unit one.unit) befores

-- those of a deck's unit are of clusters
own-left : (unit : UnitOfRecovery) → (unit.deck == 0) ≡ false → (befores : List BeforeImage)
    → AllByRecursion IsOfClusterByDeck befores → AllByRecursion IsOfCluster (kept-by unit befores)
own-left unit own [] are = tt
own-left unit own (image ∷ befores) are =
    by_test (same_unit unit image.unit) refl (own-left unit own befores are.1)
  where
    by_test : (b : Bool) → same_unit unit image.unit ≡ b
        → AllByRecursion IsOfCluster (kept-by unit befores)
        → AllByRecursion IsOfCluster (cond b (image ∷ kept-by unit befores) (kept-by unit befores))
    by_test true same rest = (own-off unit own image are.0 same, rest)
    by_test false same rest = rest

module _ (geometry : Geometry) (state : State) (unit : UnitOfRecovery)
    (own : (unit.deck == 0) ≡ false) (before : AllByRecursion IsOfClusterByDeck state.befores) where
  changed-off : (request : Request) (new : State) → MadeOr geometry state unit request new
      → AllByRecursion IsOfClusterByDeck new.befores
      → AllByRecursion IsOffCatalog
      (option_to_list (change_of (case_of geometry state unit request)))
  changed-off request new (NoChange none stays) after = subst
      (λ (it : Option Change). AllByRecursion IsOffCatalog (option_to_list it)) (sym none) tt
  changed-off request new (OneChange change is made) after = subst
      (λ (it : Option Change). AllByRecursion IsOffCatalog (option_to_list it)) (sym is)
      (made-off unit own change state new made before after, tt)

  back-off : (kept : Option BeforeImage) → last_kept state unit ≡ kept
      → AllByRecursion IsOffCatalog (option_to_list (option_map (change_back state) kept))
  back-off None last = tt
  back-off (Some kept) last = (last-of _ (own-left unit own state.befores before) kept last, tt)

  done-off : (request : Request) (feedback stamp : ℕ) (place bytes : Option (List ℕ))
      → AllByRecursion IsOfClusterByDeck (after_what geometry state unit stamp
      (Asked request (DoneReply feedback place bytes))).befores
      → AllByRecursion IsOffCatalog
      (place_changes geometry state unit (Asked request (DoneReply feedback place bytes)))
  done-off (Add file named added) feedback stamp place bytes after =
      changed-off (Add file named added) _ (make-or geometry state unit (Add file named added) file
      (change_of (case_of geometry state unit (Add file named added))) refl) after
  done-off (Update file updated) feedback stamp place bytes after =
      changed-off (Update file updated) _ (make-or geometry state unit (Update file updated) file
      (change_of (case_of geometry state unit (Update file updated))) refl) after
  done-off (Erase file) feedback stamp place bytes after =
      changed-off (Erase file) _ (make-or geometry state unit (Erase file) file
      (change_of (case_of geometry state unit (Erase file))) refl) after
  done-off (Get file find update integrity) feedback stamp place bytes after = tt
  done-off (Point file find) feedback stamp place bytes after = tt
  done-off (EndReq file) feedback stamp place bytes after = tt
  done-off Commit feedback stamp place bytes after = tt
  done-off Backout feedback stamp place bytes after = tt

  -- an entry of a deck's unit changes clusters alone, where the before-images of decks are of such
  -- before it and after
  entry-off : (stamp : ℕ) (what : What)
      → AllByRecursion IsOfClusterByDeck (after_what geometry state unit stamp what).befores
      → AllByRecursion IsOffCatalog (place_changes geometry state unit what)
  entry-off stamp (Asked request (DoneReply feedback place bytes)) after =
      done-off request feedback stamp place bytes after
  entry-off stamp (Asked request (Refused refusal)) after = tt
  entry-off stamp (Undone part place) after = back-off (last_kept state unit) refl
  entry-off stamp (Claimed part area) after = tt
  entry-off stamp (Split part) after = tt
  entry-off stamp (Faulted fault) after = tt

-- what a deck may change, an entry may
off-may : (state : State) (unit : UnitOfRecovery) (changes : List Change)
    → AllByRecursion IsOffCatalog changes → AllByRecursion (MayChange state unit) changes
off-may state unit [] off = tt
off-may state unit (change ∷ changes) off = (inl off.0, off-may state unit changes off.1)

off-served : (geometry : Geometry) (changes : List Change) → AllByRecursion IsOffCatalog changes
    → AllByRecursion (PutsServed geometry) changes
off-served geometry [] off = tt
off-served geometry (change ∷ changes) off = (
  λ part. absurd (true≢false (sym (eq-eqb change.part 0 part) ∙ off.0)),
  off-served geometry changes off.1,
)

-- an entry of a deck leaves the catalog
all-off : (changes : List Change) (contents : ℕ → Content) → AllByRecursion IsOffCatalog changes
    → changed contents changes 0 ≡ contents 0
all-off [] contents off = refl
all-off (change ∷ changes) contents off =
    all-off changes (with_change change contents) off.1 ∙ change-keeps change contents off.0

off-keeps : (geometry : Geometry) (state : State) (entry : Entry) → (entry.unit.deck == 0) ≡ false
    → AllByRecursion IsOffCatalog (place_changes geometry state entry.unit entry.what)
    → KeepsCatalog geometry state entry
off-keeps geometry state entry own off = record {
  may = off-may state entry.unit (place_changes geometry state entry.unit entry.what) off;
  served = off-served geometry (place_changes geometry state entry.unit entry.what) off;
  makes = ap entries_in (catalog-changed geometry state entry.unit entry.stamp entry.what
      ∙ all-off (place_changes geometry state entry.unit entry.what) state.contents off)
      ∙ sym (ap (λ (b : Bool). if b then catalog_told entry.what (catalog_of state)
      else catalog_of state) own);
}

-- one history after another
pub keep-then : (geometry : Geometry) (state : State) (entries more : List Entry)
    → KeepTheCatalog geometry state entries
    → KeepTheCatalog geometry (state_of geometry state entries) more
    → KeepTheCatalog geometry state (entries ++ more)
keep-then geometry state [] more first second = second
keep-then geometry state (entry ∷ entries) more first second =
    (first.0, keep-then geometry (state_after geometry state entry) entries more first.1 second)

-- and its first entries
pub keep-first : (geometry : Geometry) (state : State) (entries more : List Entry)
    → KeepTheCatalog geometry state (entries ++ more) → KeepTheCatalog geometry state entries
keep-first geometry state [] more keep = tt
keep-first geometry state (entry ∷ entries) more keep =
    (keep.0, keep-first geometry (state_after geometry state entry) entries more keep.1)

pub state-both : (geometry : Geometry) (state : State) (entries more : List Entry)
    → state_of geometry state (entries ++ more)
    ≡ state_of geometry (state_of geometry state entries) more
state-both geometry state [] more = refl
state-both geometry state (entry ∷ entries) more =
    state-both geometry (state_after geometry state entry) entries more

-- what an event of a deck enters
made-keep : (geometry : Geometry) (state : State) (act : Act) (unit : UnitOfRecovery) (line : ℕ)
    (request : Request) (made : List Entry) → MadeBy act unit line request made
    → (unit.deck == 0) ≡ false → AllByRecursion IsOfClusterByDeck state.befores
    → AllByRecursion IsOfClusterByDeck (state_of geometry state made).befores
    → KeepTheCatalog geometry state made
made-keep geometry state Done unit line request made is own before after =
    subst (KeepTheCatalog geometry state) (sym is.is) (⊎_elim (λ none. alone none)
    (λ fault. (
      off-keeps geometry state is.entry (of-deck is.entry is.unit_is)
          (subst (λ (what : What). AllByRecursion IsOffCatalog
          (place_changes geometry state is.entry.unit what))
          (sym (is.what_is ∙ ap (λ (reply : Reply). Asked request reply) fault.refused)) tt),
      subst (KeepTheCatalog geometry (state_after geometry state is.entry)) (sym fault.is) (
        off-keeps geometry (state_after geometry state is.entry) fault.fault
            (of-deck fault.fault fault.unit_is)
            (subst (λ (what : What). AllByRecursion IsOffCatalog
            (place_changes geometry (state_after geometry state is.entry) fault.fault.unit what))
            (sym fault.what_is) tt),
        tt,
      ),
    )) is.follows)
  where
    of-deck : (entry : Entry) → entry.unit ≡ unit → (entry.unit.deck == 0) ≡ false
    of-deck entry of = subst (λ (u : UnitOfRecovery). (u.deck == 0) ≡ false) (sym of) own

    alone : is.rest ≡ [] → KeepTheCatalog geometry state (is.entry ∷ is.rest)
    alone none = subst (λ (rest : List Entry). KeepTheCatalog geometry state (is.entry ∷ rest))
        (sym none) (
          off-keeps geometry state is.entry (of-deck is.entry is.unit_is)
              (entry-off geometry state is.entry.unit (of-deck is.entry is.unit_is) before
              is.entry.stamp is.entry.what
              (subst (λ (them : List Entry).
              AllByRecursion IsOfClusterByDeck (state_of geometry state them).befores)
              (is.is ∙ ap (λ (rest : List Entry). is.entry ∷ rest) none) after)),
          tt,
        )
made-keep geometry state (Again given) unit line request made is own before after = ⊎_elim
    (λ none. subst (KeepTheCatalog geometry state) (sym none) tt)
    (λ one. subst (KeepTheCatalog geometry state) (sym one.1) (
      off-keeps geometry state one.0 (of-deck one.0 one.2.0)
          (entry-off geometry state one.0.unit (of-deck one.0 one.2.0) before one.0.stamp one.0.what
          (subst (λ (them : List Entry).
          AllByRecursion IsOfClusterByDeck (state_of geometry state them).befores) one.1 after)),
      tt,
    )) is
  where
    of-deck : (entry : Entry) → entry.unit ≡ unit → (entry.unit.deck == 0) ≡ false
    of-deck entry of = subst (λ (u : UnitOfRecovery). (u.deck == 0) ≡ false) (sym of) own

-- so no event of a deck changes the catalog
pub event-keeps : (geometry : Geometry) (opening : State) (entries : List Entry) (act : Act)
    (unit : UnitOfRecovery) (line : ℕ) (request : Request) (made : List Entry)
    → MadeBy act unit line request made → (unit.deck == 0) ≡ false
    → AllByRecursion IsOfClusterByDeck (state_of geometry opening entries).befores
    → AllByRecursion IsOfClusterByDeck (state_of geometry opening (entries ++ made)).befores
    → KeepTheCatalog geometry opening entries → KeepTheCatalog geometry opening (entries ++ made)
event-keeps geometry opening entries act unit line request made is own before after keep =
    keep-then geometry opening entries made keep
    (made-keep geometry (state_of geometry opening entries) act unit line request made is own before
    (subst (λ (state : State). AllByRecursion IsOfClusterByDeck state.befores)
    (state-both geometry opening entries made) after))
