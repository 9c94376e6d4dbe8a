-- What an event of the utilities leaves of a run, from each opening; and one that enters nothing,
-- or the fault of a write alone.
use Rattle.std.proofs.Common.{◌≡◌, ◌≢◌, ◌∙◌, ◌==◌, inl, inr, ℕ, Bool, true, false, List, [], ◌∷◌}
use Rattle.std.proofs.Common.{◌++◌, None, All, ap, append_assoc, if◌then◌else◌, refl, subst, sym}
use Rattle.std.proofs.Common.{⊎_elim}
use Rattle.std.specs.List.{AllByRecursion}
use Rattle.std.proofs.lemmas.List.{append-nil}
use Rattle.std.proofs.lemmas.List.Elements.{All-contains, All-head, All-tail}
use Rattle.vr_types.specs.Faults.{Faults}
use Rattle.vr_types.specs.Image.{Image}
use Rattle.vr_types.specs.Moments.{Guards}
use Rattle.vr_types.specs.Seen.{Left, Seen}
use Rattle.vr_types.specs.declared.geometry.Geometry.{Geometry}
use Rattle.vr_types.proofs.CallerLemmas.{guards-then, guards-weaken}
use Rattle.vr_catalog.specs.Catalog.{entries_in}
use Rattle.vr_catalog.specs.declared.entry.CatEntry.{CatEntry}
use Rattle.vr_history.specs.Change.{Change}
use Rattle.vr_history.specs.Committed.{changed}
use Rattle.vr_history.specs.Legal.{state_of}
use Rattle.vr_history.specs.Opened.{catalog_of}
use Rattle.vr_history.specs.State.{State}
use Rattle.vr_history.specs.Step.{state_after}
use Rattle.vr_history.specs.declared.entry.Entry.{Entry}
use Rattle.vr_record_file.specs.Now.{state_now}
use Rattle.vr_event.specs.Nearer.{EntersSplits}
use Rattle.vr_event.specs.Volume.{IsHeld, IsWhole, VolumeNow}
use Rattle.vr_volume.specs.Crashes.{RecoversTo}
use Rattle.vr_job.specs.Catalogs.{catalog_after, catalog_told}
use Rattle.vr_job.specs.Committed.{KeepTheCatalog, KeepsCatalog, MayChange, PutsServed}
use Rattle.vr_job.specs.Crash.{IsLeftBy}
use Rattle.vr_job.specs.Events.{HasStopped, IsEvent, IsLeftWhile, IsOfEvents, KeepsAtRest}
use Rattle.vr_job.specs.Events.{LeavesAtRest, OwnsAtRest}
use Rattle.vr_job.specs.Going.{HasRun}
use Rattle.vr_job.proofs.CatalogChanges.{catalog-changed}
use Rattle.vr_job.proofs.Crashing.{held-left, left-more, left-while}
use Rattle.vr_job.proofs.Keeping.{keep-then}
use Rattle.vr_job.proofs.Kept.{AreSized, held-kept}
use Rattle.vr_job.proofs.Owning.{held-owners}
use Rattle.vr_job.proofs.Splitting.{held-splits}
use Rattle.vr_job.proofs.UtilityEvents.{HasSpace, IsStill, IsStillMade, IsUtilityMade}

-- what an entry doesn't make of a catalog, it doesn't make by a unit of the utilities either
pub after-same : (entry : Entry) (catalog : List CatEntry)
    → catalog_told entry.what catalog ≡ catalog → catalog_after entry catalog ≡ catalog
after-same entry catalog same = by_test (entry.unit.deck == 0)
  where
    by_test : (b : Bool) → (if b then catalog_told entry.what catalog else catalog) ≡ catalog
    by_test true = same
    by_test false = refl

-- entries that change no record keep the catalog
pub still-one : (geometry : Geometry) (state : State) (entry : Entry) → IsStill entry
    → KeepsCatalog geometry state entry
still-one geometry state entry still = record {
  may = subst (AllByRecursion (MayChange state entry.unit)) (sym (still.changes geometry state)) tt;
  served = subst (AllByRecursion (PutsServed geometry)) (sym (still.changes geometry state)) tt;
  makes = ap entries_in (catalog-changed geometry state entry.unit entry.stamp entry.what
      ∙ ap (λ (changes : List Change). changed state.contents changes 0)
      (still.changes geometry state))
      ∙ sym (after-same entry (catalog_of state) (still.tells (catalog_of state)));
}

pub still-keep : (geometry : Geometry) (state : State) (entries : List Entry) → All IsStill entries
    → KeepTheCatalog geometry state entries
still-keep geometry state [] still = tt
still-keep geometry state (entry ∷ entries) still = (
  still-one geometry state entry (All-head IsStill entry entries still),
  still-keep geometry (state_after geometry state entry) entries
      (All-tail IsStill entry entries still),
)

-- what is left while an event goes on is left by the history after it
while-left : (geometry : Geometry) (number : ℕ) (opening : State) (entries made : List Entry)
    (image : Image) → IsLeftWhile geometry number opening entries made image
    → IsLeftBy geometry number opening (entries ++ made) image
while-left geometry number opening entries made image is = record {
  before = entries ++ is.first;
  after = is.rest;
  is = ap (λ (es : List Entry). entries ++ es) is.made_are
      ∙ sym (append_assoc entries is.first is.rest);
  left = is.left;
}

module _ {B : Type 0} (seen : B → Seen) (faults : B → Faults) (old new : VolumeNow B)
    (before : IsWhole seen old) (going : old.file.stopped ≡ None) (whole : IsWhole seen new)
    (number : new.number ≡ old.number)
    (made-in : IsUtilityMade old.file new.file (faults old.blocks) (faults new.blocks)) where
  abbrev geometry : Geometry
  geometry = old.file.geometry

  module _ (opening : State) (first : B) (run : HasRun seen faults opening first old)
      (held : IsHeld seen opening new) (sized : AreSized (seen new.blocks))
      (cur : Left (seen new.blocks) (seen new.blocks).cur)
      (while-guards : Guards (seen old.blocks) (seen new.blocks)
      (IsLeftWhile geometry old.number opening old.file.entries made-in.made))
      (keeps : KeepTheCatalog geometry (state_now opening old.file) made-in.made)
      (enters : EntersSplits old new) where
    -- what is left is so by the history after it
    left-by : Guards (seen first) (seen new.blocks)
        (IsLeftBy geometry old.number opening (old.file.entries ++ made-in.made))
    left-by = guards-then (seen first) (seen old.blocks) (seen new.blocks)
        (IsLeftBy geometry old.number opening (old.file.entries ++ made-in.made))
        (guards-weaken (seen first) (seen old.blocks)
        (IsLeftBy geometry old.number opening old.file.entries)
        (IsLeftBy geometry old.number opening (old.file.entries ++ made-in.made)) run.left
        (λ image is. left-more geometry old.number opening old.file.entries made-in.made image is))
        (guards-weaken (seen old.blocks) (seen new.blocks)
        (IsLeftWhile geometry old.number opening old.file.entries made-in.made)
        (IsLeftBy geometry old.number opening (old.file.entries ++ made-in.made)) while-guards
        (λ image is. while-left geometry old.number opening old.file.entries made-in.made image is))

    -- ---- the event

    rests : LeavesAtRest seen geometry old.number opening new.blocks new.file.entries
    rests = subst (λ (n : ℕ). LeavesAtRest seen geometry n opening new.blocks new.file.entries)
        number
        (subst (λ (g : Geometry). LeavesAtRest seen g new.number opening new.blocks
        new.file.entries) made-in.geometry (held-left seen opening new whole held))

    -- what its history says of the volume
    held-stopped : new.file.stopped ≡ (state_of geometry opening new.file.entries).stopped
    held-stopped = subst (λ (g : Geometry). new.file.stopped
        ≡ (state_of g opening new.file.entries).stopped) made-in.geometry held.file.now.stopped

    one-event : IsEvent seen faults geometry old.number opening (record {
      deck = 0;
      blocks = old.blocks;
      entries = old.file.entries;
      made = made-in.made;
    }) new.blocks new.file.entries
    one-event = record {
      entries_are = made-in.entries;
      own = made-in.own;
      utilities = λ deck. made-in.utilities;
      once = made-in.once;
      during = inr while-guards;
      after = rests;
      items = subst (λ (n : ℕ). KeepsAtRest seen geometry n opening new.blocks new.file.entries)
          number
          (subst (λ (g : Geometry). KeepsAtRest seen g new.number opening new.blocks
          new.file.entries) made-in.geometry (held-kept seen opening new whole held sized));
      owners = subst (λ (g : Geometry). OwnsAtRest seen g opening new.blocks new.file.entries)
          made-in.geometry (held-owners seen opening new whole held cur);
      splits = held-splits seen opening old new before whole run.held held made-in.made
          made-in.entries made-in.geometry (λ goes. going) enters;
      faults = made-in.faults;
      lasting = λ done. rests (sym held-stopped ∙ made-in.goes done);
      refused_read = made-in.reads;
      failed_write = made-in.failed;
      unfailed = made-in.unfailed;
      unread = λ faultless none. ⊎_elim (λ same. inl same) (λ nothing. inr (refl, nothing))
          (made-in.unread faultless);
      lacks = λ one among request need free is.
          absurd (All-contains HasSpace made-in.made one made-in.space among request need free is);
    }

    -- where the volume stopped, it did so now
    stops-now : new.file.stopped ≢ None
        → HasStopped geometry old.number opening new.file.entries (seen new.blocks)
    stops-now stopped = record {
      before = old.file.entries;
      made = made-in.made;
      later = [];
      entries_are = made-in.entries
          ∙ ap (λ (es : List Entry). old.file.entries ++ es) (sym (append-nil made-in.made));
      stop = made-in.stops stopped;
      left = λ image left. while-guards.rest image left;
    }

    -- ---- the run

    keeps-on : KeepTheCatalog geometry opening new.file.entries
    keeps-on = subst (KeepTheCatalog geometry opening) (sym made-in.entries)
        (keep-then geometry opening old.file.entries made-in.made run.keeps_catalog keeps)

    pub utility-run : HasRun seen faults opening first new
    utility-run = record {
      held = held;
      keeps_catalog = subst (λ (g : Geometry). KeepTheCatalog g opening new.file.entries)
          (sym made-in.geometry) keeps-on;
      left = subst (λ (n : ℕ). Guards (seen first) (seen new.blocks)
          (IsLeftBy new.file.geometry n opening new.file.entries)) (sym number)
          (subst (λ (g : Geometry). Guards (seen first) (seen new.blocks)
          (IsLeftBy g old.number opening new.file.entries)) (sym made-in.geometry)
          (subst (λ (es : List Entry). Guards (seen first) (seen new.blocks)
          (IsLeftBy geometry old.number opening es)) (sym made-in.entries) left-by));
      events = subst (λ (n : ℕ). IsOfEvents seen faults new.file.geometry n opening first
          new.blocks new.file.entries) (sym number)
          (subst (λ (g : Geometry). IsOfEvents seen faults g old.number opening first new.blocks
          new.file.entries) (sym made-in.geometry)
          (record { events = _ ∷ run.events.events; are = (one-event, run.events.are) }));
      stopped = λ stops. subst (λ (n : ℕ). HasStopped new.file.geometry n opening
          new.file.entries (seen new.blocks)) (sym number)
          (subst (λ (g : Geometry). HasStopped g old.number opening new.file.entries
          (seen new.blocks)) (sym made-in.geometry) (stops-now stops));
    }

-- An event that changes no record, in which each image recovers to what was committed before.
pub still-run : {B : Type 0} (seen : B → Seen) (faults : B → Faults) (old new : VolumeNow B)
    → IsWhole seen old → IsWhole seen new → old.file.stopped ≡ None → new.number ≡ old.number
    → IsStillMade old.file new.file (faults old.blocks) (faults new.blocks)
    → (opening : State) (first : B) → HasRun seen faults opening first old
    → IsHeld seen opening new → AreSized (seen new.blocks)
    → Left (seen new.blocks) (seen new.blocks).cur
    → Guards (seen old.blocks) (seen new.blocks)
    (RecoversTo old.store.log.geometry old.number (state_now opening old.file) [])
    → EntersSplits old new → HasRun seen faults opening first new
still-run {B} seen faults old new before whole going number made opening first run held sized cur
    moments enters = utility-run seen faults old new before going whole number made.event opening
    first run held sized cur while-guards
    (still-keep old.file.geometry (state_now opening old.file) made.event.made made.still) enters
  where
    while-guards : Guards (seen old.blocks) (seen new.blocks)
        (IsLeftWhile old.file.geometry old.number opening old.file.entries made.event.made)
    while-guards = guards-weaken (seen old.blocks) (seen new.blocks)
        (RecoversTo old.file.geometry old.number (state_now opening old.file) [])
        (IsLeftWhile old.file.geometry old.number opening old.file.entries made.event.made)
        (subst (λ (g : Geometry). Guards (seen old.blocks) (seen new.blocks)
        (RecoversTo g old.number (state_now opening old.file) [])) (before.geometry going) moments)
        (λ image rests. left-while old.file.geometry old.number opening old.file.entries
        made.event.made [] image (inl refl) rests)
