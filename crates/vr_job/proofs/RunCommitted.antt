-- What a run leaves of a volume is what its history committed.
use Rattle.std.proofs.Common.{◌≡◌, ◌∙◌, ◌++◌, ◌∷◌, inl, ℕ, List, [], ap, append_assoc, refl, subst}
use Rattle.std.proofs.Common.{sym}
use Rattle.std.proofs.lemmas.List.{append-nil}
use Rattle.vr_types.specs.Content.{Content}
use Rattle.vr_types.specs.Image.{Image}
use Rattle.vr_types.specs.declared.geometry.Geometry.{Geometry}
use Rattle.vr_catalog.specs.Catalog.{entries_in}
use Rattle.vr_catalog.specs.declared.entry.CatEntry.{CatEntry}
use Rattle.vr_history.specs.Legal.{AreSteps, state_of}
use Rattle.vr_history.specs.State.{Owned, State, opening_state}
use Rattle.vr_history.specs.Step.{Step, state_after}
use Rattle.vr_history.specs.declared.entry.Entry.{Entry}
use Rattle.vr_volume.specs.PutBack.{standing}
use Rattle.vr_volume.specs.Volume.{Recovers}
use Rattle.vr_job.specs.Committed.{IsCommittedAt, IsCommittedBy, IsCommittedWhile, KeepTheCatalog}
use Rattle.vr_job.specs.Committed.IsCommittedAt.{Counted, Ended}
use Rattle.vr_job.specs.Crash.{IsCommit, IsLeftAt, IsLeftBy, as_done}
use Rattle.vr_job.specs.Crash.IsLeftAt.{Counted as LeftCounted, Ended as LeftEnded}
use Rattle.vr_job.specs.Events.{IsLeftWhile}
use Rattle.vr_job.proofs.Ascending.{AllAscend}
use Rattle.vr_job.proofs.Committed.{has-committed}
use Rattle.vr_job.proofs.UtilityRuns.{still-one}
use Rattle.vr_job.proofs.Keeping.{keep-first, keep-then}
use Rattle.vr_job.proofs.Stopping.{commit-may, step-at}

-- the first entries of legal steps are legal steps
pub steps-first : (geometry : Geometry) (state : State) (entries more : List Entry)
    → AreSteps geometry state (entries ++ more) → AreSteps geometry state entries
steps-first geometry state [] more steps = tt
steps-first geometry state (entry ∷ entries) more steps =
    (steps.0, steps-first geometry (state_after geometry state entry) entries more steps.1)

-- and one more
steps-then : (geometry : Geometry) (state : State) (entries : List Entry) (entry : Entry)
    → AreSteps geometry state entries → Step geometry (state_of geometry state entries) entry
    → AreSteps geometry state (entries ++ entry ∷ [])
steps-then geometry state [] entry steps step = (step, tt)
steps-then geometry state (first ∷ entries) entry steps step = (
  steps.0,
  steps-then geometry (state_after geometry state first) entries entry steps.1 step,
)

module _ (geometry : Geometry) (number : ℕ) (catalog : List CatEntry) (contents : ℕ → Content)
    (owned : List Owned) (is : catalog ≡ entries_in (contents 0)) (entries : List Entry)
    (steps : AreSteps geometry (opening_state contents owned) entries)
    (ascend : AllAscend contents)
    (keep : KeepTheCatalog geometry (opening_state contents owned) entries) where
  abbrev opening : State
  opening = opening_state contents owned

  -- what has the records of the opening: nothing of the history is committed yet
  pub opening-committed : (image : Image)
      → Recovers geometry number image (λ (part : ℕ). standing (contents part))
      → IsCommittedBy geometry number catalog opening entries image
  opening-committed image recovers = record {
    before = [];
    after = entries;
    is = refl;
    has = Counted [] (inl refl)
        (has-committed geometry contents owned [] tt ascend number catalog is tt [] image recovers);
  }

  -- what is left by some first entries of the history, before these
  module _ (before after more : List Entry) (both : entries ≡ before ++ (after ++ more)) where
    steps-before : AreSteps geometry opening before
    steps-before = steps-first geometry opening before (after ++ more)
        (subst (AreSteps geometry opening) both steps)

    keep-before : KeepTheCatalog geometry opening before
    keep-before = keep-first geometry opening before (after ++ more)
        (subst (KeepTheCatalog geometry opening) both keep)

    -- once a COMMIT is done that comes next
    module _ (entry : Entry) (rest : List Entry) (next : after ≡ entry ∷ rest)
        (commit : IsCommit entry.what) where
      steps-done : AreSteps geometry opening (before ++ as_done entry ∷ [])
      steps-done = steps-then geometry opening before (as_done entry) steps-before
          (commit-may geometry (state_of geometry opening before) entry
          (step-at geometry opening before entry (rest ++ more)
          (subst (λ (them : List Entry). AreSteps geometry opening (before ++ (them ++ more))) next
          (subst (AreSteps geometry opening) both steps))) commit)

      keep-done : KeepTheCatalog geometry opening (before ++ as_done entry ∷ [])
      keep-done = keep-then geometry opening before (as_done entry ∷ []) keep-before (
        still-one geometry (state_of geometry opening before) (as_done entry)
            (record { changes = λ geometry state. refl; tells = λ catalog. refl }),
        tt,
      )

    at-committed : (image : Image) → IsLeftAt geometry number opening before after image
        → IsCommittedAt geometry number catalog opening before after image
    at-committed image (LeftCounted counted commits recovers) = Counted counted commits
        (has-committed geometry contents owned before steps-before ascend number catalog is
        keep-before counted image recovers.recovers)
    at-committed image (LeftEnded entry rest next deck commit recovers) =
        Ended entry rest next deck commit
        (has-committed geometry contents owned (before ++ as_done entry ∷ [])
        (steps-done entry rest next commit) ascend number catalog is
        (keep-done entry rest next commit) [] image recovers.recovers)

  -- what the history leaves
  pub left-committed : (image : Image) → IsLeftBy geometry number opening entries image
      → IsCommittedBy geometry number catalog opening entries image
  left-committed image left = record {
    before = left.before;
    after = left.after;
    is = left.is;
    has = at-committed left.before left.after []
        (left.is ∙ ap (λ (them : List Entry). left.before ++ them) (sym (append-nil left.after)))
        image left.left;
  }

  -- and what is left while an event goes on
  pub while-committed : (before made later : List Entry) (image : Image)
      → entries ≡ before ++ (made ++ later) → IsLeftWhile geometry number opening before made image
      → IsCommittedWhile geometry number catalog opening before made image
  while-committed before made later image both left = record {
    first = left.first;
    rest = left.rest;
    made_are = left.made_are;
    begun = left.begun;
    has = at-committed (before ++ left.first) left.rest later cut image left.left;
  }
    where
      cut : entries ≡ (before ++ left.first) ++ (left.rest ++ later)
      cut = both
          ∙ ap (λ (them : List Entry). before ++ (them ++ later)) left.made_are
          ∙ ap (λ (them : List Entry). before ++ them) (append_assoc left.first left.rest later)
          ∙ sym (append_assoc before left.first (left.rest ++ later))
