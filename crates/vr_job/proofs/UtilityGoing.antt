-- What goes on of a volume over an event of the utilities.
use Rattle.std.proofs.Common.{◌≡◌, ◌∙◌, ◌||◌, ℕ, Bool, true, false, IsTrue, List, [], ◌∷◌, ◌++◌}
use Rattle.std.proofs.Common.{Option, Some, None, ap, arith, max, refl, subst, sym}
use Rattle.std.specs.Prelude.{is_some}
use Rattle.std.proofs.lemmas.List.Elements.{All-append, All-cons, All-nil}
use Rattle.std.proofs.lemmas.List.Folds.{list_any-append}
use Rattle.vr_types.specs.Faults.{Faults}
use Rattle.vr_types.specs.Seen.{Seen}
use Rattle.vr_history.specs.Merged.{IsStamped, last_stamp}
use Rattle.vr_history.specs.State.{State}
use Rattle.vr_history.specs.declared.entry.Entry.{Entry}
use Rattle.vr_history.specs.declared.entry.What.{What}
use Rattle.vr_ams_define.specs.Grown.{HasEntered}
use Rattle.vr_event.specs.Made.{AreNext}
use Rattle.vr_event.specs.Volume.{IsHeld, IsWhole, VolumeNow}
use Rattle.vr_worker.proofs.CallerLemmas.{stamped-above}
use Rattle.vr_job.specs.Faultless.{AreFaultless, IsFaulted, has_stopped, is_stop}
use Rattle.vr_job.specs.Going.{GoesOn, ShowsStop}
use Rattle.vr_job.specs.Serving.{IsServing}
use Rattle.vr_job.proofs.Entering.{next-each}
use Rattle.vr_job.proofs.GoingOn.{stamped-more}
use Rattle.vr_job.proofs.UtilityMade.{HasMadeBy, HasRisen}

-- ---- entries, and what stops a volume

true-false : true ≡ false → ⊥
true-false is = cc

-- each is above the one before
next-stamped : (before : ℕ) (made : List Entry) → AreNext before made → IsStamped before made
next-stamped before [] next = tt
next-stamped before (entry ∷ made) next =
    (omega (arith, next.0), next-stamped entry.stamp made next.1)

-- one that stops nothing is no fault
no-fault : (what : What) → is_stop what ≡ false → IsFaulted what → ⊥
no-fault what goes is = true-false (sym (ap is_stop is.1) ∙ goes)

both-false : (a b : Bool) → (a || b) ≡ false → (a ≡ false) × (b ≡ false)
both-false true b is = absurd (true-false is)
both-false false b is = (refl, is)

-- nor are any of those that stop nothing
none-faulted : (entries : List Entry) → has_stopped entries ≡ false → AreFaultless entries
none-faulted [] goes = All-nil (λ (entry : Entry). ¬ IsFaulted entry.what)
none-faulted (entry ∷ entries) goes =
    let each = both-false (is_stop entry.what) (has_stopped entries) goes in
    All-cons (λ (one : Entry). ¬ IsFaulted one.what) entry entries (no-fault entry.what each.0)
    (none-faulted entries each.1)

or-false : (b : Bool) → (b || false) ≡ b
or-false true = refl
or-false false = refl

or-true : (b : Bool) → (b || true) ≡ true
or-true true = refl
or-true false = refl

-- whether the history shows a stop then
stop-then : (fails : Bool) (entries made : List Entry) → has_stopped made ≡ fails
    → has_stopped (entries ++ made) ≡ (has_stopped entries || fails)
stop-then fails entries made is =
    list_any-append (λ (entry : Entry). is_stop entry.what) entries made
    ∙ ap (λ (b : Bool). has_stopped entries || b) is

-- ---- what goes on

module _ {B : Type 0} (seen : B → Seen) (faults : B → Faults) (after line : ℕ) (fails : Bool)
    (old new : VolumeNow B) (made : HasMadeBy fails after line old.file new.file) where
  made-stamped : IsStamped (max (last_stamp 0 old.file.entries) after) made.made
  made-stamped = next-stamped (max (last_stamp 0 old.file.entries) after) made.made made.next

  -- the entries of the event come next
  pub utility-entered : HasEntered line after old.file.entries new.file.entries
  utility-entered = record {
    made = made.made;
    entries = made.entries;
    own = made.own;
    stamped = made-stamped;
    next = next-each (max (last_stamp 0 old.file.entries) after) made.made made.next;
  }

  -- the volume serves on
  pub utility-serving : (tells : Bool) → IsWhole seen new
      → (IsTrue tells → (opening : State) → IsHeld seen opening old → IsHeld seen opening new)
      → IsServing tells seen old → IsServing tells seen new
  utility-serving tells whole held serving = record {
    whole = whole;
    holds = λ told. record {
      opening = (serving.holds told).opening;
      held = held told (serving.holds told).opening (serving.holds told).held;
    };
    shows = made.shows serving.shows;
  }

  module _ (risen : HasRisen fails (faults old.blocks) (faults new.blocks))
      (before-going : old.file.stopped ≡ None) where
    -- no write failed
    stayed : (failed : Bool) → fails ≡ failed
        → (faults new.blocks).writes ≡ (faults old.blocks).writes → fails ≡ false
    stayed false calm same = calm
    stayed true failed same = absurd (omega (arith, same, risen.rose failed))

    -- it goes on
    going : (failed : Bool) → fails ≡ failed → new.file.stopped ≡ old.file.stopped → fails ≡ false
    going false calm same = calm
    going true failed same = absurd (true-false
        (sym (made.stops failed) ∙ ap is_some (same ∙ before-going)))

    -- the history shows whether the volume has stopped
    shown : (failed : Bool) → fails ≡ failed → ShowsStop old.file → ShowsStop new.file
    shown false calm before = ap is_some (made.stays calm) ∙ before
        ∙ sym (ap has_stopped made.entries
        ∙ stop-then false old.file.entries made.made (made.has_stop ∙ calm)
        ∙ or-false (has_stopped old.file.entries))
    shown true failed before = made.stops failed
        ∙ sym (ap has_stopped made.entries
        ∙ stop-then true old.file.entries made.made (made.has_stop ∙ failed)
        ∙ or-true (has_stopped old.file.entries))

    pub utility-goes : IsWhole seen new → new.number ≡ old.number → GoesOn seen faults old new
    utility-goes whole number = record {
      whole = whole;
      number = number;
      geometry = made.geometry;
      decks = λ deck has. made.decks deck ∙ has;
      made = made.made;
      entries = made.entries;
      catalog = made.catalog;
      stamped = λ before. subst (IsStamped 0) (sym made.entries)
          (stamped-more 0 old.file.entries made.made before
          (stamped-above (last_stamp 0 old.file.entries) (max (last_stamp 0 old.file.entries) after)
          made.made (omega arith) made-stamped));
      reads = omega (arith, risen.reads, made.unread);
      writes = risen.writes;
      stops = λ same. made.stays (stayed fails refl same);
      quiet = λ same. risen.calm (going fails refl same);
      stays = λ stamp stopped. absurd (some-none stamp (sym stopped ∙ before-going));
      faultless = λ same before. subst AreFaultless (sym made.entries)
          (All-append (λ (one : Entry). ¬ IsFaulted one.what) old.file.entries made.made before
          (none-faulted made.made (made.has_stop ∙ stayed fails refl same)));
      shows = shown fails refl;
    }
      where
        some-none : (stamp : ℕ) → ◌≡◌ {A = Option ℕ} (Some stamp) None → ⊥
        some-none stamp same = cc
