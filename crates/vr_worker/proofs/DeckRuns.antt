-- What the decks of a step leave of the volumes.
use Rattle.std.proofs.Common.{◌≡◌, List, [], All, Result, get_or, map, refl, sym}
use Rattle.std.specs.Prelude.{OnOk}
use Rattle.std.proofs.lemmas.List.{append-nil}
use Rattle.std.proofs.lemmas.List.Elements.{All-nil}
use Rattle.vr_history.specs.Merged.{merged, part_of_deck}
use Rattle.vr_history.specs.declared.entry.Entry.{Entry}
use Rattle.vr_job_text.specs.declared.job.JobStep.{JobStep}
use Rattle.vr_job_text.specs.declared.job.JobStep.TheVariants.{Decks}
use Rattle.vr_job_text.specs.declared.text.Step.{Step}
use Rattle.vr_trace.specs.Growing.{ComeLater, ComeNext}
use Rattle.vr_trace.specs.Shown.{Shown}
use Rattle.vr_trace.specs.declared.no.RunNo.{RunNo}
use Rattle.vr_worker.specs.Asks.{catalogs_of, job_step_asks}
use Rattle.vr_worker.specs.Decks.{AreSince, HasAsked, numbers_of}
use Rattle.vr_worker.specs.Latched.{IsSince}
use Rattle.vr_worker.specs.OneStep.{AreSinceStep, HasRunStep}
use Rattle.vr_worker.specs.Runs.{AreFresh, AreRuns, deck_numbers}
use Rattle.vr_worker.specs.Steps.{IsOfStep}
use Rattle.vr_worker.specs.declared.deck.DeckRun.{DeckRun}
use Rattle.vr_worker.proofs.Gapless.{none-next}
use Rattle.vr_worker.proofs.Grown.{have-asked, since-decks, stay-rising}
use Rattle.vr_worker.proofs.Merging.{went-nowhere, went-on}

module _ {V : Type 0} (shown : V → Shown) (entries : V → List Entry)
    (follows : V → V → Type 0) where
  -- a step that failed before it entered anything
  pub none-left : ((volume : V) → follows volume volume) → (step : JobStep) (volumes : List V)
      (end : Result (Unit {0}) RunNo) → ((P : Type 0) → OnOk end P)
      → HasRunStep shown entries follows step end volumes volumes
  none-left stays step volumes end fails = record {
    since = record {
      count = refl;
      each = λ place volume near. record {
        is_later = stays (get_or volumes place volume);
        more = [];
        grew = sym (append-nil (entries (get_or volumes place volume)));
        own = All-nil (IsOfStep step);
      };
    };
    later = went-nowhere step (map entries volumes);
    next = none-next entries volumes;
    asked = λ deck other. record {
      first = [];
      asked = sym (append-nil (part_of_deck deck (merged (map entries volumes))));
      prefix = (job_step_asks (catalogs_of shown volumes) step deck, refl);
      whole = fails ([] ≡ job_step_asks (catalogs_of shown volumes) step deck);
    };
    rising = λ deck rose. rose;
  }

  module _ (step : Step) (old new : List V) (runs : List DeckRun)
      (are : AreRuns (catalogs_of shown old) step.decks runs)
      (fresh : AreFresh entries step.decks old)
      (since : AreSince entries follows (numbers_of runs) old new)
      (end : Result (Unit {0}) RunNo) (asked : All (HasAsked end (map entries new)) runs) where
    since-step : AreSinceStep entries follows (Decks step) old new
    since-step =
        let them : AreSince entries follows (deck_numbers step.decks) old new =
        since-decks entries follows (catalogs_of shown old) step.decks runs are old fresh new since
        end asked in
        record {
          count = them.count;
          each = λ place volume near.
              let it : IsSince entries follows (deck_numbers step.decks) (get_or old place volume)
              (get_or new place volume) = them.each place volume near in
              record { is_later = it.is_later; more = it.more; grew = it.grew; own = it.own };
        }

    pub decks-left : ComeLater entries old new → ComeNext entries old new
        → HasRunStep shown entries follows (Decks step) end old new
    decks-left later next = record {
      since = since-step;
      later = went-on entries follows (Decks step) old new since-step later;
      next = next;
      asked = λ deck other. have-asked entries follows (catalogs_of shown old) step.decks runs are
          old fresh new since end asked deck;
      rising = stay-rising entries follows (catalogs_of shown old) step.decks runs are old fresh
          new since end asked;
    }
