use Rattle.std.proofs.Common.{◌∙◌, ℕ, [], ◌∷◌, ap, refl}
use Rattle.std.proofs.lemmas.List.{map-append}
use Rattle.vr_history.specs.Kept.{Kept}
use Rattle.vr_trace.specs.Volumes.{entries_of}
use Rattle.vr_job.specs.Shelf.{failed_at}
use Rattle.vr_job.proofs.shelf_run.close_next.Goals as goal

pub returns-clause-next : goal.returns-clause-next
returns-clause-next g c =
    let closed = c.close_one-device.result in
    record {
      one = record {
        volume = c.args.serving;
        result = closed.result;
        left = closed.device;
        entries = closed.history.entries;
      };
      volume_is = refl;
      closing = record {
        closed = c.close_one-device.ensures.closed;
        entries_are = c.close_one-device.ensures.entries;
      };
      shelf_is = c.push_reserved.ensures.items;
      histories_is = ap entries_of c.push_reserved-2.ensures.items
          ∙ map-append (λ (kept : Kept). kept.entries) c.args.histories.now.items
          (closed.history ∷ []);
      unsynced_is = c.failed_at.ensures
          ∙ ap (λ (n : ℕ). failed_at n closed.result)
          (c.len-number.ensures ∙ c.args.shelf.now.ok.0);
    }
