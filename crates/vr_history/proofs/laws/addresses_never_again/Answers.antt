use Rattle.vr_history.proofs.AddressRuns.{all_apart, in_order_again, over_run}
use Rattle.vr_history.proofs.laws.addresses_never_again.Goals as goal

pub returns : goal.returns
returns c = record {
  kept = λ geometry part contents owned entries runs.
      (over_run geometry part contents owned entries runs).places;
  apart = all_apart;
  in_order = in_order_again;
  empty = λ geometry owned areas. record { addressed = tt; areas = areas };
}
