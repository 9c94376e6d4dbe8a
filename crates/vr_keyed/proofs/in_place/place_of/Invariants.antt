use Rattle.vr_keyed.proofs.InPlace.{IsPassing}
use Rattle.vr_keyed.proofs.in_place.place_of.Given as goal

abbrev pub invariant-loop : goal.invariant-loop
invariant-loop l = IsPassing l.view.items l.records l.at
