use Rattle.std.proofs.Common.{◌≡◌, ◌∷◌, ◌++◌, [], drop, map, take}
use Rattle.vr_worker.specs.Ready.{turn_at, with_out}
use Rattle.vr_worker.proofs.readying.enter_all.Given as goal

abbrev pub invariant-loop-place : goal.invariant-loop-place
invariant-loop-place l = record {
  turns : l.turns.items ≡ map (turn_at l.deck) (take l.place l.initial.ledgers);
  entered : l.ledgers ≡ map (with_out (l.deck ∷ [])) (take l.place l.initial.ledgers)
      ++ drop l.place l.initial.ledgers;
}
