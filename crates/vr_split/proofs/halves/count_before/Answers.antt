use Rattle.std.proofs.Common.{ℕ, List, Option, sym, subst}
use Rattle.std.specs.Borrow.{Bor}
use Rattle.std.specs.Option.{option_map}
use Rattle.vr_space.specs.Search.{keys_of}
use Rattle.vr_split.specs.Halves.{AreBefore}
use Rattle.vr_split.proofs.halves.count_before.Goals as goal

pub returns-in-Some : goal.returns-in-Some
returns-in-Some c = λ range holds.
    subst (λ (low : Option (Bor (List ℕ))).
    AreBefore (keys_of c.args.layout.now c.args.block.now)
    (option_map (λ (place : Bor (List ℕ)). place.now) low) c.count_up_to.result)
    (sym c.in-Some.is) (c.count_up_to.ensures range holds)
