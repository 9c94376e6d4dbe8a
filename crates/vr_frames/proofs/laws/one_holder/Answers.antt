use Rattle.std.proofs.Common.{◌≡◌, ℕ, List, [], ◌∷◌, zero, suc, Some}
use Rattle.std.proofs.lemmas.Option.{none-some, same_Some}
use Rattle.std.specs.Prelude.{slice_get}
use mathlib.Core.Option.{some}
use lib.ListN.{get_elem?}
use Rattle.vr_frames.specs.declared.view.View.{View}
use Rattle.vr_frames.specs.Rule.{IsBuffer}
use Rattle.vr_frames.proofs.Steps.{one_seat}
use Rattle.vr_frames.proofs.laws.one_holder.Goals as goal

-- the rule of the table reads its lists by another name
at_place : (views : List View) (seat : ℕ) (view : View) → slice_get views seat ≡ Some view
    → get_elem? views seat ≡ some view
at_place [] seat view found = absurd (none-some view found)
at_place (first ∷ views) zero view found = λ k. some (same_Some first view found k)
at_place (first ∷ views) (suc seat) view found = at_place views seat view found

pub returns : goal.returns
returns c size state one other frame kept mine theirs =
    one_seat IsBuffer size state kept frame one other mine.view theirs.view
    (at_place state.views one mine.view mine.of_seat)
    (at_place state.views other theirs.view theirs.of_seat) mine.holds theirs.holds
