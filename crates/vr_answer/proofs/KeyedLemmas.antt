-- The cluster that a file is on is key-sequenced, where all are.
use Rattle.std.proofs.Common.{◌≡◌, Option, Some, None}
use Rattle.std.specs.Option.{IfSome}
use Rattle.vr_catalog.specs.declared.definition.Definition.{Definition}
use Rattle.vr_types.specs.declared.unit.Kind.TheVariants.{Keyed}
use Rattle.vr_history.specs.State.{State}
use Rattle.vr_answer.specs.declared.case.Case.{Case as CaseInHand}
use Rattle.vr_answer.specs.InHand.{IsCaseOf}
use Rattle.vr_answer.specs.Opening.{definition_here}
use Rattle.vr_answer.specs.Scope.{HasKeyedAlone}
use Rattle.vr_answer.proofs.OpeningLemmas.{IsKeyed, keyed_here}

some_keyed : (o : Option Definition) → IsKeyed o → IfSome o (λ known. known.kind ≡ Keyed)
some_keyed None is = tt
some_keyed (Some definition) is = is

pub opened_keyed : (case : CaseInHand) (state : State) → IsCaseOf case state
    → HasKeyedAlone state → IfSome (definition_here case) (λ known. known.kind ≡ Keyed)
opened_keyed case state is keyed =
    some_keyed (definition_here case) (keyed_here case state is keyed)
