use Rattle.std.proofs.Common.{◌≡◌, Option, sym, ap, ◌∙◌, subst}
use Rattle.std.specs.Option.{IfSome}
use Rattle.vr_catalog.specs.declared.definition.Definition.{Definition}
use Rattle.vr_types.specs.declared.unit.Kind.TheVariants.{Keyed}
use Rattle.vr_answer.specs.Opening.{as_opened}
use Rattle.vr_answer.proofs.KeyedLemmas.{opened_keyed}
use Rattle.vr_answer.proofs.OpeningLemmas.{opened_is}
use Rattle.vr_answer.proofs.case.opened.Goals as goal

pub returns : goal.returns
returns c = record {
  value = λ state is. opened_is c.args.case.now state is ∙ sym (ap as_opened c.definition.ensures);
  keyed = λ state is keyed.
      subst (λ (o : Option Definition). IfSome o (λ known. known.kind ≡ Keyed))
      (sym c.definition.ensures) (opened_keyed c.args.case.now state is keyed);
}
