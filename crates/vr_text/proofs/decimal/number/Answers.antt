use Rattle.std.proofs.Common.{ap, ◌∙◌}
use Rattle.std.specs.Result.{result_ok}
use Rattle.vr_text.specs.Number.{IsNumber, number_of}
use Rattle.vr_text.proofs.Numbers.{parse-number, none_unless}
use Rattle.vr_text.proofs.decimal.number.Goals as goal

pub returns-clause-none : goal.returns-clause-none
returns-clause-none c =
    none_unless _ (IsNumber c.args.text.now) (number_of c.args.text.now)
    (λ h. c.ok.ensures.value ∙ ap result_ok
    (parse-number c.args.text.now c.parse.result c.parse.ensures.value.0 h))
