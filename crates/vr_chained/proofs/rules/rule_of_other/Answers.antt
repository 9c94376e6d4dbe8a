use Rattle.std.proofs.Common.{◌∙◌, sym}
use Rattle.vr_chained.proofs.SlotRules.{is-end, no-interval, no-slots, plain-other}
use Rattle.vr_chained.proofs.rules.rule_of_other.Goals as goal

pub returns-in-EndOfFile : goal.returns-in-EndOfFile
returns-in-EndOfFile c = λ part size not.
    is-end part c.args.block.now c.in-Ok.view
    (record {
      form = Rattle.vr_ci_match.specs.declared.form.Form.TheVariants.Plain;
      spelled = c.in-Ok.ensures.ok;
      size = size;
    })
    (sym c.shape.ensures ∙ c.in-EndOfFile.is)

pub returns-in_default : goal.returns-in_default
returns-in_default c = λ part size not.
    no-slots part c.args.block.now c.in-Ok.view
    (record {
      form = Rattle.vr_ci_match.specs.declared.form.Form.TheVariants.Plain;
      spelled = c.in-Ok.ensures.ok;
      size = size;
    })
    (plain-other c.args.block.now c.in-Ok.view c.in-Ok.ensures.ok
    (λ end. c.in_default.not-EndOfFile (c.shape.ensures ∙ end))) not

pub returns-then-is_of_slots : goal.returns-then-is_of_slots
returns-then-is_of_slots c = λ part size not.
    let found = c.is_of_slots.ensures.some c.if-is_of_slots.true in
    no-slots part c.args.block.now found.1
    (record { form = found.0; spelled = found.2; size = size })
    (λ other is end. c.in-Err.ensures.only other is) not

pub returns-else-is_of_slots : goal.returns-else-is_of_slots
returns-else-is_of_slots c = λ part size not.
    no-interval part c.args.block.now size c.in-Err.ensures.only
    (λ most value below is. c.is_of_slots.ensures.none c.if-is_of_slots.false most value below is)
