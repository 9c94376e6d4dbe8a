use Rattle.std.proofs.Common.{ap, sym, ◌∙◌, arith}
use Rattle.vr_job_ends.specs.Command.{plan_of}
use Rattle.vr_job_ends.proofs.Lists.{three_words, seven_words}
use Rattle.vr_job_ends.proofs.planning.plan.Goals as goal

pub returns-in-3 : goal.returns-in-3
returns-in-3 c =
    c.by_three.ensures
    ∙ sym (ap plan_of (three_words c.args.words.now _ _ _
    (omega (arith, c.len.ensures, c.in-3.is)) c.word.ensures c.word-in-3.ensures
    c.word-in-3-2.ensures))

pub returns-in-7 : goal.returns-in-7
returns-in-7 c =
    c.by_seven.ensures
    ∙ sym (ap plan_of (seven_words c.args.words.now _ _ _ _ _ _ _
    (omega (arith, c.len.ensures, c.in-7.is)) (record {
      at_0 = c.word-in-7.ensures;
      at_1 = c.word-in-7-2.ensures;
      at_2 = c.word-in-7-3.ensures;
      at_3 = c.word-in-7-4.ensures;
      at_4 = c.word-in-7-5.ensures;
      at_5 = c.word-in-7-6.ensures;
      at_6 = c.word-in-7-7.ensures;
    })))
