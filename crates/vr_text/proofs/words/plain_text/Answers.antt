use Rattle.std.proofs.lemmas.Bool.{false_from_ne_true}
use Rattle.vr_text.proofs.Names.{plain_is_utf8}
use Rattle.vr_text.proofs.words.plain_text.Goals as goal

pub returns-in-Err-clause-none : goal.returns-in-Err-clause-none
returns-in-Err-clause-none c =
    false_from_ne_true _ (λ h. c.in-Err.ensures.cases.0 (plain_is_utf8 _ h))
