use Rattle.vr_amsparse_grammar.proofs.Spelled.{spelled}
use Rattle.vr_amsparse_grammar.proofs.laws.spelled_is_given.Goals as goal

pub returns : goal.returns
returns c names section given at word before values after states h =
    spelled names section given at word before values after states h
