use Rattle.std.proofs.Common.{None, Some, [], ◌∷◌}
use Rattle.std.proofs.lemmas.Bool.Decides.{Decides-eqb}
use Rattle.std.proofs.lemmas.Slice.Eq.{strip_prefix_is, strip_suffix_is}
use Rattle.vr_text.proofs.Enclosed.{inner_of_rest, no_inner}
use Rattle.vr_text.proofs.literal.between.Goals as goal

pub returns-in_err-strip_prefix : goal.returns-in_err-strip_prefix
returns-in_err-strip_prefix c =
    rw c.from_residual.ensures
    (no_inner c.args.text.now c.args.opening.now
    (strip_prefix_is Decides-eqb c.args.text.now c.args.opening.now None
    c.in_err-strip_prefix.ensures.cases))

pub returns : goal.returns
returns c =
    inner_of_rest c.args.text.now c.args.opening.now c.in_ok-strip_prefix.field-0.now
    c.strip_suffix.result
    (strip_prefix_is Decides-eqb c.args.text.now c.args.opening.now
    (Some c.in_ok-strip_prefix.field-0) c.in_ok-strip_prefix.ensures.cases)
    (strip_suffix_is Decides-eqb c.in_ok-strip_prefix.field-0.now
    (39 ∷ []) c.strip_suffix.result c.strip_suffix.ensures.cases)
