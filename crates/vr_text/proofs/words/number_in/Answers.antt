use Rattle.std.proofs.Common.{◌≡◌, ℕ, List, subst, sym, true}
use Rattle.vr_text.proofs.Names.{number_plain}
use Rattle.vr_text.specs.Words.{number_in, is_plain}
use Rattle.vr_text.proofs.words.number_in.Goals as goal

pub returns-in-Some : goal.returns-in-Some
returns-in-Some c =
    let same = c.in-Some.ensures.some in
    subst (λ (t : List ℕ). c.number.result ≡ number_in t) same
    (number_plain c.in-Some.text.now c.number.result
    (subst (λ (t : List ℕ). is_plain t ≡ true) (sym same) c.in-Some.ensures.plain)
    c.number.ensures.value c.number.ensures.none)
