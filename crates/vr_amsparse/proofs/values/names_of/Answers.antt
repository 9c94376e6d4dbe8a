use Rattle.std.proofs.Common.{◌≡◌, ◌∙◌, ◌+◌, ◌++◌, List, ℕ, ap, arith, suc}
use Rattle.vr_text.specs.Words.{name_in}
use Rattle.vr_amsparse.specs.Values.{listed, names_below}
use Rattle.vr_amsparse.proofs.values.names_of.Goals as goal

pub loop-place-preserved : goal.loop-place-preserved
loop-place-preserved c =
    let place = c.loop-place.place in
    let next : suc place ≡ place + 1 = omega arith in
    c.in_ok-push_name.ensures
    ∙ ap (λ (names : List (List ℕ)). names ++ listed (name_in c.value_text.result.now))
    c.loop-place.invariant
    ∙ ap (λ (text : List ℕ). names_below c.args.tokens.now c.args.given place
    ++ listed (name_in text)) c.value_text.ensures
    ∙ ap (names_below c.args.tokens.now c.args.given) next
