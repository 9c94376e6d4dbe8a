use Rattle.std.proofs.Common.{◌≡◌, ◌∙◌, ◌++◌, List, ℕ, ap, subst, sym}
use Rattle.std.specs.Prelude.{OnOk}
use Rattle.vr_text.proofs.Quotes.{doubled-none}
use Rattle.vr_text.proofs.spelling.write_inside.Goals as goal

pub returns-else-has_quote-clause-ok : goal.returns-else-has_quote-clause-ok
returns-else-has_quote-clause-ok c = subst (λ (given : List ℕ). OnOk c.extend.result
    (c.extend.new.self ≡ c.args.out.now ++ given))
    (sym (doubled-none c.args.bytes.now (sym c.has_quote.ensures ∙ c.if-has_quote.false)))
    c.extend.ensures.ok
