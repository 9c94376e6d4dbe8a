use Rattle.std.proofs.Common.{ℕ, ◌+◌, ◌-◌, ◌*◌, ◌∙◌, refl, sym, ap, subst, take, drop}
use Rattle.std.specs.Prelude.{min}
use Rattle.vr_ci_match.specs.Compare.{Compares}
use Rattle.vr_ci_match.proofs.LayoutLemmas.{zeros}
use Rattle.vr_ci_match.proofs.ComparedLemmas.{compared_more}
use Rattle.vr_ci_match.proofs.compared.Compared.with.Goals as goal

pub returns-clause-compared : goal.returns-clause-compared
returns-clause-compared c = λ rdfs meant k bytes high same.
    let block = c.args.bytes.now in
    let wrong = c.wrong_byte.result in
    let span : ℕ = c.args.self.span + c.args.wanted * c.count.result in
    compared_more block c.args.limit c.args.at rdfs meant c.args.rdf c.args.wanted c.args.self _
    c.length_difference.result c.requires.limit c.requires.size k bytes high same
    (record {
      span = ap (λ (j : ℕ). c.args.self.span + c.args.wanted * j) c.count.ensures.count;
      from = refl;
      kept = c.wrong_byte.ensures.kept;
      live = λ l. c.wrong_byte.ensures.live (c.is_live.ensures ∙ l);
      dead = λ n d. subst (λ (j : ℕ). Compares j (take (min span c.args.limit - j) (drop j block))
          (zeros (min span c.args.limit - j)) wrong) c.min.ensures
          (subst (λ (j : ℕ). Compares c.min.result
          (take (j - c.min.result) (drop c.min.result block)) (zeros (j - c.min.result)) wrong)
          c.min-2.ensures
          (c.wrong_byte.ensures.zeros n (λ l. d (sym c.is_live.ensures ∙ l))));
      own = c.length_difference.ensures;
      wrong_rdf = c.or.ensures;
    })
