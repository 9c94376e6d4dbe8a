use Rattle.std.proofs.Common.{ℕ, List, [], ◌∷◌, ◌++◌, get_or, ap, ◌∙◌}
use Rattle.vr_types.specs.Fields.{two, four}
use Rattle.vr_log.specs.Records.{unit_bytes}
use Rattle.vr_log.proofs.writing.before_head.Goals as goal

abbrev cut : List ℕ → List ℕ
cut r = get_or r 0 0 ∷ get_or r 1 0 ∷ get_or r 2 0 ∷ get_or r 3 0 ∷ []

abbrev pair : List ℕ → List ℕ
pair r = get_or r 0 0 ∷ get_or r 1 0 ∷ []

pub returns-clause-bytes : goal.returns-clause-bytes
unfolding two four unit_bytes
returns-clause-bytes c =
    ap (λ (r : List ℕ). 1 ∷ cut r ++ cut c.to_be_bytes-2.result ++ cut c.to_be_bytes-3.result
    ++ pair c.to_be_bytes-4.result) c.to_be_bytes.ensures
    ∙ ap (λ (r : List ℕ). 1 ∷ four c.args.unit.deck ++ cut r ++ cut c.to_be_bytes-3.result
    ++ pair c.to_be_bytes-4.result) c.to_be_bytes-2.ensures
    ∙ ap (λ (r : List ℕ). 1 ∷ four c.args.unit.deck ++ four c.args.unit.number ++ cut r
    ++ pair c.to_be_bytes-4.result) c.to_be_bytes-3.ensures
    ∙ ap (λ (r : List ℕ). 1 ∷ four c.args.unit.deck ++ four c.args.unit.number
    ++ four c.args.part.0 ++ pair r) c.to_be_bytes-4.ensures
