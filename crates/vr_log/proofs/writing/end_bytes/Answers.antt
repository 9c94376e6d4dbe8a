use Rattle.std.proofs.Common.{ℕ, List, [], ◌∷◌, ◌++◌, get_or, ap, ◌∙◌}
use Rattle.vr_types.specs.Fields.{four}
use Rattle.vr_log.specs.Records.{unit_bytes, end_number}
use Rattle.vr_log.proofs.writing.end_bytes.Goals as goal

abbrev cut : List ℕ → List ℕ
cut r = get_or r 0 0 ∷ get_or r 1 0 ∷ get_or r 2 0 ∷ get_or r 3 0 ∷ []

pub returns-clause-bytes : goal.returns-clause-bytes
unfolding four unit_bytes
returns-clause-bytes c =
    ap (λ (n : ℕ). n ∷ cut c.to_be_bytes.result
    ++ cut c.to_be_bytes-2.result) c.number_of-number.ensures
    ∙ ap (λ (r : List ℕ). end_number c.args.kind ∷ cut r
    ++ cut c.to_be_bytes-2.result) c.to_be_bytes.ensures
    ∙ ap (λ (r : List ℕ). end_number c.args.kind ∷ four c.args.unit.deck
    ++ cut r) c.to_be_bytes-2.ensures
