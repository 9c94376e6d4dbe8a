use Rattle.std.proofs.Common.{◌≡◌, ℕ, Some, None, length, subst, sym, ap, ◌∙◌, refl}
use Rattle.vr_seqset.specs.Reading.{record_in}
use Rattle.vr_seqset.specs.SequenceSet.{KeepsRules, SequenceSet}
use Rattle.vr_seqset.specs.Writer.{written}
use Rattle.vr_seqset.proofs.CallerLemmas.{record_is}
use Rattle.vr_space.specs.Moves.{lower_record}
use Rattle.vr_casplit.proofs.WrittenHeads.{lower-rules}
use Rattle.vr_casplit.proofs.Writing.{all-rules, begun-is, begun-rules}
use Rattle.vr_casplit.proofs.head.write_lower.Goals as goal

pub begin-writer-requires : goal.begin-writer-requires
begin-writer-requires c =
    let a = c.args in
    let view : SequenceSet = c.in-Ok.view in
    let found = c.in-Ok.ensures.found in
    let same : record_in a.top.now ≡ view = record_is c.layout.inside.area a.top.now view found in
    begun-rules c.layout.inside.area (length a.out.now) (lower_record a.stay a.into view) _
    (begun-is (lower_record a.stay a.into view) c.first.result c.part.result (Some a.into) 0 None
    c.low.result.now c.first.ensures c.part.ensures refl
    (sym (ap (λ (s : SequenceSet). s.top) (sym same) ∙ c.requires.head.index))
    (sym (ap (λ (s : SequenceSet). s.index_area) (sym same) ∙ c.requires.head.index_area))
    c.low.ensures)
    (subst (λ (size : ℕ). KeepsRules c.layout.inside.area size (lower_record a.stay a.into view))
    (c.requires.head.size ∙ sym c.requires.out)
    (lower-rules c.layout.inside.area (length a.top.now) a.stay a.into view found.rules
    c.requires.area))

pub add_staying-requires-clause-rules : goal.add_staying-requires-clause-rules
add_staying-requires-clause-rules c =
    let a = c.args in
    let view : SequenceSet = c.in-Ok.view in
    let found = c.in-Ok.ensures.found in
    let same : record_in a.top.now ≡ view = record_is c.layout.inside.area a.top.now view found in
    all-rules c.layout.inside.area (length a.out.now) _ _ (lower_record a.stay a.into view)
    (written c.begin-writer.result) (lower_record a.stay a.into view).entries
    (c.begin-writer.ensures.written
    ∙ begun-is (lower_record a.stay a.into view) c.first.result c.part.result (Some a.into) 0 None
    c.low.result.now c.first.ensures c.part.ensures refl
    (sym (ap (λ (s : SequenceSet). s.top) (sym same) ∙ c.requires.head.index))
    (sym (ap (λ (s : SequenceSet). s.index_area) (sym same) ∙ c.requires.head.index_area))
    c.low.ensures)
    c.begin-writer.ensures.intervals c.begin-writer.ensures.size
    (subst (λ (size : ℕ). KeepsRules c.layout.inside.area size (lower_record a.stay a.into view))
    (c.requires.head.size ∙ sym c.requires.out)
    (lower-rules c.layout.inside.area (length a.top.now) a.stay a.into view found.rules
    c.requires.area))
