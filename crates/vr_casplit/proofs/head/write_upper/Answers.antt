use Rattle.std.proofs.Common.{◌≡◌, ◌<◌, ℕ, None, false, length, drop, subst, sym, ap}
use Rattle.std.proofs.Common.{◌∙◌, refl, arith, rules}
use Rattle.std.proofs.lemmas.List.{length-drop}
use Rattle.vr_seqset.specs.Reading.{record_in}
use Rattle.vr_seqset.specs.SequenceSet.{KeepsRules, SequenceSet}
use Rattle.vr_seqset.specs.Writer.{written}
use Rattle.vr_seqset.proofs.CallerLemmas.{record_is}
use Rattle.vr_space.specs.Moves.{numbered_from, upper_record}
use Rattle.vr_casplit.proofs.WrittenHeads.{cut-last, length-numbered, upper-rules}
use Rattle.vr_casplit.proofs.Writing.{all-rules, begun-is, begun-rules}
use Rattle.vr_casplit.proofs.head.write_upper.Goals as goal

pub begin-writer-requires : goal.begin-writer-requires
begin-writer-requires c =
    let a = c.args in
    let view : SequenceSet = c.in-Ok.view in
    let found = c.in-Ok.ensures.found in
    let same : record_in a.top.now ≡ view = record_is c.layout.inside.area a.top.now view found in
    let fewer : a.stay < length view.entries =
    subst (λ (s : SequenceSet). a.stay < length s.entries) same c.requires.fewer in
    begun-rules c.layout.inside.area (length a.out.now) (upper_record a.stay view) _
    (begun-is (upper_record a.stay view) false c.part.result c.next.result 0 None
    c.high.result.now refl c.part.ensures c.next.ensures refl refl
    (c.high.ensures ∙ cut-last a.stay view c.requires.some fewer))
    (subst (λ (size : ℕ). KeepsRules c.layout.inside.area size (upper_record a.stay view))
    (c.requires.head.size ∙ sym c.requires.out)
    (upper-rules c.layout.inside.area (length a.top.now) a.stay view found.rules c.requires.some
    fewer))

pub add_moved-requires-clause-rules : goal.add_moved-requires-clause-rules
add_moved-requires-clause-rules c =
    let a = c.args in
    let view : SequenceSet = c.in-Ok.view in
    let found = c.in-Ok.ensures.found in
    let same : record_in a.top.now ≡ view = record_is c.layout.inside.area a.top.now view found in
    let fewer : a.stay < length view.entries =
    subst (λ (s : SequenceSet). a.stay < length s.entries) same c.requires.fewer in
    all-rules c.layout.inside.area (length a.out.now) _ _ (upper_record a.stay view)
    (written c.begin-writer.result) (upper_record a.stay view).entries
    (c.begin-writer.ensures.written
    ∙ begun-is (upper_record a.stay view) false c.part.result c.next.result 0 None
    c.high.result.now refl c.part.ensures c.next.ensures refl refl
    (c.high.ensures ∙ cut-last a.stay view c.requires.some fewer))
    c.begin-writer.ensures.intervals c.begin-writer.ensures.size
    (subst (λ (size : ℕ). KeepsRules c.layout.inside.area size (upper_record a.stay view))
    (c.requires.head.size ∙ sym c.requires.out)
    (upper-rules c.layout.inside.area (length a.top.now) a.stay view found.rules c.requires.some
    fewer))

pub end-requires : goal.end-requires
end-requires c =
    let a = c.args in
    let view : SequenceSet = c.in-Ok.view in
    let same : record_in a.top.now ≡ view =
    record_is c.layout.inside.area a.top.now view c.in-Ok.ensures.found in
    let fewer : a.stay < length view.entries =
    subst (λ (s : SequenceSet). a.stay < length s.entries) same c.requires.fewer in
    omega (
      arith,
      ap (λ (s : SequenceSet). length s.entries) c.add_moved.ensures.written,
      length-numbered 0 (drop a.stay view.entries),
      length-drop a.stay view.entries,
    )

pub returns : goal.returns
returns c =
    let a = c.args in
    let view : SequenceSet = c.in-Ok.view in
    let same : record_in a.top.now ≡ view =
    record_is c.layout.inside.area a.top.now view c.in-Ok.ensures.found in
    let fewer : a.stay < length view.entries =
    subst (λ (s : SequenceSet). a.stay < length s.entries) same c.requires.fewer in
    let whole : written c.add_moved.new.writer ≡ upper_record a.stay (record_in a.top.now) =
    c.add_moved.ensures.written
    ∙ ap (λ (s : SequenceSet). record s { entries = numbered_from 0 (drop a.stay view.entries) })
    (c.begin-writer.ensures.written
    ∙ begun-is (upper_record a.stay view) false c.part.result c.next.result 0 None
    c.high.result.now refl c.part.ensures c.next.ensures refl refl
    (c.high.ensures ∙ cut-last a.stay view c.requires.some fewer))
    ∙ ap (upper_record a.stay) (sym same) in
    search rules
