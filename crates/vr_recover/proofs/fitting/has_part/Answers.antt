use Rattle.std.proofs.Common.{◌≡◌, ◌∙◌, List, ap, arith, below_more, map, refl}
use Rattle.std.proofs.Common.{sym}
use Rattle.std.proofs.lemmas.Bool.{true≢false}
use Rattle.std.proofs.lemmas.Bool.Decides.{Decides-eqb}
use Rattle.std.proofs.lemmas.List.{length-map}
use Rattle.std.proofs.lemmas.Option.{slice_get_within}
use Rattle.vr_types.specs.declared.unit.PartNo.{PartNo}
use Rattle.vr_part.specs.Any.{shape_any}
use Rattle.vr_part.specs.declared.any.AnyPart.{AnyPart}
use Rattle.vr_space.specs.Part.{Shape, part_no}
use Rattle.vr_recover.proofs.PartsBack.{read-off, shape-is}
use Rattle.vr_recover.proofs.fitting.has_part.Goals as goal

pub returns-then-eq : goal.returns-then-eq
returns-then-eq c =
    let parts : List AnyPart = c.args.parts.now in
    let part : AnyPart = c.part-item.result in (
      λ is. (
        c.loop-part.part-index,
        shape_any part,
        read-off shape_any parts (map shape_any parts) c.loop-part.part-index part part refl
            c.loop-part-test.true c.part-item.is,
        omega (
          arith,
          (Decides-eqb c.number.result.0 c.args.number.0).0 (sym c.if-eq.ensures),
          ap (λ (n : PartNo). n.0) c.number.ensures,
        ),
      ),
      λ has. refl,
    )

pub loop-part-preserved : goal.loop-part-preserved
loop-part-preserved c =
    let parts : List AnyPart = c.args.parts.now in
    let part : AnyPart = c.part-item.result in
    below_more _ _ c.loop-part.invariant
    (λ shape is mine.
    let one : shape ≡ shape_any part = shape-is shape (shape_any part)
    (sym is ∙ read-off shape_any parts (map shape_any parts) c.loop-part.part-index part part refl
    c.loop-part-test.true c.part-item.is) in
    let same : c.number.result.0 ≡ c.args.number.0 = ap (λ (n : PartNo). n.0) c.number.ensures
    ∙ ap (λ (s : Shape). (part_no s).0) (sym one) ∙ sym mine in
    true≢false (sym ((Decides-eqb c.number.result.0 c.args.number.0).1 same)
    ∙ sym c.if-eq.ensures))

pub returns : goal.returns
returns c =
    let parts : List AnyPart = c.args.parts.now in (
      λ is. absurd (true≢false (sym is)),
      λ has. absurd (c.loop-part.invariant has.0
          (omega (
            arith,
            slice_get_within (map shape_any parts) has.0 has.1 has.2,
            length-map parts shape_any,
            c.loop-part-test.false,
          )) has.1 has.2 has.3),
    )
