use Rattle.std.proofs.Common.{◌≡◌, ℕ, List, ◌∷◌, ◌++◌, ◌+◌, ◌∙◌, sym, ap, set, length, arith}
use Rattle.vr_ci_match.specs.declared.rdf.Rdf.{Rdf}
use Rattle.vr_ci_match.specs.Rdf.{rdf_bytes, two_bytes, segment_bits, withdrawn_bit}
use Rattle.vr_types.specs.Fields.{with_bytes}
use Rattle.vr_ci.proofs.PlaceLemmas.{pair_placed}
use Rattle.vr_ci.proofs.put.put_rdf.Goals as goal

pub returns-in-Run : goal.returns-in-Run
returns-in-Run c =
    c.put_number-in-Run-2.ensures
    ∙ ap (λ (x : List ℕ). with_bytes (set x (c.args.at + 3) 64) (c.args.at + 4)
    (two_bytes c.in-Run.length)) c.put_number-in-Run.ensures
    ∙ pair_placed c.args.out.now c.args.at 8 c.in-Run.count 64 c.in-Run.length
    (omega (arith, c.requires, ap (λ (r : Rdf). length (rdf_bytes r)) c.in-Run.is))
    ∙ ap (λ (r : Rdf). with_bytes c.args.out.now c.args.at (rdf_bytes r)) (sym c.in-Run.is)

pub returns-in-Segment : goal.returns-in-Segment
returns-in-Segment c =
    let bits : ℕ = c.segment_bits-bits.result in
    let is : bits ≡ segment_bits c.in-Segment.piece + withdrawn_bit c.in-Segment.live =
    c.segment_bits-bits.ensures in
    let left : 8 + bits ≡ 8 + segment_bits c.in-Segment.piece + withdrawn_bit c.in-Segment.live =
    omega (arith, is) in
    let right : 64 + bits ≡ 64 + segment_bits c.in-Segment.piece + withdrawn_bit c.in-Segment.live =
    omega (arith, is) in
    c.put_number-in-Segment-2.ensures
    ∙ ap (λ (x : List ℕ). with_bytes (set x (c.args.at + 3) (64 + bits)) (c.args.at + 4)
    (two_bytes c.in-Segment.length)) c.put_number-in-Segment.ensures
    ∙ pair_placed c.args.out.now c.args.at (8 + bits) c.in-Segment.number (64 + bits)
    c.in-Segment.length (omega (
      arith,
      c.requires,
      ap (λ (r : Rdf). length (rdf_bytes r)) c.in-Segment.is,
    ))
    ∙ ap (λ (f : ℕ). with_bytes c.args.out.now c.args.at (f ∷ two_bytes c.in-Segment.number
    ++ (64 + bits) ∷ two_bytes c.in-Segment.length)) left
    ∙ ap (λ (g : ℕ). with_bytes c.args.out.now c.args.at
    ((8 + segment_bits c.in-Segment.piece + withdrawn_bit c.in-Segment.live) ∷ two_bytes
    c.in-Segment.number ++ g ∷ two_bytes c.in-Segment.length)) right
    ∙ ap (λ (r : Rdf). with_bytes c.args.out.now c.args.at (rdf_bytes r)) (sym c.in-Segment.is)
