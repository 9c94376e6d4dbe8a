use Rattle.std.proofs.Common.{ℕ, List, ◌≡◌, ◌<◌, ◌-◌, ◌∙◌, ap, length, arith}
use Rattle.vr_ci_match.specs.declared.rdf.Rdf.TheVariants.{Segment}
use Rattle.vr_ci_match.specs.Rdf.{rdf_bytes}
use Rattle.vr_ci_match.specs.Laid.{cidf}
use Rattle.vr_ci.specs.Writer.{written}
use Rattle.vr_types.specs.Fields.{with_bytes}
use Rattle.vr_ci_match.proofs.CallerLemmas.{zeros, length-zeros}
use Rattle.vr_ci.proofs.SizeLemmas.{size_bounds}
use Rattle.vr_types.proofs.CallerLemmas.{length-with_bytes}
use Rattle.vr_ci.proofs.RunLemmas.{length-written}
use Rattle.vr_ci.proofs.SegmentLemmas.{four_placed, segment_block}
use Rattle.vr_ci.proofs.segment.write_segment.Goals as goal

pub returns-clause-ok : goal.returns-clause-ok
returns-clause-ok c = λ form.
    let block : List ℕ = c.args.out.now in
    let item = c.args.bytes.now in
    let x : List ℕ = (written item c.args.live).bytes in
    let need : ℕ = length item in
    let free : ℕ = length block - 10 in
    let r : List ℕ = rdf_bytes (Segment c.args.piece c.args.live c.args.number need) in
    let bounds = size_bounds (length block) c.requires.size in
    let long : length x ≡ need = length-written item c.args.live in
    let small : c.args.number < 65536 = omega (arith, c.ranges.number.fits) in
    let short : need < length block - 9 = omega (arith, c.if-need-free.false, bounds.0) in
    let b1 : List ℕ = with_bytes block 0 x in
    let l1 : length b1 ≡ length block = length-with_bytes block 0 x (omega (arith, long, short)) in
    let b2 : List ℕ = with_bytes b1 need (zeros (free - need)) in
    let l2 : length b2 ≡ length b1 =
    length-with_bytes b1 need (zeros (free - need))
    (omega (arith, length-zeros (free - need), l1, short)) in
    let b3 : List ℕ = with_bytes b2 free r in
    let l3 : length b3 ≡ length b2 =
    length-with_bytes b2 free r (omega (arith, l1, l2, bounds.0)) in
    let c2 = c.put_zeros.ensures
    ∙ ap (λ (z : List ℕ). with_bytes z need (zeros (free - need))) c.put_item.ensures in
    let c3 = c.put_rdf.ensures ∙ ap (λ (z : List ℕ). with_bytes z free r) c2 in
    let cc4 : List ℕ = cidf need (free - need) c.args.busy in
    let top : length b3 - 4 ≡ length block - 4 = omega (arith, l1, l2, l3) in
    segment_block form c.args.piece c.args.number c.args.live c.args.busy item block
    c.put_cidf.new.out c.requires.size c.requires.number small
    (omega (arith, c.if-need-eq0.false)) (omega (arith, c.if-need-free.false)) c.requires.fills
    (c.put_cidf.ensures ∙ ap (λ (z : List ℕ). with_bytes z (length z - 4) cc4) c3
    ∙ ap (λ (i : ℕ). with_bytes b3 i cc4) top
    ∙ four_placed block x (zeros (free - need)) r cc4 need free (length block - 4)
    (omega (arith, long)) (omega (arith, length-zeros (free - need), short))
    (omega (arith, bounds.0)) (omega (arith, bounds.0)))
