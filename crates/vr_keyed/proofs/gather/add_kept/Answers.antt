use Rattle.std.proofs.Common.{length, ap, sym, subst, List, ℕ, ◌∙◌, arith}
use Rattle.vr_space.specs.Room.{lengths_in, with_lengths}
use Rattle.vr_space.specs.Lent.{range_lent}
use Rattle.vr_keyed.proofs.Gathering.{IsAdding, above_in, adding-more, adding-ends, adding-full}
use Rattle.vr_keyed.proofs.Gathering.{next-kept, none-kept}
use Rattle.vr_keyed.proofs.gather.add_kept.Goals as goal

pub returns-then-not-add_kept_at-clause-added : goal.returns-then-not-add_kept_at-clause-added
returns-then-not-add_kept_at-clause-added g c layout places has =
    let kept = g.K.Kept.kept c.args.kept.now c.args.part in
    let next = next-kept kept (range_lent c.loop-place.rest) c.in-Some.place.now
    (g.K.Kept.ascend c.args.kept.now c.args.part)
    c.in-Some.ensures in
    adding-full layout (range_lent c.loop-place.rest)
    (with_lengths c.args.weights.now.lengths (lengths_in (range_lent c.args.range.now) kept)) kept
    c.in-Some.place.now c.args.weights.now c.loop-place.weights places next has
    c.loop-place.invariant.count c.loop-place.invariant.bytes c.loop-place.invariant.adding
    (c.if-not-add_kept_at.ensures.added next.longest next.there)

pub loop-place-smaller : goal.loop-place-smaller
loop-place-smaller g c =
    let kept = g.K.Kept.kept c.args.kept.now c.args.part in
    let rest = range_lent c.loop-place.rest in
    let next = next-kept kept rest c.in-Some.place.now
    (g.K.Kept.ascend c.args.kept.now c.args.part)
    c.in-Some.ensures in
    omega (
      arith,
      ap length next.first,
      ap (λ (p : List ℕ). length (lengths_in (above_in rest p) kept)) c.as_slice.ensures,
    )

pub loop-place-preserved : goal.loop-place-preserved
loop-place-preserved g c =
    let kept = g.K.Kept.kept c.args.kept.now c.args.part in
    let rest = range_lent c.loop-place.rest in
    let all = with_lengths c.args.weights.now.lengths
    (lengths_in (range_lent c.args.range.now) kept) in
    let next = next-kept kept rest c.in-Some.place.now
    (g.K.Kept.ascend c.args.kept.now c.args.part)
    c.in-Some.ensures in
    record {
      adding = subst (λ (p : List ℕ). IsAdding (above_in rest p) all kept
          c.add_kept_at.new.weights.lengths) (sym c.as_slice.ensures)
          (adding-more rest all kept c.loop-place.weights.lengths
          c.add_kept_at.new.weights.lengths c.in-Some.place.now next
          (c.if-not-add_kept_at.ensures.added next.longest next.there)
          c.loop-place.invariant.adding);
      count = c.add_kept_at.ensures.count ∙ c.loop-place.invariant.count;
      bytes = c.add_kept_at.ensures.bytes ∙ c.loop-place.invariant.bytes;
    }

pub returns-clause-added : goal.returns-clause-added
returns-clause-added g c layout places has =
    let kept = g.K.Kept.kept c.args.kept.now c.args.part in
    let rest = range_lent c.loop-place.rest in
    adding-ends rest
    (with_lengths c.args.weights.now.lengths (lengths_in (range_lent c.args.range.now) kept)) kept
    c.loop-place.weights.lengths (none-kept kept rest c.in_default.ensures)
    c.loop-place.invariant.adding
