use Rattle.std.proofs.Common.{◌≡◌, List, ap, subst, ◌∙◌, ℕ, length}
use Rattle.std.specs.Prelude.{MatchBool}
use Rattle.vr_space.specs.AreaCalls.{area_part}
use Rattle.vr_space.specs.Room.{HaveRoom, with_length}
use Rattle.vr_space.specs.Keyed.{lengths_of}
use Rattle.vr_space.specs.Lent.{range_lent}
use Rattle.vr_keyed.proofs.Gathering.{add-last}
use Rattle.vr_keyed.proofs.gather.gather_lengths.Goals as goal

pub returns-then-not-gather_kept-clause-gathered
    : goal.returns-then-not-gather_kept-clause-gathered
returns-then-not-gather_kept-clause-gathered g c holds places key has =
    c.if-not-gather_kept.ensures.gathered holds places has

pub returns-clause-gathered : goal.returns-clause-gathered
returns-clause-gathered g c holds places key has =
    let part = c.args.layout.now in
    let whole = lengths_of part (g.K.Kept.kept c.args.kept.now (area_part part))
    (range_lent c.args.range.now) c.args.block.now in
    subst (λ (p : List ℕ). MatchBool c.add.result
    (c.add.new.self.lengths ≡ with_length whole p c.args.longest)
    (HaveRoom part.size whole → ⊥)) c.as_slice.ensures
    (add-last part c.as_slice.result.now c.args.longest c.args.weights.now
    c.gather_kept.new.weights c.add.new.self whole c.add.result c.add.ensures
    (c.if-not-gather_kept.ensures.gathered holds places has) has
    c.gather_kept.ensures.count c.gather_kept.ensures.bytes
    (ap length c.as_slice.ensures ∙ key))
