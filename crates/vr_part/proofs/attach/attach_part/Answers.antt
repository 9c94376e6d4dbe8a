use Rattle.std.proofs.Common.{◌≡◌, ℕ, List, Some, ap, subst, sym, ◌∙◌}
use Rattle.std.specs.Prelude.{Contains, length}
use Rattle.vr_space.specs.Areas.{KeyedChain, KnowsAreas, intervals_in}
use Rattle.vr_space.specs.Part.{KeyedShape, NumberedShape, owned_count, part_no}
use Rattle.vr_space.specs.Rosters.{Numbered}
use Rattle.vr_part.proofs.Attaching.{free-or-first, held-alone}
use Rattle.vr_part.proofs.attach.attach_part.Goals as goal

pub returns-then-eq-clause-known : goal.returns-then-eq-clause-known
returns-then-eq-clause-known g c told =
    let keyed = c.in_ok-keyed.keyed in
    let cur = (g.B.Blocks.seen c.args.blocks.now).cur in
    let is = c.in_ok-keyed.ensures.attached in (
      is.split,
      is.met,
      subst (λ (part : KeyedChain). KnowsAreas part keyed.areas keyed.ends cur) (sym is.part_is)
          (c.in_ok-keyed.ensures.knows told),
      is.move,
      subst (λ (part : KeyedChain). keyed.intervals ≡ intervals_in part cur) (sym is.part_is)
          (c.in_ok-keyed.ensures.counted told),
    )

pub returns-then-eq-clause-marked : goal.returns-then-eq-clause-marked
returns-then-eq-clause-marked g c at has =
    let keyed = c.in_ok-keyed.keyed in
    c.in_ok-keyed.ensures.marked.marked at
    (subst (λ (areas : List ℕ). Contains areas at)
    (held-alone keyed.areas keyed.move c.in_ok-keyed.ensures.attached.move) has)
    ∙ ap (λ (part : KeyedChain). Some (part_no (KeyedShape part))) c.layout_of-layout.ensures

pub returns-then-eq-clause-owns : goal.returns-then-eq-clause-owns
returns-then-eq-clause-owns g c =
    let keyed = c.in_ok-keyed.keyed in
    ap (λ (part : KeyedChain). owned_count (part_no (KeyedShape part)) c.attach.new.taken)
    c.in_ok-keyed.ensures.attached.part_is
    ∙ c.in_ok-keyed.ensures.marked.owns
    ∙ ap (λ (areas : List ℕ). length areas)
    (sym (held-alone keyed.areas keyed.move c.in_ok-keyed.ensures.attached.move))

pub returns-then-eq-clause-first : goal.returns-then-eq-clause-first
returns-then-eq-clause-first g c =
    let keyed = c.in_ok-keyed.keyed in
    subst (λ (areas : List ℕ). Contains areas c.args.area)
    (sym (held-alone keyed.areas keyed.move c.in_ok-keyed.ensures.attached.move))
    (subst (λ (area : ℕ). Contains keyed.areas area)
    (ap (λ (part : KeyedChain). part.first) c.layout_of-layout.ensures)
    c.in_ok-keyed.ensures.marked.there)

pub returns-then-eq-clause-others : goal.returns-then-eq-clause-others
returns-then-eq-clause-others g c at none =
    let keyed = c.in_ok-keyed.keyed in
    c.in_ok-keyed.ensures.marked.others at
    (λ has. none (subst (λ (areas : List ℕ). Contains areas at)
    (sym (held-alone keyed.areas keyed.move c.in_ok-keyed.ensures.attached.move)) has))

pub returns-then-eq-clause-free : goal.returns-then-eq-clause-free
returns-then-eq-clause-free g c at has =
    free-or-first c.args.space.now (Some c.args.part) c.args.area c.requires.first at
    (λ other. c.in_ok-keyed.ensures.marked.free at
    (subst (λ (areas : List ℕ). Contains areas at)
    (held-alone c.in_ok-keyed.keyed.areas c.in_ok-keyed.keyed.move
    c.in_ok-keyed.ensures.attached.move) has)
    (λ first. other (first ∙ ap (λ (part : KeyedChain). part.first) c.layout_of-layout.ensures)))

pub returns-clause-free : goal.returns-clause-free
returns-clause-free g c at has =
    free-or-first c.args.space.now (Some c.args.part) c.args.area c.requires.first at
    (λ other. c.in_ok-chained.ensures.marked.free at has
    (λ first. other (first ∙ ap (λ (p : Numbered). p.first) c.chain_layout_of-layout.ensures)))

pub returns-clause-marked : goal.returns-clause-marked
returns-clause-marked g c at has =
    c.in_ok-chained.ensures.marked.marked at has
    ∙ ap (λ (part : Numbered). Some (part_no (NumberedShape part))) c.chain_layout_of-layout.ensures
