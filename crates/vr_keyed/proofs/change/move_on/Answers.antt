use Rattle.std.proofs.Common.{◌≡◌, ◌≢◌, ◌∙◌, [], IfSome, None, Option, ap, rules, subst, sym}
use Rattle.std.proofs.Common.{true≢false}
use Rattle.vr_types.specs.declared.unit.StageKind.TheVariants.{CaSwitch}
use Rattle.vr_space.specs.Moves.{IsPastClaim}
use Rattle.vr_space.specs.Part.{KeyedShape, Knows}
use Rattle.vr_space.specs.Split.{MoveNow}
use Rattle.vr_attach.specs.Areas.{AreasNow}
use Rattle.vr_keyed.specs.Owned.{known_by}
use Rattle.vr_keyed.proofs.Growing.{EndsSplit, HasStepped, ends-split, knows-ended, knows-on}
use Rattle.vr_keyed.proofs.Growing.{moves-keep, step-done, stepped}
use Rattle.vr_keyed.proofs.Moved.{chain-left, claims-left, moved-on, owners-left, past-left}
use Rattle.vr_keyed.proofs.change.move_on.Goals as goal
use Rattle.vr_keyed.proofs.change.move_on.Goals.{else-eq-via-else-eq}
use Rattle.vr_keyed.proofs.change.move_on.Goals.{else-eq-via-then-eq+else-insert}

pub returns-in_err-stage-clause-keeps : goal.returns-in_err-stage-clause-keeps
returns-in_err-stage-clause-keeps g c told = moves-keep c.args.areas.now.part c.args.whole.now.part
    c.requires.part c.args.whole.now.move c.requires.under_way
    (g.B.Blocks.seen c.args.blocks.now) (g.B.Blocks.seen c.step.new.blocks)
    (c.requires.rests told) (c.requires.way told) (c.step.ensures.leaves told)

pub returns-then-insert-clause-keeps : goal.returns-then-insert-clause-keeps
returns-then-insert-clause-keeps g c told = moves-keep c.args.areas.now.part c.args.whole.now.part
    c.requires.part c.args.whole.now.move c.requires.under_way
    (g.B.Blocks.seen c.args.blocks.now) (g.B.Blocks.seen c.step.new.blocks)
    (c.requires.rests told) (c.requires.way told) (c.step.ensures.leaves told)

pub returns-then-insert-clause-done : goal.returns-then-insert-clause-done
returns-then-insert-clause-done g c told kept room =
    let chain : AreasNow = c.args.areas.now in
    let move : Option MoveNow = c.args.whole.now.move in
    let next : Option MoveNow = c.step.new.self.move in
    let a = g.B.Blocks.seen c.args.blocks.now in
    let b = g.B.Blocks.seen c.step.new.blocks in
    let step : IfSome move (λ now. HasStepped chain.part now next c.step.new.self.cut a b) =
    stepped chain.part c.args.whole.now.part c.requires.part move next c.step.new.self.cut a b
    (c.in_ok-stage.ensures.rests told) (c.in_ok-stage.ensures.way told)
    (c.in_ok-stage.ensures.knows told) (c.in_ok-stage.ensures.counts told) in
    let ended : EndsSplit chain c.areas-area.result.0 c.areas-area.result.1 c.cut.result.now b =
    ends-split chain move next c.step.new.self.cut a b c.requires.under_way
    (c.requires.rests told) (c.requires.way told) kept room step (c.requires.knows told)
    (c.requires.counted told)
    c.in_ok-stage.stage c.in_ok-stage.ensures.stage (search rules)
    (g.met.B.Blocks.cur_may c.step.new.blocks told) c.areas-area.result.0 c.areas-area.result.1
    c.areas-area.ensures.are c.cut.result.now c.cut.ensures.cut in
    step-done chain.part move next c.step.new.self.cut a b c.requires.under_way
    (c.requires.rests told) (c.requires.way told) kept room step
    (known_by c.insert.new.self None c.finish.new.self.move [])
    (knows-ended chain c.insert.new.self c.areas-area.result.0 c.areas-area.result.1
    c.cut.result.now b c.finish.new.self.move ended
    (c.insert.ensures.inserted ended.is_cut) c.finish.ensures.none)

pub returns-else-eq-clause-owners : goal.returns-else-eq-clause-owners
returns-else-eq-clause-owners g c = owners-left c.args.areas.now.part c.args.whole.now.part
    c.requires.part c.args.whole.now.move c.requires.under_way c.args.space.now c.step.new.space
    c.in_ok-stage.stage c.in_ok-stage.ensures.stage c.in_ok-stage.ensures.owners

pub returns-else-eq-clause-chain : goal.returns-else-eq-clause-chain
returns-else-eq-clause-chain g c =
    let same : c.else-eq.areas ≡ c.args.areas.now = elim c.else-eq.branch [
      | else-eq-via-then-eq+else-insert w ↦ w.areas-is ∙ w.insert.ensures.none w.if-insert.false
      | else-eq-via-else-eq w ↦ w.areas-is
    ] in
    chain-left c.args.areas.now.part c.args.whole.now.part
    c.requires.part c.args.whole.now.move c.step.new.self.move c.requires.under_way
    c.requires.stage c.args.areas.now.areas c.else-eq.areas.areas
    (ap (λ (one : AreasNow). one.areas) same) c.args.space.now c.step.new.space
    c.in_ok-stage.ensures.owners c.in_ok-stage.ensures.next

pub returns-else-eq-clause-claimed : goal.returns-else-eq-clause-claimed
returns-else-eq-clause-claimed g c = claims-left c.args.areas.now.part c.args.whole.now.part
    c.requires.part c.args.whole.now.move c.requires.under_way c.args.space.now c.step.new.space
    c.in_ok-stage.ensures.owners

pub returns-else-eq-clause-counted : goal.returns-else-eq-clause-counted
returns-else-eq-clause-counted g c = ap (λ (one : AreasNow). one.intervals) (elim c.else-eq.branch [
  | else-eq-via-then-eq+else-insert w ↦ w.areas-is ∙ w.insert.ensures.none w.if-insert.false
  | else-eq-via-else-eq w ↦ w.areas-is
])

pub returns-else-eq-clause-past : goal.returns-else-eq-clause-past
returns-else-eq-clause-past g c = past-left c.args.whole.now.part c.args.whole.now.move
    c.step.new.self.move c.requires.under_way c.requires.stage c.args.space.now c.step.new.space
    c.in_ok-stage.ensures.owners c.in_ok-stage.ensures.next

pub returns-else-eq-clause-keeps : goal.returns-else-eq-clause-keeps
returns-else-eq-clause-keeps g c told = moves-keep c.args.areas.now.part c.args.whole.now.part
    c.requires.part c.args.whole.now.move c.requires.under_way
    (g.B.Blocks.seen c.args.blocks.now) (g.B.Blocks.seen c.step.new.blocks)
    (c.requires.rests told) (c.requires.way told) (c.step.ensures.leaves told)

pub returns-else-eq-clause-done : goal.returns-else-eq-clause-done
returns-else-eq-clause-done g c told kept room =
    let chain : AreasNow = c.args.areas.now in
    let move : Option MoveNow = c.args.whole.now.move in
    let next : Option MoveNow = c.step.new.self.move in
    let a = g.B.Blocks.seen c.args.blocks.now in
    let b = g.B.Blocks.seen c.step.new.blocks in
    let step : IfSome move (λ now. HasStepped chain.part now next c.step.new.self.cut a b) =
    stepped chain.part c.args.whole.now.part c.requires.part move next c.step.new.self.cut a b
    (c.in_ok-stage.ensures.rests told) (c.in_ok-stage.ensures.way told)
    (c.in_ok-stage.ensures.knows told) (c.in_ok-stage.ensures.counts told) in
    step-done chain.part move next c.step.new.self.cut a b c.requires.under_way
    (c.requires.rests told) (c.requires.way told) kept room step
    (known_by c.else-eq.areas None next [])
    (elim c.else-eq.branch [
      | else-eq-via-then-eq+else-insert w ↦
          let ended : EndsSplit chain c.areas-area.result.0 c.areas-area.result.1
          w.cut.result.now b =
          ends-split chain move next c.step.new.self.cut a b c.requires.under_way
          (c.requires.rests told) (c.requires.way told) kept room step (c.requires.knows told)
          (c.requires.counted told)
          c.in_ok-stage.stage c.in_ok-stage.ensures.stage (search rules)
          (g.met.B.Blocks.cur_may c.step.new.blocks told) c.areas-area.result.0
          c.areas-area.result.1 c.areas-area.ensures.are w.cut.result.now w.cut.ensures.cut in
          absurd (true≢false (sym (w.insert.ensures.is ended.is_cut) ∙ w.if-insert.false))
      | else-eq-via-else-eq w ↦
          let other : c.in_ok-stage.stage ≢ CaSwitch = search rules in
          let past : IsPastClaim next =
          past-left c.args.whole.now.part move next c.requires.under_way c.requires.stage
          c.args.space.now c.step.new.space c.in_ok-stage.ensures.owners
          c.in_ok-stage.ensures.next in
          subst (λ (one : AreasNow). Knows (KeyedShape chain.part) (known_by one None next []) b)
          (sym w.areas-is)
          (knows-on chain move next c.step.new.self.cut a b c.requires.under_way
          (c.requires.rests told) (c.requires.way told) kept room step (c.requires.knows told)
          (c.requires.counted told)
          c.in_ok-stage.stage c.in_ok-stage.ensures.stage other past)
    ])

pub returns-else-eq-clause-next : goal.returns-else-eq-clause-next
returns-else-eq-clause-next g c told kept room =
    let chain : AreasNow = c.args.areas.now in
    let move : Option MoveNow = c.args.whole.now.move in
    let next : Option MoveNow = c.step.new.self.move in
    let a = g.B.Blocks.seen c.args.blocks.now in
    let b = g.B.Blocks.seen c.step.new.blocks in
    let step : IfSome move (λ now. HasStepped chain.part now next c.step.new.self.cut a b) =
    stepped chain.part c.args.whole.now.part c.requires.part move next c.step.new.self.cut a b
    (c.in_ok-stage.ensures.rests told) (c.in_ok-stage.ensures.way told)
    (c.in_ok-stage.ensures.knows told) (c.in_ok-stage.ensures.counts told) in
    elim c.else-eq.branch [
      | else-eq-via-then-eq+else-insert w ↦
          let ended : EndsSplit chain c.areas-area.result.0 c.areas-area.result.1
          w.cut.result.now b =
          ends-split chain move next c.step.new.self.cut a b c.requires.under_way
          (c.requires.rests told) (c.requires.way told) kept room step (c.requires.knows told)
          (c.requires.counted told)
          c.in_ok-stage.stage c.in_ok-stage.ensures.stage (search rules)
          (g.met.B.Blocks.cur_may c.step.new.blocks told) c.areas-area.result.0
          c.areas-area.result.1 c.areas-area.ensures.are w.cut.result.now w.cut.ensures.cut in
          absurd (true≢false (sym (w.insert.ensures.is ended.is_cut) ∙ w.if-insert.false))
      | else-eq-via-else-eq w ↦
          let other : c.in_ok-stage.stage ≢ CaSwitch = search rules in
          moved-on c.args.whole.now.part move next c.requires.under_way c.in_ok-stage.stage
          c.in_ok-stage.ensures.stage other c.args.space.now c.step.new.space
          c.in_ok-stage.ensures.owners c.in_ok-stage.ensures.next
    ]
