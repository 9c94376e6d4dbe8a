use Rattle.std.proofs.Common.{◌≡◌, ◌∷◌, ◌∙◌, [], ℕ, arith, refl, ap, sym, subst}
use Rattle.std.proofs.lemmas.Result.{on_ok_weaker}
use Rattle.vr_types.specs.Blocks.{Forced}
use Rattle.vr_types.specs.Image.{Block, Image, block_at}
use Rattle.vr_types.specs.Seen.{Left, Seen}
use Rattle.vr_types.proofs.CallerLemmas.{cur-put}
use Rattle.vr_space.specs.Rosters.{IsInArea, Numbered, roster_block}
use Rattle.vr_space.specs.UnderWay.{IsStable}
use Rattle.vr_seqset.specs.Roster.{IsRoster}
use Rattle.vr_part.specs.First.{IsFirstTop, first_roster}
use Rattle.vr_part.proofs.Touching.{forced-stable, touches-forced, touches-put}
use Rattle.vr_part.proofs.first_roster.write_first_roster.Goals as goal

pub returns-clause-roster : goal.returns-clause-roster
returns-clause-roster g c told =
    let B = g.B.Blocks in
    let part : Numbered = c.args.layout.now in
    let first : Seen = B.seen c.args.blocks.now in
    let second : Seen = B.seen c.put.new.self in
    let third : Seen = B.seen c.force.new.self in
    let top : Block = c.write_roster.new.out in
    let number : ℕ = c.roster_block-number.result in
    let left : Left first first.cur = g.met.B.Blocks.cur_may c.args.blocks.now told in
    let at : number ≡ roster_block part part.first = c.roster_block-number.ensures.number
    ∙ ap (λ (p : Numbered). roster_block part p.first) c.layout.view_is in
    let same : third.cur ≡ second.cur = c.force.ensures.after.content told in
    let written : block_at second.cur number ≡ top =
    cur-put first number top
    (omega (arith, c.roster_block-number.ensures.below, c.requires.on.blocks)) left.length_is
    second.cur (c.in_ok-put.ensures.put told) in
    let spelled : IsFirstTop part top = record {
      roster = subst (λ (p : Numbered). IsRoster p.geometry.area top (first_roster p))
          c.layout.view_is c.write_roster.ensures;
      size = omega (arith, c.requires.buffer);
    } in
    on_ok_weaker {P = Forced (number ∷ []) second.cur third.may} c.force.result
    (λ forced. record {
      has = subst (IsFirstTop part)
          (sym (ap (λ (image : Image). block_at image (roster_block part part.first)) same
          ∙ ap (block_at second.cur) (sym at) ∙ written)) spelled;
      one_roster = subst (IsStable third) at
          (forced-stable second third number (number ∷ []) (0, omega arith, refl) same forced);
    })
    (c.force.ensures.forced told)

pub returns-clause-touches : goal.returns-clause-touches
returns-clause-touches g c told =
    let B = g.B.Blocks in
    let part : Numbered = c.args.layout.now in
    let number : ℕ = c.roster_block-number.result in
    let at : number ≡ roster_block part part.first = c.roster_block-number.ensures.number
    ∙ ap (λ (p : Numbered). roster_block part p.first) c.layout.view_is in
    touches-forced B.tells (IsInArea part part.first) (B.seen c.args.blocks.now)
    (B.seen c.put.new.self) (B.seen c.force.new.self) told
    (touches-put B.tells (IsInArea part part.first) number c.write_roster.new.out
    (B.seen c.args.blocks.now) (B.seen c.put.new.self) told
    (record { from = omega (arith, at); to = omega (arith, at) }) c.put.ensures.after)
    c.force.ensures.after
