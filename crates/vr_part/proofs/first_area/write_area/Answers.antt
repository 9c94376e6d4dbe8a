use Rattle.std.proofs.Common.{◌≡◌, ◌∷◌, [], ℕ, List, arith, refl, ap, sym, subst}
use Rattle.std.proofs.lemmas.Result.{on_ok_weaker}
use Rattle.vr_types.specs.Blocks.{Forced}
use Rattle.vr_types.specs.Seen.{Seen}
use Rattle.vr_space.specs.Keyed.{InArea, Keyed}
use Rattle.vr_space.specs.UnderWay.{IsStable}
use Rattle.vr_part.specs.First.{HasFirstArea}
use Rattle.vr_part.proofs.Touching.{forced-stable, touches-forced}
use Rattle.vr_part.proofs.first_area.write_area.Goals as goal

pub returns-clause-area : goal.returns-clause-area
returns-clause-area g c told =
    let B = g.B.Blocks in
    let part : Keyed = c.args.layout.now in
    let second : Seen = B.seen c.put_area.new.blocks in
    let third : Seen = B.seen c.force.new.self in
    let list : List ℕ = c.layout.inside.head ∷ c.block_of.result ∷ [] in
    let head : c.layout.inside.head ≡ part.head = ap (λ (k : Keyed). k.head) c.layout.view_is in
    let has : HasFirstArea part second.cur = c.in_ok-put_area.ensures.area told in
    let same : third.cur ≡ second.cur = c.force.ensures.after.content told in
    on_ok_weaker {P = Forced list second.cur third.may} c.force.result
    (λ forced. record {
      has = subst (HasFirstArea part) (sym same) has;
      one_head = subst (IsStable third) head
          (forced-stable second third c.layout.inside.head list (0, omega arith, refl) same forced);
      one_interval = subst (IsStable third) c.block_of.ensures
          (forced-stable second third c.block_of.result list (1, omega arith, refl) same forced);
    })
    (c.force.ensures.forced told)

pub returns-clause-touches : goal.returns-clause-touches
returns-clause-touches g c told =
    let B = g.B.Blocks in
    touches-forced B.tells (InArea c.args.layout.now) (B.seen c.args.blocks.now)
    (B.seen c.put_area.new.blocks) (B.seen c.force.new.self) told
    (c.put_area.ensures.touches told) c.force.ensures.after
