use Rattle.std.proofs.Common.{ℕ, List, None, Some, All, length, take, arith, true≢false, sym}
use Rattle.std.proofs.Common.{ap, subst, ◌∙◌}
use Rattle.std.proofs.lemmas.List.Elements.{All-take}
use Rattle.vr_types.specs.Image.{Block}
use Rattle.vr_types.specs.Seen.{Seen}
use Rattle.vr_types.specs.declared.unit.StageKind.TheVariants.{CaSwitch}
use Rattle.vr_seqset.specs.Entry.{IsWhole}
use Rattle.vr_seqset.specs.Reading.{record_in}
use Rattle.vr_space.specs.Areas.{area_of}
use Rattle.vr_space.specs.Keyed.{IsHead, entries_of}
use Rattle.vr_space.specs.Owners.{Owners}
use Rattle.vr_space.specs.Part.{IsSound, KeyedShape, Shape}
use Rattle.vr_space.proofs.CallerLemmas.{move-keeps, rest-sound, rest-stands}
use Rattle.vr_casplit.specs.Splits.{move_of}
use Rattle.vr_casplit.proofs.Reading.{moving-head}
use Rattle.vr_casplit.proofs.Upper.{end-length}
use Rattle.vr_casplit.proofs.Works.{ok-when, read-work, work-done, work-leaves}
use Rattle.vr_casplit.proofs.stages.switch.Goals as goal

pub returns-in_err-read_head-clause-leaves : goal.returns-in_err-read_head-clause-leaves
returns-in_err-read_head-clause-leaves g c told =
    read-work g.B.Blocks.tells told c.args.layout.now (move_of c.args.moving.now CaSwitch) _ _
    c.read_head.ensures.keeps

-- it is a head, where the contents are reported
pub returns-then-not-branch-clause-leaves : goal.returns-then-not-branch-clause-leaves
returns-then-not-branch-clause-leaves g c told =
    read-work g.B.Blocks.tells told c.args.layout.now (move_of c.args.moving.now CaSwitch) _ _
    c.read_head.ensures.keeps

pub returns-then-not-branch-clause-done : goal.returns-then-not-branch-clause-done
returns-then-not-branch-clause-done g c told =
    absurd (true≢false (sym (c.in_ok-read_head.ensures.is told
    (moving-head c.args.layout.now (move_of c.args.moving.now CaSwitch)
    (g.B.Blocks.seen c.args.blocks.now) (c.requires.rests told)
    (g.met.B.Blocks.cur_may c.args.blocks.now told) (c.requires.way told)))
    ∙ c.if-not-branch.true))

pub switch_head-requires-clause-moved : goal.switch_head-requires-clause-moved
switch_head-requires-clause-moved g c told =
    let now : Seen = g.B.Blocks.seen c.args.blocks.now in
    let shape : Shape = KeyedShape c.args.layout.now in
    let owners : Owners = (c.requires.rests told).0 in
    let sound : IsSound shape owners now = rest-sound shape owners now (c.requires.rests told).1 in
    (move-keeps c.args.layout.now (Some (move_of c.args.moving.now CaSwitch)) g.B.Blocks.tells told
    now (g.B.Blocks.seen c.read_head.new.blocks) c.read_head.ensures.keeps c.requires.on
    (rest-stands shape owners now sound (g.met.B.Blocks.cur_may c.args.blocks.now told))
    (c.requires.way told)).ready.1

pub returns-clause-leaves : goal.returns-clause-leaves
returns-clause-leaves g c told =
    work-leaves g.B.Blocks.tells told c.args.layout.now (move_of c.args.moving.now CaSwitch)
    (g.B.Blocks.seen c.args.blocks.now) (g.B.Blocks.seen c.read_head.new.blocks)
    (g.B.Blocks.seen c.switch_head.new.blocks) c.read_head.ensures.keeps (λ same. absurd cc)
    (c.requires.way told).ready.0
    (λ owners kept grows. c.switch_head.ensures.leaves told owners kept grows)

-- the place is as long as each of the head's
pub returns-clause-long : goal.returns-clause-long
returns-clause-long g c =
    let top : Block = c.read_head.new.top in
    let head : IsHead (area_of c.args.layout.now c.args.moving.now.area) top =
    (c.in_ok-read_head.ensures.head c.if-not-branch.false).head in
    omega (
      arith,
      ap (λ (place : List ℕ). length place) c.switch_head.ensures.cut,
      end-length c.args.layout.now.key (record_in top).low
          (take c.args.moving.now.stay (entries_of top)) head.key
          (All-take (IsWhole c.args.layout.now.key) c.args.moving.now.stay (entries_of top)
          (subst (λ (n : ℕ). All (IsWhole n) (entries_of top)) head.key
          head.spelled.rules.lengths.whole)),
    )

pub returns-clause-done : goal.returns-clause-done
returns-clause-done g c told =
    ok-when _ c.switch_head.result
    (λ done. work-done g.B.Blocks.tells told c.args.layout.now (move_of c.args.moving.now CaSwitch)
    (g.B.Blocks.seen c.args.blocks.now) (g.B.Blocks.seen c.read_head.new.blocks)
    (g.B.Blocks.seen c.switch_head.new.blocks) c.read_head.ensures.keeps (λ same. absurd cc)
    (c.requires.way told).ready.0 None c.switch_head.new.cut.place
    (λ owners kept grows. done _ (c.switch_head.ensures.rests told owners kept grows))
    (λ owners kept grows. tt)
    (λ owners kept areas ends grows knows.
    done _ (c.switch_head.ensures.knows told owners kept areas ends grows knows))
    (λ owners kept grows. done _ (c.switch_head.ensures.counts told owners kept grows)))
