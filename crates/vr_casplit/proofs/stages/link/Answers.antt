use Rattle.std.proofs.Common.{◌≡◌, length, arith, refl, true≢false, sym, ap, subst, ◌∙◌}
use Rattle.vr_types.specs.Image.{Block, Image, block_at}
use Rattle.vr_types.specs.Seen.{Only, Seen}
use Rattle.vr_types.specs.declared.unit.StageKind.TheVariants.{CaLink}
use Rattle.vr_types.proofs.CallerLemmas.{keeps-then-puts}
use Rattle.vr_space.specs.Areas.{KeyedChain, area_of, head_of}
use Rattle.vr_space.specs.Keyed.{entries_of}
use Rattle.vr_space.specs.UnderWay.{interval_block}
use Rattle.vr_space.specs.Moves.{IsUpper}
use Rattle.vr_space.specs.Split.{MoveNow}
use Rattle.vr_casplit.specs.Splits.{after_by, move_of}
use Rattle.vr_casplit.proofs.Reading.{moving-head}
use Rattle.vr_casplit.proofs.Moves.{link-way}
use Rattle.vr_casplit.proofs.Works.{ok-when, read-work, work-done, work-leaves}
use Rattle.vr_casplit.proofs.stages.link.Goals as goal

pub returns-in_err-read_head-clause-leaves : goal.returns-in_err-read_head-clause-leaves
returns-in_err-read_head-clause-leaves g c told =
    read-work g.B.Blocks.tells told c.args.layout.now (move_of c.args.moving.now CaLink) _ _
    c.read_head.ensures.keeps

-- it is a head, where the contents are reported
pub returns-then-not-branch-clause-leaves : goal.returns-then-not-branch-clause-leaves
returns-then-not-branch-clause-leaves g c told =
    read-work g.B.Blocks.tells told c.args.layout.now (move_of c.args.moving.now CaLink) _ _
    c.read_head.ensures.keeps

pub returns-then-not-branch-clause-done : goal.returns-then-not-branch-clause-done
returns-then-not-branch-clause-done g c told cut =
    absurd (true≢false (sym (c.in_ok-read_head.ensures.is told
    (moving-head c.args.layout.now (move_of c.args.moving.now CaLink)
    (g.B.Blocks.seen c.args.blocks.now) (c.requires.rests told)
    (g.met.B.Blocks.cur_may c.args.blocks.now told) (c.requires.way told)))
    ∙ c.if-not-branch.true))

pub returns-clause-leaves : goal.returns-clause-leaves
returns-clause-leaves g c told =
    work-leaves g.B.Blocks.tells told c.args.layout.now (move_of c.args.moving.now CaLink)
    (g.B.Blocks.seen c.args.blocks.now) (g.B.Blocks.seen c.read_head.new.blocks)
    (g.B.Blocks.seen c.link_area.new.blocks) c.read_head.ensures.keeps (λ same. absurd cc)
    (c.requires.way told).ready.0
    (λ owners kept grows. (c.link_area.ensures.leaves told owners kept grows).0)

pub returns-clause-done : goal.returns-clause-done
returns-clause-done g c told cut =
    let part : KeyedChain = c.args.layout.now in
    let move : MoveNow = move_of c.args.moving.now CaLink in
    let a : Seen = g.B.Blocks.seen c.args.blocks.now in
    let m : Seen = g.B.Blocks.seen c.read_head.new.blocks in
    let b : Seen = g.B.Blocks.seen c.link_area.new.blocks in
    let way = c.requires.way told in
    let left = g.met.B.Blocks.cur_may c.args.blocks.now told in
    ok-when _ c.link_area.result
    (λ done. work-done g.B.Blocks.tells told part move a m b c.read_head.ensures.keeps
    (λ same. absurd cc) way.ready.0 (after_by CaLink move 0) cut
    (λ owners kept grows. (c.link_area.ensures.leaves told owners kept grows).1)
    (λ owners kept grows. link-way g.B.Blocks.tells told part move owners kept a b
    (record {
      moving = way;
      head = moving-head part move a (c.requires.rests told) left way;
      left = left;
      aside = way.ready.0;
      grows = grows;
    })
    (head_of part move.into) c.link_area.new.out (omega arith, omega arith)
    (keeps-then-puts g.B.Blocks.tells _ c.link_area.new.out a m b c.read_head.ensures.keeps
    c.link_area.ensures.puts)
    refl way.ready.1
    (subst (λ (top : Block). IsUpper (area_of part move.area) move.stay top
    c.link_area.new.out) (c.in_ok-read_head.ensures.read told)
    (done _ c.link_area.ensures.upper))
    (done _ (c.link_area.ensures.stable told))
    (λ j below. subst
    (λ (image : Image). Only b (interval_block (area_of part move.into) j)
    (λ block. block ≡ block_at image (interval_block (area_of part move.into) j)))
    (c.read_head.ensures.keeps.content told)
    (done _ (c.link_area.ensures.copies told) j (omega (
      arith,
      below,
      way.entries,
      ap (λ (top : Block). length (entries_of top)) (c.in_ok-read_head.ensures.read told),
    )))))
    (λ owners kept areas ends grows knows.
    c.link_area.ensures.knows told owners kept areas ends grows knows)
    (c.link_area.ensures.counts told))
