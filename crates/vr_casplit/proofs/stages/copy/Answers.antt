use Rattle.std.proofs.Common.{◌+◌, arith, refl, true≢false, sym, ◌∙◌}
use Rattle.std.proofs.lemmas.Result.{IfErr-weaker}
use Rattle.vr_types.specs.Seen.{Seen}
use Rattle.vr_types.specs.declared.unit.StageKind.TheVariants.{CaCopy}
use Rattle.vr_types.proofs.CallerLemmas.{keeps-then, keeps-then-puts}
use Rattle.vr_space.specs.Areas.{KeyedChain, area_of}
use Rattle.vr_space.specs.UnderWay.{interval_block}
use Rattle.vr_space.specs.Split.{MoveNow}
use Rattle.vr_casplit.specs.Splits.{after_by, move_of}
use Rattle.vr_casplit.proofs.Reading.{moving-head}
use Rattle.vr_casplit.proofs.Moves.{copy-way, is-put}
use Rattle.vr_casplit.proofs.Works.{ok-when, read-work, work-done, work-leaves}
use Rattle.vr_casplit.proofs.stages.copy.Goals as goal

pub returns-in_err-read_head-clause-leaves : goal.returns-in_err-read_head-clause-leaves
returns-in_err-read_head-clause-leaves g c told =
    read-work g.B.Blocks.tells told c.args.layout.now (move_of c.args.moving.now CaCopy) _ _
    c.read_head.ensures.keeps

-- it is a head, where the contents are reported
pub returns-then-not-branch-clause-leaves : goal.returns-then-not-branch-clause-leaves
returns-then-not-branch-clause-leaves g c told =
    read-work g.B.Blocks.tells told c.args.layout.now (move_of c.args.moving.now CaCopy) _ _
    c.read_head.ensures.keeps

pub returns-then-not-branch-clause-done : goal.returns-then-not-branch-clause-done
returns-then-not-branch-clause-done g c told cut =
    absurd (true≢false (sym (c.in_ok-read_head.ensures.is told
    (moving-head c.args.layout.now (move_of c.args.moving.now CaCopy)
    (g.B.Blocks.seen c.args.blocks.now) (c.requires.rests told)
    (g.met.B.Blocks.cur_may c.args.blocks.now told) (c.requires.way told)))
    ∙ c.if-not-branch.true))

pub returns-clause-leaves : goal.returns-clause-leaves
returns-clause-leaves g c told =
    work-leaves g.B.Blocks.tells told c.args.layout.now (move_of c.args.moving.now CaCopy)
    (g.B.Blocks.seen c.args.blocks.now) (g.B.Blocks.seen c.read_head.new.blocks)
    (g.B.Blocks.seen c.copy_entry.new.blocks) c.read_head.ensures.keeps (λ same. absurd cc)
    (c.requires.way told).ready.0
    (λ owners kept grows. (c.copy_entry.ensures.leaves told owners kept grows).0)

pub returns-clause-done : goal.returns-clause-done
returns-clause-done g c told cut =
    let part : KeyedChain = c.args.layout.now in
    let move : MoveNow = move_of c.args.moving.now CaCopy in
    let a : Seen = g.B.Blocks.seen c.args.blocks.now in
    let m : Seen = g.B.Blocks.seen c.read_head.new.blocks in
    let b : Seen = g.B.Blocks.seen c.copy_entry.new.blocks in
    let way = c.requires.way told in
    let left = g.met.B.Blocks.cur_may c.args.blocks.now told in
    ok-when _ c.copy_entry.result
    (λ done. work-done g.B.Blocks.tells told part move a m b c.read_head.ensures.keeps
    (λ same. absurd cc) way.ready.0 (after_by CaCopy move 0) cut
    (λ owners kept grows. (c.copy_entry.ensures.leaves told owners kept grows).1)
    (λ owners kept grows. copy-way g.B.Blocks.tells told part move owners kept a b
    (record {
      moving = way;
      head = moving-head part move a (c.requires.rests told) left way;
      left = left;
      aside = way.ready.0;
      grows = grows;
    })
    (interval_block (area_of part move.into) move.copied) c.copy_entry.new.out
    (omega arith, omega (arith, c.requires.valid.counted, c.requires.valid.few))
    (keeps-then-puts g.B.Blocks.tells _ c.copy_entry.new.out a m b c.read_head.ensures.keeps
    c.copy_entry.ensures.puts)
    refl way.ready.1 way.ready.2
    (is-put part move move.copied (move.stay + move.copied) a.cur m.cur b.cur
    c.read_head.new.top c.copy_entry.new.out (c.in_ok-read_head.ensures.read told)
    (c.read_head.ensures.keeps.content told) refl
    (omega (arith, way.entries, way.ready.1)) (done _ (c.copy_entry.ensures.read told))
    (done _ (c.copy_entry.ensures.done told))))
    (λ owners kept areas ends grows knows.
    c.copy_entry.ensures.knows told owners kept areas ends grows knows)
    (c.copy_entry.ensures.counts told))

pub returns-clause-unread : goal.returns-clause-unread
returns-clause-unread g c = IfErr-weaker c.copy_entry.result _ _
    (λ fault keeps is. keeps-then g.B.Blocks.tells _ _ _ c.read_head.ensures.keeps (keeps is))
    c.copy_entry.ensures.unread
