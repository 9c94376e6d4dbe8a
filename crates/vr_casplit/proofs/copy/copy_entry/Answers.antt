use Rattle.std.proofs.Common.{◌+◌, set, ℕ, arith, ap, ◌∙◌}
use Rattle.std.proofs.lemmas.Result.{on_ok_weaker}
use Rattle.vr_types.specs.Seen.{Seen}
use Rattle.vr_types.proofs.CallerLemmas.{cur-put, keeps-puts, keeps-then-puts}
use Rattle.vr_space.specs.Areas.{area_of}
use Rattle.vr_space.specs.Keyed.{Keyed}
use Rattle.vr_space.specs.UnderWay.{interval_block}
use Rattle.vr_casplit.proofs.Elsewhere.{put-counts, put-knows, put-leaves, puts-at}
use Rattle.vr_casplit.proofs.copy.copy_entry.Goals as goal

pub returns-in_err-read_block-clause-puts : goal.returns-in_err-read_block-clause-puts
returns-in_err-read_block-clause-puts g c =
    keeps-puts g.B.Blocks.tells (interval_block (area_of c.args.layout.now c.args.into) c.args.to)
    c.read_block.new.out _ _ c.read_block.ensures.keeps

pub returns-in_err-read_block-clause-leaves : goal.returns-in_err-read_block-clause-leaves
returns-in_err-read_block-clause-leaves g c = λ told owners kept.
    let n : ℕ = interval_block (area_of c.args.layout.now c.args.into) c.args.to in
    put-leaves g.B.Blocks.tells told c.args.layout.now c.args.into n c.read_block.new.out owners
    kept _ _ (omega arith, omega arith)
    (returns-in_err-read_block-clause-puts g c)
    (g.met.B.Blocks.cur_may c.args.blocks.now told)

pub returns-clause-done : goal.returns-clause-done
returns-clause-done g c = λ told.
    let n : ℕ = interval_block (area_of c.args.layout.now c.args.into) c.args.to in
    let mid : Seen = g.B.Blocks.seen c.read_block.new.blocks in
    on_ok_weaker c.put.result
    (λ put. cur-put mid n c.read_block.new.out
    (omega (
      arith,
      c.area.ensures.below,
      ap (λ (area : Keyed). area.head + area.area) c.area.ensures.layout,
      c.requires.on.blocks,
      c.requires.to,
      c.read_block.ensures.keeps.count_same,
    ))
    (g.met.B.Blocks.cur_may c.read_block.new.blocks told).length_is
    (g.B.Blocks.seen c.put.new.self).cur
    (put
    ∙ ap (λ (at : ℕ). set mid.cur at c.read_block.new.out)
    (c.block_of-2.ensures
    ∙ ap (λ (area : Keyed). interval_block area c.args.to) c.area.ensures.layout)))
    (c.put.ensures.put told)

pub returns-clause-puts : goal.returns-clause-puts
returns-clause-puts g c =
    let n : ℕ = interval_block (area_of c.args.layout.now c.args.into) c.args.to in
    keeps-then-puts g.B.Blocks.tells n c.read_block.new.out _ _ _ c.read_block.ensures.keeps
    (puts-at g.B.Blocks.tells c.block_of-2.result n c.read_block.new.out _ _
    (c.block_of-2.ensures
    ∙ ap (λ (area : Keyed). interval_block area c.args.to) c.area.ensures.layout)
    c.put.ensures.after)

pub returns-clause-leaves : goal.returns-clause-leaves
returns-clause-leaves g c = λ told owners kept.
    let n : ℕ = interval_block (area_of c.args.layout.now c.args.into) c.args.to in
    put-leaves g.B.Blocks.tells told c.args.layout.now c.args.into n c.read_block.new.out owners
    kept _ _ (omega arith, omega arith) (returns-clause-puts g c)
    (g.met.B.Blocks.cur_may c.args.blocks.now told)

pub returns-clause-knows : goal.returns-clause-knows
returns-clause-knows g c = λ told owners kept areas ends.
    let n : ℕ = interval_block (area_of c.args.layout.now c.args.into) c.args.to in
    put-knows g.B.Blocks.tells told c.args.layout.now c.args.into n c.read_block.new.out owners
    kept areas ends _ _ (omega arith, omega arith) (returns-clause-puts g c)
    (g.met.B.Blocks.cur_may c.args.blocks.now told)

pub returns-clause-counts : goal.returns-clause-counts
returns-clause-counts g c = λ told owners kept.
    let n : ℕ = interval_block (area_of c.args.layout.now c.args.into) c.args.to in
    put-counts g.B.Blocks.tells told c.args.layout.now c.args.into n c.read_block.new.out owners
    kept _ _ (omega arith, omega arith) (returns-clause-puts g c)
    (g.met.B.Blocks.cur_may c.args.blocks.now told)
