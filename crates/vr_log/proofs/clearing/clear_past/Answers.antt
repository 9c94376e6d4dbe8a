use Rattle.std.proofs.Common.{◌<◌, ◌+◌, ℕ, refl, subst, ◌∙◌, arith}
use Rattle.vr_types.proofs.CallerLemmas.{keeps-none}
use Rattle.vr_log.proofs.Clears.{clean_stands, first_clean, first_cleared, next_clean, next_cleared}
use Rattle.vr_log.proofs.Clears.{last_of_same, next_settled, spells_now, still_forced}
use Rattle.vr_log.proofs.clearing.clear_past.Goals as goal

pub loop-index-init : goal.loop-index-init
loop-index-init g c =
    let B = g.B.Blocks in
    let a = B.seen c.args.blocks.now in
    let geometry = c.args.geometry.now in
    let content = c.args.content.now in
    record {
      shape = c.requires.shape;
      faults = refl;
      so_far = λ told. first_cleared B.tells told geometry content c.requires.allowed a
          c.requires.shape (c.requires.settled told) (c.requires.spelled told)
          (keeps-none B.tells a
          (λ t image left. g.met.B.Blocks.images_may c.args.blocks.now image t left));
      settled = c.requires.settled;
      clean = λ told i low. first_clean B.tells told geometry content c.requires.allowed a
          c.requires.shape (g.met.B.Blocks.cur_may c.args.blocks.now told)
          (λ n block under may. g.met.B.Blocks.sized c.args.blocks.now n block told under may)
          (c.requires.spelled told) i
          (subst (λ (n : ℕ). i < n) (last_of_same geometry content.records c.records.result.now c.last_of-last.result
          c.last_of-last.ensures c.records.ensures) low);
    }

pub returns-in_err-clear_block-clause-moments : goal.returns-in_err-clear_block-clause-moments
returns-in_err-clear_block-clause-moments g c told =
    let B = g.B.Blocks in
    let a = B.seen c.args.blocks.now in
    let b = B.seen c.loop-index.blocks in
    let last = B.seen c.clear_block.new.blocks in
    let so_far = c.loop-index.invariant in
    (next_cleared B.tells told c.args.geometry.now c.args.content.now c.requires.allowed a b last
    so_far.shape (so_far.settled told) (g.met.B.Blocks.cur_may c.loop-index.blocks told)
    (λ n block low may. g.met.B.Blocks.sized c.loop-index.blocks n block told low may)
    (so_far.so_far told) c.loop-index.index c.loop-index-test.true c.max-generation.result
    c.last_of-last.result (omega (arith, c.max-generation.ensures, c.generation.ensures))
    (last_of_same c.args.geometry.now c.args.content.now.records c.records.result.now
    c.last_of-last.result c.last_of-last.ensures c.records.ensures) (c.clear_block.ensures.step told)).touches

pub returns-in_err-clear_block-clause-cleared : goal.returns-in_err-clear_block-clause-cleared
returns-in_err-clear_block-clause-cleared g c told =
    let B = g.B.Blocks in
    let a = B.seen c.args.blocks.now in
    let b = B.seen c.loop-index.blocks in
    let last = B.seen c.clear_block.new.blocks in
    let so_far = c.loop-index.invariant in
    (next_cleared B.tells told c.args.geometry.now c.args.content.now c.requires.allowed a b last
    so_far.shape (so_far.settled told) (g.met.B.Blocks.cur_may c.loop-index.blocks told)
    (λ n block low may. g.met.B.Blocks.sized c.loop-index.blocks n block told low may)
    (so_far.so_far told) c.loop-index.index c.loop-index-test.true c.max-generation.result
    c.last_of-last.result (omega (arith, c.max-generation.ensures, c.generation.ensures))
    (last_of_same c.args.geometry.now c.args.content.now.records c.records.result.now
    c.last_of-last.result c.last_of-last.ensures c.records.ensures) (c.clear_block.ensures.step told)).cleared

pub returns-in_err-clear_block-clause-spelled : goal.returns-in_err-clear_block-clause-spelled
returns-in_err-clear_block-clause-spelled g c told =
    let B = g.B.Blocks in
    let a = B.seen c.args.blocks.now in
    let b = B.seen c.loop-index.blocks in
    let last = B.seen c.clear_block.new.blocks in
    let so_far = c.loop-index.invariant in
    spells_now B.tells told c.args.geometry.now c.args.content.now c.requires.allowed a last
    (next_cleared B.tells told c.args.geometry.now c.args.content.now c.requires.allowed a b last
    so_far.shape (so_far.settled told) (g.met.B.Blocks.cur_may c.loop-index.blocks told)
    (λ n block low may. g.met.B.Blocks.sized c.loop-index.blocks n block told low may)
    (so_far.so_far told) c.loop-index.index c.loop-index-test.true c.max-generation.result
    c.last_of-last.result (omega (arith, c.max-generation.ensures, c.generation.ensures))
    (last_of_same c.args.geometry.now c.args.content.now.records c.records.result.now
    c.last_of-last.result c.last_of-last.ensures c.records.ensures) (c.clear_block.ensures.step told))
    (g.met.B.Blocks.cur_may c.clear_block.new.blocks told)

pub returns-in_err-clear_block-clause-idle : goal.returns-in_err-clear_block-clause-idle
returns-in_err-clear_block-clause-idle g c told ends =
    let B = g.B.Blocks in
    let a = B.seen c.args.blocks.now in
    let b = B.seen c.loop-index.blocks in
    let last = B.seen c.clear_block.new.blocks in
    let so_far = c.loop-index.invariant in
    (next_cleared B.tells told c.args.geometry.now c.args.content.now c.requires.allowed a b last
    so_far.shape (so_far.settled told) (g.met.B.Blocks.cur_may c.loop-index.blocks told)
    (λ n block low may. g.met.B.Blocks.sized c.loop-index.blocks n block told low may)
    (so_far.so_far told) c.loop-index.index c.loop-index-test.true c.max-generation.result
    c.last_of-last.result (omega (arith, c.max-generation.ensures, c.generation.ensures))
    (last_of_same c.args.geometry.now c.args.content.now.records c.records.result.now
    c.last_of-last.result c.last_of-last.ensures c.records.ensures) (c.clear_block.ensures.step told)).idle ends

pub loop-index-preserved : goal.loop-index-preserved
loop-index-preserved g c =
    let B = g.B.Blocks in
    let a = B.seen c.args.blocks.now in
    let b = B.seen c.loop-index.blocks in
    let last = B.seen c.clear_block.new.blocks in
    let so_far = c.loop-index.invariant in
    let ok = c.in_ok-clear_block.ensures in
    record {
      shape = record {
        count = ok.count ∙ so_far.shape.count;
        size = ok.size ∙ so_far.shape.size;
      };
      faults = ok.cause.ok ∙ so_far.faults;
      so_far = λ told. next_cleared B.tells told c.args.geometry.now c.args.content.now c.requires.allowed a b last
          so_far.shape (so_far.settled told) (g.met.B.Blocks.cur_may c.loop-index.blocks told)
          (λ n block low may. g.met.B.Blocks.sized c.loop-index.blocks n block told low may)
          (so_far.so_far told) c.loop-index.index c.loop-index-test.true c.max-generation.result
          c.last_of-last.result (omega (arith, c.max-generation.ensures, c.generation.ensures))
          (last_of_same c.args.geometry.now c.args.content.now.records c.records.result.now
          c.last_of-last.result c.last_of-last.ensures c.records.ensures) (c.clear_block.ensures.step told);
      settled = λ told. next_settled B.tells told c.args.geometry.now c.args.content.now c.requires.allowed a b last
          so_far.shape (so_far.settled told) (g.met.B.Blocks.cur_may c.loop-index.blocks told)
          (λ n block low may. g.met.B.Blocks.sized c.loop-index.blocks n block told low may)
          (so_far.so_far told) c.loop-index.index c.loop-index-test.true c.max-generation.result
          c.last_of-last.result (omega (arith, c.max-generation.ensures, c.generation.ensures))
          (last_of_same c.args.geometry.now c.args.content.now.records c.records.result.now
          c.last_of-last.result c.last_of-last.ensures c.records.ensures) (c.clear_block.ensures.step told)
          (ok.alone told (so_far.settled told (1 + c.loop-index.index)
          (omega arith, omega (arith, c.loop-index-test.true))));
      clean = λ told. next_clean B.tells told c.args.geometry.now c.args.content.now c.requires.allowed a b last
          so_far.shape (so_far.settled told) (g.met.B.Blocks.cur_may c.loop-index.blocks told)
          (λ n block low may. g.met.B.Blocks.sized c.loop-index.blocks n block told low may)
          (so_far.so_far told) c.loop-index.index c.loop-index-test.true c.max-generation.result
          c.last_of-last.result (omega (arith, c.max-generation.ensures, c.generation.ensures))
          (last_of_same c.args.geometry.now c.args.content.now.records c.records.result.now
          c.last_of-last.result c.last_of-last.ensures c.records.ensures) (c.clear_block.ensures.step told) (so_far.clean told)
          (ok.clean told);
    }

pub returns-clause-spelled : goal.returns-clause-spelled
returns-clause-spelled g c told =
    let B = g.B.Blocks in
    spells_now B.tells told c.args.geometry.now c.args.content.now c.requires.allowed
    (B.seen c.args.blocks.now) (B.seen c.loop-index.blocks) (c.loop-index.invariant.so_far told)
    (g.met.B.Blocks.cur_may c.loop-index.blocks told)

pub returns-clause-stands : goal.returns-clause-stands
returns-clause-stands g c told =
    let B = g.B.Blocks in
    let b = B.seen c.loop-index.blocks in
    let so_far = c.loop-index.invariant in
    let left = g.met.B.Blocks.cur_may c.loop-index.blocks told in
    clean_stands B.tells told c.args.geometry.now c.args.content.now c.requires.allowed b
    so_far.shape (so_far.settled told) left
    (λ n block low may. g.met.B.Blocks.sized c.loop-index.blocks n block told low may)
    (spells_now B.tells told c.args.geometry.now c.args.content.now c.requires.allowed
    (B.seen c.args.blocks.now) b (so_far.so_far told) left)
    (λ i low. so_far.clean told i (omega (arith, low, c.loop-index-test.false)))

pub returns-clause-forced : goal.returns-clause-forced
returns-clause-forced g c told forced =
    let B = g.B.Blocks in
    let so_far = c.loop-index.invariant in
    still_forced B.tells told c.args.geometry.now c.args.content.now c.requires.allowed
    (B.seen c.args.blocks.now) (B.seen c.loop-index.blocks) (so_far.so_far told).touches
    (so_far.settled told) forced
