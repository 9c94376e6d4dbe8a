use Rattle.std.proofs.Common.{rules, refl, ◌∙◌, arith}
use Rattle.vr_types.proofs.CallerLemmas.{keeps-none, keeps-then}
use Rattle.vr_log.specs.declared.gathering.Next.TheVariants.{Full, Last, Wrong}
use Rattle.vr_log.proofs.Gathered.{gathered-none, gathered-full, gathered-last, gathered-wrong}
use Rattle.vr_log.proofs.Gathered.{gathered-all, taken}
use Rattle.vr_log.proofs.gathering.gather.Goals as goal

pub loop-index-init : goal.loop-index-init
loop-index-init g c = record {
  keeps = keeps-none g.B.Blocks.tells (g.B.Blocks.seen c.args.blocks.now)
      (λ told image left. g.met.B.Blocks.images_may c.args.blocks.now image told left);
  faults = refl;
  so_far = λ told. gathered-none c.args.geometry c.args.generation
      (g.B.Blocks.seen c.args.blocks.now).cur c.args.bytes.now.items c.requires.none;
  most = search rules;
}

pub returns-in_err-take_block-clause-keeps : goal.returns-in_err-take_block-clause-keeps
returns-in_err-take_block-clause-keeps g c =
    let B = g.B.Blocks in
    let a = B.seen c.args.blocks.now in
    let b = B.seen c.loop-index.blocks in
    let so_far = c.loop-index.invariant in
    keeps-then B.tells a b (B.seen c.take_block.new.blocks) so_far.keeps c.take_block.ensures.keeps

pub returns-in-Last-clause-bytes : goal.returns-in-Last-clause-bytes
returns-in-Last-clause-bytes g c told =
    let B = g.B.Blocks in
    let a = B.seen c.args.blocks.now in
    let b = B.seen c.loop-index.blocks in
    let so_far = c.loop-index.invariant in
    let has = taken b.size c.args.geometry c.args.generation a.cur b.cur c.loop-index.index
    c.loop-index.bytes.items c.take_block.new.bytes.items Last c.in_ok-take_block.field-0
    (so_far.keeps.size_same ∙ c.requires.shape.size) (so_far.keeps.content told) c.in-Last.is
    (c.in_ok-take_block.ensures.next told) in
    gathered-last c.args.geometry c.args.generation a.cur c.loop-index.index
    c.loop-index.bytes.items c.take_block.new.bytes.items c.loop-index-test.true
    (so_far.so_far told) has

pub returns-in-Last-clause-keeps : goal.returns-in-Last-clause-keeps
returns-in-Last-clause-keeps g c =
    let B = g.B.Blocks in
    let a = B.seen c.args.blocks.now in
    let b = B.seen c.loop-index.blocks in
    let so_far = c.loop-index.invariant in
    keeps-then B.tells a b (B.seen c.take_block.new.blocks) so_far.keeps c.take_block.ensures.keeps

pub returns-in-Wrong-clause-bytes : goal.returns-in-Wrong-clause-bytes
returns-in-Wrong-clause-bytes g c told =
    let B = g.B.Blocks in
    let a = B.seen c.args.blocks.now in
    let b = B.seen c.loop-index.blocks in
    let so_far = c.loop-index.invariant in
    let has = taken b.size c.args.geometry c.args.generation a.cur b.cur c.loop-index.index
    c.loop-index.bytes.items c.take_block.new.bytes.items Wrong c.in_ok-take_block.field-0
    (so_far.keeps.size_same ∙ c.requires.shape.size) (so_far.keeps.content told) c.in-Wrong.is
    (c.in_ok-take_block.ensures.next told) in
    gathered-wrong c.args.geometry c.args.generation a.cur c.loop-index.index
    c.loop-index.bytes.items c.take_block.new.bytes.items c.loop-index-test.true
    (so_far.so_far told) has

pub returns-in-Wrong-clause-keeps : goal.returns-in-Wrong-clause-keeps
returns-in-Wrong-clause-keeps g c =
    let B = g.B.Blocks in
    let a = B.seen c.args.blocks.now in
    let b = B.seen c.loop-index.blocks in
    let so_far = c.loop-index.invariant in
    keeps-then B.tells a b (B.seen c.take_block.new.blocks) so_far.keeps c.take_block.ensures.keeps

pub loop-index-preserved : goal.loop-index-preserved
loop-index-preserved g c =
    let B = g.B.Blocks in
    let a = B.seen c.args.blocks.now in
    let b = B.seen c.loop-index.blocks in
    let so_far = c.loop-index.invariant in
    record {
      keeps = keeps-then B.tells a b (B.seen c.take_block.new.blocks) so_far.keeps
          c.take_block.ensures.keeps;
      faults = c.in_ok-take_block.ensures.cause.ok ∙ so_far.faults;
      so_far = λ told.
          let has = taken b.size c.args.geometry c.args.generation a.cur b.cur c.loop-index.index
          c.loop-index.bytes.items c.take_block.new.bytes.items Full c.in_ok-take_block.field-0
          (so_far.keeps.size_same ∙ c.requires.shape.size) (so_far.keeps.content told)
          c.in-Full.is (c.in_ok-take_block.ensures.next told) in
          gathered-full c.args.geometry c.args.generation a.cur c.loop-index.index
          c.loop-index.bytes.items c.take_block.new.bytes.items c.loop-index-test.true
          (so_far.so_far told) has.0 has.1;
      most = omega (
        arith,
        so_far.most,
        c.in_ok-take_block.ensures.most,
        so_far.keeps.size_same,
        c.requires.shape.size,
      );
    }

pub returns-clause-bytes : goal.returns-clause-bytes
returns-clause-bytes g c told =
    gathered-all c.args.geometry c.args.generation (g.B.Blocks.seen c.args.blocks.now).cur
    c.loop-index.index c.loop-index.bytes.items
    (omega (arith, c.loop-index-test.false, c.loop-index.auto.index-end))
    (c.loop-index.invariant.so_far told)
