use Rattle.std.proofs.Common.{◌≤◌, Bool, length, subst, ◌∙◌, arith}
use Rattle.vr_types.specs.Image.{Image, block_at}
use Rattle.vr_types.proofs.CallerLemmas.{keeps-then}
use Rattle.vr_space.specs.Keyed.{entries_of}
use Rattle.vr_keyed.specs.Next.{NextNth}
use Rattle.vr_keyed.proofs.Nexting.{none-more, no-next, next-is}
use Rattle.vr_keyed.proofs.next.next_in.Goals as goal

pub returns-then-branch-clause-next : goal.returns-then-branch-clause-next
returns-then-branch-clause-next g c told =
    let part = c.args.layout.now in
    let cur = (g.B.Blocks.seen c.args.blocks.now).cur in
    let n = c.loop-number.number in
    let place = c.next_nth.new.into.place in
    let stands = c.requires.stands told in
    next-is part cur c.args.from stands n place
    (subst (λ (b : Bool). NextNth part cur n c.args.from b place) c.if-branch.true
    (subst (λ (image : Image). NextNth part image n c.args.from c.in_ok-next_nth.field-0 place)
    (c.loop-number.invariant.keeps.content told) (c.in_ok-next_nth.ensures.nth told)))
    (c.loop-number.invariant.none told stands)

pub returns-then-branch-clause-keeps : goal.returns-then-branch-clause-keeps
returns-then-branch-clause-keeps g c =
    keeps-then g.B.Blocks.tells (g.B.Blocks.seen c.args.blocks.now)
    (g.B.Blocks.seen c.loop-number.blocks) (g.B.Blocks.seen c.next_nth.new.blocks)
    c.loop-number.invariant.keeps c.next_nth.ensures.keeps

pub loop-number-preserved : goal.loop-number-preserved
loop-number-preserved g c =
    let part = c.args.layout.now in
    let cur = (g.B.Blocks.seen c.args.blocks.now).cur in
    let n = c.loop-number.number in
    let place = c.next_nth.new.into.place in
    record {
      keeps = keeps-then g.B.Blocks.tells (g.B.Blocks.seen c.args.blocks.now)
          (g.B.Blocks.seen c.loop-number.blocks) (g.B.Blocks.seen c.next_nth.new.blocks)
          c.loop-number.invariant.keeps c.next_nth.ensures.keeps;
      faults = c.in_ok-next_nth.ensures.cause.ok ∙ c.loop-number.invariant.faults;
      slot = c.next_nth.ensures.slot;
      room = c.next_nth.ensures.room ∙ c.loop-number.invariant.room;
      none = λ told stands. none-more part cur c.args.from stands n
          (subst (λ (b : Bool). NextNth part cur n c.args.from b place) c.if-branch.false
          (subst (λ (image : Image).
          NextNth part image n c.args.from c.in_ok-next_nth.field-0 place)
          (c.loop-number.invariant.keeps.content told) (c.in_ok-next_nth.ensures.nth told)))
          (c.loop-number.invariant.none told stands);
    }

pub returns-clause-next : goal.returns-clause-next
returns-clause-next g c told =
    let part = c.args.layout.now in
    let cur = (g.B.Blocks.seen c.args.blocks.now).cur in
    let stands = c.requires.stands told in
    let all : length (entries_of (block_at cur part.head)) ≤ c.loop-number.number =
    omega (arith, c.loop-number-test.false, c.in_ok-first.ensures.count told) in
    no-next part cur c.args.from stands c.loop-number.number all
    (c.loop-number.invariant.none told stands)
