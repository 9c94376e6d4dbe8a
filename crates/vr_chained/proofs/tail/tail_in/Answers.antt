use Rattle.std.proofs.Common.{◌≡◌, List, arith, subst, sym, ap, ◌∙◌}
use Rattle.vr_types.specs.Image.{Block}
use Rattle.vr_ci.specs.Interval as ci
use Rattle.vr_space.specs.Entries.{IsEntries}
use Rattle.vr_space.specs.Numbered.{items_at}
use Rattle.vr_space.specs.Rosters.{Numbered}
use Rattle.vr_space.specs.Keyed.{items_of}
use Rattle.vr_chained.specs.Chain.{IsTailIn}
use Rattle.vr_chained.specs.Tail.{HasTaken}
use Rattle.vr_chained.proofs.TailRead.{found-none, found-some, read-entries, read-items}
use Rattle.vr_chained.proofs.TailRead.{taken-within}
use Rattle.vr_chained.proofs.tail.tail_in.Goals as goal

pub returns-in-Some-taken_in-clause-none : goal.returns-in-Some-taken_in-clause-none
returns-in-Some-taken_in-clause-none g c told none =
    let block : Block = c.in_ok-block.block.now in
    let taken = c.in-Some-taken_in.ensures in
    sym (read-items c.args.chain.now (g.B.Blocks.seen c.args.blocks.now).cur
    (c.requires.chain told) c.args.interval c.in-Some.number block c.in-Some.ensures.block
    (c.in_ok-block.ensures.content told))
    ∙ found-none (items_of block) c.in-Some-taken_in.taken.count c.tail_with.result _
    (taken.count taken.entries) c.tail_with.ensures.some none

pub returns-in-Some-taken_in-clause-some : goal.returns-in-Some-taken_in-clause-some
returns-in-Some-taken_in-clause-some g c told =
    let block : Block = c.in_ok-block.block.now in
    let taken = c.in-Some-taken_in.ensures in
    let items = read-items c.args.chain.now (g.B.Blocks.seen c.args.blocks.now).cur
    (c.requires.chain told) c.args.interval c.in-Some.number block c.in-Some.ensures.block
    (c.in_ok-block.ensures.content told) in
    found-some (items_of block) c.in-Some-taken_in.taken.count c.tail_with.result _
    (taken.count taken.entries) c.tail_with.ensures.some c.tail_with.ensures.none
    (HasTaken (items_at c.args.chain.now.part (g.B.Blocks.seen c.args.blocks.now).cur
    c.args.interval))
    (λ some. subst (λ (all : List ci.Item). HasTaken all (record {
      interval = c.args.interval;
      bytes = c.in-Some-taken_in.taken.bytes;
      room = c.in-Some-taken_in.taken.room;
    })) items (record {
      some = some;
      bytes = taken.bytes taken.entries;
      room = taken.room taken.entries;
    }))

pub returns-in-Some-taken_in-clause-within : goal.returns-in-Some-taken_in-clause-within
returns-in-Some-taken_in-clause-within g c =
    let block : Block = c.in_ok-block.block.now in
    let taken = c.in-Some-taken_in.ensures in
    let fits = taken-within c.args.chain.now.part block c.in-Some-taken_in.taken.bytes
    c.in-Some-taken_in.taken.room
    (subst (λ (part : Numbered). IsEntries part block) c.layout.ensures taken.entries)
    (taken.bytes taken.entries) (taken.room taken.entries) in
    found-some (items_of block) c.in-Some-taken_in.taken.count c.tail_with.result _
    (taken.count taken.entries) c.tail_with.ensures.some c.tail_with.ensures.none
    (IsTailIn c.args.chain.now)
    (λ some. record { used = c.requires.used; bytes = fits.0; room = fits.1 })

pub returns-in-None-clause-none : goal.returns-in-None-clause-none
returns-in-None-clause-none g c told none =
    let chain = c.args.chain.now in
    let block : Block = c.in_ok-block.block.now in
    absurd (c.in-None.ensures.some
    (subst (λ (part : Numbered). IsEntries part block) (sym c.layout.ensures)
    (read-entries chain (g.B.Blocks.seen c.args.blocks.now).cur (c.requires.chain told)
    c.args.interval c.in-Some.number block c.in-Some.ensures.block
    (c.in_ok-block.ensures.content told) c.requires.entries (c.requires.stands told)
    c.requires.used)) (Rattle.std.proofs.Common.refl))
