use Rattle.std.proofs.Common.{sym, subst, arith}
use Rattle.vr_chained.specs.Chain.{ChainNow, IsChainOf}
use Rattle.vr_chained.specs.Extended.{IsExtended}
use Rattle.vr_chained.proofs.AddInterval.{empty-may, next-below, roster-done, roster-may}
use Rattle.vr_chained.proofs.extend.add_interval.Goals as goal

pub put_empty-requires-clause-interval : goal.put_empty-requires-clause-interval
put_empty-requires-clause-interval g c =
    next-below c.args.chain.now c.used_of_last-used.result c.requires.on.part_is c.requires.unused
    c.used_of_last-used.ensures

pub overflow_add-used : goal.overflow_add-used
overflow_add-used g c = omega (
  arith,
  next-below c.args.chain.now c.used_of_last-used.result c.requires.on.part_is c.requires.unused
      c.used_of_last-used.ensures,
  c.requires.on.part_is.allowed.most_intervals,
)

pub put_roster-requires-clause-used : goal.put_roster-requires-clause-used
put_roster-requires-clause-used g c = omega (
  arith,
  next-below c.args.chain.now c.used_of_last-used.result c.requires.on.part_is c.requires.unused
      c.used_of_last-used.ensures,
)

pub returns-in_err-put_empty-clause-may : goal.returns-in_err-put_empty-clause-may
returns-in_err-put_empty-clause-may g c told areas kept keeps quiet =
    empty-may c.args.chain.now g.B.Blocks.tells told (g.B.Blocks.seen c.args.blocks.now)
    (g.B.Blocks.seen c.put_empty.new.blocks) c.last-last.result c.used_of_last-used.result
    c.put_empty.new.out (g.met.B.Blocks.cur_may c.args.blocks.now told) (c.requires.chain told)
    c.requires.unused c.last-last.ensures.last c.used_of_last-used.ensures c.put_empty.ensures.after
    quiet areas kept keeps

pub returns-in_err-put_roster-clause-may : goal.returns-in_err-put_roster-clause-may
returns-in_err-put_roster-clause-may g c told areas kept keeps quiet =
    roster-may c.args.chain.now g.B.Blocks.tells told (g.B.Blocks.seen c.args.blocks.now)
    (g.B.Blocks.seen c.put_empty.new.blocks) c.last-last.result c.used_of_last-used.result
    c.put_empty.new.out (g.met.B.Blocks.cur_may c.args.blocks.now told) (c.requires.chain told)
    c.requires.unused c.last-last.ensures.last c.used_of_last-used.ensures c.put_empty.ensures.after
    quiet (c.in_ok-put_empty.ensures.ok told)
    (g.met.B.Blocks.cur_may c.put_empty.new.blocks told) c.put_empty.ensures.empty
    (g.B.Blocks.seen c.put_roster.new.blocks) c.put_roster.new.out c.put_roster.ensures.after
    c.put_roster.ensures.roster areas kept keeps

pub returns-clause-may : goal.returns-clause-may
returns-clause-may g c told areas kept keeps quiet =
    roster-may c.args.chain.now g.B.Blocks.tells told (g.B.Blocks.seen c.args.blocks.now)
    (g.B.Blocks.seen c.put_empty.new.blocks) c.last-last.result c.used_of_last-used.result
    c.put_empty.new.out (g.met.B.Blocks.cur_may c.args.blocks.now told) (c.requires.chain told)
    c.requires.unused c.last-last.ensures.last c.used_of_last-used.ensures c.put_empty.ensures.after
    quiet (c.in_ok-put_empty.ensures.ok told)
    (g.met.B.Blocks.cur_may c.put_empty.new.blocks told) c.put_empty.ensures.empty
    (g.B.Blocks.seen c.put_roster.new.blocks) c.put_roster.new.out c.put_roster.ensures.after
    c.put_roster.ensures.roster areas kept keeps

pub returns-clause-done : goal.returns-clause-done
returns-clause-done g c told areas quiet =
    let chain = c.args.chain.now in
    let a = g.B.Blocks.seen c.args.blocks.now in
    let d = g.B.Blocks.seen c.put_roster.new.blocks in
    subst (λ (now : ChainNow). IsExtended chain.part areas areas a d × IsChainOf now d.cur)
    (sym c.use_next.ensures)
    (roster-done chain g.B.Blocks.tells told a (g.B.Blocks.seen c.put_empty.new.blocks)
    c.last-last.result c.used_of_last-used.result c.put_empty.new.out
    (g.met.B.Blocks.cur_may c.args.blocks.now told) (c.requires.chain told) c.requires.unused
    c.last-last.ensures.last c.used_of_last-used.ensures c.put_empty.ensures.after quiet
    (c.in_ok-put_empty.ensures.ok told) (g.met.B.Blocks.cur_may c.put_empty.new.blocks told)
    c.put_empty.ensures.empty d c.put_roster.new.out c.put_roster.ensures.after
    c.put_roster.ensures.roster (c.in_ok-put_roster.ensures.ok told)
    (g.met.B.Blocks.cur_may c.put_roster.new.blocks told) areas)
