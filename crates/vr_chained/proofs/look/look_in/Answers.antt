use Rattle.std.proofs.Common.{refl, rules}
use Rattle.vr_types.proofs.CallerLemmas.{keeps-none}
use Rattle.vr_chained.proofs.Looking.{cause-answered, look-found, look-past, look-there}
use Rattle.vr_chained.proofs.look.look_in.Goals as goal

pub returns-in_default : goal.returns-in_default
returns-in_default g c =
    let B = g.B.Blocks in
    let a = B.seen c.args.blocks.now in (
      (
        refl,
        λ x. tt,
        (
          keeps-none B.tells a
              (λ told image left. g.met.B.Blocks.images_may c.args.blocks.now image told left),
          search rules,
        ),
      ),
      record {
        item = λ told. look-past c.args.chain.now a.cur (c.requires.stands told)
            (c.requires.chain told) c.args.place.now
            (c.in_default.ensures.none refl c.requires.place);
        after = tt;
      },
    )

pub returns : goal.returns
returns g c =
    let B = g.B.Blocks in
    let a = B.seen c.args.blocks.now in
    let place = c.args.place.now in (
      (
        refl,
        λ x. tt,
        (
          c.get.follows.holds-at-none.0,
          cause-answered (B.faults c.args.blocks.now) (B.faults c.get.follows.lender-at-none)
              c.get.result c.in_ok-interval.interval c.record_of.result c.in_ok-interval.was
              c.get.follows.holds-at-none.1,
        ),
      ),
      record {
        item = λ told.
            look-found c.args.chain.now a.cur place c.in-Some.block c.layout.result.now
            c.in_ok-interval.interval.now c.at_of.result c.record_of.result
            (look-there c.args.chain.now a.cur (c.requires.stands told) (c.requires.chain told)
            place c.in-Some.block c.requires.place c.in-Some.ensures.used.1
            c.in-Some.ensures.block)
            c.layout.ensures (c.in_ok-interval.ensures.content told) c.at_of.ensures.place
            c.record_of.ensures;
        after = tt;
      },
    )
