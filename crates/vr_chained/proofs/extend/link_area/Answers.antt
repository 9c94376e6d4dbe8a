use Rattle.std.proofs.Common.{◌<◌, ◌+◌, ◌*◌, ℕ, Some, ap, sym, subst, ◌∙◌, arith, length, [], ◌∷◌}
use Rattle.std.proofs.lemmas.List.{length-append}
use Rattle.vr_chained.specs.Chain.{ChainNow, IsChainOf}
use Rattle.vr_chained.specs.Extended.{IsExtended, IsMadeRoster}
use Rattle.vr_chained.proofs.LinkArea.{fresh-may, link-done, link-may, room-more, top-may}
use Rattle.vr_chained.proofs.extend.link_area.Goals as goal

pub use_next-requires : goal.use_next-requires
use_next-requires g c =
    let chain = c.args.chain.now in
    subst (λ (now : ChainNow). now.used < length now.areas * now.part.geometry.area)
    (sym c.add_area.ensures)
    (room-more chain.used (length chain.areas) chain.part.geometry.area _ c.requires.whole
    (omega (arith, c.requires.on.part_is.allowed.some_intervals))
    (length-append chain.areas (c.args.area ∷ [])))

pub returns-in_err-put_empty-clause-may : goal.returns-in_err-put_empty-clause-may
returns-in_err-put_empty-clause-may g c told areas kept least keeps quiet =
    let B = g.B.Blocks in
    let chain = c.args.chain.now in
    let area = c.args.area in
    let a = B.seen c.args.blocks.now in
    let b = B.seen c.put_empty.new.blocks in
    fresh-may chain B.tells told a b area c.put_empty.new.out
    (g.met.B.Blocks.cur_may c.args.blocks.now told) (c.requires.chain told) c.requires.apart
    c.requires.there c.requires.on c.put_empty.ensures.after areas kept least keeps quiet

pub returns-in_err-put_roster-clause-may : goal.returns-in_err-put_roster-clause-may
returns-in_err-put_roster-clause-may g c told areas kept least keeps quiet =
    let B = g.B.Blocks in
    let chain = c.args.chain.now in
    let area = c.args.area in
    let a = B.seen c.args.blocks.now in
    let b = B.seen c.put_empty.new.blocks in
    top-may chain B.tells told a b area c.put_empty.new.out
    (g.met.B.Blocks.cur_may c.args.blocks.now told) (c.requires.chain told) c.requires.apart
    c.requires.there c.requires.on c.put_empty.ensures.after (c.in_ok-put_empty.ensures.ok told)
    (g.met.B.Blocks.cur_may c.put_empty.new.blocks told) c.put_empty.ensures.empty
    (B.seen c.put_roster.new.blocks) c.put_roster.new.out c.put_roster.ensures.after
    c.put_roster.ensures.roster quiet areas kept least keeps

pub returns-in_err-put_roster-2-clause-may : goal.returns-in_err-put_roster-2-clause-may
returns-in_err-put_roster-2-clause-may g c told areas kept least keeps quiet =
    let B = g.B.Blocks in
    let chain = c.args.chain.now in
    let area = c.args.area in
    let a = B.seen c.args.blocks.now in
    let b = B.seen c.put_empty.new.blocks in
    let bound = c.put_roster-2.new.out in
    link-may chain B.tells told a b area c.put_empty.new.out
    (g.met.B.Blocks.cur_may c.args.blocks.now told) (c.requires.chain told) c.requires.apart
    c.requires.there c.requires.on c.put_empty.ensures.after (c.in_ok-put_empty.ensures.ok told)
    (g.met.B.Blocks.cur_may c.put_empty.new.blocks told) c.put_empty.ensures.empty
    (B.seen c.put_roster.new.blocks) c.put_roster.new.out c.put_roster.ensures.after
    c.put_roster.ensures.roster quiet (c.in_ok-put_roster.ensures.ok told)
    (g.met.B.Blocks.cur_may c.put_roster.new.blocks told) (B.seen c.put_roster-2.new.blocks)
    c.last-last.result bound c.last-last.ensures.last c.requires.room c.requires.whole
    c.put_roster-2.ensures.after
    (subst (λ (used : ℕ). IsMadeRoster chain.part used (Some area) bound) c.intervals.ensures
    c.put_roster-2.ensures.roster)
    areas kept least keeps

pub returns-clause-may : goal.returns-clause-may
returns-clause-may g c told areas kept least keeps quiet =
    let B = g.B.Blocks in
    let chain = c.args.chain.now in
    let area = c.args.area in
    let a = B.seen c.args.blocks.now in
    let b = B.seen c.put_empty.new.blocks in
    let bound = c.put_roster-2.new.out in
    link-may chain B.tells told a b area c.put_empty.new.out
    (g.met.B.Blocks.cur_may c.args.blocks.now told) (c.requires.chain told) c.requires.apart
    c.requires.there c.requires.on c.put_empty.ensures.after (c.in_ok-put_empty.ensures.ok told)
    (g.met.B.Blocks.cur_may c.put_empty.new.blocks told) c.put_empty.ensures.empty
    (B.seen c.put_roster.new.blocks) c.put_roster.new.out c.put_roster.ensures.after
    c.put_roster.ensures.roster quiet (c.in_ok-put_roster.ensures.ok told)
    (g.met.B.Blocks.cur_may c.put_roster.new.blocks told) (B.seen c.put_roster-2.new.blocks)
    c.last-last.result bound c.last-last.ensures.last c.requires.room c.requires.whole
    c.put_roster-2.ensures.after
    (subst (λ (used : ℕ). IsMadeRoster chain.part used (Some area) bound) c.intervals.ensures
    c.put_roster-2.ensures.roster)
    areas kept least keeps

pub returns-clause-done : goal.returns-clause-done
returns-clause-done g c told areas after least differs quiet =
    let B = g.B.Blocks in
    let chain = c.args.chain.now in
    let area = c.args.area in
    let a = B.seen c.args.blocks.now in
    let b = B.seen c.put_empty.new.blocks in
    let bound = c.put_roster-2.new.out in
    let d = B.seen c.put_roster-2.new.blocks in
    subst (λ (now : ChainNow). IsExtended chain.part areas after a d × IsChainOf now d.cur)
    (sym (c.use_next.ensures
    ∙ ap (λ (now : ChainNow). record {
      part = now.part;
      areas = now.areas;
      used = now.used + 1;
    }) c.add_area.ensures))
    (link-done chain B.tells told a b area c.put_empty.new.out
    (g.met.B.Blocks.cur_may c.args.blocks.now told) (c.requires.chain told) c.requires.apart
    c.requires.there c.requires.on c.put_empty.ensures.after (c.in_ok-put_empty.ensures.ok told)
    (g.met.B.Blocks.cur_may c.put_empty.new.blocks told) c.put_empty.ensures.empty
    (B.seen c.put_roster.new.blocks) c.put_roster.new.out c.put_roster.ensures.after
    c.put_roster.ensures.roster quiet (c.in_ok-put_roster.ensures.ok told)
    (g.met.B.Blocks.cur_may c.put_roster.new.blocks told) (B.seen c.put_roster-2.new.blocks)
    c.last-last.result bound c.last-last.ensures.last c.requires.room c.requires.whole
    c.put_roster-2.ensures.after
    (subst (λ (used : ℕ). IsMadeRoster chain.part used (Some area) bound) c.intervals.ensures
    c.put_roster-2.ensures.roster)
    (c.in_ok-put_roster-2.ensures.ok told) (g.met.B.Blocks.cur_may c.put_roster-2.new.blocks told)
    areas after least differs)
