use Rattle.std.proofs.Common.{◌≡◌, Some, sym}
use Rattle.vr_types.specs.Space.{least_free}
use Rattle.vr_chained.proofs.AddArea.{claim-differs, nothing-done, nothing-may}
use Rattle.vr_chained.proofs.MoreDue.{due-free, due-taken}
use Rattle.vr_chained.proofs.extend.add_area.Goals as goal

pub returns-in_default-clause-may : goal.returns-in_default-clause-may
returns-in_default-clause-may g c told kept keeps quiet =
    nothing-may c.args.chain.now.part c.args.space.now kept g.B.Blocks.tells told
    (g.B.Blocks.seen c.args.blocks.now)
    (λ told image left. g.met.B.Blocks.images_may c.args.blocks.now image told left) keeps

pub returns-in_default-clause-done : goal.returns-in_default-clause-done
returns-in_default-clause-done g c told quiet = (
  nothing-done c.args.chain.now.part c.args.space.now (g.B.Blocks.seen c.args.blocks.now),
  c.requires.chain told,
)

pub returns-then-not-takes-clause-may : goal.returns-then-not-takes-clause-may
returns-then-not-takes-clause-may g c told kept keeps quiet =
    nothing-may c.args.chain.now.part c.args.space.now kept g.B.Blocks.tells told
    (g.B.Blocks.seen c.args.blocks.now)
    (λ told image left. g.met.B.Blocks.images_may c.args.blocks.now image told left) keeps

pub returns-then-not-takes-clause-done : goal.returns-then-not-takes-clause-done
returns-then-not-takes-clause-done g c told quiet = (
  nothing-done c.args.chain.now.part c.args.space.now (g.B.Blocks.seen c.args.blocks.now),
  c.requires.chain told,
)

pub returns-in_err-link_area-clause-may : goal.returns-in_err-link_area-clause-may
returns-in_err-link_area-clause-may g c told kept keeps quiet =
    c.link_area.ensures.may told c.args.space.now kept (sym c.in-Some.ensures.least) keeps quiet

pub returns-clause-may : goal.returns-clause-may
returns-clause-may g c told kept keeps quiet =
    c.link_area.ensures.may told c.args.space.now kept (sym c.in-Some.ensures.least) keeps quiet

pub returns-clause-done : goal.returns-clause-done
returns-clause-done g c told quiet =
    let least : least_free c.args.space.now ≡ Some c.in-Some.area.0 =
    sym c.in-Some.ensures.least in
    c.in_ok-link_area.ensures.done told c.args.space.now c.mark.new.self least
    (claim-differs c.args.space.now c.mark.new.self c.in-Some.area.0 _ least c.mark.ensures) quiet

-- ---- where it is due

pub returns-in_default-clause-more : goal.returns-in_default-clause-more
returns-in_default-clause-more g c told due =
    absurd (due-free c.args.chain.now c.args.space.now (g.B.Blocks.seen c.args.blocks.now)
    c.requires.whole due (sym c.in_default.ensures.least))

pub returns-then-not-takes-clause-more : goal.returns-then-not-takes-clause-more
returns-then-not-takes-clause-more g c told due =
    let taken = due-taken c.args.chain.now c.args.space.now (g.B.Blocks.seen c.args.blocks.now)
    c.in-Some.area.0 (g.met.B.Blocks.cur_may c.args.blocks.now told) (c.requires.chain told) due
    (sym c.in-Some.ensures.least) in
    absurd (taken.apart (c.takes.ensures.has (cc) taken.there taken.room))
