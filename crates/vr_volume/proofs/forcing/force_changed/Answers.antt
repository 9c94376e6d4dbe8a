use Rattle.std.proofs.Common.{List, subst, sym, ℕ}
use Rattle.vr_types.specs.Blocks.{Forced}
use Rattle.vr_space.specs.Part.{IsDueTo}
use Rattle.vr_volume.specs.Committed.{committed_by}
use Rattle.vr_volume.proofs.ForceCalls.{due-forced, due-kept, part-kept, volume-kept}
use Rattle.vr_volume.proofs.forcing.force_changed.Goals as goal

pub returns-in_err-force_blocks-clause-due : goal.returns-in_err-force_blocks-clause-due
returns-in_err-force_blocks-clause-due g c told shape owners place sound due =
    let B = g.B.Blocks in
    due-kept B.tells told (B.seen c.args.blocks.now) (B.seen c.force_blocks.new.blocks)
    c.force_blocks.ensures.after shape owners c.args.changed.now.items place sound due

pub returns-in_err-force_blocks-clause-rests : goal.returns-in_err-force_blocks-clause-rests
returns-in_err-force_blocks-clause-rests g c told geometry number owners log images state rest =
    let B = g.B.Blocks in
    let forced = c.force_blocks.ensures.safe told geometry number owners log (committed_by state)
    rest.safe in (
      forced.0,
      volume-kept B.tells told (B.seen c.args.blocks.now) (B.seen c.force_blocks.new.blocks)
          c.force_blocks.ensures.after geometry number owners log images state forced.1 rest,
    )

pub returns-in_err-force_blocks-clause-others : goal.returns-in_err-force_blocks-clause-others
returns-in_err-force_blocks-clause-others g c told geometry owners images state shape known part =
    let B = g.B.Blocks in
    part-kept B.tells told (B.seen c.args.blocks.now) (B.seen c.force_blocks.new.blocks)
    c.force_blocks.ensures.after geometry owners images state shape known
    (g.met.B.Blocks.cur_may c.args.blocks.now told) part

pub returns-clause-due : goal.returns-clause-due
returns-clause-due g c told shape owners place sound due =
    let B = g.B.Blocks in
    let a = B.seen c.args.blocks.now in
    let b = B.seen c.force_blocks.new.blocks in
    subst (λ (listed : List ℕ). IsDueTo shape listed b place) (sym {A = List ℕ} c.clear.ensures.items)
    (due-forced B.tells told a b c.force_blocks.ensures.after shape owners c.args.changed.now.items
    place
    (subst (λ (listed : List ℕ). Forced listed a.cur b.may) c.deref.ensures.value
    (c.in_ok-force_blocks.ensures.forced told))
    sound due)

pub returns-clause-rests : goal.returns-clause-rests
returns-clause-rests g c told geometry number owners log images state rest =
    let B = g.B.Blocks in
    let forced = c.force_blocks.ensures.safe told geometry number owners log (committed_by state)
    rest.safe in (
      forced.0,
      volume-kept B.tells told (B.seen c.args.blocks.now) (B.seen c.force_blocks.new.blocks)
          c.force_blocks.ensures.after geometry number owners log images state forced.1 rest,
    )

pub returns-clause-others : goal.returns-clause-others
returns-clause-others g c told geometry owners images state shape known part =
    let B = g.B.Blocks in
    part-kept B.tells told (B.seen c.args.blocks.now) (B.seen c.force_blocks.new.blocks)
    c.force_blocks.ensures.after geometry owners images state shape known
    (g.met.B.Blocks.cur_may c.args.blocks.now told) part
