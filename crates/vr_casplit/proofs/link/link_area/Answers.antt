use Rattle.std.proofs.Common.{◌+◌, ℕ, arith, ap, ◌∙◌, set}
use Rattle.std.proofs.lemmas.Result.{on_ok_weaker}
use Rattle.vr_types.proofs.CallerLemmas.{puts-then-keeps}
use Rattle.vr_space.specs.Areas.{area_of, head_of}
use Rattle.vr_space.specs.Keyed.{Keyed}
use Rattle.vr_casplit.proofs.Elsewhere.{put-counts, put-knows, put-leaves, puts-at}
use Rattle.vr_casplit.proofs.Listing.{forced-head, forced-interval, lists-of, lists-there}
use Rattle.vr_casplit.proofs.link.link_area.Goals as goal

-- ---- the head couldn't be put

pub returns-in_err-put-clause-puts : goal.returns-in_err-put-clause-puts
returns-in_err-put-clause-puts g c =
    puts-at g.B.Blocks.tells c.to.inside.head (head_of c.args.layout.now c.args.into)
    c.write_upper.new.out _ _
    (ap (λ (area : Keyed). area.head) (c.to.view_is ∙ c.area-to.ensures.layout))
    c.put.ensures.after

pub returns-in_err-put-clause-leaves : goal.returns-in_err-put-clause-leaves
returns-in_err-put-clause-leaves g c = λ told owners kept.
    let head : ℕ = head_of c.args.layout.now c.args.into in
    put-leaves g.B.Blocks.tells told c.args.layout.now c.args.into head c.write_upper.new.out owners
    kept _ _ (omega arith, omega arith)
    (returns-in_err-put-clause-puts g c)
    (g.met.B.Blocks.cur_may c.args.blocks.now told)

pub returns-in_err-put-clause-knows : goal.returns-in_err-put-clause-knows
returns-in_err-put-clause-knows g c = λ told owners kept areas ends.
    let head : ℕ = head_of c.args.layout.now c.args.into in
    put-knows g.B.Blocks.tells told c.args.layout.now c.args.into head c.write_upper.new.out owners
    kept areas ends _ _ (omega arith, omega arith)
    (returns-in_err-put-clause-puts g c)
    (g.met.B.Blocks.cur_may c.args.blocks.now told)

pub returns-in_err-put-clause-counts : goal.returns-in_err-put-clause-counts
returns-in_err-put-clause-counts g c = λ told owners kept.
    let head : ℕ = head_of c.args.layout.now c.args.into in
    put-counts g.B.Blocks.tells told c.args.layout.now c.args.into head c.write_upper.new.out owners
    kept _ _ (omega arith, omega arith)
    (returns-in_err-put-clause-puts g c)
    (g.met.B.Blocks.cur_may c.args.blocks.now told)

-- ---- it was, and then all were forced

pub force-requires : goal.force-requires
force-requires g c =
    let to : Keyed = area_of c.args.layout.now c.args.into in
    lists-there to c.moving.result c.as_slice.result.now
    (lists-of c.area-to.result to c.moving.result c.list_blocks.new.listed.items
    c.as_slice.result.now c.area-to.ensures.layout c.as_slice.ensures.value
    c.list_blocks.ensures.length c.list_blocks.ensures.head c.list_blocks.ensures.intervals)
    (g.B.Blocks.seen c.put.new.self).count
    (omega (
      arith,
      c.moving.ensures.area,
      ap (λ (area : Keyed). area.area) c.area-from.ensures.layout,
    ))
    (omega (
      arith,
      c.area-to.ensures.below,
      c.requires.on.blocks,
      c.put.ensures.after.count_same,
      ap (λ (area : Keyed). area.head + area.area) c.area-to.ensures.layout,
    ))

pub returns-clause-stable : goal.returns-clause-stable
returns-clause-stable g c = λ told.
    let to : Keyed = area_of c.args.layout.now c.args.into in
    on_ok_weaker c.force.result
    (forced-head to c.moving.result c.as_slice.result.now
    (lists-of c.area-to.result to c.moving.result c.list_blocks.new.listed.items
    c.as_slice.result.now c.area-to.ensures.layout c.as_slice.ensures.value
    c.list_blocks.ensures.length c.list_blocks.ensures.head c.list_blocks.ensures.intervals)
    c.write_upper.new.out (g.B.Blocks.seen c.args.blocks.now)
    (g.B.Blocks.seen c.put.new.self) (g.B.Blocks.seen c.force.new.self)
    (omega (
      arith,
      c.area-to.ensures.below,
      c.requires.on.blocks,
      ap (λ (area : Keyed). area.head + area.area) c.area-to.ensures.layout,
    ))
    (g.met.B.Blocks.cur_may c.args.blocks.now told)
    (c.in_ok-put.ensures.put told
    ∙ ap (λ (n : ℕ). set (g.B.Blocks.seen c.args.blocks.now).cur n c.write_upper.new.out)
    (ap (λ (area : Keyed). area.head) (c.to.view_is ∙ c.area-to.ensures.layout))))
    (c.force.ensures.forced told)

pub returns-clause-copies : goal.returns-clause-copies
returns-clause-copies g c = λ told.
    let to : Keyed = area_of c.args.layout.now c.args.into in
    on_ok_weaker c.force.result
    (λ forced j below. forced-interval to c.moving.result c.as_slice.result.now
    (lists-of c.area-to.result to c.moving.result c.list_blocks.new.listed.items
    c.as_slice.result.now c.area-to.ensures.layout c.as_slice.ensures.value
    c.list_blocks.ensures.length c.list_blocks.ensures.head c.list_blocks.ensures.intervals)
    g.B.Blocks.tells told c.write_upper.new.out (g.B.Blocks.seen c.args.blocks.now)
    (g.B.Blocks.seen c.put.new.self) (g.B.Blocks.seen c.force.new.self)
    (puts-at g.B.Blocks.tells c.to.inside.head to.head c.write_upper.new.out _ _
    (ap (λ (area : Keyed). area.head) (c.to.view_is ∙ c.area-to.ensures.layout))
    c.put.ensures.after)
    forced j (omega (arith, below, c.moving.ensures.moving)))
    (c.force.ensures.forced told)

pub returns-clause-puts : goal.returns-clause-puts
returns-clause-puts g c =
    puts-then-keeps g.B.Blocks.tells (head_of c.args.layout.now c.args.into) c.write_upper.new.out _
    _ _
    (puts-at g.B.Blocks.tells c.to.inside.head (head_of c.args.layout.now c.args.into)
    c.write_upper.new.out _ _
    (ap (λ (area : Keyed). area.head) (c.to.view_is ∙ c.area-to.ensures.layout))
    c.put.ensures.after)
    c.force.ensures.after

pub returns-clause-leaves : goal.returns-clause-leaves
returns-clause-leaves g c = λ told owners kept.
    let head : ℕ = head_of c.args.layout.now c.args.into in
    put-leaves g.B.Blocks.tells told c.args.layout.now c.args.into head c.write_upper.new.out owners
    kept _ _ (omega arith, omega arith)
    (returns-clause-puts g c)
    (g.met.B.Blocks.cur_may c.args.blocks.now told)

pub returns-clause-knows : goal.returns-clause-knows
returns-clause-knows g c = λ told owners kept areas ends.
    let head : ℕ = head_of c.args.layout.now c.args.into in
    put-knows g.B.Blocks.tells told c.args.layout.now c.args.into head c.write_upper.new.out owners
    kept areas ends _ _ (omega arith, omega arith)
    (returns-clause-puts g c)
    (g.met.B.Blocks.cur_may c.args.blocks.now told)

pub returns-clause-counts : goal.returns-clause-counts
returns-clause-counts g c = λ told owners kept.
    let head : ℕ = head_of c.args.layout.now c.args.into in
    put-counts g.B.Blocks.tells told c.args.layout.now c.args.into head c.write_upper.new.out owners
    kept _ _ (omega arith, omega arith)
    (returns-clause-puts g c)
    (g.met.B.Blocks.cur_may c.args.blocks.now told)
