use Rattle.std.proofs.Common.{◌<◌, ◌^◌, List, Option, Some, ap, arith, length, refl, rules, subst}
use Rattle.std.proofs.Common.{ℕ}
use Rattle.std.proofs.Common.{◌∙◌}
use Rattle.std.proofs.lemmas.List.{length-set}
use Rattle.vr_types.specs.declared.unit.PartNo.{PartNo}
use Rattle.vr_space.specs.Part.{KeyedShape, part_no}
use Rattle.vr_types.specs.Geometry.{area_count}
use Rattle.vr_types.specs.Image.{block_at}
use Rattle.vr_space.specs.Areas.{KeyedChain, head_of}
use Rattle.vr_space.specs.Keyed.{Keyed}
use Rattle.vr_attach.specs.Areas.{AreasNow}
use Rattle.vr_attach.proofs.Stepping.{IsCalled, IsRead, as-bad, as-called, as-read, as-whole}
use Rattle.vr_attach.proofs.Stepping.{ends-greatest, few-added, next-there, step-bad, step-on}
use Rattle.vr_attach.proofs.Stepping.{step-over, step-twice, still-marked, still-open}
use Rattle.vr_attach.proofs.walk.step.Goals as goal
use Rattle.vr_attach.proofs.walk.step.Given as over

pub returns-in-Err-clause-walked : goal.returns-in-Err-clause-walked
returns-in-Err-clause-walked g c told before marks walk =
    let now = c.args.areas.now in
    let area = c.args.area in
    let cur = (g.B.Blocks.seen c.args.blocks.now).cur in
    let called = as-called now area c.layout.result.now c.layout-2.result.now c.area-layout.result
    c.areas-count.result c.last_end.result c.layout.ensures c.area-layout.ensures.layout
    c.layout-2.ensures
    (c.areas-count.ensures
    ∙ ap (λ (part : KeyedChain). area_count part.geometry) c.behind-areas.view_is)
    c.last_end.ensures in
    step-bad before c.args.taken.now cur now area marks walk c.in-Err.damage.block
    c.in-Err.damage.rule
    (as-bad now area c.area-layout.result c.areas-count.result c.last_end.result called
    c.in_ok-next.field-0 cur c.in-Err.damage c.in-Err.is (c.in_ok-next.ensures.bad told))

pub add_area-requires-clause-low : goal.add_area-requires-clause-low
add_area-requires-clause-low g c =
    let now = c.args.areas.now in
    let area = c.args.area in
    let called = as-called now area c.layout.result.now c.layout-2.result.now c.area-layout.result
    c.areas-count.result c.last_end.result c.layout.ensures c.area-layout.ensures.layout
    c.layout-2.ensures
    (c.areas-count.ensures
    ∙ ap (λ (part : KeyedChain). area_count part.geometry) c.behind-areas.view_is)
    c.last_end.ensures in
    (as-read now area c.area-layout.result c.areas-count.result c.last_end.result called
    c.in_ok-next.field-0 c.walk_area.new.top c.in-Ok.next c.in-Ok.is c.in_ok-next.ensures.good
    c.in_ok-next.ensures.next).good.goes.begins

pub add_area-requires-clause-few : goal.add_area-requires-clause-few
add_area-requires-clause-few g c =
    let now = c.args.areas.now in
    let called = as-called now c.args.area c.layout.result.now c.layout-2.result.now
    c.area-layout.result c.areas-count.result c.last_end.result c.layout.ensures
    c.area-layout.ensures.layout c.layout-2.ensures
    (c.areas-count.ensures
    ∙ ap (λ (part : KeyedChain). area_count part.geometry) c.behind-areas.view_is)
    c.last_end.ensures in
    few-added now c.args.area c.walk_area.new.top c.in-Ok.next
    (as-read now c.args.area c.area-layout.result c.areas-count.result c.last_end.result called
    c.in_ok-next.field-0 c.walk_area.new.top c.in-Ok.next c.in-Ok.is c.in_ok-next.ensures.good
    c.in_ok-next.ensures.next) c.args.taken.now c.requires.ready
    c.requires.on.part_is.allowed.most_intervals
    (subst (λ (n : ℕ). n < 2 ^ 32) called.count_is (search rules))

module _ (g : over.Over) (c : goal.In_default g) where
  called-end : IsCalled c.args.areas.now c.args.area c.area-layout.result c.areas-count.result
      c.last_end.result
  called-end = as-called c.args.areas.now c.args.area c.layout.result.now c.layout-2.result.now
      c.area-layout.result c.areas-count.result c.last_end.result c.layout.ensures
      c.area-layout.ensures.layout c.layout-2.ensures
      (c.areas-count.ensures
      ∙ ap (λ (part : KeyedChain). area_count part.geometry) c.behind-areas.view_is)
      c.last_end.ensures

  read-end : IsRead c.args.areas.now c.args.area c.walk_area.new.top c.in-Ok.next
  read-end = as-read c.args.areas.now c.args.area c.area-layout.result c.areas-count.result
      c.last_end.result called-end c.in_ok-next.field-0 c.walk_area.new.top c.in-Ok.next c.in-Ok.is
      c.in_ok-next.ensures.good c.in_ok-next.ensures.next

pub returns-in_default-clause-greatest : goal.returns-in_default-clause-greatest
returns-in_default-clause-greatest g c none =
    ends-greatest c.args.areas.now c.add_area.new.areas c.args.area c.walk_area.new.top
    c.add_area.ensures
    (subst (IsRead c.args.areas.now c.args.area c.walk_area.new.top) c.in_default.is (read-end g c))

pub returns-in_default-clause-walked : goal.returns-in_default-clause-walked
returns-in_default-clause-walked g c told before marks walk =
    let cur = (g.B.Blocks.seen c.args.blocks.now).cur in
    step-over before c.args.taken.now cur c.args.areas.now c.args.area marks walk
    c.walk_area.new.top c.in-Ok.next (read-end g c)
    (c.in_ok-next.ensures.same told
    ∙ ap (λ (lay : Keyed). block_at cur lay.head) (called-end g c).lay_is)
    (as-whole c.args.areas.now c.args.area c.area-layout.result c.areas-count.result
    c.last_end.result (called-end g c) c.in_ok-next.field-0 cur c.in-Ok.next c.in-Ok.is
    (c.in_ok-next.ensures.sound told))
    c.add_area.new.areas c.add_area.ensures c.requires.ready c.in_default.is

module _ (g : over.Over) (c : goal.In-Ok-take_next g) where
  called-on : IsCalled c.args.areas.now c.args.area c.area-layout.result c.areas-count.result
      c.last_end.result
  called-on = as-called c.args.areas.now c.args.area c.layout.result.now c.layout-2.result.now
      c.area-layout.result c.areas-count.result c.last_end.result c.layout.ensures
      c.area-layout.ensures.layout c.layout-2.ensures
      (c.areas-count.ensures
      ∙ ap (λ (part : KeyedChain). area_count part.geometry) c.behind-areas.view_is)
      c.last_end.ensures

  read-on : IsRead c.args.areas.now c.args.area c.walk_area.new.top (Some c.in-Some.next)
  read-on = subst (IsRead c.args.areas.now c.args.area c.walk_area.new.top) c.in-Some.is
      (as-read c.args.areas.now c.args.area c.area-layout.result c.areas-count.result
      c.last_end.result called-on c.in_ok-next.field-0 c.walk_area.new.top c.in-Ok.next c.in-Ok.is
      c.in_ok-next.ensures.good c.in_ok-next.ensures.next)

pub returns-in-Ok-take_next-clause-ready : goal.returns-in-Ok-take_next-clause-ready
returns-in-Ok-take_next-clause-ready g c =
    still-open c.args.areas.now c.add_area.new.areas c.args.area c.walk_area.new.top
    c.add_area.ensures c.in-Some.next (read-on g c) c.args.taken.now c.take_next.new.taken
    c.requires.ready c.in-Ok-take_next.ensures.fewer
    (ap (λ (all : List (Option PartNo)). length all) c.in-Ok-take_next.ensures.taken
    ∙ length-set c.args.taken.now c.in-Some.next
    (Some (part_no (KeyedShape c.add_area.new.areas.part))))
    c.requires.on.part_is.allowed.most_intervals

pub returns-in-Ok-take_next-clause-marked : goal.returns-in-Ok-take_next-clause-marked
returns-in-Ok-take_next-clause-marked g c before marks =
    still-marked c.args.areas.now c.add_area.new.areas c.args.area c.walk_area.new.top
    c.add_area.ensures c.in-Some.next (read-on g c) before c.args.taken.now c.take_next.new.taken
    (omega (
      arith,
      next-there c.args.areas.now c.add_area.new.areas c.args.area c.walk_area.new.top
          c.add_area.ensures c.in-Some.next (read-on g c),
      c.requires.ready.count,
    ))
    c.in-Ok-take_next.ensures.free c.in-Ok-take_next.ensures.taken marks

pub returns-in-Ok-take_next-clause-walked : goal.returns-in-Ok-take_next-clause-walked
returns-in-Ok-take_next-clause-walked g c told before marks walk =
    let cur = (g.B.Blocks.seen c.args.blocks.now).cur in
    step-on before c.args.taken.now cur c.args.areas.now c.args.area marks walk
    c.walk_area.new.top (Some c.in-Some.next) (read-on g c)
    (c.in_ok-next.ensures.same told
    ∙ ap (λ (lay : Keyed). block_at cur lay.head) (called-on g c).lay_is)
    (as-whole c.args.areas.now c.args.area c.area-layout.result c.areas-count.result
    c.last_end.result (called-on g c) c.in_ok-next.field-0 cur c.in-Ok.next c.in-Ok.is
    (c.in_ok-next.ensures.sound told))
    c.add_area.new.areas c.add_area.ensures c.requires.ready c.in-Some.next refl
    c.in-Ok-take_next.ensures.free
    (omega (arith, c.requires.ready.room, c.in-Ok-take_next.ensures.fewer))

pub returns-in-Err-take_next-clause-walked : goal.returns-in-Err-take_next-clause-walked
returns-in-Err-take_next-clause-walked g c told before marks walk =
    let now = c.args.areas.now in
    let area = c.args.area in
    let cur = (g.B.Blocks.seen c.args.blocks.now).cur in
    let called = as-called now area c.layout.result.now c.layout-2.result.now c.area-layout.result
    c.areas-count.result c.last_end.result c.layout.ensures c.area-layout.ensures.layout
    c.layout-2.ensures
    (c.areas-count.ensures
    ∙ ap (λ (part : KeyedChain). area_count part.geometry) c.behind-areas.view_is)
    c.last_end.ensures in
    let read = as-read now area c.area-layout.result c.areas-count.result c.last_end.result called
    c.in_ok-next.field-0 c.walk_area.new.top c.in-Ok.next c.in-Ok.is c.in_ok-next.ensures.good
    c.in_ok-next.ensures.next in
    step-twice before c.args.taken.now cur now area marks walk c.walk_area.new.top c.in-Ok.next read
    (c.in_ok-next.ensures.same told ∙ ap (λ (lay : Keyed). block_at cur lay.head) called.lay_is)
    (as-whole now area c.area-layout.result c.areas-count.result c.last_end.result called
    c.in_ok-next.field-0 cur c.in-Ok.next c.in-Ok.is (c.in_ok-next.ensures.sound told))
    c.in-Some.next c.in-Some.is c.in-Err-take_next.ensures.owned c.in-Err-take_next.damage.block
    (c.in-Err-take_next.ensures.block
    ∙ ap (λ (one : AreasNow). head_of one.part c.in-Some.next) c.add_area.ensures.new_is)
    c.in-Err-take_next.damage.rule c.in-Err-take_next.ensures.rule
