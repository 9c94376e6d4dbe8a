use Rattle.std.proofs.Common.{List, ◌≤◌, length, subst, sym}
use Rattle.std.specs.Prelude.{vec_capacity}
use Rattle.vr_undo.specs.Lengths.{AreShort, IsShort}
use Rattle.vr_undo.specs.Order.{AreAlike, IsAlike, IsLive, IsOrder}
use Rattle.vr_undo.specs.declared.record.KeptRecord.{KeptRecord}
use Rattle.vr_undo.proofs.Keeping.{all-removed, fewer-removed, kept-fewer}
use Rattle.vr_undo.proofs.undo.drop_inside.Goals as goal

pub returns-clause-kept : goal.returns-clause-kept
returns-clause-kept c =
    let records : List KeptRecord = c.args.records.now.items in
    let is = sym c.remove.ensures.items in
    kept-fewer records c.remove.new.self.items c.args.order.now.items c.args.live.now.items
    c.relist.new.order.items c.relist.new.live.items (vec_capacity c.args.order.now)
    (vec_capacity c.args.live.now) (vec_capacity c.relist.new.order)
    (vec_capacity c.relist.new.live) c.requires.kept
    (subst AreShort is (all-removed IsShort records c.args.at c.requires.kept.short))
    (subst AreAlike is (all-removed IsAlike records c.args.at c.requires.kept.alike))
    (subst (λ (left : List KeptRecord). length left ≤ length records) is
    (fewer-removed records c.args.at c.requires.at))
    (subst (λ (left : List KeptRecord). IsOrder left c.relist.new.order.items)
    c.deref.ensures.value c.relist.ensures.ordered)
    (subst (λ (left : List KeptRecord). IsLive left c.relist.new.live.items)
    c.deref.ensures.value c.relist.ensures.living) c.relist.ensures.order c.relist.ensures.live
