use Rattle.std.proofs.Common.{List, ℕ, ◌≡◌, ◌<◌, ◌≤◌, ◌==◌, arith, filter, length, not, rules}
use Rattle.std.proofs.Common.{subst, sym}
use Rattle.std.specs.Prelude.{vec_capacity}
use Rattle.std.specs.List.{remove}
use Rattle.std.proofs.lemmas.Fn.{filter_same}
use Rattle.vr_undo.specs.Lengths.{AreShort, IsShort}
use Rattle.vr_undo.specs.Order.{AreAlike, IsAlike, IsLive, IsOrder}
use Rattle.vr_undo.specs.declared.record.KeptRecord.{KeptRecord}
use Rattle.vr_undo.proofs.Keeping.{all-removed, fewer-removed, kept-fewer, live-fewer, order-fewer}
use Rattle.vr_undo.proofs.undo.drop_end.Goals as goal

pub returns-clause-kept : goal.returns-clause-kept
returns-clause-kept c =
    let records : List KeptRecord = c.args.records.now.items in
    let at = c.args.at in
    let inside : at < length records = omega (arith, c.requires.at) in
    let is = sym c.remove.ensures.items in
    let order = c.retain.new.self in
    let live = c.retain-2.new.self in
    let order_is : order.items ≡ filter (λ (other : ℕ). not (other == at)) c.args.order.now.items =
    filter_same _ (λ (other : ℕ). not (other == at)) _
    (λ other stays next called. search rules) _ _ c.retain.ensures.filtered in
    let live_is : live.items ≡ filter (λ (other : ℕ). not (other == at)) c.args.live.now.items =
    filter_same _ (λ (other : ℕ). not (other == at)) _
    (λ other stays next called. search rules) _ _ c.retain-2.ensures.filtered in
    kept-fewer records c.remove.new.self.items c.args.order.now.items c.args.live.now.items
    order.items live.items (vec_capacity c.args.order.now) (vec_capacity c.args.live.now)
    (vec_capacity order) (vec_capacity live) c.requires.kept
    (subst AreShort is (all-removed IsShort records at c.requires.kept.short))
    (subst AreAlike is (all-removed IsAlike records at c.requires.kept.alike))
    (subst (λ (left : List KeptRecord). length left ≤ length records) is
    (fewer-removed records at inside))
    (subst (λ (left : List KeptRecord). IsOrder left order.items) is
    (subst (IsOrder (remove records at)) (sym order_is)
    (order-fewer records at c.requires.at c.args.order.now.items c.requires.kept.ordered)))
    (subst (λ (left : List KeptRecord). IsLive left live.items) is
    (subst (IsLive (remove records at)) (sym live_is)
    (live-fewer records at c.requires.at c.args.live.now.items c.requires.kept.living)))
    c.retain.ensures.capacity c.retain-2.ensures.capacity
