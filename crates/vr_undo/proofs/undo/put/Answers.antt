use Rattle.std.proofs.Common.{List, ℕ, ◌<◌, ◌∷◌, ◌++◌, [], length, subst, sym}
use Rattle.std.specs.Prelude.{vec_capacity}
use Rattle.vr_undo.specs.Order.{IsKept, IsLive, IsOrder}
use Rattle.vr_undo.specs.declared.record.KeptRecord.{KeptRecord}
use Rattle.vr_undo.proofs.Keeping.{kept-more}
use Rattle.vr_undo.proofs.undo.put.Goals as goal

pub returns-clause-kept : goal.returns-clause-kept
returns-clause-kept c =
    let records : List KeptRecord = c.args.records.now.items in
    let made = c.args.made in
    let order = c.list_new.new.order in
    let live = c.list_kept.new.live in
    subst (λ (all : List KeptRecord). IsKept all order.items live.items (vec_capacity order)
    (vec_capacity live)) (sym c.push_reserved.ensures.items)
    (kept-more records made c.args.order.now.items c.args.live.now.items order.items live.items
    (vec_capacity c.args.order.now) (vec_capacity c.args.live.now) (vec_capacity order)
    (vec_capacity live) c.requires.kept c.requires.short c.requires.alike
    (subst (λ (n : ℕ). length records < n) (sym c.list_new.ensures.capacity) c.requires.order.all)
    (subst (λ (n : ℕ). length records < n) (sym c.list_kept.ensures.capacity) c.requires.live.all)
    (subst (λ (all : List KeptRecord). IsOrder (all ++ made ∷ []) order.items)
    c.deref.ensures.value c.list_new.ensures.order)
    (subst (λ (all : List KeptRecord). IsLive (all ++ made ∷ []) live.items)
    c.deref-2.ensures.value c.list_kept.ensures.live))
