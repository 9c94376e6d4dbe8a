use Rattle.std.proofs.Common.{◌≡◌, ◌≤◌, Bool, List, length, rules, subst, sym, ap, ◌∙◌}
use Rattle.std.specs.Prelude.{vec_capacity}
use Rattle.std.proofs.lemmas.Fn.{filter_same}
use Rattle.std.proofs.lemmas.List.Elements.{All-filter}
use Rattle.vr_history.specs.Effects.{is_other}
use Rattle.vr_undo.specs.Lengths.{AreShort, IsShort}
use Rattle.vr_undo.specs.Order.{AreAlike, IsAlike, IsLive, IsOrder}
use Rattle.vr_undo.specs.Records.{befores_of, images_in, logged_of, without_unit}
use Rattle.vr_undo.specs.declared.record.KeptRecord.{KeptRecord}
use Rattle.vr_undo.proofs.Keeping.{fewer-filtered, kept-fewer}
use Rattle.vr_undo.proofs.Leaving.{befores-forgotten, images-forgotten, logged-forgotten}
use Rattle.vr_undo.proofs.undo.Undo.forget.Goals as goal

left : (c : goal.After-relist)
    → c.retain.new.self.items ≡ without_unit c.args.unit c.self.inside.records.items
left c = filter_same _ (λ (kept : KeptRecord). is_other c.args.unit kept.unit) _
    (λ n kept next_test called. search rules) _ _ c.retain.ensures.filtered

pub invariant_of-self : goal.invariant_of-self
invariant_of-self c =
    let records : List KeptRecord = c.self.inside.records.items in
    let is = sym (left c) in
    let other : KeptRecord → Bool = λ kept. is_other c.args.unit kept.unit in
    kept-fewer records c.retain.new.self.items c.self.inside.order.items c.self.inside.live.items
    c.relist.new.order.items c.relist.new.live.items (vec_capacity c.self.inside.order)
    (vec_capacity c.self.inside.live) (vec_capacity c.relist.new.order)
    (vec_capacity c.relist.new.live) c.self.invariant
    (subst AreShort is (All-filter other IsShort records c.self.invariant.short))
    (subst AreAlike is (All-filter other IsAlike records c.self.invariant.alike))
    (subst (λ (all : List KeptRecord). length all ≤ length records) is
    (fewer-filtered other records))
    (subst (λ (all : List KeptRecord). IsOrder all c.relist.new.order.items)
    c.deref.ensures.value c.relist.ensures.ordered)
    (subst (λ (all : List KeptRecord). IsLive all c.relist.new.live.items)
    c.deref.ensures.value c.relist.ensures.living) c.relist.ensures.order c.relist.ensures.live

pub returns-clause-without : goal.returns-clause-without
returns-clause-without c = left c ∙ ap (without_unit c.args.unit) c.self.view_is

pub returns-clause-befores : goal.returns-clause-befores
returns-clause-befores c =
    ap befores_of (returns-clause-without c) ∙ befores-forgotten c.args.unit c.args.self.now

pub returns-clause-images : goal.returns-clause-images
returns-clause-images c =
    ap images_in (returns-clause-without c) ∙ images-forgotten c.args.unit c.args.self.now

pub returns-clause-logged : goal.returns-clause-logged
returns-clause-logged c =
    ap logged_of (returns-clause-without c) ∙ logged-forgotten c.args.unit c.args.self.now
