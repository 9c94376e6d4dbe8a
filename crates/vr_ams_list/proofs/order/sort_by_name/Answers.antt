use Rattle.std.proofs.Common.{rules}
use Rattle.std.proofs.lemmas.List.Sorted.{answers_always}
use Rattle.vr_ams_list.proofs.NameOrders.{less, less_order, sorted_entries}
use Rattle.vr_ams_list.proofs.order.sort_by_name.Goals as goal

pub returns : goal.returns
returns c =
    sorted_entries c.args.entries.now.items c.sort_by.new.self.items
    (c.in_ok-sort_by.ensures.sorted less less_order
    (answers_always _ _ _ (λ f a r g h. search rules)))
    (c.in_ok-sort_by.ensures.stable less less_order
    (answers_always _ _ _ (λ f a r g h. search rules)))
