use Rattle.std.proofs.Common.{List, sym, subst}
use Rattle.vr_catalog.specs.declared.entry.CatEntry.{CatEntry}
use Rattle.vr_format.specs.InOrder.{AreElsewhere, AreInOrder}
use Rattle.vr_format.proofs.Members.{places-elsewhere}
use Rattle.vr_format.proofs.Plans.{planned-for}
use Rattle.vr_format.proofs.entries.plan.Goals as goal

pub put_in_order-requires-clause-elsewhere : goal.put_in_order-requires-clause-elsewhere
put_in_order-requires-clause-elsewhere c = subst AreElsewhere (sym c.as_slice.ensures)
    (places-elsewhere c.args.geometry.now c.args.entries.now c.take_entries.new.clusters
    (c.in_ok-at.ensures.taken c.in_default.is))

pub returns-clause-planned : goal.returns-clause-planned
returns-clause-planned c = planned-for c.args.geometry.now c.requires.allowed c.args.entries.now
    c.take_entries.new.clusters c.put_in_order.new.ordered.items
    (c.in_ok-at.ensures.taken c.in_default.is)
    (subst (λ (es : List CatEntry). AreInOrder es c.put_in_order.new.ordered.items)
    c.as_slice.ensures c.in_ok-put_in_order.ensures)
