use Rattle.std.proofs.Common.{◌≡◌, ◌++◌, take, flat_map}
use Rattle.vr_bind.specs.Bound.{bound_order}
use Rattle.vr_bind.proofs.binding.add_orders.Given as goal

-- the requests of the orders so far
abbrev pub invariant-loop-order : goal.invariant-loop-order
invariant-loop-order l =
    l.requests
    ≡ l.fn.requests ++ flat_map (bound_order l.files l.volumes) (take l.order-index l.orders)
