use Rattle.std.proofs.Common.{sym, subst}
use Rattle.vr_store.specs.Store.{IsStored, StoreNow}
use Rattle.vr_store.proofs.store.Store.ask_room.Goals as goal

pub returns-clause-stored : goal.returns-clause-stored
returns-clause-stored g c told volume state stored =
    c.ask_at.ensures.stored told volume state
    (subst (λ (s : StoreNow). IsStored volume s state (g.B.Blocks.seen c.args.blocks.now))
    (sym c.self.view_is) stored)
