use Rattle.std.proofs.Common.{ap, ◌∙◌}
use Rattle.vr_undo.specs.Records.{befores_of}
use Rattle.vr_store.specs.Store.{StoreNow}
use Rattle.vr_event.proofs.searching.first_seen.Goals as goal

pub returns-clause-first : goal.returns-clause-first
returns-clause-first g c told volume state stored =
    c.in_ok-or_kept.ensures state
    (ap (λ (s : StoreNow). befores_of s.undo) c.next_place.ensures.same ∙ stored.befores)
    (c.in_ok-standing.ensures.next told volume state stored)
