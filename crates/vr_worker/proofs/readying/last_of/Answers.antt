use Rattle.std.proofs.Common.{◌≡◌, ◌-◌, List, Some, length, slice_get, subst}
use Rattle.vr_history.proofs.CallerLemmas.{last_stamp-get}
use Rattle.vr_history.specs.declared.entry.Entry.{Entry}
use Rattle.vr_worker.proofs.readying.last_of.Goals as goal

pub returns-in-Some-clause-last : goal.returns-in-Some-clause-last
returns-in-Some-clause-last c = last_stamp-get 0 c.args.history.now.entries c.in-Some.entry.now
    (subst (λ (entries : List Entry).
    Some c.in-Some.entry.now ≡ slice_get entries (length entries - 1)) c.entries.ensures.value
    c.in-Some.ensures.value)
