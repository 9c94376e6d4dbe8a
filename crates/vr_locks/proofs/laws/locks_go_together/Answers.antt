use Rattle.std.proofs.Common.{List, subst}
use Rattle.vr_types.specs.Locks.{Lock}
use Rattle.vr_locks.specs.Maps.{lock_at}
use Rattle.vr_locks.specs.Sound.{IsSound}
use Rattle.vr_locks.proofs.CallerLemmas.{sound-apart}
use Rattle.vr_locks.proofs.ListedLemmas.{sound-listed}
use Rattle.vr_locks.proofs.laws.locks_go_together.Goals as goal

pub returns-clause-apart : goal.returns-clause-apart
returns-clause-apart c =
    let maps = c.table.inside.maps in
    let P : List Lock → Type 0 = λ locks. IsSound locks in
    sound-apart c.args.table.now (subst P c.table.view_is
    (sound-listed (lock_at maps) maps.next c.table.invariant.sound))

pub returns-clause-once : goal.returns-clause-once
returns-clause-once c = λ i j d less within names.
    let maps = c.table.inside.maps in
    let P : List Lock → Type 0 = λ locks. IsSound locks in
    ((subst P c.table.view_is (sound-listed (lock_at maps) maps.next c.table.invariant.sound)) i j
    d less within names).0
