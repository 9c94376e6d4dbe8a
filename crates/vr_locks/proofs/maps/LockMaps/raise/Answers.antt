use Rattle.vr_locks.proofs.GrantLemmas.{raised-grants}
use Rattle.vr_locks.proofs.maps.LockMaps.raise.Goals as goal

pub returns-clause-grants : goal.returns-clause-grants
returns-clause-grants c =
    raised-grants c.args.unit c.args.mode c.args.name.now c.args.self.now c.raise_at.new.self
    c.requires.kept c.requires.free
    c.args.own c.requires.own c.raise_at.ensures.filed c.raise_at.ensures.locks
