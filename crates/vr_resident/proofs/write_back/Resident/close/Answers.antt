use Rattle.std.proofs.Common.{List, sym, subst, inl}
use Rattle.vr_resident.specs.Held.{Held, over}
use Rattle.vr_resident.proofs.Steps.{same_held}
use Rattle.vr_resident.proofs.write_back.Resident.close.Goals as goal

pub returns-clause-adds_none : goal.returns-clause-adds_none
returns-clause-adds_none g c =
    let device = g.D.BlockDevice.seen c.self.inside.device in
    rw (← c.self.view_is) (λ told n block below may.
    subst (λ (hs : List Held). (over device hs).may n block)
    (sym (same_held device c.self.inside.frames c.self.invariant.size_is))
    (c.write_all-fault.ensures.after.adds_none told n block below (inl may)))
