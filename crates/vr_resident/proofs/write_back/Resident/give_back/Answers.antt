use Rattle.std.proofs.Common.{◌∙◌}
use Rattle.vr_resident.proofs.Steps.{keeps_through}
use Rattle.vr_resident.proofs.Given.{given_kept, given_after}
use Rattle.vr_resident.proofs.write_back.Resident.give_back.Goals as goal

pub invariant_of-self : goal.invariant_of-self
invariant_of-self g c =
    given_kept g.D.BlockDevice.tells (g.D.BlockDevice.seen c.self.inside.device)
    c.self.inside.frames c.give_back.new.frames c.give_back.result c.self.invariant
    c.give_back.ensures.gave c.give_back.ensures.seat c.give_back.ensures.framed

pub returns-clause-after : goal.returns-clause-after
returns-clause-after g c =
    let device = g.D.BlockDevice.seen c.self.inside.device in
    let old = c.self.inside.frames in
    let e = c.give_back.ensures in
    rw (← c.self.view_is)
    (keeps_through g.D.BlockDevice.tells device device old c.give_back.new.frames
    c.self.invariant.size_is (e.seat.size_same ∙ c.self.invariant.size_is)
    (given_after g.D.BlockDevice.tells device old c.give_back.new.frames c.give_back.result
    c.self.invariant e.gave e.seat
    (λ told image left. g.met.D.BlockDevice.images_may c.self.inside.device image told left)))
