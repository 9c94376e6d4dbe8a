use Rattle.std.proofs.Common.{refl, ◌∙◌}
use Rattle.vr_device.proofs.Keeping.{kept-sync}
use Rattle.vr_device.proofs.past.Past.sync.Goals as goal

pub invariant_of-self-2 : goal.invariant_of-self-2
invariant_of-self-2 c =
    kept-sync c.self.inside c.self.invariant c.self.inside.seen c.push.new.self _
    c.in_ok-push.ensures.items tt c.self.invariant.seen c.len-self-inside.result
    (c.len-self-inside.ensures ∙ c.push.new.self.ok.0) refl
