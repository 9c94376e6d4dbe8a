use Rattle.std.proofs.Common.{ap, ◌∙◌}
use Rattle.vr_device.specs.Past.{failed, with_event}
use Rattle.vr_device.specs.declared.memory.Held.{Held}
use Rattle.vr_device.proofs.Keeping.{sized-event}
use Rattle.vr_device.proofs.memory.MemoryDevice.fail_write.Goals as goal

pub invariant_of-self : goal.invariant_of-self
invariant_of-self c =
    let event = failed c.args.n c.args.from.now in
    record {
      sized = sized-event c.args.self.now.held.value.past c.deref_mut-in-Ok.result.now.past event
          (ap (λ (held : Held). held.past) c.deref_mut-in-Ok.ensures.value ∙ c.in-Ok.ensures.ok
          ∙ ap (λ (held : Held). with_event held.past event) c.deref_mut.ensures.value)
          (c.requires.block, c.requires.whole) c.args.self.now.sized;
    }
