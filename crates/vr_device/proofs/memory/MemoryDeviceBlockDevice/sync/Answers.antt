use Rattle.std.proofs.Common.{ap, ◌∙◌}
use Rattle.vr_device.specs.Past.{forced, with_event}
use Rattle.vr_device.specs.declared.memory.Held.{Held}
use Rattle.vr_device.proofs.Keeping.{sized-event}
use Rattle.vr_device.proofs.memory.MemoryDeviceBlockDevice.sync.Goals as goal

pub invariant_of-self-in-Ok : goal.invariant_of-self-in-Ok
invariant_of-self-in-Ok c = record {
  sized = sized-event c.args.self.now.held.value.past c.sync.new.self forced
      (c.in-Ok.ensures.ok
      ∙ ap (λ (held : Held). with_event held.past forced) c.deref_mut-2.ensures.value
      ∙ ap (λ (held : Held). with_event held.past forced) c.deref_mut.ensures.value)
      tt c.args.self.now.sized;
}
