use Rattle.std.proofs.Common.{ap, ◌∙◌}
use Rattle.vr_device.specs.Past.{wrote, with_event}
use Rattle.vr_device.specs.declared.memory.Held.{Held}
use Rattle.vr_device.proofs.Keeping.{sized-event}
use Rattle.vr_device.proofs.memory.MemoryDeviceBlockDevice.write.Goals as goal

pub invariant_of-self-in-Ok : goal.invariant_of-self-in-Ok
invariant_of-self-in-Ok c =
    let event = wrote c.args.n c.args.from.now in
    record {
      sized = sized-event c.args.self.now.held.value.past c.write.new.self event
          (c.in-Ok.ensures.ok
          ∙ ap (λ (held : Held). with_event held.past event) c.deref_mut-2.ensures.value
          ∙ ap (λ (held : Held). with_event held.past event) c.deref_mut.ensures.value)
          (c.requires.block, c.requires.whole) c.args.self.now.sized;
    }
