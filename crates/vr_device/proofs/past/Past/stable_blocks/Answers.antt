use Rattle.std.proofs.Common.{◌≡◌, length, drop, ap, sym, ◌∙◌, take_at}
use Rattle.std.proofs.lemmas.List.{length-map}
use Rattle.vr_device.specs.PastEvent.{blocks_of}
use Rattle.vr_device.specs.Past.{Past}
use Rattle.vr_device.proofs.Selecting.{stable-within, stable-is, same-count}
use Rattle.vr_device.proofs.past.Past.stable_blocks.Goals as goal

pub replay-requires : goal.replay-requires
replay-requires c =
    let long = same-count c.in_ok-stable.stable.items c.self.inside.start.items
    (c.in_ok-stable.ensures ∙ ap blocks_of c.deref.ensures.value) in
    stable-within c.self.inside c.self.invariant _ c.deref-2.result.now
    (ap length c.deref_mut.ensures.value ∙ long) c.deref-2.ensures.value

pub returns-clause-stable : goal.returns-clause-stable
returns-clause-stable c =
    let whole : length c.replay.new.blocks ≡ c.in_ok-stable.stable.len =
    c.replay.auto.blocks ∙ ap length c.deref_mut.ensures.value
    ∙ sym c.in_ok-stable.stable.ok.0 in
    ap blocks_of (take_at c.replay.new.blocks
    (drop (length c.replay.new.blocks) c.in_ok-stable.stable.items) c.in_ok-stable.stable.len
    whole)
    ∙ c.in_ok-replay.ensures
    ∙ stable-is c.self.inside c.self.invariant c.args.self.now c.self.view_is
    (blocks_of c.deref_mut.result.now) c.deref-2.result.now
    (ap blocks_of c.deref_mut.ensures.value ∙ c.in_ok-stable.ensures
    ∙ ap blocks_of c.deref.ensures.value) c.deref-2.ensures.value

pub returns-clause-count : goal.returns-clause-count
returns-clause-count c =
    let same = c.replay.auto.blocks ∙ ap length c.deref_mut.ensures.value in
    let whole : length c.replay.new.blocks ≡ c.in_ok-stable.stable.len =
    same ∙ sym c.in_ok-stable.stable.ok.0 in
    ap length (take_at c.replay.new.blocks
    (drop (length c.replay.new.blocks) c.in_ok-stable.stable.items) c.in_ok-stable.stable.len
    whole)
    ∙ same ∙ same-count c.in_ok-stable.stable.items c.self.inside.start.items
    (c.in_ok-stable.ensures ∙ ap blocks_of c.deref.ensures.value)
    ∙ sym (length-map c.self.inside.start.items (λ b. b.items))
    ∙ ap (λ (p : Past). length p.start) c.self.view_is
