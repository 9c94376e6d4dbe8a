use Rattle.std.proofs.Common.{◌≡◌, ◌∙◌, List, All, map, length, ap, sym, subst}
use Rattle.std.proofs.lemmas.List.{with_items_is}
use Rattle.std.specs.Vec.{with_items}
use Rattle.vr_chained.specs.declared.met.MetBlock.{MetBlock}
use Rattle.vr_chained.specs.Met.{IsMetOf, met_in}
use Rattle.vr_chained.specs.Setting.{refreshed}
use Rattle.vr_chained.proofs.Refreshing.{met-refreshed}
use Rattle.vr_chained.proofs.set.refresh.Goals as goal

pub returns-clause-met : goal.returns-clause-met
returns-clause-met c =
    let slots = c.args.mets.now.slots in
    let whole : (with_items slots c.refresh_slots.new.slots).items ≡ c.refresh_slots.new.slots =
    with_items_is slots c.refresh_slots.new.slots
    (c.refresh_slots.ensures.count ∙ c.as_mut_slice.ensures.len) in
    met-refreshed c.args.number c.args.bytes.now c.args.mets.now.filled slots.items
    (with_items slots c.refresh_slots.new.slots).items
    (ap (map met_in) whole ∙ c.refresh_slots.ensures.met
    ∙ ap (λ (all : List MetBlock). map (refreshed c.args.number c.args.bytes.now)
    (map met_in all)) c.as_mut_slice.ensures.value)

pub returns-clause-room : goal.returns-clause-room
returns-clause-room c =
    subst (All (IsMetOf (length c.args.bytes.now)))
    (sym (with_items_is c.args.mets.now.slots c.refresh_slots.new.slots
    (c.refresh_slots.ensures.count ∙ c.as_mut_slice.ensures.len)))
    c.refresh_slots.ensures.room
