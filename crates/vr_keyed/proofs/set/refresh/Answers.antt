use Rattle.std.proofs.Common.{◌≡◌, ◌∙◌, ◌∷◌, List, ap, length, map, sym, subst, take, arith}
use Rattle.std.specs.Prelude.{All, vec_len}
use Rattle.std.proofs.lemmas.List.{with_items_is}
use Rattle.vr_keyed.specs.declared.slot.Slot.{Slot}
use Rattle.vr_keyed.specs.Ready.{refreshed}
use Rattle.vr_keyed.specs.Slots.{IsSlotOf, met_in}
use Rattle.vr_keyed.proofs.Refreshing.{take-refreshed}
use Rattle.vr_keyed.proofs.set.refresh.Goals as goal

pub returns-clause-met : goal.returns-clause-met
returns-clause-met c =
    let old = c.args.slots.now in
    let first = c.refresh_slot.new.slot in
    let more : List Slot = c.refresh_each.new.slots in
    let lent : c.as_mut_slice.result.now ≡ old.more.items = c.as_mut_slice.ensures.value in
    let long : length more ≡ vec_len old.more =
    c.refresh_each.auto.slots ∙ c.as_mut_slice.ensures.len in
    ap (λ (slots : List Slot). take old.filled (met_in first ∷ map met_in slots))
    (with_items_is old.more more long)
    ∙ take-refreshed old.filled c.args.number c.args.bytes.now (met_in old.first) (met_in first)
    (map met_in old.more.items) (map met_in more) c.refresh_slot.ensures.met
    (c.refresh_each.ensures.met
    ∙ ap (λ (slots : List Slot). map (refreshed c.args.number c.args.bytes.now) (map met_in slots))
    lent)

pub returns-clause-room : goal.returns-clause-room
returns-clause-room c part all =
    let old = c.args.slots.now in
    let more : List Slot = c.refresh_each.new.slots in
    let lent : c.as_mut_slice.result.now ≡ old.more.items = c.as_mut_slice.ensures.value in
    let long : length more ≡ vec_len old.more =
    c.refresh_each.auto.slots ∙ c.as_mut_slice.ensures.len in
    record {
      first = c.refresh_slot.ensures.slot part all.first;
      more = subst (All (IsSlotOf part)) (sym (with_items_is old.more more long))
          (c.refresh_each.ensures.slots part
          (subst (All (IsSlotOf part)) (sym lent) all.more));
    }
