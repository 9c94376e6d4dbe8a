use Rattle.std.proofs.Common.{◌≡◌, Some, List, map, All, subst, sym, ap, ◌∙◌}
use Rattle.vr_ci.specs.Interval as ci
use Rattle.vr_types.specs.PlaceBuffer.{PlaceRoom}
use Rattle.vr_space.specs.Keyed.{IsKept, items_of}
use Rattle.vr_space.proofs.CallerLemmas.{items-read}
use Rattle.vr_keyed.specs.Slots.{met_in}
use Rattle.vr_keyed.specs.Next.{first_sought}
use Rattle.vr_keyed.proofs.Nexting.{item_key}
use Rattle.vr_keyed.proofs.next.first_in.Goals as goal

pub returns-in_default-clause-first : goal.returns-in_default-clause-first
returns-in_default-clause-first c = λ holds.
    absurd (c.in_default.ensures.only _ holds.spelled)

pub returns-in_default-first_key-clause-first : goal.returns-in_default-first_key-clause-first
returns-in_default-first_key-clause-first c = λ holds.
    let part = c.args.layout.now in
    let range = (met_in c.args.slot.now).range in
    let same : c.in-Ok.view.items ≡ items_of c.args.block.now =
    items-read part range c.args.block.now c.in-Ok.view holds c.in-Ok.ensures.ok in
    sym (ap (λ (items : List ci.Item).
    first_sought range c.args.from (map (item_key part) items)) same)
    ∙ sym (c.in_default-first_key.ensures.first (subst (All (IsKept part)) (sym same) holds.kept))

pub returns-clause-first : goal.returns-clause-first
returns-clause-first c = λ holds.
    let part = c.args.layout.now in
    let range = (met_in c.args.slot.now).range in
    let same : c.in-Ok.view.items ≡ items_of c.args.block.now =
    items-read part range c.args.block.now c.in-Ok.view holds c.in-Ok.ensures.ok in
    sym (ap (λ (items : List ci.Item).
    first_sought range c.args.from (map (item_key part) items)) same)
    ∙ sym (c.in-Some.ensures.first (subst (All (IsKept part)) (sym same) holds.kept))
    ∙ sym (ap (λ (buffer : PlaceRoom). Some buffer.place) c.set.ensures)
