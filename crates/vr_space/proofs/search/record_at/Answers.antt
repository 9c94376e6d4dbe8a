use Rattle.std.proofs.Common.{◌≡◌, Some, None, MatchOption, List, map, All, subst, sym}
use Rattle.vr_ci.specs.Interval as ci
use Rattle.vr_types.specs.Content.{item_at}
use Rattle.vr_types.specs.Content.Item.{Standing}
use Rattle.vr_space.specs.Keyed.{IsKept, placed, items_of}
use Rattle.vr_space.proofs.Searching.{items-read}
use Rattle.vr_space.proofs.search.record_at.Goals as goal

pub returns-in_default : goal.returns-in_default
returns-in_default c = λ range holds. absurd (c.in_default.ensures.only _ holds.spelled)

pub returns : goal.returns
returns c = λ range holds.
    let part = c.args.layout.now in
    let same : c.in-Ok.view.items ≡ items_of c.args.block.now =
    items-read part range c.args.block.now c.in-Ok.view holds c.in-Ok.ensures.ok in
    subst (λ (items : List ci.Item). MatchOption c.record_among.result
    (item_at (map (placed part) items) c.args.place.now ≡ None)
    (λ found. item_at (map (placed part) items) c.args.place.now ≡ Some (Standing found.now))) same
    (c.record_among.ensures (subst (All (IsKept part)) (sym same) holds.kept))
