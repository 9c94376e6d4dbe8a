use Rattle.std.proofs.Common.{◌≡◌, List, map, All, subst, sym}
use Rattle.std.specs.List.Sorted.{IsStrictlySortedBy}
use Rattle.vr_ci.specs.Interval as ci
use Rattle.vr_types.specs.Content.{place_cmp}
use Rattle.vr_space.specs.Keyed.{IsKept, items_of}
use Rattle.vr_space.specs.Search.{AreUpTo}
use Rattle.vr_space.proofs.Searching.{items-read, item_key}
use Rattle.vr_space.proofs.search.count_up_to.Goals as goal

pub returns-in_default : goal.returns-in_default
returns-in_default c = λ range holds. absurd (c.in_default.ensures.only _ holds.spelled)

pub returns : goal.returns
returns c = λ range holds.
    let part = c.args.layout.now in
    let same : c.in-Ok.view.items ≡ items_of c.args.block.now =
    items-read part range c.args.block.now c.in-Ok.view holds c.in-Ok.ensures.ok in
    subst (λ (items : List ci.Item).
    AreUpTo (map (item_key part) items) c.args.place.now c.count_among.result) same
    (c.count_among.ensures (subst (All (IsKept part)) (sym same) holds.kept)
    (subst (λ (items : List ci.Item). IsStrictlySortedBy place_cmp (map (item_key part) items))
    (sym same) holds.ascends))
