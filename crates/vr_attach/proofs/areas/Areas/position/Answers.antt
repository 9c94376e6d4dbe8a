use Rattle.std.proofs.Common.{◌≡◌, List, ap, rules, subst, sym, take}
use Rattle.std.specs.List.Sorted.{IsStrictlySortedBy}
use Rattle.std.proofs.lemmas.List.Sorted.{IsPartitionPoint-from_clause}
use Rattle.vr_types.specs.Content.{place_cmp}
use Rattle.vr_attach.specs.Areas.{AreasNow, IsAreaPosition, ends_seen}
use Rattle.vr_attach.specs.declared.areas.AreaEnd.{AreaEnd}
use Rattle.vr_attach.proofs.AreaLists.{ends_before, parted, position-is}
use Rattle.vr_attach.proofs.areas.Areas.position.Goals as goal

pub returns : goal.returns
returns c =
    let place = c.args.place.now in
    let entries : List AreaEnd = take c.self.inside.used c.deref.result.now in
    let same : entries ≡ take c.self.inside.used c.self.inside.entries.items =
    ap (take c.self.inside.used) c.deref.ensures.value in
    subst (λ (now : AreasNow). IsAreaPosition now.ends place c.partition_point.result)
    c.self.view_is
    (subst (λ (used : List AreaEnd). IsAreaPosition (ends_seen used) place
    c.partition_point.result) same
    (position-is place entries c.partition_point.result c.partition_point.ensures.bound
    (IsPartitionPoint-from_clause (ends_before place) entries c.partition_point.result
    c.partition_point.ensures.partitioned
    (parted place entries
    (subst (λ (used : List AreaEnd). IsStrictlySortedBy place_cmp (ends_seen used)) (sym same)
    c.self.invariant.ascend))
    (λ a r g called. search rules))))
