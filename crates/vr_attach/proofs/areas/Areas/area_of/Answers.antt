use Rattle.std.proofs.Common.{◌<◌, ◌∙◌, List, ap, arith, length, subst, take}
use Rattle.std.proofs.lemmas.List.{length-map, length-take}
use Rattle.vr_types.specs.Geometry.{area_count}
use Rattle.vr_attach.specs.Areas.{AreasNow, areas_seen}
use Rattle.vr_attach.specs.declared.areas.AreaEnd.{AreaEnd}
use Rattle.vr_attach.proofs.AreaLists.{position-area, position-inside, used-is, used-there}
use Rattle.vr_attach.proofs.areas.Areas.area_of.Goals as goal

pub index-requires : goal.index-requires
index-requires c =
    let entries : List AreaEnd = c.self.inside.entries.items in
    let used = c.self.inside.used in
    omega (
      arith,
      position-inside c.args.self.now (take used entries)
          (ap (λ (now : AreasNow). now.areas) c.self.view_is)
          (ap (λ (now : AreasNow). now.ends) c.self.view_is) c.args.place.now c.position.result
          c.requires.whole c.requires.place (λ i. omega (arith, c.type_inv.place i))
          c.position.ensures,
      length-map (take used entries) (λ (one : AreaEnd). one.area),
      length-take used entries,
    )

module _ (c : goal.After-index) where
  abbrev used : List AreaEnd
  used = take c.self.inside.used c.self.inside.entries.items

  inside : c.position.result < length (areas_seen used)
  inside = position-inside c.args.self.now used
      (ap (λ (now : AreasNow). now.areas) c.self.view_is)
      (ap (λ (now : AreasNow). now.ends) c.self.view_is) c.args.place.now c.position.result
      c.requires.whole c.requires.place (λ i. omega (arith, c.type_inv.place i))
      c.position.ensures

pub returns-clause-area : goal.returns-clause-area
returns-clause-area c =
    position-area c.args.self.now (used c) (ap (λ (now : AreasNow). now.areas) c.self.view_is)
    (ap (λ (now : AreasNow). now.ends) c.self.view_is) c.args.place.now c.position.result
    c.requires.whole c.requires.place (λ i. omega (arith, c.type_inv.place i)) c.position.ensures
    ∙ used-is c.self.inside.layout c.self.inside.entries.items c.self.inside.used
    c.position.result c.index.result.now c.self.invariant (inside c) c.index.ensures

pub returns-clause-there : goal.returns-clause-there
returns-clause-there c =
    subst (λ (now : AreasNow). c.index.result.now.area < area_count now.part.geometry)
    c.self.view_is
    (used-there c.self.inside.layout c.self.inside.entries.items c.self.inside.used
    c.position.result c.index.result.now c.self.invariant (inside c) c.index.ensures)
