use Rattle.std.proofs.Common.{◌≡◌, ◌<◌, ℕ, List, length, subst, sym, ap, ◌∙◌}
use Rattle.std.specs.Prelude.{All, take}
use Rattle.std.specs.declared.cmp.Ordering.TheVariants.{Less}
use Rattle.vr_types.specs.Content.{place_cmp}
use Rattle.vr_types.specs.Geometry.{area_count}
use Rattle.vr_types.specs.PlaceBuffer.{PlaceRoom}
use Rattle.vr_attach.specs.Areas.{AreasNow, ends_seen}
use Rattle.vr_attach.specs.declared.areas.AreaEnd.{AreaEnd}
use Rattle.vr_attach.proofs.AreaLists.{are-ends-more, used-room}
use Rattle.vr_attach.proofs.areas.Areas.add.Goals as goal

pub invariant_of-self : goal.invariant_of-self
invariant_of-self c =
    let part = c.self.inside.layout in
    let entries : List AreaEnd = c.self.inside.entries.items in
    let used = c.self.inside.used in
    let is = sym c.self.view_is in
    let place : c.args.end.now ≡ c.set.new.self.place =
    sym (ap (λ (end : PlaceRoom). end.place) c.set.ensures) in
    let room : used < length entries = used-room part entries used c.self.invariant
    (subst (λ (now : AreasNow). length now.areas < area_count now.part.geometry) is
    c.requires.room) in
    are-ends-more part entries used c.args.area c.set.new.self c.self.invariant room
    (subst (λ (now : AreasNow). c.args.area < area_count now.part.geometry) is c.requires.there)
    (subst (λ (end : List ℕ). length end ≡ part.key) place
    (subst (λ (now : AreasNow). length c.args.end.now ≡ now.part.key) is c.requires.end))
    (ap (λ (end : PlaceRoom). end.room) c.set.ensures
    ∙ ap (λ (entry : AreaEnd). entry.end.room) c.index_mut-entry.ensures.value
    ∙ c.self.invariant.room used c.index_mut-entry.result.now room)
    (subst (λ (end : List ℕ). All (λ (before : List ℕ). place_cmp before end ≡ Less)
    (ends_seen (take used entries))) place
    (subst (λ (now : AreasNow). All (λ (before : List ℕ). place_cmp before c.args.end.now ≡ Less)
    now.ends) is c.requires.later))
