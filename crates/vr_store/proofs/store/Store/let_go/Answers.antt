-- The part is out of the list, its areas are free, and nothing is kept.
use Rattle.std.proofs.Common.{◌≡◌, ◌∙◌, ◌==◌, Option, Some, ap, map, not, rules, sym}
use Rattle.std.proofs.lemmas.Fn.{filter_same}
use Rattle.vr_types.specs.declared.unit.PartNo.{PartNo}
use Rattle.vr_store.specs.EntryChange.{parts_left, store_left}
use Rattle.vr_store.specs.Store.{PartNow, StoreNow, changed_by, has_number, part_now}
use Rattle.vr_store.specs.declared.parts.Laid.{Laid}
use Rattle.vr_store.proofs.EntryAreas.{left-is}
use Rattle.vr_store.proofs.Filtered.{filter-seen}
use Rattle.vr_store.proofs.store.Store.let_go.Goals as goal

pub returns-in-Some : goal.returns-in-Some
returns-in-Some g c =
    let part = c.in-Some.part in
    let inside = c.self.inside in
    let seen = part_now g.P.Part.shape g.P.Part.known in
    let before : StoreNow = record {
      log = inside.log;
      undo = inside.undo;
      parts = map seen inside.parts.items;
      changed = map changed_by inside.changed.items;
      space = inside.space;
    } in
    let left : map seen c.retain.new.self.items
    ≡ parts_left (Some part) (map seen inside.parts.items) =
    ap (map seen)
    (filter_same _ (λ (laid : Laid _). not (laid.number.0 == part.0)) _
    (λ n laid next called. search rules) _ _ c.retain.ensures.filtered)
    ∙ filter-seen seen (λ (one : PartNow). not (has_number part.0 one)) inside.parts.items in
    left-is before (Some part) c.new.result (map seen c.retain.new.self.items) c.release.new.self
    c.new.ensures left c.release.ensures
    ∙ ap (store_left (Some part)) c.self.view_is
    ∙ ap (λ (gone : Option PartNo). store_left gone c.args.self.now) (sym c.in-Some.is)
