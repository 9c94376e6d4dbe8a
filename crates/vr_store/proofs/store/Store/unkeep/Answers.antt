use Rattle.std.proofs.Common.{List, map, sym, ap, subst, ◌∙◌}
use Rattle.std.specs.Prelude.{All}
use Rattle.vr_undo.specs.Records.{befores_of, is_record_at}
use Rattle.vr_undo.specs.declared.record.KeptRecord.{KeptRecord}
use Rattle.vr_store.specs.Store.{IsFitImage, IsSet, IsStored, StoreNow, changed_by, part_now}
use Rattle.vr_store.proofs.Fits.{fits-back}
use Rattle.vr_store.proofs.Kept.{set-changed, stored-back, undo-back}
use Rattle.vr_store.proofs.store.Store.unkeep.Goals as goal

pub returns-then-prepared-clause-stored : goal.returns-then-prepared-clause-stored
returns-then-prepared-clause-stored g c volume before state kept part place is =
    let now = g.B.Blocks.seen c.args.blocks.now in
    subst (λ (store : StoreNow). IsStored volume (record store { undo = c.unkeep.new.self }) state
    now) (sym c.self.view_is)
    (stored-back volume c.args.self.now c.args.unit before state now c.unkeep.new.self kept
    (c.unkeep.ensures.without
    ∙ undo-back c.args.prepared.now c.args.unit c.args.part c.args.place.now before kept.old
    c.self.inside.undo part place is c.if-prepared.true
    (ap (λ (store : StoreNow). store.undo) c.self.view_is ∙ kept.kept)))

pub returns-then-prepared-clause-set : goal.returns-then-prepared-clause-set
returns-then-prepared-clause-set g c set =
    let now = g.B.Blocks.seen c.args.blocks.now in
    let inside = c.self.inside in
    let parts = map (part_now g.P.Part.shape g.P.Part.known) inside.parts.items in
    let is-set = subst (λ (store : StoreNow). IsSet store now) (sym c.self.view_is) set in
    set-changed _ now (map changed_by inside.changed.items) c.unkeep.new.self
    (λ count all. all)
    (subst (λ (undo : List KeptRecord). All (IsFitImage parts) (befores_of undo))
    (sym c.unkeep.ensures.without)
    (fits-back (IsFitImage parts)
    (is_record_at c.args.unit c.args.part.0 c.args.place.now) inside.undo is-set.kept)) is-set
