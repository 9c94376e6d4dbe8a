-- The areas of a part that isn't laid are free then, and the store is as it was but for them.
use Rattle.std.proofs.Common.{◌∙◌, List, Option, ap, map, subst, sym}
use Rattle.vr_types.specs.Space.{least_free}
use Rattle.vr_types.specs.declared.unit.PartNo.{PartNo}
use Rattle.vr_space.specs.Part.{owned_count}
use Rattle.vr_store.specs.Store.{IsSet, StoreNow, changed_by, part_now}
use Rattle.vr_store.proofs.GivenBack.{back-same, given-back, none-before, owned-back, set-back}
use Rattle.vr_store.proofs.store.Store.give_back.Goals as goal

pub returns-clause-unowned : goal.returns-clause-unowned
returns-clause-unowned g c = ap (owned_count c.args.part) c.release.ensures
    ∙ owned-back c.args.part c.self.inside.space

pub returns-clause-set : goal.returns-clause-set
returns-clause-set g c set =
    let inside = c.self.inside in
    let now = g.B.Blocks.seen c.args.blocks.now in
    let before : StoreNow = record {
      log = inside.log;
      undo = inside.undo;
      parts = map (part_now g.P.Part.shape g.P.Part.known) inside.parts.items;
      changed = map changed_by inside.changed.items;
      space = inside.space;
    } in
    subst (λ (space : List (Option PartNo)). IsSet (record before { space = space }) now)
    (sym c.release.ensures)
    (subst (λ (s : StoreNow). IsSet (given-back s c.args.part) now) (sym c.self.view_is)
    (set-back c.args.self.now c.args.part c.requires.fresh now set))

pub returns-clause-same : goal.returns-clause-same
returns-clause-same g c none =
    let inside = c.self.inside in
    let before : StoreNow = record {
      log = inside.log;
      undo = inside.undo;
      parts = map (part_now g.P.Part.shape g.P.Part.known) inside.parts.items;
      changed = map changed_by inside.changed.items;
      space = inside.space;
    } in
    ap (λ (space : List (Option PartNo)). let s : StoreNow = record before { space = space } in s)
    c.release.ensures
    ∙ ap (λ (s : StoreNow). given-back s c.args.part) c.self.view_is
    ∙ back-same c.args.self.now c.args.part none

pub returns-clause-none_free : goal.returns-clause-none_free
returns-clause-none_free g c none = ap (λ (s : StoreNow). least_free s.space) (sym c.self.view_is)
    ∙ none-before c.args.part c.self.inside.space
    (ap least_free (sym c.release.ensures) ∙ none)
