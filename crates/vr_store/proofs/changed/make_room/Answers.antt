use Rattle.std.proofs.Common.{◌≡◌, ◌<◌, ◌∷◌, ◌++◌, List, [], map, ap, subst, sym, refl}
use Rattle.std.proofs.Common.{Result, Ok, Err, set}
use Rattle.std.specs.Prelude.{All, OnErr, OnOk}
use Rattle.vr_store.specs.Store.{ChangedBy, blocks_of, changed_by}
use Rattle.vr_store.specs.declared.changed.UnitBlocks.{UnitBlocks}
use Rattle.vr_store.proofs.Listed.{blocks-added, each-added, same-after}
use Rattle.vr_store.proofs.changed.make_room.Goals as goal

same : (c : goal.After-changed-1) → map changed_by (set c.args.changed.now.items c.in-Some.at
    (record { unit = c.index_mut.result.now.unit; blocks = c.more_room.new.blocks }))
    ≡ map changed_by c.args.changed.now.items
same c = same-after c.args.unit c.args.changed.now.items c.deref.result.now c.place_of.result
    c.deref.ensures.value c.place_of.ensures c.in-Some.at c.index_mut.result.now c.in-Some.is
    c.index_mut.ensures.value
    (record { unit = c.index_mut.result.now.unit; blocks = c.more_room.new.blocks }) refl
    c.more_room.ensures

pub returns-in-Some-clause-blocks : goal.returns-in-Some-clause-blocks
returns-in-Some-clause-blocks c other = ap (blocks_of other) (same c)

pub returns-in-Some-clause-each : goal.returns-in-Some-clause-each
returns-in-Some-clause-each c count all =
    subst (All (λ (by : ChangedBy). All (λ n. n < count) by.blocks)) (sym (same c)) all

pub returns-in-None-clause-blocks : goal.returns-in-None-clause-blocks
returns-in-None-clause-blocks c other =
    either c.add_unit.result c.add_unit.ensures.added c.add_unit.ensures.err
  where
    either : {T E : Type 0} (result : Result T E)
        → OnOk result (map changed_by c.add_unit.new.changed.items
        ≡ map changed_by c.args.changed.now.items ++ record { unit = c.args.unit; blocks = [] } ∷ [])
        → OnErr result (c.add_unit.new.changed.items ≡ c.args.changed.now.items)
        → blocks_of other (map changed_by c.add_unit.new.changed.items)
        ≡ blocks_of other (map changed_by c.args.changed.now.items)
    either (Ok value) added err = subst (λ (l : List ChangedBy). blocks_of other l
        ≡ blocks_of other (map changed_by c.args.changed.now.items)) (sym added)
        (blocks-added c.args.unit other (map changed_by c.args.changed.now.items))
    either (Err fault) added err =
        ap (λ (l : List UnitBlocks). blocks_of other (map changed_by l)) err

pub returns-in-None-clause-each : goal.returns-in-None-clause-each
returns-in-None-clause-each c count all =
    either c.add_unit.result c.add_unit.ensures.added c.add_unit.ensures.err
  where
    either : {T E : Type 0} (result : Result T E)
        → OnOk result (map changed_by c.add_unit.new.changed.items
        ≡ map changed_by c.args.changed.now.items ++ record { unit = c.args.unit; blocks = [] } ∷ [])
        → OnErr result (c.add_unit.new.changed.items ≡ c.args.changed.now.items)
        → All (λ (by : ChangedBy). All (λ n. n < count) by.blocks)
        (map changed_by c.add_unit.new.changed.items)
    either (Ok value) added err =
        subst (All (λ (by : ChangedBy). All (λ n. n < count) by.blocks)) (sym added)
        (each-added c.args.unit count (map changed_by c.args.changed.now.items) all)
    either (Err fault) added err =
        subst (λ (l : List UnitBlocks). All (λ (by : ChangedBy). All (λ n. n < count) by.blocks)
        (map changed_by l)) (sym err) all
