use Rattle.std.proofs.Common.{ℕ, List, subst, sym, refl}
use Rattle.std.specs.List.{Contains}
use Rattle.vr_store.specs.declared.changed.UnitBlocks.{UnitBlocks}
use Rattle.vr_store.proofs.Listed.{each-after, others-after, unit-after, unit-each, unit-listed}
use Rattle.vr_store.proofs.changed.note.Goals as goal

abbrev after : goal.After-changed-1 → UnitBlocks
after c = record { unit = c.index_mut.result.now.unit; blocks = c.add_blocks.new.blocks }

pub returns-in-Some-clause-had : goal.returns-in-Some-clause-had
returns-in-Some-clause-had c n has =
    subst (λ (l : List ℕ). Contains l n)
    (sym (unit-after c.args.unit c.args.changed.now.items c.deref.result.now c.place_of.result
    c.deref.ensures.value c.place_of.ensures c.in-Some.at c.index_mut.result.now c.in-Some.is
    c.index_mut.ensures.value (after c) refl))
    (c.add_blocks.ensures.had n (subst (λ (l : List ℕ). Contains l n)
    (unit-listed c.args.unit c.args.changed.now.items c.deref.result.now c.place_of.result
    c.deref.ensures.value c.place_of.ensures c.in-Some.at c.index_mut.result.now c.in-Some.is
    c.index_mut.ensures.value) has))

pub returns-in-Some-clause-put : goal.returns-in-Some-clause-put
returns-in-Some-clause-put c done n has =
    subst (λ (l : List ℕ). Contains l n)
    (sym (unit-after c.args.unit c.args.changed.now.items c.deref.result.now c.place_of.result
    c.deref.ensures.value c.place_of.ensures c.in-Some.at c.index_mut.result.now c.in-Some.is
    c.index_mut.ensures.value (after c) refl))
    (c.add_blocks.ensures.put done n has)

pub returns-in-Some-clause-others : goal.returns-in-Some-clause-others
returns-in-Some-clause-others c =
    others-after c.args.unit c.args.changed.now.items c.deref.result.now c.place_of.result
    c.deref.ensures.value c.place_of.ensures c.in-Some.at c.index_mut.result.now c.in-Some.is
    c.index_mut.ensures.value (after c) refl

pub returns-in-Some-clause-each : goal.returns-in-Some-clause-each
returns-in-Some-clause-each c count put all =
    each-after c.args.unit c.args.changed.now.items c.deref.result.now c.place_of.result
    c.deref.ensures.value c.place_of.ensures c.in-Some.at c.index_mut.result.now c.in-Some.is
    c.index_mut.ensures.value (after c) refl count
    (c.add_blocks.ensures.each count put
    (unit-each c.args.unit c.args.changed.now.items c.deref.result.now c.place_of.result
    c.deref.ensures.value c.place_of.ensures c.in-Some.at c.index_mut.result.now c.in-Some.is
    c.index_mut.ensures.value count all)) all
