use Rattle.std.proofs.Common.{◌≡◌, ◌<◌, ◌∙◌, ℕ, List, [], sym, subst, refl, Result, Ok, Err}
use Rattle.std.specs.Prelude.{All, OnErr, OnOk}
use Rattle.std.proofs.lemmas.List.Elements.{All-nil}
use Rattle.std.proofs.lemmas.Result.{on_err_weaker, on_ok_weaker}
use Rattle.vr_types.proofs.CallerLemmas.{keeps-none}
use Rattle.vr_space.specs.Part.{IsDueTo}
use Rattle.vr_store.specs.declared.changed.UnitBlocks.{UnitBlocks}
use Rattle.vr_store.proofs.Listed.{each-after, none-listed, others-after, same-after, unit-after}
use Rattle.vr_store.proofs.Listed.{unit-each, unit-listed}
use Rattle.vr_store.proofs.unit_end.force_listed.Goals as goal

pub force_changed-requires : goal.force_changed-requires
force_changed-requires g c = unit-each c.args.unit c.args.changed.now.items c.deref.result.now
    c.place_of.result c.deref.ensures.value c.place_of.ensures c.in-Some.at c.index_mut.result.now
    c.in-Some.is c.index_mut.ensures.value (g.B.Blocks.seen c.args.blocks.now).count c.requires

pub returns-in-Some-clause-due : goal.returns-in-Some-clause-due
returns-in-Some-clause-due g c told shape owners place sound due =
    let a = g.B.Blocks.seen c.args.blocks.now in
    let b = g.B.Blocks.seen c.force_changed.new.blocks in
    let after : UnitBlocks =
    record { unit = c.index_mut.result.now.unit; blocks = c.force_changed.new.changed } in
    subst (λ (listed : List ℕ). IsDueTo shape listed b place)
    (sym (unit-after c.args.unit c.args.changed.now.items c.deref.result.now
    c.place_of.result c.deref.ensures.value c.place_of.ensures c.in-Some.at c.index_mut.result.now
    c.in-Some.is c.index_mut.ensures.value after refl))
    (c.force_changed.ensures.due told shape owners place sound
    (subst (λ (listed : List ℕ). IsDueTo shape listed a place)
    (unit-listed c.args.unit c.args.changed.now.items c.deref.result.now
    c.place_of.result c.deref.ensures.value c.place_of.ensures c.in-Some.at c.index_mut.result.now
    c.in-Some.is c.index_mut.ensures.value) due))

pub returns-in-Some-clause-taken : goal.returns-in-Some-clause-taken
returns-in-Some-clause-taken g c =
    let after : UnitBlocks =
    record { unit = c.index_mut.result.now.unit; blocks = c.force_changed.new.changed } in
    on_ok_weaker c.force_changed.result
    (λ is. unit-after c.args.unit c.args.changed.now.items c.deref.result.now
    c.place_of.result c.deref.ensures.value c.place_of.ensures c.in-Some.at c.index_mut.result.now
    c.in-Some.is c.index_mut.ensures.value after refl ∙ is)
    c.force_changed.ensures.taken

pub returns-in-Some-clause-others : goal.returns-in-Some-clause-others
returns-in-Some-clause-others g c =
    others-after c.args.unit c.args.changed.now.items c.deref.result.now
    c.place_of.result c.deref.ensures.value c.place_of.ensures c.in-Some.at c.index_mut.result.now
    c.in-Some.is c.index_mut.ensures.value
    (record { unit = c.index_mut.result.now.unit; blocks = c.force_changed.new.changed }) refl

pub returns-in-Some-clause-each : goal.returns-in-Some-clause-each
returns-in-Some-clause-each g c =
    let count = (g.B.Blocks.seen c.args.blocks.now).count in
    let mine = unit-each c.args.unit c.args.changed.now.items c.deref.result.now
    c.place_of.result c.deref.ensures.value c.place_of.ensures c.in-Some.at c.index_mut.result.now
    c.in-Some.is c.index_mut.ensures.value count c.requires in
    each-after c.args.unit c.args.changed.now.items c.deref.result.now
    c.place_of.result c.deref.ensures.value c.place_of.ensures c.in-Some.at c.index_mut.result.now
    c.in-Some.is c.index_mut.ensures.value
    (record { unit = c.index_mut.result.now.unit; blocks = c.force_changed.new.changed }) refl
    count
    (still count c.index_mut.result.now.blocks.items c.force_changed.new.changed.items
    c.force_changed.result c.force_changed.ensures.taken c.force_changed.ensures.kept mine)
    c.requires
  where
    still : (count : ℕ) (old new : List ℕ) {T E : Type 0} (result : Result T E)
        → OnOk result (new ≡ []) → OnErr result (new ≡ old)
        → All (λ n. n < count) old → All (λ n. n < count) new
    still count old new (Ok value) taken kept all =
        subst (All (λ n. n < count)) (sym taken) (All-nil (λ n. n < count))
    still count old new (Err fault) taken kept all =
        subst (All (λ n. n < count)) (sym kept) all

pub returns-in-Some-clause-same : goal.returns-in-Some-clause-same
returns-in-Some-clause-same g c =
    on_err_weaker c.force_changed.result
    (same-after c.args.unit c.args.changed.now.items c.deref.result.now
    c.place_of.result c.deref.ensures.value c.place_of.ensures c.in-Some.at c.index_mut.result.now
    c.in-Some.is c.index_mut.ensures.value
    (record { unit = c.index_mut.result.now.unit; blocks = c.force_changed.new.changed }) refl)
    c.force_changed.ensures.kept

pub returns-in-None-clause-taken : goal.returns-in-None-clause-taken
returns-in-None-clause-taken g c = none-listed c.args.unit c.args.changed.now.items
    c.deref.result.now c.place_of.result c.deref.ensures.value c.place_of.ensures c.in-None.is

pub returns-in-None-clause-keeps : goal.returns-in-None-clause-keeps
returns-in-None-clause-keeps g c =
    keeps-none g.B.Blocks.tells (g.B.Blocks.seen c.args.blocks.now)
    (λ told image is. g.met.B.Blocks.images_may c.args.blocks.now image told is)
