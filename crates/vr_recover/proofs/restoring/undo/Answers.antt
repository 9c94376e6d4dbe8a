use Rattle.std.proofs.Common.{◌≡◌, ◌∙◌, ◌++◌, List, arith, drop, length, map, rules, subst, sym}
use Rattle.std.proofs.Common.{take}
use Rattle.std.specs.Prelude.{All}
use Rattle.std.proofs.lemmas.List.{take-append-le, take_all}
use Rattle.vr_part.specs.Any.{shape_any}
use Rattle.vr_part.specs.declared.any.AnyPart.{AnyPart}
use Rattle.vr_undo.specs.Records.{images_in}
use Rattle.vr_recover.specs.Found.{IsPartReady}
use Rattle.vr_recover.specs.Undone.{IsSettled}
use Rattle.vr_recover.proofs.restoring.undo.Goals as goal

pub returns-in_err-undo_units-clause-any_moment :
    goal.returns-in_err-undo_units-clause-any_moment
returns-in_err-undo_units-clause-any_moment g c told number owners contents settled =
    c.undo_units.ensures.any_moment told number owners contents
    (subst (λ (parts : List AnyPart). IsSettled number owners c.args.begun.now.log contents
    (map shape_any parts) (g.B.Blocks.seen c.args.blocks.now))
    (sym c.as_mut_slice.ensures.value) settled)

pub returns-clause-any_moment : goal.returns-clause-any_moment
returns-clause-any_moment g c told number owners contents settled =
    c.undo_units.ensures.any_moment told number owners contents
    (subst (λ (parts : List AnyPart). IsSettled number owners c.args.begun.now.log contents
    (map shape_any parts) (g.B.Blocks.seen c.args.blocks.now))
    (sym c.as_mut_slice.ensures.value) settled)

pub returns-clause-undone : goal.returns-clause-undone
returns-clause-undone g c told number owners contents settled =
    c.in_ok-undo_units.ensures.undone told number owners contents
    (subst (λ (parts : List AnyPart). IsSettled number owners c.args.begun.now.log contents
    (map shape_any parts) (g.B.Blocks.seen c.args.blocks.now))
    (sym c.as_mut_slice.ensures.value) settled)

pub returns-clause-ready : goal.returns-clause-ready
returns-clause-ready g c told owners past all =
    let before : All (IsPartReady owners (images_in c.args.undo.now)
    (g.B.Blocks.seen c.args.blocks.now)) c.as_mut_slice.result.now =
    subst (All (IsPartReady owners (images_in c.args.undo.now)
    (g.B.Blocks.seen c.args.blocks.now))) (sym c.as_mut_slice.ensures.value) all in
    let new : List AnyPart = c.undo_units.new.parts in
    let len = c.args.parts.now.len in
    let rest : List AnyPart = drop (length new) c.args.parts.now.items in
    let long : length new ≡ len = search rules in
    let same : new ≡ take len (new ++ rest) =
    sym (take-append-le len new rest (omega (arith, long)) ∙ take_all len new (omega (arith, long)))
    in
    subst (All (IsPartReady owners (images_in c.args.undo.now)
    (g.B.Blocks.seen c.undo_units.new.blocks))) same
    (c.in_ok-undo_units.ensures.ready told owners past before)
