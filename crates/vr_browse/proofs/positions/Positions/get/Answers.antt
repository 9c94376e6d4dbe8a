use Rattle.std.proofs.Common.{sym, ap, subst, arith}
use Rattle.std.proofs.lemmas.List.{get_or_default}
use Rattle.vr_browse.specs.Positions.{AreInOrder, KeptPositions, no_file}
use Rattle.vr_browse.proofs.PositionLemmas.{found_at, absent_in_gap}
use Rattle.vr_browse.proofs.positions.Positions.get.Goals as goal

-- the file is at its place, and the one there is what was read
pub returns-in-Ok : goal.returns-in-Ok
returns-in-Ok c =
    let files_are = ap (λ (kept : KeptPositions). kept.files) c.self.view_is in
    let found = found_at _ (subst AreInOrder files_are c.self.invariant) _ _ _ c.in-Ok.ensures in
    let read = get_or_default _ _ c.index.result.now no_file c.in-Ok.ensures.in_range in
    grind (arith, files_are)

-- the file is not there
pub returns-in-Err : goal.returns-in-Err
returns-in-Err c = sym (absent_in_gap _ _ _ _ c.in-Err.ensures)
