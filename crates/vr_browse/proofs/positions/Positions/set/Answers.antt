use Rattle.std.proofs.Common.{◌≡◌, true, List, sym, ap, subst, arith}
use Rattle.std.specs.Result.{is_ok}
use Rattle.vr_browse.specs.declared.positions.FilePosition.{FilePosition}
use Rattle.vr_browse.specs.Positions.{AreInOrder, IsAt, IsGapFor, KeptPositions}
use Rattle.vr_browse.proofs.PositionLemmas.{found_at, absent_in_gap, sets_only_there, ordered_set}
use Rattle.vr_browse.proofs.PositionLemmas.{sets_only_insert, ordered_insert}
use Rattle.vr_browse.proofs.positions.Positions.set.Goals as goal

-- the file was set before, and its position is written over
pub invariant_of-self : goal.invariant_of-self
invariant_of-self c =
    let P : List FilePosition → Type 0 = λ l. IsAt l c.args.deck c.args.slot c.in-Ok.at in
    ordered_set _ c.self.invariant _ _ _
    (subst P (sym (ap (λ (kept : KeptPositions). kept.files) c.self.view_is)) c.in-Ok.ensures)
    c.args.to

pub invariant_of-self-in-Ok-2 : goal.invariant_of-self-in-Ok-2
invariant_of-self-in-Ok-2 c =
    let P : List FilePosition → Type 0 = λ l. IsAt l c.args.deck c.args.slot c.in-Ok.at in
    ordered_set _ c.self.invariant _ _ _
    (subst P (sym (ap (λ (kept : KeptPositions). kept.files) c.self.view_is)) c.in-Ok.ensures)
    c.args.to

pub returns-in-Ok-clause-set : goal.returns-in-Ok-clause-set
returns-in-Ok-clause-set c =
    let files_are = ap (λ (kept : KeptPositions). kept.files) c.self.view_is in
    let sets = sets_only_there _
    (subst AreInOrder files_are c.self.invariant) _ _ _ c.in-Ok.ensures c.args.to in
    grind (arith, c.match-index_mut-file-2.branch)

pub returns-in-Ok-clause-first : goal.returns-in-Ok-clause-first
returns-in-Ok-clause-first c absent =
    let files_are = ap (λ (kept : KeptPositions). kept.files) c.self.view_is in
    let found = found_at _ (subst AreInOrder files_are c.self.invariant) _ _ _ c.in-Ok.ensures in
    cc

-- it was not, and goes into the gap
pub unreachable-requires : goal.unreachable-requires
unreachable-requires c =
    let absent = absent_in_gap _ _ _ _ c.in-Err.ensures in
    grind (arith, c.insert.ensures.succeeds, c.self.view_is)

pub invariant_of-self-else-is_err : goal.invariant_of-self-else-is_err
invariant_of-self-else-is_err c =
    let P : List FilePosition → Type 0 = λ l. IsGapFor l c.args.deck c.args.slot c.in-Err.at in
    let ordered = ordered_insert _ _ _ _
    (subst P (sym (ap (λ (kept : KeptPositions). kept.files) c.self.view_is)) c.in-Err.ensures)
    c.args.to c.self.invariant in
    let is_ok : is_ok c.insert.result ≡ true = grind arith in
    rw (c.insert.ensures.items, is_ok) ordered

pub returns-else-is_err-clause-set : goal.returns-else-is_err-clause-set
returns-else-is_err-clause-set c =
    let is_ok : is_ok c.insert.result ≡ true = grind arith in
    rw (c.insert.ensures.items, is_ok, ap (λ (kept : KeptPositions). kept.files) c.self.view_is)
    (sets_only_insert _ _ _ _ c.in-Err.ensures c.args.to)

pub returns-else-is_err-clause-again : goal.returns-else-is_err-clause-again
returns-else-is_err-clause-again c found = grind (arith, absent_in_gap _ _ _ _ c.in-Err.ensures)
