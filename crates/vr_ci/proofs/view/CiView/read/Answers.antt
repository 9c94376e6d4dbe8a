use Rattle.std.proofs.Common.{inr, sym, subst, rules, length}
use Rattle.std.proofs.lemmas.Result.{err_from_is_err_and}
use Rattle.vr_types.specs.BlockSize.{IsBlockSize}
use Rattle.vr_ci.specs.Interval.{Interval, IsInterval}
use Rattle.vr_ci.proofs.FaultLemmas.{fault_excludes}
use Rattle.vr_ci.proofs.ShownLemmas.{matched_found}
use Rattle.vr_ci.proofs.view.CiView.read.Goals as goal

pub returns-in_err-found-clause-only : goal.returns-in_err-found-clause-only
returns-in_err-found-clause-only c =
    let size : IsBlockSize (length c.args.bytes.now) = search rules in
    let fault = err_from_is_err_and c.from_residual.result c.from_residual.ensures.1 in
    rw fault.1 (λ value. fault_excludes c.args.form c.args.bytes.now _ value
    (inr (size, c.in_err-found.ensures.fault)))

pub of-requires-2 : goal.of-requires-2
of-requires-2 c =
    let size : IsBlockSize (length c.args.bytes.now) = search rules in
    (matched_found c.args.form c.args.bytes.now c.in_ok-found.found size
    c.in_ok-found.ensures.found).view

pub returns-clause-ok : goal.returns-clause-ok
returns-clause-ok c =
    let size : IsBlockSize (length c.args.bytes.now) = search rules in
    let found = matched_found c.args.form c.args.bytes.now c.in_ok-found.found size
    c.in_ok-found.ensures.found in
    subst (λ (value : Interval). IsInterval c.args.form c.args.bytes.now value) (sym c.of-2.ensures)
    found.interval
