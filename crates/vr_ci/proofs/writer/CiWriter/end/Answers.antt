use Rattle.std.proofs.Common.{◌-◌, ◌∙◌, ℕ, List, ap, length, arith}
use Rattle.vr_ci_match.specs.Laid.{cidf}
use Rattle.vr_types.specs.Fields.{with_bytes}
use Rattle.vr_ci_match.proofs.CallerLemmas.{zeros, length-zeros}
use Rattle.vr_types.proofs.CallerLemmas.{length-with_bytes}
use Rattle.vr_ci.proofs.WriterLemmas.{ended}
use Rattle.vr_ci.proofs.writer.CiWriter.end.Goals as goal

pub returns-clause-interval : goal.returns-clause-interval
returns-clause-interval c = λ items h.
    let w = c.args.self in
    let block : List ℕ = w.out.now in
    let k : ℕ = w.back - w.front in
    ended w items c.args.busy c.put_cidf.new.out h c.requires w.room
    (omega (arith, w.room, w.control))
    (c.put_cidf.ensures ∙ ap (λ (z : List ℕ). with_bytes z (length z - 4)
    (cidf w.front k c.args.busy)) c.put_zeros.ensures
    ∙ ap (λ (i : ℕ). with_bytes (with_bytes block w.front (zeros k)) (i - 4)
    (cidf w.front k c.args.busy))
    (length-with_bytes block w.front (zeros k)
    (omega (arith, length-zeros k, w.room, w.control, w.back_in))))
