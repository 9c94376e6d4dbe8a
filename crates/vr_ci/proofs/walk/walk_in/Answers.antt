use Rattle.std.proofs.Common.{◌≤◌, subst, ℕ}
use Rattle.vr_ci_match.specs.Fault.{cidf_at}
use Rattle.vr_ci.proofs.RecordsLemmas.{walk_starts}
use Rattle.vr_ci.proofs.walk.walk_in.Goals as goal

pub rdfs-init : goal.rdfs-init
rdfs-init c =
    walk_starts c.args.form c.args.bytes.now c.requires.size
    (subst (λ (low : ℕ). low ≤ cidf_at c.args.bytes.now) c.requires.low c.requires.fits)
