use Rattle.std.proofs.Common.{length}
use Rattle.vr_model_reply.proofs.refused_file.+changes_catalog.Given as goal

abbrev pub decreases-changes_catalog : goal.decreases-changes_catalog
decreases-changes_catalog l = length l.logged.now
