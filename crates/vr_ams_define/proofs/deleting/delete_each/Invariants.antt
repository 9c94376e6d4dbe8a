use Rattle.vr_ams_define.proofs.Deletions.{HasDeleted}
use Rattle.vr_ams_define.proofs.deleting.delete_each.Given as goal

-- the names so far
abbrev pub invariant-loop-name : goal.invariant-loop-name
invariant-loop-name g l = HasDeleted g.V.ShownVolume.shown g.V.OwnedVolume.geometry
    g.V.OwnedVolume.answers g.V.OwnedVolume.history g.V.OwnedVolume.goes l.fn.line l.fn.kind
    l.names l.name-index l.fn.volumes l.volumes l.deletions.lines l.deletions.failures.items
