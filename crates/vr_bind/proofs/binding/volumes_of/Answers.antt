use Rattle.std.proofs.Common.{sym, ◌∙◌, arith}
use Rattle.vr_bind.specs.Bound.{is_named}
use Rattle.vr_bind.proofs.Volumes.{passed_next, other_next}
use Rattle.vr_bind.proofs.binding.volumes_of.Goals as goal
use Rattle.vr_bind.proofs.binding.volumes_of.Goals.{then-is_named+in_ok-push, else-is_named}

pub loop-volume-preserved : goal.loop-volume-preserved
loop-volume-preserved c =
    elim c.if-is_named.branch [
      | then-is_named+in_ok-push w ↦ grind (
        arith,
        passed_next (is_named c.args.files.now)
            c.loop-volume.volumes.items _ c.loop-volume.volume _ c.loop-volume-test.true
            (sym c.is_named.ensures ∙ w.if-is_named.true) c.loop-volume.invariant,
      )
      | else-is_named w ↦ grind (
        arith,
        other_next (is_named c.args.files.now)
            c.loop-volume.volumes.items _ c.loop-volume.volume _ c.loop-volume-test.true
            (sym c.is_named.ensures ∙ w.if-is_named.false) c.loop-volume.invariant,
      )
    ]
