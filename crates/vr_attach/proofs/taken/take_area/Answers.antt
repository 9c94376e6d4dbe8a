use Rattle.std.proofs.Common.{◌+◌, ℕ, ap, ◌∙◌}
use Rattle.vr_types.specs.Space.{free_count}
use Rattle.vr_attach.proofs.Taking.{free-fewer, was-free, was-owned}
use Rattle.vr_attach.proofs.taken.take_area.Goals as goal

pub returns-clause-free : goal.returns-clause-free
returns-clause-free c =
    was-free c.args.taken.now c.args.area c.args.part c.free.result c.free-before.result
    c.requires (c.free.ensures ∙ ap free_count c.mark.ensures) c.free-before.ensures

pub returns-clause-fewer : goal.returns-clause-fewer
returns-clause-fewer c less =
    ap (λ (n : ℕ). n + 1) (ap free_count c.mark.ensures)
    ∙ free-fewer c.args.taken.now c.args.area c.args.part c.requires (returns-clause-free c less)

pub returns-clause-owned : goal.returns-clause-owned
returns-clause-owned c =
    was-owned c.args.taken.now c.args.area c.args.part c.free.result c.free-before.result
    c.requires (c.free.ensures ∙ ap free_count c.mark.ensures) c.free-before.ensures
