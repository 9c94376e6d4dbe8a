use Rattle.std.proofs.Common.{◌∙◌, ℕ, List, length, take, sym, ap, subst, Option}
use Rattle.std.specs.List.{fold}
use Rattle.vr_types.specs.declared.unit.PartNo.{PartNo}
use Rattle.vr_catalog.specs.declared.entry.CatEntry.{CatEntry}
use Rattle.vr_mount.specs.Areas.{IsBelow, part_of}
use Rattle.vr_mount.specs.Marks.{marked}
use Rattle.vr_mount.specs.Numbers.{laid_area}
use Rattle.vr_mount.proofs.Marking.{marks_length, marks_more}
use Rattle.vr_mount.proofs.areas.mark_each.Goals as goal

pub mark_one-requires : goal.mark_one-requires
mark_one-requires c =
    let es = c.args.entries.now in
    let i = c.loop-entry.entry-index in
    let first = c.args.owners.now in
    subst (λ (n : ℕ). IsBelow n c.entry-item.result)
    (sym (ap (λ (owners : List (Option PartNo)). length owners) c.loop-entry.invariant
    ∙ marks_length laid_area part_of first (take i es)))
    (subst (IsBelow (length first)) (sym c.entry-item.is)
    (c.requires i c.entry-item.result c.loop-entry-test.true))

pub loop-entry-preserved : goal.loop-entry-preserved
loop-entry-preserved c =
    let es = c.args.entries.now in
    let i = c.loop-entry.entry-index in
    let first = c.args.owners.now in
    c.mark_one.ensures
    ∙ ap (λ (owners : List (Option PartNo)). marked laid_area part_of owners c.entry-item.result)
    c.loop-entry.invariant
    ∙ ap (λ (entry : CatEntry). marked laid_area part_of
    (fold (marked laid_area part_of) first (take i es)) entry) c.entry-item.is
    ∙ sym (marks_more laid_area part_of first es i c.entry-item.result c.loop-entry-test.true)
