use Rattle.std.proofs.Common.{◌∙◌, ap, sym}
use Rattle.std.proofs.lemmas.List.Folds.{list_all_at}
use Rattle.vr_ams_define.specs.Altered.{is_sound}
use Rattle.vr_ams_define.proofs.gone.are_sound.Goals as goal

pub returns-then-not-branch : goal.returns-then-not-branch
returns-then-not-branch c =
    let sound = is_sound c.args.entries.now in
    sym (list_all_at sound c.args.gone.now c.loop-entry.entry-index c.entry-item.result
    c.loop-entry-test.true
    (ap sound (sym c.entry-item.is) ∙ sym c.in_ok-is_sound.ensures ∙ c.if-not-branch.true))
