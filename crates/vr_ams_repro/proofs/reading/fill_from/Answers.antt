use Rattle.std.proofs.Common.{◌∙◌, [], ◌∷◌, ap, subst}
use Rattle.vr_ams_define.proofs.GrownLemmas.{run-nothing}
use Rattle.vr_ams_print.specs.Steps.{last_key}
use Rattle.vr_ams_repro.specs.Pieces.{ArePieces, first_cursor}
use Rattle.vr_ams_repro.specs.declared.cursor.Cursor.{Cursor}
use Rattle.vr_ams_repro.specs.declared.progress.Progress.{Progress}
use Rattle.vr_ams_repro.proofs.Filling.{on-both}
use Rattle.vr_ams_repro.proofs.reading.fill_from.Goals as goal

pub returns-in_err-cursor-clause-ran : goal.returns-in_err-cursor-clause-ran
returns-in_err-cursor-clause-ran g c = run-nothing g.V.OwnedVolume.history g.V.OwnedVolume.goes
    g.V.OwnedVolume.goes_nowhere (c.args.load.now.line ∷ []) c.args.volumes.now

pub read_through-requires-clause-going : goal.read_through-requires-clause-going
read_through-requires-clause-going g c = ap (λ (it : Progress). it.fault) c.requires.begun

pub returns-clause-filled : goal.returns-clause-filled
returns-clause-filled g c = on-both c.read_through.result (λ put over. record {
  cursor = c.read_through.new.cursor;
  pieces = subst (λ (from : Progress). ArePieces g.V.OwnedVolume.answers
      g.V.FilledVolume.replies c.args.load.now c.args.source.now
      (last_key c.args.command.now.to)
      (first_cursor c.args.command.now.from c.args.command.now.to) from c.args.volumes.now c.read_through.new.cursor
      c.read_through.new.progress c.read_through.new.volumes) c.requires.begun
      (subst (λ (cursor : Cursor). ArePieces g.V.OwnedVolume.answers g.V.FilledVolume.replies
      c.args.load.now c.args.source.now (last_key c.args.command.now.to) cursor
      c.args.progress.now c.args.volumes.now c.read_through.new.cursor
      c.read_through.new.progress c.read_through.new.volumes) c.in_ok-cursor.ensures put);
  over = over;
}) c.read_through.ensures.put c.read_through.ensures.over
