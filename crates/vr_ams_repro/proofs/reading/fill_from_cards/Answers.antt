use Rattle.std.proofs.Common.{◌∙◌, [], ◌∷◌, List, subst}
use Rattle.vr_trace.specs.Visitors.{Visited}
use Rattle.vr_ams_define.proofs.GrownLemmas.{run-nothing}
use Rattle.vr_ams_print.proofs.Sources.{within}
use Rattle.vr_ams_repro.specs.Pieces.{AreFedAt, of_cards}
use Rattle.vr_ams_repro.specs.declared.progress.Progress.{Progress}
use Rattle.vr_ams_repro.proofs.Filling.{cards-are, on-ok}
use Rattle.vr_ams_repro.proofs.reading.fill_from_cards.Goals as goal

pub returns-in_err-last-clause-ran : goal.returns-in_err-last-clause-ran
returns-in_err-last-clause-ran g c = run-nothing g.V.OwnedVolume.history g.V.OwnedVolume.goes
    g.V.OwnedVolume.goes_nowhere (c.args.load.now.line ∷ []) c.args.volumes.now

pub returns-in_err-choose_cards-clause-ran : goal.returns-in_err-choose_cards-clause-ran
returns-in_err-choose_cards-clause-ran g c = run-nothing g.V.OwnedVolume.history
    g.V.OwnedVolume.goes g.V.OwnedVolume.goes_nowhere (c.args.load.now.line ∷ [])
    c.args.volumes.now

pub feed_target-requires-clause-within : goal.feed_target-requires-clause-within
feed_target-requires-clause-within g c = within g.V.ShownVolume.shown c.args.volumes.now
    c.args.load.now.target c.requires.target

pub returns-clause-filled : goal.returns-clause-filled
returns-clause-filled g c = on-ok c.feed_target.result (λ fed. subst (λ (from : Progress).
    AreFedAt g.V.OwnedVolume.answers g.V.FilledVolume.replies c.args.load.now
    (of_cards c.args.command.now.from c.args.command.now.to c.args.cards.now) from
    c.args.volumes.now c.feed_target.new.progress c.feed_target.new.volumes) c.requires.begun
    (subst (λ (records : List Visited). AreFedAt g.V.OwnedVolume.answers
    g.V.FilledVolume.replies c.args.load.now records c.args.progress.now c.args.volumes.now
    c.feed_target.new.progress c.feed_target.new.volumes)
    (c.as_slice.ensures ∙ cards-are c.args.alloc c.args.command.now.from c.args.command.now.to
    c.args.cards.now c.skipped.result c.most_of.result c.in_ok-last.last c.new-piece.result
    c.choose_cards.new.piece c.skipped.ensures c.most_of.ensures c.in_ok-last.ensures
    c.new-piece.ensures c.in_ok-choose_cards.ensures) fed)) c.feed_target.ensures.fed
