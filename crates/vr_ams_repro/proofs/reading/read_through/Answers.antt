use Rattle.std.proofs.Common.{◌∙◌, [], ◌∷◌, List, refl, subst, sym}
use Rattle.vr_trace.specs.Shown.{Shown}
use Rattle.vr_ams_define.proofs.GrownLemmas.{run-again, run-nothing}
use Rattle.vr_ams_print.specs.Steps.{IsThere}
use Rattle.vr_ams_repro.specs.Pieces.ArePieces.{NoPiece, OnePiece}
use Rattle.vr_ams_repro.proofs.Filling.{over-none}
use Rattle.vr_ams_repro.proofs.reading.read_through.Goals as goal

pub loop-turn-init : goal.loop-turn-init
loop-turn-init g c = record {
  put = NoPiece;
  still = λ none. refl;
  ran = run-nothing g.V.OwnedVolume.history g.V.OwnedVolume.goes g.V.OwnedVolume.goes_nowhere
      (c.args.load.now.line ∷ []) c.args.volumes.now;
  geometry = refl;
}

pub next_piece-requires-clause-source : goal.next_piece-requires-clause-source
next_piece-requires-clause-source g c = subst (λ (them : List Shown).
    IsThere them c.args.source.now) (sym (c.loop-turn.invariant.still
    (over-none c.loop-turn.cursor.over c.loop-turn.progress.fault
    (sym c.if-is_over.ensures)))) c.requires.source

pub next_piece-requires-clause-target : goal.next_piece-requires-clause-target
next_piece-requires-clause-target g c = subst (λ (them : List Shown).
    IsThere them c.args.load.now.target) (sym (c.loop-turn.invariant.still
    (over-none c.loop-turn.cursor.over c.loop-turn.progress.fault
    (sym c.if-is_over.ensures)))) c.requires.target

pub returns-in_err-next_piece-clause-ran : goal.returns-in_err-next_piece-clause-ran
returns-in_err-next_piece-clause-ran g c = run-again g.V.OwnedVolume.history
    g.V.OwnedVolume.goes g.V.OwnedVolume.goes_further (c.args.load.now.line ∷ [])
    c.args.volumes.now c.loop-turn.volumes c.next_piece.new.volumes c.loop-turn.invariant.ran
    c.next_piece.ensures.ran

pub loop-turn-preserved : goal.loop-turn-preserved
loop-turn-preserved g c =
    let was = c.loop-turn in
    let not-over = sym c.if-is_over.ensures in record {
      put = OnePiece was.cursor was.progress was.volumes c.next_piece.new.cursor
          c.next_piece.new.progress c.next_piece.new.volumes was.invariant.put not-over
          c.in_ok-next_piece.ensures.put;
      still = λ none. c.in_ok-next_piece.ensures.still none
          ∙ was.invariant.still (over-none was.cursor.over was.progress.fault not-over);
      ran = run-again g.V.OwnedVolume.history g.V.OwnedVolume.goes g.V.OwnedVolume.goes_further
          (c.args.load.now.line ∷ []) c.args.volumes.now was.volumes c.next_piece.new.volumes
          was.invariant.ran c.next_piece.ensures.ran;
      geometry = c.next_piece.ensures.geometry ∙ was.invariant.geometry;
    }
