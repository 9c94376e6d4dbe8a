use Rattle.std.proofs.Common.{◌∙◌, ◌<◌, [], ◌∷◌, ℕ, List, Option, map, subst, sym}
use Rattle.vr_trace.specs.Shown.{Shown}
use Rattle.vr_ams_define.proofs.GrownLemmas.{run-again, run-nothing}
use Rattle.vr_ams_print.specs.Steps.{IsAskedAt, IsThere, last_key as key_of_tokey}
use Rattle.vr_ams_define.specs.Answers.Exchange.{Reading}
use Rattle.vr_ams_print.proofs.Sources.{within}
use Rattle.vr_trace.specs.Visitors.{Visited}
use Rattle.vr_ams_repro.specs.Pieces.{IsPiecePut}
use Rattle.vr_ams_repro.proofs.Filling.{done-still, on-both, on-ok, piece-is, piece-still}
use Rattle.vr_ams_repro.proofs.reading.next_piece.Goals as goal

pub returns-in_err-last_key-clause-ran : goal.returns-in_err-last_key-clause-ran
returns-in_err-last_key-clause-ran g c = run-nothing g.V.OwnedVolume.history
    g.V.OwnedVolume.goes g.V.OwnedVolume.goes_nowhere (c.args.load.now.line ∷ [])
    c.args.volumes.now

pub read_source-requires-clause-within : goal.read_source-requires-clause-within
read_source-requires-clause-within g c = within g.V.ShownVolume.shown c.args.volumes.now
    c.args.source.now c.requires.source

pub put_piece-requires-clause-there : goal.put_piece-requires-clause-there
put_piece-requires-clause-there g c done = subst (λ (them : List Shown).
    IsThere them c.args.load.now.target) (sym (done-still c.read_source.result
    c.in_ok-answer.answer _ _ c.in_ok-answer.was done c.read_source.ensures.shown))
    c.requires.target

pub put_piece-requires-clause-within : goal.put_piece-requires-clause-within
put_piece-requires-clause-within g c = subst (λ (count : ℕ).
    c.args.load.now.target.place < count) (sym c.read_source.ensures.grew.count)
    (within g.V.ShownVolume.shown c.args.volumes.now c.args.load.now.target c.requires.target)

pub returns-clause-put : goal.returns-clause-put
returns-clause-put g c =
    let read = c.in_ok-answer.ensures.read in
    on-ok c.put_piece.result (λ put. record {
      records = read.records;
      answer = c.in_ok-answer.answer;
      between = c.read_source.new.volumes;
      asked = subst (λ (from : Option (List ℕ)). IsAskedAt g.V.OwnedVolume.answers
          c.args.load.now.line c.args.source.now (Reading c.args.source.now.entry from
          read.records c.in_ok-answer.answer) c.args.volumes.now c.read_source.new.volumes)
          c.as_ref-from.ensures.value read.asked;
      put = subst (λ (piece : List Visited). IsPiecePut g.V.OwnedVolume.answers
          g.V.FilledVolume.replies c.args.load.now c.in_ok-answer.answer piece c.args.cursor.now
          c.args.progress.now c.read_source.new.volumes c.put_piece.new.cursor
          c.put_piece.new.progress c.put_piece.new.volumes)
          (piece-is c.args.alloc (key_of_tokey c.args.to.now) c.args.cursor.now
          c.min-size.result read.records c.as_slice-records.result.now c.new-piece.result
          c.read_source.new.visitor c.in_ok-last_key.field-0 c.new-piece.ensures
          c.in_ok-last_key.ensures c.min-size.ensures read.visited c.as_slice-records.ensures)
          put;
    }) c.put_piece.ensures.put

pub returns-clause-ran : goal.returns-clause-ran
returns-clause-ran g c = run-again g.V.OwnedVolume.history g.V.OwnedVolume.goes
    g.V.OwnedVolume.goes_further (c.args.load.now.line ∷ []) c.args.volumes.now
    c.read_source.new.volumes c.put_piece.new.volumes c.read_source.ensures.grew
    c.put_piece.ensures.ran

pub returns-clause-geometry : goal.returns-clause-geometry
returns-clause-geometry g c = c.put_piece.ensures.geometry ∙ c.read_source.ensures.geometry

pub returns-clause-still : goal.returns-clause-still
returns-clause-still g c = on-both c.put_piece.result (λ put still. piece-still
    g.V.OwnedVolume.answers g.V.FilledVolume.replies c.args.load.now c.in_ok-answer.answer
    c.as_slice-records.result.now c.args.cursor.now c.put_piece.new.cursor c.args.progress.now
    c.put_piece.new.progress c.read_source.new.volumes c.put_piece.new.volumes _ _ _
    c.read_source.result c.in_ok-answer.was c.read_source.ensures.shown put still)
    c.put_piece.ensures.put c.put_piece.ensures.still
