use Rattle.vr_ams_repro.proofs.Chosen.{look-read}
use Rattle.vr_ams_repro.proofs.putting.look_at.Goals as goal

pub returns-clause-looked : goal.returns-clause-looked
returns-clause-looked g c =
    let read = c.in_ok-answer.ensures.read in record {
      records = read.records;
      answer = c.in_ok-answer.answer;
      answered = read.answered;
      look_is = look-read c.args.alloc c.args.place.now read.records c.in_ok-answer.answer
          c.new-piece.result c.read.new.visitor c.look.result c.new-piece.ensures read.visited
          c.look.ensures;
    }
