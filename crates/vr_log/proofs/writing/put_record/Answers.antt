use Rattle.std.proofs.Common.{ℕ, List, [], ◌++◌, append-nil, subst, ◌∙◌, rules}
use Rattle.vr_types.proofs.CallerLemmas.{touches-then}
use Rattle.vr_log.specs.Writing.{IsWriting}
use Rattle.vr_log.proofs.writing.put_record.Goals as goal
use Rattle.vr_log.specs.Records.{record_bytes}

pub returns-in_err-write_record-clause-ending : goal.returns-in_err-write_record-clause-ending
returns-in_err-write_record-clause-ending g c log total written w whole = record {
  writing = search rules;
  current = λ told. search rules;
  touches = λ told. (c.write_record.ensures.writing log total written w (
    [],
    append-nil (written
        ++ record_bytes c.args.rec.now) ∙ whole,
  )).touches told;
}

pub returns-in_err-finish-clause-ending : goal.returns-in_err-finish-clause-ending
returns-in_err-finish-clause-ending g c log total written w whole =
    let B = g.B.Blocks in
    let one = c.in_ok-write_record.ensures.writing log total written w (
      [],
      append-nil (written
          ++ record_bytes c.args.rec.now) ∙ whole,
    ) in
    let now = subst
    (λ (x : List ℕ). IsWriting log total x c.write_record.new.tail B.tells
    (B.seen c.write_record.new.blocks)) whole one.writing in record {
      writing = search rules;
      current = λ told. search rules;
      touches = λ told. touches-then _ _ (B.seen c.args.blocks.now)
          (B.seen c.write_record.new.blocks) (B.seen c.finish.new.blocks) (one.touches told)
          ((c.finish.ensures.ending log total now).touches told);
    }

pub returns-clause-ending : goal.returns-clause-ending
returns-clause-ending g c log total written w whole =
    let B = g.B.Blocks in
    let one = c.in_ok-write_record.ensures.writing log total written w (
      [],
      append-nil (written
          ++ record_bytes c.args.rec.now) ∙ whole,
    ) in
    let now = subst
    (λ (x : List ℕ). IsWriting log total x c.write_record.new.tail B.tells
    (B.seen c.write_record.new.blocks)) whole one.writing in
    let two = c.in_ok-finish.ensures.ending log total now in record {
      writing = two.writing;
      current = two.current;
      touches = λ told. touches-then _ _ (B.seen c.args.blocks.now)
          (B.seen c.write_record.new.blocks) (B.seen c.finish.new.blocks) (one.touches told)
          (two.touches told);
    }
