use Rattle.std.proofs.Common.{length}
use Rattle.std.proofs.lemmas.Bool.{leb-true}
use Rattle.vr_keyed.proofs.room.stands_as_long.Goals as goal

pub returns-in-Some : goal.returns-in-Some
returns-in-Some c = record {
  stands = λ range holds is. (
    c.in-Some.record.now,
    c.in-Some.ensures range holds,
    leb-true c.args.longest (length c.in-Some.record.now) is,
  );
}
