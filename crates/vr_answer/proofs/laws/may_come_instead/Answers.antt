use Rattle.vr_answer.proofs.CallerLemmas.{lacks_memory, lacks_room, looks_read, meets_read_fault}
use Rattle.vr_answer.proofs.CallerLemmas.{meets_write_fault}
use Rattle.vr_answer.proofs.laws.may_come_instead.Goals as goal

pub returns : goal.returns
returns c = record {
  room = lacks_room;
  memory = lacks_memory;
  write = meets_write_fault;
  read = meets_read_fault;
  looks = looks_read;
}
