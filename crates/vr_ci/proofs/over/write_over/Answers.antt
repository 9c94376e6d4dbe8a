use Rattle.vr_ci.proofs.OverLemmas.{written_over_by}
use Rattle.vr_ci.proofs.over.write_over.Goals as goal

pub returns-clause-over : goal.returns-clause-over
returns-clause-over c = λ form value before after old interval stands.
    written_over_by form c.args.out.now c.put_item.new.out value before after old c.args.at
    c.args.bytes.now c.put_item.ensures c.requires interval stands
