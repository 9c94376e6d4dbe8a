use Rattle.vr_format.proofs.PlainCatalogs.{first-plain, taken-plain}
use Rattle.vr_format.proofs.laws.formatted_is_plain.Goals as goal

pub returns-clause-new : goal.returns-clause-new
returns-clause-new c geometry number allowed = first-plain geometry number allowed

pub returns-clause-entries : goal.returns-clause-entries
returns-clause-entries c geometry entries clusters taken =
    taken-plain geometry entries clusters taken
