use Rattle.std.proofs.Common.{None, sym, ◌∙◌, subst}
use Rattle.std.proofs.lemmas.Option.{same_Some}
use Rattle.vr_browse.specs.Positions.{SetsOnly}
use Rattle.vr_types.specs.declared.position.Stand.{Stand}
use Rattle.vr_record_file.proofs.file.RecordFile.move_refused.Goals as goal

pub returns-in-Some-clause-moved : goal.returns-in-Some-clause-moved
returns-in-Some-clause-moved c = λ stand on moves known.
    subst (λ (to : Stand). SetsOnly c.args.self.now.files c.place.new.self.files c.args.deck on.slot
    (record { stand = to; held = None }))
    (same_Some c.in-Some.stand stand
    (sym c.in-Some.is ∙ c.stand_refused.ensures ∙ moves)) (c.place.ensures.set on known)
