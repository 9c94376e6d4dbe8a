use Rattle.std.proofs.Common.{rules, ◌+◌, ◌-◌, ◌/◌, Option, Some, None, List, ℕ, refl, subst}
use Rattle.vr_log.specs.Decoding.{AreRead}
use Rattle.vr_log.specs.Reading.{IsGathered}
use Rattle.vr_log.proofs.BackRead.{read_crowded, read_misspelled, no_damage_in}
use Rattle.vr_log.proofs.reading.read_into.Goals as goal

pub returns-in_err-wrong-clause-damaged : goal.returns-in_err-wrong-clause-damaged
returns-in_err-wrong-clause-damaged g c told =
    no_damage_in c.args.geometry (g.B.Blocks.seen c.args.blocks.now).cur c.from_residual.result
    (search rules)

pub returns-in-Some-default-clause-damaged : goal.returns-in-Some-default-clause-damaged
returns-in-Some-default-clause-damaged g c told =
    let image = (g.B.Blocks.seen c.args.blocks.now).cur in
    let bytes = c.gather.new.bytes.items in
    let records = c.read_records.new.content.records in
    let at = c.in-Some-default.at in
    let read : AreRead bytes records (Some at) =
    subst (λ (l : List ℕ). AreRead l records (Some at)) c.deref.ensures.value
    (subst (λ (stop : Option ℕ). AreRead c.deref.result.now records stop) c.in-Some-default.is-0
    c.in_ok-stop.ensures.read) in
    read_misspelled c.args.geometry image c.generation.result bytes
    (search rules) records at (1 + at / (c.args.geometry.size - 16))
    (c.in_ok-wrong.ensures.bytes told).bytes_is read.0 read.1 refl

pub returns-in-None-None-clause-crowded : goal.returns-in-None-None-clause-crowded
returns-in-None-None-clause-crowded g c told over =
    let image = (g.B.Blocks.seen c.args.blocks.now).cur in
    let geometry = c.args.geometry in
    let bytes = c.gather.new.bytes.items in
    let records = c.read_records.new.content.records in
    let gathered : IsGathered geometry c.generation.result image bytes None =
    subst (λ (wrong : Option ℕ). IsGathered geometry c.generation.result image bytes wrong)
    c.in-None-None.is-1 (c.in_ok-wrong.ensures.bytes told) in
    let read : AreRead bytes records None =
    subst (λ (l : List ℕ). AreRead l records None) c.deref.ensures.value
    (subst (λ (stop : Option ℕ). AreRead c.deref.result.now records stop) c.in-None-None.is-0
    c.in_ok-stop.ensures.read) in
    read_crowded geometry image c.generation.result bytes (search rules)
    c.read_records.new.content gathered read over
