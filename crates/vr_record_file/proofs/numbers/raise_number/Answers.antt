use Rattle.std.proofs.Common.{◌<◌, length, get_or, arith}
use Rattle.std.proofs.lemmas.List.{get_or_default}
use Rattle.std.proofs.lemmas.List.Edits.{map_over_more}
use Rattle.vr_record_file.specs.Now.{raised_for}
use Rattle.vr_record_file.specs.declared.numbers.DeckNumber.{DeckNumber}
use Rattle.vr_record_file.proofs.numbers.raise_number.Goals as goal

pub loop-number-preserved : goal.loop-number-preserved
loop-number-preserved c =
    let none : DeckNumber = record { deck = 0; number = 0 } in
    let numbers = c.loop-number.numbers in
    let at = c.loop-number.number-index in
    let number : DeckNumber = get_or numbers at none in
    let inside : at < length numbers =
    omega (arith, c.loop-number-test.true, c.loop-number.auto.numbers) in
    let more = map_over_more
    (raised_for c.args.deck) c.args.numbers.now numbers at number c.loop-number-test.true
    c.loop-number.invariant (get_or_default numbers at none number inside) in
    cc
