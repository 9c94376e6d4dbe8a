use Rattle.std.proofs.Common.{ap, get_or, sym, ◌∙◌}
use Rattle.std.specs.Prelude.{is_some}
use Rattle.std.specs.List.{list_any}
use Rattle.std.specs.Option.{option_copied}
use Rattle.std.proofs.lemmas.List.{get_or_default, take_all}
use Rattle.vr_undo.specs.Searched.{place_by, record_at}
use Rattle.vr_undo.proofs.FirstPlace.{none-first, searched, some-first}
use Rattle.vr_undo.proofs.Leaving.{item-at}
use Rattle.vr_undo.proofs.kept.first_place.Goals as goal

pub returns-in-Some : goal.returns-in-Some
returns-in-Some c =
    let records = c.args.records.now in
    let numbers = c.in_part-numbers.result.now in
    let at = c.loop-number.number-index in
    let number = get_or numbers at 0 in
    let one =
    item-at records number c.index-records-number.result
    (c.in_part-numbers.ensures.numbers at 0 c.loop-number-test.true) c.index-records-number.is in
    some-first c.args.whose c.args.part.0 c.args.from records numbers c.requires.alike
    (searched c.args.whose c.args.part.0 c.args.from records c.args.order.now numbers
    c.requires.alike c.requires.order c.in_part-numbers.ensures.numbers
    c.in_part-numbers.ensures.all c.in_part-numbers.ensures.sorted) at number c.in-Some.place.now c.loop-number-test.true
    (get_or_default numbers at 0 number c.loop-number-test.true)
    (ap (place_by c.args.whose c.args.part.0 c.args.from) (sym one)
    ∙ sym c.place_by.ensures ∙ ap option_copied c.in-Some.is)
    c.loop-number.invariant

pub returns : goal.returns
returns c =
    let records = c.args.records.now in
    let numbers = c.in_part-numbers.result.now in
    none-first c.args.whose c.args.part.0 c.args.from records numbers c.requires.alike
    (searched c.args.whose c.args.part.0 c.args.from records c.args.order.now numbers
    c.requires.alike c.requires.order c.in_part-numbers.ensures.numbers
    c.in_part-numbers.ensures.all c.in_part-numbers.ensures.sorted)
    (sym (ap (list_any (λ number. is_some (place_by c.args.whose c.args.part.0 c.args.from
    (record_at c.args.records.now number))))
    (take_all c.loop-number.number-index numbers c.loop-number-test.false))
    ∙ c.loop-number.invariant)
