use Rattle.std.proofs.Common.{◌+◌, ◌-◌, ◌/◌, ◌≤◌, arith}
use Rattle.vr_log.proofs.Listing.{found_in, div-within}
use Rattle.vr_log.proofs.log.from_block.Goals as goal

pub returns-clause-found : goal.returns-clause-found
returns-clause-found c index from inside =
    let a = c.args in
    let last : a.byte / a.room ≤ a.last =
    div-within a.byte a.room a.last c.requires.room c.requires.byte in
    let here : a.byte / a.room ≤ index = div-within a.byte a.room index c.requires.room from in
    found_in a.numbers.now (a.byte / a.room) (a.last + 1 - a.byte / a.room) index c.requires.each
    (omega (arith, last, c.requires.last)) here (omega (arith, last, inside))
