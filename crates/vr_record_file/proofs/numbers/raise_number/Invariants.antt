use Rattle.std.proofs.Common.{◌≡◌, ◌++◌, map, take, drop}
use Rattle.vr_record_file.specs.Now.{raised_for}
use Rattle.vr_record_file.proofs.numbers.raise_number.Given as goal

-- the decks before the index are raised where they are the deck, and the others are as they were
abbrev pub invariant-loop-number : goal.invariant-loop-number
invariant-loop-number l =
    l.numbers ≡ map (raised_for l.fn.deck) (take l.number-index l.fn.numbers)
    ++ drop l.number-index l.fn.numbers
