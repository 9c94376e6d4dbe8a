use Rattle.std.proofs.Common.{length, drop, arith}
use Rattle.std.proofs.lemmas.List.{take_at}
use Rattle.vr_browse.proofs.PositionLemmas.{ordered_deck}
use Rattle.vr_browse.proofs.positions.Positions.drop_deck.Goals as goal

-- the decks and the slots stay
pub invariant_of-self : goal.invariant_of-self
invariant_of-self c =
    let new = c.drop_part.new.files in
    let whole = take_at new (drop (length new) c.self.inside.files.items) c.self.inside.files.len
    (omega arith) in
    rw (whole, c.drop_part.ensures, c.deref_mut.ensures.value)
    (ordered_deck _ c.self.invariant c.args.deck)
