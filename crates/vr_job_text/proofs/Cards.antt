-- A card by what follows its slashes.
use Rattle.std.proofs.Common.{◌≡◌, ℕ, ◌-◌, false, List, length, take, drop, Result, sym, ap, ◌∙◌}
use Rattle.std.proofs.Common.{arith}
use Rattle.std.proofs.lemmas.List.{take_all, length-drop}
use Rattle.std.proofs.lemmas.Bool.{cond-false}
use Rattle.vr_job_text.specs.declared.card.Card.{Card}
use Rattle.vr_job_text.specs.declared.fault.CardFault.{CardFault}
use Rattle.vr_job_text.specs.Card.{is_nothing, named_card, card_of}

pub rest_whole : (line : List ℕ) → take (length line - 2) (drop 2 line) ≡ drop 2 line
rest_whole line =
    take_all (length line - 2) (drop 2 line) (omega (arith, length-drop 2 line))

pub card_is_named : (line rest : List ℕ) (card : Result Card CardFault) → rest ≡ drop 2 line
    → is_nothing rest ≡ false → card ≡ named_card line rest → card ≡ card_of line
card_is_named line rest card same some is =
    is ∙ ap (named_card line) same
    ∙ sym (cond-false (is_nothing (drop 2 line)) _ _ (ap is_nothing (sym same) ∙ some))
