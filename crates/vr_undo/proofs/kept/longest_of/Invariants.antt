use Rattle.std.proofs.Common.{◌≡◌, ℕ, take}
use Rattle.std.specs.List.{list_any}
use Rattle.vr_undo.specs.Searched.{is_as_long, is_longer_at}
use Rattle.vr_undo.proofs.kept.longest_of.Given as goal

abbrev pub invariant-loop-number : goal.invariant-loop-number
invariant-loop-number l =
    (least : ℕ) → is_as_long least l.longest
    ≡ list_any (is_longer_at l.part.0 l.place least l.records) (take l.number-index l.numbers)
