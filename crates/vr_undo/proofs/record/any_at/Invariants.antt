use Rattle.std.proofs.Common.{◌≡◌, false, take}
use Rattle.std.specs.List.{list_any}
use Rattle.vr_undo.specs.Searched.{has_image_at}
use Rattle.vr_undo.proofs.record.any_at.Given as goal

abbrev pub invariant-loop-number : goal.invariant-loop-number
invariant-loop-number l =
    list_any (has_image_at l.which l.unit l.part.0 l.place l.records) (take l.number-index l.numbers)
    ≡ false
