use Rattle.std.proofs.Common.{◌≡◌, false, take}
use Rattle.std.specs.Prelude.{is_some}
use Rattle.std.specs.List.{list_any}
use Rattle.vr_undo.specs.Searched.{place_by, record_at}
use Rattle.vr_undo.proofs.kept.first_place.Given as goal

abbrev pub invariant-loop-number : goal.invariant-loop-number
invariant-loop-number l =
    list_any (λ number. is_some (place_by l.whose l.part.0 l.from (record_at l.records number)))
    (take l.number-index l.numbers) ≡ false
