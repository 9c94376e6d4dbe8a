use Rattle.std.proofs.Common.{◌≡◌, ◌+◌, ℕ, List, drop}
use Rattle.std.specs.List.{prefix_len}
use Rattle.std.specs.Ordering.{is_gt}
use Rattle.vr_types.specs.Content.{place_cmp}
use Rattle.vr_recover.specs.Images.{name_in}
use Rattle.vr_recover.proofs.catalog_back.lower.Given as goal

-- the place is looked for among what is left
abbrev pub invariant-loop-at : goal.invariant-loop-at
invariant-loop-at l =
    l.at + prefix_len (λ (bytes : List ℕ). is_gt (place_cmp l.fn.place (name_in bytes)))
    (drop l.at l.records)
    ≡ prefix_len (λ (bytes : List ℕ). is_gt (place_cmp l.fn.place (name_in bytes))) l.fn.records
