-- Whether a part is laid.
use Rattle.std.proofs.Common.{◌≡◌, ◌==◌, ◌||◌, ℕ, Bool, true, false, List, [], ◌∷◌, Some}
use Rattle.std.proofs.Common.{refl, cond, map}
use Rattle.std.specs.Prelude.{is_some}
use Rattle.std.specs.List.{list_any}
use Rattle.vr_space.specs.Known.{Known}
use Rattle.vr_space.specs.Part.{Shape}
use Rattle.vr_store.specs.Store.{part_among, part_now}
use Rattle.vr_store.specs.declared.parts.Laid.{Laid}

pub any-laid : {P : Type 0} (shape : P → Shape) (known : P → Known)
    (number : ℕ) (items : List (Laid P))
    → list_any (λ (laid : Laid P). laid.number.0 == number) items
    ≡ is_some (part_among (map (part_now shape known) items) number)
any-laid shape known number [] = refl
any-laid shape known number (laid ∷ items) =
    by_test (laid.number.0 == number) (any-laid shape known number items)
  where
    by_test : (here : Bool) → list_any (λ (laid : Laid _). laid.number.0 == number) items
        ≡ is_some (part_among (map (part_now shape known) items) number)
        → (here || list_any (λ (laid : Laid _). laid.number.0 == number) items)
        ≡ is_some (cond here (Some (part_now shape known laid))
        (part_among (map (part_now shape known) items) number))
    by_test true further = refl
    by_test false further = further
