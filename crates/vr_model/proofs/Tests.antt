-- What tests say together.
use Rattle.std.proofs.Common.{◌≡◌, ◌↔◌, Bool, true, IsTrue}

-- two tests, of which the first holds
pub both_true : {A B : Type 0} (one other : Bool) → IsTrue one ↔ A → IsTrue other ↔ B
    → one ≡ true → IsTrue other ↔ (A × B)
both_true {A} {B} one other first second is =
    (λ yes. (first.0 is, second.0 yes), λ both. second.1 both.1)
