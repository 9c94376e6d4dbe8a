-- A list of blocks from one number to another.
use Rattle.std.proofs.Common.{◌≡◌, ℕ, ◌+◌, ◌-◌, ◌*◌, ◌/◌, ◌<◌, ◌≤◌, List, All, Contains, length}
use Rattle.std.proofs.Common.{take, drop, get_or, ◌∙◌, arith}
use Rattle.std.proofs.lemmas.List.{length-take, length-drop, get_or-take, get_or-drop}
use Rattle.std.proofs.lemmas.List.{get_or_default}
use Rattle.std.proofs.lemmas.Nat.{div_below}
use Rattle.vr_log.specs.Memory.{AreNumbered}

at : (numbers : List ℕ) (first more k d : ℕ) → AreNumbered numbers → k < more
    → first + k < length numbers → get_or (take more (drop first numbers)) k d ≡ 1 + (first + k)
at numbers first more k d each below within =
    get_or-take more (drop first numbers) k d below ∙ get_or-drop first numbers k d
    ∙ get_or_default numbers (first + k) d 0 within ∙ each (first + k) within

pub below_in : (numbers : List ℕ) (first more count : ℕ) → AreNumbered numbers
    → first + more ≤ length numbers → length numbers < count
    → All (λ n. n < count) (take more (drop first numbers))
below_in numbers first more count each within below k d inside =
    let small : k < more = omega (arith, inside, length-take more (drop first numbers)) in
    omega (
      arith,
      at numbers first more k d each small (omega (arith, small, within)),
      small,
      within,
      below,
    )

pub found_in : (numbers : List ℕ) (first more index : ℕ) → AreNumbered numbers
    → first + more ≤ length numbers → first ≤ index → index < first + more
    → Contains (take more (drop first numbers)) (1 + index)
found_in numbers first more index each within from to = (
  index - first,
  omega
      (arith, from, to, within, length-take more (drop first numbers), length-drop first numbers),
  at numbers first more (index - first) (1 + index) each (omega (arith, from, to))
      (omega (arith, from, to, within)) ∙ omega (arith, from),
)

pub div-within : (byte room last : ℕ) → 0 < room → byte < (last + 1) * room → byte / room ≤ last
div-within byte room last some below = omega (arith, div_below byte room (last + 1) some below)
