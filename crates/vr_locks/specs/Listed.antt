-- Locks under numbers. A lock that was taken later has a higher number. The form is this project's
-- own.
use Rattle.std.specs.Prelude.{◌≡◌, ◌<◌, ◌≤◌, ℕ, suc, zero, Bool, false, nat_eq}
use Rattle.std.specs.Prelude.{List, [], ◌++◌, Option, None, Some, AllPairs}
use Rattle.std.specs.List.{list_any}
use Rattle.std.specs.Option.{option_to_list}
use Rattle.vr_types.specs.Locks.{Lock}
use Rattle.vr_locks.specs.Sound.{GoTogether}

-- the locks with numbers below `next`, in the order of their numbers
unfoldable pub listed : (ℕ → Option Lock) → ℕ → List Lock
listed at zero = []
listed at (suc n) = listed at n ++ option_to_list (at n)

-- The numbers filed under a key rise. A lock's number is among those of its own key alone.
pub record IsFiled {K : Type 0} (same : K → K → Bool) (key : Lock → K) (at : ℕ → Option Lock)
    (bound : ℕ) (filed : K → List ℕ) : Type 0 where
  pub found : (q : K) (n : ℕ) (lock : Lock) → at n ≡ Some lock
      → list_any (nat_eq n) (filed q) ≡ same q (key lock)
  -- no number from `bound` on is in use
  pub below : (q : K) (n : ℕ) → bound ≤ n → list_any (nat_eq n) (filed q) ≡ false
  pub rising : (q : K) → AllPairs (λ m n. m < n) (filed q)

-- any two of the locks may stand side by side
abbrev pub AreSound : (ℕ → Option Lock) → Type 0
AreSound at = (m n : ℕ) (a b : Lock) → m < n → at m ≡ Some a → at n ≡ Some b → GoTogether a b

-- no lock has a number from `bound` on
abbrev pub AreBelow : (ℕ → Option Lock) → ℕ → Type 0
AreBelow at bound = (n : ℕ) → bound ≤ n → at n ≡ None
