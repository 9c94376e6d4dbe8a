-- Numbers under a key of a map. The form is this project's own.
use Rattle.std.specs.Prelude.{◌≡◌, ◌≢◌, ℕ, List, [], Option, None, Some}
use Rattle.std.specs.Global.{Vec}

-- the numbers under a key, where there are some
abbrev pub numbers_in : Option (Vec ℕ) → List ℕ
numbers_in None = []
numbers_in (Some numbers) = numbers.items

-- no key has an entry without numbers
abbrev pub AreUsed : {K : Type 0} → (K → Option (Vec ℕ)) → Type 0
AreUsed {K} entry = (q : K) (numbers : Vec ℕ) → entry q ≡ Some numbers → numbers.items ≢ []
