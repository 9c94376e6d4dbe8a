-- What becomes of the bytes that a source has left and a sink has taken: Some list of bytes where
-- it reports them, and None where it doesn't. What is reported stays so, and what isn't isn't
-- reported later. The rules are this project's own.
use Rattle.std.specs.Prelude.{◌≡◌, ℕ, ◌≤◌, List, length, take, Option}
use Rattle.std.specs.Io.KnownBytes.{prepend_known, append_known}

-- The source handed out these bytes: they came before those that are left now.
abbrev pub Reads : Option (List ℕ) → Option (List ℕ) → List ℕ → Type 0
Reads old new bytes = old ≡ prepend_known bytes new

-- The sink took these bytes: they come after those that it had taken before.
abbrev pub Takes : Option (List ℕ) → Option (List ℕ) → List ℕ → Type 0
Takes old new bytes = new ≡ append_known old bytes

-- The sink took a prefix of these bytes, maybe all of them.
abbrev pub TakesPart : Option (List ℕ) → Option (List ℕ) → List ℕ → Type 0
TakesPart old new bytes = (n : ℕ) × (n ≤ length bytes) × Takes old new (take n bytes)
