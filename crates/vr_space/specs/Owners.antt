-- Which part each block of a volume is of. A part puts into its own blocks alone, and a block is of
-- one part at most, so what a part does leaves every other as it is. The rules are this project's
-- own.
use Rattle.std.specs.Prelude.{ℕ, Option}

-- the number of the part that a block is of, where it is of one
abbrev pub Owners : Type 0
Owners = ℕ → Option ℕ
