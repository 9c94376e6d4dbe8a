-- Words as names of classes.
use Rattle.std.specs.Prelude.{ℕ, Bool, not, ◌&&◌, ◌==◌, List, is_some}
use Rattle.std.specs.List.{list_any}
use Rattle.vr_text.specs.Words.{name_in}

-- the name of a data set without a dot
abbrev pub is_class : List ℕ → Bool
is_class text = not (list_any (λ b. b == 46) text) && is_some (name_in text)
