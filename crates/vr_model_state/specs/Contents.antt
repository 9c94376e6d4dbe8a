-- What a list of contents has of a part.
use Rattle.std.specs.Prelude.{ℕ, ◌==◌, if◌then◌else◌, List, [], ◌∷◌}
use Rattle.vr_types.specs.Content.{Content}

-- the first content that is listed for a part; a part without one is empty
abbrev pub content_in : List (ℕ × Content) → ℕ → Content
content_in [] part = []
content_in (held ∷ others) part = if part == held.0 then held.1 else content_in others part
