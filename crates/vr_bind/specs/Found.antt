-- What the private functions that look a name up answer.
use Rattle.std.specs.Prelude.{ℕ, List, Option}
use Rattle.std.specs.Option.{option_map, option_and_then}
use Rattle.vr_catalog.specs.Catalog.{Opened, opened_directly, entry_with_part}
use Rattle.vr_catalog.specs.declared.entry.CatEntry.{CatEntry}
use Rattle.vr_bind.specs.declared.named.Found.{Found}

abbrev pub found_of : Found → Opened
found_of found = record { base = found.base.0; path = option_map (λ part. part.0) found.path }

-- what is opened through a path over a part
abbrev pub opened_over : List CatEntry → ℕ → Option Opened
opened_over entries part =
    option_and_then (λ related. opened_directly related.entry_kind related)
    (entry_with_part entries part)
