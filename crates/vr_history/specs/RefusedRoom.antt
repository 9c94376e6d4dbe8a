-- Refusals of a change for want of room: in the areas of the volume, and in its log. Each word
-- answers the refusal exactly where its cause is there. How much room a record needs is this
-- project's own.
use Rattle.std.specs.Prelude.{ℕ, ◌+◌, ◌-◌, nat_lt, List, Option, ◌&&◌, length, is_some, option_map}
use Rattle.std.specs.Prelude.{option_and_then}
use Rattle.vr_catalog.specs.declared.definition.Definition.{Definition}
use Rattle.vr_types.specs.Geometry.{area_count}
use Rattle.vr_types.specs.declared.reply.Refusal.{Refusal}
use Rattle.vr_types.specs.declared.reply.Refusal.TheVariants.{NoSpace, LogFull}
use Rattle.vr_history.specs.Address.{areas_needed, interval_needed}
use Rattle.vr_history.specs.Case.{Case, new_record}
use Rattle.vr_history.specs.Change.{place_changed}
use Rattle.vr_types.specs.LogSpace.{log_size}
use Rattle.vr_history.specs.LogSpace.{log_need}
use Rattle.vr_history.specs.Opened.{base_of, definition_in, opened}
use Rattle.vr_history.specs.RefusedFile.{refused_if}
use Rattle.vr_history.specs.State.{areas_of}

-- the areas that no part has
abbrev pub free_areas : Case → ℕ
free_areas case = area_count case.geometry - length case.state.owned

-- the areas that the place of a changed record needs beside those that its part has: none for
-- a key-sequenced data set, where the layout decides
abbrev pub need_at : Case → Definition → List ℕ → List ℕ → Option ℕ
need_at case definition place bytes =
    option_map (areas_needed case.geometry.area (areas_of case.state (base_of case)))
    (interval_needed definition.kind case.geometry.size definition.maximum place (length bytes))

abbrev pub need_of : Case → Option ℕ
need_of case =
    option_and_then
    (λ definition. option_and_then
    (λ place. option_and_then (need_at case definition place) (new_record case.request))
    (place_changed case)) (definition_in (opened case))

abbrev pub lacks : ℕ → ℕ → Option Refusal
lacks free need = refused_if (nat_lt free need) (NoSpace need free)

-- an entry-sequenced or relative data set needs more areas than are free
abbrev pub no_space : Case → Option Refusal
no_space case = option_and_then (lacks (free_areas case)) (need_of case)

-- the log has no room for what a change logs
abbrev pub log_full : Case → Option Refusal
log_full case =
    refused_if (is_some (place_changed case)
    && nat_lt (log_size case.geometry) (case.state.used + log_need case))
    (LogFull case.state.used (log_need case) (log_size case.geometry))
