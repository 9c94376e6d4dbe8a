-- What a file is on, by the catalog of its volume: a cluster, or a cluster by way of a path over
-- one of its alternate indexes (DFSMS Using Data Sets, alternate indexes and paths).
use Rattle.std.specs.Prelude.{ℕ, cond, List, Option, Some, None, ◌==◌, filter, find}
use Rattle.std.specs.Option.{option_map_or}
use Rattle.vr_catalog.specs.Catalog.{Alternate, entries_in, definition_of, alternates_over}
use Rattle.vr_catalog.specs.declared.definition.Definition.{Definition}
use Rattle.vr_catalog.specs.declared.entry.CatEntry.{CatEntry}
use Rattle.vr_types.specs.declared.request.FileRef.{FileRef}
use Rattle.vr_types.specs.declared.unit.PartNo.{PartNo}
use Rattle.vr_history.specs.Case.{Case, file_of}
use Rattle.vr_history.specs.State.{State}

pub data Opened : Type 0 where
  -- nothing that can be opened
  Unknown : Opened
  Cluster : Definition → Opened
  ByPath : Definition → Alternate → Opened

-- the entries of the catalog, which is part 0
abbrev pub catalog_of : State → List CatEntry
catalog_of state = entries_in (state.contents 0)

-- the alternates over a base that are built, by part number
abbrev pub built_over : State → ℕ → List Alternate
built_over state base =
    filter (λ alternate. alternate.built) (alternates_over (catalog_of state) base)

abbrev pub by_path : Definition → Option Alternate → Opened
by_path definition None = Unknown
by_path definition (Some alternate) = ByPath definition alternate

abbrev pub by_name : State → ℕ → Option PartNo → Definition → Opened
by_name state base None definition = Cluster definition
by_name state base (Some path) definition =
    by_path definition (find (λ alternate. alternate.part == path.0) (built_over state base))

abbrev pub opened_base : State → FileRef → Option Definition → Opened
opened_base state file None = Unknown
opened_base state file (Some definition) = by_name state file.base.0 file.path definition

-- what a file is on: a known name, a cluster of the catalog or the catalog itself, and a built
-- alternate over it
abbrev pub opened_file : State → FileRef → Opened
opened_file state file =
    cond file.known (opened_base state file (definition_of (catalog_of state) file.base.0)) Unknown

abbrev pub opened : Case → Opened
opened case = option_map_or (opened_file case.state) (file_of case.request) Unknown

-- the part of the base cluster of the request's file, 0 where there is no file
abbrev pub base_of : Case → ℕ
base_of case = option_map_or (λ file. file.base.0) (file_of case.request) 0

-- the definition of the base cluster
abbrev pub definition_in : Opened → Option Definition
definition_in Unknown = None
definition_in (Cluster definition) = Some definition
definition_in (ByPath definition alternate) = Some definition
