-- What a file is on where no path leads to it, by what is in memory.
use Rattle.std.specs.Prelude.{cond, List, Option, Some, None, ◌&&◌, is_none, option_and_then}
use Rattle.vr_catalog.specs.Catalog.{definition_of}
use Rattle.vr_catalog.specs.declared.definition.Definition.{Definition}
use Rattle.vr_catalog.specs.declared.entry.CatEntry.{CatEntry}
use Rattle.vr_types.specs.declared.request.FileRef.{FileRef}
use Rattle.vr_history.specs.Case.{file_of}
use Rattle.vr_history.specs.Opened.{Opened, Unknown, Cluster}
use Rattle.vr_answer.specs.declared.case.Case.{Case as CaseInHand}

-- a cluster with its definition, or nothing that can be opened
abbrev pub as_opened : Option Definition → Opened
as_opened None = Unknown
as_opened (Some definition) = Cluster definition

-- the cluster of a known name, by no path
abbrev pub reached : List CatEntry → FileRef → Option Definition
reached entries file =
    cond (file.known && is_none file.path) (definition_of entries file.base.0) None

abbrev pub definition_here : CaseInHand → Option Definition
definition_here case = option_and_then (reached case.catalog.now) (file_of case.request.now)
