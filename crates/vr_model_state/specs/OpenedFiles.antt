-- What an opened file stands for.
use Rattle.vr_history.specs.Opened.{Opened, Unknown as UnknownFile, Cluster as OfCluster}
use Rattle.vr_history.specs.Opened.{ByPath as OverPath}
use Rattle.vr_model_state.specs.declared.opened_file.OpenedFile.{OpenedFile}
use Rattle.vr_model_state.specs.declared.opened_file.OpenedFile.TheVariants.{Unknown, Cluster}
use Rattle.vr_model_state.specs.declared.opened_file.OpenedFile.TheVariants.{ByPath}

abbrev pub as_opened : OpenedFile → Opened
as_opened Unknown = UnknownFile
as_opened (Cluster definition) = OfCluster definition
as_opened (ByPath definition alternate) = OverPath definition alternate
