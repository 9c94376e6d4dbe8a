-- The definitions that are run yet.
use Rattle.std.specs.Prelude.{Bool, false, not, true}
use Rattle.vr_catalog.specs.declared.order.NewEntry.{NewEntry}
use Rattle.vr_catalog.specs.declared.order.NewEntry.TheVariants.{Cluster, Alternate, Path}

-- a cluster that isn't spanned
abbrev pub is_plain_cluster : NewEntry → Bool
is_plain_cluster (Cluster kind spanned options) = not spanned
is_plain_cluster (Alternate related unique options) = false
is_plain_cluster (Path related) = false

-- each but a spanned cluster
abbrev pub is_run : NewEntry → Bool
is_run (Cluster kind spanned options) = not spanned
is_run (Alternate related unique options) = true
is_run (Path related) = true
