-- The last places of a table. It is this project's own.
use Rattle.std.specs.Prelude.{ℕ, List}
use Rattle.vr_resident.specs.Places.{Entry}
use Rattle.vr_resident.specs.Table.{IsLastOf}
use Rattle.vr_resident.specs.declared.place.Sought.TheVariants as which
use Rattle.vr_resident.specs.declared.table.Lasts.{Lasts}

-- the last place with block n, with an empty frame, without a frame, and with any block
pub record AreLasts (n : ℕ) (entries : List Entry) (lasts : Lasts) : Type 0 where
  pub found : IsLastOf (which.Block n) entries lasts.found
  pub empty : IsLastOf which.Empty entries lasts.empty
  pub bare : IsLastOf which.Bare entries lasts.bare
  pub held : IsLastOf which.Held entries lasts.held
