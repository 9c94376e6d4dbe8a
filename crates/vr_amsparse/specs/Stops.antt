-- What the private functions that take a step answer when they stop.
use Rattle.std.specs.Prelude.{◌≡◌}
use Rattle.vr_amsparse.specs.declared.state.Stop.{Stop}
use Rattle.vr_amsparse.specs.declared.state.Stop.TheVariants.{Bad, Memory}
use Rattle.vr_amsparse.specs.Run.{Stepped, Failed}

-- they stop at the fault, or memory runs out
abbrev pub Stops : Stepped → Stop → Type 0
Stops stepped (Bad cause at) = stepped ≡ Failed cause at
Stops stepped Memory = Unit {0}
