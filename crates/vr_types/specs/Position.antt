-- Where a file is for sequential reading, and what it holds for update (DFSMS Using Data Sets,
-- positioning).
use Rattle.std.specs.Prelude.{None}
use Rattle.vr_types.specs.declared.position.Stand.TheVariants.{Start}
use Rattle.vr_types.specs.declared.position.Position.{Position}

-- where a file is that was never set: at its start, and it holds nothing
abbrev pub first_position : Position
first_position = record { stand = Start; held = None }

-- the position without what is held
abbrev pub unheld : Position → Position
unheld position = record position { held = None }
