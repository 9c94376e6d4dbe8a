-- What a command asks for.
use Rattle.std.specs.Prelude.{ℕ, Bool, List}
use Rattle.vr_job_ends.specs.declared.command.Plan.{Plan}
use Rattle.vr_job_ends.specs.declared.command.Plan.TheVariants as plans

pub data Asked : Type 0 where
  -- the job is run over the volumes of a directory, and its history is traced or not
  Run : (job dir : List ℕ) (trace : Bool) → Asked
  -- volumes are formatted in a directory: how many, the size of a block in bytes, blocks, blocks of
  -- the log, and control intervals of an area
  Format : (dir : List ℕ) (count size blocks log area : ℕ) → Asked

-- what a plan says, without the text that its words are lent from
abbrev pub asked_of : Plan → Asked
asked_of (plans.Run job dir trace) = Run job.now dir.now trace
asked_of (plans.Format dir count size blocks log area) = Format dir.now count size blocks log area
