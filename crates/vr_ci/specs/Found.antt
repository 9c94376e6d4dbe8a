-- What a view is made of.
use Rattle.std.specs.Prelude.{ℕ, List}
use Rattle.vr_ci_match.specs.declared.form.Form.{Form}
use Rattle.vr_ci_match.specs.declared.matching.Found.{Found}
use Rattle.vr_ci.specs.Interval.{IsInterval}
use Rattle.vr_ci.specs.Reading.{value_in, IsView}

-- the value that a view shows of what was found is that of the block
pub record IsFound (form : Form) (block : List ℕ) (found : Found) : Type 0 where
  pub interval : IsInterval form block (value_in block found.low found.shape found.busy)
  pub view : IsView block found.low found.shape found.count
