use Rattle.vr_ams_define.proofs.NewEntries.{failure-none, is-new, stays-ruled}
use Rattle.vr_ams_define.proofs.laws.new_entry_is_new.Goals as goal

pub returns-clause-new : goal.returns-clause-new
returns-clause-new c geometry entries order plain none =
    let both = failure-none geometry entries order none in
    is-new geometry entries order.name order.what plain both.0 both.1

pub returns-clause-ruled : goal.returns-clause-ruled
returns-clause-ruled c geometry entries order ruled plain none =
    let both = failure-none geometry entries order none in
    stays-ruled geometry entries order.name order.what ruled plain both.0 both.1
