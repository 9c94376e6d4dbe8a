use denote.Exit.{yes}
use denote.Param.Send.{arg_send, param_send}
use Rattle.vr_job.proofs.Sending.{serving_send}
use Rattle.vr_job.proofs.shelf_run.ask_all.Goals as goal

pub run_steps-requires-send-V : goal.run_steps-requires-send-V
run_steps-requires-send-V g c κs within =
    param_send 1 _ (arg_send _ yes _ (serving_send _ g.D.BlockDevice c.type_bounds.send-D))
