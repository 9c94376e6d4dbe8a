use Rattle.std.proofs.Common.{◌≡◌, ◌++◌, append_assoc}
use Rattle.std.proofs.lemmas.Result.{on_ok_weaker}
use Rattle.vr_trace.specs.Ends.{position_text}
use Rattle.vr_trace.proofs.ending.write_refused.Goals as goal

pub returns : goal.returns
returns c =
    on_ok_weaker c.write_position.result
    (λ (added : c.write_position.new.out
    ≡ c.write_kind.new.out ++ position_text c.args.line c.args.column). rw (
      added,
      c.in_ok-write_kind.ensures,
      c.in_ok-extend.ensures.ok,
    ) (simp append_assoc)) c.write_position.ensures
