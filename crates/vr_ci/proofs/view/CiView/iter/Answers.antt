use Rattle.std.proofs.Common.{◌∙◌, ap}
use Rattle.vr_ci.specs.Interval.{Interval}
use Rattle.vr_ci.proofs.view.CiView.iter.Goals as goal

pub returns : goal.returns
returns c = c.of.ensures c.self.inside.shape c.self.inside.busy
    ∙ ap (λ (v : Interval). v.items) c.self.view_is
