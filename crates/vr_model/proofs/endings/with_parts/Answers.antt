use Rattle.std.proofs.Common.{◌≡◌, ℕ, ◌∙◌, ap}
use Rattle.vr_types.specs.Content.{Content}
use Rattle.vr_model.specs.Endings as endings
use Rattle.vr_model_state.specs.Contents.{content_in}
use Rattle.vr_model_state.specs.Seen.{seen}
use Rattle.vr_model.proofs.Pointwise.{contents_kept}
use Rattle.vr_model.proofs.endings.with_parts.Goals as goal

pub returns : goal.returns
returns c =
    let old = seen c.args.state in
    ap (λ (contents : ℕ → Content). record old { contents = contents })
    (ap content_in (c.in_ok-state.ensures ∙ c.in_ok-kept.ensures
    ∙ ap (endings.kept_in c.args.parts.now) c.as_slice.ensures)
    ∙ contents_kept c.args.parts.now c.args.state.contents)
