use Rattle.std.proofs.Common.{◌==◌, List, sym, ap, ◌∙◌}
use Rattle.std.proofs.lemmas.Bool.{false≢true}
use Rattle.std.specs.List.{list_any}
use Rattle.vr_history.specs.State.{Owned}
use Rattle.vr_model.proofs.deciding.all_owned_below.Goals as goal

pub returns-then-not-is_owned : goal.returns-then-not-is_owned
returns-then-not-is_owned c = (
  λ no. absurd (false≢true no),
  λ all. sym c.if-not-is_owned.true ∙ c.is_owned.ensures
      ∙ ap (λ (owned : List Owned). list_any (λ held. held.area == c.loop-lower.lower) owned)
      c.deref.ensures.value
      ∙ all c.loop-lower.lower c.loop-lower-test.true,
)
