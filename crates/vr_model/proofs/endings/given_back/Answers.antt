use Rattle.std.proofs.Common.{◌≡◌, ℕ, List, ◌∙◌, ap}
use Rattle.vr_catalog.specs.Catalog as catalogs
use Rattle.vr_history.specs.Effects as effects
use Rattle.vr_history.specs.Opened as files
use Rattle.vr_history.specs.State.{State}
use Rattle.vr_model.specs.Endings as endings
use Rattle.vr_model_state.specs.Seen.{seen}
use Rattle.vr_model.proofs.endings.given_back.Goals as goal

-- the two steps after one another
in_turn : (state parted new : State) (parts laid : List ℕ)
    → new ≡ endings.with_areas laid parted → parted ≡ endings.with_parts parts state
    → laid ≡ effects.parts_laid (files.catalog_of state)
    → parts ≡ catalogs.parts_in (files.catalog_of state) → new ≡ endings.given_back state
in_turn state parted new parts laid areas contents laid_is parts_is =
    areas ∙ ap (λ (numbers : List ℕ). endings.with_areas numbers parted) laid_is
    ∙ ap (endings.with_areas (effects.parts_laid (files.catalog_of state)))
    (contents ∙ ap (λ (numbers : List ℕ). endings.with_parts numbers state) parts_is)

pub returns : goal.returns
returns c =
    in_turn (seen c.args.state) (seen c.in_ok-parted.parted) _ _ _ c.in_ok-with_areas.ensures
    c.in_ok-parted.ensures (c.deref-2.ensures.value ∙ c.in_ok-laid.ensures)
    (c.deref.ensures.value ∙ c.in_ok-parts.ensures)
