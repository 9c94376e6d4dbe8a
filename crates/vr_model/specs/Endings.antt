-- The end of a unit of recovery, in the parts that the model makes of it.
use Rattle.std.specs.Prelude.{ℕ, ◌+◌, ◌==◌, if◌then◌else◌, List, [], map, filter}
use Rattle.vr_types.specs.Content.{Content}
use Rattle.vr_types.specs.Position.{unheld}
use Rattle.vr_types.specs.declared.unit.Unit.{Unit as UnitOfRecovery}
use Rattle.vr_catalog.specs.Catalog.{parts_in}
use Rattle.vr_history.specs.Effects.{has_part, is_other, parts_laid, used_after}
use Rattle.vr_history.specs.Opened.{catalog_of}
use Rattle.vr_history.specs.State.{State}
use Rattle.vr_model_state.specs.declared.state.FilePosition.{FilePosition}

-- its locks, before-images and log records go
abbrev pub without_lists : UnitOfRecovery → State → State
without_lists unit state =
    let logged = filter (λ log. is_other unit log.unit) state.logged in
    record state {
      locks = filter (λ lock. is_other unit lock.unit) state.locks;
      befores = filter (λ kept. is_other unit kept.unit) state.befores;
      logged = logged;
      used = used_after logged state.used;
    }

-- its deck's files drop what they hold
abbrev pub without_held : ℕ → State → State
without_held at state = record state {
  positions = λ deck slot.
      if deck == at then unheld (state.positions deck slot) else state.positions deck slot;
}

abbrev pub unheld_of : ℕ → FilePosition → FilePosition
unheld_of deck file =
    if file.deck == deck then record file { position = unheld file.position } else file

abbrev pub unheld_in : ℕ → List FilePosition → List FilePosition
unheld_in deck files = map (unheld_of deck) files

-- its deck's next unit begins
abbrev pub with_next : ℕ → State → State
with_next at state = record state {
  numbers = λ deck. if deck == at then state.numbers deck + 1 else state.numbers deck;
}

-- the contents of some parts
abbrev pub kept_in : List ℕ → List (ℕ × Content) → List (ℕ × Content)
kept_in parts contents = filter (λ (held : ℕ × Content). has_part parts held.0) contents

abbrev pub with_parts : List ℕ → State → State
with_parts parts state = record state {
  contents = λ part. if has_part parts part then state.contents part else [];
}

-- the areas of some parts
abbrev pub with_areas : List ℕ → State → State
with_areas parts state =
    record state { owned = filter (λ area. has_part parts area.part) state.owned }

-- what the catalog hasn't goes
abbrev pub given_back : State → State
given_back state =
    with_areas (parts_laid (catalog_of state)) (with_parts (parts_in (catalog_of state)) state)
