-- One part's content, one file's position or one deck's number written into a state.
use Rattle.std.specs.Prelude.{ℕ, ◌==◌, ◌&&◌, if◌then◌else◌}
use Rattle.vr_types.specs.Content.{Content}
use Rattle.vr_types.specs.declared.position.Position.{Position}
use Rattle.vr_history.specs.State.{State}

abbrev pub with_content : ℕ → Content → State → State
with_content at content state =
    record state { contents = λ part. if part == at then content else state.contents part }

abbrev pub with_position : ℕ → ℕ → Position → State → State
with_position at file position state = record state {
  positions = λ deck slot.
      if deck == at && slot == file then position else state.positions deck slot;
}

abbrev pub with_number : ℕ → ℕ → State → State
with_number at number state =
    record state { numbers = λ deck. if deck == at then number else state.numbers deck }
