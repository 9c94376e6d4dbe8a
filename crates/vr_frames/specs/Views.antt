-- What the holder of a seat knows. These rules are this project's own.
use Rattle.std.specs.Prelude.{ℕ, ◌+◌, ◌-◌, ◌==◌, List, [], ◌++◌, not, count_by, filter, nat_lt}
use Rattle.std.specs.Prelude.{if◌then◌else◌}
use Rattle.vr_frames.specs.declared.view.View.{View}

-- how often the frame stands in the list
abbrev pub times : ℕ → List ℕ → ℕ
times frame frames = count_by (λ x. x == frame) frames

-- 1 for a frame from `first` up to `end`, and 0 for any other
abbrev pub tries : ℕ → ℕ → ℕ → ℕ
tries first end frame = if nat_lt frame first then 0 else (if nat_lt frame end then 1 else 0)

-- the list without the frame
abbrev pub without : ℕ → List ℕ → List ℕ
without frame frames = filter (λ x. not (x == frame)) frames

abbrev pub view_with : ℕ → ℕ → List ℕ → List ℕ → List ℕ → View
view_with size parts frames moving failed =
    record { size = size; parts = parts; frames = frames; moving = moving; failed = failed }

-- the view of the first seat: it has all 1,024 parts
abbrev pub first_view : ℕ → View
first_view size = view_with size 1024 [] [] []

-- the view of a seat that was joined away
abbrev pub nobody : View
nobody = view_with 0 0 [] [] []

-- what stays with a seat that gives up one of its parts
abbrev pub one_less : View → View
one_less view = view_with view.size (view.parts - 1) view.frames view.moving view.failed

-- the view of the seat that gets that part: it has no frame and has tried for none
abbrev pub newcomer : View → View
newcomer view = view_with view.size 1 [] [] []

-- all that two seats have
abbrev pub joined : View → View → View
joined view other =
    view_with view.size (view.parts + other.parts)
    (view.frames ++ other.frames) (view.moving ++ other.moving) (view.failed ++ other.failed)
