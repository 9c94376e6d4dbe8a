-- The IFs that are open, innermost first. ELSE belongs to the nearest IF whose branch of THEN has just
-- ended, DO and END to each other, as Access Method Services Commands says.
use Rattle.std.specs.Prelude.{ℕ, Bool, true, false, List, [], ◌∷◌, Option, Some, None, if◌then◌else◌}
use Rattle.vr_amsparse.specs.declared.command.Branch.{Branch}
use Rattle.vr_amsparse.specs.declared.command.Branch.TheVariants.{Else}
use Rattle.vr_amsparse.specs.declared.opens.Open.{Open}
use Rattle.vr_amsparse.specs.declared.opens.Stage.{Stage}
use Rattle.vr_amsparse.specs.declared.opens.Stage.TheVariants.{Single, Group, Done}

abbrev pub top_of : List Open → Option Open
top_of [] = None
top_of (one ∷ opens) = Some one

abbrev pub without_top : List Open → List Open
without_top [] = []
without_top (one ∷ opens) = opens

abbrev pub with_top : Open → List Open → List Open
with_top new [] = []
with_top new (one ∷ opens) = new ∷ opens

-- the end of a command ends this IF too: it is in the single command of ELSE
abbrev pub ends_in : Branch → Stage → Bool
ends_in Else Single = true
ends_in branch stage = false

abbrev pub ends_if : Open → Bool
ends_if one = ends_in one.branch one.stage

-- an IF whose branch of THEN is complete, if it was in its single command
abbrev pub marked_stage : Stage → Stage
marked_stage Single = Done
marked_stage (Group at) = Group at
marked_stage Done = Done

abbrev pub marked : Open → Open
marked one = record { node = one.node; branch = one.branch; stage = marked_stage one.stage }

-- the open IFs after the end of a command
abbrev pub completed : List Open → List Open
completed [] = []
completed (one ∷ opens) = if ends_if one then completed opens else marked one ∷ opens

abbrev pub is_group_stage : Stage → Bool
is_group_stage (Group at) = true
is_group_stage stage = false

abbrev pub is_group : Open → Bool
is_group one = is_group_stage one.stage

abbrev pub is_done_stage : Stage → Bool
is_done_stage Done = true
is_done_stage stage = false

abbrev pub is_done : Open → Bool
is_done one = is_done_stage one.stage

-- without those up to the innermost one that is in a group
abbrev pub dropped : List Open → List Open
dropped [] = []
dropped (one ∷ opens) = if is_group one then one ∷ opens else dropped opens

-- where something else follows than ELSE, which might have come, IFs are complete
abbrev pub settled : List Open → List Open
settled [] = []
settled (one ∷ opens) = if is_done one then dropped (one ∷ opens) else one ∷ opens

-- the token DO of a group, or else another one
abbrev pub group_in : Stage → Option ℕ → Option ℕ
group_in (Group at) other = Some at
group_in stage other = other

abbrev pub group_or : Open → Option ℕ → Option ℕ
group_or one other = group_in one.stage other

-- the token DO of the outermost group, or else another one
abbrev pub group_after : Option ℕ → List Open → Option ℕ
group_after found [] = found
group_after found (one ∷ opens) = group_after (group_or one found) opens

abbrev pub last_group : List Open → Option ℕ
last_group opens = group_after None opens
