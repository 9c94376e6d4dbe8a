-- What is kept: nothing, or one length at one place.
use Rattle.std.specs.Prelude.{[], ◌∷◌}
use Rattle.std.specs.List.Sorted.{IsStrictlySortedBy}
use Rattle.vr_space.specs.Room.{Lengths, AscendLengths}
use Rattle.vr_keyed_cases.specs.declared.one_kept.OneKept.{OneKept}
use Rattle.vr_keyed_cases.specs.declared.one_kept.OneKept.TheVariants.{Nothing, One}

abbrev pub lengths_kept : OneKept → Lengths
lengths_kept Nothing = []
lengths_kept (One place length) = (place, length) ∷ []

pub one_ascends : (kept : OneKept) → AscendLengths (lengths_kept kept)
unfolding IsStrictlySortedBy
one_ascends Nothing = tt
one_ascends (One place length) = (tt, tt)
