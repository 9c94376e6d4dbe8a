use Rattle.std.proofs.Common.{◌≡◌, drop}
use Rattle.std.specs.List.{list_all}
use Rattle.vr_ams_define.specs.Altered.{is_sound}
use Rattle.vr_ams_define.proofs.gone.are_sound.Given as goal

-- those that are left decide
abbrev pub invariant-loop-entry : goal.invariant-loop-entry
invariant-loop-entry l =
    list_all (is_sound l.entries) (drop l.entry-index l.gone)
    ≡ list_all (is_sound l.fn.entries) l.fn.gone
