-- Worked selections: which records PRINT prints of three, and what it prints of one, as the
-- definitions have it.
use Rattle.std.proofs.Common.{◌≡◌, true, List, [], ◌∷◌, ◌++◌, codes, refl}
use Rattle.std.specs.Fmt.{digits}
use Rattle.vr_types.specs.Fields.{four_at}
use Rattle.vr_types.specs.declared.unit.Kind.TheVariants.{Keyed, Relative}
use Rattle.vr_amsparse.specs.declared.command.From.TheVariants as first
use Rattle.vr_amsparse.specs.declared.command.PrintForm.TheVariants.{Character, Dump, Hex}
use Rattle.vr_amsparse.specs.declared.command.To.TheVariants as last
use Rattle.vr_trace.specs.Visitors.{Visited}
use Rattle.vr_ams_print.specs.Outcomes.{records_line}
use Rattle.vr_ams_print.specs.Printed.{has_keys, print_lines, printed}

abbrev a : Visited
a = (codes "A1", codes "A1 ONE")

abbrev b : Visited
b = (codes "A2", codes "A2 TWO")

abbrev c : Visited
c = (codes "B1", codes "B1 THREE")

abbrev all : List Visited
all = a ∷ b ∷ c ∷ []

-- without parameters, and with SKIP and COUNT
all_of_them : printed first.Start last.End all ≡ all
all_of_them = refl

one_is_skipped : printed (first.Skip 1) last.End all ≡ b ∷ c ∷ []
one_is_skipped = refl

two_are_counted : printed first.Start (last.Count 2) all ≡ a ∷ b ∷ []
two_are_counted = refl

one_after_one : printed (first.Skip 1) (last.Count 1) all ≡ b ∷ []
one_after_one = refl

-- more are skipped or counted than there are
more_are_skipped : printed (first.Skip 4) last.End all ≡ []
more_are_skipped = refl

more_are_counted : printed (first.Skip 2) (last.Count 9) all ≡ c ∷ []
more_are_counted = refl

none_is_counted : printed first.Start (last.Count 0) all ≡ []
none_is_counted = refl

-- up to and with TOKEY; one that no record has, and a short one, of which `A` begins two keys
to_the_key : printed first.Start (last.Key (codes "A2")) all ≡ a ∷ b ∷ []
to_the_key = refl

to_a_key_between : printed first.Start (last.Key (codes "A9")) all ≡ a ∷ b ∷ []
to_a_key_between = refl

to_a_short_key : printed first.Start (last.Key (codes "A")) all ≡ a ∷ b ∷ []
to_a_short_key = refl

to_no_key : printed first.Start (last.Key (codes "A0")) all ≡ []
to_no_key = refl

-- from FROMKEY on the volume hands the records over
from_the_key : printed (first.Key (codes "A2")) (last.Key (codes "B")) (b ∷ c ∷ []) ≡ b ∷ c ∷ []
from_the_key = refl

keys_are_asked : has_keys (first.Skip 1) (last.Key (codes "A")) ≡ true
keys_are_asked = refl

-- the lines of a key-sequenced data set in each form, of a relative one, and of one without records
in_characters : print_lines Keyed Character (a ∷ b ∷ [])
    ≡ codes "KEY C'A1'" ++ 10 ∷ [] ++ codes "A1 ONE" ++ 10 ∷ []
    ++ codes "KEY C'A2'" ++ 10 ∷ [] ++ codes "A2 TWO" ++ 10 ∷ []
    ++ codes "PRINTED 2" ++ 10 ∷ []
unfolding digits
in_characters = refl

in_digits : print_lines Relative Hex ((0 ∷ 0 ∷ 0 ∷ 7 ∷ [], codes "SLOT") ∷ [])
    ≡ codes "RRN 7" ++ 10 ∷ [] ++ codes "534C4F54" ++ 10 ∷ [] ++ codes "PRINTED 1" ++ 10 ∷ []
unfolding digits four_at
in_digits = refl

in_both : print_lines Keyed Dump ((codes "K001", codes "K001ABCDEFGHIJKL") ∷ [])
    ≡ codes "KEY C'K001'" ++ 10 ∷ []
    ++ codes "000000 4B303031 41424344 45464748 494A4B4C *K001ABCDEFGHIJKL*" ++ 10 ∷ []
    ++ codes "PRINTED 1" ++ 10 ∷ []
unfolding digits
in_both = refl

without_records : print_lines Keyed Dump [] ≡ codes "PRINTED 0" ++ 10 ∷ []
unfolding digits
without_records = refl

-- VERIFY
of_forty : records_line 40 ≡ codes "RECORDS 40" ++ 10 ∷ []
unfolding digits
of_forty = refl
