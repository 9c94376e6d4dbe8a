-- Worked lines: what the definitions make of a few records, some of them of the lengths at which a
-- line ends.
use Rattle.std.proofs.Common.{◌≡◌, [], ◌∷◌, ◌++◌, codes, refl}
use Rattle.std.specs.Fmt.{digits}
use Rattle.std.specs.Prelude.{replicate}
use Rattle.vr_types.specs.Fields.{four_at}
use Rattle.vr_types.specs.declared.unit.Kind.TheVariants.{Keyed, Entry, Relative}
use Rattle.vr_amsparse.specs.declared.command.PrintForm.TheVariants.{Character, Hex, Dump}
use Rattle.vr_ams_print.specs.Lines.{lines_of, line_of}
use Rattle.vr_ams_print.specs.Record.{place_line, record_text, printed_line}

-- a key-sequenced record, a line of DUMP long
full_line : record_text Keyed (codes "K001") Dump (codes "K001ABCDEFGHIJKL")
    ≡ codes "KEY C'K001'" ++ 10 ∷ []
    ++ codes "000000 4B303031 41424344 45464748 494A4B4C *K001ABCDEFGHIJKL*" ++ 10 ∷ []
full_line = refl

-- 17 bytes, the last of which can't be printed
two_lines : lines_of Dump (codes "K001ABCDEFGHIJKL" ++ 255 ∷ [])
    ≡ codes "000000 4B303031 41424344 45464748 494A4B4C *K001ABCDEFGHIJKL*" ++ 10 ∷ []
    ++ codes "000010 FF                                  *.               *" ++ 10 ∷ []
two_lines = refl

-- the last line of a record of 32,757 bytes
far_line : line_of Dump (record { offset = 32752; bytes = 0 ∷ 31 ∷ 32 ∷ 126 ∷ 127 ∷ [] })
    ≡ codes "007FF0 001F207E 7F                         *.. ~.           *" ++ 10 ∷ []
far_line = refl

-- 61 bytes in digits
digit_lines : lines_of Hex (replicate 61 10)
    ≡ codes "0A0A0A0A0A0A0A0A0A0A0A0A0A0A0A0A0A0A0A0A0A0A0A0A0A0A0A0A0A0A"
    ++ codes "0A0A0A0A0A0A0A0A0A0A0A0A0A0A0A0A0A0A0A0A0A0A0A0A0A0A0A0A0A0A" ++ 10 ∷ []
    ++ codes "0A" ++ 10 ∷ []
digit_lines = refl

-- 121 bytes as characters
character_lines : lines_of Character (replicate 60 65 ++ replicate 60 32 ++ 126 ∷ [])
    ≡ replicate 60 65 ++ replicate 60 32 ++ 10 ∷ [] ++ codes "~" ++ 10 ∷ []
character_lines = refl

-- a record without bytes has the line of its place alone
no_line : record_text Relative (0 ∷ 0 ∷ 1 ∷ 7 ∷ []) Hex [] ≡ codes "RRN 263" ++ 10 ∷ []
unfolding digits four_at
no_line = refl

address_line : place_line Entry (0 ∷ 1 ∷ 0 ∷ 0 ∷ []) ≡ codes "RBA 65536" ++ 10 ∷ []
unfolding digits four_at
address_line = refl

count_line : printed_line 18446744073709551615 ≡ codes "PRINTED 18446744073709551615" ++ 10 ∷ []
unfolding digits
count_line = refl
