-- The volume on which a DEFINE CLUSTER defines. VOLUMES is a parameter of Access Method Services
-- Commands; that it names one serial, that `*` is the lowest volume, and that without it a cluster
-- is defined on volume 0, are this project's own.
use Rattle.std.specs.Prelude.{ℕ, Bool, ◌==◌, ◌||◌, List, take, Option, Some, None, codes, bytes_eq}
use Rattle.std.specs.List.{find, range_with_len}
use Rattle.vr_attach.specs.Header.{serial_of}

-- the serial of a volume of this number, without the blank that fills it
abbrev pub short_serial : ℕ → List ℕ
short_serial number = take 5 (serial_of number)

-- whether a cluster may be defined on the volume of this number
abbrev pub may_define_on : Option (List ℕ) → ℕ → Bool
may_define_on None number = number == 0
may_define_on (Some text) number = bytes_eq text (codes "*") || bytes_eq text (short_serial number)

-- the lowest of this many volumes on which it may
abbrev pub chosen : ℕ → Option (List ℕ) → Option ℕ
chosen count volume = find (may_define_on volume) (range_with_len 0 count)
