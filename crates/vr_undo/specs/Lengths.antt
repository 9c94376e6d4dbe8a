-- Lengths for which there is room: the longest at a place, and the records that are short enough.
use Rattle.std.specs.Prelude.{ℕ, ◌<◌, ◌^◌, List, length, max, Option, Some, None, All}
use Rattle.std.specs.Prelude.{◌==◌, ◌&&◌}
use Rattle.std.specs.Ordering.{is_eq}
use Rattle.std.specs.declared.cmp.Ordering.{Ordering}
use Rattle.std.specs.declared.cmp.Ordering.TheVariants.{Less, Equal, Greater}
use Rattle.std.specs.Prelude.{Bool, true, false}
use Rattle.vr_types.specs.Content.{place_cmp}
use Rattle.vr_space.specs.Whence.{allows}
use Rattle.vr_space.specs.declared.whence.Whence.{Whence}
use Rattle.vr_undo.specs.declared.before.Before.{Before}
use Rattle.vr_undo.specs.declared.record.KeptRecord.{KeptRecord}

-- a record has fewer than 2 ^ 32 bytes
abbrev pub IsShortOld : Option (List ℕ) → Type 0
IsShortOld None = Unit {0}
IsShortOld (Some bytes) = length bytes < 2 ^ 32

abbrev pub IsShortBefore : Option Before → Type 0
IsShortBefore None = Unit {0}
IsShortBefore (Some before) = IsShortOld before.old

abbrev pub IsShort : KeptRecord → Type 0
IsShort kept = IsShortBefore kept.logged

abbrev pub AreShort : List KeptRecord → Type 0
AreShort records = All IsShort records

-- the longer of two lengths
abbrev pub longer : Option ℕ → Option ℕ → Option ℕ
longer None other = other
longer (Some one) None = Some one
longer (Some one) (Some other) = Some (max one other)

-- the lesser of two places
abbrev pub lesser_by : Ordering → List ℕ → List ℕ → List ℕ
lesser_by Less one other = one
lesser_by Equal one other = one
lesser_by Greater one other = other

abbrev pub lesser : Option (List ℕ) → Option (List ℕ) → Option (List ℕ)
lesser None other = other
lesser (Some one) None = Some one
lesser (Some one) (Some other) = Some (lesser_by (place_cmp one other) one other)

-- ---- what one before-image adds

abbrev pub length_when : Bool → Option (List ℕ) → Option ℕ
length_when true None = None
length_when true (Some bytes) = Some (length bytes)
length_when false old = None

abbrev pub is_there : ℕ → List ℕ → Before → Bool
is_there part place before = before.part.0 == part && is_eq (place_cmp place before.place)

-- the length of its record at a place
abbrev pub length_there : ℕ → List ℕ → Option Before → Option ℕ
length_there part place None = None
length_there part place (Some before) = length_when (is_there part place before) before.old

abbrev pub place_when : Bool → List ℕ → Option (List ℕ) → Option (List ℕ)
place_when true place None = None
place_when true place (Some bytes) = Some place
place_when false place old = None

-- the place of its record, where a search may find it
abbrev pub place_allowed : ℕ → Whence → Option Before → Option (List ℕ)
place_allowed part from None = None
place_allowed part from (Some before) =
    place_when (before.part.0 == part && allows from before.place) before.place before.old
