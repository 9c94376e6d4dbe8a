-- Names of data sets, as Using Data Sets gives them: up to 44 bytes, qualifiers of 1 to 8 joined by
-- dots.
use Rattle.std.specs.Prelude.{◌≡◌, ◌≢◌, ℕ, ◌<◌, ◌≤◌, Bool, true, false, not, ◌==◌, ◌||◌, ◌&&◌}
use Rattle.std.specs.Prelude.{if◌then◌else◌, nat_lt, List, [], length, map, take, slice_index}
use Rattle.std.specs.List.{suffix_len}
use Rattle.std.specs.Char.{is_ascii_alphabetic, is_ascii_alphanumeric, to_ascii_uppercase}
use Rattle.vr_types.specs.declared.name.NameFault.{NameFault}
use Rattle.vr_types.specs.declared.name.NameFault.TheVariants.{Empty, TooLong, Qualifier, Memory}

-- one of the three characters that count as letters: @ # $
abbrev pub is_national : ℕ → Bool
is_national b = b == 64 || b == 35 || b == 36

-- a qualifier begins with a letter
abbrev pub begins_qualifier : ℕ → Bool
begins_qualifier b = is_ascii_alphabetic b || is_national b

-- and goes on with letters, digits and hyphens
abbrev pub continues_qualifier : ℕ → Bool
continues_qualifier b = is_ascii_alphanumeric b || is_national b || b == 45

-- whether a byte may come after `column` bytes of its qualifier
abbrev pub fits_column : ℕ → ℕ → Bool
fits_column column b =
    if column == 0 then begins_qualifier b else (b == 46
    || (nat_lt column 8 && continues_qualifier b))

-- how many bytes of its qualifier come before byte i: those since the last dot
abbrev pub column_at : List ℕ → ℕ → ℕ
column_at text i = suffix_len (λ b. not (b == 46)) (take i text)

-- byte i may be where it is; at the end, no qualifier is left empty
abbrev pub is_right_at : List ℕ → ℕ → Bool
is_right_at text i =
    if nat_lt i (length text) then fits_column (column_at text i) (slice_index text i) else nat_lt 0
    (column_at text i)

-- the text is the name of a data set, in capitals or not
pub record IsDatasetName (text : List ℕ) : Type 0 where
  pub some : text ≢ []
  pub short : length text ≤ 44
  pub right : (i : ℕ) → i ≤ length text → is_right_at text i ≡ true

-- the first byte that may not be where it is, or the end of a text that leaves a qualifier empty
pub record IsFirstBad (text : List ℕ) (at : ℕ) : Type 0 where
  pub within : at ≤ length text
  pub before : (i : ℕ) → i < at → is_right_at text i ≡ true
  pub bad : is_right_at text at ≡ false

-- a name is kept in capitals
abbrev pub in_capitals : List ℕ → List ℕ
in_capitals text = map to_ascii_uppercase text

-- When each fault comes. The causes exclude one another, and memory runs out only over a name.
abbrev pub CauseOf : List ℕ → NameFault → Type 0
CauseOf text Empty = text ≡ []
CauseOf text (TooLong n) = (44 < length text) × (n ≡ length text)
CauseOf text (Qualifier at) = (text ≢ []) × (length text ≤ 44) × IsFirstBad text at
CauseOf text Memory = IsDatasetName text
