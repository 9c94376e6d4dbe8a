-- What a text begins with, after Access Method Services Commands. That a letter before a quote may
-- be in either case is this project's own rule, as words are read in either case.
use Rattle.std.specs.Prelude.{ℕ, ◌==◌, ◌||◌, ◌&&◌, Bool, true, false, if◌then◌else◌, Option}
use Rattle.std.specs.Prelude.{Some, None, List, slice_get}
use Rattle.std.specs.Char.{to_ascii_uppercase}
use Rattle.vr_scan.specs.declared.mark.Mark.{Mark}
use Rattle.vr_scan.specs.declared.mark.Sign.{Sign}
use Rattle.vr_scan.specs.declared.mark.Sign.TheVariants.{Character, LineEnd}
use Rattle.vr_scan.specs.declared.mark.Sign.TheVariants.{OpenEnd as OpenEndSign}
use Rattle.vr_scan.specs.declared.class.Class.{Class}
use Rattle.vr_scan.specs.declared.class.Class.TheVariants.{Gap, Comment, Stop, LeftParenthesis}
use Rattle.vr_scan.specs.declared.class.Class.TheVariants.{RightParenthesis, Comparison}
use Rattle.vr_scan.specs.declared.class.Class.TheVariants.{QuotedCharacters, QuotedDigits, Word}
use Rattle.vr_scan.specs.declared.class.Class.TheVariants.{OpenEnd}

-- the sign is this character
abbrev pub is_sign : ℕ → Sign → Bool
is_sign b (Character c) = c == b
is_sign b LineEnd = false
is_sign b OpenEndSign = false

-- there is a mark, and it is this character
abbrev pub is_mark : ℕ → Option Mark → Bool
is_mark b None = false
is_mark b (Some mark) = is_sign b mark.sign

-- the text begins with this character
abbrev pub begins : ℕ → List Mark → Bool
begins b text = is_mark b (slice_get text 0)

-- What a character begins, given whether `*`, and whether a quote, comes after it.
abbrev pub class_of_character : ℕ → Bool → Bool → Class
class_of_character b star quote =
    if b == 32 || b == 44 then Gap
    else (if b == 47 && star then Comment
    else (if b == 59 then Stop
    else (if b == 40 then LeftParenthesis
    else (if b == 41 then RightParenthesis
    else (if b == 61 || b == 60 || b == 62 then Comparison
    else (if to_ascii_uppercase b == 67 && quote then QuotedCharacters
    else (if to_ascii_uppercase b == 88 && quote then QuotedDigits
    else Word)))))))

abbrev pub class_of_sign : Sign → Bool → Bool → Class
class_of_sign (Character b) star quote = class_of_character b star quote
class_of_sign LineEnd star quote = Stop
class_of_sign OpenEndSign star quote = OpenEnd

-- what a mark begins, before this text
abbrev pub class_of : Mark → List Mark → Class
class_of mark text = class_of_sign mark.sign (begins 42 text) (begins 39 text)

-- A word goes on up to a blank, a comma, a comment, an end, a parenthesis or a comparison. A quote
-- within a word is a character of the word.
abbrev pub goes_on : Class → Bool
goes_on Gap = false
goes_on Comment = false
goes_on Stop = false
goes_on LeftParenthesis = false
goes_on RightParenthesis = false
goes_on Comparison = false
goes_on QuotedCharacters = true
goes_on QuotedDigits = true
goes_on Word = true
goes_on OpenEnd = false
