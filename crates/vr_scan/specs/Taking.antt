-- What the private functions that read a piece of a text answer.
use Rattle.std.specs.Prelude.{◌≡◌, ℕ, ◌+◌, ◌*◌, ◌<◌, ◌≤◌, ◌&&◌, Bool, true, false, if◌then◌else◌}
use Rattle.std.specs.Prelude.{Option, Some, None, List, [], ◌∷◌, ◌++◌, length, drop}
use Rattle.std.specs.Char.{digit_value}
use Rattle.vr_scan.specs.declared.mark.Mark.{Mark}
use Rattle.vr_scan.specs.declared.class.Class.{Class}
use Rattle.vr_scan.specs.declared.literal.Digits.{Digits}
use Rattle.vr_scan.specs.declared.literal.Digits.TheVariants.{Closed, Bad}
use Rattle.vr_scan.specs.declared.literal.Digits.TheVariants.{Open as OpenDigits}
use Rattle.vr_scan.specs.declared.fault.ScanFault.{ScanFault}
use Rattle.vr_scan.specs.declared.fault.ScanFault.TheVariants.{Form, Memory}
use Rattle.vr_scan.specs.TokensHeld.{TokensSoFar}
use Rattle.vr_scan.specs.Piece.{Piece, IsPieceOf, IsFaultOf, IsClosed, Spells, byte_of, is_digit}
use Rattle.vr_scan.specs.Piece.{IsByte, is_inner, first_bad, inner, after_inner, paired, word}
use Rattle.vr_scan.specs.Piece.{after_word}
use Rattle.vr_scan.specs.Scan.{added, opened}

-- A piece that begins with a mark of this class, before this text, was read, and its tokens were
-- added.
pub record TakesPiece (class : Class) (mark : Mark) (text rest : List Mark)
    (before after : TokensSoFar) (begun begun_after : Bool) : Type 0 where
  pub piece : Piece
  pub is_piece : IsPieceOf class mark text piece rest
  pub tokens : after ≡ record { tokens = before.tokens ++ added begun piece; text = [] }
  pub begun_is : begun_after ≡ opened begun piece
  pub shorter : length rest ≤ length text

-- what begins with a mark of this class has this fault; memory may run out at any time
abbrev pub IsFaultAt : Class → Mark → List Mark → ScanFault → Type 0
IsFaultAt class mark text (Form fault) = IsFaultOf class mark text fault
IsFaultAt class mark text Memory = Unit {0}

-- the byte that two digits spell
abbrev pub pair_value : Option Mark → Option Mark → Option ℕ
pair_value None second = None
pair_value (Some high) None = None
pair_value (Some high) (Some low) =
    if is_digit high && is_digit low
    then Some (16 * digit_value (byte_of high.sign) + digit_value (byte_of low.sign))
    else None

-- there is a mark, and it is a character other than a quote
abbrev pub is_inner_mark : Option Mark → Bool
is_inner_mark None = false
is_inner_mark (Some mark) = is_inner mark.sign

-- what isn't a digit, or has no partner, of the first two marks, which aren't a pair of digits
abbrev pub bad_of : Option Mark → Option Mark → Option Mark
bad_of None second = None
bad_of (Some first) second =
    if is_inner first.sign
    then (if is_digit first && is_inner_mark second then second else Some first)
    else None

-- the next character of a word, if it goes on
abbrev pub IsNextOfWord : List Mark → Option Mark → Type 0
IsNextOfWord all None = (word all ≡ []) × (after_word all ≡ all)
IsNextOfWord all (Some mark) = (word all ≡ mark ∷ word (drop 1 all))
    × (after_word all ≡ after_word (drop 1 all)) × (0 < length all)

-- the next byte of C'..', if there is one
abbrev pub IsNextByte : List Mark → List Mark → Option ℕ → Type 0
IsNextByte all rest None = (b : ℕ) (left : List Mark) → IsByte b all left → ⊥
IsNextByte all rest (Some b) = IsByte b all rest

-- what became of the digits of X'..'
abbrev pub IsDigits : List Mark → List Mark → List ℕ → List ℕ → Digits → Type 0
IsDigits all rest before after Closed =
    IsClosed all × (first_bad (inner all) ≡ None) × (rest ≡ drop 1 (after_inner all))
    × (after ≡ before ++ paired (inner all))
IsDigits all rest before after OpenDigits = ¬ IsClosed all
IsDigits all rest before after (Bad mark) = IsClosed all × (first_bad (inner all) ≡ Some mark)

-- what became of the characters of C'..': whether it is closed
abbrev pub IsQuoted : List Mark → List Mark → List ℕ → List ℕ → Bool → Type 0
IsQuoted all rest before after true = (bytes : List ℕ) × Spells all bytes rest
    × (after ≡ before ++ bytes)
IsQuoted all rest before after false = (bytes : List ℕ) (left : List Mark) → Spells all bytes left
    → ⊥
