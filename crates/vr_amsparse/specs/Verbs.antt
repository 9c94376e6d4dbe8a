-- The words that begin commands, the words after DEFINE, and the comparisons of IF, as Access Method
-- Services Commands has them.
use Rattle.std.specs.Prelude.{ℕ, Bool, ◌||◌, List, [], ◌∷◌, Option, Some, None, codes, bytes_eq}
use Rattle.std.specs.Prelude.{if◌then◌else◌}
use Rattle.std.specs.List.{find}
use Rattle.std.specs.Option.{option_map}
use Rattle.vr_amsparse_grammar.specs.declared.section.Section.{Section}
use Rattle.vr_amsparse_grammar.specs.declared.section.Section.TheVariants as lists
use Rattle.vr_amsparse_grammar.specs.Rows.{is_column_of}
use Rattle.vr_amsparse.specs.declared.command.CodeVariable.{CodeVariable}
use Rattle.vr_amsparse.specs.declared.command.CodeVariable.TheVariants.{LastCode, MaxCode}
use Rattle.vr_amsparse.specs.declared.command.Comparison.{Comparison}
use Rattle.vr_amsparse.specs.declared.command.Comparison.TheVariants.{Equal, NotEqual, Greater, Less}
use Rattle.vr_amsparse.specs.declared.command.Comparison.TheVariants.{NotLess, NotGreater}
use Rattle.vr_amsparse.specs.declared.verb.Verb.{Verb}
use Rattle.vr_amsparse.specs.declared.verb.Verb.TheVariants as verbs
use Rattle.vr_amsparse.specs.declared.verb.VerbRow.{VerbRow}
use Rattle.vr_amsparse.specs.declared.verb.ObjectRow.{ObjectRow}
use Rattle.vr_amsparse.specs.declared.verb.ComparisonRow.{ComparisonRow}

-- a command in its long and in its short form, each filled with blanks
abbrev pub verb_row : List ℕ → List ℕ → Verb → VerbRow
verb_row long short verb = record { long = long; short = short; verb = verb }

abbrev pub verb_rows : List VerbRow
verb_rows =
    verb_row (codes "DEFINE  ") (codes "DEF  ") verbs.Define
    ∷ verb_row (codes "ALTER   ") (codes "     ") (verbs.Named lists.Alter)
    ∷ verb_row (codes "DELETE  ") (codes "DEL  ") (verbs.Named lists.Delete)
    ∷ verb_row (codes "REPRO   ") (codes "     ") (verbs.Listed lists.Repro)
    ∷ verb_row (codes "BLDINDEX") (codes "BIX  ") (verbs.Listed lists.BuildIndex)
    ∷ verb_row (codes "PRINT   ") (codes "     ") (verbs.Listed lists.Print)
    ∷ verb_row (codes "LISTCAT ") (codes "LISTC") (verbs.Listed lists.ListCatalog)
    ∷ verb_row (codes "VERIFY  ") (codes "     ") (verbs.Listed lists.Verify)
    ∷ verb_row (codes "EXAMINE ") (codes "     ") (verbs.Listed lists.Examine)
    ∷ verb_row (codes "IF      ") (codes "     ") verbs.If
    ∷ verb_row (codes "SET     ") (codes "     ") verbs.Set
    ∷ verb_row (codes "ELSE    ") (codes "     ") verbs.Else
    ∷ verb_row (codes "DO      ") (codes "     ") verbs.Do
    ∷ verb_row (codes "END     ") (codes "     ") verbs.End ∷ []

-- what DEFINE defines, in both forms
abbrev pub object_row : List ℕ → List ℕ → Section → ObjectRow
object_row long short section = record { long = long; short = short; section = section }

abbrev pub object_rows : List ObjectRow
object_rows =
    object_row (codes "CLUSTER       ") (codes "CL  ") lists.Cluster
    ∷ object_row (codes "ALTERNATEINDEX") (codes "AIX ") lists.Alternate
    ∷ object_row (codes "PATH          ") (codes "    ") lists.Path ∷ []

-- a comparison, as a sign and as a word
abbrev pub comparison_row : List ℕ → List ℕ → Comparison → ComparisonRow
comparison_row sign word comparison =
    record { sign = sign; word = word; comparison = comparison }

abbrev pub comparison_rows : List ComparisonRow
comparison_rows =
    comparison_row (codes "= ") (codes "EQ") Equal
    ∷ comparison_row (codes "  ") (codes "NE") NotEqual
    ∷ comparison_row (codes "> ") (codes "GT") Greater
    ∷ comparison_row (codes "< ") (codes "LT") Less
    ∷ comparison_row (codes ">=") (codes "GE") NotLess
    ∷ comparison_row (codes "<=") (codes "LE") NotGreater ∷ []

-- the word is one of the two forms of the row
abbrev pub is_verb_row : List ℕ → VerbRow → Bool
is_verb_row word row = is_column_of row.long word || is_column_of row.short word

-- the command that a word begins
abbrev pub verb_named : List ℕ → Option Verb
verb_named word = option_map (λ row. row.verb) (find (is_verb_row word) verb_rows)

abbrev pub is_object_row : List ℕ → ObjectRow → Bool
is_object_row word row = is_column_of row.long word || is_column_of row.short word

-- what DEFINE defines by a word: the list of parameters that follows it
abbrev pub object_named : List ℕ → Option Section
object_named word = option_map (λ row. row.section) (find (is_object_row word) object_rows)

abbrev pub is_comparison_row : List ℕ → ComparisonRow → Bool
is_comparison_row text row = is_column_of row.sign text || is_column_of row.word text

-- the comparison that a sign or a word says
abbrev pub comparison_named : List ℕ → Option Comparison
comparison_named text = option_map (λ row. row.comparison) (find (is_comparison_row text)
    comparison_rows)

-- LASTCC and MAXCC
abbrev pub variable_named : List ℕ → Option CodeVariable
variable_named word =
    if bytes_eq word (codes "LASTCC") then Some LastCode else (if bytes_eq word (codes "MAXCC") then
    Some MaxCode else None)
