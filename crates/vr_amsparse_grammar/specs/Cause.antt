-- The numbers of the causes for which a command text is refused. They are this project's own.
use Rattle.std.specs.Prelude.{ℕ}
use Rattle.vr_amsparse_grammar.specs.declared.cause.AmsCause.{AmsCause}
use Rattle.vr_amsparse_grammar.specs.declared.cause.AmsCause.TheVariants as causes

abbrev pub cause_number : AmsCause → ℕ
cause_number causes.UnknownCommand = 1
cause_number causes.ParenthesisMissing = 2
cause_number causes.UnknownParameter = 3
cause_number causes.ParameterTwice = 4
cause_number causes.ParametersExclude = 5
cause_number causes.ParameterMissing = 6
cause_number causes.BadName = 7
cause_number causes.BadNumber = 8
cause_number causes.NumberOutOfRange = 9
cause_number causes.WrongCount = 10
cause_number causes.BadLiteral = 11
cause_number causes.LeftOut = 12
cause_number causes.ThenMissing = 13
cause_number causes.ElseAlone = 14
cause_number causes.DoOrEndAlone = 15
cause_number causes.TooManyIfs = 16
cause_number causes.NoSuchData = 17
cause_number causes.TextAfterEnd = 18
