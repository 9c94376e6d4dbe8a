-- LASTCC and MAXCC, and what IF and SET do with them, after Access Method Services Commands. That
-- SET LASTCC raises MAXCC, and that SET MAXCC leaves LASTCC, are this project's own.
use Rattle.std.specs.Prelude.{ℕ, max, min, Bool, not, ◌==◌, nat_lt, nat_le}
use Rattle.vr_amsparse.specs.declared.command.CodeVariable.{CodeVariable}
use Rattle.vr_amsparse.specs.declared.command.CodeVariable.TheVariants.{LastCode, MaxCode}
use Rattle.vr_amsparse.specs.declared.command.Comparison.{Comparison}
use Rattle.vr_amsparse.specs.declared.command.Comparison.TheVariants.{Equal, NotEqual, Greater}
use Rattle.vr_amsparse.specs.declared.command.Comparison.TheVariants.{Less, NotLess, NotGreater}
use Rattle.vr_amsparse.specs.declared.command.Condition.{Condition}
use Rattle.vr_amsparse.specs.declared.command.Setting.{Setting}
use Rattle.vr_ams_run.specs.declared.codes.Codes.{Codes}

-- before the first command
abbrev pub no_codes : Codes
no_codes = record { last = 0; greatest = 0 }

-- how IF compares a code with its number
abbrev pub compares : Comparison → ℕ → ℕ → Bool
compares Equal code number = code == number
compares NotEqual code number = not (code == number)
compares Greater code number = nat_lt number code
compares Less code number = nat_lt code number
compares NotLess code number = nat_le number code
compares NotGreater code number = nat_le code number

-- the code that IF tests
abbrev pub code_for : CodeVariable → Codes → ℕ
code_for LastCode codes = codes.last
code_for MaxCode codes = codes.greatest

-- whether what IF tests holds
abbrev pub holds : Condition → Codes → Bool
holds condition codes =
    compares condition.comparison (code_for condition.variable codes) condition.number

-- a command ended with this code: it is the last, and the greatest where it is above it
abbrev pub with_code : ℕ → Codes → Codes
with_code code codes = record { last = code; greatest = max codes.greatest code }

-- SET LASTCC counts as a command that ended with the code; SET MAXCC leaves LASTCC
abbrev pub set_to : CodeVariable → ℕ → Codes → Codes
set_to LastCode code codes = with_code code codes
set_to MaxCode code codes = record { last = codes.last; greatest = code }

-- what SET makes of the codes: a number above 16 counts as 16
abbrev pub set_by : Setting → Codes → Codes
set_by setting codes = set_to setting.variable (min setting.code 16) codes

-- a SET to 16 ends the commands of the step
abbrev pub ends : Setting → Bool
ends setting = nat_le 16 setting.code
