-- How lines are held.
use Rattle.vr_text.specs.declared.lines.NumberedLine.{NumberedLine}
use Rattle.vr_text.specs.Lines.{Line}

-- a line as it is held
abbrev pub line_of : NumberedLine → Line
line_of line = record { number = line.number; text = line.text.now }
