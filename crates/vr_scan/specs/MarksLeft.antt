-- What a reader has left: the rest of its line, what stands at that line's end, and further lines.
use Rattle.std.specs.Prelude.{◌+◌, List, ◌++◌, length, drop}
use Rattle.vr_scan.specs.declared.mark.Mark.{Mark}
use Rattle.vr_scan.specs.declared.reader.Reader.{Reader}
use Rattle.vr_scan.specs.Mark.{characters, mark_at, marks_from}

abbrev pub marks_left : Reader → List Mark
marks_left reader =
    characters reader.number reader.column reader.text.now
    ++ (mark_at reader.ending reader.number (reader.column + length reader.text.now)
    ++ marks_from reader.joined (drop reader.next reader.lines.now))
