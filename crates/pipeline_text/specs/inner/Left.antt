-- What a scanner has left. No public contract cites this file.
use Rattle.std.specs.Prelude.{◌-◌, ℕ, List, Option, length}
use Rattle.pipeline_text.specs.declared.mark.Mark.{Mark}
use Rattle.pipeline_text.specs.declared.scanner.Scanner.{Scanner}
use Rattle.pipeline_text.specs.inner.Scans.{marks_from}

abbrev pub marks_left : Scanner → Option (List Mark)
marks_left s = marks_from s.place s.text.now s.position

abbrev pub bytes_left : Scanner → ℕ
bytes_left s = length s.text.now - s.position
