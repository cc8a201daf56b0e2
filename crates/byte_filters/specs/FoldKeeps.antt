-- What fold keeps of the input that it wants.
use Rattle.std.specs.Prelude.{ℕ}
use Rattle.machine.specs.Lines.{HasNoNewline}
use Rattle.byte_filters.specs.FoldCuts.{IsHalf}
use Rattle.byte_filters.specs.declared.fold.Fold.{Fold}

-- a fold keeps no more than a part of one line
abbrev pub FoldsKeepOneLine : Type 0
FoldsKeepOneLine = (m : Fold) → HasNoNewline m.held.items

-- the bytes that are kept begin with one segment, and it has at least half of them
abbrev pub KeepsTwoSegments : Fold → Type 0
KeepsTwoSegments m = (k : ℕ) × IsHalf m.spec m.held.items k

-- a fold keeps no more than twice as many bytes as such a segment has
abbrev pub FoldsKeepTwoSegments : Type 0
FoldsKeepTwoSegments = (m : Fold) → KeepsTwoSegments m
