-- What wc needs of an input if it counts bytes alone: how many there are.
use Rattle.std.specs.Prelude.{◌≡◌, ℕ, List, [], ◌∷◌, Some, false, length}
use Rattle.commands.specs.declared.wc_words.WcSpec.{WcSpec}
use Rattle.commands.specs.Wc.{wc_whole}

-- neither newlines nor words are counted
abbrev pub CountsBytesAlone : WcSpec → Type 0
CountsBytesAlone spec = (spec.lines ≡ false) × (spec.words ≡ false)

-- Then wc writes the same for two inputs with the same number of bytes.
abbrev pub BytesNeedOnlyALength : Type 0
BytesNeedOnlyALength = (spec : WcSpec) (one other : List ℕ) → CountsBytesAlone spec
    → length one ≡ length other → wc_whole spec (Some one ∷ []) ≡ wc_whole spec (Some other ∷ [])
