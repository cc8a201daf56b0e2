-- All filters: what the words of a command mean by its utility, and what each makes of whole inputs
-- (POSIX.1-2017 XCU, the pages of the utilities).
use Rattle.std.specs.Prelude.{ℕ, Bool, true, false, List, [], ◌∷◌, Option, Some, None, length, max}
use Rattle.std.specs.Prelude.{codes, bytes_eq, if◌then◌else◌}
use Rattle.machine.specs.Whole.{WholeAnswer}
use Rattle.command_words.specs.Texts.{◌>>=◌}
use Rattle.commands.specs.Wc.{wc_whole}
use Rattle.commands.specs.FoldWords.{fold_means}
use Rattle.commands.specs.Fold.{fold_whole}
use Rattle.tr_words.specs.TrWords.{tr_means}
use Rattle.tr_words.specs.Tr.{tr_whole}
use Rattle.commands.specs.WcWords.{wc_means}
use Rattle.commands.specs.Cut.{cut_whole}
use Rattle.commands.specs.Head.{head_whole}
use Rattle.commands.specs.CutWords.{cut_means}
use Rattle.commands.specs.HeadWords.{head_means}
use Rattle.commands.specs.TailWords.{tail_means}
use Rattle.commands.specs.Tail.{tail_whole}
use Rattle.commands.specs.PasteWords.{paste_means}
use Rattle.commands.specs.Paste.{paste_whole}
use Rattle.commands.specs.Uniq.{uniq_whole}
use Rattle.commands.specs.UniqWords.{uniq_means}
use Rattle.commands.specs.Cat.{cat_whole}
use Rattle.commands.specs.CatWords.{cat_means}
use Rattle.commands.specs.TeeWords.{tee_means}
use Rattle.commands.specs.declared.spec.FilterSpec.{FilterSpec}
use Rattle.commands.specs.declared.spec.FilterSpec.TheVariants as spec

-- what the words after this name mean
abbrev pub filter_by_name : List ℕ → List (List ℕ) → Option FilterSpec
filter_by_name name words =
    if bytes_eq name (codes "cat") then (cat_means words >>= λ s. Some (spec.Cat s))
    else (if bytes_eq name (codes "cut") then (cut_means words >>= λ s. Some (spec.Cut s))
    else (if bytes_eq name (codes "fold") then (fold_means words >>= λ s. Some (spec.Fold s))
    else (if bytes_eq name (codes "head") then (head_means words >>= λ s. Some (spec.Head s))
    else (if bytes_eq name (codes "paste") then (paste_means words >>= λ s. Some (spec.Paste s))
    else (if bytes_eq name (codes "tail") then (tail_means words >>= λ s. Some (spec.Tail s))
    else (if bytes_eq name (codes "tee") then (tee_means words >>= λ s. Some (spec.Tee s))
    else (if bytes_eq name (codes "tr") then (tr_means words >>= λ s. Some (spec.Tr s))
    else (if bytes_eq name (codes "uniq") then (uniq_means words >>= λ s. Some (spec.Uniq s))
    else (if bytes_eq name (codes "wc") then (wc_means words >>= λ s. Some (spec.Wc s))
    else None)))))))))

-- what a command with these words means
abbrev pub filter_means : List (List ℕ) → Option FilterSpec
filter_means [] = None
filter_means (name ∷ words) = filter_by_name name words

-- the name of its utility
abbrev pub utility_name : FilterSpec → List ℕ
utility_name (spec.Cat s) = codes "cat"
utility_name (spec.Cut s) = codes "cut"
utility_name (spec.Fold s) = codes "fold"
utility_name (spec.Head s) = codes "head"
utility_name (spec.Paste s) = codes "paste"
utility_name (spec.Tail s) = codes "tail"
utility_name (spec.Tee s) = codes "tee"
utility_name (spec.Tr s) = codes "tr"
utility_name (spec.Uniq s) = codes "uniq"
utility_name (spec.Wc s) = codes "wc"

-- how many inputs it has
abbrev pub input_count : FilterSpec → ℕ
input_count (spec.Cat s) = length s.inputs
input_count (spec.Cut s) = length s.inputs
input_count (spec.Fold s) = length s.inputs
input_count (spec.Head s) = length s.inputs
input_count (spec.Paste s) = length s.inputs
input_count (spec.Tail s) = 1
input_count (spec.Tee s) = 1
input_count (spec.Tr s) = 1
input_count (spec.Uniq s) = 1
input_count (spec.Wc s) = max (length s.operands) 1

-- whether a list is empty
abbrev pub is_nothing : {A : Type 0} → List A → Bool
is_nothing [] = true
is_nothing (x ∷ xs) = false

-- what it makes of whole inputs
abbrev pub filter_whole : FilterSpec → WholeAnswer
filter_whole (spec.Cat s) = cat_whole
filter_whole (spec.Cut s) = cut_whole s.ranges s.parts
filter_whole (spec.Fold s) = fold_whole s.form
filter_whole (spec.Head s) = head_whole s.count s.inputs
filter_whole (spec.Paste s) = paste_whole s.delimiters s.is_serial s.columns
filter_whole (spec.Tail s) = tail_whole s.counted s.origin s.count
filter_whole (spec.Tee s) = cat_whole
filter_whole (spec.Tr s) = tr_whole s
filter_whole (spec.Uniq s) = uniq_whole s.skipped_fields s.skipped_bytes s.shown
filter_whole (spec.Wc s) = wc_whole s
