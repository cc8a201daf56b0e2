-- What wc writes if it counts bytes alone.
use Rattle.std.proofs.Common.{◌≡◌, ℕ, ◌+◌, Bool, List, [], ◌∷◌, ◌++◌, ap, ◌∙◌, sym}
use Rattle.std.specs.Prelude.{Some, codes, slice_get, if◌then◌else◌}
use Rattle.std.specs.List.{flat_map, sum_by}
use Rattle.std.proofs.lemmas.List.Sums.{sum_by-cons}
use Rattle.machine.specs.Whole.{Answer}
use Rattle.commands.specs.declared.wc_counts.Counts.{Counts}
use Rattle.commands.specs.declared.wc_words.WcSpec.{WcSpec}
use Rattle.commands.specs.Wc.{Tally, asked, counts_of, greatest, has_total, numbers, sums}
use Rattle.commands.specs.Wc.{written_line}
use Rattle.byte_filters.specs.WcNeeds.{BytesNeedOnlyALength, CountsBytesAlone}

-- the number of bytes is the only one
numbers_alone : (spec : WcSpec) (counts : Counts) → CountsBytesAlone spec
    → numbers spec counts ≡ asked spec.bytes counts.bytes
numbers_alone spec counts alone =
    ap (λ (b : Bool). asked b counts.lines
    ++ (asked spec.words counts.words ++ asked spec.bytes counts.bytes)) alone.0
    ∙ ap (λ (b : Bool). asked b counts.words ++ asked spec.bytes counts.bytes) alone.1

same_numbers : (spec : WcSpec) (one other : Counts) → CountsBytesAlone spec
    → one.bytes ≡ other.bytes → numbers spec one ≡ numbers spec other
same_numbers spec one other alone e = numbers_alone spec one alone
    ∙ (ap (asked spec.bytes) e ∙ sym (numbers_alone spec other alone))

abbrev bytes_in : List ℕ → ℕ
bytes_in x = (counts_of x).bytes

same_sums : (one other : List ℕ) → bytes_in one ≡ bytes_in other
    → (sums (Some one ∷ [])).bytes ≡ (sums (Some other ∷ [])).bytes
same_sums one other e = sum_by-cons bytes_in one []
    ∙ (ap (λ (n : ℕ). n + sum_by bytes_in []) e ∙ sym (sum_by-cons bytes_in other []))

-- the answer to one input, by its numbers and those of the sums
abbrev tallies_by : WcSpec → List ℕ → List ℕ → List Tally
tallies_by spec own all = (slice_get spec.operands 0, own)
    ∷ (if has_total spec then (Some (codes "total"), all) ∷ [] else [])

abbrev answer_by : WcSpec → List ℕ → List ℕ → Answer
answer_by spec own all =
    record {
      out = flat_map written_line (tallies_by spec own all);
      count = greatest (flat_map (λ (t : Tally). t.1) (tallies_by spec own all));
    }

-- wc of two inputs of as many bytes
pub bytes_need_a_length : BytesNeedOnlyALength
bytes_need_a_length spec one other alone e =
    let same : bytes_in one ≡ bytes_in other = ap (λ (n : ℕ). 0 + n) e in
    let own = same_numbers spec (counts_of one) (counts_of other) alone same in
    let all = same_numbers spec (sums (Some one ∷ [])) (sums (Some other ∷ [])) alone
    (same_sums one other same) in
    ap (λ (ns : List ℕ). answer_by spec ns (numbers spec (sums (Some one ∷ [])))) own
    ∙ ap (answer_by spec (numbers spec (counts_of other))) all
