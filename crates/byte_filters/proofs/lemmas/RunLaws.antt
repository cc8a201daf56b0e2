-- A run of bytes that neither end the line nor move the column in their own way, taken at once.
use Rattle.std.proofs.Common.{◌≡◌, ℕ, zero, suc, ◌+◌, ◌≤◌, List, [], ◌∷◌, Bool, true, false}
use Rattle.std.proofs.Common.{cond, get_or, drop, length, refl, ap, ◌∙◌, sym, arith, eqb}
use Rattle.std.proofs.Common.{length-drop}
use Rattle.std.specs.Prelude.{◌&&◌, ◌||◌, not}
use Rattle.std.specs.List.{prefix_len}
use Rattle.std.proofs.lemmas.List.{drop-drop, get_or-drop}
use Rattle.machine.specs.Lines.{newline}
use Rattle.command_words.specs.Bytes.{is_blank_byte}
use Rattle.commands.specs.declared.fold_words.FoldForm.{FoldForm}
use Rattle.byte_filters.specs.declared.segment.Scan.{Scan}
use Rattle.commands.specs.Fold.{is_back, is_break, last_break}
use Rattle.byte_filters.specs.inner.Scans.{is_even, is_inside, is_mover, past_blank, scanned}
use Rattle.byte_filters.proofs.lemmas.EvenLaws.{one_even, one_on}
use Rattle.byte_filters.proofs.lemmas.SkipLaws.{fewer, first_plain}

-- ---- one byte of a run

even_by : (b n t i k : Bool) → not (n || (t || (i || k))) ≡ true → (b || not (i || t || k)) ≡ true
even_by true n t i k h = refl
even_by false true t i k h = absurd (cc)
even_by false false true i k h = absurd (cc)
even_by false false false true k h = absurd (cc)
even_by false false false false true h = absurd (cc)
even_by false false false false false h = refl

run_even : (spec : FoldForm) (x : ℕ) → not (is_mover x) ≡ true → is_even spec x ≡ true
run_even spec x h = even_by spec.bytes (eqb x newline) (eqb x 9) (eqb x 8) (eqb x 13) h

inside_by : (n rest : Bool) → not (n || rest) ≡ true → not n ≡ true
inside_by true rest h = absurd (cc)
inside_by false rest h = refl

run_inside : (x : ℕ) → not (is_mover x) ≡ true → is_inside x ≡ true
run_inside x h = inside_by (eqb x newline) (eqb x 9 || is_back x) h

back_by : (n t k : Bool) → not (n || (t || k)) ≡ true → not k ≡ true
back_by true t k h = absurd (cc)
back_by false true k h = absurd (cc)
back_by false false true h = absurd (cc)
back_by false false false h = refl

no_back : (x : ℕ) → not (is_mover x) ≡ true → not (is_back x) ≡ true
no_back x h = back_by (eqb x newline) (eqb x 9) (is_back x) h

both_by : (b c d : Bool) → d ≡ true → (b && (c || d)) ≡ b
both_by true true d h = refl
both_by true false d h = h
both_by false c d h = refl

-- a line may be cut after a blank that such a byte follows
run_break : (spec : FoldForm) (last x : ℕ) (xs : List ℕ) → spec.spaces ≡ true
    → not (is_mover x) ≡ true → is_break spec last (x ∷ xs) ≡ is_blank_byte last
run_break spec last x xs spaces h =
    ap (λ (b : Bool). b && (is_blank_byte last && (spec.bytes || not (is_back x)))) spaces
    ∙ both_by (is_blank_byte last) spec.bytes (not (is_back x)) (no_back x h)

-- ---- the last blank

pub blank_run : (n : ℕ) (spec : FoldForm) (found at last : ℕ) (xs : List ℕ) → spec.spaces ≡ true
    → n ≤ prefix_len (λ x. not (is_mover x)) xs
    → past_blank found at n (last ∷ xs) ≡ last_break spec found at n (last ∷ xs)
blank_run zero spec found at last xs spaces h = refl
blank_run (suc n) spec found at last [] spaces h = absurd (omega arith)
blank_run (suc n) spec found at last (x ∷ xs) spaces h =
    let more = prefix_len (λ y. not (is_mover y)) xs in
    let here = first_plain (not (is_mover x)) n more h in
    ap (λ (b : Bool). past_blank (cond b (at + 1) found) (at + 1) n (x ∷ xs))
    (sym (run_break spec last x xs spaces here))
    ∙ blank_run n spec (cond (is_break spec last (x ∷ xs)) (at + 1) found) (at + 1) x xs spaces
    (fewer (not (is_mover x)) n more h)

-- ---- many bytes

-- the last of n bytes, or `last` if there is none
abbrev last_at : ℕ → ℕ → List ℕ → ℕ
last_at zero last xs = last
last_at (suc n) last [] = last
last_at (suc n) last (x ∷ xs) = last_at n x xs

-- what is known once n more are there
abbrev pub ahead : ℕ → Scan → ℕ → ℕ → Scan
ahead n s last found = record {
  column = s.column + n;
  over = false;
  last = last;
  at = s.at + n;
  found =
      found;
}

none_ahead : (s : Scan) → s.over ≡ false → s ≡ ahead 0 s s.last s.found
none_ahead s over =
    let c : s.column ≡ s.column + 0 = omega arith in
    let a : s.at ≡ s.at + 0 = omega arith in
    ap (λ (b : Bool). record {
      column = s.column;
      over = b;
      last = s.last;
      at = s.at;
      found =
          s.found;
    }) over
    ∙ (ap (λ (n : ℕ). record {
      column = n;
      over = false;
      last = s.last;
      at = s.at;
      found =
          s.found;
    }) c
    ∙ ap (λ (n : ℕ). record {
      column = s.column + 0;
      over = false;
      last = s.last;
      at = n;
      found =
          s.found;
    }) a)

further : (n : ℕ) (spec : FoldForm) (s : Scan) (x last found : ℕ)
    → ahead n (one_on spec s x) last found ≡ ahead (suc n) s last found
further n spec s x last found =
    let c : s.column + 1 + n ≡ s.column + suc n = omega arith in
    let a : s.at + 1 + n ≡ s.at + suc n = omega arith in
    ap (λ (k : ℕ). record {
      column = k;
      over = false;
      last = last;
      at = s.at + 1 + n;
      found =
          found;
    }) c
    ∙ ap (λ (k : ℕ). record {
      column = s.column + suc n;
      over = false;
      last = last;
      at = k;
      found =
          found;
    }) a

many_on : (n : ℕ) (spec : FoldForm) (s : Scan) (xs : List ℕ) → s.over ≡ false
    → n ≤ prefix_len (λ x. not (is_mover x)) xs → s.column + n ≤ spec.width
    → scanned spec s xs
    ≡ scanned spec
    (ahead n s (last_at n s.last xs) (last_break spec s.found s.at n (s.last ∷ xs))) (drop n xs)
many_on zero spec s xs over h fit = ap (λ (t : Scan). scanned spec t xs) (none_ahead s over)
many_on (suc n) spec s [] over h fit = absurd (omega arith)
many_on (suc n) spec s (x ∷ xs) over h fit =
    let more = prefix_len (λ y. not (is_mover y)) xs in
    let here = first_plain (not (is_mover x)) n more h in
    let t = one_on spec s x in
    one_even spec s x xs over (run_even spec x here) (run_inside x here) (omega arith)
    ∙ (many_on n spec t xs refl (fewer (not (is_mover x)) n more h) (omega arith)
    ∙ ap (λ (u : Scan). scanned spec u (drop n xs))
    (further n spec s x (last_at n x xs) (last_break spec t.found t.at n (x ∷ xs))))

last_is : (n last : ℕ) (xs : List ℕ) → suc n ≤ length xs → last_at (suc n) last xs ≡ get_or xs n 0
last_is n last [] h = absurd (omega arith)
last_is zero last (x ∷ xs) h = refl
last_is (suc n) last (x ∷ xs) h = last_is n x xs (omega arith)

-- n bytes are taken at once
pub run_taken : (n : ℕ) (spec : FoldForm) (s : Scan) (bytes : List ℕ) (found : ℕ) → 1 ≤ n
    → s.at + n + 1 ≤ length bytes → s.over ≡ false
    → n ≤ prefix_len (λ x. not (is_mover x)) (drop (s.at + 1) bytes)
    → s.column + n ≤ spec.width
    → found ≡ last_break spec s.found s.at n (s.last ∷ drop (s.at + 1) bytes)
    → scanned spec (ahead n s (get_or bytes (s.at + n) 0) found) (drop (s.at + n + 1) bytes)
    ≡ scanned spec s (drop (s.at + 1) bytes)
run_taken zero spec s bytes found some within over h fit is = absurd (omega arith)
run_taken (suc n) spec s bytes found some within over h fit is =
    let xs = drop (s.at + 1) bytes in
    let long = length-drop (s.at + 1) bytes in
    let here : last_at (suc n) s.last xs ≡ get_or bytes (s.at + suc n) 0 =
    last_is n s.last xs (omega arith)
    ∙ (get_or-drop (s.at + 1) bytes n 0
    ∙ ap (λ (k : ℕ). get_or bytes k 0) (let e : s.at + 1 + n ≡ s.at + suc n = omega arith in
    e)) in
    let after : drop (suc n) xs ≡ drop (s.at + suc n + 1) bytes = drop-drop (suc n) (s.at + 1) bytes
    ∙ ap (λ (k : ℕ). drop k bytes) (let e : s.at + 1 + suc n ≡ s.at + suc n + 1 = omega arith in
    e) in
    let cut = last_break spec s.found s.at (suc n) (s.last ∷ xs) in
    sym (many_on (suc n) spec s xs over h fit
    ∙ (ap (λ (l : ℕ). scanned spec (ahead (suc n) s l cut) (drop (suc n) xs)) here
    ∙ (ap (λ (f : ℕ). scanned spec (ahead (suc n) s (get_or bytes (s.at + suc n) 0) f)
    (drop (suc n) xs)) (sym is)
    ∙ ap (scanned spec (ahead (suc n) s (get_or bytes (s.at + suc n) 0) found)) after)))
