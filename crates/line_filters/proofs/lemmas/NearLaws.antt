-- Bytes that are copied in chunks, and the near lines.
use Rattle.std.proofs.Common.{◌≡◌, ℕ, ◌+◌, ◌-◌, ◌<◌, ◌≤◌, Bool, true, false, eqb, List, [], ◌∷◌}
use Rattle.std.proofs.Common.{◌++◌, length, take, drop, Option, Some, None, refl, ap, ◌∙◌, sym}
use Rattle.std.proofs.Common.{subst, arith, append_assoc}
use Rattle.std.specs.Prelude.{IfOk, IfSome, MatchOption}
use Rattle.std.specs.declared.result.Result.{Result}
use Rattle.std.specs.declared.result.Result.TheVariants.{Ok, Err}
use Rattle.std.specs.List.{All, flat_map}
use Rattle.std.proofs.lemmas.List.{drop-drop, drop-take, length-take, length-drop, take-take}
use Rattle.std.proofs.lemmas.List.{take-append-drop}
use Rattle.std.proofs.Math.ListN.{drop_of_length-le}
use Rattle.lanes.specs.inner.Walks.{Course}
use Rattle.std.proofs.lemmas.Bool.{eqb-true}
use Rattle.std.proofs.Math.Seq.{take-add, take-append-add}
use Rattle.machine.specs.Lines.{lines, led, content, newline}
use Rattle.machine.specs.inner.Places.{FirstFrom}
use Rattle.line_filters.specs.ByLine.{MakesLines}
use Rattle.line_filters.specs.inner.Walked.{Walked}
use Rattle.line_filters.proofs.lemmas.LineLaws.{walked_more, walked_none}

-- the first bytes of what was copied
pub copied_some : (old bytes new : List ℕ) (to whole count : ℕ) → to ≤ length old → count ≤ whole
    → take (to + whole) new ≡ take to old ++ take whole bytes
    → take (to + count) new ≡ take to old ++ take count bytes
copied_some old bytes new to whole count within few copied =
    let n : to + count ≡ length (take to old) + count = omega (arith, within, length-take to old) in
    sym (take-take (to + count) (to + whole) new (omega (arith, few)))
    ∙ (ap (take (to + count)) copied
    ∙ (ap (λ (k : ℕ). take k (take to old ++ take whole bytes)) n
    ∙ (take-append-add (take to old) (take whole bytes) count
    ∙ ap (λ (x : List ℕ). take to old ++ x) (take-take count whole bytes few))))

-- two chunks
pub copied_two : (old bytes mid new : List ℕ) (to start : ℕ)
    → take (to + 64) mid ≡ take to old ++ take 64 (drop start bytes)
    → take (to + 64 + 64) new ≡ take (to + 64) mid ++ take 64 (drop (start + 64) bytes)
    → take (to + 128) new ≡ take to old ++ take 128 (drop start bytes)
copied_two old bytes mid new to start e f =
    let n : to + 128 ≡ to + 64 + 64 = omega arith in
    ap (λ (k : ℕ). take k new) n
    ∙ (f
    ∙ (ap (λ (x : List ℕ). x ++ take 64 (drop (start + 64) bytes)) e
    ∙ (append_assoc (take to old) (take 64 (drop start bytes)) (take 64 (drop (start + 64) bytes))
    ∙ ap (λ (x : List ℕ). take to old ++ x)
    (ap (λ (x : List ℕ). take 64 (drop start bytes) ++ take 64 x)
    (sym (drop-drop 64 start bytes)) ∙ sym (take-add 64 64 (drop start bytes))))))

-- a part of the first bytes
pub part_of_first : (bytes : List ℕ) (start end len : ℕ) → start ≤ end → end ≤ len
    → take (end - start) (drop start bytes) ≡ take (end - start) (drop start (take len bytes))
part_of_first bytes start end len order within =
    let n : start + (len - start) ≡ len = omega (arith, order, within) in
    sym (ap (take (end - start)) (ap (λ (k : ℕ). drop start (take k bytes)) (sym n)
    ∙ drop-take start (len - start) bytes)
    ∙ take-take (end - start) (len - start) (drop start bytes) (omega (arith, within)))

-- a place among the first bytes is one of all bytes
pub first_more : (bytes : List ℕ) (d n k : ℕ) → n ≤ length bytes → FirstFrom (take n bytes) d 0 k
    → FirstFrom bytes d 0 k
first_more bytes d n k within f =
    let low : k < n = omega (arith, f.within, length-take n bytes) in
    let z : k - 0 ≡ k = omega arith in
    let m = n - (k + 1) in
    let e : n ≡ k + 1 + m = omega (arith, low) in
    let front : take (k - 0) (take n bytes) ≡ take (k - 0) bytes =
    take-take (k - 0) n bytes (omega (arith, low)) in
    let rest : drop (k + 1) (take n bytes) ++ drop n bytes ≡ drop (k + 1) bytes =
    ap (λ (j : ℕ). drop (k + 1) (take j bytes) ++ drop j bytes) e
    ∙ (ap (λ (x : List ℕ). x ++ drop (k + 1 + m) bytes) (drop-take (k + 1) m bytes)
    ∙ (ap (λ (x : List ℕ). take m (drop (k + 1) bytes) ++ x) (sym (drop-drop m (k + 1) bytes))
    ∙ take-append-drop m (drop (k + 1) bytes))) in
    record {
      after = f.after;
      within = omega (arith, low, within);
      none_before = subst (λ (x : List ℕ). All (λ y. eqb y d ≡ false) x) front f.none_before;
      here =
          sym (take-append-drop n bytes)
          ∙ (ap (λ (x : List ℕ). x ++ drop n bytes) f.here
          ∙ (append_assoc (take (k - 0) (take n bytes)) (d ∷ drop (k + 1) (take n bytes))
          (drop n bytes)
          ∙ (ap (λ (x : List ℕ). x ++ (d ∷ (drop (k + 1) (take n bytes) ++ drop n bytes))) front
          ∙ ap (λ (x : List ℕ). take (k - 0) bytes ++ (d ∷ x)) rest)));
    }

-- the end of a near line, as a walk over the first bytes finds it
pub near_found : (w : Course) (bytes : List ℕ) (d n : ℕ) (r : Option ℕ) (new : Course)
    → n ≤ length bytes → w ≡ record { bytes = take n bytes; byte = d; from = 0 }
    → MatchOption r (All (λ x. eqb x w.byte ≡ false) (drop w.from w.bytes) × (new ≡ w))
    (λ place. FirstFrom w.bytes w.byte w.from place × (new ≡ record w { from = place + 1 }))
    → IfSome r (λ end. FirstFrom bytes d 0 end × (end < n))
near_found w bytes d n None new within e h = tt
near_found w bytes d n (Some end) new within e h =
    let f : FirstFrom (take n bytes) d 0 end =
    subst (λ (v : Course). FirstFrom v.bytes v.byte v.from end) e h.0 in
    (first_more bytes d n end within f, omega (arith, f.within, length-take n bytes))

pub no_bytes : (xs : List ℕ) (empty : Bool) → empty ≡ eqb (length xs) 0 → empty ≡ true → xs ≡ []
no_bytes [] empty e t = refl
no_bytes (x ∷ xs) empty e t =
    let n : length (x ∷ xs) ≡ 0 = eqb-true (length (x ∷ xs)) 0 (sym e ∙ t) in
    absurd (omega (arith, n))

-- lines after lines
pub walked_on : (of_line : List ℕ → List ℕ) (p p1 p2 bytes : List ℕ) (at k : ℕ)
    (made made1 made2 : List ℕ) → Walked of_line p p1 bytes at made made1
    → Walked of_line p1 p2 (drop at bytes) k made1 made2
    → Walked of_line p p2 bytes (at + k) made made2
walked_on of_line p p1 p2 bytes at k made made1 made2 v w =
    record {
      within = omega (arith, v.within, w.within, length-drop at bytes);
      splits = λ zs.
          let n : k + at ≡ at + k = omega arith in
          v.splits zs
          ∙ (w.splits zs
          ∙ ap (λ (x : List ℕ). made2 ++ flat_map of_line (led p2 (lines (x ++ zs))))
          (drop-drop k at bytes));
    }

-- a near line was put together after others
pub near_more : (of_content : List ℕ → List ℕ) (bytes rest : List ℕ) (at end : ℕ)
    (made made1 made2 front back : List ℕ)
    → Walked (λ l. of_content (content l)) [] [] bytes at made made1 → rest ≡ drop at bytes
    → FirstFrom rest newline 0 end → made2 ++ front ≡ made1
    → back ≡ front ++ of_content (take end rest)
    → Walked (λ l. of_content (content l)) [] [] bytes (at + (end + 1)) made (made2 ++ back)
near_more of_content bytes rest at end made made1 made2 front back w r f e b =
    let z : end ≡ end - 0 = omega arith in
    let line : made2 ++ back ≡ made1 ++ of_content (take (end - 0) rest) =
    ap (λ (x : List ℕ). made2 ++ x) b
    ∙ (sym (append_assoc made2 front (of_content (take end rest)))
    ∙ (ap (λ (x : List ℕ). x ++ of_content (take end rest)) e
    ∙ ap (λ (k : ℕ). made1 ++ of_content (take k rest)) z)) in
    walked_on (λ l. of_content (content l)) [] [] [] bytes at (end + 1) made made1 (made2 ++ back) w
    (subst (λ (x : List ℕ). Walked (λ l. of_content (content l)) [] [] x (end + 1) made1
    (made2 ++ back)) r
    (walked_more of_content [] [] [] rest 0 end made1 made1 (made2 ++ back)
    (walked_none (λ l. of_content (content l)) [] rest made1) f line refl))

-- all that was put together is put out
pub near_out : {E : Type 0} (of_line : List ℕ → List ℕ) (bytes : List ℕ) (at : ℕ)
    (made made1 made2 front : List ℕ) (r : Result ℕ E)
    → IfOk r (λ place. (place ≡ at) × (made2 ≡ made1 ++ front))
    → Walked of_line [] [] bytes at made (made1 ++ front)
    → IfOk r (λ count. Walked of_line [] [] bytes count made made2)
near_out of_line bytes at made made1 made2 front (Err e) h w = tt
near_out of_line bytes at made made1 made2 front (Ok place) h w =
    subst (λ (k : ℕ). Walked of_line [] [] bytes k made made2) (sym h.0)
    (subst (λ (m : List ℕ). Walked of_line [] [] bytes at made m) (sym h.1) w)

pub walked_over : (of_line : List ℕ → List ℕ) (p p1 bytes : List ℕ) (at : ℕ) (made made1 : List ℕ)
    → Walked of_line p p1 bytes at made made1 → length bytes ≤ at
    → MakesLines of_line p p1 bytes made made1
walked_over of_line p p1 bytes at made made1 w over =
    record {
      splits = λ zs. w.splits zs
          ∙ ap (λ (x : List ℕ). made1 ++ flat_map of_line (led p1 (lines (x ++ zs))))
          (drop_of_length-le bytes over);
    }
