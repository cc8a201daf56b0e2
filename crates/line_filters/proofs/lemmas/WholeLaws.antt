-- Lines without the delimiter, which cut -f writes whole or leaves out.
use Rattle.std.proofs.Common.{◌≡◌, ℕ, ◌+◌, ◌-◌, ◌<◌, ◌≤◌, Bool, true, false, cond, eqb, List, []}
use Rattle.std.proofs.Common.{◌∷◌, ◌++◌, length, get_or, take, drop, min, refl, ap, ◌∙◌, sym, subst}
use Rattle.std.proofs.Common.{arith, append_assoc}
use Rattle.std.specs.Prelude.{Option, Some, None, MatchOption}
use Rattle.std.specs.List.{All, flat_map}
use Rattle.std.proofs.lemmas.Bool.{eqb-true}
use Rattle.std.proofs.lemmas.List.Elements.{All-append, All-head, All-tail, All-take}
use Rattle.std.proofs.lemmas.List.Elements.{All-from_get_or}
use Rattle.std.proofs.Math.Seq.{take-add}
use Rattle.std.proofs.lemmas.List.{take-append-drop, take-take, drop-drop, drop_more}
use Rattle.machine.specs.Lines.{lines, led, content, newline}
use Rattle.machine.proofs.LinesLaws.{lines-open, led-led, led-cons, content-whole}
use Rattle.lanes.specs.inner.Walks.{Course, Sought, IsOneOfSeveral}
use Rattle.commands.specs.declared.cut_words.Parts.TheVariants.{Fields}
use Rattle.commands.specs.Cut.{cut_content, cut_line}
use Rattle.line_filters.proofs.lemmas.CutLaws.{none_put}
use Rattle.line_filters.specs.inner.Walked.{Walked}

abbrev IsWithout : ℕ → List ℕ → Type 0
IsWithout d xs = All (λ x. eqb x d ≡ false) xs

nothing : (d : ℕ) → IsWithout d []
nothing d = All-from_get_or (λ x. eqb x d ≡ false) [] 0 (λ k h. absurd (omega (arith, h)))

one_byte : (d x : ℕ) → eqb x d ≡ false → IsWithout d (x ∷ [])
one_byte d x e =
    All-from_get_or (λ y. eqb y d ≡ false) (x ∷ []) 0 (λ k h.
    let first : 0 ≡ k = omega (arith, h) in
    subst (λ (j : ℕ). eqb (get_or (x ∷ []) j 0) d ≡ false) first e)

abbrev of_lines : (ℕ → Bool) → ℕ → Bool → List (List ℕ) → List ℕ
of_lines s d only ls = flat_map (λ (l : List ℕ). cut_content s (Fields d only) (content l)) ls

kept_two : (only : Bool) (xs ys later : List ℕ)
    → cond only [] xs ++ (cond only [] ys ++ later) ≡ cond only [] (xs ++ ys) ++ later
kept_two true xs ys later = refl
kept_two false xs ys later = sym (append_assoc xs ys later)

-- a line that ends
of_first : (s : ℕ → Bool) (d : ℕ) (only : Bool) (p : List ℕ) (ls : List (List ℕ)) → IsWithout d p
    → of_lines s d only (led p ((newline ∷ []) ∷ ls))
    ≡ cond only [] (p ++ newline ∷ []) ++ of_lines s d only ls
of_first s d only p ls none =
    ap (of_lines s d only) (led-cons p (newline ∷ []) ls)
    ∙ (ap (λ (x : List ℕ). cut_content s (Fields d only) x ++ of_lines s d only ls)
    (content-whole p)
    ∙ ap (λ (x : List ℕ). x ++ of_lines s d only ls)
    (sym (none_put s d only p [] (cond only [] (p ++ newline ∷ [])) none refl)))

-- whole lines after the byte x, if the lines after it are known
whole_line_by : (s : ℕ → Bool) (d : ℕ) (only : Bool) (p : List ℕ) (x : ℕ) (front zs : List ℕ)
    (b : Bool) → eqb x newline ≡ b → IsWithout d p
    → of_lines s d only (lines (front ++ newline ∷ zs))
    ≡ cond only [] (front ++ newline ∷ []) ++ of_lines s d only (lines zs)
    → (eqb x newline ≡ false → of_lines s d only (led (p ++ x ∷ []) (lines (front ++ newline ∷ zs)))
    ≡ cond only [] ((p ++ x ∷ []) ++ (front ++ newline ∷ [])) ++ of_lines s d only (lines zs))
    → of_lines s d only (led p (lines (x ∷ front ++ newline ∷ zs)))
    ≡ cond only [] (p ++ (x ∷ (front ++ newline ∷ []))) ++ of_lines s d only (lines zs)
whole_line_by s d only p x front zs true e none whole more =
    let later = front ++ newline ∷ zs in
    let after = of_lines s d only (lines zs) in
    let n : x ≡ newline = eqb-true x newline e in
    ap (λ (y : ℕ). of_lines s d only (led p (lines (y ∷ later)))) n
    ∙ (of_first s d only p (lines later) none
    ∙ (ap (λ (y : List ℕ). cond only [] (p ++ newline ∷ []) ++ y) whole
    ∙ (kept_two only (p ++ newline ∷ []) (front ++ newline ∷ []) after
    ∙ (ap (λ (y : List ℕ). cond only [] y ++ after)
    (append_assoc p (newline ∷ []) (front ++ newline ∷ []))
    ∙ ap (λ (y : ℕ). cond only [] (p ++ (y ∷ (front ++ newline ∷ []))) ++ after) (sym n)))))
whole_line_by s d only p x front zs false e none whole more =
    let later = front ++ newline ∷ zs in
    let after = of_lines s d only (lines zs) in
    ap (λ (ls : List (List ℕ)). of_lines s d only (led p ls))
    (lines-open (x ∷ []) later (one_byte newline x e))
    ∙ (ap (of_lines s d only) (led-led p (x ∷ []) (lines later))
    ∙ (more e
    ∙ ap (λ (y : List ℕ). cond only [] y ++ after)
    (append_assoc p (x ∷ []) (front ++ newline ∷ []))))

-- whole lines; the first of them begins with `p`
pub whole_lines : (s : ℕ → Bool) (d : ℕ) (only : Bool) (p front zs : List ℕ) → IsWithout d p
    → IsWithout d (front ++ newline ∷ [])
    → of_lines s d only (led p (lines (front ++ newline ∷ zs)))
    ≡ cond only [] (p ++ (front ++ newline ∷ [])) ++ of_lines s d only (lines zs)
whole_lines s d only p [] zs none all = of_first s d only p (lines zs) none
whole_lines s d only p (x ∷ front) zs none all =
    let first = All-head (λ y. eqb y d ≡ false) x (front ++ newline ∷ []) all in
    let rest = All-tail (λ y. eqb y d ≡ false) x (front ++ newline ∷ []) all in
    whole_line_by s d only p x front zs (eqb x newline) refl none
    (whole_lines s d only [] front zs (nothing d) rest)
    (λ e. whole_lines s d only (p ++ x ∷ []) front zs
    (All-append (λ y. eqb y d ≡ false) p (x ∷ []) none (one_byte d x first)) rest)

-- the lines up to a newline are taken
whole_taken : (s : ℕ → Bool) (d : ℕ) (only : Bool) (partial partial1 bytes : List ℕ) (at place : ℕ)
    (made made1 made2 : List ℕ)
    → Walked (cut_line s (Fields d only)) partial partial1 bytes at made made1 → partial1 ≡ []
    → at ≤ place → place < length bytes → eqb (get_or bytes place 0) newline ≡ true
    → IsWithout d (take (place + 1 - at) (drop at bytes))
    → made2 ≡ made1 ++ cond only [] (take (place + 1 - at) (drop at bytes))
    → Walked (cut_line s (Fields d only)) partial partial1 bytes (place + 1) made made2
whole_taken s d only partial partial1 bytes at place made made1 made2 w none after within here all
    e =
    let front = take (place - at) (drop at bytes) in
    let n : at + (place - at) ≡ place = omega (arith, after) in
    let m : place - at + 1 ≡ place + 1 - at = omega (arith, after) in
    let rest : drop (place - at) (drop at bytes) ≡ newline ∷ drop (place + 1) bytes =
    drop-drop (place - at) at bytes
    ∙ (ap (λ (j : ℕ). drop j bytes) n
    ∙ (drop_more bytes place 0 within
    ∙ ap (λ (x : ℕ). x ∷ drop (place + 1) bytes)
    (eqb-true (get_or bytes place 0) newline here))) in
    let whole : drop at bytes ≡ front ++ newline ∷ drop (place + 1) bytes =
    sym (take-append-drop (place - at) (drop at bytes))
    ∙ ap (λ (x : List ℕ). front ++ x) rest in
    let part : take (place + 1 - at) (drop at bytes) ≡ front ++ newline ∷ [] =
    ap (λ (j : ℕ). take j (drop at bytes)) (sym m)
    ∙ (take-add (place - at) 1 (drop at bytes) ∙ ap (λ (x : List ℕ). front ++ take 1 x) rest) in
    record {
      within = omega arith;
      splits = λ zs.
          let later = of_lines s d only (lines (drop (place + 1) bytes ++ zs)) in
          let put = cond only [] (front ++ newline ∷ []) in
          w.splits zs
          ∙ (ap (λ (p : List ℕ). made1 ++ of_lines s d only (led p (lines (drop at bytes ++ zs))))
          none
          ∙ (ap (λ (x : List ℕ). made1 ++ of_lines s d only (lines (x ++ zs))) whole
          ∙ (ap (λ (x : List ℕ). made1 ++ of_lines s d only (lines x))
          (append_assoc front (newline ∷ drop (place + 1) bytes) zs)
          ∙ (ap (λ (x : List ℕ). made1 ++ x)
          (whole_lines s d only [] front (drop (place + 1) bytes ++ zs) (nothing d)
          (subst (λ (x : List ℕ). IsWithout d x) part all))
          ∙ (sym (append_assoc made1 put later)
          ∙ (ap (λ (x : List ℕ). (made1 ++ cond only [] x) ++ later) (sym part)
          ∙ (ap (λ (x : List ℕ). x ++ later) (sym e)
          ∙ ap (λ (p : List ℕ). made2 ++ of_lines s d only
          (led p (lines (drop (place + 1) bytes ++ zs)))) (sym none))))))));
    }

-- the same if a walk over the newlines passed several
pub whole_on : (s : ℕ → Bool) (d : ℕ) (only : Bool) (partial partial1 bytes : List ℕ)
    (ends : Course) (at place : ℕ) (made made1 made2 : List ℕ)
    → Walked (cut_line s (Fields d only)) partial partial1 bytes at made made1 → partial1 ≡ []
    → ends.bytes ≡ bytes → ends.byte ≡ newline → ends.from ≡ at → IsOneOfSeveral ends place
    → IsWithout d (take (place + 1 - at) (drop at bytes))
    → made2 ≡ made1 ++ cond only [] (take (place + 1 - at) (drop at bytes))
    → Walked (cut_line s (Fields d only)) partial partial1 bytes (place + 1) made made2
whole_on s d only partial partial1 bytes ends at place made made1 made2 w none b n f one all e =
    whole_taken s d only partial partial1 bytes at place made made1 made2 w none
    (omega (arith, f, one.after)) (omega (arith, one.within, ap length b))
    (ap (λ (x : List ℕ). eqb (get_or x place 0) newline) (sym b)
    ∙ (ap (λ (c : ℕ). eqb (get_or ends.bytes place 0) c) (sym n) ∙ one.here)) all e

-- the bytes up to the last of several places are without the delimiter, if the next 64 are
pub several_without : (old new : Course) (contents next : Sought) (at count len small : ℕ)
    (last : Option ℕ) → old.bytes ≡ contents.bytes → old.from ≡ at → length contents.bytes ≡ len
    → at ≤ len → small ≡ min (len - at) 64 → count ≡ at + small
    → next ≡ record { bytes = take (count - at) (drop at contents.bytes); byte = contents.byte }
    → IsWithout next.byte next.bytes
    → MatchOption last (new ≡ old) (λ place. IsOneOfSeveral old place
    × (new ≡ record old { from = place + 1 }))
    → MatchOption last (new ≡ old) (λ place. IsOneOfSeveral old place
    × (new ≡ record old { from = place + 1 })
    × IsWithout contents.byte (take (place + 1 - at) (drop at contents.bytes)))
several_without old new contents next at count len small None b f n after m c part none h = h
several_without old new contents next at count len small (Some place) b f n after m c part none h =
    let long : place + 1 - at ≤ count - at =
    omega (arith, h.0.near, h.0.within, ap length b, f, n, after, m, c) in
    let all : IsWithout contents.byte (take (count - at) (drop at contents.bytes)) =
    subst (λ (p : Sought). IsWithout p.byte p.bytes) part none in (
      h.0,
      h.1,
      subst (λ (x : List ℕ). IsWithout contents.byte x)
          (take-take (place + 1 - at) (count - at) (drop at contents.bytes) long)
          (All-take (λ y. eqb y contents.byte ≡ false) (place + 1 - at)
          (take (count - at) (drop at contents.bytes)) all),
    )

-- the same of the bytes that the parts are of
pub none_there : (contents : Sought) (bytes : List ℕ) (d at n : ℕ) → contents.bytes ≡ bytes
    → contents.byte ≡ d → IsWithout contents.byte (take n (drop at contents.bytes))
    → IsWithout d (take n (drop at bytes))
none_there contents bytes d at n b e h =
    subst (λ (x : List ℕ). IsWithout d (take n (drop at x))) b
    (subst (λ (c : ℕ). IsWithout c (take n (drop at contents.bytes))) e h)
